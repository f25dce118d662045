-- The first rule that a row fails, the walk over the rows, and what the code answers, in the model's words.
-- Assumes nothing.
use Rattle.std.specs.Prelude.{ℕ, true, false, cond, List, [], ◌∷◌, ltb, eqb, Option, Some, None, Result, Ok}
use Rattle.model.specs.Record as model
use Rattle.model.specs.Rows as rows
use Rattle.record_entries.specs.declared.walk.Row.{Row}
use Rattle.record_entries.specs.declared.walk.Configuration.{Configuration}
use Rattle.invariants.specs.declared.commit_safety.Rule.{Rule}
use Rattle.invariants.specs.declared.commit_safety.Failure.{Failure}
use Rattle.answers.specs.declared.answer.Accepted.{Accepted}
use Rattle.answers.specs.declared.answer.Refusal.{Refusal}

-- the model's configuration: zeros where it is absent
abbrev pub configuration_of : Option Configuration → model.Configuration
configuration_of None = record { present = false; index = 0; identity = 0 }
configuration_of (Some c) = record { present = true; index = c.index.0; identity = c.identity }

-- the model's row
abbrev pub row_of : Row → model.Row
row_of r =
    record {
      node = r.node.0;
      floor = r.floor.0;
      commit = r.commit.0;
      last = r.last.0;
      floor_configuration = configuration_of r.floor_configuration;
      actual_configuration = configuration_of r.actual_configuration;
    }

-- a row with these configurations: rules 2 and 3 look at nothing else of it
abbrev pub configured : Option Configuration → Option Configuration → model.Row
configured f a =
    record {
      node = 0;
      floor = 0;
      commit = 0;
      last = 0;
      floor_configuration = configuration_of f;
      actual_configuration = configuration_of a;
    }

-- in the place of a rule where none fails: it comes after all four
abbrev pub no_rule : ℕ
no_rule = 5

-- document 01's number of a rule
abbrev pub number : Rule → ℕ
number Rule.CommitMonotonicity = 1
number Rule.ConfigurationMonotonicity = 2
number Rule.ConfigurationIdentity = 3
number Rule.LogBounds = 4

-- the rule of a number
abbrev pub rule_of : ℕ → Rule
rule_of k =
    cond (eqb k 1) Rule.CommitMonotonicity (cond (eqb k 2) Rule.ConfigurationMonotonicity (cond (eqb k 3) Rule.ConfigurationIdentity Rule.LogBounds))

abbrev pub rank : Option Rule → ℕ
rank None = no_rule
rank (Some r) = number r

-- the rule that failed so far, and the node
abbrev pub least : Option Failure → ℕ
least None = no_rule
least (Some f) = number f.rule

abbrev pub node_in : Option Failure → ℕ
node_in None = 0
node_in (Some f) = f.node.0

-- the first rule that a row fails
unfoldable pub first_rule : model.Row → ℕ
first_rule r = cond (rows.rule1 r) 1 (cond (rows.rule2 r) 2 (cond (rows.rule3 r) 3 (cond (rows.rule4 r) 4 no_rule)))

-- the verdict where k is the least rule that failed, and n the first node that failed it: 0 and 0 where none failed
abbrev pub verdict_at : ℕ → ℕ → rows.Verdict
verdict_at k n = cond (eqb k no_rule) (record { rule = 0; node = 0 }) (record { rule = k; node = n })

-- the walk over the rows, where k is the least rule that failed before them, and n the first node that failed it
unfoldable pub least_from : ℕ → ℕ → List model.Row → rows.Verdict
least_from k n [] = verdict_at k n
least_from k n (r ∷ rs) = cond (ltb (first_rule r) k) (least_from (first_rule r) r.node rs) (least_from k n rs)

-- the model's verdict as the code answers it: rule 0 is none
abbrev pub verdict_for : rows.Verdict → Option Failure
verdict_for v = cond (eqb v.rule 0) None (Some (record { rule = rule_of v.rule; node = record { 0 = v.node } }))

-- a verdict as the model numbers it: 0 and 0 where no row fails
abbrev pub verdict_of : Option Failure → rows.Verdict
verdict_of None = record { rule = 0; node = 0 }
verdict_of (Some f) = record { rule = number f.rule; node = f.node.0 }

-- a failure as the answer to its record
abbrev pub accepted_for : Option Failure → Accepted
accepted_for None = record { value = 0; node = None }
accepted_for (Some f) = record { value = number f.rule; node = Some f.node }

-- the answer to these rows
abbrev pub rows_answer : List model.Row → Result Accepted Refusal
rows_answer rs = Ok (accepted_for (verdict_for (rows.verdict rs)))
