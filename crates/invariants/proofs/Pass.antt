-- The pass over the rows: from the least rule that failed so far it gives the first of the rules before that one, as the
-- model tries them; and the laws of the loop.
-- Assumes nothing.
use Prim.Native.Nat.{ℕ, ◌+◌, ◌-◌, ◌≤◌, ◌<◌}
use mathlib.Core.Path.{◌≡◌, refl, sym, ◌∙◌}
use mathlib.Core.Bool.{Bool, true, false, cond}
use mathlib.Core.List.{List, [], ◌∷◌}
use mathlib.Core.Logic.{⊎_elim}
use mathlib.Core.Option.{Option, none, some}
use native.Mathlib.Omega.{arith}
use lib.Dec.{ltb, eqb}
use borrow.Author.Tests.{ltb-true, ltb-false, lt-ltb, le-ltb}
use Rattle.model.specs.Sizes.{Bytes}
use Rattle.model.specs.Record as model
use Rattle.model.specs.Rows as rows
use Rattle.model.specs.Rows.{failing, verdict, or, rule1, rule2, rule3, rule4}
use Rattle.model.proofs.Tests.{either}
use Rattle.std.specs.Bool.{then_some}
use Rattle.model.specs.Reading.{field_at}
use Rattle.record_entries.specs.BitLayout.{configuration_at, row_at, after_row, rows_at, RowWalk}
use Rattle.record_entries.proofs.Given.{Bare}
use Rattle.record_entries.specs.Values.{configuration_value, row_value}
use Rattle.record_entries.proofs.Walks.{rows_next, rows_none, walk_rowed}
use Rattle.invariants.specs.declared.commit_safety.Rule.{Rule}
use Rattle.invariants.specs.declared.commit_safety.Failure.{Failure}
use Rattle.std.specs.Prelude.{Some, None}
use Rattle.std.specs.Prelude as std
use Rattle.invariants.specs.Rules.{configuration_of, row_of, no_rule, number, least, node_in, first_rule, verdict_at, least_from, verdict_for, verdict_of}

-- ---- a row, as it was read

-- an absent configuration has zeros, so an Option keeps all of it
configuration_shown : (s : Bytes) (k : ℕ) → Bare (configuration_at s k) → configuration_of (configuration_value s k) ≡ configuration_at s k
configuration_shown s k bare = go (eqb (field_at s k 1) 1) bare
  where
    go : (b : Bool) → Bare (record { present = b; index = field_at s (k + 1) 10; identity = field_at s (k + 11) 32 })
        → configuration_of (then_some b (record { index = record { 0 = field_at s (k + 1) 10 }; identity = field_at s (k + 11) 32 }))
        ≡ record { present = b; index = field_at s (k + 1) 10; identity = field_at s (k + 11) 32 }
    go true bare = refl
    go false bare = let z = bare refl in λ i. record { present = false; index = sym z.0 i; identity = sym z.1 i }

pub row_shown : (s : Bytes) (k n : ℕ) → RowWalk s k n → 0 < n → row_of (row_value s k) ≡ row_at s k
row_shown s k n w h =
    let r = walk_rowed s k n w h in
    let floor = configuration_shown s (k + 36) r.floor in
    let actual = configuration_shown s (k + 79) r.actual in
    λ i. record {
      node = field_at s k 6;
      floor = field_at s (k + 6) 10;
      commit = field_at s (k + 16) 10;
      last = field_at s (k + 26) 10;
      floor_configuration = floor i;
      actual_configuration = actual i;
    }

-- ---- the rules before rule k, as the model tries them

-- rule j, if it comes before rule k and f is the first node that fails it; or else what the rules after it give
abbrev before : ℕ → ℕ → Option ℕ → rows.Verdict → rows.Verdict
before k j f later = cond (ltb j k) (or j f later) later

-- the rules before rule k, each with the first node that fails it; or else rule k at node n
abbrev rules_before : ℕ → ℕ → Option ℕ → Option ℕ → Option ℕ → Option ℕ → rows.Verdict
rules_before k n f g h i = before k 1 f (before k 2 g (before k 3 h (before k 4 i (verdict_at k n))))

same : (b : Bool) (v : rows.Verdict) → cond b v v ≡ v
same true v = refl
same false v = refl

no_rows : (k n : ℕ) → verdict_at k n ≡ rules_before k n none none none none
no_rows k n = simp same

-- the first rule of a row that fails the rules of which a, b, c and d say so
abbrev first : Bool → Bool → Bool → Bool → ℕ
first a b c d = cond a 1 (cond b 2 (cond c 3 (cond d 4 no_rule)))

-- such a row more in front, at node m
module _ (f g h i : Option ℕ) (k n m : ℕ) (l : k ≤ no_rule) where
  abbrev from : ℕ → rows.Verdict
  from j = cond (ltb j k) (rules_before j m f g h i) (rules_before k n f g h i)

  abbrev with : Bool → Bool → Bool → Bool → rows.Verdict
  with a b c d = rules_before k n (cond a (some m) f) (cond b (some m) g) (cond c (some m) h) (cond d (some m) i)

  one_row : (a b c d : Bool) → from (first a b c d) ≡ with a b c d
  one_row true b c d =
      ⊎_elim
      (λ e. rw e)
      (λ e. let z = ltb-false 1 k e in rw (e, le-ltb 2 k (omega arith), le-ltb 3 k (omega arith), le-ltb 4 k (omega arith)))
      (either (ltb 1 k))
  one_row false true c d =
      ⊎_elim
      (λ e. let z = ltb-true 2 k e in rw (e, lt-ltb 1 k (omega arith)))
      (λ e. let z = ltb-false 2 k e in rw (e, le-ltb 3 k (omega arith), le-ltb 4 k (omega arith)))
      (either (ltb 2 k))
  one_row false false true d =
      ⊎_elim
      (λ e. let z = ltb-true 3 k e in rw (e, lt-ltb 1 k (omega arith), lt-ltb 2 k (omega arith)))
      (λ e. let z = ltb-false 3 k e in rw (e, le-ltb 4 k (omega arith)))
      (either (ltb 3 k))
  one_row false false false true =
      ⊎_elim
      (λ e. let z = ltb-true 4 k e in rw (e, lt-ltb 1 k (omega arith), lt-ltb 2 k (omega arith), lt-ltb 3 k (omega arith)))
      (λ e. rw e)
      (either (ltb 4 k))
  one_row false false false false = rw (le-ltb 5 k l)

-- ---- the walk gives the model's verdict

first_bound : (a b c d : Bool) → first a b c d ≤ no_rule
first_bound true b c d = omega arith
first_bound false true c d = omega arith
first_bound false false true d = omega arith
first_bound false false false true = omega arith
first_bound false false false false = omega arith

-- from rule k at node n: the first of the rules before k that a row fails, and the first node that fails it, or else k and n
walked : (k n : ℕ) (rs : List model.Row) → k ≤ no_rule
    → least_from k n rs ≡ rules_before k n (failing rule1 rs) (failing rule2 rs) (failing rule3 rs) (failing rule4 rs)
unfolding least_from failing first_rule
walked k n [] l = no_rows k n
walked k n (r ∷ rs) l =
    rw (walked (first_rule r) r.node rs (first_bound (rule1 r) (rule2 r) (rule3 r) (rule4 r)), walked k n rs l)
    (one_row (failing rule1 rs) (failing rule2 rs) (failing rule3 rs) (failing rule4 rs) k n r.node l (rule1 r) (rule2 r) (rule3 r) (rule4 r))

-- from no rule: the model's verdict
pub walk_verdict : (n : ℕ) (rs : List model.Row) → verdict rs ≡ least_from no_rule n rs
unfolding verdict
walk_verdict n rs = sym (walked no_rule n rs (omega arith))

-- nothing comes before rule 1
walk_ended : (k n : ℕ) (rs : List model.Row) → k ≤ 1 → least_from k n rs ≡ verdict_at k n
walk_ended k n rs l =
    walked k n rs (omega arith)
    ∙ rw (le-ltb 1 k l, le-ltb 2 k (omega arith), le-ltb 3 k (omega arith), le-ltb 4 k (omega arith))

-- ---- the loop, with n rows left from bit at on, where k is the least rule that failed so far, and m the first node

module _ (s : Bytes) (at n k m : ℕ) {t : rows.Verdict} (e : t ≡ least_from k m (rows_at s at n)) where
  -- the row there, and those after it
  pub row_next : 0 < n → t ≡ least_from k m (row_at s at ∷ rows_at s (after_row s at) (n - 1))
  row_next h = e ∙ rw (rows_next s at n h)

  -- none is left
  pub rows_end : n ≤ 0 → verdict_at k m ≡ t
  unfolding least_from
  rows_end h = sym (e ∙ rw (rows_none s at n h))

  -- rule 1 failed
  pub rule_1_end : k ≤ 1 → verdict_at k m ≡ t
  rule_1_end l = sym (e ∙ walk_ended k m (rows_at s at n) l)

-- ---- the answer

-- what failed first is the answer to its own number and node
pub answered : (f : std.Option Failure) → f ≡ verdict_for (verdict_at (least f) (node_in f))
answered None = refl
answered (Some f) = go f.rule
  where
    go : (r : Rule) → Some (record { rule = r; node = f.node }) ≡ verdict_for (verdict_at (number r) f.node.0)
    go Rule.CommitMonotonicity = refl
    go Rule.ConfigurationMonotonicity = refl
    go Rule.ConfigurationIdentity = refl
    go Rule.LogBounds = refl

-- the model's verdict comes back from the answer: where no rule fails its node is 0
pub verdict_back : (rs : List model.Row) → verdict_of (verdict_for (verdict rs)) ≡ verdict rs
unfolding verdict
verdict_back rs = back (failing rule1 rs) (failing rule2 rs) (failing rule3 rs) (failing rule4 rs)
  where
    back : (a b c d : Option ℕ) → let v = or 1 a (or 2 b (or 3 c (or 4 d (record { rule = 0; node = 0 })))) in verdict_of (verdict_for v) ≡ v
    back (some n) b c d = refl
    back none (some n) c d = refl
    back none none (some n) d = refl
    back none none none (some n) = refl
    back none none none none = refl
