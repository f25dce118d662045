-- Document 01, "Rows": the first failing row of the first failing rule. The history is not changed.
-- docs/SCOPE.md, "Rows".
-- Assumes nothing.
use Rattle.std.specs.Prelude.{ℕ, Bool, cond, not, ◌&&◌, ◌||◌, List, [], ◌∷◌, ltb, eqb}
use Rattle.std.proofs.Math.Option.{Option, none, some}
use Rattle.model.specs.Record.{Row}

-- 1 commit below floor
abbrev pub rule1 : Row → Bool
rule1 r = ltb r.commit r.floor

-- 2 floor configuration present and the actual one absent or of lower index
abbrev pub rule2 : Row → Bool
rule2 r =
    let f = r.floor_configuration in
    let a = r.actual_configuration in
    f.present && (not a.present || ltb a.index f.index)

-- 3 both present, equal indexes, unequal identities
abbrev pub rule3 : Row → Bool
rule3 r =
    let f = r.floor_configuration in
    let a = r.actual_configuration in
    f.present && a.present && eqb f.index a.index && not (eqb f.identity a.identity)

-- 4 commit above last index
abbrev pub rule4 : Row → Bool
rule4 r = ltb r.last r.commit

-- the node of the first row that fails a rule
unfoldable pub failing : (Row → Bool) → List Row → Option ℕ
failing rule [] = none
failing rule (r ∷ rs) = cond (rule r) (some r.node) (failing rule rs)

-- a rule and the node that fails it; 0 and 0 where none fails
pub record Verdict : Type 0 where
  pub rule : ℕ
  pub node : ℕ

-- the verdict of rule k, or else of the rules after it
abbrev pub or : ℕ → Option ℕ → Verdict → Verdict
or k (some n) later = record { rule = k; node = n }
or k none later = later

unfoldable pub verdict : List Row → Verdict
unfolding failing
verdict rs =
    or 1 (failing rule1 rs)
    (or 2 (failing rule2 rs)
    (or 3 (failing rule3 rs)
    (or 4 (failing rule4 rs)
    (record { rule = 0; node = 0 }))))
