-- The n-th finding in printed order, as it is looked for in the table of findings: a row comes after as many of the later
-- ones as it is not before, and each row looked at takes one place in front of the others or behind.
-- Assumes nothing.
use Rattle.std.specs.Prelude.{ℕ, ◌+◌, ◌-◌, Bool, cond, Option, Some, None, List, [], ◌∷◌, ltb, eqb}
use Rattle.model.specs.Sizes.{Bytes}
use Rattle.model.specs.History.{Finding}
use Rattle.model.specs.Lists.{before}
use Rattle.storage_bytes.specs.Words.{word_at}
use Rattle.storage.specs.Tables.{finding_rows, findings_part}
use Rattle.storage.specs.Head.{findings_held}
use Rattle.storage_rows.specs.declared.findings.Found.{Found}

unfoldable pub comes_before : Finding → Finding → Bool
comes_before f g = before f g

-- how many f does not come before
unfoldable pub count_first : Finding → List Finding → ℕ
unfolding comes_before
count_first f [] = 0
count_first f (g ∷ gs) = cond (comes_before f g) 0 1 + count_first f gs

-- a printed finding
abbrev pub finding_of : Finding → Option Found
finding_of f =
    Some
    (record { name = f.name; node = record { 0 = f.node }; index = record { 0 = f.index }; term = record { 0 = f.term } })

unfoldable pub pick_ordered : List Finding → ℕ → Option Found
unfolding count_first
pick_ordered [] n = None
pick_ordered (f ∷ fs) n =
    cond (eqb n (count_first f fs)) (finding_of f) (pick_ordered fs (cond (ltb (count_first f fs) n) (n - 1) n))

unfoldable pub finding_answer : Bytes → ℕ → Option Found
unfolding word_at pick_ordered
finding_answer h n = pick_ordered (finding_rows (findings_part h) (findings_held h)) n
