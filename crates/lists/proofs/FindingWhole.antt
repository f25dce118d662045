-- A reader's answer from a lent table is that of the whole history.
-- Assumes nothing.
use Prim.Native.Nat.{ℕ}
use mathlib.Core.Path.{◌≡◌, ◌∙◌}
use Rattle.model.specs.Sizes.{Bytes}
use Rattle.storage.specs.Tables.{finding_rows, findings_part}
use Rattle.storage.specs.Head.{findings_held}
use Rattle.storage_rows.specs.declared.findings.Found.{Found}
use Rattle.std.specs.Prelude.{Option}
use Rattle.lists.specs.Findings.{pick_ordered, finding_answer}

pub findings_lent : (h t : Bytes) (m n : ℕ) {r : Option Found} → t ≡ findings_part h → m ≡ findings_held h
    → r ≡ pick_ordered (finding_rows t m) n → r ≡ finding_answer h n
unfolding finding_answer
findings_lent h t m n et em q = q ∙ (λ i. pick_ordered (finding_rows (et i) (em i)) n)
