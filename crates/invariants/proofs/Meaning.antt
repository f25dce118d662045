-- What the check of rows means: on a readable record of rows it answers the model's rule and node, and may be asked.
-- Assumes nothing.
use Prim.Native.Nat.{ℕ}
use Rattle.std.specs.Prelude.{Option, Result, Ok}
use Rattle.record_bits.specs.declared.bits.Fault.{Fault}
use mathlib.Core.Path.{◌≡◌, ap, ◌∙◌}
use Rattle.model.specs.Sizes.{Bytes}
use Rattle.model.specs.Record.{rows}
use Rattle.model.specs.Reading.{readable, read}
use Rattle.model.specs.History.{History}
use Rattle.model.specs.Answer.{accepted, answer, after}
use Rattle.model.specs.Rows.{verdict}
use Rattle.record_reading.specs.declared.head.Head.{Head}
use Rattle.record_reading.specs.Heads.{Told, reading_of}
use Rattle.record_entries.specs.BitLayout.{RowWalk, rows_at, first_row}
use Rattle.record_reading.proofs.Readable.{rows_walk}
use Rattle.invariants.specs.declared.commit_safety.Failure.{Failure}
use Rattle.invariants.specs.Rules.{verdict_for, verdict_of}
use Rattle.invariants.proofs.Pass.{verdict_back}

-- what is asked of a record of c rows, and what the answer v to it says of any history x
pub record Means (s : Bytes) (c : ℕ) (v : Option Failure) : Type 0 where
  pub asked : RowWalk s first_row c
  pub answer : (x : History) → answer x s ≡ accepted (verdict_of v).rule (verdict_of v).node
  pub unchanged : (x : History) → after x s ≡ x

-- "the first failing row of the first failing rule, 0 if none; node of that row. The history is not changed."
pub rows_checked : (s : Bytes) (r : Result Head Fault) (c : ℕ) (v : Option Failure) → Told s r → r ≡ Ok (Head.Rows c)
    → v ≡ verdict_for (verdict (rows_at s first_row c))
    → Means s c v
unfolding answer after
rows_checked s r c v t e q =
    let d : read s ≡ readable (rows (rows_at s first_row c)) = t.reading ∙ ap (reading_of s) e in
    let b : verdict_of v ≡ verdict (rows_at s first_row c) = ap verdict_of q ∙ verdict_back (rows_at s first_row c) in
    record { asked = rows_walk s r c t e; answer = λ x. rw (d, b); unchanged = λ x. rw d }
