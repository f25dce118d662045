-- What the code's answer for a field with a limit says in the model's words.
-- Assumes nothing.
use Rattle.std.specs.Prelude.{ℕ, cond, leb, Result, Ok, Err}
use Rattle.record_bits.specs.declared.bits.Fault.{Fault}

-- the number where it is at most m: else 4
abbrev pub at_most : ℕ → Result ℕ Fault → Result ℕ Fault
at_most m (Ok v) = cond (leb v m) (Ok v) (Err Fault.OutOfLimit)
at_most m (Err f) = Err f
