-- `record_bits::bits::bits_at` meets its contract: a turn takes one whole byte, and v is the number of the bytes before it.
-- Assumes nothing.
use Prim.Native.Nat.{◌*◌, ◌/◌}
use mathlib.Core.Path.{◌≡◌}
use Rattle.model.specs.Reading.{field_at}
use Rattle.record_bits.proofs.bits.bits_at.Given as goal

abbrev pub invariant-loop-byte : goal.invariant-loop-byte
invariant-loop-byte l = l.v ≡ field_at l.s (8 * (l.at / 8)) (8 * l.byte-index)
