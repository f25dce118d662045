-- What the code's answers say in the model's words: a value with the bit after it, or a refusal.
-- Assumes nothing.
use Rattle.std.specs.Prelude.{ℕ, Result, Ok, Err}
use Rattle.model.specs.Refusal.{Refusal, unknownKind, bitsMissing, filling, outOfLimit, notAbove}
use Rattle.model.specs.Reading.{Part, got, fault}
use Rattle.record_bits.specs.declared.bits.Fault.{Fault}

-- a fault is a refusal of reading
abbrev pub refusal_of : Fault → Refusal
refusal_of Fault.UnknownKind = unknownKind
refusal_of Fault.BitsMissing = bitsMissing
refusal_of Fault.Filling = filling
refusal_of Fault.OutOfLimit = outOfLimit
refusal_of Fault.NotAbove = notAbove

-- the value, with the bit after it, or the refusal
abbrev pub part_of : {A : Type 0} → Result A Fault → ℕ → Part A
part_of (Ok v) k = got v k
part_of (Err f) k = fault (refusal_of f)

-- the number of a unit, with the bit after it, or the refusal
abbrev pub unit_part : {A : Type 0} → (A → ℕ) → Result A Fault → ℕ → Part ℕ
unit_part number (Ok v) k = got (number v) k
unit_part number (Err f) k = fault (refusal_of f)
