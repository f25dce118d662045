-- Document 01's numbers of the converter's refusals.
-- Assumes nothing.
use Rattle.std.specs.Prelude.{ℕ}
use Rattle.model.specs.Refusal.{number, outOfLimit}
use Rattle.record_bits.specs.Answers.{refusal_of}
use Rattle.record_writing.specs.Writing.{too_short}
use Rattle.record_editions.specs.declared.refusal.Refusal.{Refusal}

-- 16: an entry is a configuration entry, which kind 1 cannot show
abbrev pub configured : ℕ
configured = 16

abbrev pub number_of : Refusal → ℕ
number_of Refusal.Edition = number outOfLimit
number_of (Refusal.Unreadable f) = number (refusal_of f)
number_of Refusal.Configured = configured
number_of Refusal.BufferTooShort = too_short
