-- What the scan's answers say in the model's words: of a longer part it keeps a key and the bit after it, or a refusal.
-- Assumes nothing.
use Rattle.std.specs.Prelude.{ℕ, Result, Ok, Err}
use Rattle.model.specs.Reading.{Part, got, fault}
use Rattle.record_bits.specs.Answers.{refusal_of}
use Rattle.record_bits.specs.declared.bits.Fault.{Fault}
use Rattle.record_entries.specs.declared.scan.Passed.{Passed}

abbrev pub keyed : {A : Type 0} → (A → ℕ) → Part A → Part ℕ
keyed key (got x k) = got (key x) k
keyed key (fault r) = fault r

abbrev pub ended : {A : Type 0} → Part A → Part ℕ
ended p = keyed (λ x. 0) p

abbrev pub scan_part : Result Passed Fault → Part ℕ
scan_part (Ok p) = got p.key p.next
scan_part (Err f) = fault (refusal_of f)

abbrev pub end_part : Result ℕ Fault → Part ℕ
end_part (Ok k) = got 0 k
end_part (Err f) = fault (refusal_of f)

abbrev pub done_part : Result Unit Fault → ℕ → Part ℕ
done_part (Ok u) k = got 0 k
done_part (Err f) k = fault (refusal_of f)
