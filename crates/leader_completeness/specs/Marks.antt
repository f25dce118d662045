-- Moving the checked marks in the bytes of a history, one certificate after the other.
-- Assumes nothing.
use Rattle.std.specs.Prelude.{ℕ, zero, suc, ◌+◌, cond, ltb}
use Rattle.model.specs.Sizes.{Bytes}
use Rattle.storage_bytes.specs.Words.{word_at}
use Rattle.election_certificates.specs.Marks.{mark_set, certificate_of}

-- the mark of certificate k at the end, where that passes it
unfoldable pub mark_moved : Bytes → ℕ → ℕ → Bytes
unfolding word_at mark_set
mark_moved h k end = cond (ltb (certificate_of h k).mark end) (mark_set h k end) h

-- the marks of n certificates, from the k-th on
unfoldable pub marks_moved : Bytes → ℕ → ℕ → ℕ → Bytes
unfolding mark_moved
marks_moved h end k zero = h
marks_moved h end k (suc n) = marks_moved (mark_moved h k end) end (k + 1) n
