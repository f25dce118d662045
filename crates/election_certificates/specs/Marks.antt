-- The marks of certificates on the bytes of a history, in the order of the code.
-- Assumes nothing.
use Rattle.std.specs.Prelude.{ℕ, zero, suc, ◌+◌, ◌-◌, ◌*◌, cond, leb}
use Rattle.model.specs.Sizes.{Bytes}
use Rattle.storage_bytes.specs.Words.{word_bytes, put_bytes}
use Rattle.storage_bytes.specs.Layout.{certificates_start, certificate_width, index_width, certificate_mark}
use Rattle.storage.specs.Tables.{CertificateRow, certificate_row, certificates_part}

-- the mark of certificate k written
unfoldable pub mark_set : Bytes → ℕ → ℕ → Bytes
unfolding put_bytes
mark_set h k m = put_bytes h (certificates_start + (k * certificate_width + certificate_mark)) (word_bytes index_width m)

abbrev pub certificate_of : Bytes → ℕ → CertificateRow
certificate_of h k = certificate_row (certificates_part h) k

-- the mark of certificate k one less than the index, where it is at or past it
unfoldable pub lower_bytes : Bytes → ℕ → ℕ → Bytes
unfolding mark_set
lower_bytes h first k = cond (leb first (certificate_of h k).mark) (mark_set h k (first - 1)) h

-- of k certificates, from the last back to the first met whose term is not greater than t
unfoldable pub lower_back : Bytes → ℕ → ℕ → ℕ → Bytes
unfolding lower_bytes
lower_back h t first zero = h
lower_back h t first (suc k) = cond (leb (certificate_of h k).term t) h (lower_back (lower_bytes h first k) t first k)
