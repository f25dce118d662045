-- The certificates held, the index of a number's prefix, and the end of the committed one.
-- Assumes nothing.
use Rattle.std.specs.Prelude.{ℕ, ◌-◌, ◌<◌, ◌≡◌, cond, List, eqb}
use Rattle.model.specs.Sizes.{Bytes}
use Rattle.storage_bytes.specs.Words.{word_at}
use Rattle.storage.specs.Tables.{CertificateRow, PrefixRow, prefix_row, rows_of_certificates, certificates_part, prefixes_part}
use Rattle.storage.specs.Head.{committed_number, certificates_held}

-- the certificates of a history
abbrev pub certificates_of : Bytes → List CertificateRow
certificates_of h = rows_of_certificates (certificates_part h) (certificates_held h)

-- the index of a number's prefix: 0 of the empty one
abbrev pub index_of : (ℕ → PrefixRow) → ℕ → ℕ
index_of row p = cond (eqb p 0) 0 (row (p - 1)).index

-- the same in the bytes of the table
unfoldable pub number_index : Bytes → ℕ → ℕ
unfolding word_at
number_index t p = index_of (prefix_row t) p

-- the end of the committed prefix
unfoldable pub committed_end : Bytes → ℕ
unfolding word_at number_index
committed_end h = number_index (prefixes_part h) (committed_number h)

-- an index read, with its bound
pub record Index (t : Bytes) (p r : ℕ) : Type 0 where
  pub is : r ≡ number_index t p
  pub below : r < 65536
