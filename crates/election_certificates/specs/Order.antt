-- The searches among the certificates held, over their rows and in the order of their loops. Rows in order of term: `Ordered` of the
-- proofs says what the searches find there.
-- Assumes nothing.
use Rattle.std.specs.Prelude.{ℕ, zero, suc, cond, leb, eqb}
use Rattle.storage.specs.Tables.{CertificateRow}

-- from row n back to the first that is of no later term: how many stand up to it
unfoldable pub place_from : (ℕ → CertificateRow) → ℕ → ℕ → ℕ
place_from row t zero = 0
place_from row t (suc k) = cond (leb (row k).term t) (suc k) (place_from row t k)

-- how many rows right before the place are of the term
unfoldable pub held_before : (ℕ → CertificateRow) → ℕ → ℕ → ℕ
held_before row t zero = 0
held_before row t (suc k) = cond (eqb (row k).term t) (suc (held_before row t k)) 0
