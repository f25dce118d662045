-- Where a new certificate's row goes, and its number: behind those of its term and of the terms before it.
-- Assumes nothing.
use Rattle.std.specs.Prelude.{ℕ, suc, ◌+◌, cond, List, [], ◌∷◌, ltb, eqb}
use Rattle.storage.specs.Tables.{CertificateRow}

-- how many rows stand before the first of a later term
unfoldable pub place_of : ℕ → List CertificateRow → ℕ
place_of t [] = 0
place_of t (c ∷ cs) = cond (ltb t c.term) 0 (suc (place_of t cs))

-- how many rows are of the term
unfoldable pub held_of : ℕ → List CertificateRow → ℕ
held_of t [] = 0
held_of t (c ∷ cs) = held_of t cs + cond (eqb c.term t) 1 0
