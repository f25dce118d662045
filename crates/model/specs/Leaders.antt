-- A leader list has each (term, leader) once, ascending: by term, then leader.
-- docs/SCOPE.md, "The check".
-- Assumes nothing.
use Rattle.std.specs.Prelude.{ℕ, Bool, cond, ◌&&◌, ◌||◌, List, [], ◌∷◌, ltb, eqb}

pub record Leader : Type 0 where
  pub term : ℕ
  pub leader : ℕ

abbrev pub below : Leader → Leader → Bool
below a b = ltb a.term b.term || (eqb a.term b.term && ltb a.leader b.leader)

-- the ascending list with a in its place, once
unfoldable pub placed : Leader → List Leader → List Leader
placed a [] = a ∷ []
placed a (b ∷ bs) = cond (below a b) (a ∷ b ∷ bs) (cond (below b a) (b ∷ placed a bs) (b ∷ bs))

-- the members of a list, each once, ascending
unfoldable pub ascending : List Leader → List Leader
unfolding placed
ascending [] = []
ascending (a ∷ as') = placed a (ascending as')
