-- Document 01, "The printed sheet": the lists of a history, in printed order.
-- docs/SCOPE.md, "The sheet".
-- Assumes nothing.
use Rattle.std.specs.Prelude.{ℕ, zero, suc, ◌+◌, Bool, cond, ◌&&◌, ◌||◌, List, [], ◌∷◌, ◌++◌, ltb, eqb, length, get_or}
use Rattle.model.specs.History.{Finding, History}
use Rattle.model.specs.Leaders.{Leader, ascending}

-- findings "ordered by name, node, term, index"
abbrev pub before : Finding → Finding → Bool
before f g =
    ltb f.name g.name
    || (eqb f.name g.name
    && (ltb f.node g.node
    || (eqb f.node g.node
    && (ltb f.term g.term
    || (eqb f.term g.term && ltb f.index g.index)))))

unfoldable pub insert : Finding → List Finding → List Finding
insert f [] = f ∷ []
insert f (g ∷ gs) = cond (before f g) (f ∷ g ∷ gs) (g ∷ insert f gs)

unfoldable pub ordered : List Finding → List Finding
unfolding insert
ordered [] = []
ordered (f ∷ fs) = insert f (ordered fs)

unfoldable pub finding_list : History → List Finding
unfolding ordered
finding_list h = ordered h.findings

-- the (term, leader) of each LG-05
abbrev pub leader_of : Finding → List Leader
leader_of f = cond (eqb f.name 5) (record { term = f.term; leader = f.node } ∷ []) []

unfoldable pub leaders_of : List Finding → List Leader
leaders_of [] = []
leaders_of (f ∷ fs) = leader_of f ++ leaders_of fs

-- "each (term, leader) of LG-05 once, ascending"
unfoldable pub leader_list : History → List Leader
unfolding leaders_of ascending
leader_list h = ascending (leaders_of h.findings)

-- unseen marks: node and index
pub record Unseen : Type 0 where
  pub node : ℕ
  pub index : ℕ

abbrev pub unseen_of : ℕ → ℕ → List Unseen
unseen_of n i = cond (eqb i 0) [] (record { node = n; index = i } ∷ [])

-- the marks of node n and those after it
unfoldable pub marks_from : ℕ → List ℕ → List Unseen
marks_from n [] = []
marks_from n (i ∷ is) = unseen_of n i ++ marks_from (n + 1) is

unfoldable pub unseen_list : History → List Unseen
unfolding marks_from
unseen_list h = marks_from 0 h.unseen

-- "an index of the committed prefix is unknown if its term is zero or absent": here the index after i
abbrev pub unknown_of : List ℕ → ℕ → List ℕ
unknown_of ts i = cond (eqb (get_or ts i 0) 0) ((i + 1) ∷ []) []

-- n indexes, those after i
unfoldable pub unknown_from : List ℕ → ℕ → ℕ → List ℕ
unknown_from ts i zero = []
unknown_from ts i (suc n) = unknown_of ts i ++ unknown_from ts (i + 1) n

unfoldable pub unknown_list : History → List ℕ
unfolding unknown_from
unknown_list h = unknown_from h.terms 0 (length h.committed)

-- "committed length owner (0 0 if none)"
abbrev pub committed_length : History → ℕ
committed_length h = length h.committed

abbrev pub committed_owner : History → ℕ
committed_owner h = cond (eqb (length h.committed) 0) 0 h.owner
