-- Document 01, "Record bits", with T-09 and T-02 of document 02: the kinds of records with their fields, and the front of a view. Kinds 1
-- and 9 are views.
-- docs/SCOPE.md, "Records".
-- Assumes nothing.
use Rattle.std.specs.Prelude.{ℕ, ◌+◌, Bool, cond, List, [], ◌∷◌, eqb}
use Rattle.model.specs.Entry.{Entry, Prefix}

-- an entry of a view, with the index it was shown under
pub record Shown : Type 0 where
  pub index : ℕ
  pub entry : Entry

pub record Configuration : Type 0 where
  pub present : Bool
  pub index : ℕ
  pub identity : ℕ

pub record Row : Type 0 where
  pub node : ℕ
  pub floor : ℕ
  pub commit : ℕ
  pub last : ℕ
  pub floor_configuration : Configuration
  pub actual_configuration : Configuration

pub data Record : Type 0 where
  -- 1 view, 9 view with marks: node, entries
  view : ℕ → List Shown → Record
  -- 2 commit: node, commit index
  commit : ℕ → ℕ → Record
  -- 3 commit terms: old, new, term
  terms : ℕ → ℕ → ℕ → Record
  -- 4 election: leader, term, log present, length
  election : ℕ → ℕ → Bool → ℕ → Record
  -- 5 completeness check
  check : Record
  -- 6 rows
  rows : List Row → Record
  -- 7 leader: node, term
  leader : ℕ → ℕ → Record

-- "the front is the entries 1, 2, .. up to the first gap": here from index n on
unfoldable pub front_from : ℕ → List Shown → Prefix
front_from n [] = []
front_from n (x ∷ xs) = cond (eqb x.index n) (x.entry ∷ front_from (n + 1) xs) []

abbrev pub front : List Shown → Prefix
front xs = front_from 1 xs

-- the index of a view's last entry, past a gap too; n where there is none
unfoldable pub last_from : ℕ → List Shown → ℕ
last_from n [] = n
last_from n (x ∷ xs) = last_from x.index xs

abbrev pub last_index : List Shown → ℕ
last_index xs = last_from 0 xs
