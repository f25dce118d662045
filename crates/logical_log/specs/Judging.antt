-- A view judged on the rows of the prefix table, in the order of the walks along its front: nothing is written.
-- Assumes nothing.
use Rattle.std.specs.Prelude.{ℕ, zero, suc, ◌+◌, ◌-◌, ◌≤◌, ◌≡◌, Bool, cond, not, ◌&&◌, ◌||◌, List, [], ◌∷◌, ◌++◌, eqb, length}
use Rattle.model.specs.Entry.{Entry}
use Rattle.model.specs.History.{Finding}
use Rattle.model.specs.Sizes.{Bytes}
use Rattle.model.specs.Record.{front_from, last_from}
use Rattle.record_entries.specs.BitLayout.{ViewBits, Walk, first_entry, index_at, next_at, shown_at, entries_at}
use Rattle.storage.specs.Tables.{PrefixRow, prefix_row, prefixes_part, findings_part}
use Rattle.storage.specs.Head.{prefixes_held, findings_held}
use Rattle.logical_log.specs.declared.judging.FrontCursor.{FrontCursor}
use Rattle.log_prefix.specs.Prefix.{row_of, find, first}
use Rattle.log_prefix.specs.Comparison.{same_from}
use Rattle.log_violation.specs.Violation.{held_all, bytes_all, note_if}

-- the remembered prefix of number r, if there is one, is another than that of number k
unfoldable pub differs : (ℕ → PrefixRow) → ℕ → ℕ → Bool
unfolding same_from
differs row r k = not (eqb r 0) && not (same_from row r r k)

unfoldable pub other : (ℕ → PrefixRow) → ℕ → ℕ → ℕ → ℕ → Bool
unfolding first differs
other row count i t k = differs row (first row count i t) k

-- a prefix is remembered for the index and term: another one than any that is not stored
unfoldable pub is_remembered : (ℕ → PrefixRow) → ℕ → ℕ → ℕ → Bool
unfolding first
is_remembered row count i t = not (eqb (first row count i t) 0)

-- LG-03 of an entry
abbrev pub lg03 : ℕ → ℕ → ℕ → Finding
lg03 n i t = record { name = 3; node = n; index = i; term = t }

-- noted where another prefix is remembered for it
abbrev pub note_of : Bool → ℕ → ℕ → ℕ → List Finding
note_of b n i t = note_if b (lg03 n i t)

-- LG-03 of entries whose prefixes are not stored, from index i on
unfoldable pub lack_notes : (ℕ → PrefixRow) → ℕ → ℕ → ℕ → List Entry → List Finding
unfolding is_remembered
lack_notes row count n i [] = []
lack_notes row count n i (e ∷ es) = note_of (is_remembered row count i e.term) n i e.term ++ lack_notes row count n (i + 1) es

-- the number of the stored prefix that extends that of number p by the entry, 0 where there is none. The search goes by parent
-- and entry, and does not look at the index.
abbrev pub next_number : (ℕ → PrefixRow) → ℕ → ℕ → Entry → ℕ
next_number row count p e = find row count (row_of p 0 e)

-- ---- a place along a front

abbrev pub cursor_at : ℕ → ℕ → ℕ → ℕ → FrontCursor
cursor_at at left i p = record { at = at; left = left; index = record { 0 = i }; prefix = record { 0 = p } }

-- the front from a place on
abbrev pub front_at : ViewBits → FrontCursor → List Entry
front_at s r = front_from r.index.0 (entries_at s r.at r.left)

-- a place whose entries can be walked, after a prefix that has a number
pub record Walkable (s : ViewBits) (count : ℕ) (r : FrontCursor) : Type 0 where
  pub walk : Walk s r.at r.left
  pub number : r.prefix.0 ≤ count
  pub positive : 1 ≤ r.index.0
  pub small : r.index.0 ≤ 257

-- the last index of what is left; where nothing is, the index before the place
abbrev pub last_at : ViewBits → FrontCursor → ℕ
last_at s r = last_from (r.index.0 - 1) (entries_at s r.at r.left)

-- ---- the walk along the stored prefixes
-- At bit `at` with n entries left, at index i, after the prefix of number p.

-- it ends at an entry of another index, and at one whose prefix is not stored
abbrev pub ends_at : (ℕ → PrefixRow) → ℕ → ViewBits → ℕ → ℕ → ℕ → Bool
ends_at row count s at i p = not (eqb (index_at s at) i) || eqb (next_number row count p (shown_at s at).entry) 0

-- the place where it ends
unfoldable pub cursor_from : (ℕ → PrefixRow) → ℕ → ViewBits → ℕ → ℕ → ℕ → ℕ → FrontCursor
unfolding find
cursor_from row count s at zero i p = cursor_at at zero i p
cursor_from row count s at (suc n) i p =
    cond (ends_at row count s at i p) (cursor_at at (suc n) i p)
    (cursor_from row count s (next_at s at) n (i + 1) (next_number row count p (shown_at s at).entry))

-- its LG-03
unfoldable pub stored_notes : (ℕ → PrefixRow) → ℕ → ℕ → ViewBits → ℕ → ℕ → ℕ → ℕ → List Finding
unfolding find other
stored_notes row count node s at zero i p = []
stored_notes row count node s at (suc n) i p =
    let t = (shown_at s at).entry.term in
    let k = next_number row count p (shown_at s at).entry in
    cond (ends_at row count s at i p) [] (note_of (other row count i t k) node i t ++ stored_notes row count node s (next_at s at) n (i + 1) k)

-- and those of the rest, from the place on
abbrev pub notes_from : (ℕ → PrefixRow) → ℕ → ℕ → ViewBits → ℕ → ℕ → ℕ → ℕ → List Finding
notes_from row count node s at n i p =
    let r = cursor_from row count s at n i p in
    stored_notes row count node s at n i p ++ lack_notes row count node r.index.0 (front_at s r)

-- ---- what the walks come to

-- the walk along the stored prefixes of a view of n entries
pub record ReachedAs (ps : Bytes) (count : ℕ) (s : ViewBits) (n node : ℕ) (t : Bytes) (held held' : ℕ) (r : FrontCursor) (t' : Bytes) : Type 0 where
  pub cursor : r ≡ cursor_from (prefix_row ps) count s first_entry n 1 0
  pub holds : held' ≡ held_all t held (stored_notes (prefix_row ps) count node s first_entry n 1 0)
  pub table : t' ≡ bytes_all t held (stored_notes (prefix_row ps) count node s first_entry n 1 0)

-- the walk along the rest, from index i on: the next of `left` entries is at bit `at`
pub record LackingAs (ps : Bytes) (count : ℕ) (s : ViewBits) (at left i node : ℕ) (t : Bytes) (held missing held' : ℕ) (t' : Bytes) : Type 0 where
  pub lack : missing ≡ length (front_from i (entries_at s at left))
  pub holds : held' ≡ held_all t held (lack_notes (prefix_row ps) count node i (front_from i (entries_at s at left)))
  pub table : t' ≡ bytes_all t held (lack_notes (prefix_row ps) count node i (front_from i (entries_at s at left)))

-- ---- a view of m entries against a history

-- the place before the first prefix that is not stored
unfoldable pub cursor_in : Bytes → ViewBits → ℕ → FrontCursor
unfolding cursor_from
cursor_in h s m = cursor_from (prefix_row (prefixes_part h)) (prefixes_held h) s first_entry m 1 0

-- how many prefixes of its front are not stored
unfoldable pub missing_in : Bytes → ViewBits → ℕ → ℕ
unfolding cursor_in
missing_in h s m = length (front_at s (cursor_in h s m))

-- its LG-03
unfoldable pub notes_in : Bytes → ViewBits → ℕ → ℕ → List Finding
unfolding stored_notes lack_notes cursor_from
notes_in h s m node = notes_from (prefix_row (prefixes_part h)) (prefixes_held h) node s first_entry m 1 0

-- the findings with them: how many, and the table
unfoldable pub held_in : Bytes → ViewBits → ℕ → ℕ → ℕ
unfolding held_all notes_in
held_in h s m node = held_all (findings_part h) (findings_held h) (notes_in h s m node)

unfoldable pub table_in : Bytes → ViewBits → ℕ → ℕ → Bytes
unfolding bytes_all notes_in
table_in h s m node = bytes_all (findings_part h) (findings_held h) (notes_in h s m node)

-- what judging a view comes to
pub record ViewJudged (h : Bytes) (s : ViewBits) (m node missing held : ℕ) (r : FrontCursor) (t : Bytes) : Type 0 where
  pub cursor : r ≡ cursor_in h s m
  pub lack : missing ≡ missing_in h s m
  pub holds : held ≡ held_in h s m node
  pub table : t ≡ table_in h s m node
