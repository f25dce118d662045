-- Prefixes by number, over the rows of the table: the row that extends one, the first of an index and term, a part of one, and a
-- part of a node's front.
-- Each definition goes in the order of the loop that computes it. A table is its rows by place, `row`, and how many there are.
-- Assumes nothing.
use Rattle.std.specs.Prelude.{ℕ, zero, suc, ◌+◌, ◌-◌, Bool, cond, ◌&&◌, leb, ltb, eqb, length, Option, Some, None}
use Rattle.model.specs.Sizes.{Bytes}
use Rattle.model.specs.Entry.{Entry}
use Rattle.storage.specs.Tables.{PrefixRow, row_of_node, nodes_part, prefix_row, prefixes_part}
use Rattle.storage.specs.Values.{index_of}
use Rattle.storage.specs.Decode.{mark_of}
use Rattle.storage.specs.Rules.{same_row}
use Rattle.units.specs.declared.LogPrefixWitness.{LogPrefixWitness}

-- the prefix of a number
abbrev pub witness : ℕ → LogPrefixWitness
witness p = record { 0 = p }

-- what a search gives, by the number it finds; 0 is none
unfoldable pub stored_of : ℕ → Option LogPrefixWitness
stored_of p = cond (eqb p 0) None (Some (witness p))

-- the row of the prefix of number p, extended by an entry to index i
abbrev pub row_of : ℕ → ℕ → Entry → PrefixRow
row_of p i e = record { parent = p; index = i; term = e.term; mark = mark_of e; size = length e.content; content = e.content }

-- the number of the first of n places, from place k on, that passes the test: one more than the place; 0 where none does
unfoldable pub search_from : (ℕ → Bool) → ℕ → ℕ → ℕ
search_from test k zero = 0
search_from test k (suc n) = cond (test k) (k + 1) (search_from test (k + 1) n)

-- the number of the row that stores the same prefix as r. An extension of a prefix comes after it.
unfoldable pub find : (ℕ → PrefixRow) → ℕ → PrefixRow → ℕ
unfolding search_from same_row
find row count r = search_from (λ k. same_row (row k) r) r.parent (count - r.parent)

-- "the pair (index, term) remembers the first prefix seen". A prefix of index i has a number of at least i.
abbrev pub is_of : ℕ → ℕ → PrefixRow → Bool
is_of i t r = eqb r.index i && eqb r.term t

unfoldable pub first : (ℕ → PrefixRow) → ℕ → ℕ → ℕ → ℕ
unfolding search_from
first row count i t = search_from (λ k. is_of i t (row k)) (i - 1) (count - (i - 1))

-- the number of the prefix of p through index i: its parents, at most `fuel` of them, until one does not pass i
unfoldable pub slice_from : (ℕ → PrefixRow) → ℕ → ℕ → ℕ → ℕ
slice_from row i zero p = p
slice_from row i (suc fuel) p = cond (leb (index_of row p) i) p (slice_from row i fuel (row (p - 1)).parent)

-- `slice_through` gives nothing beyond the end and the empty prefix at zero
unfoldable pub slice_of : (ℕ → PrefixRow) → ℕ → ℕ → Option LogPrefixWitness
unfolding slice_from
slice_of row p i = cond (ltb (index_of row p) i) None (Some (witness (slice_from row i p p)))

-- ---- in the bytes of a history

-- the number of a node's front
abbrev pub front_in : Bytes → ℕ → ℕ
front_in h n = (row_of_node (nodes_part h) n).front

-- the node's front through index i
unfoldable pub front_through : Bytes → ℕ → ℕ → Option LogPrefixWitness
unfolding slice_of
front_through h n i = slice_of (prefix_row (prefixes_part h)) (front_in h n) i
