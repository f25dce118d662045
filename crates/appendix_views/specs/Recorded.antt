-- The record that shows a view of the appendix, in document 01's bits. An entry begins in the second half of a byte, and the first
-- four bits of its index are zero: so its index and term stand four times as large in their bytes, and the length of its content
-- sixteen times.
-- Assumes nothing.
use Rattle.std.specs.Prelude.{ℕ, ◌*◌, ◌<◌, ◌≡◌, [], ◌∷◌, ◌++◌, length, get_or}
use Rattle.model.specs.Sizes.{Bytes}
use Rattle.model.specs.Record.{Shown, view}
use Rattle.model.specs.Reading.{readable, read}
use Rattle.appendix_views.specs.Views.{View, views, view_count}

-- its index, term, content length and content
abbrev pub entry_bytes : Shown → Bytes
entry_bytes x = (4 * x.index ∷ 0 ∷ 0 ∷ 0 ∷ 4 * x.entry.term ∷ 16 * length x.entry.content ∷ []) ++ x.entry.content

unfoldable pub entries_bytes : View → Bytes
entries_bytes [] = []
entries_bytes (x ∷ xs) = entry_bytes x ++ entries_bytes xs

-- kind 1, the node, how many entries there are, and these
abbrev pub record_bytes : ℕ → View → Bytes
record_bytes node v = (16 ∷ 64 * node ∷ 16 * length v ∷ []) ++ entries_bytes v

-- no record is longer
abbrev pub record_room : ℕ
record_room = 24

-- What is read of the n-th record is the n-th view, of the node: here of nodes 0 and 1.
abbrev pub ReadBack : Type 0
ReadBack =
    (node n : ℕ) → node < 2 → n < view_count
    → read (record_bytes node (get_or views n [])) ≡ readable (view node (get_or views n []))
