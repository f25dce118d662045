-- A view in the other edition, by its bits.
-- Assumes nothing.
use Rattle.std.specs.Prelude.{ℕ, Bool, not, cond, List, Option, Some, None}
use Rattle.model.specs.Record.{Record, view}
use Rattle.record_entries.specs.BitLayout.{ViewBits, shown_at, next_in, entries_at, end_at, first_entry}
use Rattle.record_writing.specs.Spans.{Span, entry_spans, all_spans, spans, unmarked}

abbrev pub other : ViewBits → Bool
other v = not v.marked

-- the bit after n entries from bit k on, where none is a configuration entry
abbrev pub portions_end : ViewBits → ℕ → ℕ → Option ℕ
portions_end v k n = cond (unmarked (entries_at v k n)) (Some (end_at (next_in v.marked) v.bytes k n)) None

-- the fields of the entry at bit k, of n entries from there, and of the view
abbrev pub entry_turned : ViewBits → ℕ → List Span
entry_turned v k = entry_spans (other v) (shown_at v k)

abbrev pub entries_turned : ViewBits → ℕ → ℕ → List Span
entries_turned v k n = all_spans (entry_spans (other v)) (entries_at v k n)

-- the view of a node with n entries
abbrev pub view_of : ViewBits → ℕ → ℕ → Record
view_of v node n = view node (entries_at v first_entry n)

abbrev pub view_turned : ViewBits → ℕ → ℕ → List Span
view_turned v node n = spans (other v) (view_of v node n)
