-- What is proved of the converter's definition: `converted edition s b` is what a call gives and leaves.
-- Assumes nothing.
use Rattle.std.specs.Prelude.{ℕ, ◌≤◌, ◌≡◌, Bool, true, false, length, take}
use Rattle.model.specs.Sizes.{Bytes}
use Rattle.model.specs.Record.{Record, view, commit, terms, election, check, rows, leader}
use Rattle.model.specs.Reading.{readable, read}
use Rattle.record_entries.specs.BitLayout.{is_marked}
use Rattle.record_writing.specs.Format.{view_kind}
use Rattle.record_writing.specs.Spans.{shows, spell}
use Rattle.record_writing.specs.Laws.{AreBytes}
use Rattle.record_writing.specs.Writing.{put_record}
use Rattle.record_editions.specs.Editions.{converted}

-- the record that a call gives
abbrev pub result : ℕ → Bytes → Bytes → Bytes
result edition s b = take (converted edition s b).length (converted edition s b).bytes

-- what it gives reads as the same record
abbrev pub SameRecord : Type 0
SameRecord = (edition : ℕ) (s b : Bytes) → (converted edition s b).refusal ≡ 0 → read (result edition s b) ≡ read s

-- A record turned into an edition that can show it, where there is room for it there, and back into its own, is written as the
-- bytes that it had: every record of kind 1 by way of 9, and a view of kind 9 without a configuration entry by way of 1.
abbrev pub ThereAndBack : Type 0
ThereAndBack =
    (s : Bytes) (r : Record) (marked : Bool) (b c : Bytes) → AreBytes s → read s ≡ readable r → shows marked r ≡ true
    → length (spell marked r) ≤ length b
    → converted (view_kind (is_marked s)) (result (view_kind marked) s b) c ≡ put_record c s

-- a view already of the edition wanted is copied unchanged
abbrev pub Unchanged : Type 0
Unchanged = (s : Bytes) (r : Record) (b : Bytes) → AreBytes s → read s ≡ readable r → converted (view_kind (is_marked s)) s b ≡ put_record b s

abbrev pub is_view : Record → Bool
is_view (view n es) = true
is_view (commit n i) = false
is_view (terms o n t) = false
is_view (election l t p n) = false
is_view check = false
is_view (rows rs) = false
is_view (leader n t) = false

-- and so is a record that is no view, in either edition
abbrev pub OthersUnchanged : Type 0
OthersUnchanged =
    (s : Bytes) (r : Record) (marked : Bool) (b : Bytes) → AreBytes s → read s ≡ readable r → is_view r ≡ false
    → converted (view_kind marked) s b ≡ put_record b s
