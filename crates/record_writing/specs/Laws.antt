-- What is proved of three definitions: what a list of numbers is as a record, how a record is spelled, in either edition of a
-- view, and what bytes are read as.
-- Assumes nothing.
use Rattle.std.specs.Prelude.{ℕ, Bool, true, false, List, ◌≤◌, ◌<◌, ◌≡◌, get_or, take}
use Rattle.model.specs.Sizes.{Bytes}
use Rattle.model.specs.Record.{Record}
use Rattle.model.specs.Reading.{field_at, readable, read}
use Rattle.record_entries.specs.BitLayout.{is_marked}
use Rattle.record_writing.specs.Spans.{fields, spell, shows}
use Rattle.record_writing.specs.Given.{last_kind, given}
use Rattle.record_writing.specs.Writing.{written, put_record}

-- a list that is a record is the list of its fields
abbrev pub OneList : Type 0
OneList = (fs : List ℕ) (r : Record) → given fs ≡ readable r → fs ≡ fields r

-- reading a record's bytes yields the record that was given
abbrev pub ReadBack : Type 0
ReadBack = (fs : List ℕ) (r : Record) → given fs ≡ readable r → read (spell false r) ≡ readable r

-- numbers below 256, as bytes are
abbrev pub AreBytes : Bytes → Type 0
AreBytes s = (i : ℕ) → get_or s i 0 < 256

-- bytes that read as a record are its spelling in their edition: so a record has one spelling in each
abbrev pub SpelledAsRead : Type 0
SpelledAsRead = (s : Bytes) (r : Record) → AreBytes s → read s ≡ readable r → spell (is_marked s) r ≡ s

-- a record that was read is read again from its spelling in each edition that can show it
abbrev pub ReadInEither : Type 0
ReadInEither = (s : Bytes) (r : Record) (marked : Bool) → read s ≡ readable r → shows marked r ≡ true → read (spell marked r) ≡ readable r

-- bytes that read as a record of the writer's kinds: its fields are given as that record, and are written as these bytes
pub record SameBytes (s : Bytes) (r : Record) : Type 0 where
  pub numbers : given (fields r) ≡ readable r
  pub bytes : spell false r ≡ s

abbrev pub OneSpelling : Type 0
OneSpelling =
    (s : Bytes) (r : Record) → AreBytes s → field_at s 0 4 ≤ last_kind → read s ≡ readable r → SameBytes s r

-- ---- of the writer: `written fs b` is what a call gives and leaves

-- the bytes that a call wrote read as the record that its list is
abbrev pub ReadsWritten : Type 0
ReadsWritten =
    (fs : List ℕ) (b : Bytes) → (written fs b).refusal ≡ 0
    → read (take (written fs b).length (written fs b).bytes) ≡ given fs

-- a call with the fields of bytes that are a record of these kinds writes these bytes, where there is room
abbrev pub WritesRead : Type 0
WritesRead =
    (s : Bytes) (r : Record) (b : Bytes) → AreBytes s → field_at s 0 4 ≤ last_kind → read s ≡ readable r
    → written (fields r) b ≡ put_record b s
