-- Noting a finding once, in a copy of the history's table, which is then written back, or in the history itself. Where there are
-- too many, nothing more is noted.
-- Assumes nothing.
use Rattle.std.specs.Prelude.{ℕ, ◌+◌, ◌*◌, ◌≡◌, Bool, cond, ◌&&◌, List, [], ◌∷◌, leb, ltb, eqb, Result, Ok, Err, ⊤}
use Rattle.log_violation.specs.declared.violation.FindingsFull.{FindingsFull}
use Rattle.model.specs.History.{Finding}
use Rattle.model.specs.Sizes.{Bytes, finding_limit}
use Rattle.storage_bytes.specs.Lists.{tabulate, some}
use Rattle.storage_bytes.specs.Words.{word_at, put_bytes}
use Rattle.storage_bytes.specs.Layout.{findings_start, finding_width, findings_field}
use Rattle.storage.specs.Tables.{finding_row, findings_part}
use Rattle.storage.specs.Writes.{finding_bytes}
use Rattle.storage.specs.Head.{findings_held, put_head_field}

unfoldable pub same_numbers : Finding → Finding → Bool
same_numbers f g =
    eqb f.index g.index && (eqb f.term g.term && (eqb f.node g.node && eqb f.name g.name))

-- the finding is among the first n
abbrev pub is_noted : Bytes → ℕ → Finding → Bool
is_noted t n f = some (λ g. same_numbers g f) (tabulate (finding_row t) 0 n)

-- one more than the limit: too many. From then on the count stays so
abbrev pub too_many : ℕ
too_many = finding_limit + 1

-- how many are held after the finding is noted among n
unfoldable pub note_held : Bytes → ℕ → Finding → ℕ
unfolding same_numbers some
note_held t n f = cond (ltb finding_limit n) n (cond (is_noted t n f) n (n + 1))

-- the table after it
unfoldable pub note_bytes : Bytes → ℕ → Finding → Bytes
unfolding same_numbers some
note_bytes t n f = cond (leb finding_limit n) t (cond (is_noted t n f) t (put_bytes t (n * finding_width) (finding_bytes f)))

-- one after the other
unfoldable pub held_all : Bytes → ℕ → List Finding → ℕ
unfolding note_held note_bytes
held_all t n [] = n
held_all t n (f ∷ fs) = held_all (note_bytes t n f) (note_held t n f) fs

unfoldable pub bytes_all : Bytes → ℕ → List Finding → Bytes
unfolding note_held note_bytes
bytes_all t n [] = t
bytes_all t n (f ∷ fs) = bytes_all (note_bytes t n f) (note_held t n f) fs

-- the findings fs noted in a table of n: how many it holds then, and the table
abbrev pub NotedAll : Bytes → ℕ → List Finding → ℕ → Bytes → Type 0
NotedAll t n fs held after = (held ≡ held_all t n fs) × (after ≡ bytes_all t n fs)

-- a finding that is noted where b is true
abbrev pub note_if : Bool → Finding → List Finding
note_if b f = cond b (f ∷ []) []

-- whether n findings fit
unfoldable pub fits_answer : ℕ → Result ⊤ FindingsFull
fits_answer n = cond (ltb finding_limit n) (Err (record {})) (Ok tt)

-- a table written as the history's, with how many it holds
unfoldable pub findings_written : Bytes → Bytes → ℕ → Bytes
findings_written h t n = put_head_field findings_field (put_bytes h findings_start t) n

-- a table that was made from the history's by noting: as many as the history holds are its own, and nothing is written
unfoldable pub findings_kept : Bytes → Bytes → ℕ → Bytes
unfolding word_at findings_written
findings_kept h t n = cond (eqb n (findings_held h)) h (findings_written h t n)

-- there is room for the finding among the history's own
unfoldable pub room_for : Bytes → Finding → Bool
unfolding note_held
room_for h f = leb (note_held (findings_part h) (findings_held h) f) finding_limit

-- whether it is noted there, or too many would be held
unfoldable pub room_answer : Bytes → Finding → Result ⊤ FindingsFull
unfolding room_for
room_answer h f = cond (room_for h f) (Ok tt) (Err (record {}))

-- a finding noted among the history's own; where there is no room, nothing is written
unfoldable pub noted_in : Bytes → Finding → Bytes
unfolding room_for note_held note_bytes findings_written
noted_in h f =
    cond (room_for h f) (findings_written h (note_bytes (findings_part h) (findings_held h) f) (note_held (findings_part h) (findings_held h) f)) h
