-- What the reader answers of a whole record, in the model's words, and the model's reading as such an answer.
-- Assumes nothing.
use Rattle.std.specs.Prelude.{ℕ, ◌^◌, ◌≤◌, ◌<◌, ◌≡◌, cond, length, is_some, unwrap_or, Result, Ok, Err}
use Rattle.std.specs.Bool.{then_some}
use Rattle.model.specs.Refusal.{Refusal, unknownKind, bitsMissing, filling, outOfLimit, notAbove, prefixesFull, findingsFull, old_exceeds_new, lengthExceedsFront, certificatesFull, leaderLogsFull}
use Rattle.model.specs.Record.{Record, view, commit, terms, election, check, rows, leader}
use Rattle.model.specs.Reading.{Reader, Reading, readable, unreadable, filled, finish, read}
use Rattle.model.specs.Sizes.{Bytes, node_count, index_limit}
use Rattle.record_bits.specs.declared.bits.Fault.{Fault}
use Rattle.record_reading.specs.declared.head.Head.{Head}
use Rattle.record_bits.specs.Answers.{refusal_of}
use Rattle.record_entries.specs.BitLayout.{view_bits, entries_at, rows_at, first_entry, first_row}

-- the record that an answer stands for: the entries and rows are those in the bytes
abbrev pub reading_of : Bytes → Result Head Fault → Reading
reading_of s (Ok (Head.View n c)) = readable (view n.0 (entries_at (view_bits s) first_entry c))
reading_of s (Ok (Head.Commit n i)) = readable (commit n.0 i.0)
reading_of s (Ok (Head.Terms x)) = readable (terms x.old.0 x.new.0 x.term.0)
reading_of s (Ok (Head.Election x)) = readable (election x.leader.0 x.term.0 (is_some x.length) (unwrap_or x.length 0))
reading_of s (Ok Head.Check) = readable check
reading_of s (Ok (Head.Rows c)) = readable (rows (rows_at s first_row c))
reading_of s (Ok (Head.Leader x)) = readable (leader x.node.0 x.term.0)
reading_of s (Err f) = unreadable (refusal_of f)

-- the answer r stands for what the fields of a kind, which follow its 4 bits, say
abbrev pub Reads : Reader Record → Bytes → Result Head Fault → Type 0
Reads fields s r = finish s (fields s 4) ≡ reading_of s r

-- the head, or 3 where what follows the fields is not the filling
abbrev pub finished : Bytes → ℕ → Head → Result Head Fault
finished s k h = cond (filled s k) (Ok h) (Err Fault.Filling)

-- a refusal as a fault of reading. Reading gives no other refusal, so the last ones do not matter.
abbrev pub fault_of : Refusal → Fault
fault_of unknownKind = Fault.UnknownKind
fault_of bitsMissing = Fault.BitsMissing
fault_of filling = Fault.Filling
fault_of outOfLimit = Fault.OutOfLimit
fault_of notAbove = Fault.NotAbove
fault_of prefixesFull = Fault.UnknownKind
fault_of findingsFull = Fault.UnknownKind
fault_of old_exceeds_new = Fault.UnknownKind
fault_of lengthExceedsFront = Fault.UnknownKind
fault_of certificatesFull = Fault.UnknownKind
fault_of leaderLogsFull = Fault.UnknownKind

-- the answer that the model's reading asks for
abbrev pub head_of : Reading → Result Head Fault
head_of (readable (view n es)) = Ok (Head.View (record { 0 = n }) (length es))
head_of (readable (commit n i)) = Ok (Head.Commit (record { 0 = n }) (record { 0 = i }))
head_of (readable (terms o n t)) = Ok (Head.Terms (record { old = record { 0 = o }; new = record { 0 = n }; term = record { 0 = t } }))
head_of (readable (election l t p n)) = Ok (Head.Election (record { leader = record { 0 = l }; term = record { 0 = t }; length = then_some p n }))
head_of (readable check) = Ok Head.Check
head_of (readable (rows rs)) = Ok (Head.Rows (length rs))
head_of (readable (leader n t)) = Ok (Head.Leader (record { node = record { 0 = n }; term = record { 0 = t } }))
head_of (unreadable r) = Err (fault_of r)

-- the fields of an answer are within document 01's limits
abbrev pub Within : Result Head Fault → Type 0
Within (Ok (Head.View n c)) = (n.0 < node_count) × (c ≤ index_limit)
Within (Ok (Head.Commit n i)) = (n.0 < node_count) × (i.0 ≤ index_limit)
Within (Ok (Head.Terms x)) = (x.old.0 ≤ index_limit) × (x.new.0 ≤ index_limit) × (x.term.0 < 2 ^ 32)
Within (Ok (Head.Election x)) = (x.leader.0 < node_count) × (x.term.0 < 2 ^ 32) × (unwrap_or x.length 0 ≤ index_limit)
Within (Ok Head.Check) = Unit {0}
Within (Ok (Head.Rows c)) = c ≤ index_limit
Within (Ok (Head.Leader x)) = (x.node.0 < node_count) × (x.term.0 < 2 ^ 32)
Within (Err f) = Unit {0}

-- what `read` promises of its answer r to any bytes: it is the model's, it stands for just what the model reads, and its
-- fields are within their limits
pub record Told (s : Bytes) (r : Result Head Fault) : Type 0 where
  pub head : r ≡ head_of (read s)
  pub reading : read s ≡ reading_of s r
  pub within : Within r
