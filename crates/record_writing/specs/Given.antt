-- What a list of numbers is as a record: the writer's fields, the kind first, one number a field. The list is read from the
-- left, and the answer is the record or the first fault. A view is written without marks, as kind 1.
-- Assumes nothing.
use Rattle.std.specs.Prelude.{ℕ, ◌+◌, ◌^◌, Bool, false, cond, List, leb, ltb, eqb, length, get_or}
use Rattle.model.specs.Refusal.{unknownKind, bitsMissing, filling, outOfLimit}
use Rattle.model.specs.Record.{Shown, Configuration, Row, Record}
use Rattle.model.specs.Reading.{Reader, Part, got, fault, ◌>>=◌, Reading, readable, unreadable}
use Rattle.record_writing.specs.Format.{content_byte, limited, yes_no, governed, entry_index, row_node, shown, configuration, row, view_fields, fields_of}

-- the next number of the list, for a field of w bits: 2 where the list has ended, 4 where the bits do not hold it
unfoldable pub number : ℕ → Reader ℕ
number w fs k =
    cond (ltb k (length fs))
    (cond (ltb (get_or fs k 0) (2 ^ w)) (got (get_or fs k 0) (k + 1)) (fault outOfLimit))
    (fault bitsMissing)

-- ---- the fields and the kinds, of numbers

abbrev pub limited_number : ℕ → ℕ → Reader ℕ
limited_number = limited number

abbrev pub content_number : ℕ → Reader ℕ
content_number = content_byte number

abbrev pub yes_no_number : Reader Bool
yes_no_number = yes_no number

abbrev pub governed_number : Bool → ℕ → ℕ → Reader ℕ
governed_number = governed number

abbrev pub entry_index_number : ℕ → Reader ℕ
entry_index_number = entry_index number

abbrev pub row_node_number : ℕ → Reader ℕ
row_node_number = row_node number

abbrev pub shown_numbers : ℕ → Reader Shown
shown_numbers = shown number false

abbrev pub view_numbers : Reader Record
view_numbers = view_fields number false

abbrev pub configuration_numbers : Reader Configuration
configuration_numbers = configuration number

abbrev pub row_numbers : ℕ → Reader Row
row_numbers = row number

-- the writer's kinds are 1 to 6, whatever other kinds are read
abbrev pub last_kind : ℕ
last_kind = 6

-- the kind: every number that is none of the writer's is unknown, however large
unfoldable pub kind_number : Reader ℕ
kind_number fs k =
    cond (ltb k (length fs))
    (cond (leb (get_or fs k 0) last_kind) (got (get_or fs k 0) (k + 1)) (fault unknownKind))
    (fault bitsMissing)

unfoldable pub record_numbers : Reader Record
unfolding kind_number fields_of
record_numbers = do
  kind ← kind_number
  fields_of number kind

-- last, 3: the list goes on
abbrev pub last_number : List ℕ → Part Record → Reading
last_number fs (got r k) = cond (eqb k (length fs)) (readable r) (unreadable filling)
last_number fs (fault r) = unreadable r

unfoldable pub given : List ℕ → Reading
unfolding record_numbers
given fs = last_number fs (record_numbers fs 0)

-- the refusal alone
abbrev pub verdict : Reading → Part ℕ
verdict (readable r) = got 0 0
verdict (unreadable f) = fault f
