-- Document 01, "The printed sheet": the bytes of each line.
-- Assumes nothing.
use Rattle.std.specs.Prelude.{ℕ, ◌+◌, cond, [], ◌∷◌, ◌++◌, eqb}
use Rattle.model.specs.Sizes.{Bytes}
use Rattle.answers.specs.declared.numbers.Reply.{Reply}
use Rattle.sheet_lines.specs.Decimal.{decimal, digits_room}

-- a number behind a space
abbrev pub field : ℕ → Bytes
field v = 32 ∷ decimal v

abbrev pub line_end : Bytes
line_end = 10 ∷ []

-- " ok", or the refusal behind a space
abbrev pub outcome : ℕ → Bytes
outcome refusal = cond (eqb refusal 0) (32 ∷ 111 ∷ 107 ∷ []) (field refusal)

-- how many bytes each takes at most: a number behind a space, the last number of a line with its end, and the last two
abbrev pub field_room : ℕ
field_room = 1 + digits_room

abbrev pub last_room : ℕ
last_room = field_room + 1

abbrev pub pair_room : ℕ
pair_room = field_room + last_room

-- a record's line, and those of the lists: the word, and its numbers
abbrev pub record_room : ℕ
record_room = digits_room + field_room + field_room + pair_room

abbrev pub finding_room : ℕ
finding_room = 4 + digits_room + field_room + pair_room

abbrev pub leader_room : ℕ
leader_room = 6 + pair_room

abbrev pub unseen_room : ℕ
unseen_room = 6 + pair_room

abbrev pub unknown_room : ℕ
unknown_room = 7 + last_room

abbrev pub committed_room : ℕ
committed_room = 9 + pair_room

-- number, kind, `ok` or refusal, value, node
unfoldable pub record_line : ℕ → ℕ → Reply → Bytes
record_line n kind r = decimal n ++ field kind ++ outcome r.refusal ++ field r.value ++ field r.node ++ line_end

-- "LG-0", the rest of the name, node, index, term
unfoldable pub finding_line : ℕ → ℕ → ℕ → ℕ → Bytes
finding_line name node index term =
    (76 ∷ 71 ∷ 45 ∷ 48 ∷ []) ++ decimal name ++ field node ++ field index ++ field term ++ line_end

-- "leader", term, node
unfoldable pub leader_line : ℕ → ℕ → Bytes
leader_line term leader = (108 ∷ 101 ∷ 97 ∷ 100 ∷ 101 ∷ 114 ∷ []) ++ field term ++ field leader ++ line_end

-- "unseen", node, index
unfoldable pub unseen_line : ℕ → ℕ → Bytes
unseen_line node index = (117 ∷ 110 ∷ 115 ∷ 101 ∷ 101 ∷ 110 ∷ []) ++ field node ++ field index ++ line_end

-- "unknown", index
unfoldable pub unknown_line : ℕ → Bytes
unknown_line index = (117 ∷ 110 ∷ 107 ∷ 110 ∷ 111 ∷ 119 ∷ 110 ∷ []) ++ field index ++ line_end

-- "committed", length, owner
unfoldable pub committed_line : ℕ → ℕ → Bytes
committed_line length owner =
    (99 ∷ 111 ∷ 109 ∷ 109 ∷ 105 ∷ 116 ∷ 116 ∷ 101 ∷ 100 ∷ []) ++ field length ++ field owner ++ line_end
