-- What a line's numbers bring to the recording: the record behind its length in two bytes, or nothing where they are none.
-- Assumes nothing.
use Rattle.std.specs.Prelude.{ℕ, cond, List, [], ◌++◌, eqb, length, take, replicate}
use Rattle.model.specs.Sizes.{Bytes}
use Rattle.storage_bytes.specs.Words.{word_bytes}
use Rattle.record_writing.specs.Writing.{Written, written}
use Rattle.record_lines.specs.declared.Line.{Line}

-- a record as it stands in a recording
abbrev pub piece : Bytes → Bytes
piece s = word_bytes 2 (length s) ++ s

abbrev pub piece_of : Written → Bytes
piece_of w = cond (eqb w.refusal 0) (piece (take w.length w.bytes)) []

-- the numbers are written into as many bytes as the longest record has
unfoldable pub numbers_piece : List ℕ → Bytes
unfolding written word_bytes
numbers_piece fs = piece_of (written fs (replicate 9731 0))

-- what a line brings, of whose numbers the first ones are kept
abbrev pub line_piece : Line → List ℕ → Bytes
line_piece l fs = cond l.unreadable [] (numbers_piece (take l.count fs))
