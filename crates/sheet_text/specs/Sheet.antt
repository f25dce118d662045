-- Document 01, "The printed sheet": what a piece is answered, and the lines and the history of pieces taken in turn.
-- Assumes nothing.
use Rattle.std.specs.Prelude.{ℕ, ◌+◌, ◌*◌, ◌/◌, ◌≤◌, ◌<◌, ◌≡◌, cond, List, [], ◌∷◌, ◌++◌, eqb, length, get_or, take, drop}
use Rattle.model.specs.Sizes.{Bytes}
use Rattle.answers.specs.Numbers.{refusal_in, reply_of}
use Rattle.submission.specs.Replies.{submit_answer, submit_bytes}
use Rattle.sheet_text.specs.declared.taking.Progress.{Progress}
use Rattle.sheet_text.specs.declared.split.Piece as code
use Rattle.sheet_text.specs.Pieces.{Piece, whole, cut, pieces, piece_at}
use Rattle.sheet_lines.specs.Filled.{Filled}
use Rattle.sheet_lines.specs.declared.decimal.Sheet.{Sheet}
use Rattle.sheet_lines.specs.Lines.{record_line, record_room}

-- "kind (its first four bits)", 0 where there is none
abbrev pub kind_of : Bytes → ℕ
kind_of s = get_or s 0 0 / 16

-- "a piece cut in its length or body, or of length zero, has kind 0 and refusal 2"
abbrev pub cut_line : ℕ → Bytes
cut_line number = record_line number 0 (refusal_in 2)

-- so many records are taken at a time, and their lines have room
abbrev pub taken_most : ℕ
taken_most = 600

abbrev pub taken_room : ℕ
taken_room = taken_most * record_room

-- the line of the record s, handed to the bytes h
unfoldable pub line_for : ℕ → Bytes → Bytes → Bytes
line_for number h s = cond (eqb (length s) 0) (cut_line number) (record_line number (kind_of s) (reply_of (submit_answer h s)))

-- the bytes of the history after it
unfoldable pub bytes_after : Bytes → Bytes → Bytes
bytes_after h s = cond (eqb (length s) 0) h (submit_bytes h s)

-- the record s was handed to the bytes h and its line put into the sheet t: h' and t' are the bytes and the sheet after it
pub record HandedOver (h s : Bytes) (t : Sheet) (number : ℕ) (h' : Bytes) (t' : Sheet) : Type 0 where
  pub line : Filled record_room t (line_for number h s) t'
  pub history : h' ≡ bytes_after h s

-- the lines of pieces in turn, numbered from n on, of which the first is handed to the bytes h
unfoldable pub record_lines : ℕ → Bytes → List Piece → Bytes
unfolding bytes_after
record_lines n h [] = []
record_lines n h (whole s ∷ ps) = line_for n h s ++ record_lines (n + 1) (bytes_after h s) ps
record_lines n h (cut ∷ ps) = cut_line n ++ record_lines (n + 1) h ps

-- the bytes of the history after them
unfoldable pub bytes_through : Bytes → List Piece → Bytes
unfolding bytes_after
bytes_through h [] = h
bytes_through h (whole s ∷ ps) = bytes_through (bytes_after h s) ps
bytes_through h (cut ∷ ps) = bytes_through h ps

-- of the pieces from `start` on the first p .count were taken, as the numbers from `first` on, the first one handed to h
pub record Taken (h block : Bytes) (t : Sheet) (first start : ℕ) (p : Progress) (h' : Bytes) (t' : Sheet) : Type 0 where
  pub lines : Filled taken_room t (record_lines first h (take p.count (pieces (drop start block)))) t'
  pub history : h' ≡ bytes_through h (take p.count (pieces (drop start block)))
  pub rest : pieces (drop p.from block) ≡ drop p.count (pieces (drop start block))
  -- whatever bytes follow the block, these pieces come first, and then those of its rest and of what follows
  pub joined : (more : Bytes) → pieces (drop start block ++ more) ≡ take p.count (pieces (drop start block)) ++ pieces (drop p.from block ++ more)
  pub long : length (take p.count (pieces (drop start block))) ≡ p.count
  pub within : p.from ≤ length block
  pub on : start + p.count ≤ p.from
  -- at most 600, and fewer only where no whole piece is left
  pub most : p.count ≤ taken_most
  pub stopped : p.count < taken_most → (body size : ℕ) → piece_at block p.from ≡ code.Piece.Whole body size → ⊥
