-- Document 01, "The printed sheet": a recording split into its pieces, "each behind a 16-bit byte length, high byte first".
-- Assumes nothing.
use Rattle.std.specs.Prelude.{ℕ, zero, suc, ◌+◌, ◌-◌, ◌≡◌, cond, List, [], ◌∷◌, ltb, eqb, length, drop}
use Rattle.model.specs.Sizes.{Bytes}
use Rattle.storage_bytes.specs.Words.{word_at, bytes_at}
use Rattle.storage_bytes.specs.Layout.{part}
use Rattle.sheet_text.specs.declared.split.Piece as code

-- a record, perhaps of no bytes; or a piece "cut in its length or body"
pub data Piece : Type 0 where
  whole : Bytes → Piece
  cut : Piece

-- "a cut piece ends the input"; at most as many pieces as said
unfoldable pub pieces_in : ℕ → Bytes → List Piece
unfolding word_at part
pieces_in zero s = []
pieces_in (suc most) s =
    cond (eqb (length s) 0) []
    (cond (ltb (length s) 2) (cut ∷ [])
    (cond (ltb (length s - 2) (word_at s 0 2)) (cut ∷ [])
    (whole (part s 2 (word_at s 0 2)) ∷ pieces_in most (drop (2 + word_at s 0 2) s))))

-- the pieces of a recording: each takes two bytes or more
unfoldable pub pieces : Bytes → List Piece
unfolding pieces_in
pieces s = pieces_in (suc (length s)) s

-- the piece at a place of the bytes, as `piece_at` answers it
unfoldable pub piece_at : Bytes → ℕ → code.Piece
piece_at s at =
    cond (eqb (length s - at) 0) code.Piece.Nothing
    (cond (ltb (length s - at) 2) code.Piece.Cut
    (cond (ltb (length s - at - 2) (word_at s at 2)) code.Piece.Cut (code.Piece.Whole (at + 2) (word_at s at 2))))

-- the pieces of s as its first one, and where it lies, tell them
abbrev pub pieces_by : Bytes → code.Piece → List Piece
pieces_by s (code.Piece.Whole body size) = whole (part s body size) ∷ pieces (drop (body + size) s)
pieces_by s code.Piece.Cut = cut ∷ []
pieces_by s code.Piece.Nothing = []

-- what `piece_at` gives: the piece at the place, and by it the pieces of the rest
pub record Split (s : Bytes) (at : ℕ) (r : code.Piece) : Type 0 where
  pub answer : r ≡ piece_at s at
  pub rest : pieces (drop at s) ≡ pieces_by s r

-- the bytes from a to e were moved to the front: how many they are, and what the first of them are
pub record Moved (t : Bytes) (a e r : ℕ) (t' : Bytes) : Type 0 where
  pub count : r ≡ e - a
  pub front : bytes_at t' 0 r ≡ bytes_at t a r
