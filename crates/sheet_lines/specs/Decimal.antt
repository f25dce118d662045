-- A number in decimal digits, and what a function that puts bytes into the output promises.
-- Assumes nothing.
use Rattle.std.specs.Prelude.{ℕ, zero, suc, ◌+◌, ◌/◌, ◌%◌, ◌≤◌, ◌≡◌, cond, [], ◌∷◌, ◌++◌, ltb, length}
use Rattle.model.specs.Sizes.{Bytes}
use Rattle.storage_bytes.specs.Words.{put_bytes}

-- the digits before the last, then the last; as many as there are, up to `most`
unfoldable pub digits : ℕ → ℕ → Bytes
digits zero v = []
digits (suc most) v = cond (ltb v 10) ((48 + v) ∷ []) (digits most (v / 10) ++ ((48 + v % 10) ∷ []))

-- a number in decimal digits, with no zero in front: v has at most v + 1 of them
unfoldable pub decimal : ℕ → Bytes
unfolding digits
decimal v = digits (suc v) v

-- no number that the sheet prints has more digits
abbrev pub digits_room : ℕ
digits_room = 20

-- the bytes vs, no more than `most`, were put into t from `from` on: r is where they end, and t' are the bytes after it
pub record Put (most : ℕ) (t : Bytes) (from : ℕ) (vs : Bytes) (r : ℕ) (t' : Bytes) : Type 0 where
  pub next : r ≡ from + length vs
  pub bytes : t' ≡ put_bytes t from vs
  pub within : length vs ≤ most
