-- Numbers in bytes, high byte first, of any width, and the one definition of a write.
-- Assumes nothing.
use Rattle.std.specs.Prelude.{ℕ, zero, suc, ◌+◌, ◌*◌, ◌/◌, ◌%◌, ◌^◌, ◌<◌, Bool, true, false, ◌&&◌, ◌≡◌, eqb, [], ◌∷◌, ◌++◌, get_or, set}
use Rattle.storage_bytes.specs.Lists.{tabulate}
use Rattle.model.specs.Sizes.{Bytes}

-- the number in the n bytes at o
unfoldable pub word_at : Bytes → ℕ → ℕ → ℕ
word_at t o zero = 0
word_at t o (suc n) = word_at t o n * 256 + get_or t (o + n) 0

-- a number in n bytes, of which it keeps the low ones
unfoldable pub word_bytes : ℕ → ℕ → Bytes
word_bytes zero v = []
word_bytes (suc n) v = word_bytes n (v / 256) ++ (v % 256 ∷ [])

-- the n bytes at o
unfoldable pub bytes_at : Bytes → ℕ → ℕ → Bytes
unfolding tabulate
bytes_at t o n = tabulate (λ i. get_or t i 0) o n

-- the bytes with others written from o on
unfoldable pub put_bytes : Bytes → ℕ → Bytes → Bytes
put_bytes t o [] = t
put_bytes t o (v ∷ vs) = put_bytes (set t o v) (o + 1) vs

-- a number that n bytes hold
abbrev pub Fits : ℕ → ℕ → Type 0
Fits n v = v < 256 ^ n

-- what reading a number of n bytes gives: the number, and that it fits its bytes
pub record Word (t : Bytes) (o n r : ℕ) : Type 0 where
  pub is : r ≡ word_at t o n
  pub below : Fits n r

-- the same bytes, one by one
unfoldable pub same_bytes : Bytes → Bytes → Bool
same_bytes [] [] = true
same_bytes [] (b ∷ bs) = false
same_bytes (a ∷ as') [] = false
same_bytes (a ∷ as') (b ∷ bs) = eqb a b && same_bytes as' bs
