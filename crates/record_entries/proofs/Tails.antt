-- What stands between an entry's term and its content: its mark, where it is shown, and its content length.
-- Assumes nothing.
use Prim.Native.Nat.{ℕ, ◌+◌, ◌*◌, ◌%◌}
use mathlib.Core.Path.{◌≡◌, refl, ap, sym, ◌∙◌}
use mathlib.Core.Bool.{Bool, true, false, not}
use native.Mathlib.Omega.{arith}
use borrow.Author.Tests.{leb-true, le-leb, eqb-true, eq-eqb}
use lib.Dec.{leb}
use Rattle.model.specs.Sizes.{Bytes}
use Rattle.model.specs.Reading.{field_at}
use Rattle.model.proofs.Tests.{tf, test_ext}
use Rattle.record_bits.proofs.Widths.{field_lt, split, head_parts}
use Rattle.record_entries.specs.BitLayout.{bits_of, mark_at, length_at}

-- without a mark the length ends the first 48 bits
pub unmarked_length : (m : Bool) (s : Bytes) (k h : ℕ) → not m ≡ true → h ≡ field_at s k 48 → h % 64 ≡ length_at (bits_of s m) k
unmarked_length true s k h e q = absurd (tf (sym e))
unmarked_length false s k h e q = (head_parts s k h q).2

pub unmarked : (m : Bool) (s : Bytes) (k : ℕ) → not m ≡ true → false ≡ mark_at (bits_of s m) k
unmarked true s k e = absurd (tf (sym e))
unmarked false s k e = refl

-- the seven bits of both
module _ (s : Bytes) (k v : ℕ) (is : v ≡ field_at s (k + 42) 7) where
  parts : v ≡ field_at s (k + 42) 1 * 64 + field_at s (k + 43) 6
  parts =
      let e : k + 42 + 1 ≡ k + 43 = omega arith in
      is ∙ split s (k + 42) 1 6 ∙ ap (λ (a : ℕ). field_at s (k + 42) 1 * 64 + field_at s a 6) e

  pub marked_mark : (m : Bool) → not m ≡ false → leb 64 v ≡ mark_at (bits_of s m) k
  marked_mark true e =
      let a = field_lt s (k + 42) 1 in
      let b = field_lt s (k + 43) 6 in
      test_ext _ _ (λ x. eq-eqb (field_at s (k + 42) 1) 1 (omega (arith, leb-true 64 v x, parts, a, b)))
      (λ x. le-leb 64 v (omega (arith, eqb-true (field_at s (k + 42) 1) 1 x, parts)))
  marked_mark false e = absurd (tf e)

  pub marked_length : (m : Bool) → not m ≡ false → v % 64 ≡ length_at (bits_of s m) k
  marked_length true e = omega (arith, parts, field_lt s (k + 43) 6)
  marked_length false e = absurd (tf e)
