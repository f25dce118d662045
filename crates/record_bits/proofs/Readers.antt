-- Laws of the model's filling, in the form that the code's exits want.
-- Assumes nothing.
use Prim.Native.Nat.{ℕ, ◌+◌, ◌-◌, ◌*◌, ◌≤◌, ◌<◌}
use mathlib.Core.Path.{◌≡◌}
use mathlib.Core.Bool.{true, false}
use native.Mathlib.Omega.{arith}
use borrow.Author.Tests.{lt-ltb, le-ltb}
use lib.ListN.{length}
use lib.Dec.{eqb}
use Rattle.model.specs.Sizes.{Bytes}
use Rattle.model.specs.Reading.{field_at, filled}

-- ---- the filling

module _ (s : Bytes) (k : ℕ) where
  -- no bit is left
  pub filled_none : 8 * length s ≤ k → true ≡ filled s k
  unfolding filled field_at
  filled_none h = let e : 8 * length s - k ≡ 0 = omega arith in rw e

  -- a further byte
  pub filled_further : k + 8 ≤ 8 * length s → false ≡ filled s k
  unfolding filled
  filled_further h = rw (le-ltb (8 * length s - k) 8 (omega arith))

  -- the w bits of the filling
  pub filled_rest : (w v : ℕ) → 8 * length s ≡ k + w → w < 8 → v ≡ field_at s k w → eqb v 0 ≡ filled s k
  unfolding filled
  filled_rest w v e h q = let f : 8 * length s - k ≡ w = omega arith in rw (f, lt-ltb w 8 h, q)
