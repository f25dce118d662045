-- What a search answers, to and from the number it finds.
-- Assumes nothing.
use Prim.Native.Nat.{ℕ, ◌+◌}
use native.Mathlib.Omega.{arith}
use mathlib.Core.Path.{◌≡◌, sym, ◌∙◌, ap}
use Rattle.model.proofs.Tests.{zero_none, above_some, unless_none, unless_some}
use Rattle.units.specs.declared.LogPrefixWitness.{LogPrefixWitness}
use Rattle.log_prefix.specs.Prefix.{witness, stored_of}
use Rattle.std.specs.Prelude.{Option, Some, None}

pub stored_some : (k r : ℕ) → r ≡ k + 1 → Some (witness (k + 1)) ≡ stored_of r
unfolding stored_of
stored_some k r e = above_some (k + 1) (witness (k + 1)) (λ z. omega arith) ∙ ap stored_of (sym e)

pub stored_none : (r : ℕ) → r ≡ 0 → None ≡ stored_of r
unfolding stored_of
stored_none r e = zero_none r (witness r) e

-- a number that was read
pub stored_read : (p r : ℕ) → p ≡ r → (p ≡ 0 → ⊥) → Some (witness p) ≡ stored_of r
unfolding stored_of
stored_read p r e z = above_some p (witness p) z ∙ ap stored_of e

-- ---- from the answer to the number

module _ (k : ℕ) (r : Option LogPrefixWitness) (e : r ≡ stored_of k) where
  pub stored_number : (w : LogPrefixWitness) → r ≡ Some w → (w.0 ≡ k) × (k ≡ 0 → ⊥)
  unfolding stored_of
  stored_number w q = let p = unless_some k (witness k) e w q in (ap (λ (x : LogPrefixWitness). x.0) p.0, p.1)

  pub stored_nothing : r ≡ None → k ≡ 0
  unfolding stored_of
  stored_nothing q = unless_none k (witness k) e q
