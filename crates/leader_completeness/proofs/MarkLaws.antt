-- The marks: the turns of the loop that moves them.
-- Assumes nothing.
use Prim.Native.Nat.{ℕ, suc, ◌+◌, ◌-◌, ◌<◌, ◌≤◌}
use native.Mathlib.Omega.{arith}
use mathlib.Core.Path.{◌≡◌, sym, ◌∙◌, ap}
use Rattle.model.specs.Sizes.{Bytes}
use Rattle.leader_completeness.specs.Marks.{mark_moved, marks_moved}
use Rattle.storage.specs.Head.{certificates_held}

-- ---- all of them

-- what is left of the certificates from the k-th on gives the rest
pub record Moving (h₀ : Bytes) (end m : ℕ) (h : Bytes) (k : ℕ) : Type 0 where
  pub rest : marks_moved h₀ end 0 (certificates_held h₀) ≡ marks_moved h end k (m - k)

module _ (h₀ : Bytes) (end m : ℕ) where
  pub moving_starts : m ≡ certificates_held h₀ → Moving h₀ end m h₀ 0
  moving_starts e = record { rest = ap (marks_moved h₀ end 0) (let z : certificates_held h₀ ≡ m - 0 = omega arith in z) }

  module _ (h : Bytes) (k : ℕ) (w : Moving h₀ end m h k) where
    pub moving_next : k < m → (u : Bytes) → u ≡ mark_moved h k end → Moving h₀ end m u (k + 1)
    unfolding marks_moved
    moving_next l u e =
        record {
          rest = w.rest ∙ ap (marks_moved h end k) (let z : m - k ≡ suc (m - (k + 1)) = omega arith in z)
              ∙ ap (λ (x : Bytes). marks_moved x end (k + 1) (m - (k + 1))) (sym e);
        }

    pub moving_ends : m ≤ k → h ≡ marks_moved h₀ end 0 (certificates_held h₀)
    unfolding marks_moved
    moving_ends l = sym (w.rest ∙ ap (marks_moved h end k) (let z : m - k ≡ 0 = omega arith in z))
