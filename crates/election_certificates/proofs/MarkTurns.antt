-- The loop that lowers marks, turn by turn, and what one turn does.
-- Assumes nothing.
use Prim.Native.Nat.{ℕ, suc, ◌-◌, ◌≤◌, ◌<◌}
use native.Mathlib.Omega.{arith}
use mathlib.Core.Path.{◌≡◌, sym, ◌∙◌, ap, subst}
use lib.Dec.{leb}
use lib.ListN.{length}
use borrow.Author.Tests.{le-leb, lt-leb}
use Rattle.model.specs.Sizes.{Bytes, certificate_limit}
use Rattle.model.proofs.Tests.{cond_true, cond_false}
use Rattle.storage_bytes.specs.Words.{word_bytes}
use Rattle.storage_bytes.specs.Layout.{index_width}
use Rattle.storage_bytes.proofs.WordLaws.{put_length}
use Rattle.election_certificates.specs.Marks.{mark_set, certificate_of, lower_bytes, lower_back}
use Rattle.storage.specs.Head.{certificates_held}

pub mark_length : (h : Bytes) (k m : ℕ) → length (mark_set h k m) ≡ length h
unfolding mark_set
mark_length h k m = put_length h _ (word_bytes index_width m)

-- ---- the loop

pub record Lowering (h₀ : Bytes) (t first : ℕ) (h : Bytes) (k : ℕ) : Type 0 where
  pub bytes : lower_back h₀ t first (certificates_held h₀) ≡ lower_back h t first k
  pub within : k ≤ certificate_limit

module _ (h₀ : Bytes) (t first : ℕ) where
  module _ (h : Bytes) (k : ℕ) (w : Lowering h₀ t first h k) where
    pub lowering_none : k ≤ 0 → h ≡ lower_back h₀ t first (certificates_held h₀)
    unfolding lower_back
    lowering_none l = sym (w.bytes ∙ ap (lower_back h t first) (let e : k ≡ 0 = omega arith in e))

    module _ (l : 0 < k) (x : ℕ) (e : x ≡ (certificate_of h (k - 1)).term) where
      turn : lower_back h₀ t first (certificates_held h₀) ≡ lower_back h t first (suc (k - 1))
      turn = w.bytes ∙ ap (lower_back h t first) (let z : k ≡ suc (k - 1) = omega arith in z)

      -- it is of no greater term
      pub lowering_ends : x ≤ t → h ≡ lower_back h₀ t first (certificates_held h₀)
      unfolding lower_back
      lowering_ends g =
          sym (turn ∙ cond_true (leb (certificate_of h (k - 1)).term t) h _ (le-leb _ t (subst (λ (y : ℕ). y ≤ t) e g)))

      pub lowering_next : t < x → (u : Bytes) → u ≡ lower_bytes h first (k - 1) → Lowering h₀ t first u (k - 1)
      unfolding lower_back
      lowering_next g u q =
          record {
            bytes = turn ∙ cond_false (leb (certificate_of h (k - 1)).term t) h _ (lt-leb _ t (subst (λ (y : ℕ). t < y) e g))
                ∙ ap (λ (v : Bytes). lower_back v t first (k - 1)) (sym q);
            within = (let z = w.within in omega arith);
          }
