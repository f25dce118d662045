-- A view's entries can be walked, whatever shows it: the least index that a walk begins at may be taken as 0, so that only the bytes
-- decide.
-- Assumes nothing.
use Prim.Native.Nat.{ℕ, zero, suc, ◌+◌, ◌*◌, ◌^◌, ◌≤◌}
use mathlib.Core.Path.{◌≡◌, refl, ap, sym, ◌∙◌}
use mathlib.Core.Bool.{Bool, true, false, Bool-set}
use mathlib.Core.List.{List}
use mathlib.Core.Logic.{∥∥₁_elim}
use native.Mathlib.Omega.{arith}
use native.Mathlib.Bridge.{le_prop}
use borrow.Author.Tests.{le-leb}
use lib.Dec.{leb, ltb}
use Rattle.model.specs.Sizes.{Bytes, index_limit}
use Rattle.model.specs.Refusal.{outOfLimit, notAbove}
use Rattle.model.specs.Record.{Shown}
use Rattle.model.specs.Reading.{Part, got, fault, require, limited, entry_index, shown, many}
use Rattle.model.proofs.Tests.{tf, cond_true}
use Rattle.record_entries.specs.BitLayout.{ViewBits, index_of, bits_of, shown_in, next_in, Walk}
use Rattle.record_entries.proofs.Given.{went, required}
use Rattle.record_entries.proofs.Listed.{walk_read}
use Rattle.record_entries.proofs.Scanned.{entry_listed}

abbrev is_got : {A : Type 0} → Part A → Bool
is_got (got a k) = true
is_got (fault r) = false

module _ (s : Bytes) where
  index_low : (least k : ℕ) {i j : ℕ} → entry_index least s k ≡ got i j → entry_index 0 s k ≡ got i j
  unfolding entry_index
  index_low least k {i} {j} e =
      let g = went s (limited 10 index_limit s k) _ e in
      let h = went s (require (ltb 0 g.value) outOfLimit g.value s g.place) _ g.rest in
      let q = required (leb least h.value) notAbove h.value h.place h.rest in
      rw (g.first, h.first) (cond_true (leb 0 h.value) _ _ (le-leb 0 h.value (omega arith)) ∙ (λ d. got (q.same d) (q.next d)))

  module _ (m : Bool) where
    entry_low : (least k : ℕ) {x : Shown} {j : ℕ} → shown m least s k ≡ got x j → shown m 0 s k ≡ got x j
    unfolding shown
    entry_low least k e = let g = went s (entry_index least s k) _ e in rw (index_low least k g.first) g.rest

    entries_low : (least k n : ℕ) {xs : List Shown} {j : ℕ} → many (shown m) index_of least n s k ≡ got xs j
        → many (shown m) index_of 0 n s k ≡ got xs j
    unfolding many
    entries_low least k zero e = e
    entries_low least k (suc n) e = let g = went s (shown m least s k) _ e in rw (entry_low least k g.first) g.rest

    read_walk : (k n : ℕ) → k + 305 * n ≤ 2 ^ 32 → (p : Part (List Shown)) → many (shown m) index_of 0 n s k ≡ p → is_got p ≡ true
        → Walk (bits_of s m) k n
    read_walk k n h (got xs j) e t = walk_read (shown m) index_of (shown_in m) (next_in m) 305 s (entry_listed m s) 0 k n h e
    read_walk k n h (fault r) e t = absurd (tf (sym t))

-- the walk that a view keeps
pub walked : (v : ViewBits) (k n : ℕ) → ∥ Walk v k n ∥₁ → Walk v k n
walked v k n w =
    read_walk v.bytes v.marked k n (∥∥₁_elim w le_prop (λ x. x.near)) (many (shown v.marked) index_of 0 n v.bytes k) refl
    (∥∥₁_elim w (Bool-set _ _) (λ x. ap is_got (entries_low v.bytes v.marked x.least k n x.reads)))
