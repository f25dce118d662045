-- The turns of a loop that counts down to the n-th place that holds something. Each law takes the loop's invariant first.
-- Assumes nothing.
use Prim.Native.Nat.{ℕ, suc, ◌+◌, ◌-◌, ◌<◌, ◌≤◌}
use native.Mathlib.Omega.{arith}
use mathlib.Core.Path.{◌≡◌, refl, sym, ◌∙◌, ap}
use Rattle.std.proofs.lemmas.Option.{none-some}
use mathlib.Core.Bool.{Bool, true, false, cond}
use lib.Dec.{eqb}
use borrow.Author.Tests.{eq-eqb, ne_eqb}
use Rattle.std.specs.Prelude.{Option, Some, None}
use Rattle.model.proofs.Tests.{cond_true, cond_false}
use Rattle.lists.specs.Picked.{pick_from, Holds}

-- the answer of m places is that of the places from k on, with `left` still to pass
abbrev pub Left : {A : Type 0} → (ℕ → Option A → Type 0) → ℕ → ℕ → ℕ → ℕ → Type 0
Left {A = A} post m n k left =
    (over : ℕ → Bool) (item : ℕ → A) → Holds post m over item
    → pick_from over (λ j. Some (item j)) None 0 m n ≡ pick_from over (λ j. Some (item j)) None k (m - k) left

module _ {A : Type 0} (post : ℕ → Option A → Type 0) (m n : ℕ) where
  pub left_first : Left post m n 0 n
  left_first over item h = ap (λ (j : ℕ). pick_from over (λ i. Some (item i)) None 0 j n) (let e : m ≡ m - 0 = omega arith in e)

module _ {A : Type 0} (post : ℕ → Option A → Type 0) (m n k left : ℕ) (inv : Left post m n k left) where
  step : (over : ℕ → Bool) (item : ℕ → A) → Holds post m over item → k < m
      → pick_from over (λ j. Some (item j)) None 0 m n
      ≡ cond (over k) (pick_from over (λ j. Some (item j)) None (k + 1) (m - (k + 1)) left)
      (cond (eqb left 0) (Some (item k)) (pick_from over (λ j. Some (item j)) None (k + 1) (m - (k + 1)) (left - 1)))
  unfolding pick_from
  step over item h below = inv over item h ∙ ap (λ (j : ℕ). pick_from over (λ i. Some (item i)) None k j left) (let e : m - k ≡ suc (m - (k + 1)) = omega arith in e)

  -- the place k, by what it holds: as the definition goes on from there
  at_none : (b : Bool) (x : A) (p q : Option A) → None ≡ cond b None (Some x) → cond b p q ≡ p
  at_none true x p q e = refl
  at_none false x p q e = absurd (none-some _ e)

  at_some : (b : Bool) (x y : A) (p q : Option A) → Some y ≡ cond b None (Some x) → cond b p q ≡ q
  at_some true x y p q e = absurd (none-some _ (sym e))
  at_some false x y p q e = refl

  is_some : (b : Bool) {x y : A} → Some y ≡ cond b None (Some x) → Some y ≡ Some x
  is_some true e = absurd (none-some _ (sym e))
  is_some false e = e

  pub left_over : post k None → k < m → Left post m n (k + 1) left
  left_over e below over item h = step over item h below ∙ at_none (over k) _ _ _ (h k None below e)

  pub left_later : {x : A} → post k (Some x) → k < m → (left ≡ 0 → ⊥) → {l : ℕ} → l ≡ left - 1 → Left post m n (k + 1) l
  left_later e below z d over item h =
      step over item h below ∙ at_some (over k) _ _ _ _ (h k (Some _) below e) ∙ cond_false (eqb left 0) _ _ (ne_eqb left 0 z)
      ∙ ap (pick_from over (λ j. Some (item j)) None (k + 1) (m - (k + 1))) (sym d)

  pub picked_here : {x : A} → post k (Some x) → k < m → left ≡ 0 → (over : ℕ → Bool) (item : ℕ → A) → Holds post m over item
      → Some x ≡ pick_from over (λ j. Some (item j)) None 0 m n
  picked_here e below z over item h =
      is_some (over k) (h k (Some _) below e)
      ∙ sym (step over item h below ∙ at_some (over k) _ _ _ _ (h k (Some _) below e) ∙ cond_true (eqb left 0) _ _ (eq-eqb left 0 z))

  pub picked_none : m ≤ k → (over : ℕ → Bool) (item : ℕ → A) → Holds post m over item → None ≡ pick_from over (λ j. Some (item j)) None 0 m n
  unfolding pick_from
  picked_none e over item h = sym (inv over item h ∙ ap (λ (j : ℕ). pick_from over (λ i. Some (item i)) None k j left) (let e : m - k ≡ 0 = omega arith in e))
