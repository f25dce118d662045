-- The turns of the searches among the certificates held: the place, and how many right before it are of the term.
-- Assumes nothing.
use Prim.Native.Nat.{ℕ, zero, suc, ◌+◌, ◌-◌, ◌≤◌, ◌<◌}
use native.Mathlib.Omega.{arith}
use mathlib.Core.Path.{◌≡◌, refl, ap, sym, ◌∙◌, subst}
use lib.Dec.{leb, eqb}
use borrow.Author.Tests.{le-leb, lt-leb, eq-eqb, ne_eqb}
use Rattle.model.proofs.Tests.{cond_cases, cond_true, cond_false}
use Rattle.storage.specs.Tables.{CertificateRow}
use Rattle.election_certificates.specs.Order.{place_from, held_before}

module _ (row : ℕ → CertificateRow) (t : ℕ) where
  -- ---- the place

  pub place_here : (k : ℕ) → (row k).term ≤ t → place_from row t (suc k) ≡ suc k
  unfolding place_from
  place_here k l = cond_true (leb (row k).term t) (suc k) _ (le-leb (row k).term t l)

  pub place_back : (k : ℕ) → t < (row k).term → place_from row t (suc k) ≡ place_from row t k
  unfolding place_from
  place_back k l = cond_false (leb (row k).term t) (suc k) _ (lt-leb (row k).term t l)

  pub place_zero : place_from row t 0 ≡ 0
  unfolding place_from
  place_zero = refl

  -- it is one of the places
  pub place_within : (n : ℕ) → place_from row t n ≤ n
  unfolding place_from
  place_within zero = omega arith
  place_within (suc k) =
      cond_cases (λ (r : ℕ). r ≤ suc k) (leb (row k).term t) (suc k) _ (λ _. omega arith) (λ _. omega (arith, place_within k))

  module _ (n p : ℕ) (inv : place_from row t n ≡ place_from row t p) where
    before : 0 < p → p ≡ suc (p - 1)
    before h = omega arith

    module _ (h : 0 < p) (x : ℕ) (e : x ≡ (row (p - 1)).term) where
      pub place_stop : x ≤ t → p ≡ place_from row t n
      place_stop l =
          sym (inv ∙ ap (place_from row t) (before h) ∙ place_here (p - 1) (subst (λ (y : ℕ). y ≤ t) e l) ∙ sym (before h))

      pub place_next : t < x → place_from row t n ≡ place_from row t (p - 1)
      place_next l = inv ∙ ap (place_from row t) (before h) ∙ place_back (p - 1) (subst (λ (y : ℕ). t < y) e l)

    pub place_none : p ≤ 0 → 0 ≡ place_from row t n
    place_none h = let e : p ≡ 0 = omega arith in sym (inv ∙ ap (place_from row t) e ∙ place_zero)

  -- ---- how many are held

  pub held_more : (k : ℕ) → (row k).term ≡ t → held_before row t (suc k) ≡ suc (held_before row t k)
  unfolding held_before
  held_more k l = cond_true (eqb (row k).term t) _ 0 (eq-eqb (row k).term t l)

  pub held_end : (k : ℕ) → ((row k).term ≡ t → ⊥) → held_before row t (suc k) ≡ 0
  unfolding held_before
  held_end k l = cond_false (eqb (row k).term t) _ 0 (ne_eqb (row k).term t l)

  pub held_zero : held_before row t 0 ≡ 0
  unfolding held_before
  held_zero = refl

  -- no more than stand before the place
  pub held_within : (p : ℕ) → held_before row t p ≤ p
  unfolding held_before
  held_within zero = omega arith
  held_within (suc k) =
      cond_cases (λ (r : ℕ). r ≤ suc k) (eqb (row k).term t) (suc (held_before row t k)) 0 (λ _. omega (arith, held_within k)) (λ _. omega arith)

  -- those from k on up to place p were met
  module _ (p k : ℕ) (within : k ≤ p) (inv : held_before row t p ≡ p - k + held_before row t k) where
    module _ (h : 0 < k) (x : ℕ) (e : x ≡ (row (k - 1)).term) where
      before_k : k ≡ suc (k - 1)
      before_k = omega arith

      pub held_next : x ≡ t → held_before row t p ≡ p - (k - 1) + held_before row t (k - 1)
      held_next l =
          let a : held_before row t k ≡ suc (held_before row t (k - 1)) = ap (held_before row t) before_k ∙ held_more (k - 1) (sym e ∙ l) in
          omega (arith, inv)

      pub held_stop : (x ≡ t → ⊥) → p - 1 - (k - 1) ≡ held_before row t p
      held_stop l =
          let a : held_before row t k ≡ 0 = ap (held_before row t) before_k ∙ held_end (k - 1) (λ z. l (e ∙ z)) in
          omega (arith, inv)

    pub held_none : k ≤ 0 → p ≡ held_before row t p
    held_none h =
        let a : held_before row t k ≡ 0 = ap (held_before row t) (let e : k ≡ 0 = omega arith in e) ∙ held_zero in
        omega (arith, inv)
