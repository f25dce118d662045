-- Lists without doubles: what `is_in`, `with` and `with_all` of the model do to the members of a list.
-- Assumes nothing.
use Prim.Native.Nat.{ℕ, suc, ◌≤◌, zero-le, suc-le-suc}
use native.Mathlib.Nat.{le_antisymm}
use mathlib.Core.Path.{◌≡◌, refl, sym, ◌∙◌, ap, subst}
use mathlib.Core.Bool.{true, false, cond}
use mathlib.Core.Logic.{◌⊎◌, inl, inr, ⊎_elim}
use mathlib.Core.List.Memᴰ
use mathlib.Core.List.{List, [], ◌∷◌, ◌++◌, Memᴰ}
use native.Mathlib.Omega.{arith}
use lib.ListN.{length, length-append}
use Rattle.model.specs.Entry.{holds, is_in, with, with_all}
use Rattle.model.specs.Statements.{Distinct}
use Rattle.model.proofs.Tests.{tf, either, holds_yes, yes_holds, holds_no, or_cases, or_left, or_right, cond_cases}

module _ {A : Type 0} (d : Discrete A) where
  pub is_in_yes : (x : A) (xs : List A) → is_in d x xs ≡ true → Memᴰ x xs
  unfolding is_in
  is_in_yes x [] e = absurd (tf (sym e))
  is_in_yes x (y ∷ ys) e =
      ⊎_elim (λ t. Memᴰ.head (holds_yes (d x y) t)) (λ t. Memᴰ.tail (is_in_yes x ys t))
      (or_cases (holds (d x y)) (is_in d x ys) e)

  pub yes_is_in : (x : A) (xs : List A) → Memᴰ x xs → is_in d x xs ≡ true
  unfolding is_in
  yes_is_in x [] m = absurd (Memᴰ.not-nil m)
  yes_is_in x (y ∷ ys) m =
      ⊎_elim (λ e. or_left (holds (d x y)) (is_in d x ys) (yes_holds (d x y) e))
      (λ t. or_right (holds (d x y)) (is_in d x ys) (yes_is_in x ys t))
      (Memᴰ.cases_cons m)

  pub is_in_no : (x : A) (xs : List A) → is_in d x xs ≡ false → Memᴰ x xs → ⊥
  is_in_no x xs e m = tf (sym (yes_is_in x xs m) ∙ e)

  -- membership is decided
  pub member : (x : A) (xs : List A) → Memᴰ x xs ⊎ (Memᴰ x xs → ⊥)
  member x xs = ⊎_elim (λ t. inl (is_in_yes x xs t)) (λ t. inr (is_in_no x xs t)) (either (is_in d x xs))

  -- ---- one more, once

  pub with_old : (xs : List A) (x y : A) → Memᴰ y xs → Memᴰ y (with d xs x)
  unfolding with
  with_old xs x y m = cond_cases (λ zs. Memᴰ y zs) (is_in d x xs) xs (xs ++ (x ∷ [])) (λ _. m) (λ _. Memᴰ.append_left (x ∷ []) m)

  pub with_new : (xs : List A) (x : A) → Memᴰ x (with d xs x)
  unfolding with
  with_new xs x =
      cond_cases (λ zs. Memᴰ x zs) (is_in d x xs) xs (xs ++ (x ∷ [])) (λ t. is_in_yes x xs t)
      (λ _. Memᴰ.append_right xs (Memᴰ.head refl))

  pub with_cases : (xs : List A) (x y : A) → Memᴰ y (with d xs x) → Memᴰ y xs ⊎ (y ≡ x)
  unfolding with
  with_cases xs x y =
      cond_cases (λ zs. Memᴰ y zs → Memᴰ y xs ⊎ (y ≡ x)) (is_in d x xs) xs (xs ++ (x ∷ [])) (λ _ m. inl m)
      (λ _ m. ⊎_elim (λ k. inl k) (λ k. inr (Memᴰ.eq_of_singleton k)) (Memᴰ.append_cases xs m))

  -- what is there already changes nothing; what is new comes last
  pub with_there : (xs : List A) (x : A) → Memᴰ x xs → with d xs x ≡ xs
  unfolding with
  with_there xs x m =
      cond_cases (λ zs. zs ≡ xs) (is_in d x xs) xs (xs ++ (x ∷ [])) (λ _. refl) (λ t. absurd (is_in_no x xs t m))

  pub with_fresh : (xs : List A) (x : A) → (Memᴰ x xs → ⊥) → with d xs x ≡ xs ++ (x ∷ [])
  unfolding with
  with_fresh xs x m =
      cond_cases (λ zs. zs ≡ xs ++ (x ∷ [])) (is_in d x xs) xs (xs ++ (x ∷ [])) (λ t. absurd (m (is_in_yes x xs t))) (λ _. refl)

  pub with_longer : (xs : List A) (x : A) → length xs ≤ length (with d xs x)
  with_longer xs x =
      ⊎_elim (λ m. subst (λ (l : List A). length xs ≤ length l) (sym (with_there xs x m)) (omega arith))
      (λ m. subst (λ (l : List A). length xs ≤ length l) (sym (with_fresh xs x m)) (omega (arith, length-append xs (x ∷ []))))
      (member x xs)

  distinct_snoc : (xs : List A) (x : A) → Distinct xs → (Memᴰ x xs → ⊥) → Distinct (xs ++ (x ∷ []))
  distinct_snoc [] x u n = (λ m. Memᴰ.not-nil m, tt)
  distinct_snoc (y ∷ ys) x u n = (
    λ m. ⊎_elim u.0 (λ k. n (Memᴰ.head (sym (Memᴰ.eq_of_singleton k)))) (Memᴰ.append_cases ys m),
    distinct_snoc ys x u.1 (λ m. n (Memᴰ.tail m)),
  )

  pub with_distinct : (xs : List A) (x : A) → Distinct xs → Distinct (with d xs x)
  unfolding with
  with_distinct xs x u =
      cond_cases (λ zs. Distinct zs) (is_in d x xs) xs (xs ++ (x ∷ [])) (λ _. u) (λ t. distinct_snoc xs x u (is_in_no x xs t))

  -- ---- several more, each once

  pub all_old : (xs ys : List A) (y : A) → Memᴰ y xs → Memᴰ y (with_all d xs ys)
  unfolding with_all
  all_old xs [] y m = m
  all_old xs (z ∷ zs) y m = all_old (with d xs z) zs y (with_old xs z y m)

  pub all_new : (xs ys : List A) (y : A) → Memᴰ y ys → Memᴰ y (with_all d xs ys)
  unfolding with_all
  all_new xs [] y m = absurd (Memᴰ.not-nil m)
  all_new xs (z ∷ zs) y m =
      ⊎_elim (λ e. Memᴰ.cast e (all_old (with d xs z) zs z (with_new xs z))) (λ k. all_new (with d xs z) zs y k)
      (Memᴰ.cases_cons m)

  pub all_cases : (xs ys : List A) (y : A) → Memᴰ y (with_all d xs ys) → Memᴰ y xs ⊎ Memᴰ y ys
  unfolding with_all
  all_cases xs [] y m = inl m
  all_cases xs (z ∷ zs) y m =
      ⊎_elim (λ k. ⊎_elim (λ j. inl j) (λ e. inr (Memᴰ.head e)) (with_cases xs z y k)) (λ k. inr (Memᴰ.tail k))
      (all_cases (with d xs z) zs y m)

  pub all_distinct : (xs ys : List A) → Distinct xs → Distinct (with_all d xs ys)
  unfolding with_all
  all_distinct xs [] u = u
  all_distinct xs (z ∷ zs) u = all_distinct (with d xs z) zs (with_distinct xs z u)

  all_longer : (xs ys : List A) → length xs ≤ length (with_all d xs ys)
  unfolding with_all
  all_longer xs [] = omega arith
  all_longer xs (z ∷ zs) = let a = with_longer xs z in let b = all_longer (with d xs z) zs in omega arith

  -- as many as before: none is new
  pub all_there : (xs ys : List A) → length (with_all d xs ys) ≡ length xs → with_all d xs ys ≡ xs
  unfolding with_all
  all_there xs [] e = refl
  all_there xs (z ∷ zs) e =
      ⊎_elim
      (λ m.
      let s = with_there xs z m in
      ap (λ (l : List A). with_all d l zs) s ∙ all_there xs zs (sym (ap (λ (l : List A). length (with_all d l zs)) s) ∙ e))
      (λ m.
      let a = ap length (with_fresh xs z m) ∙ length-append xs (z ∷ []) in
      let b = all_longer (with d xs z) zs in
      absurd (omega arith))
      (member z xs)

  -- ---- counting

  -- the list without x
  less : A → List A → List A
  less x [] = []
  less x (y ∷ ys) = cond (holds (d x y)) ys (y ∷ less x ys)

  less_length : (x : A) (xs : List A) → Memᴰ x xs → length xs ≡ suc (length (less x xs))
  unfolding less
  less_length x [] m = absurd (Memᴰ.not-nil m)
  less_length x (y ∷ ys) m =
      cond_cases (λ (l : List A). suc (length ys) ≡ suc (length l)) (holds (d x y)) ys (y ∷ less x ys) (λ _. refl)
      (λ t. ⊎_elim (λ e. absurd (holds_no (d x y) t e)) (λ k. ap suc (less_length x ys k)) (Memᴰ.cases_cons m))

  less_keeps : (x : A) (xs : List A) (z : A) → Memᴰ z xs → (z ≡ x → ⊥) → Memᴰ z (less x xs)
  unfolding less
  less_keeps x [] z m n = absurd (Memᴰ.not-nil m)
  less_keeps x (y ∷ ys) z m n =
      cond_cases (λ (l : List A). Memᴰ z l) (holds (d x y)) ys (y ∷ less x ys)
      (λ t. ⊎_elim (λ e. absurd (n (e ∙ sym (holds_yes (d x y) t)))) (λ k. k) (Memᴰ.cases_cons m))
      (λ t. ⊎_elim (λ e. Memᴰ.head e) (λ k. Memᴰ.tail (less_keeps x ys z k n)) (Memᴰ.cases_cons m))

  -- a list without doubles whose members are all in another is no longer than that one
  pub at_most_lem : (xs ys : List A) → Distinct xs → ((x : A) → Memᴰ x xs → Memᴰ x ys) → length xs ≤ length ys
  at_most_lem [] ys u f = zero-le
  at_most_lem (x ∷ xs) ys u f =
      let below : length xs ≤ length (less x ys) =
      at_most_lem xs (less x ys) u.1
      (λ z m. less_keeps x ys z (f z (Memᴰ.tail m)) (λ e. u.0 (Memᴰ.cast (sym e) m))) in
      subst (λ (n : ℕ). suc (length xs) ≤ n) (sym (less_length x ys (f x (Memᴰ.head refl)))) (suc-le-suc below)

  -- two lists without doubles and with the same members are equally long
  pub equally_long : (xs ys : List A) → Distinct xs → Distinct ys
      → ((x : A) → Memᴰ x xs → Memᴰ x ys) → ((x : A) → Memᴰ x ys → Memᴰ x xs) → length xs ≡ length ys
  equally_long xs ys u v f g = le_antisymm (at_most_lem xs ys u f) (at_most_lem ys xs v g)
