-- What recording a commit term does to the list: how long it is then, and what stands at each place.
-- Assumes nothing.
use Prim.Native.Nat.{ℕ, zero, suc, ◌+◌, ◌-◌, ◌<◌, ◌≤◌, max}
use native.Mathlib.Omega.{arith}
use mathlib.Core.Path.{◌≡◌, refl, sym, ◌∙◌, ap}
use mathlib.Core.Bool.{true, false, cond, ◌&&◌, ◌||◌}
use mathlib.Core.Logic.{◌⊎◌, inl, inr, ⊎_elim}
use mathlib.Core.List.{List, [], ◌∷◌, ◌++◌}
use Rattle.std.proofs.lemmas.Bool.{cases_lt}
use lib.Dec.{leb, ltb, eqb}
use lib.ListN.{length, get_or, replicate, length-append, length-replicate, get_or-eq_default}
use borrow.Author.Tests.{leb-true, ltb-true, ltb-false, lt-ltb, le-leb, eqb-true, eqb-false}
use Rattle.model.specs.Terms.{lengthened, changes, replaced_from, recorded}
use Rattle.model.proofs.Tests.{tf, cond_cases, and_left, and_right, and_both, and_false, or_cases, or_false_left, or_false_right}

-- zeros after a list are what is read there anyway
zeros : (n i : ℕ) → ◌≡◌ {A = ℕ} (get_or (replicate n 0) i 0) 0
zeros zero i = refl
zeros (suc n) zero = refl
zeros (suc n) (suc i) = zeros n i

with_zeros : (ts : List ℕ) (n i : ℕ) → get_or (ts ++ replicate n 0) i 0 ≡ get_or ts i 0
with_zeros [] n i = zeros n i
with_zeros (t ∷ ts) n zero = refl
with_zeros (t ∷ ts) n (suc i) = with_zeros ts n i

pub lengthened_at : (new : ℕ) (ts : List ℕ) (i : ℕ) → get_or (lengthened new ts) i 0 ≡ get_or ts i 0
unfolding lengthened
lengthened_at new ts i = with_zeros ts (new - length ts) i

pub lengthened_reaches : (new : ℕ) (ts : List ℕ) → new ≤ length (lengthened new ts)
unfolding lengthened
lengthened_reaches new ts = simp (length-append, length-replicate) (omega arith)

module _ (old new t : ℕ) where
  -- what is known of place i, which holds x and changes
  pub record Changed (i x : ℕ) : Type 0 where
    pub above_old : old < i
    pub within_new : i ≤ new
    pub nonzero : 0 < t
    pub replaces : (x ≡ 0) ⊎ (t < x)

  pub changes_yes : (i x : ℕ) → changes old new t i x ≡ true → Changed i x
  unfolding changes
  changes_yes i x e =
      let a : ltb old i && leb i new && ltb 0 t ≡ true = and_left _ _ e in
      let b : ltb old i && leb i new ≡ true = and_left _ _ a in
      record {
        above_old = ltb-true _ _ (and_left (ltb old i) _ b);
        within_new = leb-true _ _ (and_right (ltb old i) _ b);
        nonzero = ltb-true _ _ (and_right (ltb old i && leb i new) _ a);
        replaces =
            ⊎_elim (λ z. inl (eqb-true x 0 z)) (λ z. inr (ltb-true t x z))
            (or_cases (eqb x 0) (ltb t x) (and_right (ltb old i && leb i new && ltb 0 t) _ e));
      }

  -- one that the term is for and that does not change holds a term that is no greater
  pub changes_no : (i x : ℕ) → changes old new t i x ≡ false → old < i → i ≤ new → 0 < t → (x ≡ 0 → ⊥) × (x ≤ t)
  unfolding changes
  changes_no i x e a b n =
      let within : ltb old i && leb i new ≡ true = and_both (ltb old i) (leb i new) (lt-ltb _ _ a) (le-leb _ _ b) in
      let for_it : ltb old i && leb i new && ltb 0 t ≡ true = and_both (ltb old i && leb i new) (ltb 0 t) within (lt-ltb _ _ n) in
      let o : eqb x 0 || ltb t x ≡ false =
      ⊎_elim (λ z. absurd (tf (sym for_it ∙ z))) (λ z. z) (and_false (ltb old i && leb i new && ltb 0 t) _ e) in
      (eqb-false x 0 (or_false_left (eqb x 0) _ o), ltb-false t x (or_false_right (eqb x 0) _ o))

  replaced_length : (k : ℕ) (l : List ℕ) → length (replaced_from old new t k l) ≡ length l
  unfolding replaced_from
  replaced_length k [] = refl
  replaced_length k (x ∷ l) = ap suc (replaced_length (k + 1) l)

  -- the list reaches new, and is never shortened
  pub recorded_length : (ts : List ℕ) → length (recorded old new t ts) ≡ max (length ts) new
  unfolding recorded lengthened
  recorded_length ts =
      let a = replaced_length 1 (lengthened new ts) in
      let b : length (lengthened new ts) ≡ length ts + (new - length ts) =
      length-append ts _ ∙ ap (λ (n : ℕ). length ts + n) (length-replicate (new - length ts) 0) in
      omega arith

  replaced_at : (k i : ℕ) (l : List ℕ) → i < length l
      → get_or (replaced_from old new t k l) i 0 ≡ cond (changes old new t (k + i) (get_or l i 0)) t (get_or l i 0)
  unfolding replaced_from
  replaced_at k i [] h = absurd (omega arith)
  replaced_at k zero (x ∷ l) h =
      let e : k ≡ k + 0 = omega arith in ap (λ (n : ℕ). cond (changes old new t n x) t x) e
  replaced_at k (suc i) (x ∷ l) h =
      let e : k + 1 + i ≡ k + suc i = omega arith in
      replaced_at (k + 1) i l (omega arith)
      ∙ ap (λ (n : ℕ). cond (changes old new t n (get_or l i 0)) t (get_or l i 0)) e

  replaced_past : (k i : ℕ) (l : List ℕ) → length l ≤ i → get_or (replaced_from old new t k l) i 0 ≡ 0
  unfolding replaced_from
  replaced_past k i [] h = refl
  replaced_past k zero (x ∷ l) h = absurd (omega arith)
  replaced_past k (suc i) (x ∷ l) h = replaced_past (k + 1) i l (omega arith)

  -- past the list nothing changes
  unchanged_past : (i : ℕ) (l : List ℕ) → new ≤ length l → length l ≤ i
      → cond (changes old new t (1 + i) (get_or l i 0)) t (get_or l i 0) ≡ 0
  unchanged_past i l r h =
      cond_cases (λ (z : ℕ). z ≡ 0) _ _ _
      (λ e. absurd (let w : 1 + i ≤ new = (changes_yes (1 + i) (get_or l i 0) e).within_new in omega arith))
      (λ _. get_or-eq_default l 0 h)

  replaced_all : (i : ℕ) (l : List ℕ) → new ≤ length l → (i < length l) ⊎ (length l ≤ i)
      → get_or (replaced_from old new t 1 l) i 0 ≡ cond (changes old new t (1 + i) (get_or l i 0)) t (get_or l i 0)
  replaced_all i l r (inl h) = replaced_at 1 i l h
  replaced_all i l r (inr h) = replaced_past 1 i l h ∙ sym (unchanged_past i l r h)

  -- each place has the term where it changes, and else what it had
  pub recorded_at : (ts : List ℕ) (i : ℕ)
      → get_or (recorded old new t ts) i 0 ≡ cond (changes old new t (suc i) (get_or ts i 0)) t (get_or ts i 0)
  unfolding recorded
  recorded_at ts i =
      let e : 1 + i ≡ suc i = omega arith in
      replaced_all i (lengthened new ts) (lengthened_reaches new ts) (cases_lt i (length (lengthened new ts)))
      ∙ (λ j. cond (changes old new t (e j) (lengthened_at new ts i j)) t (lengthened_at new ts i j))
