-- The relevant index: the turns of its loop, and that it is the model's.
-- Assumes nothing.
use Prim.Native.Nat.{ℕ, zero, suc, ◌+◌, ◌-◌, ◌<◌, ◌≤◌, min}
use native.Mathlib.Decide.{dec_le}
use native.Mathlib.Numerals.{add-one}
use native.Mathlib.Omega.{arith}
use mathlib.Core.Path.{◌≡◌, refl, sym, ◌∙◌, ap, subst}
use mathlib.Core.Bool.{Bool, true, false, cond, ◌&&◌}
use mathlib.Core.Logic.{◌⊎◌, inl, inr}
use mathlib.Core.List.{List, [], ◌∷◌, ◌++◌}
use lib.Dec.{leb, ltb, eqb}
use lib.ListN.{length}
use borrow.Author.Tests.{ltb-false, lt-ltb, le-ltb, le-leb, lt-leb, ne_eqb}
use Rattle.model.specs.Check.{is_earlier, last_below}
use Rattle.model.proofs.Tests.{tf, cond_cases, cond_true, cond_false}
use Rattle.model.specs.Sizes.{Bytes}
use Rattle.storage_bytes.specs.Lists.{tabulate}
use Rattle.storage.specs.Tables.{CertificateRow, term_row, terms_part}
use Rattle.storage.specs.Values.{committed_end}
use Rattle.storage.specs.Head.{terms_held}
use Rattle.storage_bytes.proofs.ListLaws.{tabulate_length, tabulate_snoc}
use Rattle.leader_completeness.specs.Relevance.{last_relevant, recorded_end, relevant_in}

-- ---- the turns of the loop

module _ (row : ℕ → ℕ) (mark t : ℕ) where
  at_next : (k : ℕ) → mark < suc k → is_earlier (row k) t ≡ false → last_relevant row mark t (suc k) ≡ last_relevant row mark t k
  unfolding last_relevant
  at_next k h l =
      cond_true (ltb mark (suc k)) _ 0 (lt-ltb mark (suc k) h) ∙ cond_false (is_earlier (row k) t) _ _ l

  at_found : (k : ℕ) → mark < suc k → is_earlier (row k) t ≡ true → last_relevant row mark t (suc k) ≡ suc k
  unfolding last_relevant
  at_found k h l =
      cond_true (ltb mark (suc k)) _ 0 (lt-ltb mark (suc k) h) ∙ cond_true (is_earlier (row k) t) (suc k) _ l

  pub at_none : (i : ℕ) → i ≤ mark → last_relevant row mark t i ≡ 0
  unfolding last_relevant
  at_none zero h = refl
  at_none (suc k) h = cond_false (ltb mark (suc k)) _ 0 (le-ltb mark (suc k) h)

  -- it is one of the indexes
  pub at_most_lem : (i : ℕ) → last_relevant row mark t i ≤ i
  unfolding last_relevant
  at_most_lem zero = omega arith
  at_most_lem (suc k) =
      cond_cases (λ (r : ℕ). r ≤ suc k) (ltb mark (suc k)) _ 0
      (λ _. cond_cases (λ (r : ℕ). r ≤ suc k) (is_earlier (row k) t) (suc k) _ (λ _. omega arith) (λ _. omega (arith, at_most_lem k)))
      (λ _. omega arith)

  before : (i : ℕ) → mark < i → i ≡ suc (i - 1)
  before i h = omega arith

  module _ (end i : ℕ) (inv : last_relevant row mark t end ≡ last_relevant row mark t i) (h : mark < i) (x : ℕ) (e : x ≡ row (i - 1)) where
    pub relevant_next : is_earlier x t ≡ false → last_relevant row mark t end ≡ last_relevant row mark t (i - 1)
    relevant_next l =
        inv ∙ ap (last_relevant row mark t) (before i h) ∙ at_next (i - 1) (omega arith) (subst (λ (y : ℕ). is_earlier y t ≡ false) e l)

    pub relevant_found : is_earlier x t ≡ true → i ≡ last_relevant row mark t end
    relevant_found l =
        sym
        (inv ∙ ap (last_relevant row mark t) (before i h) ∙ at_found (i - 1) (omega arith) (subst (λ (y : ℕ). is_earlier y t ≡ true) e l) ∙ sym (before i h))

  pub relevant_none : (end i : ℕ) → last_relevant row mark t end ≡ last_relevant row mark t i → i ≤ mark → 0 ≡ last_relevant row mark t end
  relevant_none end i inv h = sym (inv ∙ at_none i h)

-- ---- the model's

module _ (mark end t : ℕ) where
  -- whether index i, of term x, is relevant
  abbrev test : ℕ → ℕ → Bool
  test i x = ltb mark i && leb i end && is_earlier x t

  -- the last of one more index is that one, or the last of those before it
  below_last : (i : ℕ) (xs : List ℕ) (x : ℕ) → 0 < i
      → last_below mark end t i (xs ++ (x ∷ [])) ≡ cond (test (i + length xs) x) (i + length xs) (last_below mark end t i xs)
  unfolding last_below
  below_last i [] x h = ap (λ (k : ℕ). cond (test k x) k 0) (let e : i ≡ i + 0 = omega arith in e)
  below_last i (y ∷ xs) x h =
      ap (λ (l : ℕ). cond (eqb l 0) (cond (test i y) i 0) l)
      (below_last (i + 1) xs x (omega arith) ∙ ap (λ (k : ℕ). cond (test k x) k (last_below mark end t (i + 1) xs)) (let e : i + 1 + length xs ≡ i + suc (length xs) = omega arith in e))
      ∙ pick (test (i + suc (length xs)) x) (i + suc (length xs)) (last_below mark end t (i + 1) xs) (cond (test i y) i 0) (omega arith)
    where
      pick : (b : Bool) (k l z : ℕ) → 0 < k → cond (eqb (cond b k l) 0) z (cond b k l) ≡ cond b k (cond (eqb l 0) z l)
      pick true k l z h = cond_false (eqb k 0) z k (ne_eqb k 0 (λ e. omega arith))
      pick false k l z h = refl

  -- ends of one more recorded term: within the committed prefix, or past it
  module _ (row : ℕ → ℕ) where
    abbrev Alike : ℕ → Type 0
    Alike n = last_below mark end t 1 (tabulate row 0 n) ≡ last_relevant row mark t (min end n)

    one_more : (n : ℕ) → last_below mark end t 1 (tabulate row 0 (n + 1))
        ≡ cond (test (suc n) (row n)) (suc n) (last_below mark end t 1 (tabulate row 0 n))
    one_more n =
        ap (last_below mark end t 1) (tabulate_snoc row 0 n)
        ∙ below_last 1 (tabulate row 0 n) (row (0 + n)) (omega arith)
        ∙ (λ i. cond (test (place i) (row (start i))) (place i) (last_below mark end t 1 (tabulate row 0 n)))
      where
        place : 1 + length (tabulate row 0 n) ≡ suc n
        place = let e = tabulate_length row 0 n in omega arith

        start : 0 + n ≡ n
        start = omega arith

    -- the new index is within the committed prefix
    inside : (n : ℕ) → suc n ≤ end → cond (test (suc n) (row n)) (suc n) (last_relevant row mark t n) ≡ last_relevant row mark t (suc n)
    unfolding last_relevant
    inside n h = by (ltb mark (suc n)) (leb (suc n) end) (is_earlier (row n) t) refl (le-leb (suc n) end h)
      where
        by : (a b c : Bool) → ltb mark (suc n) ≡ a → b ≡ true
            → cond (a && b && c) (suc n) (last_relevant row mark t n) ≡ cond a (cond c (suc n) (last_relevant row mark t n)) 0
        by true true c e f = refl
        by true false c e f = absurd (tf (sym f))
        by false b c e f = at_none row mark t n (let z = ltb-false mark (suc n) e in omega arith)

    beyond : (n : ℕ) (z : ℕ) → end < suc n → cond (test (suc n) (row n)) (suc n) z ≡ z
    beyond n z h = by (ltb mark (suc n)) (leb (suc n) end) (is_earlier (row n) t) (lt-leb (suc n) end h)
      where
        by : (a b c : Bool) → b ≡ false → cond (a && b && c) (suc n) z ≡ z
        by true true c f = absurd (tf f)
        by true false c f = refl
        by false b c f = refl

    step : (n : ℕ) → Alike n → (suc n ≤ end) ⊎ (end < suc n) → Alike (n + 1)
    step n ih (inl h) =
        one_more n ∙ ap (cond (test (suc n) (row n)) (suc n)) (ih ∙ ap (last_relevant row mark t) (let e : min end n ≡ n = omega arith in e))
        ∙ inside n h ∙ ap (last_relevant row mark t) (let e : suc n ≡ min end (n + 1) = omega arith in e)
    step n ih (inr h) =
        one_more n ∙ beyond n _ h ∙ ih ∙ ap (last_relevant row mark t) (let e : min end n ≡ min end (n + 1) = omega arith in e)

    none_recorded : Alike 0
    unfolding last_below tabulate
    none_recorded = sym (at_none row mark t (min end 0) (omega arith))

    -- the last of the recorded terms earlier than t is found from the end back
    pub last_below_lem : (n : ℕ) → Alike n
    last_below_lem zero = none_recorded
    last_below_lem (suc n) =
        subst Alike (add-one n)
        (step n (last_below_lem n) (elim (dec_le (suc n) end) [ yes h ↦ inl h | no h ↦ inr (omega arith) ]))

-- ---- what is read

module _ (h : Bytes) (c : CertificateRow) (end : ℕ) (ee : end ≡ committed_end h) where
  pub relevant_read : (ts : Bytes) → ts ≡ terms_part h → (n : ℕ) → n ≡ terms_held h → (last : ℕ) → last ≡ min end n
      → last_relevant (term_row ts) c.mark c.term last ≡ relevant_in h c
  unfolding relevant_in recorded_end
  relevant_read ts et n en last el = λ i. last_relevant (term_row (et i)) c.mark c.term ((el ∙ (λ j. min (ee j) (en j))) i)

  -- the mark is not passed: no index is after it
  pub relevant_not_passed : end ≤ c.mark → 0 ≡ relevant_in h c
  unfolding relevant_in recorded_end
  relevant_not_passed l =
      let z : committed_end h ≤ c.mark = subst (λ (y : ℕ). y ≤ c.mark) ee l in
      sym (at_none (term_row (terms_part h)) c.mark c.term (min (committed_end h) (terms_held h)) (omega arith))
