-- The turns of the search for the n-th finding in printed order.
-- Assumes nothing.
use Prim.Native.Nat.{ℕ, zero, suc, ◌+◌, ◌-◌, ◌<◌, ◌≤◌}
use native.Mathlib.Omega.{arith}
use mathlib.Core.Path.{◌≡◌, refl, sym, ◌∙◌, ap}
use mathlib.Core.Bool.{Bool, true, false, not, cond, ◌&&◌, ◌||◌}
use mathlib.Core.List.{List, ◌∷◌}
use lib.Dec.{ltb, eqb}
use lib.ListN.{length}
use Rattle.std.specs.List.{filter, range_with_len}
use borrow.Author.Tests.{eq-eqb, ne_eqb, lt-ltb, le-ltb}
use Rattle.model.specs.History.{Finding}
use Rattle.model.proofs.Tests.{cond_true, cond_false}
use Rattle.storage_bytes.specs.Lists.{tabulate}
use Rattle.storage_bytes.proofs.ListLaws.{tabulate_cons, tabulate_none}
use Rattle.storage_rows.specs.declared.findings.Found.{Found}
use Rattle.std.specs.Prelude.{Option, None}
use Rattle.lists.specs.Findings.{comes_before, count_first, finding_of, pick_ordered}

-- ---- keys held against one another

-- where a key differs it decides, and else what comes after it
pub key_differs : (a b : ℕ) (c : Bool) → (a ≡ b → ⊥) → ltb a b ≡ (ltb a b || (eqb a b && c))
key_differs a b c d = rw (ne_eqb a b d) (or_none (ltb a b))
  where
    or_none : (x : Bool) → x ≡ (x || false)
    or_none true = refl
    or_none false = refl

pub key_same : (a b : ℕ) (c : Bool) → a ≡ b → c ≡ (ltb a b || (eqb a b && c))
key_same a b c e = rw (eq-eqb a b e, le-ltb a b (omega arith))

-- ---- counting

module _ (f : Finding) (row : ℕ → Finding) where
  -- those of a range that f does not come before
  pub count_range : (i n : ℕ) → length (filter (λ j. not (comes_before f (row j))) (range_with_len i n)) ≡ count_first f (tabulate row i n)
  unfolding tabulate count_first
  count_range i zero = refl
  count_range i (suc n) = one (comes_before f (row i)) ∙ ap (λ (c : ℕ). cond (comes_before f (row i)) 0 1 + c) (count_range (i + 1) n)
    where
      one : (b : Bool) → length (cond (not b) (i ∷ filter (λ j. not (comes_before f (row j))) (range_with_len (i + 1) n)) (filter (λ j. not (comes_before f (row j))) (range_with_len (i + 1) n)))
          ≡ cond b 0 1 + length (filter (λ j. not (comes_before f (row j))) (range_with_len (i + 1) n))
      one true = omega arith
      one false = omega arith

-- ---- the search

module _ (row : ℕ → Finding) {r : Option Found} (k m n p : ℕ) (inv : r ≡ pick_ordered (tabulate row k (m - k)) n) (h : k < m)
    (e : p ≡ count_first (row k) (tabulate row (k + 1) (m - (k + 1)))) where
  later : ℕ → Option Found
  later i = pick_ordered (tabulate row (k + 1) (m - (k + 1))) i

  step : r ≡ cond (eqb n p) (finding_of (row k)) (later (cond (ltb p n) (n - 1) n))
  unfolding later pick_ordered
  step =
      inv
      ∙ ap (λ (l : List Finding). pick_ordered l n) (tabulate_cons row k m h)
      ∙ ap (λ (q : ℕ). cond (eqb n q) (finding_of (row k)) (pick_ordered (tabulate row (k + 1) (m - (k + 1))) (cond (ltb q n) (n - 1) n))) (sym e)

  pub order_here : n ≡ p → r ≡ finding_of (row k)
  order_here z = step ∙ cond_true (eqb n p) _ _ (eq-eqb n p z)

  pub order_behind : (n ≡ p → ⊥) → p < n → {n' : ℕ} → n' ≡ n - 1 → r ≡ pick_ordered (tabulate row (k + 1) (m - (k + 1))) n'
  unfolding later
  order_behind z l q =
      step ∙ cond_false (eqb n p) _ _ (ne_eqb n p z) ∙ ap later (cond_true (ltb p n) (n - 1) n (lt-ltb p n l) ∙ sym q)

  pub order_front : (n ≡ p → ⊥) → n ≤ p → {n' : ℕ} → n' ≡ n → r ≡ pick_ordered (tabulate row (k + 1) (m - (k + 1))) n'
  unfolding later
  order_front z l q =
      step ∙ cond_false (eqb n p) _ _ (ne_eqb n p z) ∙ ap later (cond_false (ltb p n) (n - 1) n (le-ltb p n l) ∙ sym q)

pub order_none : (row : ℕ → Finding) {r : Option Found} (k m n : ℕ) → r ≡ pick_ordered (tabulate row k (m - k)) n → m ≤ k → r ≡ None
unfolding pick_ordered
order_none row k m n inv h = inv ∙ ap (λ (l : List Finding). pick_ordered l n) (tabulate_none row k m h)
