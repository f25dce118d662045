-- What a search among the commit terms answers, to and from the index.
-- Assumes nothing.
use Prim.Native.Nat.{ℕ}
use mathlib.Core.Path.{◌≡◌, sym, ◌∙◌, ap}
use mathlib.Core.Logic.{⊎_elim}
use lib.Dec.{eqb}
use borrow.Author.Tests.{eqb-true, eqb-false}
use Rattle.model.proofs.Tests.{either, zero_none, above_some, unless_none, unless_some}
use Rattle.units.specs.declared.LogIndex.{LogIndex}
use Rattle.storage_rows.specs.TermSearch.{found_index}
use Rattle.storage_rows.specs.Rows.{mark_value}
use Rattle.std.specs.Prelude.{Option, Some, None}

of_some : (k : ℕ) → (k ≡ 0 → ⊥) → found_index k ≡ Some (record { 0 = k })
unfolding found_index
of_some k z = sym (above_some k (record { 0 = k }) z)

of_none : (k : ℕ) → k ≡ 0 → found_index k ≡ None
unfolding found_index
of_none k z = sym (zero_none k (record { 0 = k }) z)

pub index_found : (i : LogIndex) (k : ℕ) → i.0 ≡ k → (i.0 ≡ 0 → ⊥) → Some i ≡ found_index k
index_found i k e z = sym (of_some i.0 z) ∙ ap found_index e

pub index_none : (k : ℕ) → 0 ≡ k → None ≡ found_index k
index_none k e = sym (of_none k (sym e))

pub index_back : (k : ℕ) → mark_value (found_index k) ≡ k
index_back k =
    ⊎_elim (λ t. ap mark_value (of_none k (eqb-true k 0 t)) ∙ sym (eqb-true k 0 t)) (λ f. ap mark_value (of_some k (eqb-false k 0 f))) (either (eqb k 0))

module _ (k : ℕ) (r : Option LogIndex) (e : r ≡ found_index k) where
  pub index_told : (i : LogIndex) → r ≡ Some i → (i.0 ≡ k) × (k ≡ 0 → ⊥)
  unfolding found_index
  index_told i q = let p = unless_some k (record { 0 = k }) e i q in (ap (λ (x : LogIndex). x.0) p.0, p.1)

  pub nothing_told : r ≡ None → k ≡ 0
  unfolding found_index
  nothing_told q = unless_none k (record { 0 = k }) e q
