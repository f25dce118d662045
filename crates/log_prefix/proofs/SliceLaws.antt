-- What a slice means: the first entries of the prefix.
-- Assumes nothing.
use Prim.Native.Nat.{ℕ, zero, suc, ◌+◌, ◌-◌, ◌<◌, ◌≤◌}
use native.Mathlib.Omega.{arith}
use native.Mathlib.Numerals.{add-one}
use mathlib.Core.Path.{◌≡◌, refl, sym, ◌∙◌, ap, subst}
use mathlib.Core.Logic.{◌⊎◌, inl, inr, ⊎_elim}
use mathlib.Core.List.{List, [], ◌∷◌}
use lib.Dec.{leb, ltb, eqb}
use lib.ListN.{length, take, length-append}
use lib.Seq.{take_all, take-append-le}
use borrow.Author.Tests.{le-leb, leb-true, leb-false, ltb-true, ltb-false, ne_eqb}
use Rattle.model.proofs.Tests.{either, cond_true, cond_false}
use Rattle.storage.specs.Tables.{PrefixRow}
use Rattle.storage.specs.Values.{index_of}
use Rattle.storage.specs.Decode.{prefix_at, entry_of, extended, resolve}
use Rattle.storage.proofs.RowFacts.{Facts, entry_after}
use Rattle.log_prefix.specs.Prefix.{witness, slice_from, slice_of}
use Rattle.log_prefix.proofs.PrefixLaws.{Rows, row_index}
use Rattle.std.specs.Prelude.{Some, None}

module _ (row : ℕ → PrefixRow) (rs : List PrefixRow) (f : Facts rs) (at : Rows row rs) where
  -- a number's index is the length of its prefix
  pub index_length : (p : ℕ) → p ≤ length rs → index_of row p ≡ length (prefix_at (resolve rs) p)
  index_length zero h = refl
  index_length (suc k) h =
      cond_false (eqb (suc k) 0) 0 (row (suc k - 1)).index (ne_eqb (suc k) 0 (λ z. omega arith))
      ∙ ap (λ (j : ℕ). (row j).index) (let e : suc k - 1 ≡ k = omega arith in e)
      ∙ ap (λ (r : PrefixRow). r.index) (at k h)
      ∙ sym (row_index rs f k h)
      ∙ ap (λ (j : ℕ). length (prefix_at (resolve rs) j)) (add-one k)

  -- a row's prefix is its parent's and one entry more, and its parent comes before it
  row_entry : (k : ℕ) → suc k ≤ length rs → prefix_at (resolve rs) (suc k) ≡ extended (resolve rs) (row k)
  row_entry k h = entry_after rs f k h ∙ ap (extended (resolve rs)) (sym (at k h))

  pub row_parent : (k : ℕ) → suc k ≤ length rs → (row k).parent ≤ k
  row_parent k h = subst (λ (r : PrefixRow). r.parent ≤ k) (sym (at k h)) (f.parent k h)

  -- its index is one more than its parent's
  pub index_after : (k : ℕ) → suc k ≤ length rs → index_of row (suc k) ≡ index_of row (row k).parent + 1
  index_after k h =
      let l = row_parent k h in
      index_length (suc k) h ∙ ap length (row_entry k h) ∙ length-append (prefix_at (resolve rs) (row k).parent) (entry_of (row k) ∷ [])
      ∙ ap (λ (n : ℕ). n + 1) (sym (index_length (row k).parent (omega arith)))

  abbrev Cut : ℕ → ℕ → ℕ → Type 0
  Cut i p q = (q ≤ length rs) × (prefix_at (resolve rs) q ≡ take i (prefix_at (resolve rs) p))

  -- one parent back
  back : (i k q : ℕ) → suc k ≤ length rs → i < length (prefix_at (resolve rs) (suc k)) → Cut i (row k).parent q → Cut i (suc k) q
  back i k q h l c =
      let s = row_entry k h in
      let n = ap length s ∙ length-append (prefix_at (resolve rs) (row k).parent) (entry_of (row k) ∷ []) in
      (c.0, c.1 ∙ sym (ap (take i) s ∙ take-append-le i (prefix_at (resolve rs) (row k).parent) (entry_of (row k) ∷ []) (omega arith)))

  whole : (i p : ℕ) → p ≤ length rs → length (prefix_at (resolve rs) p) ≤ i → Cut i p p
  whole i p h l = (h, sym (take_all i (prefix_at (resolve rs) p) l))

  pub sliced : (i fuel p : ℕ) → p ≤ fuel → p ≤ length rs → Cut i p (slice_from row i fuel p)
  unfolding slice_from
  sliced i zero p e h = whole i p h (let z : p ≡ 0 = omega arith in subst (λ (j : ℕ). length (prefix_at (resolve rs) j) ≤ i) (sym z) (omega arith))
  sliced i (suc fuel) zero e h =
      subst (Cut i 0) (sym (cond_true (leb 0 i) 0 (slice_from row i fuel (row (0 - 1)).parent) (le-leb 0 i (omega arith)))) (whole i 0 h (omega arith))
  sliced i (suc fuel) (suc k) e h =
      ⊎_elim
      (λ t. subst (Cut i (suc k)) (sym (cond_true (leb (index_of row (suc k)) i) (suc k) _ t))
      (whole i (suc k) h (let a = leb-true (index_of row (suc k)) i t in let b = index_length (suc k) h in omega arith)))
      (λ t.
      let a = leb-false (index_of row (suc k)) i t in
      let b = index_length (suc k) h in
      let par = row_parent k h in
      let same : (row (suc k - 1)).parent ≡ (row k).parent = ap (λ (j : ℕ). (row j).parent) (let z : suc k - 1 ≡ k = omega arith in z) in
      subst (Cut i (suc k)) (sym (cond_false (leb (index_of row (suc k)) i) (suc k) _ t ∙ ap (slice_from row i fuel) same))
      (back i k (slice_from row i fuel (row k).parent) h (omega arith) (sliced i fuel (row k).parent (omega arith) (omega arith))))
      (either (leb (index_of row (suc k)) i))

  -- beyond its end exactly where the prefix is shorter, else its first entries
  pub slice_cases : (p i : ℕ) → p ≤ length rs
      → ((slice_of row p i ≡ None) × (length (prefix_at (resolve rs) p) < i))
      ⊎ ((q : ℕ) × (slice_of row p i ≡ Some (witness q)) × (i ≤ length (prefix_at (resolve rs) p)) × (q ≤ length rs)
      × (prefix_at (resolve rs) q ≡ take i (prefix_at (resolve rs) p)))
  unfolding slice_of
  slice_cases p i h =
      let b = index_length p h in
      ⊎_elim (λ t. let a = ltb-true (index_of row p) i t in inl (cond_true (ltb (index_of row p) i) None _ t, omega arith))
      (λ t.
      let a = ltb-false (index_of row p) i t in
      let c = sliced i p p (omega arith) h in
      inr (slice_from row i p p, cond_false (ltb (index_of row p) i) None _ t, omega arith, c.0, c.1))
      (either (ltb (index_of row p) i))
