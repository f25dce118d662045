-- Two stored prefixes are the same by their content exactly if they are the same stored prefix, so the comparison by content
-- decides equality of the two lists of entries.
-- Assumes nothing.
use Prim.Native.Nat.{ℕ, zero, suc, ◌+◌, ◌-◌, ◌<◌, ◌≤◌}
use native.Mathlib.Nat.{le_refl}
use native.Mathlib.Omega.{arith}
use mathlib.Core.Path.{◌≡◌, refl, sym, ◌∙◌, ap, subst, subst₂}
use mathlib.Core.Bool.{true, false, cond, ◌||◌}
use mathlib.Core.Logic.{⊎_elim}
use mathlib.Core.List.{List, [], ◌∷◌, ◌++◌}
use lib.Dec.{eqb}
use lib.ListN.{length}
use borrow.Author.Tests.{eqb-true, eqb-false, eq-eqb, ne_eqb}
use Rattle.model.specs.Entry.{same}
use Rattle.model.proofs.Tests.{either, cond_true, cond_false, and_left, and_right, or_false_left, or_false_right, yes_same, test_ext, same_yes}
use Rattle.storage.specs.Tables.{PrefixRow}
use Rattle.storage.specs.Decode.{prefix_at, entry_of, resolve}
use Rattle.storage.proofs.RowFacts.{Facts, row_at}
use Rattle.storage.proofs.PrefixLaws.{same_bytes_eq}
use Rattle.log_prefix.specs.Comparison.{same_entry, same_from}
use Rattle.log_prefix.proofs.PrefixLaws.{Rows}

entry_same : (r s : PrefixRow) → same_entry r s ≡ true → entry_of r ≡ entry_of s
unfolding same_entry
entry_same r s e =
    let a = eqb-true _ _ (and_left (eqb r.term s.term) _ e) in
    let b = and_right (eqb r.term s.term) _ e in
    let m = eqb-true _ _ (and_left (eqb r.mark s.mark) _ b) in
    let c = same_bytes_eq r.content s.content (and_right (eqb r.size s.size) _ (and_right (eqb r.mark s.mark) _ b)) in
    λ i. record { term = a i; configuration = eqb (m i) 1; content = c i }

module _ (row : ℕ → PrefixRow) (rs : List PrefixRow) (f : Facts rs) (at : Rows row rs) where
  abbrev Alike : ℕ → ℕ → ℕ → Type 0
  Alike fuel p q = p ≤ fuel → p ≤ length rs → q ≤ length rs → same_from row fuel p q ≡ eqb p q

  -- rows of different numbers have another parent or another entry
  rows_apart : (a b : ℕ) → a < length rs → b < length rs → (a ≡ b → ⊥) → same_entry (row a) (row b) ≡ true
      → (row a).parent ≡ (row b).parent → ⊥
  rows_apart a b la lb n e par =
      let ea = at a la in
      let eb = at b lb in
      let same-last : entry_of (row_at rs a) ≡ entry_of (row_at rs b) =
      entry_same (row_at rs a) (row_at rs b) (subst₂ (λ (x y : PrefixRow). same_entry x y ≡ true) ea eb e) in
      let same-parent : (row_at rs a).parent ≡ (row_at rs b).parent =
      sym (ap (λ (x : PrefixRow). x.parent) ea) ∙ par ∙ ap (λ (x : PrefixRow). x.parent) eb in
      let whole : prefix_at (resolve rs) (a + 1) ≡ prefix_at (resolve rs) (b + 1) =
      f.entry a la ∙ (λ i. prefix_at (resolve rs) (same-parent i) ++ (same-last i ∷ [])) ∙ sym (f.entry b lb) in
      n (let z = f.distinct (a + 1) (b + 1) (omega arith) (omega arith) whole in omega arith)

  step : (fuel a b : ℕ) → ((x y : ℕ) → Alike fuel x y) → a ≤ fuel → a < length rs → b < length rs → (a ≡ b → ⊥)
      → cond (same_entry (row a) (row b)) (same_from row fuel (row a).parent (row b).parent) false ≡ false
  step fuel a b ih h la lb n =
      ⊎_elim
      (λ t.
      let pa : (row a).parent ≤ a = subst (λ (x : PrefixRow). x.parent ≤ a) (sym (at a la)) (f.parent a la) in
      let pb : (row b).parent ≤ b = subst (λ (x : PrefixRow). x.parent ≤ b) (sym (at b lb)) (f.parent b lb) in
      cond_true (same_entry (row a) (row b)) (same_from row fuel (row a).parent (row b).parent) false t
      ∙ ih (row a).parent (row b).parent (omega arith) (omega arith) (omega arith)
      ∙ ne_eqb (row a).parent (row b).parent (rows_apart a b la lb n t))
      (λ d. cond_false (same_entry (row a) (row b)) (same_from row fuel (row a).parent (row b).parent) false d)
      (either (same_entry (row a) (row b)))

  distinct : (fuel p q : ℕ) → ((x y : ℕ) → Alike fuel x y) → p ≤ suc fuel → p ≤ length rs → q ≤ length rs → eqb p q ≡ false
      → cond (eqb p 0 || eqb q 0) false
      (cond (same_entry (row (p - 1)) (row (q - 1))) (same_from row fuel (row (p - 1)).parent (row (q - 1)).parent) false) ≡ false
  distinct fuel p q ih h hp hq d =
      ⊎_elim (λ t. cond_true (eqb p 0 || eqb q 0) false _ t)
      (λ z.
      let np = eqb-false p 0 (or_false_left (eqb p 0) (eqb q 0) z) in
      let nq = eqb-false q 0 (or_false_right (eqb p 0) (eqb q 0) z) in
      let npq = eqb-false p q d in
      cond_false (eqb p 0 || eqb q 0) false _ z
      ∙ step fuel (p - 1) (q - 1) ih (omega arith) (omega arith) (omega arith) (λ e. npq (omega arith)))
      (either (eqb p 0 || eqb q 0))

  -- numbers of one prefix are equal, so the test by content is the test of the numbers
  pub same_numbers : (fuel p q : ℕ) → Alike fuel p q
  unfolding same_from
  same_numbers zero p q h hp hq = refl
  same_numbers (suc fuel) p q h hp hq =
      ⊎_elim (λ t. cond_true (eqb p q) true _ t ∙ sym t)
      (λ d. cond_false (eqb p q) true _ d ∙ distinct fuel p q (same_numbers fuel) h hp hq d ∙ sym d)
      (either (eqb p q))

  -- equal exactly if the two lists of entries are equal
  pub same_prefix : (p q : ℕ) → p ≤ length rs → q ≤ length rs
      → same_from row p p q ≡ same (prefix_at (resolve rs) p) (prefix_at (resolve rs) q)
  same_prefix p q hp hq =
      same_numbers p p q (le_refl p) hp hq
      ∙ test_ext (eqb p q) (same (prefix_at (resolve rs) p) (prefix_at (resolve rs) q))
      (λ t. yes_same _ _ (ap (prefix_at (resolve rs)) (eqb-true p q t)))
      (λ t. eq-eqb p q (f.distinct p q hp hq (same_yes _ _ t)))
