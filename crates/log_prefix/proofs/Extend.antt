-- `extend` on rows: the one step that lengthens a prefix finds its row or makes it. What that means of the stored prefixes.
-- Assumes nothing.
use Prim.Native.Nat.{ℕ, zero, suc, ◌+◌, ◌≤◌}
use native.Mathlib.Nat.{le_refl, le_trans}
use native.Mathlib.Omega.{arith}
use mathlib.Core.Path.{◌≡◌, refl, sym, ◌∙◌, ap, subst}
use mathlib.Core.Bool.{true, false, cond}
use mathlib.Core.List.Memᴰ
use mathlib.Core.List.{List, [], ◌∷◌, ◌++◌, append-nil, append_assoc}
use lib.Dec.{eqb}
use lib.ListN.{length, length-append}
use borrow.Author.Tests.{ne_eqb}
use Rattle.model.specs.Entry.{Entry, Prefix, prefixes, with, with_all}
use Rattle.model.specs.View.{prefixes_from}
use Rattle.model.specs.Sizes.{index_limit, content_limit}
use Rattle.model.proofs.Tests.{cond_false, and_both}
use Rattle.model.proofs.Members.{with_there, with_fresh}
use Rattle.storage.specs.Tables.{PrefixRow}
use Rattle.storage.specs.Decode.{prefix_at, extended, resolve}
use Rattle.storage.specs.Rules.{prefix_right, prefixes_right_after}
use Rattle.storage.proofs.RowFacts.{Facts, row_at, Sized, resolve_snoc, resolve_count, row_right, facts_snoc, right_snoc, stored_at, number_of, number_kept, number_new}
use Rattle.storage.proofs.PrefixLaws.{new_right}
use Rattle.log_prefix.specs.Prefix.{row_of, find}
use Rattle.log_prefix.specs.Extension.{or_next}
use Rattle.log_prefix.proofs.PrefixLaws.{Rows, mark_small, extended_is, found, missing}

-- the rows with the prefix of number p extended by e to index i, found or made, and its number
unfoldable pub extend_rows : List PrefixRow → ℕ → ℕ → Entry → List PrefixRow
extend_rows rs p i e = cond (eqb (find (row_at rs) (length rs) (row_of p i e)) 0) (rs ++ (row_of p i e ∷ [])) rs

unfoldable pub extend_number : List PrefixRow → ℕ → ℕ → Entry → ℕ
extend_number rs p i e = or_next (find (row_at rs) (length rs) (row_of p i e)) (length rs)

-- the rows keep the storage rules, and their facts
pub record Good (rs : List PrefixRow) : Type 0 where
  pub right : prefixes_right_after [] rs ≡ true
  pub known : Facts rs

-- rows rs', in which number n stands for the prefix q with the entry e
pub record Extended (rs rs' : List PrefixRow) (p n : ℕ) (e : Entry) : Type 0 where
  pub good : Good rs'
  pub grows : length rs ≤ length rs'
  pub keeps : (x : ℕ) → x ≤ length rs → prefix_at (resolve rs') x ≡ prefix_at (resolve rs) x
  pub within : n ≤ length rs'
  pub is : prefix_at (resolve rs') n ≡ prefix_at (resolve rs) p ++ (e ∷ [])
  pub stores : resolve rs' ≡ with prefixes (resolve rs) (prefix_at (resolve rs) p ++ (e ∷ []))

module _ (rs : List PrefixRow) (g : Good rs) (p i : ℕ) (e : Entry) (h : p ≤ length rs)
    (next : length (prefix_at (resolve rs) p) + 1 ≡ i) (small : i ≤ index_limit) (short : length e.content ≤ content_limit) where
  f : Facts rs
  f = g.known

  here : Rows (row_at rs) rs
  here k l = refl

  -- ---- found

  there : (x : ℕ) → find (row_at rs) (length rs) (row_of p i e) ≡ suc x → Extended rs rs p (suc x) e
  there x q =
      let y = found (row_at rs) rs f here p i e h short x q in
      record {
        good = g;
        grows = le_refl (length rs);
        keeps = λ z l. refl;
        within = y.0;
        is = y.1;
        stores = sym (with_there prefixes (resolve rs) (prefix_at (resolve rs) p ++ (e ∷ []))
            (Memᴰ.cast (sym y.1) (stored_at rs (suc x) (omega arith) y.0)));
      }

  -- ---- made

  pub right_row : find (row_at rs) (length rs) (row_of p i e) ≡ 0 → prefix_right rs (row_of p i e) ≡ true
  right_row z = new_right rs f (row_of p i e) h (sym next) small (mark_small e) short
      (λ q l w. missing (row_at rs) rs f here p i e h short z q l (w ∙ extended_is (resolve rs) p i e))

  sized : Sized (row_of p i e)
  sized = omega arith

  made : find (row_at rs) (length rs) (row_of p i e) ≡ 0 → Extended rs (rs ++ (row_of p i e ∷ [])) p (length rs + 1) e
  made z =
      let r = row_of p i e in
      let grown = resolve_snoc [] rs r in
      let count = resolve_count rs in
      let size : length (rs ++ (r ∷ [])) ≡ length rs + 1 = length-append rs (r ∷ []) in
      record {
        good = record {
          right = right_snoc [] rs r ∙ and_both _ _ g.right (right_row z);
          known = facts_snoc rs r f (row_right rs r (right_row z)) sized;
        };
        grows = omega arith;
        keeps = λ x l.
            ap (λ (ps : List Prefix). prefix_at ps x) grown
            ∙ number_kept [] (resolve rs) (extended (resolve rs) r) x (subst (λ (n : ℕ). x ≤ n) (sym count) l);
        within = omega arith;
        is =
            ap (λ (ps : List Prefix). prefix_at ps (length rs + 1)) grown
            ∙ number_new [] (resolve rs) (extended (resolve rs) r) (length rs + 1) (ap (λ (n : ℕ). n + 1) (sym count))
            ∙ extended_is (resolve rs) p i e;
        stores =
            grown
            ∙ ap (λ (q : Prefix). resolve rs ++ (q ∷ [])) (extended_is (resolve rs) p i e)
            ∙ sym (with_fresh prefixes (resolve rs) (prefix_at (resolve rs) p ++ (e ∷ []))
            (λ m. let n = number_of rs (prefix_at (resolve rs) p ++ (e ∷ [])) m in
            missing (row_at rs) rs f here p i e h short z n.0 n.2 n.3));
      }

  -- ---- found or made

  pub extends_rows : Extended rs (extend_rows rs p i e) p (extend_number rs p i e) e
  unfolding extend_rows extend_number
  extends_rows = go (find (row_at rs) (length rs) (row_of p i e)) refl
    where
      Goal : ℕ → Type 0
      Goal k = Extended rs (cond (eqb k 0) (rs ++ (row_of p i e ∷ [])) rs) p (or_next k (length rs)) e

      go : (k : ℕ) → find (row_at rs) (length rs) (row_of p i e) ≡ k → Goal k
      go zero z = made z
      go (suc x) q =
          let n : eqb (suc x) 0 ≡ false = ne_eqb (suc x) 0 (λ w. omega arith) in
          subst (λ (l : List PrefixRow). Extended rs l p (or_next (suc x) (length rs)) e) (sym (cond_false (eqb (suc x) 0) (rs ++ (row_of p i e ∷ [])) rs n))
          (subst (λ (m : ℕ). Extended rs rs p m e) (sym (cond_false (eqb (suc x) 0) (length rs + 1) (suc x) n)) (there x q))

-- ---- all entries of a front

unfoldable pub extend_all : List PrefixRow → ℕ → ℕ → List Entry → List PrefixRow
extend_all rs p i [] = rs
extend_all rs p i (e ∷ es) = extend_all (extend_rows rs p i e) (extend_number rs p i e) (i + 1) es

unfoldable pub extend_last : List PrefixRow → ℕ → ℕ → List Entry → ℕ
extend_last rs p i [] = p
extend_last rs p i (e ∷ es) = extend_last (extend_rows rs p i e) (extend_number rs p i e) (i + 1) es

-- entries, from index i on, within the limits
abbrev pub Fits : ℕ → List Entry → Type 0
Fits i [] = Unit {0}
Fits i (e ∷ es) = (i ≤ index_limit) × (length e.content ≤ content_limit) × Fits (i + 1) es

-- rows rs', in which number n stands for the prefix of p in rs with the entries es
pub record ExtendedAll (rs rs' : List PrefixRow) (p n : ℕ) (es : List Entry) : Type 0 where
  pub good : Good rs'
  pub grows : length rs ≤ length rs'
  pub keeps : (x : ℕ) → x ≤ length rs → prefix_at (resolve rs') x ≡ prefix_at (resolve rs) x
  pub within : n ≤ length rs'
  pub is : prefix_at (resolve rs') n ≡ prefix_at (resolve rs) p ++ es
  pub stores : resolve rs' ≡ with_all prefixes (resolve rs) (prefixes_from (prefix_at (resolve rs) p) es)

pub extends_all : (es : List Entry) (rs : List PrefixRow) → Good rs → (p i : ℕ) → p ≤ length rs
    → length (prefix_at (resolve rs) p) + 1 ≡ i → Fits i es → ExtendedAll rs (extend_all rs p i es) p (extend_last rs p i es) es
unfolding extend_all extend_last prefixes_from with_all
extends_all [] rs g p i h next fits =
    record {
      good = g;
      grows = le_refl (length rs);
      keeps = λ x l. refl;
      within = h;
      is = sym (append-nil (prefix_at (resolve rs) p));
      stores = refl;
    }
extends_all (e ∷ es) rs g p i h next fits =
    let x = extends_rows rs g p i e h next fits.0 fits.1 in
    let q = prefix_at (resolve rs) p in
    let length-next : length (prefix_at (resolve (extend_rows rs p i e)) (extend_number rs p i e)) + 1 ≡ i + 1 =
    ap (λ (l : Prefix). length l + 1) x.is ∙ ap (λ (n : ℕ). n + 1) (length-append q (e ∷ []) ∙ next) in
    let y = extends_all es (extend_rows rs p i e) x.good (extend_number rs p i e) (i + 1) x.within length-next fits.2 in
    record {
      good = y.good;
      grows = le_trans x.grows y.grows;
      keeps = λ z l. y.keeps z (le_trans l x.grows) ∙ x.keeps z l;
      within = y.within;
      is = y.is ∙ ap (λ (l : Prefix). l ++ es) x.is ∙ append_assoc q (e ∷ []) es;
      stores = y.stores ∙ (λ j. with_all prefixes (x.stores j) (prefixes_from (x.is j) es));
    }
