-- A prefix that is not stored may be stored next: what the one who lengthens a prefix has to show of its row, in the model's words.
-- And a row that the search finds is the prefix that was looked for.
-- Assumes nothing.
use Prim.Native.Nat.{ℕ, zero, suc, ◌+◌, ◌≤◌, ◌<◌}
use native.Mathlib.Omega.{arith}
use mathlib.Core.Path.{◌≡◌, refl, ap, ◌∙◌}
use mathlib.Core.Bool.{Bool, true, false, ◌||◌}
use mathlib.Core.List.{List, [], ◌∷◌, ◌++◌}
use lib.Dec.{eqb}
use lib.ListN.{length, drop}
use borrow.Author.Tests.{eqb-true}
use Rattle.model.specs.Sizes.{Bytes, index_limit, content_limit}
use Rattle.storage_bytes.specs.Lists.{some}
use Rattle.storage.specs.Tables.{PrefixRow}
use Rattle.storage.specs.Decode.{prefix_at, entry_of, extended, resolve}
use Rattle.storage.specs.Rules.{same_row, is_among, prefix_right}
use Rattle.storage_bytes.specs.Words.{same_bytes}
use Rattle.storage_bytes.proofs.ListLaws.{both}
use Rattle.storage.proofs.RowFacts.{Facts, row_at, row_right_test}

-- ---- what the tests say

pub same_bytes_eq : (xs ys : Bytes) → same_bytes xs ys ≡ true → xs ≡ ys
unfolding same_bytes
same_bytes_eq [] [] e = refl
same_bytes_eq [] (y ∷ ys) e = absurd (let z : ◌≡◌ {A = ℕ} 0 1 = cc in omega arith)
same_bytes_eq (x ∷ xs) [] e = absurd (let z : ◌≡◌ {A = ℕ} 0 1 = cc in omega arith)
same_bytes_eq (x ∷ xs) (y ∷ ys) e =
    let p = both (eqb x y) (same_bytes xs ys) e in
    λ i. eqb-true x y p.0 i ∷ same_bytes_eq xs ys p.1 i

-- the same parent and the same entry
pub same_row_eq : (s r : PrefixRow) → same_row s r ≡ true → (s.parent ≡ r.parent) × (entry_of s ≡ entry_of r)
unfolding same_row
same_row_eq s r e =
    let a = both (eqb s.parent r.parent) _ e in
    let b = both (eqb s.term r.term) _ a.1 in
    let m = both (eqb s.mark r.mark) _ b.1 in
    let c = both (eqb s.size r.size) _ m.1 in (
      eqb-true _ _ a.0,
      (λ i.
          record {
            term = eqb-true s.term r.term b.0 i;
            configuration = eqb (eqb-true s.mark r.mark m.0 i) 1;
            content = same_bytes_eq s.content r.content c.1 i;
          }),
    )

-- a row that stores the same prefix, with its place
pub record Found (r : PrefixRow) (rows : List PrefixRow) (a : ℕ) : Type 0 where
  pub place : ℕ
  pub behind : a ≤ place
  pub below : place < length rows
  pub same : same_row (row_at rows place) r ≡ true

found_first : (s r : PrefixRow) (ss : List PrefixRow) (b : Bool) → same_row s r ≡ b → (b || is_among r ss) ≡ true
    → (is_among r ss ≡ true → Found r ss 0) → Found r (s ∷ ss) 0
found_first s r ss true q e later = record { place = 0; behind = omega arith; below = omega arith; same = q }
found_first s r ss false q e later =
    let f = later e in
    record { place = suc f.place; behind = omega arith; below = omega (arith, f.below); same = f.same }

-- the search finds only rows that are there
pub among_found : (r : PrefixRow) (rows : List PrefixRow) (a : ℕ) → is_among r (drop a rows) ≡ true → Found r rows a
unfolding some
among_found r [] zero e = absurd (let z : ◌≡◌ {A = ℕ} 0 1 = cc in omega arith)
among_found r [] (suc a) e = absurd (let z : ◌≡◌ {A = ℕ} 0 1 = cc in omega arith)
among_found r (s ∷ ss) zero e = found_first s r ss (same_row s r) refl e (λ q. among_found r ss 0 q)
among_found r (s ∷ ss) (suc a) e =
    let f = among_found r ss a e in
    record { place = suc f.place; behind = omega (arith, f.behind); below = omega (arith, f.below); same = f.same }

-- ---- in the model's words

module _ (rows : List PrefixRow) (f : Facts rows) where
  -- the row that is found holds the prefix that was looked for
  pub found_is : (r : PrefixRow) (j : ℕ) → j < length rows → same_row (row_at rows j) r ≡ true → prefix_at (resolve rows) (j + 1) ≡ extended (resolve rows) r
  found_is r j l e =
      let q = same_row_eq (row_at rows j) r e in
      f.entry j l ∙ (λ i. prefix_at (resolve rows) (q.0 i) ++ (q.1 i ∷ []))

  -- a prefix that has no number may have the next one
  pub new_right : (r : PrefixRow) → r.parent ≤ length rows → r.index ≡ length (prefix_at (resolve rows) r.parent) + 1 → r.index ≤ index_limit → r.mark ≤ 1 → r.size ≤ content_limit
      → ((q : ℕ) → q ≤ length rows → prefix_at (resolve rows) q ≡ extended (resolve rows) r → ⊥)
      → prefix_right rows r ≡ true
  new_right r p i l m s no_number =
      row_right_test rows r
      (record {
        parent = p;
        index = i ∙ ap (λ (n : ℕ). n + 1) (f.index r.parent p);
        limit = l;
        mark = m;
        size = s;
        new = decided (is_among r (drop r.parent rows)) refl;
      })
    where
      decided : (b : Bool) → is_among r (drop r.parent rows) ≡ b → b ≡ false
      decided false e = refl
      decided true e =
          let g = among_found r rows r.parent e in
          absurd (no_number (g.place + 1) (omega (arith, g.below)) (found_is r g.place g.below g.same))
