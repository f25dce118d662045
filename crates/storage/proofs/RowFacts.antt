-- What the storage rules of prefixes come to: the facts about rows that later laws use, grown row by row.
-- Equal prefixes have equal numbers, so none is stored twice.
-- Assumes nothing.
use Prim.Native.Nat.{ℕ, zero, suc, ◌+◌, ◌*◌, ◌≤◌, ◌<◌, min}
use native.Mathlib.Nat.{not-suc-le-zero, min-eq_left}
use native.Mathlib.Numerals.{add-one}
use native.Mathlib.Decide.{dec_lt, dec_le}
use native.Mathlib.Omega.{arith}
use mathlib.Core.Path.{◌≡◌, refl, ap, sym, ◌∙◌, subst}
use mathlib.Core.Bool.{Bool, true, false, ◌&&◌, ◌||◌, and-true, and_assoc}
use mathlib.Core.Logic.{⊎_elim}
use mathlib.Core.List.Memᴰ
use mathlib.Core.List.{List, [], ◌∷◌, ◌++◌, map, append-nil, head-eq_of_cons-eq, tail-eq_of_cons-eq, Memᴰ}
use lib.Dec.{leb, eqb}
use lib.ListN.{length, get_or, drop, length-append, length-map, get_or-append, get_or-map}
use lib.Seq.{get_or_at, append_snoc}
use borrow.Author.Tests.{leb-true, eqb-true, le-leb, eq-eqb, not-true}
use Rattle.model.specs.Entry.{Entry, Prefix}
use Rattle.model.specs.Sizes.{Bytes, index_limit, content_limit}
use Rattle.storage_bytes.specs.Lists.{some}
use Rattle.storage.specs.Tables.{PrefixRow, prefix_row, rows_of_prefixes}
use Rattle.storage_bytes.specs.Words.{bytes_at, word_at, same_bytes}
use Rattle.storage_bytes.specs.Layout.{prefix_width, byte_width, prefix_size, prefix_content}
use Rattle.storage.specs.Decode.{prefix_at, entry_of, extended, resolve_from, resolve}
use Rattle.storage.specs.Rules.{index_among, same_row, is_among, prefix_right, prefixes_right_after}
use Rattle.storage_bytes.proofs.ListLaws.{both, tabulate_length, tabulate_at}

-- ---- lists numbered from 1, 0 standing for the default

module _ {A : Type 0} (d : A) (xs : List A) (x : A) where
  pub number_kept : (p : ℕ) → p ≤ length xs → get_or (d ∷ (xs ++ (x ∷ []))) p d ≡ get_or (d ∷ xs) p d
  number_kept p h = get_or-append (d ∷ xs) (x ∷ []) d p (omega arith)

  pub number_new : (p : ℕ) → p ≡ length xs + 1 → get_or (d ∷ (xs ++ (x ∷ []))) p d ≡ x
  number_new p e = get_or_at (d ∷ xs) x [] d p (omega arith)

pub map_snoc : {A B : Type 0} (f : A → B) (xs : List A) (x : A) → map f (xs ++ (x ∷ [])) ≡ map f xs ++ (f x ∷ [])
map_snoc f [] x = refl
map_snoc f (y ∷ ys) x = ap (λ (l : List _). f y ∷ l) (map_snoc f ys x)

pub nil≢snoc : {A : Type 0} (xs : List A) (x : A) → [] ≡ xs ++ (x ∷ []) → ⊥
nil≢snoc xs x e = let q = ap length e ∙ length-append xs (x ∷ []) in omega arith

pub snoc_injective : {A : Type 0} {x y : A} (xs ys : List A) → xs ++ (x ∷ []) ≡ ys ++ (y ∷ []) → (xs ≡ ys) × (x ≡ y)
snoc_injective [] [] e = (refl, head-eq_of_cons-eq e)
snoc_injective {y = y} [] (b ∷ bs) e = absurd (nil≢snoc bs y (tail-eq_of_cons-eq e))
snoc_injective {x = x} (a ∷ as') [] e = absurd (nil≢snoc as' x (sym (tail-eq_of_cons-eq e)))
snoc_injective (a ∷ as') (b ∷ bs) e =
    let r = snoc_injective as' bs (tail-eq_of_cons-eq e) in
    ((λ i. head-eq_of_cons-eq e i ∷ r.0 i), r.1)

-- ---- the prefixes of one more row

pub resolve_snoc : (ps : List Prefix) (rs : List PrefixRow) (r : PrefixRow)
    → resolve_from ps (rs ++ (r ∷ [])) ≡ resolve_from ps rs ++ (extended (resolve_from ps rs) r ∷ [])
unfolding resolve_from
resolve_snoc ps [] r = refl
resolve_snoc ps (s ∷ rs) r = resolve_snoc (ps ++ (extended ps s ∷ [])) rs r

resolve_length : (ps : List Prefix) (rs : List PrefixRow) → length (resolve_from ps rs) ≡ length ps + length rs
unfolding resolve_from
resolve_length ps [] = omega arith
resolve_length ps (r ∷ rs) =
    let e = resolve_length (ps ++ (extended ps r ∷ [])) rs in
    let l = length-append ps (extended ps r ∷ []) in
    omega arith

-- as many prefixes as rows
pub resolve_count : (rs : List PrefixRow) → length (resolve rs) ≡ length rs
resolve_count rs = resolve_length [] rs ∙ (let e : 0 + length rs ≡ length rs = omega arith in e)

-- ---- the facts

abbrev pub empty_row : PrefixRow
empty_row = record { parent = 0; index = 0; term = 0; mark = 0; size = 0; content = [] }

-- the row of place k
abbrev pub row_at : List PrefixRow → ℕ → PrefixRow
row_at rows k = get_or rows k empty_row

-- a row's content is as long as its size says, up to the limit: so it is of every row that is read from bytes
abbrev pub Sized : PrefixRow → Type 0
Sized r = length r.content ≡ min r.size content_limit

pub record Facts (rows : List PrefixRow) : Type 0 where
  pub sized : (k : ℕ) → k < length rows → length (row_at rows k).content ≡ (row_at rows k).size
  pub small : (k : ℕ) → k < length rows
      → ((row_at rows k).index ≤ index_limit) × ((row_at rows k).size ≤ content_limit) × ((row_at rows k).mark ≤ 1)
  -- a parent has a smaller number
  pub parent : (k : ℕ) → k < length rows → (row_at rows k).parent ≤ k
  -- number k + 1 is the parent's prefix and the row's entry
  pub entry : (k : ℕ) → k < length rows → prefix_at (resolve rows) (k + 1) ≡ extended (resolve rows) (row_at rows k)
  -- a row's index is its prefix's length
  pub index : (p : ℕ) → p ≤ length rows → length (prefix_at (resolve rows) p) ≡ index_among rows p
  -- equal prefixes have equal numbers
  pub distinct : (p q : ℕ) → p ≤ length rows → q ≤ length rows → prefix_at (resolve rows) p ≡ prefix_at (resolve rows) q → p ≡ q

-- the same of the number as a successor
pub entry_after : (rows : List PrefixRow) → Facts rows → (k : ℕ) → k < length rows → prefix_at (resolve rows) (suc k) ≡ extended (resolve rows) (row_at rows k)
entry_after rows f k l = ap (λ (n : ℕ). prefix_at (resolve rows) n) (sym (add-one k)) ∙ f.entry k l

-- every index is within the limit
pub index_small : (rows : List PrefixRow) → Facts rows → (p : ℕ) → p ≤ length rows → index_among rows p ≤ index_limit
index_small rows f zero l = omega arith
index_small rows f (suc p) l =
    subst (λ (x : ℕ). x ≤ index_limit) (sym (get_or-map (λ (r : PrefixRow). r.index) rows p empty_row)) (f.small p l).0

pub facts_none : Facts []
unfolding resolve_from
facts_none =
    record {
      sized = λ k h. absurd (not-suc-le-zero h);
      small = λ k h. absurd (not-suc-le-zero h);
      parent = λ k h. absurd (not-suc-le-zero h);
      entry = λ k h. absurd (not-suc-le-zero h);
      index = λ p h. zero_index p (omega arith);
      distinct = λ p q hp hq e. omega arith;
    }
  where
    zero_index : (p : ℕ) → p ≡ 0 → length (prefix_at [] p) ≡ index_among [] p
    zero_index p e = (λ i. length (prefix_at [] (e i))) ∙ sym (ap (index_among []) e)

-- what the test of a row says
pub record RowRight (rows : List PrefixRow) (r : PrefixRow) : Type 0 where
  pub parent : r.parent ≤ length rows
  pub index : r.index ≡ index_among rows r.parent + 1
  pub limit : r.index ≤ index_limit
  pub mark : r.mark ≤ 1
  pub size : r.size ≤ content_limit
  pub new : is_among r (drop r.parent rows) ≡ false

pub row_right : (rows : List PrefixRow) (r : PrefixRow) → prefix_right rows r ≡ true → RowRight rows r
unfolding prefix_right
row_right rows r e =
    let a = both (leb r.parent (length rows) && eqb r.index (index_among rows r.parent + 1)) _ e in
    let x = both (leb r.parent (length rows)) _ a.0 in
    let b = both (leb r.index index_limit) _ a.1 in
    let m = both (leb r.mark 1) _ b.1 in
    let s = both (leb r.size content_limit) _ m.1 in
    record {
      parent = leb-true _ _ x.0;
      index = eqb-true _ _ x.1;
      limit = leb-true _ _ b.0;
      mark = leb-true _ _ m.0;
      size = leb-true _ _ s.0;
      new = not-true _ s.1;
    }

pub row_right_test : (rows : List PrefixRow) (r : PrefixRow) → RowRight rows r → prefix_right rows r ≡ true
unfolding prefix_right
row_right_test rows r f =
    rw (
      le-leb r.parent (length rows) f.parent,
      eq-eqb r.index (index_among rows r.parent + 1) f.index,
      le-leb r.index index_limit f.limit,
      le-leb r.mark 1 f.mark,
      le-leb r.size content_limit f.size,
      f.new,
    )

-- ---- a row that stores the same prefix is found

same_bytes_refl : (xs : Bytes) → same_bytes xs xs ≡ true
unfolding same_bytes
same_bytes_refl [] = refl
same_bytes_refl (x ∷ xs) = ap (λ (b : Bool). b && same_bytes xs xs) (eq-eqb x x refl) ∙ same_bytes_refl xs

pub same_row_true : (s r : PrefixRow) → s.parent ≡ r.parent → s.term ≡ r.term → s.mark ≡ r.mark → s.size ≡ r.size → s.content ≡ r.content
    → same_row s r ≡ true
unfolding same_row
same_row_true s r p t m z c =
    rw (eq-eqb s.parent r.parent p, eq-eqb s.term r.term t, eq-eqb s.mark r.mark m, eq-eqb s.size r.size z, c) (same_bytes_refl r.content)

differ : (n : ℕ) → n ≡ 0 → eqb 0 1 ≡ eqb (suc n) 1 → ⊥
differ n z e = let q : false ≡ true = e ∙ ap (λ (k : ℕ). eqb (suc k) 1) z in let y : ◌≡◌ {A = ℕ} 0 1 = cc in omega arith

-- marks that stand for the same are the same
pub same_mark : (a b : ℕ) → a ≤ 1 → b ≤ 1 → eqb a 1 ≡ eqb b 1 → a ≡ b
same_mark zero zero h l e = refl
same_mark zero (suc b) h l e = absurd (differ b (omega arith) e)
same_mark (suc a) zero h l e = absurd (differ a (omega arith) (sym e))
same_mark (suc a) (suc b) h l e = omega arith

among_at : (r : PrefixRow) (rows : List PrefixRow) (a j : ℕ) → a ≤ j → j < length rows → same_row (row_at rows j) r ≡ true → is_among r (drop a rows) ≡ true
unfolding some
among_at r [] a j h l e = absurd (not-suc-le-zero l)
among_at r (s ∷ ss) zero zero h l e = ap (λ (b : Bool). b || is_among r ss) e
among_at r (s ∷ ss) zero (suc j) h l e =
    ap (λ (b : Bool). same_row s r || b) (among_at r ss 0 j (omega arith) (omega arith) e) ∙ or_true (same_row s r)
  where
    or_true : (b : Bool) → (b || true) ≡ true
    or_true true = refl
    or_true false = refl
among_at r (s ∷ ss) (suc a) zero h l e = absurd (omega arith)
among_at r (s ∷ ss) (suc a) (suc j) h l e = among_at r ss a j (omega arith) (omega arith) e

-- ---- one more row

module _ (rows : List PrefixRow) (r : PrefixRow) (f : Facts rows) (right : RowRight rows r) (fit : Sized r) where
  P : List Prefix
  P = resolve rows

  count : length P ≡ length rows
  unfolding P
  count = resolve_count rows

  more : length (rows ++ (r ∷ [])) ≡ length rows + 1
  more = length-append rows (r ∷ [])

  -- the old numbers and the new one
  old : (p : ℕ) → p ≤ length rows → prefix_at (resolve (rows ++ (r ∷ []))) p ≡ prefix_at P p
  unfolding P
  old p h =
      ap (λ (l : List Prefix). prefix_at l p) (resolve_snoc [] rows r)
      ∙ number_kept [] P (extended P r) p (omega (arith, count))

  new : (p : ℕ) → p ≡ length rows + 1 → prefix_at (resolve (rows ++ (r ∷ []))) p ≡ extended P r
  unfolding P
  new p e =
      ap (λ (l : List Prefix). prefix_at l p) (resolve_snoc [] rows r)
      ∙ number_new [] P (extended P r) p (omega (arith, count))

  old_row : (k : ℕ) → k < length rows → row_at (rows ++ (r ∷ [])) k ≡ row_at rows k
  old_row k h = get_or-append rows (r ∷ []) empty_row k h

  new_row : (k : ℕ) → k ≡ length rows → row_at (rows ++ (r ∷ [])) k ≡ r
  new_row k e = get_or_at rows r [] empty_row k (sym e)

  -- a property of each row: of the old ones, and of the new one
  each : (Q : ℕ → PrefixRow → Type 0) → ((k : ℕ) → k < length rows → Q k (row_at rows k)) → Q (length rows) r
      → (k : ℕ) → k < length (rows ++ (r ∷ [])) → Q k (row_at (rows ++ (r ∷ [])) k)
  each Q a b k h =
      elim (dec_lt k (length rows)) [
        | yes l ↦ subst (Q k) (sym (old_row k l)) (a k l)
        | no l ↦
            let e : k ≡ length rows = omega (arith, more) in
            subst (Q k) (sym (new_row k e)) (subst (λ (n : ℕ). Q n r) (sym e) b)
      ]

  old_index : (p : ℕ) → p ≤ length rows → index_among (rows ++ (r ∷ [])) p ≡ index_among rows p
  old_index p h =
      ap (λ (l : List ℕ). get_or (0 ∷ l) p 0) (map_snoc (λ (x : PrefixRow). x.index) rows r)
      ∙ number_kept 0 (map (λ (x : PrefixRow). x.index) rows) r.index p (omega (arith, length-map rows (λ (x : PrefixRow). x.index)))

  new_index : (p : ℕ) → p ≡ length rows + 1 → index_among (rows ++ (r ∷ [])) p ≡ r.index
  new_index p e =
      ap (λ (l : List ℕ). get_or (0 ∷ l) p 0) (map_snoc (λ (x : PrefixRow). x.index) rows r)
      ∙ number_new 0 (map (λ (x : PrefixRow). x.index) rows) r.index p (omega (arith, length-map rows (λ (x : PrefixRow). x.index)))

  grown_entry : (k : ℕ) → k < length (rows ++ (r ∷ [])) → prefix_at (resolve (rows ++ (r ∷ []))) (k + 1) ≡ extended (resolve (rows ++ (r ∷ []))) (row_at (rows ++ (r ∷ [])) k)
  grown_entry =
      each (λ k x. prefix_at (resolve (rows ++ (r ∷ []))) (k + 1) ≡ extended (resolve (rows ++ (r ∷ []))) x)
      (λ k l.
      old (k + 1) (omega arith)
      ∙ P_entry k l
      ∙ ap (λ (q : Prefix). q ++ (entry_of (row_at rows k) ∷ [])) (sym (old (row_at rows k).parent (omega (arith, f.parent k l)))))
      (new (length rows + 1) refl ∙ ap (λ (q : Prefix). q ++ (entry_of r ∷ [])) (sym (old r.parent right.parent)))
    where
      P_entry : (k : ℕ) → k < length rows → prefix_at P (k + 1) ≡ prefix_at P (row_at rows k).parent ++ (entry_of (row_at rows k) ∷ [])
      P_entry k l = unfold P in f.entry k l

  grown_index : (p : ℕ) → p ≤ length (rows ++ (r ∷ [])) → length (prefix_at (resolve (rows ++ (r ∷ []))) p) ≡ index_among (rows ++ (r ∷ [])) p
  grown_index p h =
      elim (dec_le p (length rows)) [
        | yes l ↦ ap length (old p l) ∙ P_index p l ∙ sym (old_index p l)
        | no l ↦
            let e : p ≡ length rows + 1 = omega (arith, more) in
            ap length (new p e)
            ∙ length-append (prefix_at P r.parent) (entry_of r ∷ [])
            ∙ ap (λ (n : ℕ). n + 1) (P_index r.parent right.parent)
            ∙ sym right.index
            ∙ sym (new_index p e)
      ]
    where
      P_index : (p : ℕ) → p ≤ length rows → length (prefix_at P p) ≡ index_among rows p
      P_index p l = unfold P in f.index p l

  -- the new prefix is none of the old ones
  not_old : (p : ℕ) → p ≤ length rows → prefix_at P p ≡ extended P r → ⊥
  unfolding P
  not_old zero h e = nil≢snoc (prefix_at P r.parent) (entry_of r) e
  not_old (suc j) h e =
      let l : j < length rows = omega arith in
      let s = row_at rows j in
      let up = entry_after rows f j l in
      let same = snoc_injective (prefix_at P s.parent) (prefix_at P r.parent) (sym up ∙ e) in
      let p : s.parent ≡ r.parent = f.distinct s.parent r.parent (omega (arith, f.parent j l)) right.parent same.0 in
      let c : s.content ≡ r.content = ap (λ (x : Entry). x.content) same.1 in
      let m : s.mark ≡ r.mark = same_mark s.mark r.mark (f.small j l).2 right.mark (ap (λ (x : Entry). x.configuration) same.1) in
      let z : s.size ≡ r.size = sym (f.sized j l) ∙ ap length c ∙ fit ∙ min-eq_left right.size in
      let found = among_at r rows r.parent j (omega (arith, f.parent j l)) l (same_row_true s r p (ap (λ (x : Entry). x.term) same.1) m z c) in
      clash (sym found ∙ right.new)
    where
      clash : true ≡ false → ⊥
      clash q = let z : ◌≡◌ {A = ℕ} 0 1 = cc in omega arith

  grown_distinct : (p q : ℕ) → p ≤ length (rows ++ (r ∷ [])) → q ≤ length (rows ++ (r ∷ []))
      → prefix_at (resolve (rows ++ (r ∷ []))) p ≡ prefix_at (resolve (rows ++ (r ∷ []))) q → p ≡ q
  grown_distinct p q hp hq e =
      elim (dec_le p (length rows)) [
        | yes a ↦ elim (dec_le q (length rows)) [
          | yes b ↦ P_distinct p q a b (sym (old p a) ∙ e ∙ old q b)
          | no b ↦ absurd (not_old p a (sym (old p a) ∙ e ∙ new q (omega (arith, more))))
        ]
        | no a ↦ elim (dec_le q (length rows)) [
          | yes b ↦ absurd (not_old q b (sym (old q b) ∙ sym e ∙ new p (omega (arith, more))))
          | no b ↦ omega (arith, more)
        ]
      ]
    where
      P_distinct : (p q : ℕ) → p ≤ length rows → q ≤ length rows → prefix_at P p ≡ prefix_at P q → p ≡ q
      P_distinct = unfold P in f.distinct

  pub facts_snoc : Facts (rows ++ (r ∷ []))
  facts_snoc =
      record {
        sized = each (λ k x. length x.content ≡ x.size) f.sized (fit ∙ min-eq_left right.size);
        small = each (λ k x. (x.index ≤ index_limit) × (x.size ≤ content_limit) × (x.mark ≤ 1)) f.small (right.limit, right.size, right.mark);
        parent = each (λ k x. x.parent ≤ k) f.parent right.parent;
        entry = grown_entry;
        index = grown_index;
        distinct = grown_distinct;
      }

-- ---- all rows

abbrev pub AllSized : List PrefixRow → Type 0
AllSized rows = (k : ℕ) → k < length rows → Sized (row_at rows k)

pub facts_after : (before rs : List PrefixRow) → Facts before → AllSized rs → prefixes_right_after before rs ≡ true → Facts (before ++ rs)
unfolding prefixes_right_after
facts_after before [] f s e = subst Facts (sym (append-nil before)) f
facts_after before (r ∷ rs) f s e =
    let b = both (prefix_right before r) _ e in
    subst Facts (append_snoc before r rs)
    (facts_after (before ++ (r ∷ [])) rs
    (facts_snoc before r f (row_right before r b.0) (s 0 (omega arith)))
    (λ k h. s (suc k) (omega arith))
    b.1)

pub facts_of : (rows : List PrefixRow) → AllSized rows → prefixes_right_after [] rows ≡ true → Facts rows
facts_of rows s e = facts_after [] rows facts_none s e

-- rows read from bytes are sized
pub rows_sized : (t : Bytes) (n : ℕ) → AllSized (rows_of_prefixes t n)
unfolding bytes_at
rows_sized t n k h =
    let l : k < n = omega (arith, tabulate_length (prefix_row t) 0 n) in
    subst Sized (sym (tabulate_at (prefix_row t) 0 n k empty_row l)) (tabulate_length (λ i. get_or t i 0) ((0 + k) * prefix_width + prefix_content) (min (word_at t ((0 + k) * prefix_width + prefix_size) byte_width) 32))

-- one more row keeps the rules where it is right by those before it
pub right_snoc : (before rs : List PrefixRow) (r : PrefixRow)
    → prefixes_right_after before (rs ++ (r ∷ [])) ≡ (prefixes_right_after before rs && prefix_right (before ++ rs) r)
unfolding prefixes_right_after
right_snoc before [] r = and-true (prefix_right before r) ∙ ap (λ (l : List PrefixRow). prefix_right l r) (sym (append-nil before))
right_snoc before (s ∷ rs) r =
    ap (λ (b : Bool). prefix_right before s && b)
    (right_snoc (before ++ (s ∷ [])) rs r ∙ ap (λ (l : List PrefixRow). prefixes_right_after (before ++ (s ∷ [])) rs && prefix_right l r) (append_snoc before s rs))
    ∙ sym (and_assoc (prefix_right before s) (prefixes_right_after (before ++ (s ∷ [])) rs) (prefix_right (before ++ (s ∷ rs)) r))

-- ---- stored prefixes by number

-- a number's prefix, other than the empty one, is stored
pub stored_at : (rs : List PrefixRow) (p : ℕ) → 0 < p → p ≤ length rs → Memᴰ (prefix_at (resolve rs) p) (resolve rs)
stored_at rs zero z h = absurd (not-suc-le-zero z)
stored_at rs (suc k) z h = go (resolve rs) k (subst (λ (n : ℕ). k < n) (sym (resolve_count rs)) h)
  where
    go : (ps : List Prefix) (j : ℕ) → j < length ps → Memᴰ (get_or ps j []) ps
    go [] j l = absurd (not-suc-le-zero l)
    go (x ∷ ps) zero l = Memᴰ.head refl
    go (x ∷ ps) (suc j) l = Memᴰ.tail (go ps j (omega arith))

-- each stored prefix has a number
pub number_of : (rs : List PrefixRow) (q : Prefix) → Memᴰ q (resolve rs)
    → (p : ℕ) × (0 < p) × (p ≤ length rs) × (prefix_at (resolve rs) p ≡ q)
number_of rs q m =
    let r = go (resolve rs) m in
    (suc r.0, omega arith, omega (arith, r.1, resolve_count rs), r.2)
  where
    go : (ps : List Prefix) → Memᴰ q ps → (j : ℕ) × (j < length ps) × (get_or ps j [] ≡ q)
    go [] k = absurd (Memᴰ.not-nil k)
    go (x ∷ ps) k =
        ⊎_elim (λ e. (0, omega arith, sym e)) (λ l. let s = go ps l in (suc s.0, omega (arith, s.1), s.2)) (Memᴰ.cases_cons k)
