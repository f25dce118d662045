-- What the searches over the rows mean of the prefixes that the rows resolve to.
-- Assumes nothing.
use Prim.Native.Nat.{ℕ, zero, suc, ◌+◌, ◌-◌, ◌<◌, ◌≤◌, suc-le-suc}
use native.Mathlib.Nat.{le_refl, le_of_suc-le-suc, not-suc-le-zero}
use native.Mathlib.Omega.{arith}
use native.Mathlib.Numerals.{add-one}
use mathlib.Core.Path.{◌≡◌, refl, sym, ◌∙◌, ap, subst}
use mathlib.Core.Bool.{Bool, true, false, cond, ◌&&◌}
use mathlib.Core.Logic.{◌⊎◌, inl, inr, ⊎_elim}
use mathlib.Core.List.{List, [], ◌∷◌, ◌++◌, map}
use mathlib.Core.Option.{none, some}
use lib.Dec.{ltb, eqb}
use lib.ListN.{length, get_or, length-append, get_or-map}
use borrow.Author.Tests.{eqb-true, eqb-false, ltb-true, ltb-false}
use Rattle.model.specs.Entry.{Entry, Prefix, last_term}
use Rattle.model.specs.View.{remembered}
use Rattle.model.specs.Sizes.{content_limit}
use Rattle.model.proofs.Tests.{tf, either, cond_true, cond_false, and_left}
use Rattle.storage.specs.Tables.{PrefixRow}
use Rattle.storage.specs.Decode.{prefix_at, entry_of, mark_of, extended, resolve}
use Rattle.storage.specs.Rules.{same_row}
use Rattle.storage.proofs.RowFacts.{Facts, row_at, empty_row, entry_after, nil≢snoc, snoc_injective, same_row_true, same_mark, resolve_count}
use Rattle.storage.proofs.PrefixLaws.{found_is}
use Rattle.log_prefix.specs.Prefix.{row_of, search_from, find, is_of, first}

-- the rows by place are those of the list
abbrev pub Rows : (ℕ → PrefixRow) → List PrefixRow → Type 0
Rows row rs = (k : ℕ) → k < length rs → row k ≡ row_at rs k

-- ---- a search over places

-- what a search found, or that there is nothing
pub record Hit (test : ℕ → Bool) (k n x : ℕ) : Type 0 where
  pub place : ℕ
  pub number : x ≡ place + 1
  pub after : k ≤ place
  pub before : place < k + n
  pub passes : test place ≡ true
  pub earlier : (j : ℕ) → k ≤ j → j < place → test j ≡ false

pub record Miss (test : ℕ → Bool) (k n x : ℕ) : Type 0 where
  pub is_zero : x ≡ 0
  pub fails : (j : ℕ) → k ≤ j → j < k + n → test j ≡ false

module _ (test : ℕ → Bool) where
  still : (k j : ℕ) → test k ≡ false → k ≤ j → (k + 1 ≤ j → test j ≡ false) → test j ≡ false
  still k j f a g =
      ⊎_elim (λ e. subst (λ (i : ℕ). test i ≡ false) (eqb-true k j e) f)
      (λ e. g (let z = eqb-false k j e in omega arith)) (either (eqb k j))

  now : (k n : ℕ) → test k ≡ true → Hit test k (suc n) (search_from test k (suc n))
  unfolding search_from
  now k n t =
      record {
        place = k;
        number = cond_true (test k) (k + 1) (search_from test (k + 1) n) t;
        after = omega arith;
        before = omega arith;
        passes = t;
        earlier = λ j a b. absurd (omega arith);
      }

  later : (k n : ℕ) → test k ≡ false → Hit test (k + 1) n (search_from test (k + 1) n) → Hit test k (suc n) (search_from test k (suc n))
  unfolding search_from
  later k n f h =
      record {
        place = h.place;
        number = cond_false (test k) (k + 1) (search_from test (k + 1) n) f ∙ h.number;
        after = (let z = h.after in omega arith);
        before = (let z = h.before in omega arith);
        passes = h.passes;
        earlier = λ j a b. still k j f a (λ c. h.earlier j c b);
      }

  never : (k n : ℕ) → test k ≡ false → Miss test (k + 1) n (search_from test (k + 1) n) → Miss test k (suc n) (search_from test k (suc n))
  unfolding search_from
  never k n f m =
      record {
        is_zero = cond_false (test k) (k + 1) (search_from test (k + 1) n) f ∙ m.is_zero;
        fails = λ j a b. still k j f a (λ c. m.fails j c (omega arith));
      }

  pub searched : (k n : ℕ) → Hit test k n (search_from test k n) ⊎ Miss test k n (search_from test k n)
  searched k zero = inr (record { is_zero = unfold search_from in refl; fails = λ j a b. absurd (omega arith) })
  searched k (suc n) =
      ⊎_elim (λ t. inl (now k n t))
      (λ f. ⊎_elim (λ h. inl (later k n f h)) (λ m. inr (never k n f m)) (searched (k + 1) n))
      (either (test k))

-- ---- the row of an extension

flag_back : (b : Bool) → eqb (cond b 1 0) 1 ≡ b
flag_back true = refl
flag_back false = refl

flag_small : (b : Bool) → cond b 1 0 ≤ 1
flag_small true = omega arith
flag_small false = omega arith

pub mark_small : (e : Entry) → mark_of e ≤ 1
mark_small e = flag_small e.configuration

-- a row holds the entry that it was made of
pub entry_back : (p i : ℕ) (e : Entry) → entry_of (row_of p i e) ≡ e
entry_back p i e = λ j. record { term = e.term; configuration = flag_back e.configuration j; content = e.content }

pub extended_is : (ps : List Prefix) (p i : ℕ) (e : Entry) → extended ps (row_of p i e) ≡ prefix_at ps p ++ (e ∷ [])
extended_is ps p i e = ap (λ (x : Entry). prefix_at ps p ++ (x ∷ [])) (entry_back p i e)

module _ (row : ℕ → PrefixRow) (rs : List PrefixRow) (f : Facts rs) (at : Rows row rs)
    (p i : ℕ) (e : Entry) (h : p ≤ length rs) (short : length e.content ≤ content_limit) where
  abbrev Next : Prefix
  Next = prefix_at (resolve rs) p ++ (e ∷ [])

  -- found: the number of the extended prefix
  pub found : (x : ℕ) → find row (length rs) (row_of p i e) ≡ suc x → (suc x ≤ length rs) × (prefix_at (resolve rs) (suc x) ≡ Next)
  unfolding find
  found x q = ⊎_elim hit (λ m. absurd (let z = m.is_zero in omega arith)) (searched (λ k. same_row (row k) (row_of p i e)) p (length rs - p))
    where
      hit : Hit (λ k. same_row (row k) (row_of p i e)) p (length rs - p) (search_from (λ k. same_row (row k) (row_of p i e)) p (length rs - p))
          → (suc x ≤ length rs) × (prefix_at (resolve rs) (suc x) ≡ Next)
      hit t =
          let k = t.place in
          let l : k < length rs = (let z = t.before in let y = t.after in omega arith) in
          let kx : k ≡ x = (let z = t.number in omega arith) in
          let s : same_row (row_at rs k) (row_of p i e) ≡ true = subst (λ (y : PrefixRow). same_row y (row_of p i e) ≡ true) (at k l) t.passes in (
            (let z = l in omega arith),
            ap (λ (j : ℕ). prefix_at (resolve rs) j) (ap suc (sym kx) ∙ sym (add-one k)) ∙ found_is rs f (row_of p i e) k l s
                ∙ extended_is (resolve rs) p i e,
          )

  -- not found: the extended prefix has no number
  pub missing : find row (length rs) (row_of p i e) ≡ 0 → (q : ℕ) → q ≤ length rs → prefix_at (resolve rs) q ≡ Next → ⊥
  unfolding find
  missing z q l w = ⊎_elim (λ t. let y = t.number in omega arith) (λ m. gone m q l w) (searched (λ k. same_row (row k) (row_of p i e)) p (length rs - p))
    where
      gone : Miss (λ k. same_row (row k) (row_of p i e)) p (length rs - p) (search_from (λ k. same_row (row k) (row_of p i e)) p (length rs - p))
          → (q : ℕ) → q ≤ length rs → prefix_at (resolve rs) q ≡ Next → ⊥
      gone m zero l w = nil≢snoc (prefix_at (resolve rs) p) e w
      gone m (suc k) l w =
          let s = entry_after rs f k l in
          let both = snoc_injective (prefix_at (resolve rs) (row_at rs k).parent) (prefix_at (resolve rs) p) (sym s ∙ w) in
          let below = f.parent k l in
          let par : (row_at rs k).parent ≡ p = f.distinct _ _ (omega arith) h both.0 in
          let ct : (row_at rs k).content ≡ e.content = ap (λ (x : Entry). x.content) both.1 in
          let mk : (row_at rs k).mark ≡ mark_of e =
          same_mark (row_at rs k).mark (mark_of e) (f.small k l).2 (mark_small e)
          (ap (λ (x : Entry). x.configuration) (both.1 ∙ sym (entry_back p i e))) in
          let sk : (row_at rs k).size ≡ length e.content = sym (f.sized k l) ∙ ap length ct in
          tf (sym (subst (λ (y : PrefixRow). same_row y (row_of p i e) ≡ true) (sym (at k l))
          (same_row_true (row_at rs k) (row_of p i e) par (ap (λ (x : Entry). x.term) both.1) mk sk ct))
          ∙ m.fails k (omega arith) (omega arith))

-- ---- the remembered prefix

pub last_term_snoc : (q : Prefix) (e : Entry) → last_term (q ++ (e ∷ [])) ≡ e.term
unfolding last_term
last_term_snoc [] e = refl
last_term_snoc (x ∷ []) e = refl
last_term_snoc (x ∷ y ∷ q) e = last_term_snoc (y ∷ q) e

-- a prefix has the index and term
abbrev is_at : ℕ → ℕ → Prefix → Bool
is_at i t p = eqb (length p) i && eqb (last_term p) t

remembered_hit : (i t : ℕ) (ps : List Prefix) (k : ℕ) → k < length ps → is_at i t (get_or ps k []) ≡ true
    → ((j : ℕ) → j < k → is_at i t (get_or ps j []) ≡ false) → remembered ps i t ≡ some (get_or ps k [])
unfolding remembered
remembered_hit i t [] k h e f = absurd (not-suc-le-zero h)
remembered_hit i t (p ∷ ps) zero h e f = cond_true (is_at i t p) (some p) (remembered ps i t) e
remembered_hit i t (p ∷ ps) (suc k) h e f =
    cond_false (is_at i t p) (some p) (remembered ps i t) (f 0 (omega arith))
    ∙ remembered_hit i t ps k (le_of_suc-le-suc h) e (λ j l. f (suc j) (omega arith))

remembered_miss : (i t : ℕ) (ps : List Prefix) → ((j : ℕ) → j < length ps → is_at i t (get_or ps j []) ≡ false) → remembered ps i t ≡ none
unfolding remembered
remembered_miss i t [] f = refl
remembered_miss i t (p ∷ ps) f =
    cond_false (is_at i t p) (some p) (remembered ps i t) (f 0 (omega arith)) ∙ remembered_miss i t ps (λ j l. f (suc j) (suc-le-suc l))

module _ (rs : List PrefixRow) (f : Facts rs) where
  -- the index of number k + 1 is its row's
  pub row_index : (k : ℕ) → k < length rs → length (prefix_at (resolve rs) (k + 1)) ≡ (row_at rs k).index
  row_index k l =
      f.index (k + 1) (omega arith)
      ∙ ap (λ (j : ℕ). get_or (0 ∷ map (λ r. r.index) rs) j 0) (add-one k)
      ∙ get_or-map (λ (r : PrefixRow). r.index) rs k empty_row

  pub row_term : (k : ℕ) → k < length rs → last_term (prefix_at (resolve rs) (k + 1)) ≡ (row_at rs k).term
  row_term k l = ap last_term (f.entry k l) ∙ last_term_snoc (prefix_at (resolve rs) (row_at rs k).parent) (entry_of (row_at rs k))

  -- a prefix's number is at least its length
  abbrev Bounded : ℕ → Type 0
  Bounded p = p ≤ length rs → length (prefix_at (resolve rs) p) ≤ p

  bound_step : (p : ℕ) → ((q : ℕ) → q < p → Bounded q) → Bounded p
  bound_step zero ih h = le_refl 0
  bound_step (suc k) ih h =
      let par = f.parent k h in
      let below = ih (row_at rs k).parent (suc-le-suc par) (omega arith) in
      let e = ap length (entry_after rs f k h)
      ∙ length-append (prefix_at (resolve rs) (row_at rs k).parent) (entry_of (row_at rs k) ∷ []) in
      omega arith

  bounded : (b p : ℕ) → p < b → Bounded p
  bounded zero p x = absurd (not-suc-le-zero x)
  bounded (suc b) p x = bound_step p (λ q l. bounded b q (omega arith))

  pub number_bounds : (p : ℕ) → p ≤ length rs → length (prefix_at (resolve rs) p) ≤ p
  number_bounds p h = bounded (suc p) p (le_refl (suc p)) h

  place : (k : ℕ) → prefix_at (resolve rs) (k + 1) ≡ get_or (resolve rs) k []
  place k = ap (λ (j : ℕ). prefix_at (resolve rs) j) (add-one k)

  test_same : (i t k : ℕ) → k < length rs → is_at i t (get_or (resolve rs) k []) ≡ is_of i t (row_at rs k)
  test_same i t k l =
      let a = ap length (sym (place k)) ∙ row_index k l in
      let b = ap last_term (sym (place k)) ∙ row_term k l in
      λ j. eqb (a j) i && eqb (b j) t

  -- a row before place i - 1 has a smaller index than i
  before_index : (i t k : ℕ) → k < i - 1 → k < length rs → is_at i t (get_or (resolve rs) k []) ≡ false
  before_index i t k h l =
      ⊎_elim
      (λ e.
      let a : length (get_or (resolve rs) k []) ≡ i = eqb-true _ _ (and_left (eqb (length (get_or (resolve rs) k [])) i) (eqb (last_term (get_or (resolve rs) k [])) t) e) in
      let b = number_bounds (k + 1) (omega arith) in
      let c = ap length (place k) in
      absurd (omega arith))
      (λ e. e) (either (is_at i t (get_or (resolve rs) k [])))

  module _ (row : ℕ → PrefixRow) (at : Rows row rs) (i t : ℕ) where
    pub first_some : (x : ℕ) → first row (length rs) i t ≡ suc x
        → (suc x ≤ length rs) × (remembered (resolve rs) i t ≡ some (prefix_at (resolve rs) (suc x)))
    unfolding first
    first_some x e = ⊎_elim hit (λ m. absurd (let z = m.is_zero in omega arith)) (searched (λ k. is_of i t (row k)) (i - 1) (length rs - (i - 1)))
      where
        hit : Hit (λ k. is_of i t (row k)) (i - 1) (length rs - (i - 1)) (search_from (λ k. is_of i t (row k)) (i - 1) (length rs - (i - 1)))
            → (suc x ≤ length rs) × (remembered (resolve rs) i t ≡ some (prefix_at (resolve rs) (suc x)))
        hit h =
            let k = h.place in
            let l : k < length rs = (let z = h.before in let y = h.after in omega arith) in
            let kx : k ≡ x = (let z = h.number in omega arith) in (
              (let z = l in omega arith),
              remembered_hit i t (resolve rs) k (subst (λ (n : ℕ). k < n) (sym (resolve_count rs)) l)
                  (test_same i t k l ∙ ap (is_of i t) (sym (at k l)) ∙ h.passes)
                  (λ j m. let jl : j < length rs = omega arith in
                  ⊎_elim (λ t'. before_index i t j (ltb-true j (i - 1) t') jl)
                  (λ f'. test_same i t j jl ∙ ap (is_of i t) (sym (at j jl)) ∙ h.earlier j (ltb-false j (i - 1) f') m)
                  (either (ltb j (i - 1))))
                  ∙ ap (λ (j : ℕ). some (get_or (resolve rs) j [])) kx,
            )

    pub first_none : first row (length rs) i t ≡ 0 → remembered (resolve rs) i t ≡ none
    unfolding first
    first_none e = ⊎_elim (λ h. absurd (let z = h.number in omega arith)) miss (searched (λ k. is_of i t (row k)) (i - 1) (length rs - (i - 1)))
      where
        miss : Miss (λ k. is_of i t (row k)) (i - 1) (length rs - (i - 1)) (search_from (λ k. is_of i t (row k)) (i - 1) (length rs - (i - 1)))
            → remembered (resolve rs) i t ≡ none
        miss m =
            remembered_miss i t (resolve rs)
            (λ j l. let jl : j < length rs = subst (λ (n : ℕ). j < n) (resolve_count rs) l in
            ⊎_elim (λ t'. before_index i t j (ltb-true j (i - 1) t') jl)
            (λ f'. let a = ltb-false j (i - 1) f' in test_same i t j jl ∙ ap (is_of i t) (sym (at j jl)) ∙ m.fails j a (omega arith))
            (either (ltb j (i - 1))))
