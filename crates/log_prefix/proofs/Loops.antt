-- The turns of the loops over stored prefixes: what is left of a search and of a slice, each from what was left before. Each law
-- takes the loop's invariant first.
-- Assumes nothing.
use Prim.Native.Nat.{ℕ, zero, suc, ◌+◌, ◌-◌, ◌*◌, ◌<◌, ◌≤◌}
use native.Mathlib.Omega.{arith}
use mathlib.Core.Path.{◌≡◌, refl, sym, ◌∙◌, ap, subst}
use mathlib.Core.Bool.{Bool, true, false, cond, not}
use lib.Dec.{leb, ltb, eqb}
use lib.ListN.{length, take}
use Rattle.std.proofs.lemmas.Bool.{not-true, not-false}
use borrow.Author.Tests.{eqb-true, eqb-false, eq-eqb, ne_eqb, le-leb, lt-leb, lt-ltb, le-ltb}
use Rattle.model.specs.Sizes.{Bytes}
use Rattle.model.proofs.Tests.{cond_true, cond_false}
use Rattle.storage_bytes.specs.Words.{word_at, bytes_at}
use Rattle.storage_bytes.specs.Layout.{part, prefix_width, number_width, term_width, byte_width, prefix_term, prefix_mark, prefix_size}
use Rattle.storage.specs.Tables.{PrefixRow, prefix_row}
use Rattle.storage.specs.Rules.{same_row}
use Rattle.storage_bytes.proofs.ListLaws.{tabulate_length}
use Rattle.storage_bytes.proofs.ByteTurns.{part_bytes, pointwise_bytes}
use Rattle.std.specs.Cmp.Lexicographic.{pointwise}
use Rattle.units.specs.declared.LogPrefixWitness.{LogPrefixWitness}
use Rattle.log_prefix.specs.Prefix.{witness, row_of, search_from, slice_from, slice_of}
use Rattle.storage.specs.Values.{index_of, number_index}
use Rattle.std.specs.Prelude.{Some, None}

-- ---- a search from place k on, before place n

module _ (test : ℕ → Bool) (k n : ℕ) {r : ℕ} where
  step_search : r ≡ search_from test k (n - k) → k < n → r ≡ cond (test k) (k + 1) (search_from test (k + 1) (n - (k + 1)))
  unfolding search_from
  step_search inv h = inv ∙ ap (search_from test k) (let e : n - k ≡ suc (n - (k + 1)) = omega arith in e)

  pub search_next : r ≡ search_from test k (n - k) → k < n → test k ≡ false → r ≡ search_from test (k + 1) (n - (k + 1))
  search_next inv h f = step_search inv h ∙ cond_false (test k) (k + 1) _ f

  pub search_stop : r ≡ search_from test k (n - k) → k < n → test k ≡ true → r ≡ k + 1
  search_stop inv h t = step_search inv h ∙ cond_true (test k) (k + 1) _ t

  pub search_none : r ≡ search_from test k (n - k) → n ≤ k → r ≡ 0
  unfolding search_from
  search_none inv h = inv ∙ ap (search_from test k) (let e : n - k ≡ 0 = omega arith in e)

-- ---- what a test of two numbers told

pub are_same : {a b : ℕ} → false ≡ not (eqb a b) → a ≡ b
are_same {a} {b} e = eqb-true a b (not-false (eqb a b) (sym e))

pub are_other : {a b : ℕ} → true ≡ not (eqb a b) → a ≡ b → ⊥
are_other {a} {b} e = eqb-false a b (not-true (eqb a b) (sym e))

-- ---- a row held against an extension, from what was read of it

-- the bytes that count, cut from the 32
content_is : (bs : Bytes) (n : ℕ) → n ≤ length bs → take n bs ≡ bytes_at bs 0 n
unfolding part
content_is bs n h = part_bytes bs 0 n (omega arith)

module _ (t c : Bytes) (k p term : ℕ) (configuration : Bool) (n a b q m : ℕ) (ea : a ≡ word_at t (k * prefix_width) number_width) where
  abbrev Extension : PrefixRow
  Extension = row_of p 0 (record { term = term; configuration = configuration; content = bytes_at c 0 n })

  pub match_parent : (a ≡ p → ⊥) → false ≡ same_row (prefix_row t k) Extension
  unfolding same_row
  match_parent d = rw (← ea, ne_eqb a p d)

  module _ (da : a ≡ p) (eb : b ≡ word_at t (k * prefix_width + prefix_term) term_width) where
    pub match_term : (b ≡ term → ⊥) → false ≡ same_row (prefix_row t k) Extension
    unfolding same_row
    match_term d = rw (← ea, eq-eqb a p da, ← eb, ne_eqb b term d)

    module _ (db : b ≡ term) (eq : q ≡ word_at t (k * prefix_width + prefix_mark) byte_width) where
      pub match_mark : (q ≡ cond configuration 1 0 → ⊥) → false ≡ same_row (prefix_row t k) Extension
      unfolding same_row
      match_mark d = rw (← ea, eq-eqb a p da, ← eb, eq-eqb b term db, ← eq, ne_eqb q (cond configuration 1 0) d)

      module _ (dq : q ≡ cond configuration 1 0) (em : m ≡ word_at t (k * prefix_width + prefix_size) byte_width) where
        size_is : length (bytes_at c 0 n) ≡ n
        unfolding bytes_at
        size_is = tabulate_length _ 0 n

        pub match_size : (m ≡ n → ⊥) → false ≡ same_row (prefix_row t k) Extension
        unfolding same_row
        match_size d =
            rw (size_is, ← ea, eq-eqb a p da, ← eb, eq-eqb b term db, ← eq, eq-eqb q (cond configuration 1 0) dq, ← em, ne_eqb m n d)

        pub match_content : m ≡ n → n ≤ length c → (r : Bool) → r ≡ pointwise eqb (prefix_row t k).content (take n c) → r ≡ same_row (prefix_row t k) Extension
        unfolding same_row
        match_content d h r e =
            rw (size_is, ← ea, eq-eqb a p da, ← eb, eq-eqb b term db, ← eq, eq-eqb q (cond configuration 1 0) dq, ← em, eq-eqb m n d)
            (rw (pointwise_bytes, content_is c n h, ← em) at e)

-- ---- numbers and places: number p stands at place p - 1

pub place_before : {p n : ℕ} → p ≤ n → (p ≡ 0 → ⊥) → p - 1 < n
place_before h z = omega arith

pub parent_within : {p n a : ℕ} (w : ℕ) → a ≡ w → w ≤ p - 1 → p ≤ n → a ≤ n
parent_within w e l h = omega arith

pub parent_below : {p a : ℕ} (w : ℕ) → a ≡ w → w ≤ p - 1 → (p ≡ 0 → ⊥) → a < p
parent_below w e l z = omega arith

-- ---- the slice of a prefix

pub index_is : (t : Bytes) (p r : ℕ) → r ≡ number_index t p → r ≡ index_of (prefix_row t) p
unfolding number_index
index_is t p r e = e

-- only a prefix that is not empty passes an index
pub passes_some : (row : ℕ → PrefixRow) (p i r : ℕ) → r ≡ index_of row p → i < r → p ≡ 0 → ⊥
passes_some row p i r e h z = let x = e ∙ cond_true (eqb p 0) 0 (row (p - 1)).index (eq-eqb p 0 z) in omega arith

-- r is what is left to slice
pub record Sliced (row : ℕ → PrefixRow) (i r q : ℕ) : Type 0 where
  pub fuel : ℕ
  pub enough : q ≤ fuel
  pub is : r ≡ slice_from row i fuel q

done : (row : ℕ → PrefixRow) (i q f : ℕ) → leb (index_of row q) i ≡ true → slice_from row i (suc f) q ≡ q
unfolding slice_from
done row i q f t = cond_true (leb (index_of row q) i) q _ t

more : (row : ℕ → PrefixRow) (i q f : ℕ) → leb (index_of row q) i ≡ false → slice_from row i (suc f) q ≡ slice_from row i f (row (q - 1)).parent
unfolding slice_from
more row i q f t = cond_false (leb (index_of row q) i) q _ t

module _ (row : ℕ → PrefixRow) {r : ℕ} (i q x : ℕ) where
  pub slice_done : Sliced row i r q → x ≡ index_of row q → x ≤ i → q ≡ r
  slice_done s e h = sym (s.is ∙ go s.fuel)
    where
      go : (f : ℕ) → slice_from row i f q ≡ q
      go zero = unfold slice_from in refl
      go (suc f) = done row i q f (le-leb (index_of row q) i (subst (λ (y : ℕ). y ≤ i) e h))

  pub slice_next : Sliced row i r q → x ≡ index_of row q → i < x → (a : ℕ) → a ≡ (row (q - 1)).parent → a < q → Sliced row i r a
  slice_next s e h a ea l = go s.fuel s.enough s.is
    where
      go : (f : ℕ) → q ≤ f → r ≡ slice_from row i f q → Sliced row i r a
      go zero g w = absurd (omega arith)
      go (suc f) g w =
          record {
            fuel = f;
            enough = omega arith;
            is = w ∙ more row i q f (lt-leb (index_of row q) i (subst (λ (y : ℕ). i < y) e h)) ∙ ap (slice_from row i f) (sym ea);
          }

module _ (t : Bytes) (p i x : ℕ) (e : x ≡ index_of (prefix_row t) p) where
  pub slice_beyond : x < i → None ≡ slice_of (prefix_row t) p i
  unfolding slice_of
  slice_beyond h = sym (cond_true (ltb (index_of (prefix_row t) p) i) None _ (lt-ltb (index_of (prefix_row t) p) i (subst (λ (y : ℕ). y < i) e h)))

  pub slice_found : i ≤ x → (q : LogPrefixWitness) → q.0 ≡ slice_from (prefix_row t) i p p → Some q ≡ slice_of (prefix_row t) p i
  unfolding slice_of
  slice_found h q w =
      ap (λ (k : ℕ). Some (witness k)) w
      ∙ sym (cond_false (ltb (index_of (prefix_row t) p) i) None _ (le-ltb (index_of (prefix_row t) p) i (subst (λ (y : ℕ). i ≤ y) e h)))
