-- The turns of the comparison of two stored prefixes: what is left to compare, from what was left before. Each law takes the loop's
-- invariant first.
-- Assumes nothing.
use Prim.Native.Nat.{ℕ, zero, suc, ◌+◌, ◌-◌, ◌*◌, ◌<◌, ◌≤◌, min}
use native.Mathlib.Omega.{arith}
use mathlib.Core.Path.{◌≡◌, refl, sym, ◌∙◌, ap}
use mathlib.Core.Bool.{Bool, true, false, cond, ◌&&◌, ◌||◌}
use lib.Dec.{eqb}
use lib.ListN.{length, get_or, drop}
use borrow.Author.Tests.{eq-eqb, ne_eqb}
use Rattle.std.proofs.lemmas.List.{drop_more, drop_all}
use Rattle.model.specs.Sizes.{Bytes, content_limit}
use Rattle.model.proofs.Tests.{cond_true, cond_false}
use Rattle.storage_bytes.specs.Words.{bytes_at, same_bytes}
use Rattle.storage_bytes.specs.Layout.{prefix_width, prefix_content}
use Rattle.storage.specs.Tables.{PrefixRow, prefix_row}
use Rattle.storage_bytes.proofs.ListLaws.{tabulate_length}
use Rattle.log_prefix.specs.Comparison.{same_entry, same_from}

-- ---- the comparison of two prefixes

-- r is what is left to compare
pub record Compared (row : ℕ → PrefixRow) (r : Bool) (p q : ℕ) : Type 0 where
  pub fuel : ℕ
  pub enough : p ≤ fuel
  pub is : r ≡ same_from row fuel p q

neither : (p q : ℕ) → (p ≡ 0 → ⊥) → (q ≡ 0 → ⊥) → eqb p 0 || eqb q 0 ≡ false
neither p q z w = λ j. ne_eqb p 0 z j || ne_eqb q 0 w j

module _ (row : ℕ → PrefixRow) {r : Bool} (p q : ℕ) where
  pub compare_equal : Compared row r p q → p ≡ q → r ≡ true
  unfolding same_from
  compare_equal c e = c.is ∙ go c.fuel
    where
      go : (f : ℕ) → same_from row f p q ≡ true
      go zero = eq-eqb p q e
      go (suc f) = cond_true (eqb p q) true _ (eq-eqb p q e)

  step : Compared row r p q → (p ≡ q → ⊥) → (p ≡ 0 → ⊥)
      → (f : ℕ) × (p ≤ suc f) × (r ≡ cond (eqb p 0 || eqb q 0) false
      (cond (same_entry (row (p - 1)) (row (q - 1))) (same_from row f (row (p - 1)).parent (row (q - 1)).parent) false))
  unfolding same_from
  step c n z = go c.fuel c.enough c.is
    where
      go : (f : ℕ) → p ≤ f → r ≡ same_from row f p q
          → (f : ℕ) × (p ≤ suc f) × (r ≡ cond (eqb p 0 || eqb q 0) false
          (cond (same_entry (row (p - 1)) (row (q - 1))) (same_from row f (row (p - 1)).parent (row (q - 1)).parent) false))
      go zero h e = absurd (z (omega arith))
      go (suc f) h e = (f, h, e ∙ cond_false (eqb p q) true _ (ne_eqb p q n))

  pub compare_first_empty : Compared row r p q → (p ≡ q → ⊥) → p ≡ 0 → r ≡ false
  unfolding same_from
  compare_first_empty c n z = c.is ∙ go c.fuel
    where
      go : (f : ℕ) → same_from row f p q ≡ false
      go zero = ne_eqb p q n
      go (suc f) =
          cond_false (eqb p q) true _ (ne_eqb p q n)
          ∙ cond_true (eqb p 0 || eqb q 0) false _ (ap (λ (b : Bool). b || eqb q 0) (eq-eqb p 0 z))

  pub compare_second_empty : Compared row r p q → (p ≡ q → ⊥) → (p ≡ 0 → ⊥) → q ≡ 0 → r ≡ false
  compare_second_empty c n z w =
      (step c n z).2
      ∙ cond_true (eqb p 0 || eqb q 0) false _ ((λ j. ne_eqb p 0 z j || eq-eqb q 0 w j))

  pub compare_differs : Compared row r p q → (p ≡ q → ⊥) → (p ≡ 0 → ⊥) → (q ≡ 0 → ⊥)
      → same_entry (row (p - 1)) (row (q - 1)) ≡ false → r ≡ false
  compare_differs c n z w d =
      (step c n z).2 ∙ cond_false (eqb p 0 || eqb q 0) false _ (neither p q z w) ∙ cond_false (same_entry (row (p - 1)) (row (q - 1))) _ false d

  pub compare_next : Compared row r p q → (p ≡ q → ⊥) → (p ≡ 0 → ⊥) → (q ≡ 0 → ⊥)
      → same_entry (row (p - 1)) (row (q - 1)) ≡ true → (a b : ℕ) → a ≡ (row (p - 1)).parent → b ≡ (row (q - 1)).parent → a < p
      → Compared row r a b
  compare_next c n z w t a b ea eb l =
      let s = step c n z in
      record {
        fuel = s.0;
        enough = (let x = s.1 in omega arith);
        is = s.2 ∙ cond_false (eqb p 0 || eqb q 0) false _ (neither p q z w) ∙ cond_true (same_entry (row (p - 1)) (row (q - 1))) _ false t
            ∙ (λ j. same_from row s.0 (ea' j) (eb' j));
      }
    where
      ea' : (row (p - 1)).parent ≡ a
      ea' = sym ea

      eb' : (row (q - 1)).parent ≡ b
      eb' = sym eb

-- ---- the last entries of two rows

none : (x : Bool) → (x && false) ≡ false
none true = refl
none false = refl

-- a row that keeps the rules has as many bytes of content as it says
pub content_sized : (t : Bytes) (k a : ℕ) → (prefix_row t k).size ≤ content_limit → a ≡ (prefix_row t k).size
    → length (prefix_row t k).content ≡ a
unfolding bytes_at
content_sized t k a l e =
    let z : min (prefix_row t k).size content_limit ≡ a = omega arith in
    tabulate_length (λ i. get_or t i 0) (k * prefix_width + prefix_content) (min (prefix_row t k).size content_limit) ∙ z

-- two rows held against each other, from what was read of them
module _ (t : Bytes) (i j a b : ℕ) where
  pub entry_terms : a ≡ (prefix_row t i).term → b ≡ (prefix_row t j).term → (a ≡ b → ⊥)
      → same_entry (prefix_row t i) (prefix_row t j) ≡ false
  unfolding same_entry
  entry_terms ta tb d = rw (← ta, ← tb, ne_eqb a b d)

  pub entry_marks : a ≡ (prefix_row t i).mark → b ≡ (prefix_row t j).mark → (a ≡ b → ⊥)
      → same_entry (prefix_row t i) (prefix_row t j) ≡ false
  unfolding same_entry
  entry_marks ma mb d = rw (← ma, ← mb, ne_eqb a b d) (none (eqb (prefix_row t i).term (prefix_row t j).term))

  module _ (sa : a ≡ (prefix_row t i).size) (sb : b ≡ (prefix_row t j).size) where
    pub entry_sizes : (a ≡ b → ⊥) → same_entry (prefix_row t i) (prefix_row t j) ≡ false
    unfolding same_entry
    entry_sizes d =
        rw (← sa, ← sb, ne_eqb a b d)
        (ap (λ (v : Bool). eqb (prefix_row t i).term (prefix_row t j).term && v) (none (eqb (prefix_row t i).mark (prefix_row t j).mark))
        ∙ none (eqb (prefix_row t i).term (prefix_row t j).term))

    -- past term, mark and size the bytes decide
    pub entry_by_bytes : a ≡ b → (x y : ℕ) → x ≡ (prefix_row t i).term → y ≡ (prefix_row t j).term → x ≡ y
        → (m n : ℕ) → m ≡ (prefix_row t i).mark → n ≡ (prefix_row t j).mark → m ≡ n
        → same_entry (prefix_row t i) (prefix_row t j) ≡ same_bytes (prefix_row t i).content (prefix_row t j).content
    unfolding same_entry
    entry_by_bytes e x y ta tb d m n ma mb g = rw (← ta, ← tb, eq-eqb x y d, ← ma, ← mb, eq-eqb m n g, ← sa, ← sb, eq-eqb a b e)

-- the bytes of two contents from place k on; b is whether they are the same
module _ (xs ys : Bytes) (k : ℕ) {b : Bool} where
  step_bytes : b ≡ same_bytes (drop k xs) (drop k ys) → k < length xs → k < length ys
      → b ≡ (eqb (get_or xs k 0) (get_or ys k 0) && same_bytes (drop (k + 1) xs) (drop (k + 1) ys))
  unfolding same_bytes
  step_bytes inv h g = inv ∙ (λ i. same_bytes (drop_more xs k 0 h i) (drop_more ys k 0 g i))

  pub bytes_next : b ≡ same_bytes (drop k xs) (drop k ys) → k < length xs → k < length ys → get_or xs k 0 ≡ get_or ys k 0
      → b ≡ same_bytes (drop (k + 1) xs) (drop (k + 1) ys)
  bytes_next inv h g e =
      step_bytes inv h g
      ∙ ap (λ (v : Bool). v && same_bytes (drop (k + 1) xs) (drop (k + 1) ys)) (eq-eqb (get_or xs k 0) (get_or ys k 0) e)

  pub bytes_differ : b ≡ same_bytes (drop k xs) (drop k ys) → k < length xs → k < length ys
      → (get_or xs k 0 ≡ get_or ys k 0 → ⊥) → b ≡ false
  bytes_differ inv h g d =
      step_bytes inv h g
      ∙ ap (λ (v : Bool). v && same_bytes (drop (k + 1) xs) (drop (k + 1) ys)) (ne_eqb (get_or xs k 0) (get_or ys k 0) d)

  pub bytes_end : b ≡ same_bytes (drop k xs) (drop k ys) → length xs ≤ k → length ys ≤ k → b ≡ true
  unfolding same_bytes
  bytes_end inv h g = inv ∙ (λ i. same_bytes (drop_all k xs h i) (drop_all k ys g i))
