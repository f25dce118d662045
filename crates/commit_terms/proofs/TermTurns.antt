-- The list of commit terms lengthened, the search for the first changed index and the loop that replaces places, turn by turn, and
-- the record as a whole.
-- Assumes nothing.
use Prim.Native.Nat.{ℕ, zero, suc, ◌+◌, ◌-◌, ◌*◌, ◌≤◌, ◌<◌}
use native.Mathlib.Omega.{arith}
use mathlib.Core.Path.{◌≡◌, refl, sym, ◌∙◌, ap}
use mathlib.Core.Bool.{Bool, true, false, ◌||◌}
use mathlib.Core.List.{◌++◌}
use lib.Dec.{ltb, eqb}
use lib.ListN.{length, take, drop, length-take, length-drop}
use borrow.Author.Tests.{eq-eqb, ne_eqb, lt-ltb, le-ltb}
use Rattle.model.specs.Sizes.{Bytes, index_limit}
use Rattle.model.proofs.Tests.{cond_cases, cond_true, cond_false}
use Rattle.storage_bytes.specs.Words.{word_bytes, put_bytes}
use Rattle.storage_bytes.specs.Layout.{terms_start, history_length, term_width, terms_field, certificates_field}
use Rattle.storage.specs.Tables.{term_row, terms_part}
use Rattle.storage.specs.Fresh.{zeros}
use Rattle.storage.specs.Writes.{terms_lengthened}
use Rattle.storage.specs.Head.{terms_held, certificates_held, put_head_field}
use Rattle.storage.proofs.FreshLaws.{zeros_length}
use Rattle.storage.proofs.WriteLaws.{region_back}
use Rattle.storage.proofs.RuleLaws.{pass, stop}
use Rattle.storage.proofs.HeadLaws.{head_other, head_before}
use Rattle.units.specs.declared.LogIndex.{LogIndex}
use Rattle.storage_rows.specs.TermSearch.{found_index}
use Rattle.storage_rows.proofs.TermSearchLaws.{index_found, index_none, index_told, nothing_told}
use Rattle.election_certificates.specs.Marks.{lower_back}
use Rattle.commit_terms.specs.Terms.{lengthened_to, term_in, is_replaced, first_replaced, replace_bytes, replace_all, changed_from, record_bytes, terms_step}
use Rattle.answers.specs.declared.answer.Refusal.{Refusal}
use Rattle.answers.specs.Numbers.{accepted_with}
use Rattle.answers.specs.Step.{Gives, accepting, refusing}
use Rattle.answers.proofs.StepLaws.{ends}
use Rattle.std.specs.Prelude.{Option, Some, None, Err}

-- ---- lengthening

-- the lent places given back as zeros
pub places_cleared : (h ys : Bytes) (n m : ℕ) → n ≤ m → m ≤ index_limit → length h ≡ history_length
    → (let a = terms_start + n * term_width in let k = terms_start + m * term_width - a in
    ys ≡ zeros (length (take k (drop a h))) → take a h ++ (ys ++ drop k (drop a h)) ≡ put_bytes h a (zeros ((m - n) * term_width)))
places_cleared h ys n m l b long e =
    let a = terms_start + n * term_width in
    let k = terms_start + m * term_width - a in
    let size : length (take k (drop a h)) ≡ (m - n) * term_width = (let p = length-take k (drop a h) in let q = length-drop a h in omega arith) in
    let is : ys ≡ zeros ((m - n) * term_width) = e ∙ ap zeros size in
    region_back h ys a k (ap length is ∙ zeros_length ((m - n) * term_width) ∙ (let z : (m - n) * term_width ≡ k = omega arith in z)) (omega arith) ∙ ap (put_bytes h a) is

module _ (h : Bytes) (new : ℕ) where
  module _ (n : ℕ) (e : n ≡ terms_held h) where
    pub lengthen_not : new ≤ n → h ≡ lengthened_to h new
    unfolding lengthened_to
    lengthen_not l = sym (cond_false (ltb (terms_held h) new) _ h (le-ltb _ new (omega arith)))

    pub lengthen_so : n < new → (u : Bytes) → u ≡ put_bytes h (terms_start + n * term_width) (zeros ((new - n) * term_width)) → (v : Bytes) → v ≡ put_head_field terms_field u new
        → v ≡ lengthened_to h new
    unfolding lengthened_to terms_lengthened
    lengthen_so l u eu v ev =
        ev ∙ ap (λ (z : Bytes). put_head_field terms_field z new) eu
        ∙ ap (λ (m : ℕ). put_head_field terms_field (put_bytes h (terms_start + m * term_width) (zeros ((new - m) * term_width))) new) e
        ∙ sym (cond_true (ltb (terms_held h) new) _ h (lt-ltb _ new (omega arith)))

  -- as many certificates as before
  pub lengthened_certificates : certificates_held (lengthened_to h new) ≡ certificates_held h
  unfolding lengthened_to terms_lengthened
  lengthened_certificates =
      cond_cases (λ (u : Bytes). certificates_held u ≡ certificates_held h) (ltb (terms_held h) new) _ h
      (λ _.
      head_other _ terms_field new certificates_field (λ e. omega (arith, e))
      ∙ head_before h (terms_start + terms_held h * term_width) (zeros ((new - terms_held h) * term_width)) certificates_field (omega arith))
      (λ _. refl)

-- ---- one place, as it was read

module _ (t x : ℕ) where
  pub replaced_none : t ≡ 0 → false ≡ is_replaced t x
  unfolding is_replaced
  replaced_none e = sym (stop _ (le-ltb 0 t (omega arith)))

  module _ (n : t ≡ 0 → ⊥) where
    some_term : ltb 0 t ≡ true
    some_term = lt-ltb 0 t (omega arith)

    pub replaced_zero : x ≡ 0 → true ≡ is_replaced t x
    unfolding is_replaced
    replaced_zero e = sym (pass _ some_term ∙ ap (λ (b : Bool). b || ltb t x) (eq-eqb x 0 e))

    pub replaced_greater : (x ≡ 0 → ⊥) → ltb t x ≡ is_replaced t x
    unfolding is_replaced
    replaced_greater m = sym (pass _ some_term ∙ ap (λ (b : Bool). b || ltb t x) (ne_eqb x 0 m))

module _ (h : Bytes) (k t : ℕ) (q : Bytes) (eq : q ≡ terms_part h) (x : ℕ) (e : x ≡ term_row q k) (b : Bool) (eb : b ≡ is_replaced t x) where
  test_is : is_replaced t (term_in h k) ≡ b
  test_is = ap (is_replaced t) (sym (e ∙ ap (λ (r : Bytes). term_row r k) eq)) ∙ sym eb

  pub replace_not : b ≡ false → h ≡ replace_bytes h k t
  unfolding replace_bytes
  replace_not f = sym (cond_false (is_replaced t (term_in h k)) _ h (test_is ∙ f))

  pub replace_so : b ≡ true → (u : Bytes) → u ≡ put_bytes h (terms_start + k * term_width) (word_bytes term_width t) → u ≡ replace_bytes h k t
  unfolding replace_bytes
  replace_so f u w = w ∙ sym (cond_true (is_replaced t (term_in h k)) _ h (test_is ∙ f))

-- ---- the search; i is the index that is looked at next

-- one more index of those left
left_more : (new i : ℕ) → i < new + 1 → new + 1 - i ≡ suc (new + 1 - (i + 1))
left_more new i h = omega arith

module _ (row : ℕ → ℕ) (t old new : ℕ) where
  pub record Searching (i : ℕ) : Type 0 where
    pub low : 1 ≤ i
    pub same : first_replaced row t old (new - old) ≡ first_replaced row t (i - 1) (new + 1 - i)

  pub searching_starts : Searching (old + 1)
  searching_starts = record {
    low = omega arith;
    same = λ j. first_replaced row t (let e : old ≡ old + 1 - 1 = omega arith in e j) (let e : new - old ≡ new + 1 - (old + 1) = omega arith in e j);
  }

  abbrev Found : Option LogIndex → Type 0
  Found r = r ≡ found_index (first_replaced row t old (new - old))

  module _ (i : ℕ) (w : Searching i) where
    pub searching_none : new + 1 ≤ i → Found None
    unfolding first_replaced
    searching_none l = index_none _ (sym (w.same ∙ ap (first_replaced row t (i - 1)) (let e : new + 1 - i ≡ 0 = omega arith in e)))

    module _ (l : i < new + 1) (x : ℕ) (e : x ≡ row (i - 1)) (b : Bool) (eb : b ≡ is_replaced t x) where
      look : is_replaced t (row (i - 1)) ≡ b
      look = ap (is_replaced t) (sym e) ∙ sym eb

      pub searching_found : b ≡ true → Found (Some (record { 0 = i }))
      unfolding first_replaced
      searching_found f =
          index_found _ _
          (sym (w.same ∙ ap (first_replaced row t (i - 1)) (left_more new i l) ∙ cond_true (is_replaced t (row (i - 1))) (i - 1 + 1) _ (look ∙ f)
          ∙ (let e : i - 1 + 1 ≡ i = omega (arith, w.low) in e)))
          (λ z. omega (arith, w.low))

      pub searching_next : b ≡ false → Searching (i + 1)
      unfolding first_replaced
      searching_next f = record {
        low = omega arith;
        same =
            w.same ∙ ap (first_replaced row t (i - 1)) (left_more new i l) ∙ cond_false (is_replaced t (row (i - 1))) (i - 1 + 1) _ (look ∙ f)
            ∙ ap (λ (j : ℕ). first_replaced row t j (new + 1 - (i + 1))) (let e : i - 1 + 1 ≡ i + 1 - 1 = omega (arith, w.low) in e);
      }

-- ---- replacing; i is the index whose place is replaced next

pub record Replacing (h₀ : Bytes) (first new t : ℕ) (h : Bytes) (i : ℕ) : Type 0 where
  pub low : 1 ≤ i
  pub bytes : replace_all h₀ t (first - 1) (new + 1 - first) ≡ replace_all h t (i - 1) (new + 1 - i)

module _ (h₀ : Bytes) (first new t : ℕ) where
  pub replacing_starts : 1 ≤ first → Replacing h₀ first new t h₀ first
  replacing_starts s = record { low = s; bytes = refl }

  module _ (h : Bytes) (i : ℕ) (w : Replacing h₀ first new t h i) where
    pub replacing_next : i < new + 1 → (u : Bytes) → u ≡ replace_bytes h (i - 1) t → Replacing h₀ first new t u (i + 1)
    unfolding replace_all
    replacing_next l u e = record {
      low = omega arith;
      bytes =
          w.bytes ∙ ap (replace_all h t (i - 1)) (left_more new i l)
          ∙ (λ j. replace_all (sym e j) t (let q : i - 1 + 1 ≡ i + 1 - 1 = omega (arith, w.low) in q j) (new + 1 - (i + 1)));
    }

    pub replacing_ends : new + 1 ≤ i → h ≡ replace_all h₀ t (first - 1) (new + 1 - first)
    unfolding replace_all
    replacing_ends l = sym (w.bytes ∙ ap (replace_all h t (i - 1)) (let e : new + 1 - i ≡ 0 = omega arith in e))

-- as many certificates as before
replace_certificates : (h : Bytes) (k t : ℕ) → certificates_held (replace_bytes h k t) ≡ certificates_held h
unfolding replace_bytes
replace_certificates h k t =
    cond_cases (λ (u : Bytes). certificates_held u ≡ certificates_held h) (is_replaced t (term_in h k)) _ h
    (λ _. head_before h (terms_start + k * term_width) (word_bytes term_width t) certificates_field (omega arith)) (λ _. refl)

pub replace_all_certificates : (h : Bytes) (t k n : ℕ) → certificates_held (replace_all h t k n) ≡ certificates_held h
unfolding replace_all
replace_all_certificates h t k zero = refl
replace_all_certificates h t k (suc n) = replace_all_certificates (replace_bytes h k t) t (k + 1) n ∙ replace_certificates h k t

-- ---- the record

module _ (h : Bytes) (old new t : ℕ) where
  pub record_refused : new < old → Gives (terms_step h old new t) (Err Refusal.OldExceedsNew) h
  unfolding terms_step
  record_refused l = ends _ (refusing Refusal.OldExceedsNew h) (cond_true (ltb new old) _ _ (lt-ltb new old l))

  module _ (l : old ≤ new) (u : Bytes) (eu : u ≡ lengthened_to h new) (ts : Bytes) (et : ts ≡ terms_part u)
      (found : Option LogIndex) (ef : found ≡ found_index (first_replaced (term_row ts) t old (new - old))) where
    accepted : (z : Bytes) → z ≡ changed_from u new t (first_replaced (term_row ts) t old (new - old)) → Gives (terms_step h old new t) (accepted_with 0) z
    unfolding terms_step record_bytes
    accepted z e =
        let g = ap (λ (r : Bytes). first_replaced (term_row r) t old (new - old)) (et ∙ ap terms_part eu) in
        let w : z ≡ record_bytes h old new t = e ∙ (λ i. changed_from (eu i) new t (g i)) in
        ends _ (accepting 0 z) (cond_false (ltb new old) _ _ (le-ltb new old l) ∙ ap (accepting 0) (sym w))

    pub record_unchanged : found ≡ None → (z : Bytes) → z ≡ u → Gives (terms_step h old new t) (accepted_with 0) z
    unfolding changed_from
    record_unchanged q z ez =
        let k = first_replaced (term_row ts) t old (new - old) in
        accepted z (ez ∙ sym (cond_true (eqb k 0) u _ (eq-eqb k 0 (nothing_told k found ef q))))

    pub record_changed : (first : LogIndex) → found ≡ Some first → (v : Bytes) → v ≡ replace_all u t (first.0 - 1) (new + 1 - first.0)
        → (z : Bytes) → z ≡ lower_back v t first.0 (certificates_held v) → Gives (terms_step h old new t) (accepted_with 0) z
    unfolding changed_from
    record_changed first q v ev z ez =
        let k = first_replaced (term_row ts) t old (new - old) in
        let p = index_told k found ef first q in
        let n : certificates_held v ≡ certificates_held u = ap (λ (y : Bytes). certificates_held y) ev ∙ replace_all_certificates u t (first.0 - 1) (new + 1 - first.0) in
        accepted z
        (ez ∙ (λ i. lower_back (ev i) t first.0 (n i))
        ∙ ap (λ (j : ℕ). lower_back (replace_all u t (j - 1) (new + 1 - j)) t j (certificates_held u)) p.0
        ∙ sym (cond_false (eqb k 0) u _ (ne_eqb k 0 p.1)))
