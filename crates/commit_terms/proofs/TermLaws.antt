-- What recording commit terms on the bytes means: the model's list, its first changed index, and its lowered marks.
-- Assumes nothing.
use Prim.Native.Nat.{ℕ, zero, suc, ◌+◌, ◌-◌, ◌*◌, ◌≤◌, ◌<◌}
use native.Mathlib.Omega.{arith}
use mathlib.Core.Path.{◌≡◌, refl, sym, ◌∙◌, ap, subst}
use mathlib.Core.Bool.{Bool, true, false, cond, ◌&&◌, ◌||◌}
use mathlib.Core.Logic.{⊎_elim}
use mathlib.Core.List.{List, [], ◌∷◌, ◌++◌, map, append_assoc, append-nil}
use lib.Dec.{leb, ltb, eqb}
use lib.ListN.{length, get_or, set, take, drop, replicate, length-append, length-replicate, length-drop, take-append-drop}
use lib.Seq.{get_or_at, set_at, length-take-le}
use borrow.Author.Tests.{ne_eqb, ltb-true, ltb-false, lt-ltb, le-ltb, le-leb, lt-leb}
use Rattle.model.specs.History.{Certificate, History, with_terms, with_certificates}
use Rattle.model.specs.Terms.{lengthened, changes, replaced_from, recorded, first_from, first_changed, lowered, terms_effect}
use Rattle.model.specs.Sizes.{Bytes, index_limit, term_end}
use Rattle.model.proofs.Tests.{either, cond_true, cond_false}
use Rattle.storage_bytes.specs.Words.{word_bytes, put_bytes}
use Rattle.storage_bytes.specs.Layout.{terms_start, term_width}
use Rattle.storage.specs.Tables.{term_row, terms_part}
use Rattle.storage.specs.Writes.{terms_lengthened}
use Rattle.storage.specs.Head.{terms_held, certificates_held}
use Rattle.storage.proofs.RuleLaws.{pass}
use Rattle.storage.proofs.Meanings.{Represents, terms_read, certificates_read, term_read, term_written, terms_added}
use Rattle.election_certificates.specs.Marks.{lower_back}
use Rattle.commit_terms.specs.Terms.{lengthened_to, term_in, is_replaced, first_replaced, replace_bytes, replace_all, changed_from, record_bytes}
use Rattle.election_certificates.proofs.MarkLaws.{lower_means}

module _ (h : Bytes) (x : History) (s : Represents h x) where
  pub terms_counted : length x.terms ≡ terms_held h
  terms_counted = ap (λ (y : History). length y.terms) (sym s.decodes) ∙ terms_read h

  pub certificates_counted : length x.certificates ≡ certificates_held h
  certificates_counted = ap (λ (y : History). length y.certificates) (sym s.decodes) ∙ certificates_read h

  term_held : (k : ℕ) → k < terms_held h → get_or x.terms k 0 ≡ term_in h k
  term_held k l = ap (λ (y : History). get_or y.terms k 0) (sym s.decodes) ∙ term_read h k 0 l

-- ---- the list lengthened

lengthened_means : (h : Bytes) (x : History) (new : ℕ) → Represents h x → new ≤ index_limit
    → Represents (lengthened_to h new) (with_terms x (lengthened new x.terms))
unfolding lengthened_to lengthened
lengthened_means h x new s b =
    let held = terms_counted h x s in
    ⊎_elim
    (λ p.
    subst (λ (u : Bytes). Represents u (with_terms x (x.terms ++ replicate (new - length x.terms) 0))) (sym (cond_true (ltb (terms_held h) new) _ h p))
    (subst (λ (n : ℕ). Represents (terms_lengthened h new) (with_terms x (x.terms ++ replicate (new - n) 0))) (sym held)
    (terms_added h x s new (let l : terms_held h < new = ltb-true _ _ p in omega arith) b)))
    (λ p.
    let none : new - length x.terms ≡ 0 = (let l : new ≤ terms_held h = ltb-false _ _ p in omega arith) in
    subst (λ (u : Bytes). Represents u (with_terms x (x.terms ++ replicate (new - length x.terms) 0))) (sym (cond_false (ltb (terms_held h) new) _ h p))
    (subst (λ (ts : List ℕ). Represents h (with_terms x ts)) (sym (ap (λ (n : ℕ). x.terms ++ replicate n 0) none ∙ append-nil x.terms)) s))
    (either (ltb (terms_held h) new))

-- ---- the places replaced

module _ (old new t : ℕ) where
  -- from old + 1 to new the code's test is the model's
  test_within : (i y : ℕ) → old < i → i ≤ new → changes old new t i y ≡ is_replaced t y
  unfolding changes is_replaced
  test_within i y a b =
      ap (λ (z : Bool). z && ltb 0 t && (eqb y 0 || ltb t y)) (pass (leb i new) (lt-ltb old i a) ∙ le-leb i new b)

  test_before : (i y : ℕ) → i ≤ old → changes old new t i y ≡ false
  unfolding changes
  test_before i y a = ap (λ (z : Bool). z && leb i new && ltb 0 t && (eqb y 0 || ltb t y)) (le-ltb old i a)

  test_after : (i y : ℕ) → new < i → changes old new t i y ≡ false
  unfolding changes
  test_after i y a = never (ltb old i) (leb i new) (ltb 0 t) (eqb y 0 || ltb t y) (lt-leb i new a)
    where
      never : (p q r z : Bool) → q ≡ false → (p && q && r && z) ≡ false
      never true q r z e = ap (λ (b : Bool). b && r && z) e
      never false q r z e = refl

  -- before them and after them nothing changes
  replaced_before : (A B : List ℕ) (i : ℕ) → i + length A ≤ old → replaced_from old new t (i + 1) (A ++ B) ≡ A ++ replaced_from old new t (i + length A + 1) B
  unfolding replaced_from
  replaced_before [] B i l = ap (λ (n : ℕ). replaced_from old new t n B) (let e : i + 1 ≡ i + 0 + 1 = omega arith in e)
  replaced_before (y ∷ A) B i l =
      let e : i + 1 + length A + 1 ≡ i + suc (length A) + 1 = omega arith in
      λ j.
      (cond_false (changes old new t (i + 1) y) t y (test_before (i + 1) y (omega arith)) j)
      ∷ (replaced_before A B (i + 1) (omega arith) ∙ ap (λ (n : ℕ). A ++ replaced_from old new t n B) e) j

  first_before : (A B : List ℕ) (i : ℕ) → i + length A ≤ old → first_from old new t (i + 1) (A ++ B) ≡ first_from old new t (i + length A + 1) B
  unfolding first_from
  first_before [] B i l = ap (λ (n : ℕ). first_from old new t n B) (let e : i + 1 ≡ i + 0 + 1 = omega arith in e)
  first_before (y ∷ A) B i l =
      let e : i + 1 + length A + 1 ≡ i + suc (length A) + 1 = omega arith in
      cond_false (changes old new t (i + 1) y) (i + 1) _ (test_before (i + 1) y (omega arith))
      ∙ first_before A B (i + 1) (omega arith) ∙ ap (λ (n : ℕ). first_from old new t n B) e

  replaced_after : (B : List ℕ) (i : ℕ) → new < i → replaced_from old new t i B ≡ B
  unfolding replaced_from
  replaced_after [] i l = refl
  replaced_after (y ∷ B) i l =
      λ j. cond_false (changes old new t i y) t y (test_after i y l) j ∷ replaced_after B (i + 1) (omega arith) j

  first_after : (B : List ℕ) (i : ℕ) → new < i → first_from old new t i B ≡ 0
  unfolding first_from
  first_after [] i l = refl
  first_after (y ∷ B) i l = cond_false (changes old new t i y) i _ (test_after i y l) ∙ first_after B (i + 1) (omega arith)

  -- one place
  module _ (h : Bytes) (x : History) (A : List ℕ) (y : ℕ) (B : List ℕ) (k : ℕ) (s : Represents h x) (e : x.terms ≡ A ++ (y ∷ B)) (a : length A ≡ k) where
    place_within : k < terms_held h
    place_within = (let p = terms_counted h x s in let q = ap length e ∙ length-append A (y ∷ B) in omega arith)

    place_read : term_in h k ≡ y
    place_read = sym (term_held h x s k place_within) ∙ ap (λ (ts : List ℕ). get_or ts k 0) e ∙ get_or_at A y B 0 k a

    place_means : k < index_limit → t < term_end → Represents (replace_bytes h k t) (with_terms x (A ++ (cond (is_replaced t y) t y ∷ B)))
    unfolding replace_bytes
    place_means l f =
        ⊎_elim
        (λ p.
        let to : set x.terms k t ≡ A ++ (t ∷ B) = ap (λ (ts : List ℕ). set ts k t) e ∙ set_at A y B t k a in
        subst (λ (u : Bytes). Represents u (with_terms x (A ++ (cond (is_replaced t y) t y ∷ B)))) (sym (cond_true (is_replaced t (term_in h k)) _ h (ap (is_replaced t) place_read ∙ p)))
        (subst (λ (z : ℕ). Represents (put_bytes h (terms_start + k * term_width) (word_bytes term_width t)) (with_terms x (A ++ (z ∷ B)))) (sym (cond_true (is_replaced t y) t y p))
        (subst (λ (ts : List ℕ). Represents (put_bytes h (terms_start + k * term_width) (word_bytes term_width t)) (with_terms x ts)) to (term_written h x s k t l f))))
        (λ p.
        subst (λ (u : Bytes). Represents u (with_terms x (A ++ (cond (is_replaced t y) t y ∷ B)))) (sym (cond_false (is_replaced t (term_in h k)) _ h (ap (is_replaced t) place_read ∙ p)))
        (subst (λ (z : ℕ). Represents h (with_terms x (A ++ (z ∷ B)))) (sym (cond_false (is_replaced t y) t y p))
        (subst (λ (ts : List ℕ). Represents h (with_terms x ts)) e s)))
        (either (is_replaced t y))

  replace_means : (n : ℕ) (B A : List ℕ) (h : Bytes) (x : History) (k : ℕ) → Represents h x → x.terms ≡ A ++ B → length A ≡ k
      → old ≤ k → k + n ≡ new → n ≤ length B → new ≤ index_limit → t < term_end
      → Represents (replace_all h t k n) (with_terms x (A ++ replaced_from old new t (k + 1) B))
  unfolding replace_all replaced_from
  replace_means zero B A h x k s e a o m c b f =
      subst (λ (ts : List ℕ). Represents h (with_terms x (A ++ ts))) (sym (replaced_after B (k + 1) (omega arith)))
      (subst (λ (ts : List ℕ). Represents h (with_terms x ts)) e s)
  replace_means (suc n) [] A h x k s e a o m c b f = absurd (omega arith)
  replace_means (suc n) (y ∷ B) A h x k s e a o m c b f =
      let z = cond (is_replaced t y) t y in
      let same = test_within (k + 1) y (omega arith) (omega arith) in
      let ih = replace_means n B (A ++ (z ∷ [])) (replace_bytes h k t) (with_terms x (A ++ (z ∷ B))) (k + 1)
      (place_means h x A y B k s e a (omega arith) f)
      (sym (append_assoc A (z ∷ []) B))
      (length-append A (z ∷ []) ∙ ap (λ (j : ℕ). j + 1) a) (omega arith) (omega arith) (omega arith) b f in
      subst (λ (ts : List ℕ). Represents (replace_all (replace_bytes h k t) t (k + 1) n) (with_terms x ts))
      (append_assoc A (z ∷ []) (replaced_from old new t (k + 1 + 1) B)
      ∙ ap (λ (q : Bool). A ++ (cond q t y ∷ replaced_from old new t (k + 1 + 1) B)) (sym same))
      ih

  -- the search finds the model's first changed index
  search_means : (h : Bytes) (x : History) → Represents h x → (n : ℕ) (B A : List ℕ) (k : ℕ) → x.terms ≡ A ++ B → length A ≡ k
      → old ≤ k → k + n ≡ new → n ≤ length B → first_replaced (term_row (terms_part h)) t k n ≡ first_from old new t (k + 1) B
  unfolding first_replaced first_from
  search_means h x s zero B A k e a o m c = sym (first_after B (k + 1) (omega arith))
  search_means h x s (suc n) [] A k e a o m c = absurd (omega arith)
  search_means h x s (suc n) (y ∷ B) A k e a o m c =
      let same : is_replaced t (term_in h k) ≡ changes old new t (k + 1) y
      = ap (is_replaced t) (place_read h x A y B k s e a) ∙ sym (test_within (k + 1) y (omega arith) (omega arith)) in
      let ih = search_means h x s n B (A ++ (y ∷ [])) (k + 1) (e ∙ sym (append_assoc A (y ∷ []) B))
      (length-append A (y ∷ []) ∙ ap (λ (j : ℕ). j + 1) a) (omega arith) (omega arith) (omega arith) in
      λ i. cond (same i) (k + 1) (ih i)

  lengthened_reaches : (ts : List ℕ) → new ≤ length (lengthened new ts)
  unfolding lengthened
  lengthened_reaches ts = simp (length-append, length-replicate) (omega arith)

  -- the whole list
  pub record TermPlaces (h : Bytes) (x : History) (ts : List ℕ) : Type 0 where
    pub bytes : Represents (replace_all h t old (new - old)) (with_terms x (recorded old new t ts))
    pub is : first_replaced (term_row (terms_part h)) t old (new - old) ≡ first_changed old new t ts

  places_mean : (h : Bytes) (x : History) (ts : List ℕ) → Represents h x → x.terms ≡ lengthened new ts → old ≤ new → new ≤ index_limit → t < term_end → TermPlaces h x ts
  unfolding recorded first_changed
  places_mean h x ts s e o b f =
      let L = lengthened new ts in
      let A = take old L in
      let B = drop old L in
      let reach = lengthened_reaches ts in
      let la : length A ≡ old = length-take-le old L (omega arith) in
      let lb = length-drop old L in
      let split : A ++ B ≡ L = take-append-drop old L in
      let at : 0 + length A + 1 ≡ old + 1 = omega arith in
      record {
        bytes =
            subst (λ (l : List ℕ). Represents (replace_all h t old (new - old)) (with_terms x l))
            (sym (ap (replaced_from old new t 1) (sym split) ∙ replaced_before A B 0 (omega arith) ∙ ap (λ (i : ℕ). A ++ replaced_from old new t i B) at))
            (replace_means (new - old) B A h x old s (e ∙ sym split) la (omega arith) (omega arith) (omega arith) b f);
        is =
            search_means h x s (new - old) B A old (e ∙ sym split) la (omega arith) (omega arith) (omega arith)
            ∙ sym (ap (first_from old new t 1) (sym split) ∙ first_before A B 0 (omega arith) ∙ ap (λ (i : ℕ). first_from old new t i B) at);
      }

-- ---- before the first changed index no place is replaced

module _ (h : Bytes) (t new : ℕ) where
  abbrev first_in : ℕ → ℕ → ℕ
  first_in k n = first_replaced (term_row (terms_part h)) t k n

  -- the places from the first changed index on, where there is one
  abbrev from_first : ℕ → Bytes
  from_first first = cond (eqb first 0) h (replace_all h t (first - 1) (new + 1 - first))

  not_replaced : (k : ℕ) → is_replaced t (term_in h k) ≡ false → replace_bytes h k t ≡ h
  unfolding replace_bytes
  not_replaced k p = cond_false (is_replaced t (term_in h k)) _ h p

  pub from_first_lem : (n k : ℕ) → k + n ≡ new → from_first (first_in k n) ≡ replace_all h t k n
  unfolding replace_all first_replaced
  from_first_lem zero k m = refl
  from_first_lem (suc n) k m =
      let rest = first_replaced (term_row (terms_part h)) t (k + 1) n in
      ⊎_elim
      (λ p.
      ap from_first (cond_true (is_replaced t (term_in h k)) (k + 1) rest p)
      ∙ cond_false (eqb (k + 1) 0) h _ (ne_eqb (k + 1) 0 (λ z. omega arith))
      ∙ (λ i. replace_all h t (let e : k + 1 - 1 ≡ k = omega arith in e i) (let e : new + 1 - (k + 1) ≡ suc n = omega arith in e i)))
      (λ p.
      ap from_first (cond_false (is_replaced t (term_in h k)) (k + 1) rest p)
      ∙ from_first_lem n (k + 1) (omega arith)
      ∙ ap (λ (u : Bytes). replace_all u t (k + 1) n) (sym (not_replaced k p)))
      (either (is_replaced t (term_in h k)))

-- ---- the whole record

none_lowered : (t : ℕ) (cs : List Certificate) → map (lowered t 0) cs ≡ cs
unfolding lowered
none_lowered t [] = refl
none_lowered t (c ∷ cs) = ap (λ (l : List Certificate). c ∷ l) (none_lowered t cs)

-- where a place changed, the marks are lowered
marks_mean : (u w : Bytes) (y : History) (t first n : ℕ) → Represents (cond (eqb first 0) u w) y → n ≡ length y.certificates
    → Represents (cond (eqb first 0) u (lower_back w t first n)) (with_certificates y (map (lowered t first) y.certificates))
marks_mean u w y t zero n s e = subst (λ (cs : List Certificate). Represents u (with_certificates y cs)) (sym (none_lowered t y.certificates)) s
marks_mean u w y t (suc f) n s e =
    let cs = y.certificates in
    let some : eqb (suc f) 0 ≡ false = ne_eqb (suc f) 0 (λ z. omega arith) in
    subst (λ (v : Bytes). Represents v (with_certificates y (map (lowered t (suc f)) cs))) (sym (cond_false (eqb (suc f) 0) u (lower_back w t (suc f) n) some))
    (subst (λ (ds : List Certificate). Represents (lower_back w t (suc f) n) (with_certificates y ds)) (append-nil (map (lowered t (suc f)) cs))
    (lower_means t (suc f) (omega arith) n cs [] w y (subst (λ (v : Bytes). Represents v y) (cond_false (eqb (suc f) 0) u w some) s) (sym (append-nil cs)) (sym e)))

pub record_means : (h : Bytes) (x : History) (old new t : ℕ) → Represents h x → old ≤ new → new ≤ index_limit → t < term_end
    → Represents (record_bytes h old new t) (terms_effect x old new t)
unfolding record_bytes changed_from terms_effect
record_means h x old new t s o b f =
    let u = lengthened_to h new in
    let long = lengthened_means h x new s b in
    let p = places_mean old new t u (with_terms x (lengthened new x.terms)) x.terms long refl o b f in
    let first = first_replaced (term_row (terms_part u)) t old (new - old) in
    let y = with_terms x (recorded old new t x.terms) in
    subst (λ (i : ℕ). Represents (changed_from u new t first) (with_certificates y (map (lowered t i) x.certificates))) p.is
    (marks_mean u (replace_all u t (first - 1) (new + 1 - first)) y t first (certificates_held u)
    (subst (λ (v : Bytes). Represents v y) (sym (from_first_lem u t new (new - old) old (omega arith))) p.bytes)
    (sym (certificates_counted u (with_terms x (lengthened new x.terms)) long)))
