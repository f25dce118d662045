-- Fields taken from a list of numbers are the list's numbers, one after the other.
-- Assumes nothing.
use Prim.Native.Nat.{ℕ, suc, ◌+◌, ◌^◌, ◌<◌, ◌≤◌}
use mathlib.Core.Path.{◌≡◌, refl, ap, sym, ◌∙◌}
use mathlib.Core.Bool.{Bool, true, false, cond, ◌&&◌}
use mathlib.Core.List.{List, [], ◌∷◌, ◌++◌, map}
use native.Mathlib.Omega.{arith}
use native.Mathlib.Nat.{add-zero}
use native.Mathlib.Numerals.{add-one}
use borrow.Author.Tests.{ltb-true, lt-ltb}
use lib.Dec.{leb, ltb}
use lib.ListN.{length, get_or, drop}
use lib.Seq.{drop-cons, drop-length}
use Rattle.model.specs.Refusal.{bitsMissing, outOfLimit}
use Rattle.model.specs.Record.{Shown, Row, Record, view, commit, terms, election, check, rows, leader}
use Rattle.model.specs.Reading.{got, fault}
use Rattle.storage_bytes.specs.Lists.{tabulate, every}
use Rattle.storage_bytes.proofs.ListLaws.{both, tabulate_shift}
use Rattle.record_entries.proofs.Given.{fault≢got, got_same}
use Rattle.record_writing.specs.Spans.{Span, span, bit, value_of, content_spans, entry_spans, row_spans, all_spans, spans}
use Rattle.record_writing.specs.Puts.{fits, spans_by, contents_by, content_count, entry_by, entries_by, rows_by, kind_by, record_by}
use Rattle.record_writing.specs.Given.{last_kind, number}
use Rattle.record_writing.proofs.Taken.{Takes, takes_both}
use Rattle.record_writing.proofs.Puts.{fits_is}

-- ---- one number

pub record Number (fs : List ℕ) (k w v j : ℕ) : Type 0 where
  pub here : k < length fs
  pub value : get_or fs k 0 ≡ v
  pub holds : v < 2 ^ w
  pub next : j ≡ k + 1

pub number_is : (fs : List ℕ) (k w v j : ℕ) → number w fs k ≡ got v j → Number fs k w v j
unfolding number
number_is fs k w v j e = by (ltb k (length fs)) (ltb (get_or fs k 0) (2 ^ w)) refl refl e
  where
    by : (b c : Bool) → ltb k (length fs) ≡ b → ltb (get_or fs k 0) (2 ^ w) ≡ c
        → cond b (cond c (got (get_or fs k 0) (k + 1)) (fault outOfLimit)) (fault bitsMissing) ≡ got v j → Number fs k w v j
    by true true p q e =
        let z = got_same e in
        let h : get_or fs k 0 < 2 ^ w = ltb-true _ _ q in
        record { here = ltb-true _ _ p; value = sym z.0; holds = rw z.0 h; next = z.1 }
    by true false p q e = absurd (fault≢got e)
    by false c p q e = absurd (fault≢got e)

number_back : (fs : List ℕ) (k w : ℕ) → k < length fs → get_or fs k 0 < 2 ^ w → number w fs k ≡ got (get_or fs k 0) (k + 1)
unfolding number
number_back fs k w h l = rw (lt-ltb k (length fs) h, lt-ltb (get_or fs k 0) (2 ^ w) l)

-- ---- many numbers

abbrev width_of : Span → ℕ
width_of x = x.width

contents_count : (bs : List ℕ) → length (content_spans bs) ≡ length bs
contents_count [] = refl
contents_count (b ∷ bs) = ap suc (contents_count bs)

-- a field of 1 to 32 bits
abbrev pub narrow : Span → Bool
narrow x = ltb 0 x.width && leb x.width 32

pub every_join : (f : Span → Bool) (xs ys : List Span) → every f xs ≡ true → every f ys ≡ true → every f (xs ++ ys) ≡ true
unfolding every
every_join f [] ys a b = b
every_join f (x ∷ xs) ys a b =
    let p = both (f x) (every f xs) a in
    λ i. p.0 i && every_join f xs ys p.1 b i

narrow_content : (bs : List ℕ) → every narrow (content_spans bs) ≡ true
unfolding every
narrow_content [] = refl
narrow_content (b ∷ bs) = narrow_content bs

module _ (fs : List ℕ) where
  pub takes_end : (xs : List Span) (k j : ℕ) → Takes number fs xs k j → j ≡ k + length xs
  takes_end [] k j t = omega (arith, t)
  takes_end (x ∷ xs) k j t =
      let n = number_is fs k x.width x.value t.place t.read in
      omega (arith, takes_end xs t.place j t.then, n.next)

  -- the list from k on
  pub takes_values : (xs : List Span) (k : ℕ) → Takes number fs xs k (length fs) → drop k fs ≡ map value_of xs
  takes_values [] k t = ap (λ (i : ℕ). drop i fs) t ∙ drop-length fs
  takes_values (x ∷ xs) k t =
      let n = number_is fs k x.width x.value t.place t.read in
      let e : t.place ≡ suc k = omega (arith, n.next) in
      drop-cons fs k 0 n.here
      ∙ (λ i. n.value i ∷ drop (sym e i) fs)
      ∙ ap (λ (l : List ℕ). x.value ∷ l) (takes_values xs t.place t.then)

  pub takes_spans : (xs : List Span) (k j : ℕ) → Takes number fs xs k j → spans_by (map width_of xs) fs k ≡ xs
  unfolding tabulate
  takes_spans [] k j t = refl
  takes_spans (x ∷ xs) k j t =
      let n = number_is fs k x.width x.value t.place t.read in
      let ws : List ℕ = map width_of xs in
      λ i. span x.width ((ap (λ (m : ℕ). get_or fs m 0) (add-zero k) ∙ n.value) i)
      ∷ (tabulate_shift (λ (m : ℕ). span (get_or ws m 0) (get_or fs (k + 1 + m) 0)) (λ (m : ℕ). span (get_or (x.width ∷ ws) m 0) (get_or fs (k + m) 0)) 0 (length ws)
      (λ m a b. λ d. span (get_or (x.width ∷ ws) (add-one m d) 0) (get_or fs (let e : k + (m + 1) ≡ k + 1 + m = omega arith in e d) 0))
      ∙ ap (spans_by ws fs) (sym n.next)
      ∙ takes_spans xs t.place j t.then) i

  contents_back : (bs : List ℕ) (k j : ℕ) → Takes number fs (content_spans bs) k j
      → contents_by fs k (length bs) ≡ content_spans bs
  unfolding tabulate
  contents_back [] k j t = refl
  contents_back (b ∷ bs) k j t =
      let n = number_is fs k 8 b t.place t.read in
      λ i. span 8 ((ap (λ (m : ℕ). get_or fs m 0) (add-zero k) ∙ n.value) i)
      ∷ (tabulate_shift (λ (m : ℕ). span 8 (get_or fs (k + 1 + m) 0)) (λ (m : ℕ). span 8 (get_or fs (k + m) 0)) 0 (length bs)
      (λ m a b. λ d. span 8 (get_or fs (let e : k + (m + 1) ≡ k + 1 + m = omega arith in e d) 0))
      ∙ ap (λ (m : ℕ). contents_by fs m (length bs)) (sym n.next)
      ∙ contents_back bs t.place j t.then) i

  entry_back : (x : Shown) (k j : ℕ) → Takes number fs (entry_spans false x) k j
      → (entry_by fs k ≡ entry_spans false x) × (j ≡ k + 3 + content_count fs k)
  entry_back x k j t =
      let heads : List Span = span 10 x.index ∷ span 32 x.entry.term ∷ span 6 (length x.entry.content) ∷ [] in
      let b = takes_both number fs heads (content_spans x.entry.content) k j t in
      let h = takes_spans heads k b.place b.before in
      let p = takes_end heads k b.place b.before in
      let u = t.then in
      let v = u.then in
      let n1 = number_is fs k 10 x.index t.place t.read in
      let n2 = number_is fs t.place 32 x.entry.term u.place u.read in
      let n3 = number_is fs u.place 6 (length x.entry.content) v.place v.read in
      let c : content_count fs k ≡ length x.entry.content
      = ap (λ (m : ℕ). get_or fs m 0) (let e : k + 2 ≡ u.place = omega (arith, n1.next, n2.next) in e) ∙ n3.value in
      let e = takes_end (content_spans x.entry.content) b.place j b.after in
      let l = contents_count x.entry.content in
      let q : k + 3 ≡ b.place = omega (arith, p) in (
        (λ i. h i ++ (ap (contents_by fs (k + 3)) c ∙ ap (λ (m : ℕ). contents_by fs m (length x.entry.content)) q ∙ contents_back x.entry.content b.place j b.after) i),
        omega (arith, e, l, c, p),
      )

  entries_back : (xs : List Shown) (k j : ℕ) → Takes number fs (all_spans (entry_spans false) xs) k j
      → entries_by fs k (length xs) ≡ all_spans (entry_spans false) xs
  unfolding entries_by all_spans
  entries_back [] k j t = refl
  entries_back (x ∷ xs) k j t =
      let b = takes_both number fs (entry_spans false x) (all_spans (entry_spans false) xs) k j t in
      let e = entry_back x k b.place b.before in
      λ i. e.0 i ++ (ap (λ (m : ℕ). entries_by fs m (length xs)) (sym e.1) ∙ entries_back xs b.place j b.after) i

  rows_back : (xs : List Row) (k j : ℕ) → Takes number fs (all_spans row_spans xs) k j
      → rows_by fs k (length xs) ≡ all_spans row_spans xs
  unfolding rows_by all_spans
  rows_back [] k j t = refl
  rows_back (x ∷ xs) k j t =
      let b = takes_both number fs (row_spans x) (all_spans row_spans xs) k j t in
      let e = takes_spans (row_spans x) k b.place b.before in
      let p = takes_end (row_spans x) k b.place b.before in
      λ i. e i ++ (ap (λ (m : ℕ). rows_by fs m (length xs)) (let q : k + 10 ≡ b.place = omega (arith, p) in q) ∙ rows_back xs b.place j b.after) i

  -- a list of one of the writer's kinds
  pub record_back : (r : Record) (j : ℕ) → get_or fs 0 0 ≤ last_kind → Takes number fs (spans false r) 0 j → record_by fs ≡ spans false r
  unfolding spans record_by
  record_back (view n es) j h t =
      let heads : List Span = span 4 1 ∷ span 6 n ∷ span 10 (length es) ∷ [] in
      let b = takes_both number fs heads (all_spans (entry_spans false) es) 0 j t in
      let u = t.then in
      let v = u.then in
      let n1 = number_is fs 0 4 1 t.place t.read in
      let n2 = number_is fs t.place 6 n u.place u.read in
      let n3 = number_is fs u.place 10 (length es) v.place v.read in
      let p = takes_end heads 0 b.place b.before in
      let c : get_or fs 2 0 ≡ length es = ap (λ (m : ℕ). get_or fs m 0) (let e : 2 ≡ u.place = omega (arith, n1.next, n2.next) in e) ∙ n3.value in
      ap (λ (kind : ℕ). kind_by kind fs) n1.value
      ∙ (λ i. takes_spans heads 0 b.place b.before i
      ++ (ap (entries_by fs 3) c ∙ ap (λ (m : ℕ). entries_by fs m (length es)) (let e : 3 ≡ b.place = omega (arith, p) in e) ∙ entries_back es b.place j b.after) i)
  record_back (commit n i) j h t = ap (λ (kind : ℕ). kind_by kind fs) (number_is fs 0 4 2 t.place t.read).value
      ∙ (takes_spans (span 4 2 ∷ span 6 n ∷ span 10 i ∷ []) 0 j t)
  record_back (terms o n m) j h t = ap (λ (kind : ℕ). kind_by kind fs) (number_is fs 0 4 3 t.place t.read).value
      ∙ (takes_spans (span 4 3 ∷ span 10 o ∷ span 10 n ∷ span 32 m ∷ []) 0 j t)
  record_back (election l m p n) j h t = ap (λ (kind : ℕ). kind_by kind fs) (number_is fs 0 4 4 t.place t.read).value
      ∙ (takes_spans (span 4 4 ∷ span 6 l ∷ span 32 m ∷ bit p ∷ span 10 n ∷ []) 0 j t)
  record_back check j h t = ap (λ (kind : ℕ). kind_by kind fs) (number_is fs 0 4 5 t.place t.read).value
      ∙ (takes_spans (span 4 5 ∷ []) 0 j t)
  record_back (rows rs) j h t =
      let heads : List Span = span 4 6 ∷ span 10 (length rs) ∷ [] in
      let b = takes_both number fs heads (all_spans row_spans rs) 0 j t in
      let u = t.then in
      let n1 = number_is fs 0 4 6 t.place t.read in
      let n2 = number_is fs t.place 10 (length rs) u.place u.read in
      let p = takes_end heads 0 b.place b.before in
      let c : get_or fs 1 0 ≡ length rs = ap (λ (m : ℕ). get_or fs m 0) (let e : 1 ≡ t.place = omega (arith, n1.next) in e) ∙ n2.value in
      ap (λ (kind : ℕ). kind_by kind fs) n1.value
      ∙ (λ i. takes_spans heads 0 b.place b.before i
      ++ (ap (rows_by fs 2) c ∙ ap (λ (m : ℕ). rows_by fs m (length rs)) (let e : 2 ≡ b.place = omega (arith, p) in e) ∙ rows_back rs b.place j b.after) i)
  record_back (leader n m) j h t = absurd (omega (arith, h, (number_is fs 0 4 7 t.place t.read).value))

  pub takes_fit : (xs : List Span) (k j : ℕ) → every narrow xs ≡ true → Takes number fs xs k j → every fits xs ≡ true
  unfolding every
  takes_fit [] k j n t = refl
  takes_fit (x ∷ xs) k j n t =
      let p = both (narrow x) (every narrow xs) n in
      let a = number_is fs k x.width x.value t.place t.read in
      λ i. (p.0 i && lt-ltb x.value (2 ^ x.width) a.holds i) && takes_fit xs t.place j p.1 t.then i

  -- numbers that fit are taken
  pub takes_back : (xs : List Span) (k : ℕ) → every fits xs ≡ true → drop k fs ≡ map value_of xs
      → k + length xs ≡ length fs → Takes number fs xs k (length fs)
  unfolding every
  takes_back [] k n d l = omega (arith, l)
  takes_back (x ∷ xs) k n d l =
      let p = both (fits x) (every fits xs) n in
      let h : k < length fs = omega (arith, l) in
      let c = sym (drop-cons fs k 0 h) ∙ d in
      let v : get_or fs k 0 ≡ x.value = ap (λ (l : List ℕ). get_or l 0 0) c in
      let f = (fits_is x p.0).2 in
      let e : suc k ≡ k + 1 = omega arith in
      record {
        place = k + 1;
        read = number_back fs k x.width h (rw v f) ∙ ap (λ (v : ℕ). got v (k + 1)) v;
        then = takes_back xs (k + 1) p.1 (ap (λ (m : ℕ). drop m fs) (sym e) ∙ ap (λ (l : List ℕ). drop 1 l) c) (omega (arith, l));
      }

-- ---- widths

narrow_all : {A : Type 0} (f : A → List Span) → ((x : A) → every narrow (f x) ≡ true) → (xs : List A)
    → every narrow (all_spans f xs) ≡ true
unfolding every all_spans
narrow_all f h [] = refl
narrow_all f h (x ∷ xs) = every_join narrow (f x) (all_spans f xs) (h x) (narrow_all f h xs)

narrow_entry : (marked : Bool) (x : Shown) → every narrow (entry_spans marked x) ≡ true
unfolding every
narrow_entry true x = narrow_content x.entry.content
narrow_entry false x = narrow_content x.entry.content

pub narrow_spans : (marked : Bool) (r : Record) → every narrow (spans marked r) ≡ true
unfolding every spans
narrow_spans true (view n es) = narrow_all (entry_spans true) (narrow_entry true) es
narrow_spans false (view n es) = narrow_all (entry_spans false) (narrow_entry false) es
narrow_spans marked (commit n i) = refl
narrow_spans marked (terms o n t) = refl
narrow_spans marked (election l t p n) = refl
narrow_spans marked check = refl
narrow_spans marked (rows rs) = narrow_all row_spans (λ x. refl) rs
narrow_spans marked (leader n t) = refl
