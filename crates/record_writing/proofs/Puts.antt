-- Laws of fields written one after the other: what is left of them after one, and after some.
-- Assumes nothing.
use Prim.Native.Nat.{ℕ, zero, suc, ◌+◌, ◌-◌, ◌*◌, ◌/◌, ◌%◌, ◌^◌, ◌≤◌, ◌<◌}
use mathlib.Core.Path.{◌≡◌, refl, ap, sym, ◌∙◌}
use mathlib.Core.Bool.{true, ◌&&◌}
use mathlib.Core.List.{List, [], ◌∷◌, ◌++◌}
use native.Mathlib.Decide.{dec_le, dec_lt}
use native.Mathlib.Omega.{arith}
use borrow.Author.Tests.{leb-true, ltb-true}
use lib.Dec.{leb, ltb}
use lib.ListN.{length, get_or, take, drop, length-append}
use Rattle.model.specs.Sizes.{Bytes}
use Rattle.storage_bytes.specs.Lists.{tabulate, every}
use Rattle.storage_bytes.specs.Words.{word_bytes, put_bytes}
use Rattle.storage_bytes.proofs.ListLaws.{both, tabulate_length, tabulate_cons, tabulate_none}
use Rattle.storage_bytes.proofs.WordLaws.{put_length, put_before, put_after, put_in, word_bytes_length}
use Rattle.storage_bytes.specs.Layout.{part}
use Rattle.storage_bytes.proofs.PartLaws.{part_length, part_at, part_put_same, region_back}
use lib.Seq.{ext_get_or}
use Rattle.record_writing.specs.Spans.{Span, span, total}
use Rattle.record_writing.specs.Puts.{put_field, put_spans, fits, Room, reach, word_of, spans_by, contents_by, head_widths, content_count, entry_by, entries_by, row_widths, rows_by}

pub field_length : (t : Bytes) (at w v : ℕ) → length (put_field t at w v) ≡ length t
unfolding put_field
field_length t at w v = put_length t (at / 8) (word_bytes (reach at w) (word_of t at w v))

pub spans_length : (t : Bytes) (at : ℕ) (xs : List Span) → length (put_spans t at xs) ≡ length t
unfolding put_spans
spans_length t at [] = refl
spans_length t at (x ∷ xs) = spans_length (put_field t at x.width x.value) (at + x.width) xs
    ∙ field_length t at x.width x.value

pub put_append : (t : Bytes) (at : ℕ) (xs ys : List Span)
    → put_spans t at (xs ++ ys) ≡ put_spans (put_spans t at xs) (at + total xs) ys
unfolding put_spans total
put_append t at [] ys = ap (λ (k : ℕ). put_spans t k ys) (omega arith)
put_append t at (x ∷ xs) ys =
    put_append (put_field t at x.width x.value) (at + x.width) xs ys
    ∙ ap (λ (k : ℕ). put_spans (put_spans (put_field t at x.width x.value) (at + x.width) xs) k ys)
    (let e : at + x.width + total xs ≡ at + (x.width + total xs) = omega arith in e)

pub total_append : (xs ys : List Span) → total (xs ++ ys) ≡ total xs + total ys
unfolding total
total_append [] ys = omega arith
total_append (x ∷ xs) ys = omega (arith, total_append xs ys)

pub every_append : (xs ys : List Span) → every fits (xs ++ ys) ≡ true → (every fits xs ≡ true) × (every fits ys ≡ true)
unfolding every
every_append [] ys e = (refl, e)
every_append (x ∷ xs) ys e =
    let p = both (fits x) (every fits (xs ++ ys)) e in
    let q = every_append xs ys p.1 in
    ((λ i. p.0 i && q.0 i), q.1)

-- ---- the first field of those that there is room for

pub record FieldRoom (n at m k : ℕ) (x : Span) : Type 0 where
  pub some : 0 < x.width
  pub narrow : x.width ≤ 32
  pub holds : x.value < 2 ^ x.width
  pub bits : at + x.width ≤ 8 * n
  pub near : at + x.width < 2 ^ 64
  pub number : k < m

pub fits_is : (x : Span) → fits x ≡ true → (0 < x.width) × (x.width ≤ 32) × (x.value < 2 ^ x.width)
fits_is x e =
    let p = both (ltb 0 x.width && leb x.width 32) (ltb x.value (2 ^ x.width)) e in
    let q = both (ltb 0 x.width) (leb x.width 32) p.0 in
    (ltb-true _ _ q.0, leb-true _ _ q.1, ltb-true _ _ p.1)

pub room_field : {n at m k : ℕ} {x : Span} {xs : List Span} → Room n at m k (x ∷ xs) → FieldRoom n at m k x
unfolding every total
room_field {x = x} {xs = xs} r =
    let f = fits_is x (both (fits x) (every fits xs) r.fit).0 in
    record { some = f.0; narrow = f.1; holds = f.2; bits = omega (arith, r.bits); near = omega (arith, r.near); number = omega (arith, r.numbers) }

room_rest : {n at m k : ℕ} {x : Span} {xs : List Span} → Room n at m k (x ∷ xs) → Room n (at + x.width) m (k + 1) xs
unfolding every total
room_rest {x = x} {xs = xs} r =
    record {
      fit = (both (fits x) (every fits xs) r.fit).1;
      bits = omega (arith, r.bits);
      near = omega (arith, r.near);
      numbers = omega (arith, r.numbers);
    }

pub room_first : {n at m k : ℕ} (xs ys : List Span) → Room n at m k (xs ++ ys) → Room n at m k xs
room_first xs ys r =
    let t = total_append xs ys in
    let l = length-append xs ys in
    record {
      fit = (every_append xs ys r.fit).0;
      bits = omega (arith, r.bits, t);
      near = omega (arith, r.near, t);
      numbers = omega (arith, r.numbers, l);
    }

pub room_then : {n at m k : ℕ} (xs ys : List Span) → Room n at m k (xs ++ ys) → Room n (at + total xs) m (k + length xs) ys
room_then xs ys r =
    let t = total_append xs ys in
    let l = length-append xs ys in
    record {
      fit = (every_append xs ys r.fit).1;
      bits = omega (arith, r.bits, t);
      near = omega (arith, r.near, t);
      numbers = omega (arith, r.numbers, l);
    }

-- ---- what a loop has left

-- of all fields, those from the k-th number and bit `at` on are left
pub record Left (u : Bytes) (from : ℕ) (all : List Span) (m k : ℕ) (t : Bytes) (at : ℕ) (xs : List Span) : Type 0 where
  pub room : Room (length t) at m k xs
  pub same : put_spans u from all ≡ put_spans t at xs

module _ {u : Bytes} {from : ℕ} {all : List Span} {m k : ℕ} {t : Bytes} {at : ℕ} where
  -- one was written
  left_one : {x : Span} {xs : List Span} → Left u from all m k t at (x ∷ xs)
      → Left u from all m (k + 1) (put_field t at x.width x.value) (at + x.width) xs
  unfolding put_spans
  left_one {x = x} {xs = xs} l =
      record { room = rw (field_length t at x.width x.value) (room_rest l.room); same = l.same }

  -- some were
  pub left_some : (xs ys : List Span) {p : Bytes} → Left u from all m k t at (xs ++ ys) → p ≡ put_spans t at xs
      → Left u from all m (k + length xs) p (at + total xs) ys
  left_some xs ys l e =
      rw e (record { room = rw (spans_length t at xs) (room_then xs ys l.room); same = l.same ∙ put_append t at xs ys })

  pub left_none : {xs : List Span} → Left u from all m k t at xs → xs ≡ [] → t ≡ put_spans u from all
  unfolding put_spans
  left_none l e = sym (l.same ∙ ap (put_spans t at) e)

  -- a loop over i from 0 to n, whose i-th field is f i
  module _ (f : ℕ → Span) (i n : ℕ) (l : Left u from all m k t at (tabulate f i (n - i))) where
    pub next_room : i < n → FieldRoom (length t) at m k (f i)
    next_room h = let r = l.room in room_field (rw (tabulate_cons f i n h) at r)

    pub next_left : {p : Bytes} {j b : ℕ} → i < n → p ≡ put_field t at (f i).width (f i).value → j ≡ k + 1
        → b ≡ at + (f i).width
        → Left u from all m j p b (tabulate f (i + 1) (n - (i + 1)))
    next_left h e q r = rw (e, q, r) (left_one (rw (tabulate_cons f i n h) at l))

    pub end_left : n ≤ i → t ≡ put_spans u from all
    end_left h = left_none l (tabulate_none f i n h)

-- ---- entries and rows

pub eights_total : (f : ℕ → ℕ) (i n : ℕ) → total (tabulate (λ (i : ℕ). span 8 (f i)) i n) ≡ 8 * n
unfolding tabulate total
eights_total f i zero = refl
eights_total f i (suc n) = omega (arith, eights_total f (i + 1) n)

module _ (fs : List ℕ) (k : ℕ) where
  pub head_total : total (spans_by head_widths fs k) ≡ 48
  unfolding tabulate total
  head_total = refl

  pub head_length : length (spans_by head_widths fs k) ≡ 3
  head_length = tabulate_length _ 0 3

  pub row_total : total (spans_by row_widths fs k) ≡ 122
  unfolding tabulate total
  row_total = refl

  pub row_length : length (spans_by row_widths fs k) ≡ 10
  row_length = tabulate_length _ 0 10

  pub entry_total : total (entry_by fs k) ≡ 48 + 8 * content_count fs k
  entry_total =
      let a = total_append (spans_by head_widths fs k) (contents_by fs (k + 3) (content_count fs k)) in
      let b = eights_total (λ (i : ℕ). get_or fs (k + 3 + i) 0) 0 (content_count fs k) in
      omega (arith, a, b, head_total)

  pub entry_length : length (entry_by fs k) ≡ 3 + content_count fs k
  entry_length =
      let a = length-append (spans_by head_widths fs k) (contents_by fs (k + 3) (content_count fs k)) in
      let b = tabulate_length (λ (i : ℕ). span 8 (get_or fs (k + 3 + i) 0)) 0 (content_count fs k) in
      omega (arith, a, b, head_length)

-- room for an entry's content, behind the numbers before it
pub content_room : {at m : ℕ} (t p : Bytes) (fs : List ℕ) (k : ℕ) → Room (length t) at m k (entry_by fs k)
    → p ≡ put_spans t at (spans_by head_widths fs k)
    → Room (length p) (at + 48) m (k + 3) (contents_by fs (k + 3) (content_count fs k))
content_room {at = at} t p fs k r e =
    let l : length p ≡ length t = ap length e ∙ spans_length t at (spans_by head_widths fs k) in
    let q = room_then (spans_by head_widths fs k) (contents_by fs (k + 3) (content_count fs k)) r in
    rw l (rw (head_total fs k, head_length fs k) at q)

module _ {u : Bytes} {from : ℕ} {all : List Span} {m : ℕ} (fs : List ℕ) (k : ℕ) {t : Bytes} {at : ℕ} (n i : ℕ) where
  -- one of the entries that are left
  pub entry_next : Left u from all m k t at (entries_by fs k (n - i)) → i < n
      → Left u from all m k t at (entry_by fs k ++ entries_by fs (k + 3 + content_count fs k) (n - (i + 1)))
  unfolding entries_by
  entry_next l h = let e : n - i ≡ suc (n - (i + 1)) = omega arith in rw e at l

  pub entry_left : {p : Bytes} {c : ℕ} → Left u from all m k t at (entries_by fs k (n - i)) → i < n
      → p ≡ put_spans t at (entry_by fs k) → c ≡ content_count fs k
      → Left u from all m (k + 3 + c) p (at + 48 + 8 * c) (entries_by fs (k + 3 + c) (n - (i + 1)))
  entry_left {p = p} {c = c} l h e q =
      let r = left_some (entry_by fs k) _ (entry_next l h) e in
      let a : k + length (entry_by fs k) ≡ k + 3 + content_count fs k = omega (arith, entry_length fs k) in
      let b : at + total (entry_by fs k) ≡ at + 48 + 8 * content_count fs k = omega (arith, entry_total fs k) in
      rw q (rw (a, b) at r)

  pub entry_end : Left u from all m k t at (entries_by fs k (n - i)) → n ≤ i → t ≡ put_spans u from all
  unfolding entries_by
  entry_end l h = left_none l (let e : n - i ≡ 0 = omega arith in rw e)

  pub row_next : Left u from all m k t at (rows_by fs k (n - i)) → i < n
      → Left u from all m k t at (spans_by row_widths fs k ++ rows_by fs (k + 10) (n - (i + 1)))
  unfolding rows_by
  row_next l h = let e : n - i ≡ suc (n - (i + 1)) = omega arith in rw e at l

  pub row_left : {p : Bytes} → Left u from all m k t at (rows_by fs k (n - i)) → i < n
      → p ≡ put_spans t at (spans_by row_widths fs k)
      → Left u from all m (k + 10) p (at + 122) (rows_by fs (k + 10) (n - (i + 1)))
  row_left l h e = rw (row_length fs k, row_total fs k) at (left_some (spans_by row_widths fs k) _ (row_next l h) e)

  pub row_end : Left u from all m k t at (rows_by fs k (n - i)) → n ≤ i → t ≡ put_spans u from all
  unfolding rows_by
  row_end l h = left_none l (let e : n - i ≡ 0 = omega arith in rw e)

-- ---- fields written into a part

-- a place lies before, behind or among the n places from a on
pub around : {P : Type 0} (i a n : ℕ) → (i < a → P) → (a + n ≤ i → P) → ((j : ℕ) → j < n → i ≡ a + j → P) → P
around i a n f g h =
    elim (dec_lt i a) [
      | yes l ↦ f l
      | no m ↦ elim (dec_le (a + n) i) [
        | yes l ↦ g l
        | no l ↦ h (i - a) (omega arith) (omega arith)
      ]
    ]

-- bytes that are all written again
pub again : (t : Bytes) (a o : ℕ) (vs ys : Bytes) → o + length vs ≤ length ys → a + length ys ≤ length t
    → put_bytes (put_bytes t (a + o) vs) a ys ≡ put_bytes t a ys
again t a o vs ys h r =
    let u : Bytes = put_bytes t (a + o) vs in
    let l = put_length t (a + o) vs in
    ext_get_or 0 _ _
    (put_length u a ys ∙ l ∙ sym (put_length t a ys))
    (λ i _. around i a (length ys)
    (λ b. put_before u a ys i b ∙ put_before t (a + o) vs i (omega arith) ∙ sym (put_before t a ys i b))
    (λ b. put_after u a ys i b ∙ put_after t (a + o) vs i (omega arith) ∙ sym (put_after t a ys i b))
    (λ j b e. ap (λ (n : ℕ). get_or (put_bytes u a ys) n 0) e ∙ put_in u a ys j (omega (arith, l)) b
    ∙ sym (put_in t a ys j r b) ∙ ap (λ (n : ℕ). get_or (put_bytes t a ys) n 0) (sym e)))

-- a field written in a part is written in the whole
field_part : (t : Bytes) (f n o w v : ℕ) → f + n ≤ length t → o + w ≤ 8 * n → 0 < w
    → put_field (part t f n) o w v ≡ part (put_field t (8 * f + o) w v) f n
unfolding put_field
field_part t f n o w v r h p =
    let a : (8 * f + o) / 8 ≡ f + o / 8 = omega arith in
    let b : (8 * f + o) % 8 ≡ o % 8 = omega arith in
    let c : get_or (part t f n) (o / 8) 0 ≡ get_or t (f + o / 8) 0 = part_at t f n (o / 8) (omega arith) in
    let vs : Bytes = word_bytes (reach o w) (word_of (part t f n) o w v) in
    let l : length vs ≡ reach o w = word_bytes_length (reach o w) (word_of (part t f n) o w v) in
    rw (a, b, ← c) (sym (part_put_same t f n (o / 8) vs r (omega (arith, l))))

written_again : (t : Bytes) (f n o w v : ℕ) (ys : Bytes) → f + n ≤ length t → o + w ≤ 8 * n → 0 < w → length ys ≡ n
    → put_bytes (put_field t (8 * f + o) w v) f ys ≡ put_bytes t f ys
unfolding put_field
written_again t f n o w v ys r h p l =
    let a : (8 * f + o) / 8 ≡ f + o / 8 = omega arith in
    let b : (8 * f + o) % 8 ≡ o % 8 = omega arith in
    let vs : Bytes = word_bytes (reach (8 * f + o) w) (word_of t (8 * f + o) w v) in
    let k : length vs ≡ reach (8 * f + o) w = word_bytes_length (reach (8 * f + o) w) (word_of t (8 * f + o) w v) in
    ap (λ (j : ℕ). put_bytes (put_bytes t j vs) f ys) a ∙ again t f (o / 8) vs ys (omega (arith, k, b, l)) (omega (arith, l))

-- a part given back as it was
pub part_same : (t : Bytes) (f n : ℕ) → f + n ≤ length t → put_bytes t f (part t f n) ≡ t
part_same t f n r =
    ext_get_or 0 _ _
    (put_length t f (part t f n))
    (λ i _. around i f n
    (λ b. put_before t f (part t f n) i b)
    (λ b. put_after t f (part t f n) i (omega (arith, part_length t f n r)))
    (λ j b e. ap (λ (k : ℕ). get_or (put_bytes t f (part t f n)) k 0) e
    ∙ put_in t f (part t f n) j (omega (arith, part_length t f n r)) (omega (arith, part_length t f n r))
    ∙ part_at t f n j b ∙ ap (λ (k : ℕ). get_or t k 0) (sym e)))

pub spans_part : (xs : List Span) (t : Bytes) (f n o : ℕ) → every fits xs ≡ true → f + n ≤ length t → o + total xs ≤ 8 * n
    → put_bytes t f (put_spans (part t f n) o xs) ≡ put_spans t (8 * f + o) xs
unfolding put_spans total every
spans_part [] t f n o g r h = part_same t f n r
spans_part (x ∷ xs) t f n o g r h =
    let q = both (fits x) (every fits xs) g in
    let some = (fits_is x q.0).0 in
    let u : Bytes = put_field t (8 * f + o) x.width x.value in
    let m = field_length t (8 * f + o) x.width x.value in
    let e = field_part t f n o x.width x.value r (omega arith) some in
    let ih = spans_part xs u f n (o + x.width) q.1 (omega (arith, m)) (omega arith) in
    let s : 8 * f + (o + x.width) ≡ 8 * f + o + x.width = omega arith in
    let ys : Bytes = put_spans (part u f n) (o + x.width) xs in
    ap (λ (p : Bytes). put_bytes t f (put_spans p (o + x.width) xs)) e
    ∙ sym (written_again t f n o x.width x.value ys r (omega arith) some (spans_length (part u f n) (o + x.width) xs ∙ part_length u f n (omega (arith, m))))
    ∙ ih
    ∙ ap (λ (k : ℕ). put_spans u k xs) s

-- the bytes from the f-th on lent, and given back with fields in them
pub spans_lent : (t ys : Bytes) (at m k : ℕ) (xs : List Span) → Room (length t) at m k xs → at / 8 ≤ length t
    → ys ≡ put_spans (take (length t - at / 8) (drop (at / 8) t)) (at % 8) xs
    → take (at / 8) t ++ (ys ++ drop (length t - at / 8) (drop (at / 8) t)) ≡ put_spans t at xs
unfolding part
spans_lent t ys at m k xs r b e =
    let f : ℕ = at / 8 in
    let n : ℕ = length t - f in
    let l : length ys ≡ n = ap length e ∙ spans_length (take n (drop f t)) (at % 8) xs ∙ part_length t f n (omega arith) in
    let q : 8 * f + at % 8 ≡ at = omega arith in
    region_back t ys f n l (omega arith)
    ∙ ap (put_bytes t f) e
    ∙ spans_part xs t f n (at % 8) r.fit (omega arith) (omega (arith, r.bits))
    ∙ ap (λ (i : ℕ). put_spans t i xs) q

-- there is room in the part
pub room_lent : {m k : ℕ} (t : Bytes) (at : ℕ) (xs : List Span) → Room (length t) at m k xs → at / 8 ≤ length t
    → Room (length (take (length t - at / 8) (drop (at / 8) t))) (at % 8) m k xs
unfolding part
room_lent t at xs r b =
    let l : length (take (length t - at / 8) (drop (at / 8) t)) ≡ length t - at / 8 = part_length t (at / 8) (length t - at / 8) (omega arith) in
    record { fit = r.fit; bits = omega (arith, l, r.bits); near = omega (arith, r.near); numbers = r.numbers }
