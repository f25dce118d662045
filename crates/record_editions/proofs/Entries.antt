-- An entry in the other edition: its fields, as they are moved in runs of bits.
-- Assumes nothing.
use Prim.Native.Nat.{ℕ, zero, suc, ◌+◌, ◌-◌, ◌*◌, ◌^◌, ◌≤◌, ◌<◌}
use mathlib.Core.Path.{◌≡◌, refl, ap, sym, ◌∙◌}
use mathlib.Core.Bool.{Bool, true, false, cond, not, ◌&&◌}
use mathlib.Core.List.{List, [], ◌∷◌, ◌++◌}
use native.Mathlib.Omega.{arith}
use lib.ListN.{length, get_or}
use mir.Val.{bool_byte}
use Rattle.std.specs.Prelude.{Some, None}
use Rattle.model.specs.Sizes.{Bytes}
use Rattle.model.specs.Record.{Shown}
use Rattle.model.specs.Reading.{field_at}
use Rattle.record_bits.proofs.Widths.{split, bytes_length}
use Rattle.record_entries.specs.BitLayout.{ViewBits, bits_of, mark_width, length_place, content_place, index_at, term_at, mark_at, length_at, content_at, shown_at, next_at, next_in, items_at, end_at, entries_at, first_entry, Walk}
use Rattle.record_entries.proofs.Given.{mark_small}
use Rattle.record_entries.proofs.Walks.{here, next_walk, entries_none, entries_next}
use Rattle.storage_bytes.specs.Lists.{every}
use Rattle.storage_bytes.proofs.ListLaws.{both}
use Rattle.record_writing.specs.Spans.{Span, span, content_spans, mark_spans, entry_spans, all_spans, total, joined, unmarked}
use Rattle.record_writing.specs.Puts.{put_field, put_spans, fits}
use Rattle.record_writing.proofs.Formats.{mark_then}
use Rattle.record_writing.proofs.Listed.{every_join}
use Rattle.record_writing.proofs.Puts.{field_length, spans_length, put_append, total_append}
use Rattle.record_writing.proofs.Joins.{spans_field, contents_joined, contents_total, field_fits, contents_fit}
use Rattle.record_editions.specs.Turned.{other, portions_end, entry_turned, entries_turned}

-- ---- an entry's fields

-- a yes as the code's number
pub one_bit : (m : Bool) → bool_byte m ≡ mark_width m
one_bit true = refl
one_bit false = refl

module _ (v : ViewBits) (k : ℕ) where
  -- its content length and its content
  abbrev tail : List Span
  tail = span 6 (length (content_at v k)) ∷ content_spans (content_at v k)

  counted : length (content_at v k) ≡ length_at v k
  counted = bytes_length v.bytes (k + content_place v.marked) (length_at v k)

  tail_width : total tail ≡ 6 + 8 * length_at v k
  unfolding total
  tail_width = omega (arith, contents_total (content_at v k), counted)

  tail_joined : joined 0 tail ≡ field_at v.bytes (k + length_place v.marked) (6 + 8 * length_at v k)
  unfolding joined
  tail_joined =
      let n : ℕ = length_at v k in
      let q : 0 * 2 ^ 6 + length (content_at v k) ≡ n = omega (arith, counted) in
      let e : k + content_place v.marked ≡ k + length_place v.marked + 6 = omega arith in
      contents_joined (0 * 2 ^ 6 + length (content_at v k)) v.bytes (k + content_place v.marked) n
      ∙ (λ i. q i * 2 ^ (8 * n) + field_at v.bytes (e i) (8 * n))
      ∙ sym (split v.bytes (k + length_place v.marked) 6 (8 * n))

  tail_fits : every fits tail ≡ true
  unfolding every
  tail_fits =
      let a = ap (λ (n : ℕ). fits (span 6 n)) counted ∙ field_fits v.bytes (k + length_place v.marked) 6 (omega arith) (omega arith) in
      let b = contents_fit v.bytes (k + content_place v.marked) (length_at v k) in
      λ i. a i && b i

  marked_fits : (m b : Bool) → every fits (mark_spans m b tail) ≡ true
  unfolding every
  marked_fits true true = tail_fits
  marked_fits true false = tail_fits
  marked_fits false b = tail_fits

  pub entry_fits : (m : Bool) → every fits (entry_spans m (shown_at v k)) ≡ true
  unfolding every
  entry_fits m =
      let a = field_fits v.bytes k 10 (omega arith) (omega arith) in
      let b = field_fits v.bytes (k + 10) 32 (omega arith) (omega arith) in
      λ i. a i && (b i && marked_fits m (mark_at v k) i)

  mark_total : (m b : Bool) (xs : List Span) → total (mark_spans m b xs) ≡ mark_width m + total xs
  unfolding total
  mark_total true b xs = refl
  mark_total false b xs = omega arith

  pub entry_width : (m : Bool) → total (entry_spans m (shown_at v k)) ≡ 48 + mark_width m + 8 * length_at v k
  unfolding total
  entry_width m = omega (arith, mark_total m (mark_at v k) tail, tail_width)

  -- of a portion record: two runs, and between them the mark where it is shown
  parts : (m : Bool) → mark_at v k ≡ false
      → entry_spans m (shown_at v k) ≡ (span 10 (index_at v k) ∷ span 32 (term_at v k) ∷ []) ++ (mark_spans m false [] ++ tail)
  parts m e =
      (λ i. span 10 (index_at v k) ∷ span 32 (term_at v k) ∷ mark_spans m (e i) tail)
      ∙ (λ i. span 10 (index_at v k) ∷ span 32 (term_at v k) ∷ sym (mark_then m false tail) i)

  head_put : (t : Bytes) → ((i : ℕ) → get_or t i 0 < 256) → (at : ℕ) → at + 42 ≤ 8 * length t
      → put_spans t at (span 10 (index_at v k) ∷ span 32 (term_at v k) ∷ []) ≡ put_field t at 42 (field_at v.bytes k 42)
  unfolding total joined every
  head_put t below at room =
      let a = field_fits v.bytes k 10 (omega arith) (omega arith) in
      let b = field_fits v.bytes (k + 10) 32 (omega arith) (omega arith) in
      let q : (0 * 2 ^ 10 + index_at v k) * 2 ^ 32 + term_at v k ≡ index_at v k * 2 ^ 32 + term_at v k = omega arith in
      spans_field t below at (span 10 (index_at v k) ∷ span 32 (term_at v k) ∷ []) (λ i. a i && (b i && true)) (omega arith) (omega arith)
      ∙ ap (put_field t at 42) (q ∙ sym (split v.bytes k 10 32))

  pub entry_put : (m : Bool) (t p q r : Bytes) → ((i : ℕ) → get_or t i 0 < 256) → ((i : ℕ) → get_or q i 0 < 256) → (at w : ℕ)
      → mark_at v k ≡ false → w ≡ 6 + 8 * length_at v k
      → at + total (entry_spans m (shown_at v k)) ≤ 8 * length t
      → p ≡ put_field t at 42 (field_at v.bytes k 42)
      → q ≡ put_spans p (at + 42) (mark_spans m false [])
      → r ≡ put_field q (at + length_place m) w (field_at v.bytes (k + length_place v.marked) w)
      → r ≡ put_spans t at (entry_spans m (shown_at v k))
  unfolding total
  entry_put m t p q r below below' at w e h room f g l =
      let heads : List Span = span 10 (index_at v k) ∷ span 32 (term_at v k) ∷ [] in
      let width = entry_width m in
      let marks = mark_total m false [] in
      let size : length q ≡ length t = ap length g ∙ spans_length p (at + 42) (mark_spans m false []) ∙ ap length f ∙ field_length t at 42 (field_at v.bytes k 42) in
      let a : at + 42 + total (mark_spans m false []) ≡ at + length_place m = omega (arith, marks) in
      let tw = tail_width in
      sym (
      ap (put_spans t at) (parts m e)
      ∙ put_append t at heads (mark_spans m false [] ++ tail)
      ∙ ap (λ (u : Bytes). put_spans u (at + 42) (mark_spans m false [] ++ tail)) (head_put t below at (omega (arith, room, width)) ∙ sym f)
      ∙ put_append p (at + 42) (mark_spans m false []) tail
      ∙ (λ i. put_spans (sym g i) (a i) tail)
      ∙ spans_field q below' (at + length_place m) tail tail_fits (omega (arith, tw)) (omega (arith, size, tw, width, room))
      ∙ (λ i. put_field q (at + length_place m) ((tw ∙ sym h) i) ((tail_joined ∙ ap (field_at v.bytes (k + length_place v.marked)) (sym h)) i))
      ∙ sym l
      )

-- ---- n entries from bit k on

module _ (v : ViewBits) (k n : ℕ) where
  abbrev pub last : ℕ
  last = end_at (next_in v.marked) v.bytes k n

  -- the next is a portion record
  pub portions_next : 0 < n → not (mark_at v k) ≡ true → portions_end v k n ≡ portions_end v (next_at v k) (n - 1)
  unfolding unmarked end_at
  portions_next h e =
      let d : n ≡ suc (n - 1) = omega arith in
      let x : last ≡ end_at (next_in v.marked) v.bytes (next_at v k) (n - 1) = ap (end_at (next_in v.marked) v.bytes k) d in
      rw (entries_next v k n h, e, x) refl

  -- it is not
  pub portions_stop : 0 < n → not (mark_at v k) ≡ false → portions_end v k n ≡ None
  unfolding unmarked
  portions_stop h e = rw (entries_next v k n h, e) refl

  pub portions_none : n ≤ 0 → portions_end v k n ≡ Some k
  unfolding unmarked end_at
  portions_none h =
      let d : n ≡ 0 = omega arith in
      let x : last ≡ k = ap (end_at (next_in v.marked) v.bytes k) d in
      rw (entries_none v k n h, x) refl

  pub portions_some : {e : ℕ} → portions_end v k n ≡ Some e → (unmarked (entries_at v k n) ≡ true) × (last ≡ e)
  portions_some {e = e} p = by (unmarked (entries_at v k n)) refl p
    where
      by : (b : Bool) → unmarked (entries_at v k n) ≡ b → cond b (Some last) None ≡ Some e → (unmarked (entries_at v k n) ≡ true) × (last ≡ e)
      by true q p = (q, cc)
      by false q p = absurd (let z : ◌≡◌ {A = ℕ} 0 1 = cc in omega arith)

  pub portions_not : portions_end v k n ≡ None → unmarked (entries_at v k n) ≡ false
  portions_not p = by (unmarked (entries_at v k n)) refl p
    where
      by : (b : Bool) → unmarked (entries_at v k n) ≡ b → cond b (Some last) None ≡ None → unmarked (entries_at v k n) ≡ false
      by true q p = absurd (let z : ◌≡◌ {A = ℕ} 0 1 = cc in omega arith)
      by false q p = q

-- with no marks all are portion records
pub plain_unmarked : (s : Bytes) (k n : ℕ) → unmarked (entries_at (bits_of s false) k n) ≡ true
unfolding unmarked items_at
plain_unmarked s k zero = refl
plain_unmarked s k (suc n) = plain_unmarked s (next_at (bits_of s false) k) n

pub entries_fit : (v : ViewBits) (m : Bool) (k n : ℕ) → every fits (all_spans (entry_spans m) (entries_at v k n)) ≡ true
unfolding every all_spans items_at
entries_fit v m k zero = refl
entries_fit v m k (suc n) =
    every_join fits (entry_spans m (shown_at v k)) (all_spans (entry_spans m) (entries_at v (next_at v k) n)) (entry_fits v k m) (entries_fit v m (next_at v k) n)

-- they take one bit more or less for each, in the other edition
pub entries_width : (v : ViewBits) (m : Bool) (k n : ℕ)
    → total (all_spans (entry_spans m) (entries_at v k n)) + k + mark_width v.marked * n ≡ last v k n + mark_width m * n
unfolding total all_spans items_at end_at
entries_width v m k zero = omega arith
entries_width v m k (suc n) =
    let rest : List Span = all_spans (entry_spans m) (entries_at v (next_at v k) n) in
    omega (arith, entries_width v m (next_at v k) n, entry_width v k m, total_append (entry_spans m (shown_at v k)) rest)

-- ---- the loop that writes them

pub record Turning (v : ViewBits) (u : Bytes) (all : List Span) (t : Bytes) (at k n : ℕ) : Type 0 where
  pub walk : Walk v k n
  pub portions : unmarked (entries_at v k n) ≡ true
  pub same : put_spans u first_entry all ≡ put_spans t at (entries_turned v k n)
  pub room : at + total (entries_turned v k n) ≤ 8 * length t
  pub near : at + 305 * n ≤ 2 ^ 32

module _ {v : ViewBits} {u : Bytes} {all : List Span} {t : Bytes} {at k n : ℕ} (l : Turning v u all t at k n) where
  module _ (h : 0 < n) where
    -- the next entry's fields, and then the others'
    turned_next : entries_turned v k n ≡ entry_turned v k ++ entries_turned v (next_at v k) (n - 1)
    unfolding all_spans
    turned_next = ap (all_spans (entry_spans (other v))) (entries_next v k n h)

    pub next_portion : mark_at v k ≡ false
    unfolding unmarked
    next_portion =
        let e = ap unmarked (sym (entries_next v k n h)) ∙ l.portions in
        is_not (mark_at v k) (both (not (mark_at v k)) (unmarked (entries_at v (next_at v k) (n - 1))) e).0
      where
        is_not : (b : Bool) → not b ≡ true → b ≡ false
        is_not true e = absurd (let z : ◌≡◌ {A = ℕ} 0 1 = cc in omega arith)
        is_not false e = refl

    pub next_room : at + total (entry_turned v k) ≤ 8 * length t
    next_room =
        let e = ap total turned_next ∙ total_append (entry_turned v k) (entries_turned v (next_at v k) (n - 1)) in
        omega (arith, e, l.room)

    pub turning_next : {p : Bytes} {a : ℕ} → p ≡ put_spans t at (entry_turned v k) → a ≡ at + total (entry_turned v k)
        → Turning v u all p a (next_at v k) (n - 1)
    unfolding unmarked
    turning_next {p = p} {a = a} e f =
        let rest : List Span = entries_turned v (next_at v k) (n - 1) in
        let w = ap total turned_next ∙ total_append (entry_turned v k) rest in
        let size : length p ≡ length t = ap length e ∙ spans_length t at (entry_turned v k) in
        let portions = ap unmarked (sym (entries_next v k n h)) ∙ l.portions in
        let small = (here v k n l.walk h).short in
        record {
          walk = next_walk v k n l.walk h;
          portions = (both (not (mark_at v k)) (unmarked (entries_at v (next_at v k) (n - 1))) portions).1;
          same = l.same ∙ ap (put_spans t at) turned_next ∙ put_append t at (entry_turned v k) rest ∙ (λ i. put_spans (sym e i) (sym f i) rest);
          room = omega (arith, w, size, f, l.room);
          near = omega (arith, f, entry_width v k (other v), mark_small (other v), small, l.near);
        }

  pub turning_end : n ≤ 0 → t ≡ put_spans u first_entry all
  unfolding put_spans all_spans
  turning_end h = sym (l.same ∙ ap (λ (es : List Shown). put_spans t at (all_spans (entry_spans (other v)) es)) (entries_none v k n h))
