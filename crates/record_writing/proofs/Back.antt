-- The fields of packed bytes are those that were packed, and bytes with these fields and filling are the packed ones.
-- Assumes nothing.
use Prim.Native.Nat.{ℕ, suc, ◌+◌, ◌-◌, ◌*◌, ◌^◌, ◌≤◌, ◌<◌}
use mathlib.Core.Path.{◌≡◌, refl, ap, sym, subst, ◌∙◌}
use mathlib.Core.Bool.{Bool, true, false, cond, ◌&&◌}
use mathlib.Core.List.{List, [], ◌∷◌, map}
use native.Mathlib.Omega.{arith}
use native.Mathlib.Nat.{zero-add}
use borrow.Author.Tests.{eqb-true, leb-true, eq-eqb, ltb-true, lt-ltb, le-leb}
use lib.Dec.{leb, ltb, eqb}
use lib.Pow.{pow_pos, shl_lt}
use lib.ListN.{length, take, drop}
use lib.Seq.{take-append_seam}
use Rattle.model.specs.Sizes.{Bytes}
use Rattle.model.specs.Record.{Record}
use Rattle.model.specs.Reading.{got, Reading, readable, unreadable, field, field_at, filled, record_fields, read, finish}
use Rattle.model.specs.Refusal.{Refusal, number, unknownKind, bitsMissing, filling, outOfLimit, notAbove, prefixesFull, findingsFull, old_exceeds_new, lengthExceedsFront, certificatesFull, leaderLogsFull}
use Rattle.record_bits.proofs.Widths.{field_lt, split}
use Rattle.record_entries.proofs.Given.{field_is, field_below}
use Rattle.storage_bytes.specs.Words.{word_bytes, put_bytes}
use Rattle.storage_bytes.specs.Lists.{every}
use Rattle.storage_bytes.proofs.ListLaws.{both}
use Rattle.storage_bytes.proofs.PartLaws.{part_back}
use Rattle.storage_bytes.proofs.WordLaws.{word_back}
use Rattle.record_entries.specs.BitLayout.{is_marked}
use Rattle.record_writing.specs.Spans.{Span, value_of, spans, fields, total, joined, bytes_for, packed, pack, spell}
use Rattle.record_writing.specs.Puts.{fits}
use Rattle.record_writing.specs.Given.{given}
use Rattle.record_writing.specs.Laws.{OneList, ReadBack, AreBytes, SpelledAsRead, ReadInEither, OneSpelling, ReadsWritten, WritesRead}
use Rattle.record_writing.specs.Writing.{Written, Gives, Writes, Replied, Replies, number_of, reply_of, written, put_record, put_reading, too_short, refused}
use Rattle.std.specs.Prelude.{Result}
use Rattle.record_writing.specs.declared.write.Refusal.{Refusal as Unwritten}
use Rattle.record_writing.specs.declared.reply.WriteReply.{WriteReply}
use Rattle.record_writing.proofs.WholeBytes.{bytes_number, bytes_below, number_bytes, all_bytes, bytes_power, parted, joined_lt}
use Rattle.record_writing.proofs.Taken.{Takes}
use Rattle.record_writing.proofs.Puts.{fits_is}
use Rattle.record_writing.proofs.Packed.{pack_length}
use Rattle.record_writing.proofs.Listed.{narrow, narrow_spans, takes_values, takes_fit, takes_back}
use Rattle.record_writing.proofs.Sources.{bits_below, kind_plain, record_same, given_is, read_is}
use Rattle.record_writing.proofs.Editions.{other_fits, read_other}

-- ---- joined fields

field_back : (s : Bytes) (k w : ℕ) → k + w ≤ 8 * length s → field w s k ≡ got (field_at s k w) (k + w)
unfolding field
field_back s k w h = rw (le-leb (k + w) (8 * length s) h)

-- bits that are the joined fields have these fields
pub record Joined (s : Bytes) (k n : ℕ) (xs : List Span) : Type 0 where
  pub before : field_at s 0 k ≡ n
  pub took : Takes field s xs k (k + total xs)

joined_takes : (s : Bytes) (k n : ℕ) (xs : List Span) → every fits xs ≡ true → k + total xs ≤ 8 * length s
    → field_at s 0 (k + total xs) ≡ joined n xs
    → Joined s k n xs
unfolding joined total every
joined_takes s k n [] e r h =
    let z : k + 0 ≡ k = omega arith in record { before = ap (field_at s 0) (sym z) ∙ h; took = sym z }
joined_takes s k n (x ∷ xs) e r h =
    let q = both (fits x) (every fits xs) e in
    let f = (fits_is x q.0).2 in
    let z : k + x.width + total xs ≡ k + (x.width + total xs) = omega arith in
    let t = joined_takes s (k + x.width) (n * 2 ^ x.width + x.value) xs q.1 (omega arith) (ap (field_at s 0) z ∙ h) in
    let p = parted x.width (sym (split s 0 k x.width) ∙ t.before) (field_lt s (0 + k) x.width) f in
    let v : field_at s k x.width ≡ x.value = ap (λ (i : ℕ). field_at s i x.width) (sym (zero-add k)) ∙ p.1 in
    let u = t.took in
    record {
      before = p.0;
      took = record { place = k + x.width; read = field_back s k x.width (omega arith) ∙ ap (λ (v : ℕ). got v (k + x.width)) v; then = rw z at u };
    }

-- fields that were read are joined
pub record Read (s : Bytes) (xs : List Span) (k j : ℕ) : Type 0 where
  pub end : j ≡ k + total xs
  pub whole : k ≤ 8 * length s → j ≤ 8 * length s
  pub number : field_at s 0 j ≡ joined (field_at s 0 k) xs

takes_read : (s : Bytes) (xs : List Span) (k j : ℕ) → Takes field s xs k j → Read s xs k j
unfolding joined total
takes_read s [] k j t = record { end = omega (arith, t); whole = λ h. omega (arith, t); number = ap (field_at s 0) (sym t) }
takes_read s (x ∷ xs) k j t =
    let f = field_is s k x.width t.read in
    let r = takes_read s xs t.place j t.then in
    let v : field_at s (0 + k) x.width ≡ x.value = ap (λ (i : ℕ). field_at s i x.width) (zero-add k) ∙ sym f.value in
    let n : field_at s 0 t.place ≡ field_at s 0 k * 2 ^ x.width + x.value
    = ap (field_at s 0) f.next ∙ split s 0 k x.width ∙ ap (λ (v : ℕ). field_at s 0 k * 2 ^ x.width + v) v in
    record {
      end = omega (arith, f.next, r.end);
      whole = λ h. r.whole (omega (arith, f.next, f.whole));
      number = r.number ∙ ap (λ (n : ℕ). joined n xs) n;
    }

takes_below : (s : Bytes) (xs : List Span) (k j : ℕ) → every narrow xs ≡ true → Takes field s xs k j → every fits xs ≡ true
unfolding every
takes_below s [] k j n t = refl
takes_below s (x ∷ xs) k j n t =
    let p = both (narrow x) (every narrow xs) n in
    let h = field_below s k x.width t.read in
    λ i. (p.0 i && lt-ltb x.value (2 ^ x.width) h i) && takes_below s xs t.place j p.1 t.then i

-- ---- the packed bytes

module _ (xs : List Span) (fit : every fits xs ≡ true) where
  -- their number
  packed_number : field_at (pack xs) 0 (8 * bytes_for (total xs)) ≡ joined 0 xs * 2 ^ (8 * bytes_for (total xs) - total xs)
  unfolding pack packed
  packed_number =
      let n : ℕ = bytes_for (total xs) in
      let d : ℕ = 8 * n - total xs in
      let v : ℕ = joined 0 xs * 2 ^ d in
      let z : 0 + total xs + d ≡ 8 * n = omega arith in
      let l : v < 256 ^ n = rw (bytes_power n) (rw z at (shl_lt (0 + total xs) d (joined_lt 0 0 xs (omega arith) fit))) in
      bytes_number (word_bytes n v) n (bytes_below n v) ∙ word_back n v l

  packed_parts : (field_at (pack xs) 0 (total xs) ≡ joined 0 xs) × (field_at (pack xs) (total xs) (8 * bytes_for (total xs) - total xs) ≡ 0)
  packed_parts =
      let n : ℕ = bytes_for (total xs) in
      let d : ℕ = 8 * n - total xs in
      let z : 8 * n ≡ total xs + d = omega arith in
      let w : joined 0 xs * 2 ^ d ≡ joined 0 xs * 2 ^ d + 0 = omega arith in
      let e = sym (split (pack xs) 0 (total xs) d) ∙ ap (field_at (pack xs) 0) (sym z) ∙ packed_number ∙ w in
      let p = parted d e (field_lt (pack xs) (0 + total xs) d) (pow_pos d) in
      (p.0, ap (λ (i : ℕ). field_at (pack xs) i d) (sym (zero-add (total xs))) ∙ p.1)

  pub packed_takes : Takes field (pack xs) xs 0 (total xs)
  packed_takes =
      let z : 0 + total xs ≡ total xs = zero-add (total xs) in
      let l = pack_length xs in
      let j = joined_takes (pack xs) 0 0 xs fit (omega (arith, l)) (ap (field_at (pack xs) 0) z ∙ packed_parts.0) in
      let u = j.took in
      rw z at u

  pub packed_filled : filled (pack xs) (total xs) ≡ true
  unfolding filled
  packed_filled =
      let l : 8 * length (pack xs) - total xs ≡ 8 * bytes_for (total xs) - total xs = omega (arith, pack_length xs) in
      rw l (λ i. lt-ltb (8 * bytes_for (total xs) - total xs) 8 (omega arith) i && eq-eqb _ 0 packed_parts.1 i)

-- bytes with these fields and filling are the packed ones
pub packed_back : (s : Bytes) (xs : List Span) (j : ℕ) → AreBytes s → Takes field s xs 0 j → filled s j ≡ true → pack xs ≡ s
unfolding pack packed filled field_at
packed_back s xs j below t f =
    let r = takes_read s xs 0 j t in
    let w = r.whole (omega arith) in
    let e : j ≡ total xs = r.end ∙ zero-add (total xs) in
    let p = both (ltb (8 * length s - j) 8) (eqb (field_at s j (8 * length s - j)) 0) f in
    let a = ltb-true _ _ p.0 in
    let b = eqb-true (field_at s j (8 * length s - j)) 0 p.1 in
    let n : bytes_for (total xs) ≡ length s = omega (arith, e, a, w) in
    let d : 8 * bytes_for (total xs) - total xs ≡ 8 * length s - j = omega (arith, e, n) in
    let z : j + (8 * length s - j) ≡ 8 * length s = omega (arith, w) in
    let q : field_at s 0 (8 * length s) ≡ joined 0 xs * 2 ^ (8 * length s - j)
    = ap (field_at s 0) (sym z)
    ∙ split s 0 j (8 * length s - j)
    ∙ (λ i. r.number i * 2 ^ (8 * length s - j) + (ap (λ (k : ℕ). field_at s k (8 * length s - j)) (zero-add j) ∙ b) i)
    ∙ (let y : joined 0 xs * 2 ^ (8 * length s - j) + 0 ≡ joined 0 xs * 2 ^ (8 * length s - j) = omega arith in y) in
    (λ i. word_bytes (n i) (joined 0 xs * 2 ^ d i))
    ∙ ap (word_bytes (length s)) (sym q ∙ bytes_number s (length s) below)
    ∙ number_bytes s (length s) below
    ∙ all_bytes s

-- ---- the laws

map_length : (xs : List Span) → length (map value_of xs) ≡ length xs
map_length [] = refl
map_length (x ∷ xs) = ap suc (map_length xs)

-- packed fields of a record, which are read as that record
packed_read : (marked : Bool) (r : Record) → every fits (spans marked r) ≡ true
    → ((u : Bytes) (l : ℕ) → Takes field u (spans marked r) 0 l → record_fields u 0 ≡ got r l) → read (spell marked r) ≡ readable r
unfolding spell read
packed_read marked r fit again =
    let xs : List Span = spans marked r in
    ap (finish (pack xs)) (again (pack xs) (total xs) (packed_takes xs fit))
    ∙ ap (λ (b : Bool). cond b (readable r) (unreadable filling)) (packed_filled xs fit)

pub one_list : OneList
one_list fs r e = takes_values fs (spans false r) 0 (given_is fs r e).took

pub read_back : ReadBack
read_back fs r e =
    let g = given_is fs r e in
    packed_read false r (takes_fit fs (spans false r) 0 (length fs) (narrow_spans false r) g.took) g.again

pub spelled_as_read : SpelledAsRead
unfolding spell
spelled_as_read s r below e = let d = read_is s r e in packed_back s (spans (is_marked s) r) d.end below d.took d.full

-- what was read has fields that fit, in its edition
pub read_fits : (s : Bytes) (r : Record) → read s ≡ readable r → every fits (spans (is_marked s) r) ≡ true
read_fits s r e = let d = read_is s r e in takes_below s (spans (is_marked s) r) 0 d.end (narrow_spans (is_marked s) r) d.took

pub read_in_either : ReadInEither
read_in_either s r marked e h =
    packed_read marked r (other_fits (is_marked s) marked r (read_fits s r e))
    (λ u l t. sym (record_same u 0) ∙ read_other field field bits_below s u 0 (read_is s r e).end marked 0 l r (read_is s r e).whole h t)

pub one_spelling : OneSpelling
one_spelling s r below h e =
    let d = read_is s r e in
    let m : is_marked s ≡ false = kind_plain (field_at s 0 4) h in
    let xs : List Span = spans false r in
    let fit : every fits xs ≡ true = subst (λ (b : Bool). every fits (spans b r) ≡ true) m (read_fits s r e) in
    record {
      numbers = d.numbers h (fields r) (takes_back (fields r) xs 0 fit refl (zero-add (length xs) ∙ sym (map_length xs)));
      bytes = ap (λ (b : Bool). spell b r) (sym m) ∙ spelled_as_read s r below e;
    }

-- ---- of what the writer leaves

-- the bytes written from the start
pub written_first : (b s : Bytes) → length s ≤ length b → take (length s) (put_bytes b 0 s) ≡ s
written_first b s h =
    ap (take (length s)) (sym (part_back b 0 s (omega arith)))
    ∙ take-append_seam s (drop (0 + length s) b)

-- bytes that were written where there was room are read as what they are
pub read_put : (b s : Bytes) (g : Reading) → read s ≡ g → (put_record b s).refusal ≡ 0
    → read (take (put_record b s).length (put_record b s).bytes) ≡ g
read_put b s g p e = by (leb (length s) (length b)) refl e
  where
    put_if : Bool → Written
    put_if c = cond c (record { refusal = 0; length = length s; bytes = put_bytes b 0 s }) (refused too_short b)

    by : (c : Bool) → leb (length s) (length b) ≡ c → (put_if c).refusal ≡ 0 → read (take (put_if c).length (put_if c).bytes) ≡ g
    by true q e = ap read (written_first b s (leb-true _ _ q)) ∙ p
    by false q e = absurd (omega (arith, e))

pub put_kept : (b s : Bytes) → ((put_record b s).refusal ≡ 0 → ⊥) → (put_record b s).bytes ≡ b
put_kept b s h = by (leb (length s) (length b)) h
  where
    put_if : Bool → Written
    put_if c = cond c (record { refusal = 0; length = length s; bytes = put_bytes b 0 s }) (refused too_short b)

    by : (c : Bool) → ((put_if c).refusal ≡ 0 → ⊥) → (put_if c).bytes ≡ b
    by true h = absurd (h refl)
    by false h = refl

pub number_some : (f : Refusal) → number f ≡ 0 → ⊥
number_some unknownKind e = omega (arith, e)
number_some bitsMissing e = omega (arith, e)
number_some filling e = omega (arith, e)
number_some outOfLimit e = omega (arith, e)
number_some notAbove e = omega (arith, e)
number_some prefixesFull e = omega (arith, e)
number_some findingsFull e = omega (arith, e)
number_some old_exceeds_new e = omega (arith, e)
number_some lengthExceedsFront e = omega (arith, e)
number_some certificatesFull e = omega (arith, e)
number_some leaderLogsFull e = omega (arith, e)

pub reads_written : ReadsWritten
unfolding written
reads_written fs b e = by (given fs) refl e
  where
    by : (g : Reading) → given fs ≡ g → (put_reading b g).refusal ≡ 0
        → read (take (put_reading b g).length (put_reading b g).bytes) ≡ g
    by (readable r) p e = read_put b (spell false r) (readable r) (read_back fs r p) e
    by (unreadable f) p e = absurd (number_some f e)

pub writes_read : WritesRead
unfolding written
writes_read s r b below h e =
    let o = one_spelling s r below h e in
    ap (put_reading b) o.numbers ∙ ap (put_record b) o.bytes

refused_same : (b : Bytes) (g : Reading) → ((put_reading b g).refusal ≡ 0 → ⊥) → (put_reading b g).bytes ≡ b
refused_same b (readable r) h = put_kept b (spell false r) h
refused_same b (unreadable f) h = refl

-- the numbers of an answer
pub replied : {E : Type 0} (number : E → ℕ) (w : Written) (meant : Reading) (old new : Bytes) (a : Result ℕ E) (r : WriteReply)
    → Gives number w a new → r ≡ reply_of number a
    → (w.refusal ≡ 0 → read (take w.length w.bytes) ≡ meant) → ((w.refusal ≡ 0 → ⊥) → w.bytes ≡ old)
    → Replied w meant old r new
replied number w meant old new a r g e reads kept =
    let f : r.refusal ≡ w.refusal = (λ i. (e i).refusal) ∙ g.refusal in
    let l : r.length ≡ w.length = (λ i. (e i).length) ∙ g.length in
    record {
      refusal = f;
      length = l;
      bytes = g.bytes;
      reads = λ z. (λ i. read (take (l i) (g.bytes i))) ∙ reads (sym f ∙ z);
      refused = λ z. g.bytes ∙ kept (λ y. z (f ∙ y));
    }

pub replies : (fs : List ℕ) (old new : Bytes) (a : Result ℕ Unwritten) (r : WriteReply) → Writes fs old a new
    → r ≡ reply_of number_of a → Replies fs old r new
unfolding written
replies fs old new a r w e =
    replied number_of (written fs old) (given fs) old new a r w e (reads_written fs old) (refused_same old (given fs))
