-- Laws of a whole list of numbers: its fields by its kind, how many bits they take, and what the writer answers of it.
-- Assumes nothing.
use Prim.Native.Nat.{ℕ, zero, suc, ◌+◌, ◌-◌, ◌*◌, ◌/◌, ◌≤◌, ◌<◌}
use mathlib.Core.Path.{◌≡◌, refl, ap, sym, ◌∙◌}
use mathlib.Core.Bool.{Bool, true, false, cond}
use mathlib.Core.List.{List, [], ◌∷◌, ◌++◌}
use native.Mathlib.Omega.{arith}
use borrow.Author.Tests.{le-leb, lt-leb}
use lib.Dec.{leb, eqb}
use lib.ListN.{length, get_or, length-append}
use Rattle.std.specs.Prelude.{Result, Ok, Err, IsErrAnd}
use Rattle.model.specs.Sizes.{Bytes}
use Rattle.model.specs.Refusal.{Refusal}
use Rattle.model.specs.Record.{Record}
use Rattle.model.specs.Reading.{got, fault, Reading, readable, unreadable}
use Rattle.record_bits.specs.declared.bits.Fault.{Fault}
use Rattle.record_bits.specs.Answers.{refusal_of}
use Rattle.record_entries.proofs.Given.{fault≢got}
use Rattle.storage_bytes.specs.Lists.{tabulate, every}
use Rattle.storage_bytes.specs.Words.{put_bytes}
use Rattle.storage_bytes.proofs.ListLaws.{both}
use Rattle.record_writing.specs.Spans.{Span, span, total, bytes_for, spans, spell, pack}
use Rattle.record_writing.specs.Puts.{put_spans, fits, Room, Fields, spans_by, entries_by, rows_by, entry_by, content_count, row_widths, kind_by, record_by}
use Rattle.record_writing.specs.Given.{given, verdict}
use Rattle.record_writing.specs.Writing.{Writes, written}
use Rattle.record_writing.specs.declared.write.Refusal.{Refusal as Unwritten}
use Rattle.record_writing.proofs.Puts.{every_append, total_append, fits_is, entry_total, entry_length, row_total, room_first, room_then, spans_length, put_append}
use Rattle.record_writing.proofs.Packed.{spans_put, pack_length}
use Rattle.record_writing.proofs.Listed.{takes_end, takes_fit, record_back, narrow_spans}
use Rattle.record_writing.proofs.Sources.{given_is}

-- ---- by its kind

abbrev pub view_widths : List ℕ
view_widths = 4 ∷ 6 ∷ 10 ∷ []

abbrev pub rows_widths : List ℕ
rows_widths = 4 ∷ 10 ∷ []

module _ (fs : List ℕ) where
  -- every record has its kind
  pub record_some : 0 < length (record_by fs)
  unfolding record_by tabulate
  record_some =
      by (eqb (get_or fs 0 0) 1) _ _ (omega arith)
      (by (eqb (get_or fs 0 0) 2) _ _ (omega arith)
      (by (eqb (get_or fs 0 0) 3) _ _ (omega arith)
      (by (eqb (get_or fs 0 0) 4) _ _ (omega arith)
      (by (eqb (get_or fs 0 0) 5) _ _ (omega arith) (omega arith)))))
    where
      by : (b : Bool) (xs ys : List Span) → 0 < length xs → 0 < length ys → 0 < length (cond b xs ys)
      by true xs ys p q = p
      by false xs ys p q = q

  pub view_by : get_or fs 0 0 ≡ 1 → record_by fs ≡ spans_by view_widths fs 0 ++ entries_by fs 3 (get_or fs 2 0)
  unfolding record_by
  view_by e = ap (λ (kind : ℕ). kind_by kind fs) e

  pub entries_total : (k n : ℕ) → total (entries_by fs k n) ≡ 24 * n + 8 * length (entries_by fs k n)
  unfolding entries_by total
  entries_total k zero = refl
  entries_total k (suc n) =
      let j : ℕ = k + 3 + content_count fs k in
      omega (arith, total_append (entry_by fs k) (entries_by fs j n), length-append (entry_by fs k) (entries_by fs j n), entry_total fs k, entry_length fs k, entries_total j n)

  pub rows_total : (k n : ℕ) → total (rows_by fs k n) ≡ 122 * n
  unfolding rows_by total
  rows_total k zero = refl
  rows_total k (suc n) = omega (arith, total_append (spans_by row_widths fs k) (rows_by fs (k + 10) n), row_total fs k, rows_total (k + 10) n)

  -- a fixed kind's bits
  pub fixed_total : (kind : ℕ) → get_or fs 0 0 ≡ kind → total (record_by fs) ≡ total (kind_by kind fs)
  unfolding record_by
  fixed_total kind e = ap (λ (kind : ℕ). total (kind_by kind fs)) e

  pub commit_total : get_or fs 0 0 ≡ 2 → 20 ≡ total (record_by fs)
  unfolding total tabulate
  commit_total e = sym (fixed_total 2 e)

  pub terms_total : get_or fs 0 0 ≡ 3 → 56 ≡ total (record_by fs)
  unfolding total tabulate
  terms_total e = sym (fixed_total 3 e)

  pub election_total : get_or fs 0 0 ≡ 4 → 53 ≡ total (record_by fs)
  unfolding total tabulate
  election_total e = sym (fixed_total 4 e)

  pub check_total : get_or fs 0 0 ≡ 5 → 4 ≡ total (record_by fs)
  unfolding total tabulate
  check_total e = sym (fixed_total 5 e)

  -- what is known of a list whose heads come before n items
  pub record View : Type 0 where
    pub few : get_or fs 2 0 < 1024
    pub bits : total (record_by fs) ≡ 20 + 24 * get_or fs 2 0 + 8 * (length fs - 3)
    pub three : 3 ≤ length fs

  pub view_known : Fields fs → get_or fs 0 0 ≡ 1 → View
  unfolding tabulate total every
  view_known r k =
      let es : List Span = entries_by fs 3 (get_or fs 2 0) in
      let e = view_by k in
      let f = every_append (spans_by view_widths fs 0) es (ap (every fits) (sym e) ∙ r.fit) in
      let a = both (fits (span 4 (get_or fs 0 0))) (every fits (span 6 (get_or fs 1 0) ∷ span 10 (get_or fs 2 0) ∷ [])) f.0 in
      let b = both (fits (span 6 (get_or fs 1 0))) (every fits (span 10 (get_or fs 2 0) ∷ [])) a.1 in
      let c = fits_is (span 10 (get_or fs 2 0)) (both (fits (span 10 (get_or fs 2 0))) true b.1).0 in
      let l : length fs ≡ 3 + length es = sym r.all ∙ ap length e ∙ length-append (spans_by view_widths fs 0) es in
      let t : total (record_by fs) ≡ 20 + total es = ap total e ∙ total_append (spans_by view_widths fs 0) es in
      record { few = c.2; bits = omega (arith, t, l, entries_total 3 (get_or fs 2 0)); three = omega (arith, l) }

  pub record Rows : Type 0 where
    pub few : get_or fs 1 0 < 1024
    pub bits : total (record_by fs) ≡ 14 + 122 * get_or fs 1 0
    pub two : 2 ≤ length fs

  pub rows_known : Fields fs → record_by fs ≡ spans_by rows_widths fs 0 ++ rows_by fs 2 (get_or fs 1 0) → Rows
  unfolding tabulate total every
  rows_known r e =
      let rs : List Span = rows_by fs 2 (get_or fs 1 0) in
      let f = every_append (spans_by rows_widths fs 0) rs (ap (every fits) (sym e) ∙ r.fit) in
      let a = both (fits (span 4 (get_or fs 0 0))) (every fits (span 10 (get_or fs 1 0) ∷ [])) f.0 in
      let c = fits_is (span 10 (get_or fs 1 0)) (both (fits (span 10 (get_or fs 1 0))) true a.1).0 in
      let l : length fs ≡ 2 + length rs = sym r.all ∙ ap length e ∙ length-append (spans_by rows_widths fs 0) rs in
      let t : total (record_by fs) ≡ 14 + total rs = ap total e ∙ total_append (spans_by rows_widths fs 0) rs in
      record { few = c.2; bits = omega (arith, t, rows_total 2 (get_or fs 1 0)); two = omega (arith, l) }

-- ---- a record's first fields, and what follows them

-- of two runs of fields the first, of b bits and n numbers, is written, and then there is room for the second
rest_room : (t p : Bytes) (m b n : ℕ) (xs ys all : List Span) → all ≡ xs ++ ys → total xs ≡ b → length xs ≡ n
    → Room (length t) 0 m 0 all → p ≡ put_spans t 0 xs → Room (length p) b m n ys
rest_room t p m b n xs ys all e tb ln r q =
    let l : length p ≡ length t = ap length q ∙ spans_length t 0 xs in
    let s = room_then xs ys (rw e at r) in
    let c : 0 + total xs ≡ b = omega (arith, tb) in
    let d : 0 + length xs ≡ n = omega (arith, ln) in
    rw l (rw (c, d) at s)

both_put : (t p q : Bytes) (b : ℕ) (xs ys all : List Span) → all ≡ xs ++ ys → total xs ≡ b → p ≡ put_spans t 0 xs
    → q ≡ put_spans p b ys → q ≡ put_spans t 0 all
both_put t p q b xs ys all e tb u v =
    v
    ∙ ap (λ (x : Bytes). put_spans x b ys) u
    ∙ ap (λ (k : ℕ). put_spans (put_spans t 0 xs) k ys) (let z : b ≡ 0 + total xs = omega (arith, tb) in z)
    ∙ sym (put_append t 0 xs ys)
    ∙ ap (put_spans t 0) (sym e)

module _ (fs : List ℕ) (e : record_by fs ≡ spans_by view_widths fs 0 ++ entries_by fs 3 (get_or fs 2 0)) where
  pub view_room : {n : ℕ} → Room n 0 (length fs) 0 (record_by fs) → Room n 0 (length fs) 0 (spans_by view_widths fs 0)
  view_room r = room_first (spans_by view_widths fs 0) (entries_by fs 3 (get_or fs 2 0)) (rw e at r)

  pub view_rest : (t p : Bytes) → Room (length t) 0 (length fs) 0 (record_by fs)
      → p ≡ put_spans t 0 (spans_by view_widths fs 0)
      → Room (length p) 20 (length fs) 3 (entries_by fs 3 (get_or fs 2 0))
  unfolding total tabulate
  view_rest t p r q = rest_room t p (length fs) 20 3 (spans_by view_widths fs 0) _ (record_by fs) e refl refl r q

  pub view_put : (t p q : Bytes) → p ≡ put_spans t 0 (spans_by view_widths fs 0)
      → q ≡ put_spans p 20 (entries_by fs 3 (get_or fs 2 0))
      → q ≡ put_spans t 0 (record_by fs)
  unfolding total tabulate
  view_put t p q u v = both_put t p q 20 (spans_by view_widths fs 0) (entries_by fs 3 (get_or fs 2 0)) (record_by fs) e refl u v

module _ (fs : List ℕ) (e : record_by fs ≡ spans_by rows_widths fs 0 ++ rows_by fs 2 (get_or fs 1 0)) where
  pub rows_room : {n : ℕ} → Room n 0 (length fs) 0 (record_by fs) → Room n 0 (length fs) 0 (spans_by rows_widths fs 0)
  rows_room r = room_first (spans_by rows_widths fs 0) (rows_by fs 2 (get_or fs 1 0)) (rw e at r)

  pub rows_rest : (t p : Bytes) → Room (length t) 0 (length fs) 0 (record_by fs)
      → p ≡ put_spans t 0 (spans_by rows_widths fs 0)
      → Room (length p) 14 (length fs) 2 (rows_by fs 2 (get_or fs 1 0))
  unfolding total tabulate
  rows_rest t p r q = rest_room t p (length fs) 14 2 (spans_by rows_widths fs 0) _ (record_by fs) e refl refl r q

  pub rows_put : (t p q : Bytes) → p ≡ put_spans t 0 (spans_by rows_widths fs 0)
      → q ≡ put_spans p 14 (rows_by fs 2 (get_or fs 1 0))
      → q ≡ put_spans t 0 (record_by fs)
  unfolding total tabulate
  rows_put t p q u v = both_put t p q 14 (spans_by rows_widths fs 0) (rows_by fs 2 (get_or fs 1 0)) (record_by fs) e refl u v

-- ---- what is answered

-- the list is a record
pub record Accepted (fs : List ℕ) : Type 0 where
  pub value : Record
  pub is : given fs ≡ readable value

pub accepted : (fs : List ℕ) → verdict (given fs) ≡ got 0 0 → Accepted fs
accepted fs e = by (given fs) refl e
  where
    by : (g : Reading) → given fs ≡ g → verdict g ≡ got 0 0 → Accepted fs
    by (readable r) p e = record { value = r; is = p }
    by (unreadable f) p e = absurd (fault≢got e)

pub refused : (g : Reading) (f : Refusal) → verdict g ≡ fault f → g ≡ unreadable f
refused (readable r) f e = absurd (fault≢got (sym e))
refused (unreadable g) f e = ap unreadable (let z : g ≡ f = cc in z)

-- what is known of a list that is a record
pub record Known (fs : List ℕ) (r : Record) : Type 0 where
  pub by : record_by fs ≡ spans false r
  pub fit : every fits (record_by fs) ≡ true
  pub all : length (record_by fs) ≡ length fs

pub known : (fs : List ℕ) (r : Record) → given fs ≡ readable r → Known fs r
known fs r e =
    let g = given_is fs r e in
    let t = g.took in
    let b = record_back fs r (length fs) g.small t in
    let l : length (spans false r) ≡ length fs = omega (arith, takes_end fs (spans false r) 0 (length fs) t) in
    record {
      by = b;
      fit = ap (every fits) b ∙ takes_fit fs (spans false r) 0 (length fs) (narrow_spans false r) t;
      all = ap length b ∙ l;
    }

pub fields_known : (fs : List ℕ) → verdict (given fs) ≡ got 0 0 → Fields fs
fields_known fs e =
    let a = accepted fs e in
    let k = known fs a.value a.is in
    record { fit = k.fit; all = k.all }

-- its bytes are as many as hold its bits
spell_length : (fs : List ℕ) (r : Record) → given fs ≡ readable r → length (spell false r) ≡ bytes_for (total (record_by fs))
unfolding spell
spell_length fs r e = pack_length (spans false r) ∙ ap (λ (xs : List Span). bytes_for (total xs)) (sym (known fs r e).by)

bytes_put : (old : Bytes) → ((i : ℕ) → get_or old i 0 < 256) → (fs : List ℕ) (r : Record) → given fs ≡ readable r
    → total (record_by fs) ≤ 8 * length old
    → put_spans old 0 (record_by fs) ≡ put_bytes old 0 (spell false r)
unfolding spell
bytes_put old below fs r e h =
    let k = known fs r e in
    spans_put old below (record_by fs) k.fit h ∙ ap (λ (xs : List Span). put_bytes old 0 (pack xs)) k.by

pub writes_refused : (fs : List ℕ) (old : Bytes) (f : Fault) (r : Result ℕ Unwritten)
    → verdict (given fs) ≡ fault (refusal_of f)
    → IsErrAnd r (λ g. g ≡ Unwritten.Unreadable f) → Writes fs old r old
unfolding written
writes_refused fs old f (Ok n) e q = absurd q
writes_refused fs old f (Err u) e q =
    rw q
    (let g = refused (given fs) (refusal_of f) e in
    record { refusal = rw g refl; length = rw g refl; bytes = rw g refl })

pub writes_short : (fs : List ℕ) (old : Bytes) (n : ℕ) → verdict (given fs) ≡ got 0 0 → n ≡ total (record_by fs)
    → length old < (n + 7) / 8
    → Writes fs old (Err Unwritten.BufferTooShort) old
unfolding written
writes_short fs old n e q h =
    let a = accepted fs e in
    let l = spell_length fs a.value a.is in
    let s : leb (length (spell false a.value)) (length old) ≡ false = lt-leb _ _ (omega (arith, l, q, h)) in
    record { refusal = rw (a.is, s) refl; length = rw (a.is, s) refl; bytes = rw (a.is, s) refl }

pub writes_whole : (fs : List ℕ) (old new : Bytes) (n : ℕ) → ((i : ℕ) → get_or old i 0 < 256)
    → verdict (given fs) ≡ got 0 0 → n ≡ total (record_by fs)
    → (n + 7) / 8 ≤ length old → new ≡ put_spans old 0 (record_by fs) → Writes fs old (Ok ((n + 7) / 8)) new
unfolding written
writes_whole fs old new n below e q h w =
    let a = accepted fs e in
    let k = known fs a.value a.is in
    let l = spell_length fs a.value a.is in
    let s : leb (length (spell false a.value)) (length old) ≡ true = le-leb _ _ (omega (arith, l, q, h)) in
    let b : put_spans old 0 (record_by fs) ≡ put_bytes old 0 (spell false a.value) = bytes_put old below fs a.value a.is (omega (arith, q, h)) in
    record { refusal = rw (a.is, s) refl; length = rw (a.is, s) (omega (arith, l, q)); bytes = rw (a.is, s) (w ∙ b) }
