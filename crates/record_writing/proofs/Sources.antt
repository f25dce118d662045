-- The two sources of fields, the bits of a record and a list of numbers: the format over bits is the model's reading, and a
-- record that one source gives is given by the other where it has the same fields.
-- Assumes nothing.
use Prim.Native.Nat.{ℕ, zero, suc, ◌+◌, ◌*◌, ◌^◌, ◌≤◌, ◌<◌}
use mathlib.Core.Path.{◌≡◌, refl, ap, sym, subst, ◌∙◌}
use mathlib.Core.Bool.{Bool, true, false, cond}
use mathlib.Core.List.{List, ◌∷◌}
use native.Mathlib.Decide.{dec_le}
use native.Mathlib.Omega.{arith}
use borrow.Author.Tests.{eqb-true, eq-eqb, leb-true, ltb-true, le-leb, lt-leb, lt-ltb}
use lib.Dec.{leb, ltb, eqb}
use lib.ListN.{length, get_or}
use Rattle.std.proofs.lemmas.Bool.{ne_eqb}
use Rattle.model.specs.Sizes.{Bytes, content_limit}
use Rattle.model.specs.Refusal.{unknownKind, bitsMissing, outOfLimit, filling}
use Rattle.model.specs.Record.{Shown, Record, view, check}
use Rattle.model.specs.Reading as reading
use Rattle.model.specs.Reading.{Part, got, fault, Reader, onward, ◌>>=◌, return, many, field, field_at, bytes_at, readable, unreadable, read, finish, filled}
use Rattle.record_entries.specs.BitLayout.{index_of, is_marked}
use Rattle.record_entries.proofs.Given.{fault≢got, got_same, went, field_is, field_below, limited_is}
use Rattle.record_writing.specs.Spans.{Span, span, spans}
use Rattle.record_writing.specs.Format as format
use Rattle.record_writing.specs.Format.{no_key, content_byte, content}
use Rattle.record_writing.specs.Given.{last_kind, number, kind_number, record_numbers, given, last_number}
use Rattle.record_writing.proofs.Taken.{Source, First, Takes}
use Rattle.record_writing.proofs.Formats.{kind_marked, same_fields}
use Rattle.record_writing.proofs.Listed.{number_is}

-- ---- the format over bits is the model's

onward_same : {A B : Type 0} (s : Bytes) (p : Part A) (f g : A → Reader B)
    → ((a : A) (k : ℕ) → p ≡ got a k → f a s k ≡ g a s k)
    → onward s p f ≡ onward s p g
onward_same s (got a k) f g h = h a k refl
onward_same s (fault r) f g h = refl

many_same : {A : Type 0} (item other : ℕ → Reader A) (key : A → ℕ) (s : Bytes)
    → ((least k : ℕ) → item least s k ≡ other least s k)
    → (least n k : ℕ) → many item key least n s k ≡ many other key least n s k
unfolding many
many_same item other key s h least zero k = refl
many_same item other key s h least (suc n) k =
    ap (λ (p : Part _). onward s p (λ x. many item key (key x + 1) n >>= (λ xs. return (x ∷ xs)))) (h least k)
    ∙ onward_same s (other least s k) _ _ (λ x j e. ap (λ (p : Part _). onward s p (λ xs. return (x ∷ xs))) (many_same item other key s h (key x + 1) n j))

-- bytes one by one are the bytes at once
bits_content : (s : Bytes) (least n k : ℕ) → k ≤ 8 * length s
    → many (content_byte field) no_key least n s k ≡ reading.content n s k
unfolding many reading.content field bytes_at
bits_content s least zero k h = let e : k + 8 * 0 ≡ k = omega arith in rw (e, le-leb k (8 * length s) h)
bits_content s least (suc n) k h =
    elim (dec_le (k + 8) (8 * length s)) [
      | yes l ↦
          rw (le-leb (k + 8) (8 * length s) l)
          (ap (λ (p : Part (List ℕ)). onward s p (λ xs. return (field_at s k 8 ∷ xs))) (bits_content s 1 n (k + 8) l)
          ∙ one_more (leb (k + 8 + 8 * n) (8 * length s))
          ∙ ap (λ (j : ℕ). cond (leb j (8 * length s)) (got (field_at s k 8 ∷ bytes_at s (k + 8) n) j) (fault bitsMissing))
          (let e : k + 8 + 8 * n ≡ k + 8 * suc n = omega arith in e))
      | no m ↦ rw (lt-leb (k + 8) (8 * length s) (omega arith), lt-leb (k + 8 * suc n) (8 * length s) (omega arith))
    ]
  where
    one_more : (b : Bool)
        → onward s (cond b (got (bytes_at s (k + 8) n) (k + 8 + 8 * n)) (fault bitsMissing)) (λ xs. return (field_at s k 8 ∷ xs))
        ≡ cond b (got (field_at s k 8 ∷ bytes_at s (k + 8) n) (k + 8 + 8 * n)) (fault bitsMissing)
    one_more true = refl
    one_more false = refl

bits_shown : (marked : Bool) (s : Bytes) (least k : ℕ) → format.shown field marked least s k ≡ reading.shown marked least s k
unfolding format.shown reading.shown format.entry_index reading.entry_index format.mark reading.mark format.yes_no reading.yes_no format.limited reading.limited
bits_shown marked s least k =
    onward_same s (reading.entry_index least s k) _ _ (λ i a e.
    onward_same s (field 32 s a) _ _ (λ t b f.
    onward_same s (reading.mark marked s b) _ _ (λ m c o.
    onward_same s (reading.limited 6 content_limit s c) _ _ (λ n d g.
    ap (λ (p : Part (List ℕ)). onward s p (λ bs. return (record { index = i; entry = record { term = t; configuration = m; content = bs } })))
    (bits_content s 0 n d (let l = limited_is s c 6 content_limit g in omega (arith, l.field.whole, l.field.next)))))))

bits_view : (marked : Bool) (s : Bytes) (k : ℕ) → format.view_fields field marked s k ≡ reading.view_fields marked s k
unfolding format.view_fields reading.view_fields format.limited reading.limited
bits_view marked s k =
    onward_same s (field 6 s k) _ _ (λ n a e.
    onward_same s (reading.index s a) _ _ (λ c b f.
    ap (λ (p : Part (List Shown)). onward s p (λ es. return (view n es)))
    (many_same (format.shown field marked) (reading.shown marked) index_of s (bits_shown marked s) 0 c b)))

bits_fields : (kind : ℕ) (s : Bytes) (k : ℕ) → format.fields_of field kind s k ≡ reading.fields_of kind s k
unfolding format.fields_of reading.fields_of format.commit_fields reading.commit_fields format.terms_fields reading.terms_fields format.election_fields reading.election_fields format.rows_fields reading.rows_fields format.leader_fields reading.leader_fields format.limited reading.limited format.row reading.row format.configuration reading.configuration format.yes_no reading.yes_no format.governed reading.governed format.row_node reading.row_node
bits_fields kind s k = λ d. kinds kind (λ s k. bits_view false s k d) (λ s k. bits_view true s k d) s k
  where
    -- of two editions of a view
    kinds : ℕ → Reader Record → Reader Record → Reader Record
    kinds kind plain marked =
        cond (eqb kind 1) plain
        (cond (eqb kind 2) reading.commit_fields
        (cond (eqb kind 3) reading.terms_fields
        (cond (eqb kind 4) reading.election_fields
        (cond (eqb kind 5) (return check)
        (cond (eqb kind 6) reading.rows_fields
        (cond (eqb kind 7) reading.leader_fields
        (cond (eqb kind 9) marked
        (λ s k. fault unknownKind))))))))

-- ---- each source's own fields

number_below : (w : ℕ) (s : Bytes) (k v j : ℕ) → number w s k ≡ got v j → v < 2 ^ w
unfolding number
number_below w s k v j e = by (ltb k (length s)) (ltb (get_or s k 0) (2 ^ w)) refl e
  where
    by : (b c : Bool) → c ≡ ltb (get_or s k 0) (2 ^ w)
        → cond b (cond c (got (get_or s k 0) (k + 1)) (fault outOfLimit)) (fault bitsMissing) ≡ got v j → v < 2 ^ w
    by true true q e = let z = got_same e in rw z.0 (ltb-true _ _ (sym q))
    by true false q e = absurd (fault≢got e)
    by false c q e = absurd (fault≢got e)

pub bits_below : (w : ℕ) (s : Bytes) (k v j : ℕ) → field w s k ≡ got v j → v < 2 ^ w
bits_below w s k v j e = field_below s k w e

-- ---- the whole record

-- a record over a source, of any kind
abbrev pub record_of : Source → Reader Record
record_of p = p 4 >>= format.fields_of p

-- what a source that was read as a record has, and another that has the same fields
pub record Whole (p q : Source) (s : Bytes) (k : ℕ) (r : Record) (j : ℕ) : Type 0 where
  pub kind : ℕ
  pub place : ℕ
  pub first : p 4 s k ≡ got kind place
  pub fields : format.fields_of p kind s place ≡ got r j
  pub behind : List Span
  pub spelled : span 4 kind ∷ behind ≡ spans (kind_marked kind) r
  pub took : Takes p s (spans (kind_marked kind) r) k j
  pub kind_again : (u : Bytes) (i l : ℕ) → Takes q u (spans (kind_marked kind) r) i l → First q u (span 4 kind) i (λ j. Unit {0})
  pub again : (u : Bytes) (i l : ℕ) → Takes q u (spans (kind_marked kind) r) i l → record_of q u i ≡ got r l

pub whole_is : (p q : Source) → ((w : ℕ) (s : Bytes) (k v j : ℕ) → p w s k ≡ got v j → v < 2 ^ w)
    → (s : Bytes) (k : ℕ) (r : Record) (j : ℕ) → record_of p s k ≡ got r j → Whole p q s k r j
whole_is p q below s k r j e =
    let g = went s (p 4 s k) (format.fields_of p) e in
    let t = same_fields p q below g.value s g.place r j g.rest in
    let h = t.holds in
    record {
      kind = g.value;
      place = g.place;
      first = g.first;
      fields = g.rest;
      behind = t.spans;
      spelled = h;
      took = subst (λ (xs : List Span). Takes p s xs k j) h (record { place = g.place; read = g.first; then = t.took });
      kind_again = λ u i l x. let y = subst (λ (xs : List Span). Takes q u xs i l) (sym h) x in record { place = y.place; read = y.read; then = tt };
      again = λ u i l x.
          let y = subst (λ (xs : List Span). Takes q u xs i l) (sym h) x in
          ap (λ (o : Part ℕ). onward u o (format.fields_of q)) y.read ∙ t.again u y.place l y.then;
    }

-- the bits' record, in the words of the format
pub record_same : (s : Bytes) (k : ℕ) → record_of field s k ≡ reading.record_fields s k
unfolding reading.record_fields
record_same s k = onward_same s (field 4 s k) _ _ (λ v j e. bits_fields v s j)

-- ---- the writer's kinds

kind_known : (fs : List ℕ) {r : Record} {j : ℕ} → record_numbers fs 0 ≡ got r j → get_or fs 0 0 ≤ last_kind
unfolding record_numbers kind_number
kind_known fs {r} {j} e = by (ltb 0 (length fs)) (leb (get_or fs 0 0) last_kind) refl e
  where
    by : (b c : Bool) → leb (get_or fs 0 0) last_kind ≡ c
        → onward fs (cond b (cond c (got (get_or fs 0 0) 1) (fault unknownKind)) (fault bitsMissing)) (format.fields_of number) ≡ got r j
        → get_or fs 0 0 ≤ last_kind
    by true true q e = leb-true _ _ q
    by true false q e = absurd (fault≢got e)
    by false c q e = absurd (fault≢got e)

numbers_same : (fs : List ℕ) → get_or fs 0 0 ≤ last_kind → record_numbers fs 0 ≡ record_of number fs 0
unfolding record_numbers kind_number number
numbers_same fs h = rw (le-leb (get_or fs 0 0) last_kind h, lt-ltb (get_or fs 0 0) (2 ^ 4) (omega (arith, h))) refl

pub kind_plain : (kind : ℕ) → kind ≤ last_kind → kind_marked kind ≡ false
kind_plain kind h = ne_eqb kind 9 (λ e. omega (arith, h, e))

-- what a list of numbers that is a record has
pub record Listing (fs : List ℕ) (r : Record) : Type 0 where
  pub small : get_or fs 0 0 ≤ last_kind
  pub took : Takes number fs (spans false r) 0 (length fs)
  pub again : (u : Bytes) (l : ℕ) → Takes field u (spans false r) 0 l → reading.record_fields u 0 ≡ got r l

pub given_is : (fs : List ℕ) (r : Record) → given fs ≡ readable r → Listing fs r
unfolding given
given_is fs r e =
    let p = last (record_numbers fs 0) e in
    let small = kind_known fs p in
    let w = whole_is number field number_below fs 0 r (length fs) (sym (numbers_same fs small) ∙ p) in
    let n = number_is fs 0 4 w.kind w.place w.first in
    let m = kind_plain w.kind (omega (arith, small, n.value)) in
    record {
      small = small;
      took = subst (λ (b : Bool). Takes number fs (spans b r) 0 (length fs)) m w.took;
      again = λ u l x. sym (record_same u 0) ∙ w.again u 0 l (subst (λ (b : Bool). Takes field u (spans b r) 0 l) (sym m) x);
    }
  where
    last : (p : Part Record) → last_number fs p ≡ readable r → p ≡ got r (length fs)
    last (got a k) e = by (eqb k (length fs)) refl e
      where
        by : (b : Bool) → b ≡ eqb k (length fs) → cond b (readable a) (unreadable filling) ≡ readable r
            → got a k ≡ got r (length fs)
        by true q e = λ d. got (let z : a ≡ r = cc in z d) (eqb-true k (length fs) (sym q) d)
        by false q e = absurd (let z : ◌≡◌ {A = ℕ} 0 1 = cc in omega arith)
    last (fault f) e = absurd (let z : ◌≡◌ {A = ℕ} 0 1 = cc in omega arith)

-- what bytes that are a record have
pub record Spelled (s : Bytes) (r : Record) : Type 0 where
  pub end : ℕ
  pub whole : Whole field field s 0 r end
  pub took : Takes field s (spans (is_marked s) r) 0 end
  pub full : filled s end ≡ true
  pub numbers : field_at s 0 4 ≤ last_kind → (fs : List ℕ) → Takes number fs (spans false r) 0 (length fs) → given fs ≡ readable r

pub read_is : (s : Bytes) (r : Record) → read s ≡ readable r → Spelled s r
unfolding read given
read_is s r e = by (reading.record_fields s 0) refl e
  where
    whole : (k : ℕ) → reading.record_fields s 0 ≡ got r k → filled s k ≡ true → Spelled s r
    whole k p f =
        let w = whole_is field field bits_below s 0 r k (record_same s 0 ∙ p) in
        let x = whole_is field number bits_below s 0 r k (record_same s 0 ∙ p) in
        let v = (field_is s 0 4 w.first).value in
        let y = (field_is s 0 4 x.first).value in
        record {
          end = k;
          whole = w;
          took = subst (λ (kind : ℕ). Takes field s (spans (kind_marked kind) r) 0 k) v w.took;
          full = f;
          numbers = λ h fs t.
              let m = kind_plain x.kind (omega (arith, h, y)) in
              let t' = subst (λ (b : Bool). Takes number fs (spans b r) 0 (length fs)) (sym m) t in
              let o = x.kind_again fs 0 (length fs) t' in
              let n = number_is fs 0 4 x.kind o.place o.read in
              ap (last_number fs) (numbers_same fs (omega (arith, h, y, n.value)) ∙ x.again fs 0 (length fs) t')
              ∙ ap (λ (b : Bool). cond b (readable r) (unreadable filling)) (eq-eqb (length fs) (length fs) refl);
        }

    by : (p : Part Record) → reading.record_fields s 0 ≡ p → finish s p ≡ readable r → Spelled s r
    by (got a k) p e = at (filled s k) refl e
      where
        at : (b : Bool) → filled s k ≡ b → cond b (readable a) (unreadable filling) ≡ readable r → Spelled s r
        at true f e = whole k (p ∙ ap (λ (a : Record). got a k) (let z : a ≡ r = cc in z)) f
        at false f e = absurd (let z : ◌≡◌ {A = ℕ} 0 1 = cc in omega arith)
    by (fault f) p e = absurd (let z : ◌≡◌ {A = ℕ} 0 1 = cc in omega arith)
