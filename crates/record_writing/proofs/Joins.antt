-- Fields written into any bytes are one field of all their bits: so a run of fields can be written at once.
-- Assumes nothing.
use Prim.Native.Nat.{ℕ, zero, suc, ◌+◌, ◌-◌, ◌*◌, ◌/◌, ◌%◌, ◌^◌, ◌≤◌, ◌<◌}
use mathlib.Core.Path.{◌≡◌, refl, ap, sym, ◌∙◌}
use mathlib.Core.Bool.{true, ◌&&◌}
use mathlib.Core.List.{List, [], ◌∷◌}
use native.Mathlib.Omega.{arith}
use borrow.Author.Tests.{lt-ltb, le-leb}
use Rattle.std.proofs.lemmas.Nat.{mul-add-lt}
use native.Mathlib.Nat.{zero-add, lt_of_lt_of_le}
use lib.Pow.{high, low, pow-add, pow_mono, pow_pos, shl_lt, shr_mod}
use lib.ListN.{length, get_or}
use Rattle.model.specs.Sizes.{Bytes}
use Rattle.model.specs.Reading.{field_at, bytes_at as contents}
use Rattle.record_bits.proofs.Widths.{field_lt, field_none, split, more}
use Rattle.storage_bytes.specs.Words.{word_bytes, bytes_at, put_bytes}
use Rattle.storage_bytes.specs.Lists.{every}
use Rattle.storage_bytes.proofs.ListLaws.{both}
use Rattle.storage_bytes.proofs.ByteTurns.{part_bytes}
use Rattle.storage_bytes.proofs.WordLaws.{put_before, put_after, put_in, put_join, word_bytes_length, word_set}
use Rattle.record_writing.specs.Spans.{Span, span, content_spans, total, joined, bytes_for, packed}
use Rattle.record_writing.specs.Puts.{put_field, put_spans, fits, reach, word_of}
use Rattle.record_writing.proofs.Puts.{fits_is, part_same, field_length, around, again}
use Rattle.record_writing.proofs.Packed.{whole, next, packed_more, field_more, spans_more, packed_length}
use Rattle.record_writing.proofs.WholeBytes.{bytes_number, bytes_below, number_bytes, bytes_power, parted, joined_lt}

module _ (t : Bytes) (below : (i : ℕ) → get_or t i 0 < 256) (k : ℕ) where
  -- of the first k bits the last ones, in their byte
  kept_number : field_at t (8 * (k / 8)) (k % 8) ≡ get_or t (k / 8) 0 / 2 ^ (8 - k % 8)
  kept_number =
      let o : ℕ = k % 8 in
      let m : ℕ = 8 - o in
      let l : get_or t (k / 8) 0 < 2 ^ (o + m) = lt_of_lt_of_le (below (k / 8)) (pow_mono {i = 8} {j = o + m} (omega arith)) in
      let q : (8 * (k / 8) + 0) / 8 ≡ k / 8 = omega arith in
      let r : (8 * (k / 8) + 0) % 8 ≡ 0 = omega arith in
      let z : 8 - 0 - o ≡ m = omega arith in
      let e = rw (zero-add o, q, r, z, shr_mod o m l) at (more t (8 * (k / 8)) 0 o (omega arith)) in
      e ∙ rw (← field_none t (8 * (k / 8)) 0 refl) (omega arith)

  -- the first k bits are whole bytes, and these
  parts : (field_at t 0 k / 2 ^ (k % 8) ≡ field_at t 0 (8 * (k / 8))) × (field_at t 0 k % 2 ^ (k % 8) ≡ get_or t (k / 8) 0 / 2 ^ (8 - k % 8))
  parts =
      let o : ℕ = k % 8 in
      let f : ℕ = 8 * (k / 8) in
      let p : f + o ≡ k = omega arith in
      let s : field_at t 0 k ≡ field_at t 0 f * 2 ^ o + field_at t f o
      = ap (field_at t 0) (sym p) ∙ split t 0 f o ∙ ap (λ (i : ℕ). field_at t 0 f * 2 ^ o + field_at t i o) (zero-add f) in (
        ap (λ (x : ℕ). x / 2 ^ o) s ∙ high (field_at t 0 f) o (field_lt t f o),
        ap (λ (x : ℕ). x % 2 ^ o) s ∙ low (field_at t 0 f) o (field_lt t f o) ∙ kept_number,
      )

  -- a field behind them
  pub field_from : (w v : ℕ) → 0 < w → v < 2 ^ w → k + w ≤ 8 * length t
      → put_field t k w v ≡ put_bytes t 0 (packed (k + w) (field_at t 0 k * 2 ^ w + v))
  unfolding put_field whole next
  field_from w v some l room =
      let n : ℕ = field_at t 0 k in
      let front : Bytes = whole t below k n w v some l room in
      let back : Bytes = next t below k n w v some l room in
      let f : front ≡ bytes_at t 0 (k / 8)
      = ap (word_bytes (k / 8)) (parts.0 ∙ bytes_number t (k / 8) below) ∙ number_bytes t (k / 8) below in
      let same : put_bytes t 0 front ≡ t
      = ap (put_bytes t 0) (f ∙ sym (part_bytes t 0 (k / 8) (omega arith))) ∙ part_same t 0 (k / 8) (omega arith) in
      let e : k / 8 ≡ 0 + length front = omega (arith, word_bytes_length (k / 8) (n / 2 ^ (k % 8))) in
      ap (λ (b : ℕ). put_bytes t (k / 8) (word_bytes (reach k w) ((b * 2 ^ w + v) * 2 ^ (8 * reach k w - (k % 8 + w))))) (sym parts.1)
      ∙ (λ i. put_bytes (sym same i) (e i) back)
      ∙ put_join t 0 front back
      ∙ ap (put_bytes t 0) (sym (packed_more t below k n w v some l room))

-- ---- a run of fields

pub joined_from : (n : ℕ) (xs : List Span) → joined n xs ≡ n * 2 ^ total xs + joined 0 xs
unfolding joined total
joined_from n [] = omega arith
joined_from n (x ∷ xs) =
    let a = joined_from (n * 2 ^ x.width + x.value) xs in
    let b = joined_from (0 * 2 ^ x.width + x.value) xs in
    omega (arith, a, b, ap (λ (k : ℕ). n * k) (pow-add 2 x.width (total xs)))

pub joined_below : (xs : List Span) → every fits xs ≡ true → joined 0 xs < 2 ^ total xs
joined_below xs e = let z : 0 + total xs ≡ total xs = zero-add (total xs) in rw z at (joined_lt 0 0 xs (omega arith) e)

pub spans_field : (t : Bytes) → ((i : ℕ) → get_or t i 0 < 256) → (k : ℕ) (xs : List Span) → every fits xs ≡ true → 0 < total xs
    → k + total xs ≤ 8 * length t
    → put_spans t k xs ≡ put_field t k (total xs) (joined 0 xs)
unfolding put_spans total joined every
spans_field t below k [] e some room = absurd (omega arith)
spans_field t below k (x ∷ xs) e some room =
    let n : ℕ = field_at t 0 k in
    let q = both (fits x) (every fits xs) e in
    let f = fits_is x q.0 in
    let z : k + x.width + total xs ≡ k + (x.width + total xs) = omega arith in
    ap (λ (u : Bytes). put_spans u (k + x.width) xs) (field_from t below k x.width x.value f.0 f.2 (omega arith))
    ∙ spans_more t below (k + x.width) (n * 2 ^ x.width + x.value) xs q.1 (omega arith)
    ∙ (λ i. put_bytes t 0 (packed (z i) (joined_from n (x ∷ xs) i)))
    ∙ sym (field_from t below k (total (x ∷ xs)) (joined 0 (x ∷ xs)) some (joined_below (x ∷ xs) e) room)

-- two fields that follow one another
pub field_join : (t : Bytes) → ((i : ℕ) → get_or t i 0 < 256) → (k a x b y : ℕ) → 0 < a → x < 2 ^ a → 0 < b → y < 2 ^ b
    → k + (a + b) ≤ 8 * length t
    → put_field (put_field t k a x) (k + a) b y ≡ put_field t k (a + b) (x * 2 ^ b + y)
field_join t below k a x b y some l some' l' room =
    let n : ℕ = field_at t 0 k in
    let z : k + a + b ≡ k + (a + b) = omega arith in
    let q : (n * 2 ^ a + x) * 2 ^ b + y ≡ n * 2 ^ (a + b) + (x * 2 ^ b + y) = omega (arith, ap (λ (i : ℕ). n * i) (pow-add 2 a b)) in
    let h : x * 2 ^ b + y < 2 ^ (a + b) = rw (pow-add 2 a b) (omega (arith, mul-add-lt x (2 ^ b) y (2 ^ a) l l')) in
    ap (λ (u : Bytes). put_field u (k + a) b y) (field_from t below k a x some l (omega arith))
    ∙ field_more t below (k + a) (n * 2 ^ a + x) b y some' l' (omega arith)
    ∙ (λ i. put_bytes t 0 (packed (z i) (q i)))
    ∙ sym (field_from t below k (a + b) (x * 2 ^ b + y) (omega arith) h room)

-- bits of s that follow one another are moved at once
pub field_moved : (t : Bytes) → ((i : ℕ) → get_or t i 0 < 256) → (s : Bytes) (k j a b : ℕ) → 0 < a → 0 < b
    → k + (a + b) ≤ 8 * length t
    → put_field (put_field t k a (field_at s j a)) (k + a) b (field_at s (j + a) b) ≡ put_field t k (a + b) (field_at s j (a + b))
field_moved t below s k j a b some some' room =
    field_join t below k a (field_at s j a) b (field_at s (j + a) b) some (field_lt s j a) some' (field_lt s (j + a) b) room
    ∙ ap (put_field t k (a + b)) (sym (split s j a b))

-- what a field leaves are bytes
pub field_bytes : (t : Bytes) → ((i : ℕ) → get_or t i 0 < 256) → (k w v : ℕ) → k + w ≤ 8 * length t
    → (i : ℕ) → get_or (put_field t k w v) i 0 < 256
unfolding put_field
field_bytes t below k w v room i =
    let vs : Bytes = word_bytes (reach k w) (word_of t k w v) in
    let l : length vs ≡ reach k w = word_bytes_length (reach k w) (word_of t k w v) in
    around i (k / 8) (length vs)
    (λ b. rw (put_before t (k / 8) vs i b) (below i))
    (λ b. rw (put_after t (k / 8) vs i b) (below i))
    (λ j b e. rw (e, put_in t (k / 8) vs j (omega (arith, l)) b) (bytes_below (reach k w) (word_of t k w v) j))

-- the first bits of what was written
written_bits : (t : Bytes) (k n : ℕ) → ((i : ℕ) → get_or (put_bytes t 0 (packed k n)) i 0 < 256) → n < 2 ^ k → k ≤ 8 * length t
    → field_at (put_bytes t 0 (packed k n)) 0 k ≡ n
unfolding packed
written_bits t k n below h room =
    let m : ℕ = bytes_for k in
    let d : ℕ = 8 * m - k in
    let u : Bytes = put_bytes t 0 (packed k n) in
    let z : k + d ≡ 8 * m = omega arith in
    let l : n * 2 ^ d < 256 ^ m = rw (bytes_power m) (rw z at (shl_lt k d h)) in
    let w : field_at u 0 (8 * m) ≡ n * 2 ^ d = bytes_number u m below ∙ word_set t 0 m (n * 2 ^ d) l (omega arith) in
    let o : n * 2 ^ d ≡ n * 2 ^ d + 0 = omega arith in
    (parted d (sym (split u 0 k d) ∙ ap (field_at u 0) z ∙ w ∙ o) (field_lt u (0 + k) d) (pow_pos d)).0

-- bits that are written again, with more behind them
pub field_over : (t : Bytes) → ((i : ℕ) → get_or t i 0 < 256) → (s : Bytes) (k j a b c : ℕ)
    → 0 < a → 0 < c → b ≤ a → a ≤ b + c → k + (b + c) ≤ 8 * length t
    → put_field (put_field t k a (field_at s j a)) (k + b) c (field_at s (j + b) c) ≡ put_field t k (b + c) (field_at s j (b + c))
field_over t below s k j a b c some some' l m room =
    let n : ℕ = field_at t 0 k in
    let u : Bytes = put_field t k a (field_at s j a) in
    let v : ℕ = n * 2 ^ a + field_at s j a in
    let below' : (i : ℕ) → get_or u i 0 < 256 = field_bytes t below k a (field_at s j a) (omega arith) in
    let e : u ≡ put_bytes t 0 (packed (k + a) v) = field_from t below k a (field_at s j a) some (field_lt s j a) (omega arith) in
    let size : length u ≡ length t = field_length t k a (field_at s j a) in
    let small : v < 2 ^ (k + a) = rw (pow-add 2 k a) (omega (arith, mul-add-lt n (2 ^ a) (field_at s j a) (2 ^ k) (field_lt t 0 k) (field_lt s j a))) in
    let whole : field_at u 0 (k + a) ≡ v
    = ap (λ (x : Bytes). field_at x 0 (k + a)) e ∙ written_bits t (k + a) v (λ i. rw e at (below' i)) small (omega arith) in
    let d : ℕ = a - b in
    let z : k + b + d ≡ k + a = omega arith in
    let y : b + d ≡ a = omega arith in
    let p : field_at s j a ≡ field_at s j b * 2 ^ d + field_at s (j + b) d = ap (field_at s j) (sym y) ∙ split s j b d in
    let q : n * 2 ^ a ≡ n * 2 ^ b * 2 ^ d = omega (arith, ap (λ (i : ℕ). n * i) (ap (λ (i : ℕ). 2 ^ i) (sym y) ∙ pow-add 2 b d)) in
    let r : v ≡ (n * 2 ^ b + field_at s j b) * 2 ^ d + field_at s (j + b) d = omega (arith, p, q) in
    let first : field_at u 0 (k + b) ≡ n * 2 ^ b + field_at s j b
    = (parted d (sym (split u 0 (k + b) d) ∙ ap (field_at u 0) z ∙ whole ∙ r) (field_lt u (0 + (k + b)) d) (field_lt s (j + b) d)).0 in
    let x : (n * 2 ^ b + field_at s j b) * 2 ^ c + field_at s (j + b) c ≡ n * 2 ^ (b + c) + field_at s j (b + c)
    = omega (arith, split s j b c, ap (λ (i : ℕ). n * i) (pow-add 2 b c)) in
    let o : k + b + c ≡ k + (b + c) = omega arith in
    let ys : Bytes = packed (k + (b + c)) (n * 2 ^ (b + c) + field_at s j (b + c)) in
    field_from u below' (k + b) c (field_at s (j + b) c) some' (field_lt s (j + b) c) (omega (arith, size))
    ∙ (λ i. put_bytes u 0 (packed (o i) ((ap (λ (i : ℕ). i * 2 ^ c + field_at s (j + b) c) first ∙ x) i)))
    ∙ ap (λ (x : Bytes). put_bytes x 0 ys) e
    ∙ again t 0 0 (packed (k + a) v) ys (omega (arith, packed_length (k + a) v, packed_length (k + (b + c)) (n * 2 ^ (b + c) + field_at s j (b + c)))) (omega (arith, packed_length (k + (b + c)) (n * 2 ^ (b + c) + field_at s j (b + c)), room))
    ∙ sym (field_from t below k (b + c) (field_at s j (b + c)) (omega arith) (field_lt s j (b + c)) room)

-- content bytes are the bits that they stand in
pub contents_joined : (a : ℕ) (s : Bytes) (k n : ℕ) → joined a (content_spans (contents s k n)) ≡ a * 2 ^ (8 * n) + field_at s k (8 * n)
unfolding joined contents
contents_joined a s k zero = omega (arith, field_none s k (8 * 0) refl)
contents_joined a s k (suc n) =
    let e : 8 * suc n ≡ 8 + 8 * n = omega arith in
    rw e (contents_joined (a * 2 ^ 8 + field_at s k 8) s (k + 8) n ∙ omega (arith, split s k 8 (8 * n), ap (λ (i : ℕ). a * i) (pow-add 2 8 (8 * n))))

pub contents_total : (bs : List ℕ) → total (content_spans bs) ≡ 8 * length bs
unfolding total
contents_total [] = refl
contents_total (b ∷ bs) = omega (arith, contents_total bs)

-- ---- fields that were read fit

pub field_fits : (s : Bytes) (k w : ℕ) → 0 < w → w ≤ 32 → fits (span w (field_at s k w)) ≡ true
field_fits s k w h l = λ i. lt-ltb 0 w h i && le-leb w 32 l i && lt-ltb (field_at s k w) (2 ^ w) (field_lt s k w) i

pub contents_fit : (s : Bytes) (k n : ℕ) → every fits (content_spans (contents s k n)) ≡ true
unfolding every contents
contents_fit s k zero = refl
contents_fit s k (suc n) = λ i. field_fits s k 8 (omega arith) (omega arith) i && contents_fit s (k + 8) n i
