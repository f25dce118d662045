-- Fields written one after the other are the bytes of one number: the fields joined, behind it zeros in the last byte.
-- Assumes nothing.
use Prim.Native.Nat.{ℕ, zero, suc, ◌+◌, ◌-◌, ◌*◌, ◌/◌, ◌%◌, ◌^◌, ◌≤◌, ◌<◌}
use mathlib.Core.Path.{◌≡◌, ap, sym, ◌∙◌}
use mathlib.Core.Bool.{true}
use mathlib.Core.List.{List, [], ◌∷◌, ◌++◌, append_assoc}
use native.Mathlib.Omega.{arith}
use native.Mathlib.Nat.{mod-lt, div-add-mod'}
use lib.Pow.{high, shl_lt, pow-add, pow_pos}
use lib.Seq.{get_or_at}
use lib.ListN.{length, get_or, length-append}
use Rattle.std.proofs.lemmas.Nat.{mul-add-lt}
use Rattle.std.proofs.lemmas.List.{append-nil}
use Rattle.model.specs.Sizes.{Bytes}
use Rattle.storage_bytes.specs.Words.{word_bytes, put_bytes}
use Rattle.storage_bytes.specs.Lists.{every}
use Rattle.storage_bytes.proofs.ListLaws.{both}
use Rattle.storage_bytes.proofs.WordLaws.{put_length, put_after, put_in, put_join, word_bytes_length}
use Rattle.record_writing.specs.Spans.{Span, total, joined, bytes_for, packed, pack}
use Rattle.record_writing.specs.Puts.{put_field, put_spans, fits, reach}
use Rattle.record_writing.proofs.Puts.{again, fits_is}

-- ---- a number above another, in bytes

pub word_split : (f n a v : ℕ) → v < 2 ^ (8 * n) → word_bytes (f + n) (a * 2 ^ (8 * n) + v) ≡ word_bytes f a ++ word_bytes n v
unfolding word_bytes
word_split f zero a v h =
    let z : v < 1 = h in
    let q : a * 1 + v ≡ a = omega arith in
    let e : f + 0 ≡ f = omega arith in
    (λ i. word_bytes (e i) (q i)) ∙ sym (append-nil (word_bytes f a))
word_split f (suc n) a v h =
    let e : f + suc n ≡ suc (f + n) = omega arith in
    let p : 2 ^ (8 * suc n) ≡ 2 ^ (8 * n) * 256 = ap (λ (k : ℕ). 2 ^ k) (let z : 8 * suc n ≡ 8 * n + 8 = omega arith in z)
    ∙ pow-add 2 (8 * n) 8 in
    let q : a * 2 ^ (8 * suc n) ≡ a * 2 ^ (8 * n) * 256 = omega (arith, ap (λ (k : ℕ). a * k) p) in
    let d : (a * 2 ^ (8 * suc n) + v) / 256 ≡ a * 2 ^ (8 * n) + v / 256 = omega (arith, q) in
    let m : (a * 2 ^ (8 * suc n) + v) % 256 ≡ v % 256 = omega (arith, q) in
    rw (e, d, m)
    (ap (λ (l : Bytes). l ++ (v % 256 ∷ [])) (word_split f n a (v / 256) (omega (arith, p, h)))
    ∙ append_assoc (word_bytes f a) (word_bytes n (v / 256)) (v % 256 ∷ []))

-- a number r of j bits below the number a, and zeros behind it up to n bytes
pub word_above : (f n j a r : ℕ) → r < 2 ^ j → j ≤ 8 * n
    → word_bytes (f + n) ((a * 2 ^ j + r) * 2 ^ (8 * n - j)) ≡ word_bytes f a ++ word_bytes n (r * 2 ^ (8 * n - j))
word_above f n j a r h l =
    let d : ℕ = 8 * n - j in
    let b : j + d ≡ 8 * n = omega arith in
    let p : 2 ^ (8 * n) ≡ 2 ^ j * 2 ^ d = ap (λ (k : ℕ). 2 ^ k) (sym b) ∙ pow-add 2 j d in
    let q : (a * 2 ^ j + r) * 2 ^ d ≡ a * 2 ^ (8 * n) + r * 2 ^ d = omega (arith, ap (λ (k : ℕ). a * k) p) in
    ap (word_bytes (f + n)) q ∙ word_split f n a (r * 2 ^ d) (rw b at (shl_lt j d h))

-- the first bits of a byte after whole ones
kept_first : (t : Bytes) → ((i : ℕ) → get_or t i 0 < 256) → (f o r : ℕ) (xs : Bytes) → length xs ≡ f → r < 2 ^ o → o < 8
    → f < length t
    → get_or (put_bytes t 0 (xs ++ word_bytes ((o + 7) / 8) (r * 2 ^ (8 * ((o + 7) / 8) - o)))) f 0 / 2 ^ (8 - o) ≡ r
unfolding word_bytes
kept_first t below f zero r xs e h s room =
    let b = below f in
    let z : r < 1 = h in
    let g : get_or (put_bytes t 0 (xs ++ [])) f 0 ≡ get_or t f 0 = put_after t 0 (xs ++ []) f (omega (arith, length-append xs [], e)) in
    rw g (omega arith)
kept_first t below f (suc o) r xs e h s room =
    let m : (suc o + 7) / 8 ≡ 1 = omega arith in
    let x : ℕ = r * 2 ^ (8 - suc o) in
    let b : suc o + (8 - suc o) ≡ 8 = omega arith in
    let small : x < 256 = rw b at (shl_lt (suc o) (8 - suc o) h) in
    let vs : Bytes = xs ++ (x % 256 ∷ []) in
    let l : length vs ≡ f + 1 = omega (arith, length-append xs (x % 256 ∷ []), e) in
    let g : get_or (put_bytes t 0 vs) f 0 ≡ x
    = ap (λ (i : ℕ). get_or (put_bytes t 0 vs) i 0) (let z : f ≡ 0 + f = omega arith in z)
    ∙ put_in t 0 vs f (omega (arith, l)) (omega (arith, l))
    ∙ get_or_at xs (x % 256) [] 0 f e
    ∙ (let z : x % 256 ≡ x = omega (arith, small) in z) in
    let d : x / 2 ^ (8 - suc o) ≡ r
    = ap (λ (y : ℕ). y / 2 ^ (8 - suc o)) (let z : x ≡ x + 0 = omega arith in z) ∙ high r (8 - suc o) (pow_pos (8 - suc o)) in
    rw (m, g) d

-- ---- one field more

module _ (t : Bytes) (below : (i : ℕ) → get_or t i 0 < 256) (k n w v : ℕ) (some : 0 < w) (l : v < 2 ^ w) (room : k + w ≤ 8 * length t) where
  unfoldable pub whole : Bytes
  whole = word_bytes (k / 8) (n / 2 ^ (k % 8))

  rest : Bytes
  rest = word_bytes ((k % 8 + 7) / 8) (n % 2 ^ (k % 8) * 2 ^ (8 * ((k % 8 + 7) / 8) - k % 8))

  unfoldable pub next : Bytes
  next = word_bytes (reach k w) ((n % 2 ^ (k % 8) * 2 ^ w + v) * 2 ^ (8 * reach k w - (k % 8 + w)))

  -- the whole bytes, and the bits behind them
  packed_is : packed k n ≡ whole ++ rest
  unfolding packed whole rest
  packed_is =
      let o : ℕ = k % 8 in
      let a : (k + 7) / 8 ≡ k / 8 + (o + 7) / 8 = omega arith in
      let b : 8 * ((k + 7) / 8) - k ≡ 8 * ((o + 7) / 8) - o = omega arith in
      (λ i. word_bytes (a i) (sym (div-add-mod' n (2 ^ o)) i * 2 ^ b i))
      ∙ word_above (k / 8) ((o + 7) / 8) o (n / 2 ^ o) (n % 2 ^ o) (mod-lt n (pow_pos o)) (omega arith)

  pub packed_more : packed (k + w) (n * 2 ^ w + v) ≡ whole ++ next
  unfolding packed whole next
  packed_more =
      let o : ℕ = k % 8 in
      let a : (k + w + 7) / 8 ≡ k / 8 + reach k w = omega arith in
      let b : 8 * ((k + w + 7) / 8) - (k + w) ≡ 8 * reach k w - (o + w) = omega arith in
      let r : ℕ = n % 2 ^ o in
      let h : r * 2 ^ w + v < 2 ^ (o + w) = rw (pow-add 2 o w) (omega (arith, mul-add-lt r (2 ^ w) v (2 ^ o) (mod-lt n (pow_pos o)) l)) in
      let q : n * 2 ^ w + v ≡ n / 2 ^ o * 2 ^ (o + w) + (r * 2 ^ w + v)
      = omega (arith, ap (λ (x : ℕ). x * 2 ^ w) (div-add-mod' n (2 ^ o)), ap (λ (x : ℕ). n / 2 ^ o * x) (pow-add 2 o w)) in
      (λ i. word_bytes (a i) (q i * 2 ^ b i))
      ∙ word_above (k / 8) (reach k w) (o + w) (n / 2 ^ o) (r * 2 ^ w + v) h (omega arith)

  kept_bits : get_or (put_bytes t 0 (packed k n)) (k / 8) 0 / 2 ^ (8 - k % 8) ≡ n % 2 ^ (k % 8)
  unfolding whole rest
  kept_bits =
      rw packed_is
      (kept_first t below (k / 8) (k % 8) (n % 2 ^ (k % 8)) whole (word_bytes_length (k / 8) (n / 2 ^ (k % 8))) (mod-lt n (pow_pos (k % 8))) (omega arith) (omega arith))

  pub field_more : put_field (put_bytes t 0 (packed k n)) k w v ≡ put_bytes t 0 (packed (k + w) (n * 2 ^ w + v))
  unfolding put_field whole rest next
  field_more =
      let x : length whole ≡ k / 8 = word_bytes_length (k / 8) (n / 2 ^ (k % 8)) in
      let y : length next ≡ reach k w = word_bytes_length (reach k w) ((n % 2 ^ (k % 8) * 2 ^ w + v) * 2 ^ (8 * reach k w - (k % 8 + w))) in
      let z : length rest ≡ (k % 8 + 7) / 8 = word_bytes_length ((k % 8 + 7) / 8) (n % 2 ^ (k % 8) * 2 ^ (8 * ((k % 8 + 7) / 8) - k % 8)) in
      let e : 0 + length whole ≡ k / 8 = omega (arith, x) in
      let g : k / 8 ≡ k / 8 + 0 = omega arith in
      let u : Bytes = put_bytes t 0 whole in
      ap (λ (b : ℕ). put_bytes (put_bytes t 0 (packed k n)) (k / 8) (word_bytes (reach k w) ((b * 2 ^ w + v) * 2 ^ (8 * reach k w - (k % 8 + w))))) kept_bits
      ∙ ap (λ (p : Bytes). put_bytes (put_bytes t 0 p) (k / 8) next) packed_is
      ∙ ap (λ (p : Bytes). put_bytes p (k / 8) next) (sym (put_join t 0 whole rest) ∙ ap (λ (i : ℕ). put_bytes u i rest) (e ∙ g))
      ∙ again u (k / 8) 0 rest next (omega (arith, y, z)) (omega (arith, y, put_length t 0 whole))
      ∙ ap (λ (i : ℕ). put_bytes u i next) (sym e)
      ∙ put_join t 0 whole next
      ∙ ap (put_bytes t 0) (sym packed_more)

-- ---- all fields

pub spans_more : (t : Bytes) → ((i : ℕ) → get_or t i 0 < 256) → (k n : ℕ) (xs : List Span) → every fits xs ≡ true
    → k + total xs ≤ 8 * length t
    → put_spans (put_bytes t 0 (packed k n)) k xs ≡ put_bytes t 0 (packed (k + total xs) (joined n xs))
unfolding put_spans every total joined
spans_more t below k n [] g h = ap (λ (j : ℕ). put_bytes t 0 (packed j n)) (let e : k ≡ k + 0 = omega arith in e)
spans_more t below k n (x ∷ xs) g h =
    let q = both (fits x) (every fits xs) g in
    let f = fits_is x q.0 in
    ap (λ (u : Bytes). put_spans u (k + x.width) xs) (field_more t below k n x.width x.value f.0 f.2 (omega arith))
    ∙ spans_more t below (k + x.width) (n * 2 ^ x.width + x.value) xs q.1 (omega arith)
    ∙ ap (λ (j : ℕ). put_bytes t 0 (packed j (joined (n * 2 ^ x.width + x.value) xs))) (let e : k + x.width + total xs ≡ k + (x.width + total xs) = omega arith in e)

-- fields written from the start are their bytes
pub spans_put : (t : Bytes) → ((i : ℕ) → get_or t i 0 < 256) → (xs : List Span) → every fits xs ≡ true
    → total xs ≤ 8 * length t
    → put_spans t 0 xs ≡ put_bytes t 0 (pack xs)
unfolding pack packed put_bytes word_bytes
spans_put t below xs g h =
    spans_more t below 0 0 xs g (omega arith)
    ∙ ap (λ (j : ℕ). put_bytes t 0 (packed j (joined 0 xs))) (let e : 0 + total xs ≡ total xs = omega arith in e)

pub packed_length : (k n : ℕ) → length (packed k n) ≡ bytes_for k
unfolding packed
packed_length k n = word_bytes_length (bytes_for k) (n * 2 ^ (8 * bytes_for k - k))

pub pack_length : (xs : List Span) → length (pack xs) ≡ bytes_for (total xs)
unfolding pack
pack_length xs = packed_length (total xs) (joined 0 xs)
