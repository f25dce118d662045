-- Bytes as one number, and a number as its bytes; and the number of fields joined is one of their bits.
-- Assumes nothing.
use Prim.Native.Nat.{ℕ, zero, suc, ◌+◌, ◌*◌, ◌/◌, ◌%◌, ◌^◌, ◌<◌}
use mathlib.Core.Path.{◌≡◌, refl, ap, sym, ◌∙◌}
use mathlib.Core.Bool.{true}
use mathlib.Core.List.{List, [], ◌∷◌, ◌++◌}
use native.Mathlib.Omega.{arith}
use native.Mathlib.Nat.{zero-add, pow-suc}
use native.Mathlib.Numerals.{add-one}
use lib.Pow.{high, low, pow-add}
use lib.ListN.{length, get_or}
use lib.Seq.{ext_get_or}
use Rattle.std.proofs.lemmas.Nat.{mul-add-lt}
use Rattle.model.specs.Sizes.{Bytes}
use Rattle.model.specs.Reading.{field_at}
use Rattle.record_bits.proofs.Widths.{more, field_none}
use Rattle.storage_bytes.specs.Words.{word_at, word_bytes, bytes_at}
use Rattle.storage_bytes.specs.Lists.{tabulate, every}
use Rattle.storage_bytes.proofs.ListLaws.{both, tabulate_snoc, tabulate_length, tabulate_at}
use Rattle.record_writing.specs.Spans.{Span, total, joined}
use Rattle.record_writing.specs.Puts.{fits}
use Rattle.record_writing.specs.Laws.{AreBytes}
use Rattle.record_writing.proofs.Puts.{fits_is}

-- ---- whole bytes

-- the byte n of s, as the last eight bits of n + 1 bytes
last_byte : (s : Bytes) (n : ℕ) → get_or s n 0 < 256 → field_at s 0 (8 * suc n) ≡ field_at s 0 (8 * n) * 256 + get_or s n 0
last_byte s n h =
    let q : (0 + 8 * n) / 8 ≡ n = omega arith in
    let r : (0 + 8 * n) % 8 ≡ 0 = omega arith in
    let e : 8 * suc n ≡ 8 * n + 8 = omega arith in
    let m = rw (q, r) at (more s 0 (8 * n) 8 (omega arith)) in
    rw e (omega (arith, m))

pub bytes_number : (s : Bytes) (n : ℕ) → AreBytes s → field_at s 0 (8 * n) ≡ word_at s 0 n
unfolding word_at
bytes_number s zero h = sym (field_none s 0 (8 * 0) refl)
bytes_number s (suc n) h =
    last_byte s n (h n)
    ∙ (λ i. bytes_number s n h i * 256 + get_or s (let e : n ≡ 0 + n = omega arith in e i) 0)

below_snoc : (xs : Bytes) (b : ℕ) → AreBytes xs → b < 256 → AreBytes (xs ++ (b ∷ []))
below_snoc [] b h l zero = l
below_snoc [] b h l (suc i) = omega arith
below_snoc (x ∷ xs) b h l zero = h 0
below_snoc (x ∷ xs) b h l (suc i) = below_snoc xs b (λ i. h (suc i)) l i

pub bytes_below : (n v : ℕ) → AreBytes (word_bytes n v)
unfolding word_bytes
bytes_below zero v = λ i. omega arith
bytes_below (suc n) v = below_snoc (word_bytes n (v / 256)) (v % 256) (bytes_below n (v / 256)) (omega arith)

-- bytes are those of their number
pub number_bytes : (s : Bytes) (n : ℕ) → AreBytes s → word_bytes n (word_at s 0 n) ≡ bytes_at s 0 n
unfolding word_bytes word_at bytes_at tabulate
number_bytes s zero h = refl
number_bytes s (suc n) h =
    let b = h (0 + n) in
    let d : (word_at s 0 n * 256 + get_or s (0 + n) 0) / 256 ≡ word_at s 0 n = omega (arith, b) in
    let m : (word_at s 0 n * 256 + get_or s (0 + n) 0) % 256 ≡ get_or s (0 + n) 0 = omega (arith, b) in
    rw (d, m)
    (ap (λ (l : Bytes). l ++ (get_or s (0 + n) 0 ∷ [])) (number_bytes s n h)
    ∙ sym (tabulate_snoc (λ i. get_or s i 0) 0 n)
    ∙ ap (tabulate (λ i. get_or s i 0) 0) (add-one n))

pub all_bytes : (s : Bytes) → bytes_at s 0 (length s) ≡ s
unfolding bytes_at
all_bytes s =
    ext_get_or 0 _ _ (tabulate_length _ 0 (length s))
    (λ i l. tabulate_at (λ k. get_or s k 0) 0 (length s) i 0 (omega (arith, l, tabulate_length (λ k. get_or s k 0) 0 (length s)))
    ∙ ap (λ (k : ℕ). get_or s k 0) (zero-add i))

pub bytes_power : (n : ℕ) → 256 ^ n ≡ 2 ^ (8 * n)
bytes_power zero = refl
bytes_power (suc n) =
    pow-suc 256 n
    ∙ ap (λ (k : ℕ). k * 256) (bytes_power n)
    ∙ sym (ap (λ (k : ℕ). 2 ^ k) (let z : 8 * suc n ≡ 8 * n + 8 = omega arith in z) ∙ pow-add 2 (8 * n) 8)

-- ---- joined fields

-- one number of j bits behind another: both are known from the whole
pub parted : (j : ℕ) {a b c d : ℕ} → a * 2 ^ j + b ≡ c * 2 ^ j + d → b < 2 ^ j → d < 2 ^ j → (a ≡ c) × (b ≡ d)
parted j {a = a} {b = b} {c = c} {d = d} e h l =
    (sym (high a j h) ∙ ap (λ (x : ℕ). x / 2 ^ j) e ∙ high c j l, sym (low a j h) ∙ ap (λ (x : ℕ). x % 2 ^ j) e ∙ low c j l)

pub joined_lt : (n k : ℕ) (xs : List Span) → n < 2 ^ k → every fits xs ≡ true → joined n xs < 2 ^ (k + total xs)
unfolding joined total every
joined_lt n k [] h e = let z : k ≡ k + 0 = omega arith in rw z at h
joined_lt n k (x ∷ xs) h e =
    let q = both (fits x) (every fits xs) e in
    let f = (fits_is x q.0).2 in
    let l : n * 2 ^ x.width + x.value < 2 ^ (k + x.width) = rw (pow-add 2 k x.width) (omega (arith, mul-add-lt n (2 ^ x.width) x.value (2 ^ k) h f)) in
    let z : k + x.width + total xs ≡ k + (x.width + total xs) = omega arith in
    rw z at (joined_lt (n * 2 ^ x.width + x.value) (k + x.width) xs l q.1)
