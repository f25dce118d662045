-- Laws of bits, over the width and the position: a number of w bits is below 2 ^ w, and bits of one byte are taken at once.
-- Assumes nothing.
use Prim.Native.Nat.{ℕ, zero, suc, ◌+◌, ◌-◌, ◌*◌, ◌/◌, ◌%◌, ◌^◌, ◌≤◌, ◌<◌}
use mathlib.Core.Path.{◌≡◌, refl, ap, sym, ◌∙◌}
use mathlib.Core.List.{List, [], ◌∷◌, ◌++◌, append_assoc}
use native.Mathlib.Omega.{arith}
use native.Mathlib.Nat.{add-zero, zero-add, div-one, div-eq_of_lt, mul-add-div_right, pow-suc, add-suc, mod-one, one-mul, lt_of_lt_of_le}
use native.Mathlib.Numerals.{add-one}
use lib.Pow.{high, low, pow-add, shr_lt, shr_mod, pow_pos, pow_mono, shl_exact, shr-shr, mod-pow-add}
use lib.ListN.{length, get_or, set, replicate}
use lib.Seq.{set_at}
use Rattle.model.specs.Sizes.{Bytes}
use Rattle.model.specs.Reading.{bit_at, field_at, bytes_at}

-- a number of w bits
pub field_lt : (s : Bytes) (k w : ℕ) → field_at s k w < 2 ^ w
unfolding field_at bit_at
field_lt s k zero = omega arith
field_lt s k (suc w) = let h = field_lt s k w in omega arith

pub field_lt_64 : (s : Bytes) (k w : ℕ) → w ≤ 64 → field_at s k w < 2 ^ 64
field_lt_64 s k w h = lt_of_lt_of_le (field_lt s k w) (pow_mono h)

pub field_none : (s : Bytes) (k w : ℕ) → w ≡ 0 → 0 ≡ field_at s k w
unfolding field_at
field_none s k w e = rw e

one_shl : (n : ℕ) → n < 64 → (1 * 2 ^ n) % 2 ^ 64 ≡ 2 ^ n
one_shl n h = shl_exact 1 n 64 (omega arith) (omega arith) ∙ one-mul (2 ^ n)

pub one_shl_pos : (n : ℕ) → n < 64 → 0 < (1 * 2 ^ n) % 2 ^ 64
one_shl_pos n h = rw (one_shl n h) (pow_pos n)

-- n bits of the byte b, from its bit o on
abbrev pub chunk : ℕ → ℕ → ℕ → ℕ
chunk b o n = b / 2 ^ (8 - o - n) % 2 ^ n

chunk_more : (b o n : ℕ) → o + n < 8 → chunk b o (suc n) ≡ chunk b o n * 2 + b / 2 ^ (7 - (o + n)) % 2
chunk_more b o n h =
    let m : ℕ = 7 - (o + n) in
    let e : 8 - o - suc n ≡ m = omega arith in
    let f : 8 - o - n ≡ m + 1 = omega arith in
    rw (e, f, ← add-one n, mod-pow-add (b / 2 ^ m) n 1, shr-shr b m 1)

one_more : (s : Bytes) (k j : ℕ)
    → field_at s k (suc j) ≡ field_at s k j * 2 + get_or s ((k + j) / 8) 0 / 2 ^ (7 - (k + j) % 8) % 2
unfolding field_at bit_at
one_more s k j = refl

-- i bits, and n more out of one byte
pub more : (s : Bytes) (k i n : ℕ) → (k + i) % 8 + n ≤ 8
    → field_at s k (i + n) ≡ field_at s k i * 2 ^ n + chunk (get_or s ((k + i) / 8) 0) ((k + i) % 8) n
more s k i zero h = rw (add-zero i) (omega (arith, mod-one (get_or s ((k + i) / 8) 0 / 2 ^ (8 - (k + i) % 8 - 0))))
more s k i (suc n) h =
    let q : (k + (i + n)) / 8 ≡ (k + i) / 8 = omega arith in
    let r : (k + (i + n)) % 8 ≡ (k + i) % 8 + n = omega arith in
    let ih = more s k i n (omega arith) in
    let b : ℕ = get_or s ((k + i) / 8) 0 in
    let o : ℕ = (k + i) % 8 in
    rw (add-suc i n, one_more s k (i + n), q, r, chunk_more b o n (omega arith), ih, pow-suc 2 n) (omega arith)

-- a field of two parts
pub split : (s : Bytes) (k a b : ℕ) → field_at s k (a + b) ≡ field_at s k a * 2 ^ b + field_at s (k + a) b
split s k a zero = rw (add-zero a, ← field_none s (k + a) 0 refl) (omega arith)
split s k a (suc b) =
    let e : k + (a + b) ≡ k + a + b = omega arith in
    rw (add-suc a b, one_more s k (a + b), one_more s (k + a) b, e, split s k a b, pow-suc 2 b) (omega arith)

-- the 48 bits before an entry's content: its index, its term and its content length
pub head_parts : (s : Bytes) (k v : ℕ) → v ≡ field_at s k 48
    → (v / 2 ^ 38 ≡ field_at s k 10) × (v / 2 ^ 6 % 4294967296 ≡ field_at s (k + 10) 32) × (v % 64 ≡ field_at s (k + 42) 6)
head_parts s k v e =
    let a = split s k 42 6 in
    let b = split s k 10 32 in
    let i = field_lt s k 10 in
    let t = field_lt s (k + 10) 32 in
    let n = field_lt s (k + 42) 6 in
    (omega arith, omega arith, omega arith)

-- one turn of the code: v has the bits of the k bytes from byte f on, and b is the next
pub turn : (s : Bytes) (f k v b : ℕ) → v ≡ field_at s (8 * f) (8 * k) → k < 8 → b ≡ get_or s (f + k) 0 → b < 256
    → (v * 2 ^ 8) % 2 ^ 64 + b ≡ field_at s (8 * f) (8 * (k + 1))
turn s f k v b e l d h =
    let q : (8 * f + 8 * k) / 8 ≡ f + k = omega arith in
    let r : (8 * f + 8 * k) % 8 ≡ 0 = omega arith in
    let y : (v * 2 ^ 8) % 2 ^ 64 ≡ v * 2 ^ 8 = shl_exact (8 * k) 8 64 (rw e (field_lt s (8 * f) (8 * k))) (omega arith) in
    let n : 8 * (k + 1) ≡ 8 * k + 8 = omega arith in
    let m = rw (q, r) at (more s (8 * f) (8 * k) 8 (omega arith)) in
    rw (y, n, m, ← e, ← d) (omega arith)

-- what stands before and after the bits is cut off
pub cut : (s : Bytes) (at w n v : ℕ) → v ≡ field_at s (8 * (at / 8)) (8 * n) → at % 8 + w ≤ 8 * n → w ≤ 57
    → v / 2 ^ (8 * n - (at % 8 + w)) % ((1 * 2 ^ w) % 2 ^ 64) ≡ field_at s at w
cut s at w n v e l h =
    let k : ℕ = 8 * (at / 8) in
    let o : ℕ = at % 8 in
    let r : ℕ = 8 * n - (o + w) in
    let a : 8 * n ≡ o + w + r = omega arith in
    let b : k + o ≡ at = omega arith in
    let past = split s k (o + w) r in
    let before = split s k o w in
    let z : (1 * 2 ^ w) % 2 ^ 64 ≡ 2 ^ w = one_shl w (omega arith) in
    let d : v / 2 ^ r ≡ field_at s k (o + w) =
    ap (λ (x : ℕ). x / 2 ^ r) (e ∙ ap (field_at s k) a ∙ past) ∙ high (field_at s k (o + w)) r (field_lt s (k + (o + w)) r) in
    rw (z, d, before, low (field_at s k o) w (field_lt s (k + o) w), b)

-- ---- content bytes, through a window of two

-- the m low bits of x and the o high bits of y
window_splits : (x y m o : ℕ) → m + o ≡ 8 → y < 256 → (x * 256 + y) / 2 ^ m % 256 ≡ (x % 2 ^ m) * 2 ^ o + y / 2 ^ m
window_splits x y m o e h =
    let p : 2 ^ (m + o) ≡ 256 = ap (λ (z : ℕ). 2 ^ z) e in
    let q : x * 256 ≡ x * 2 ^ o * 2 ^ m = omega (arith, ap (λ (z : ℕ). x * z) (sym p ∙ pow-add 2 m o)) in
    let l : y < 2 ^ (o + m) = lt_of_lt_of_le h (pow_mono {i = 8} (omega arith)) in
    let r : y / 2 ^ m < 2 ^ o = shr_lt o m l in
    rw (q, mul-add-div_right (pow_pos m) (x * 2 ^ o) y, ← p, mod-pow-add (x * 2 ^ o + y / 2 ^ m) m o, high x o r, low x o r)

-- the bits from bit k to the end of its byte
bits_first : (s : Bytes) (k m : ℕ) → k % 8 + m ≡ 8 → field_at s k m ≡ get_or s (k / 8) 0 % 2 ^ m
bits_first s k m h =
    let z : 8 - k % 8 - m ≡ 0 = omega arith in
    let e = rw (zero-add m, add-zero k, z) at (more s k 0 m (omega arith)) in
    e ∙ rw (← field_none s k 0 refl, div-one (get_or s (k / 8) 0)) (omega arith)

-- o bits of the next byte
bits_then : (s : Bytes) (k m o : ℕ) → k % 8 ≡ o → m + o ≡ 8 → get_or s ((k + 7) / 8) 0 < 256
    → field_at s k 8 ≡ field_at s k m * 2 ^ o + get_or s ((k + 7) / 8) 0 / 2 ^ m
bits_then s k m zero e f h =
    let g : m ≡ 8 = omega arith in
    rw (g, div-eq_of_lt h) (omega arith)
bits_then s k m (suc o) e f h =
    let z : (k + m) % 8 ≡ 0 = omega arith in
    let q : (k + m) / 8 ≡ (k + 7) / 8 = omega arith in
    let r : 8 - 0 - suc o ≡ m = omega arith in
    let l : get_or s ((k + 7) / 8) 0 < 2 ^ (suc o + m) = lt_of_lt_of_le h (pow_mono {i = 8} (omega arith)) in
    let n = rw (f, z, q, r, shr_mod (suc o) m l) at (more s k m (suc o) (omega arith)) in
    n

-- eight bits from bit k on
window : (s : Bytes) (k : ℕ) → get_or s ((k + 7) / 8) 0 < 256
    → (get_or s (k / 8) 0 * 256 + get_or s ((k + 7) / 8) 0) / 2 ^ (8 - k % 8) % 256 ≡ field_at s k 8
window s k h =
    let m : ℕ = 8 - k % 8 in
    window_splits _ _ m (k % 8) (omega arith) h
    ∙ sym (bits_then s k m (k % 8) refl (omega arith) h ∙ ap (λ (v : ℕ). v * 2 ^ (k % 8) + get_or s ((k + 7) / 8) 0 / 2 ^ m) (bits_first s k m (omega arith)))

-- the byte i of the content at bit k
pub window_at : (s : Bytes) (k i : ℕ) → get_or s ((k + 7) / 8 + i) 0 < 256
    → (get_or s (k / 8 + i) 0 * 256 + get_or s ((k + 7) / 8 + i) 0) / 2 ^ (8 - k % 8) % 256 ≡ field_at s (k + 8 * i) 8
window_at s k i h =
    let p : k / 8 + i ≡ (k + 8 * i) / 8 = omega arith in
    let q : (k + 7) / 8 + i ≡ (k + 8 * i + 7) / 8 = omega arith in
    let r : k % 8 ≡ (k + 8 * i) % 8 = omega arith in
    rw (p, q, r) (window s (k + 8 * i) (rw q at h))

bytes_snoc : (s : Bytes) (k i : ℕ) → bytes_at s k (suc i) ≡ bytes_at s k i ++ (field_at s (k + 8 * i) 8 ∷ [])
unfolding bytes_at
bytes_snoc s k zero = ap (λ (a : ℕ). field_at s a 8 ∷ []) (omega arith)
bytes_snoc s k (suc i) =
    let e : k + 8 + 8 * i ≡ k + 8 * suc i = omega arith in
    ap (λ (l : List ℕ). field_at s k 8 ∷ l) (bytes_snoc s (k + 8) i ∙ ap (λ (a : ℕ). bytes_at s (k + 8) i ++ (field_at s a 8 ∷ [])) e)

pub bytes_length : (s : Bytes) (k n : ℕ) → length (bytes_at s k n) ≡ n
unfolding bytes_at
bytes_length s k zero = refl
bytes_length s k (suc n) = ap suc (bytes_length s (k + 8) n)

-- one byte more in a padded array
pub padded_more : (s : Bytes) (k i v : ℕ) → i < 32 → v ≡ field_at s (k + 8 * i) 8
    → set (bytes_at s k i ++ replicate (32 - i) 0) i v ≡ bytes_at s k (i + 1) ++ replicate (32 - (i + 1)) 0
padded_more s k i v h e =
    let n : 32 - i ≡ suc (32 - (i + 1)) = omega arith in
    rw (n, add-one i, bytes_snoc s k i, append_assoc, ← e) (set_at (bytes_at s k i) 0 (replicate (32 - suc i) 0) v i (bytes_length s k i))
