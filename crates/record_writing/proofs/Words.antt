-- Laws of a word whose first bits are a field, and of its first bytes.
-- Assumes nothing.
use Prim.Native.Nat.{ℕ, zero, suc, ◌+◌, ◌-◌, ◌*◌, ◌/◌, ◌%◌, ◌^◌, ◌≤◌, ◌<◌}
use mathlib.Core.Path.{◌≡◌, refl, ap, sym, ◌∙◌}
use mathlib.Core.List.{[], ◌∷◌}
use native.Mathlib.Omega.{arith}
use native.Mathlib.Nat.{div-one, lt_of_lt_of_le}
use lib.Pow.{high, pow-add, shr_lt, pow_pos, pow_mono, shl_exact, shr-shr}
use lib.ListN.{length, take}
use Rattle.std.proofs.lemmas.List.{take-append-le}
use Rattle.std.proofs.Math.Seq.{take-length}
use Rattle.std.proofs.lemmas.Nat.{mul-add-lt}
use Rattle.storage_bytes.specs.Words.{word_bytes}
use Rattle.storage_bytes.proofs.WordLaws.{word_bytes_length}

-- the first n of n + m bytes
pub take_word : (n m v : ℕ) → take n (word_bytes (n + m) v) ≡ word_bytes n (v / 2 ^ (8 * m))
unfolding word_bytes
take_word n zero v =
    let e : n + 0 ≡ n = omega arith in
    let d : v / 2 ^ (8 * 0) ≡ v = div-one v in
    rw (e, d) (ap (λ (k : ℕ). take k (word_bytes n v)) (sym (word_bytes_length n v)) ∙ take-length (word_bytes n v))
take_word n (suc m) v =
    let e : n + suc m ≡ suc (n + m) = omega arith in
    let l : n ≤ length (word_bytes (n + m) (v / 256)) = omega (arith, word_bytes_length (n + m) (v / 256)) in
    let s : v / 256 / 2 ^ (8 * m) ≡ v / 2 ^ (8 * suc m) =
    ap (λ (k : ℕ). v / k / 2 ^ (8 * m)) (let z : 256 ≡ 2 ^ 8 = refl in z) ∙ shr-shr v 8 (8 * m)
    ∙ ap (λ (k : ℕ). v / 2 ^ k) (let z : 8 + 8 * m ≡ 8 * suc m = omega arith in z) in
    rw e (take-append-le n (word_bytes (n + m) (v / 256)) (v % 256 ∷ []) l ∙ take_word n m (v / 256) ∙ ap (word_bytes n) s)

-- the eight bytes of a word, as the library writes them
pub bytes_eight : (v : ℕ)
    → (v / 72057594037927936 % 256 ∷ v / 281474976710656 % 256 ∷ v / 1099511627776 % 256 ∷ v / 4294967296 % 256 ∷ v / 16777216 % 256 ∷ v / 65536 % 256 ∷ v / 256 % 256 ∷ v % 256 ∷ [])
    ≡ word_bytes 8 v
unfolding word_bytes
bytes_eight v =
    let p2 : v / 65536 ≡ v / 256 / 256 = omega arith in
    let p3 : v / 16777216 ≡ v / 256 / 256 / 256 = omega arith in
    let p4 : v / 4294967296 ≡ v / 256 / 256 / 256 / 256 = omega arith in
    let p5 : v / 1099511627776 ≡ v / 256 / 256 / 256 / 256 / 256 = omega arith in
    let p6 : v / 281474976710656 ≡ v / 256 / 256 / 256 / 256 / 256 / 256 = omega arith in
    let p7 : v / 72057594037927936 ≡ v / 256 / 256 / 256 / 256 / 256 / 256 / 256 = omega arith in
    λ i. p7 i % 256 ∷ p6 i % 256 ∷ p5 i % 256 ∷ p4 i % 256 ∷ p3 i % 256 ∷ p2 i % 256 ∷ v / 256 % 256 ∷ v % 256 ∷ []

-- a number of u bits at the head of a word, and its first n bytes
pub head_bytes : (x u n : ℕ) → x < 2 ^ u → u ≤ 8 * n → n ≤ 8
    → take n (word_bytes 8 ((x * 2 ^ (64 - u)) % 2 ^ 64)) ≡ word_bytes n (x * 2 ^ (8 * n - u))
head_bytes x u n l h m =
    let e : n + (8 - n) ≡ 8 = omega arith in
    let a : (x * 2 ^ (64 - u)) % 2 ^ 64 ≡ x * 2 ^ (64 - u) = shl_exact u (64 - u) 64 l (omega arith) in
    let b : 64 - u ≡ 8 * n - u + 8 * (8 - n) = omega arith in
    let c : x * 2 ^ (64 - u) ≡ x * 2 ^ (8 * n - u) * 2 ^ (8 * (8 - n)) + 0 =
    ap (λ (k : ℕ). x * 2 ^ k) b ∙ omega (arith, ap (λ (k : ℕ). x * k) (pow-add 2 (8 * n - u) (8 * (8 - n)))) in
    let d : (x * 2 ^ (64 - u)) / 2 ^ (8 * (8 - n)) ≡ x * 2 ^ (8 * n - u) =
    ap (λ (k : ℕ). k / 2 ^ (8 * (8 - n))) c ∙ high (x * 2 ^ (8 * n - u)) (8 * (8 - n)) (pow_pos (8 * (8 - n))) in
    let t : take n (word_bytes (n + (8 - n)) (x * 2 ^ (64 - u))) ≡ word_bytes n (x * 2 ^ (8 * n - u)) = take_word n (8 - n) (x * 2 ^ (64 - u)) ∙ ap (word_bytes n) d in
    rw a (rw e at t)

-- the first o bits of a byte with w bits behind them
module _ (b o w v : ℕ) (below : b < 256) (h : o < 8) (n : w ≤ 57) (l : v < 2 ^ w) where
  before : b / 2 ^ (8 - o) < 2 ^ o
  before = shr_lt o (8 - o) (lt_of_lt_of_le below (pow_mono {i = 8} (omega arith)))

  pub behind : (b / 2 ^ (8 - o) * 2 ^ w) % 2 ^ 64 + v ≡ b / 2 ^ (8 - o) * 2 ^ w + v
  behind = ap (λ (k : ℕ). k + v) (shl_exact o w 64 before (omega arith))

  pub behind_lt : b / 2 ^ (8 - o) * 2 ^ w + v < 2 ^ (o + w)
  behind_lt =
      ap_lt (mul-add-lt (b / 2 ^ (8 - o)) (2 ^ w) v (2 ^ o) before l) (omega (arith, pow-add 2 o w))
    where
      ap_lt : {x y z : ℕ} → x < y → y ≡ z → x < z
      ap_lt p e = omega arith

  -- a word holds them
  pub behind_fits : (b / 2 ^ (8 - o) * 2 ^ w) % 2 ^ 64 + v < 2 ^ 64
  behind_fits = rw behind (lt_of_lt_of_le behind_lt (pow_mono {i = o + w} {j = 64} (omega arith)))
