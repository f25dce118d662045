-- Bytes compared at once, written from a list, and moved up.
-- Assumes nothing.
use Prim.Native.Nat.{ℕ, ◌+◌, ◌-◌, ◌/◌, ◌%◌, ◌≤◌, ◌<◌}
use native.Mathlib.Omega.{arith}
use mathlib.Core.Path.{◌≡◌, ap, ◌∙◌, refl, sym}
use mathlib.Core.Bool.{Bool, ◌&&◌}
use mathlib.Core.List.{◌∷◌, [], ◌++◌}
use lib.Dec.{eqb}
use lib.ListN.{get_or, length, take, drop}
use lib.Seq.{ext_get_or}
use Rattle.model.specs.Sizes.{Bytes}
use Rattle.storage_bytes.specs.Words.{bytes_at, same_bytes, put_bytes, word_bytes}
use Rattle.storage_bytes.specs.Layout.{part}
use Rattle.storage_bytes.proofs.ListLaws.{tabulate_length, tabulate_at}
use Rattle.std.specs.Cmp.Lexicographic.{pointwise}
use Rattle.storage_bytes.proofs.PartLaws.{part_length, part_at, part_lent, part_back, region_back}

-- ---- slices compared, written and moved

-- a slice of n bytes at a, as the code has it
slice_bytes : (t : Bytes) (a n : ℕ) → a + n ≤ length t → take (a + n - a) (drop a t) ≡ bytes_at t a n
unfolding bytes_at part
slice_bytes t a n r =
    (part_lent t a n r).is
    ∙ ext_get_or 0 _ _ (part_length t a n r ∙ sym (tabulate_length _ a n))
    (λ i l. let h : i < n = omega (arith, part_length t a n r) in part_at t a n i h ∙ sym (tabulate_at (λ k. get_or t k 0) a n i 0 h))

-- a part is the bytes at its place
pub part_bytes : (t : Bytes) (a n : ℕ) → a + n ≤ length t → part t a n ≡ bytes_at t a n
part_bytes t a n r = sym (part_lent t a n r).is ∙ slice_bytes t a n r

-- the equality of slices
pub pointwise_bytes : (xs ys : Bytes) → pointwise eqb xs ys ≡ same_bytes xs ys
unfolding same_bytes
pointwise_bytes [] [] = refl
pointwise_bytes [] (y ∷ ys) = refl
pointwise_bytes (x ∷ xs) [] = refl
pointwise_bytes (x ∷ xs) (y ∷ ys) = ap (λ (v : Bool). eqb x y && v) (pointwise_bytes xs ys)

-- the slice of k bytes from a on, given back as vs
pub slice_written : {ys : Bytes} (h : Bytes) (a k : ℕ) (vs : Bytes) → ys ≡ vs → length vs ≡ k → a + k ≤ length h
    → take a h ++ (ys ++ drop (a + k - a) (drop a h)) ≡ put_bytes h a vs
slice_written h a k vs e l r =
    let q : a + k - a ≡ k = omega arith in
    (λ i. take a h ++ (e i ++ drop (q i) (drop a h))) ∙ region_back h vs a k l r

pub slice_moved : (t : Bytes) (a n w : ℕ) → a + w + n ≤ length t
    → take (a + w) t ++ take (a + n - a) (drop a t) ++ drop (a + w + (a + n - a)) t ≡ put_bytes t (a + w) (bytes_at t a n)
unfolding part
slice_moved t a n w r =
    let e = slice_bytes t a n (omega arith) in
    let l : length (take (a + n - a) (drop a t)) ≡ a + n - a = (part_lent t a n (omega arith)).long ∙ (let q : n ≡ a + n - a = omega arith in q) in
    ap (λ (k : ℕ). take (a + w) t ++ take (a + n - a) (drop a t) ++ drop (a + w + k) t) (sym l)
    ∙ part_back t (a + w) (take (a + n - a) (drop a t)) (omega arith)
    ∙ ap (put_bytes t (a + w)) e

-- ---- a number's bytes, as the library writes them

pub bytes_two : (v : ℕ) → (v / 256 % 256 ∷ v % 256 ∷ []) ≡ word_bytes 2 v
unfolding word_bytes
bytes_two v = refl

pub bytes_four : (v : ℕ) → (v / 16777216 % 256 ∷ v / 65536 % 256 ∷ v / 256 % 256 ∷ v % 256 ∷ []) ≡ word_bytes 4 v
unfolding word_bytes
bytes_four v =
    let p : v / 65536 ≡ v / 256 / 256 = omega arith in
    let q : v / 16777216 ≡ v / 256 / 256 / 256 = omega arith in
    λ i. q i % 256 ∷ p i % 256 ∷ v / 256 % 256 ∷ v % 256 ∷ []

-- a number's low bytes are all that is written of it
pub low_byte : (v : ℕ) → word_bytes 1 (v % 256) ≡ word_bytes 1 v
unfolding word_bytes
low_byte v = let e : v % 256 % 256 ≡ v % 256 = omega arith in ap (λ (k : ℕ). k ∷ []) e

pub low_bytes : (v : ℕ) → word_bytes 2 (v % 65536) ≡ word_bytes 2 v
unfolding word_bytes
low_bytes v =
    let p : v % 65536 / 256 % 256 ≡ v / 256 % 256 = omega arith in
    let q : v % 65536 % 256 ≡ v % 256 = omega arith in
    λ i. p i ∷ q i ∷ []
