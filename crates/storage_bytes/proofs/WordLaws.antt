-- Laws of numbers in bytes: reading back what was written, and what a write leaves alone. One law for every width.
-- Assumes nothing.
use Prim.Native.Nat.{ℕ, zero, suc, ◌+◌, ◌*◌, ◌/◌, ◌%◌, ◌^◌, ◌≤◌, ◌<◌}
use native.Mathlib.Nat.{add-zero, zero-add, add_assoc, not-suc-le-zero, div-add-mod'}
use native.Mathlib.Numerals.{add-one}
use native.Mathlib.Omega.{arith}
use mathlib.Core.Path.{◌≡◌, refl, ap, sym, ◌∙◌}
use mathlib.Core.List.{[], ◌∷◌, ◌++◌}
use lib.ListN.{length, get_or, set, length-set, length-append, get_or-append}
use lib.Seq.{get_or-set_same, get_or-set_other, get_or_at}
use Rattle.model.specs.Sizes.{Bytes}
use Rattle.storage_bytes.specs.Lists.{tabulate}
use Rattle.storage_bytes.specs.Words.{word_at, word_bytes, bytes_at, put_bytes}
use Rattle.storage_bytes.proofs.ListLaws.{tabulate_same}

-- the two are the same from a up to b
abbrev pub Agree : Bytes → Bytes → ℕ → ℕ → Type 0
Agree t u a b = (i : ℕ) → a ≤ i → i < b → get_or t i 0 ≡ get_or u i 0

-- ---- reads

pub word_agree : (t u : Bytes) (o n : ℕ) → Agree t u o (o + n) → word_at t o n ≡ word_at u o n
unfolding word_at
word_agree t u o zero h = refl
word_agree t u o (suc n) h =
    λ j. word_agree t u o n (λ i a b. h i a (omega arith)) j * 256 + h (o + n) (omega arith) (omega arith) j

pub bytes_agree : (t u : Bytes) (o n : ℕ) → Agree t u o (o + n) → bytes_at t o n ≡ bytes_at u o n
unfolding bytes_at
bytes_agree t u o n h = tabulate_same (λ i. get_or t i 0) (λ i. get_or u i 0) o n h

-- the same n bytes at two places
pub word_shift : (t u : Bytes) (o p n : ℕ) → ((i : ℕ) → i < n → get_or t (o + i) 0 ≡ get_or u (p + i) 0) → word_at t o n ≡ word_at u p n
unfolding word_at
word_shift t u o p zero h = refl
word_shift t u o p (suc n) h =
    λ j. word_shift t u o p n (λ i b. h i (omega arith)) j * 256 + h n (omega arith) j

pub bytes_shift : (t u : Bytes) (o p n : ℕ) → ((i : ℕ) → i < n → get_or t (o + i) 0 ≡ get_or u (p + i) 0) → bytes_at t o n ≡ bytes_at u p n
unfolding bytes_at tabulate
bytes_shift t u o p zero h = refl
bytes_shift t u o p (suc n) h =
    λ j. (ap (λ (k : ℕ). get_or t k 0) (sym (add-zero o)) ∙ h 0 (omega arith) ∙ ap (λ (k : ℕ). get_or u k 0) (add-zero p)) j
    ∷ bytes_shift t u (o + 1) (p + 1) n
    (λ i b. ap (λ (k : ℕ). get_or t k 0) (let e : o + 1 + i ≡ o + (i + 1) = omega arith in e)
    ∙ h (i + 1) (omega arith)
    ∙ ap (λ (k : ℕ). get_or u k 0) (let e : p + (i + 1) ≡ p + 1 + i = omega arith in e)) j

pub word_one : (t : Bytes) (o : ℕ) → word_at t o 1 ≡ get_or t o 0
unfolding word_at
word_one t o = zero-add _ ∙ ap (λ (k : ℕ). get_or t k 0) (add-zero o)

pub word_two : (t : Bytes) (o : ℕ) → word_at t o 2 ≡ get_or t o 0 * 256 + get_or t (o + 1) 0
unfolding word_at
word_two t o = ap (λ (x : ℕ). x * 256 + get_or t (o + 1) 0) (word_one t o)

pub word_four : (t : Bytes) (o : ℕ)
    → word_at t o 4 ≡ ((get_or t o 0 * 256 + get_or t (o + 1) 0) * 256 + get_or t (o + 2) 0) * 256 + get_or t (o + 3) 0
unfolding word_at
word_four t o = ap (λ (x : ℕ). (x * 256 + get_or t (o + 2) 0) * 256 + get_or t (o + 3) 0) (word_two t o)

-- ---- writes

pub put_length : (t : Bytes) (o : ℕ) (vs : Bytes) → length (put_bytes t o vs) ≡ length t
unfolding put_bytes
put_length t o [] = refl
put_length t o (v ∷ vs) = put_length (set t o v) (o + 1) vs ∙ length-set t o v

-- what lies before or after the written bytes is as it was
pub put_before : (t : Bytes) (o : ℕ) (vs : Bytes) (i : ℕ) → i < o → get_or (put_bytes t o vs) i 0 ≡ get_or t i 0
unfolding put_bytes
put_before t o [] i h = refl
put_before t o (v ∷ vs) i h = put_before (set t o v) (o + 1) vs i (omega arith) ∙ get_or-set_other t o i v 0 (omega arith)

pub put_after : (t : Bytes) (o : ℕ) (vs : Bytes) (i : ℕ) → o + length vs ≤ i → get_or (put_bytes t o vs) i 0 ≡ get_or t i 0
unfolding put_bytes
put_after t o [] i h = refl
put_after t o (v ∷ vs) i h = put_after (set t o v) (o + 1) vs i (omega arith) ∙ get_or-set_other t o i v 0 (omega arith)

-- what was written is read
pub put_in : (t : Bytes) (o : ℕ) (vs : Bytes) (i : ℕ) → o + length vs ≤ length t → i < length vs → get_or (put_bytes t o vs) (o + i) 0 ≡ get_or vs i 0
unfolding put_bytes
put_in t o [] i r h = absurd (not-suc-le-zero h)
put_in t o (v ∷ vs) zero r h =
    ap (λ (k : ℕ). get_or (put_bytes (set t o v) (o + 1) vs) k 0) (add-zero o)
    ∙ put_before (set t o v) (o + 1) vs o (omega arith)
    ∙ get_or-set_same t o v 0 (omega arith)
put_in t o (v ∷ vs) (suc i) r h =
    ap (λ (k : ℕ). get_or (put_bytes (set t o v) (o + 1) vs) k 0) (let e : o + suc i ≡ o + 1 + i = omega arith in e)
    ∙ put_in (set t o v) (o + 1) vs i (omega (arith, length-set t o v)) (omega arith)

-- two writes side by side are one
pub put_join : (t : Bytes) (o : ℕ) (vs ws : Bytes) → put_bytes (put_bytes t o vs) (o + length vs) ws ≡ put_bytes t o (vs ++ ws)
unfolding put_bytes
put_join t o [] ws = ap (λ (k : ℕ). put_bytes t k ws) (add-zero o)
put_join t o (v ∷ vs) ws =
    ap (λ (k : ℕ). put_bytes (put_bytes (set t o v) (o + 1) vs) k ws) (let e : o + suc (length vs) ≡ o + 1 + length vs = omega arith in e)
    ∙ put_join (set t o v) (o + 1) vs ws

-- a number read where one list of bytes was written is read in that list
pub word_put : (t : Bytes) (o : ℕ) (vs : Bytes) (f n : ℕ) → o + length vs ≤ length t → f + n ≤ length vs
    → word_at (put_bytes t o vs) (o + f) n ≡ word_at vs f n
word_put t o vs f n r h =
    word_shift (put_bytes t o vs) vs (o + f) f n
    (λ i b. ap (λ (k : ℕ). get_or (put_bytes t o vs) k 0) (add_assoc o f i) ∙ put_in t o vs (f + i) r (omega arith))

pub bytes_put : (t : Bytes) (o : ℕ) (vs : Bytes) (f n : ℕ) → o + length vs ≤ length t → f + n ≤ length vs
    → bytes_at (put_bytes t o vs) (o + f) n ≡ bytes_at vs f n
bytes_put t o vs f n r h =
    bytes_shift (put_bytes t o vs) vs (o + f) f n
    (λ i b. ap (λ (k : ℕ). get_or (put_bytes t o vs) k 0) (add_assoc o f i) ∙ put_in t o vs (f + i) r (omega arith))

-- ---- a number's bytes

pub word_bytes_length : (n v : ℕ) → length (word_bytes n v) ≡ n
unfolding word_bytes
word_bytes_length zero v = refl
word_bytes_length (suc n) v =
    length-append (word_bytes n (v / 256)) (v % 256 ∷ []) ∙ ap (λ (k : ℕ). k + 1) (word_bytes_length n (v / 256)) ∙ add-one n

-- a number of 32 bits is one of 16 above another
pub word_halves : (t : Bytes) (o : ℕ) → word_at t o 4 ≡ word_at t o 2 * 65536 + word_at t (o + 2) 2
word_halves t o =
    let e : get_or t (o + 2 + 1) 0 ≡ get_or t (o + 3) 0 = ap (λ (k : ℕ). get_or t k 0) (omega arith) in
    omega (arith, word_four t o, word_two t o, word_two t (o + 2))

-- a number is read back from its own bytes
pub word_back : (n v : ℕ) → v < 256 ^ n → word_at (word_bytes n v) 0 n ≡ v
unfolding word_at word_bytes
word_back zero v h = omega arith
word_back (suc n) v h =
    let xs = word_bytes n (v / 256) in
    let l : length xs ≡ n = word_bytes_length n (v / 256) in
    let low : word_at (xs ++ (v % 256 ∷ [])) 0 n ≡ v / 256
    = word_agree (xs ++ (v % 256 ∷ [])) xs 0 n (λ i a b. get_or-append xs (v % 256 ∷ []) 0 i (omega (arith, l)))
    ∙ word_back n (v / 256) (omega arith) in
    let last : get_or (xs ++ (v % 256 ∷ [])) (0 + n) 0 ≡ v % 256
    = ap (λ (k : ℕ). get_or (xs ++ (v % 256 ∷ [])) k 0) (zero-add n) ∙ get_or_at xs (v % 256) [] 0 n l in
    (λ i. low i * 256 + last i) ∙ div-add-mod' v 256

-- ---- one number written

-- the first field of what was written
pub word_first : (t : Bytes) (o : ℕ) (vs : Bytes) (n : ℕ) → o + length vs ≤ length t → n ≤ length vs
    → word_at (put_bytes t o vs) o n ≡ word_at vs 0 n
word_first t o vs n r h =
    ap (λ (k : ℕ). word_at (put_bytes t o vs) k n) (sym (add-zero o)) ∙ word_put t o vs 0 n r (omega arith)

pub word_set : (r : Bytes) (o n v : ℕ) → v < 256 ^ n → o + n ≤ length r → word_at (put_bytes r o (word_bytes n v)) o n ≡ v
word_set r o n v f h =
    let l = word_bytes_length n v in
    word_first r o (word_bytes n v) n (omega (arith, l)) (omega (arith, l)) ∙ word_back n v f

-- a number before, and one after, what was written
pub word_before : (r : Bytes) (o : ℕ) (vs : Bytes) (p m : ℕ) → p + m ≤ o → word_at (put_bytes r o vs) p m ≡ word_at r p m
word_before r o vs p m h = word_agree (put_bytes r o vs) r p m (λ i a b. put_before r o vs i (omega arith))

pub word_after : (r : Bytes) (o : ℕ) (vs : Bytes) (p m : ℕ) → o + length vs ≤ p → word_at (put_bytes r o vs) p m ≡ word_at r p m
word_after r o vs p m h = word_agree (put_bytes r o vs) r p m (λ i a b. put_after r o vs i (omega arith))
