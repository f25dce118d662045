-- Laws of a part lent out of the whole: what is read in it, and that a write in it is a write in the whole that leaves
-- every other part as it was.
-- Assumes nothing.
use Prim.Native.Nat.{ℕ, ◌+◌, ◌-◌, ◌≤◌, ◌<◌}
use native.Mathlib.Decide.{dec_le, dec_lt}
use native.Mathlib.Numerals.{add-one}
use native.Mathlib.Omega.{arith}
use mathlib.Core.Path.{◌≡◌, refl, ap, sym, ◌∙◌}
use mathlib.Core.List.{[], ◌∷◌, ◌++◌, append_assoc}
use lib.ListN.{length, get_or, set, take, drop, length-take, length-drop}
use lib.Seq.{get_or-take, get_or-drop, ext_get_or, sets, sets-eq, drop-drop}
use Rattle.model.specs.Sizes.{Bytes}
use Rattle.storage_bytes.specs.Words.{word_at, put_bytes}
use Rattle.storage_bytes.specs.Layout.{part, Part}
use Rattle.storage_bytes.proofs.WordLaws.{word_shift, put_length, put_before, put_after, put_in}

pub part_length : (h : Bytes) (a n : ℕ) → a + n ≤ length h → length (part h a n) ≡ n
unfolding part
part_length h a n r = simp (length-take, length-drop) (omega arith)

pub part_at : (h : Bytes) (a n i : ℕ) → i < n → get_or (part h a n) i 0 ≡ get_or h (a + i) 0
unfolding part
part_at h a n i l = get_or-take n (drop a h) i 0 l ∙ get_or-drop a h i 0

-- what lending a part gives
pub part_lent : (h : Bytes) (a n : ℕ) → a + n ≤ length h → Part h a n (take (a + n - a) (drop a h))
unfolding part
part_lent h a n r =
    record {
      is = let e : a + n - a ≡ n = omega arith in ap (λ (k : ℕ). take k (drop a h)) e;
      long = simp (length-take, length-drop) (omega arith);
    }

-- ---- a part written back

put_sets : (h : Bytes) (a : ℕ) (p : Bytes) → put_bytes h a p ≡ sets h a p
unfolding put_bytes
put_sets h a [] = refl
put_sets h a (v ∷ vs) = put_sets (set h a v) (a + 1) vs ∙ ap (λ (k : ℕ). sets (set h a v) k vs) (add-one a)

pub part_back : (h : Bytes) (a : ℕ) (p : Bytes) → a + length p ≤ length h → take a h ++ p ++ drop (a + length p) h ≡ put_bytes h a p
part_back h a p r = sym (put_sets h a p ∙ sets-eq p h a r)

-- the k bytes from a on lent, and given back as ys
pub region_back : (h ys : Bytes) (a k : ℕ) → length ys ≡ k → a + k ≤ length h → take a h ++ (ys ++ drop k (drop a h)) ≡ put_bytes h a ys
region_back h ys a k l r =
    ap (λ (q : Bytes). take a h ++ (ys ++ q)) (drop-drop k a h ∙ ap (λ (n : ℕ). drop (a + n) h) (sym l))
    ∙ sym (append_assoc (take a h) ys (drop (a + length ys) h))
    ∙ part_back h a ys (omega arith)

-- a write at an index, seen at any index
put_at : (h : Bytes) (a : ℕ) (p : Bytes) (i x : ℕ) → a + length p ≤ length h
    → (i < a → x ≡ get_or h i 0) → (a + length p ≤ i → x ≡ get_or h i 0) → ((j : ℕ) → j < length p → i ≡ a + j → x ≡ get_or p j 0)
    → x ≡ get_or (put_bytes h a p) i 0
put_at h a p i x r f g k =
    elim (dec_lt i a) [
      | yes l ↦ f l ∙ sym (put_before h a p i l)
      | no m ↦ elim (dec_le (a + length p) i) [
        | yes l ↦ g l ∙ sym (put_after h a p i l)
        | no l ↦
            let e : i ≡ a + (i - a) = omega arith in
            k (i - a) (omega arith) e ∙ sym (put_in h a p (i - a) r (omega arith)) ∙ ap (λ (n : ℕ). get_or (put_bytes h a p) n 0) (sym e)
      ]
    ]

-- a write in a part is that write in the whole
pub put_part : (h : Bytes) (a n o : ℕ) (vs : Bytes) → a + n ≤ length h → o + length vs ≤ n
    → put_bytes h a (put_bytes (part h a n) o vs) ≡ put_bytes h (a + o) vs
put_part h a n o vs r w =
    ext_get_or 0 _ _
    (put_length h a (put_bytes (part h a n) o vs) ∙ sym (put_length h (a + o) vs))
    (λ i _. put_at h (a + o) vs i (get_or (put_bytes h a q) i 0) (omega arith) (low i) (high i) (mid i))
  where
    q : Bytes
    q = put_bytes (part h a n) o vs

    qn : length q ≡ n
    qn = put_length (part h a n) o vs ∙ part_length h a n r

    inside : (i j : ℕ) → j < n → i ≡ a + j → get_or (put_bytes h a q) i 0 ≡ get_or q j 0
    inside i j l e = ap (λ (k : ℕ). get_or (put_bytes h a q) k 0) e ∙ put_in h a q j (omega (arith, qn)) (omega (arith, qn))

    low : (i : ℕ) → i < a + o → get_or (put_bytes h a q) i 0 ≡ get_or h i 0
    low i l =
        elim (dec_lt i a) [
          | yes m ↦ put_before h a q i m
          | no m ↦
              let e : i ≡ a + (i - a) = omega arith in
              inside i (i - a) (omega arith) e
              ∙ put_before (part h a n) o vs (i - a) (omega arith)
              ∙ part_at h a n (i - a) (omega arith)
              ∙ ap (λ (k : ℕ). get_or h k 0) (sym e)
        ]

    high : (i : ℕ) → a + o + length vs ≤ i → get_or (put_bytes h a q) i 0 ≡ get_or h i 0
    high i l =
        elim (dec_le (a + n) i) [
          | yes m ↦ put_after h a q i (omega (arith, qn))
          | no m ↦
              let e : i ≡ a + (i - a) = omega arith in
              inside i (i - a) (omega arith) e
              ∙ put_after (part h a n) o vs (i - a) (omega arith)
              ∙ part_at h a n (i - a) (omega arith)
              ∙ ap (λ (k : ℕ). get_or h k 0) (sym e)
        ]

    mid : (i j : ℕ) → j < length vs → i ≡ a + o + j → get_or (put_bytes h a q) i 0 ≡ get_or vs j 0
    mid i j l e =
        inside i (o + j) (omega arith) (omega arith) ∙ put_in (part h a n) o vs j (omega (arith, part_length h a n r)) l

-- the part that was written in
pub part_put_same : (h : Bytes) (a n o : ℕ) (vs : Bytes) → a + n ≤ length h → o + length vs ≤ n
    → part (put_bytes h (a + o) vs) a n ≡ put_bytes (part h a n) o vs
part_put_same h a n o vs r w =
    ext_get_or 0 _ _
    (part_length u a n (omega (arith, put_length h (a + o) vs)) ∙ sym (put_length (part h a n) o vs ∙ part_length h a n r))
    (λ i l. let m : i < n = omega (arith, part_length u a n (omega (arith, put_length h (a + o) vs))) in
    part_at u a n i m
    ∙ put_at (part h a n) o vs i (get_or u (a + i) 0) (omega (arith, part_length h a n r))
    (λ b. put_before h (a + o) vs (a + i) (omega arith) ∙ sym (part_at h a n i m))
    (λ b. put_after h (a + o) vs (a + i) (omega arith) ∙ sym (part_at h a n i m))
    (λ j b e. ap (λ (k : ℕ). get_or u k 0) (let q : a + i ≡ a + o + j = omega arith in q) ∙ put_in h (a + o) vs j (omega arith) b))
  where
    u : Bytes
    u = put_bytes h (a + o) vs

-- a part that lies before or after the written bytes is as it was
pub part_put_before : (h : Bytes) (b m o : ℕ) (vs : Bytes) → b + m ≤ length h → b + m ≤ o → part (put_bytes h o vs) b m ≡ part h b m
part_put_before h b m o vs r d =
    ext_get_or 0 _ _
    (part_length (put_bytes h o vs) b m (omega (arith, put_length h o vs)) ∙ sym (part_length h b m r))
    (λ i l. let k : i < m = omega (arith, part_length (put_bytes h o vs) b m (omega (arith, put_length h o vs))) in
    part_at (put_bytes h o vs) b m i k ∙ put_before h o vs (b + i) (omega arith) ∙ sym (part_at h b m i k))

pub part_put_after : (h : Bytes) (b m o : ℕ) (vs : Bytes) → b + m ≤ length h → o + length vs ≤ b → part (put_bytes h o vs) b m ≡ part h b m
part_put_after h b m o vs r d =
    ext_get_or 0 _ _
    (part_length (put_bytes h o vs) b m (omega (arith, put_length h o vs)) ∙ sym (part_length h b m r))
    (λ i l. let k : i < m = omega (arith, part_length (put_bytes h o vs) b m (omega (arith, put_length h o vs))) in
    part_at (put_bytes h o vs) b m i k ∙ put_after h o vs (b + i) (omega arith) ∙ sym (part_at h b m i k))

-- a number in a part is a number in the whole
pub word_part : (h : Bytes) (a n o m : ℕ) → o + m ≤ n → word_at (part h a n) o m ≡ word_at h (a + o) m
word_part h a n o m r =
    word_shift (part h a n) h o (a + o) m
    (λ i l. part_at h a n (o + i) (omega arith) ∙ ap (λ (k : ℕ). get_or h k 0) (let e : a + (o + i) ≡ a + o + i = omega arith in e))

-- a region written whole is what was written
pub put_whole : (p r : Bytes) → length r ≡ length p → put_bytes p 0 r ≡ r
put_whole p r l =
    ext_get_or 0 _ _ (put_length p 0 r ∙ sym l)
    (λ i b.
    ap (λ (k : ℕ). get_or (put_bytes p 0 r) k 0) (let e : i ≡ 0 + i = omega arith in e)
    ∙ put_in p 0 r i (omega arith) (omega (arith, put_length p 0 r)))
