-- Laws of the split: which piece is at a place, that a whole one lies within the bytes, and a rest moved to the front.
-- Assumes nothing.
use Prim.Native.Nat.{ℕ, zero, suc, ◌+◌, ◌-◌, ◌≤◌, ◌<◌}
use native.Mathlib.Nat.{zero-add}
use native.Mathlib.Omega.{arith}
use mathlib.Core.Path.{◌≡◌, refl, ap, sym, ◌∙◌}
use mathlib.Core.Bool.{Bool, true, false, cond}
use lib.Dec.{ltb, eqb}
use mathlib.Core.List.{List, [], ◌∷◌, ◌++◌}
use lib.ListN.{length, get_or, take, drop, length-drop, length-append, get_or-append}
use lib.Seq.{get_or-drop, drop-drop, take-append-le, drop-append-le}
use borrow.Author.Tests.{ltb-false, eqb-false, lt-ltb, le-ltb, eq-eqb, ne_eqb}
use Rattle.std.specs.List.{CopiedTo}
use Rattle.model.specs.Sizes.{Bytes}
use Rattle.storage_bytes.specs.Words.{word_at}
use Rattle.storage_bytes.specs.Layout.{part}
use Rattle.storage_bytes.proofs.WordLaws.{word_agree, word_shift, bytes_shift}
use Rattle.sheet_text.specs.declared.split.Piece.{Piece}
use Rattle.sheet_text.specs.Pieces as spec
use Rattle.sheet_text.specs.Pieces.{whole, cut, pieces_in, pieces, piece_at, pieces_by, Split, Moved}

-- ---- the piece at a place

module _ (s : Bytes) (at : ℕ) where
  pub piece_nothing : length s - at ≡ 0 → Piece.Nothing ≡ piece_at s at
  unfolding piece_at
  piece_nothing h = rw (eq-eqb (length s - at) 0 h)

  pub piece_short : (length s - at ≡ 0 → ⊥) → length s - at < 2 → Piece.Cut ≡ piece_at s at
  unfolding piece_at
  piece_short n h = rw (ne_eqb (length s - at) 0 n, lt-ltb (length s - at) 2 h)

  pub piece_cut : (w : ℕ) → w ≡ word_at s at 2 → 2 ≤ length s - at → length s - at - 2 < w → Piece.Cut ≡ piece_at s at
  unfolding piece_at
  piece_cut w e h l =
      rw (
        ne_eqb (length s - at) 0 (omega arith),
        le-ltb (length s - at) 2 h,
        lt-ltb (length s - at - 2) (word_at s at 2) (omega arith),
      )

  pub piece_whole : (w : ℕ) → w ≡ word_at s at 2 → 2 ≤ length s - at → w ≤ length s - at - 2 → Piece.Whole (at + 2) w ≡ piece_at s at
  unfolding piece_at
  piece_whole w e h l =
      rw (
        ne_eqb (length s - at) 0 (omega arith),
        le-ltb (length s - at) 2 h,
        le-ltb (length s - at - 2) (word_at s at 2) (omega arith),
        e,
      )

-- ---- the split by its first piece

cond_both : {A : Type 0} (b : Bool) (x y z w : A) → x ≡ y → (b ≡ false → z ≡ w) → cond b x z ≡ cond b y w
cond_both true x y z w p q = p
cond_both false x y z w p q = q refl

-- past the length of s the most does not matter
pieces_enough : (f g : ℕ) (s : Bytes) → length s < f → length s < g → pieces_in f s ≡ pieces_in g s
unfolding pieces_in
pieces_enough zero g s h k = absurd (omega arith)
pieces_enough (suc f) zero s h k = absurd (omega arith)
pieces_enough (suc f) (suc g) s h k =
    cond_both (eqb (length s) 0) [] [] _ _ refl
    (λ e. let some = eqb-false (length s) 0 e in
    cond_both (ltb (length s) 2) (cut ∷ []) (cut ∷ []) _ _ refl
    (λ _. cond_both (ltb (length s - 2) (word_at s 0 2)) (cut ∷ []) (cut ∷ []) _ _ refl
    (λ _. let l = length-drop (2 + word_at s 0 2) s in
    ap (λ (ps : List spec.Piece). whole (part s 2 (word_at s 0 2)) ∷ ps)
    (pieces_enough f g (drop (2 + word_at s 0 2) s) (omega arith) (omega arith)))))

word_drop : (at : ℕ) (s : Bytes) → word_at (drop at s) 0 2 ≡ word_at s at 2
word_drop at s = word_shift (drop at s) s 0 at 2 (λ i h. ap (λ (k : ℕ). get_or (drop at s) k 0) (zero-add i) ∙ get_or-drop at s i 0)

part_drop : (at n : ℕ) (s : Bytes) → part (drop at s) 2 n ≡ part s (at + 2) n
unfolding part
part_drop at n s = ap (take n) (drop-drop 2 at s)

-- one turn of the split of n bytes: by the length w that is said first, the bytes b behind it and the later pieces ps
abbrev turn : ℕ → ℕ → Bytes → List spec.Piece → List spec.Piece
turn n w b ps = cond (eqb n 0) [] (cond (ltb n 2) (cut ∷ []) (cond (ltb (n - 2) w) (cut ∷ []) (whole b ∷ ps)))

pieces_turn : (u : Bytes) → pieces u ≡ turn (length u) (word_at u 0 2) (part u 2 (word_at u 0 2)) (pieces_in (length u) (drop (2 + word_at u 0 2) u))
unfolding pieces pieces_in
pieces_turn u = refl

pieces_most : (f : ℕ) (u : Bytes) → length u < f → pieces_in f u ≡ pieces u
unfolding pieces
pieces_most f u h = pieces_enough f (suc (length u)) u h (omega arith)

by_tests : (a b c : Bool) (s : Bytes) (at w : ℕ) (ps : List spec.Piece) → (a ≡ false → ps ≡ pieces (drop (at + 2 + w) s))
    → cond a [] (cond b (cut ∷ []) (cond c (cut ∷ []) (whole (part s (at + 2) w) ∷ ps)))
    ≡ pieces_by s (cond a Piece.Nothing (cond b Piece.Cut (cond c Piece.Cut (Piece.Whole (at + 2) w))))
by_tests true b c s at w ps e = refl
by_tests false true c s at w ps e = refl
by_tests false false true s at w ps e = refl
by_tests false false false s at w ps e = ap (λ (x : List spec.Piece). whole (part s (at + 2) w) ∷ x) (e refl)

-- the pieces of what lies from a place on are those that the piece there tells
pub split_by : (s : Bytes) (at : ℕ) → pieces (drop at s) ≡ pieces_by s (piece_at s at)
unfolding piece_at
split_by s at =
    let u = drop at s in
    let v = word_at s at 2 in
    let l : length u ≡ length s - at = length-drop at s in
    let w : word_at u 0 2 ≡ v = word_drop at s in
    let b : part u 2 (word_at u 0 2) ≡ part s (at + 2) v = ap (part u 2) w ∙ part_drop at v s in
    let d : drop (2 + word_at u 0 2) u ≡ drop (at + 2 + v) s
    = drop-drop (2 + word_at u 0 2) at s ∙ ap (λ (k : ℕ). drop k s) (let e : at + (2 + word_at u 0 2) ≡ at + 2 + v = omega arith in e) in
    pieces_turn u
    ∙ (λ i. turn (l i) (w i) (b i) (pieces_in (length u) (d i)))
    ∙ by_tests (eqb (length s - at) 0) (ltb (length s - at) 2) (ltb (length s - at - 2) v) s at v (pieces_in (length u) (drop (at + 2 + v) s))
    (λ e. let some = eqb-false (length s - at) 0 e in
    let m = length-drop (at + 2 + v) s in
    pieces_most (length u) (drop (at + 2 + v) s) (omega arith))

pub split_told : (s : Bytes) (at : ℕ) (r : Piece) → r ≡ piece_at s at → Split s at r
split_told s at r e = record { answer = e; rest = split_by s at ∙ ap (pieces_by s) (sym e) }

-- what a whole piece's tests were
whole_tests : (a b c : Bool) (x y body size : ℕ)
    → cond a Piece.Nothing (cond b Piece.Cut (cond c Piece.Cut (Piece.Whole x y))) ≡ Piece.Whole body size
    → (b ≡ false) × (c ≡ false) × (x ≡ body) × (y ≡ size)
whole_tests true b c x y body size e = absurd (let z : ◌≡◌ {A = ℕ} 0 1 = cc in omega arith)
whole_tests false true c x y body size e = absurd (let z : ◌≡◌ {A = ℕ} 0 1 = cc in omega arith)
whole_tests false false true x y body size e = absurd (let z : ◌≡◌ {A = ℕ} 0 1 = cc in omega arith)
whole_tests false false false x y body size e = (refl, refl, cc, cc)

-- a whole piece begins behind its length and ends within the bytes
pub record Within (s : Bytes) (at body size : ℕ) : Type 0 where
  pub begins : body ≡ at + 2
  pub sized : size ≡ word_at s at 2
  pub ends : body + size ≤ length s

pub whole_within : (s : Bytes) (at body size : ℕ) (p : Piece) → Split s at p → p ≡ Piece.Whole body size → Within s at body size
unfolding piece_at
whole_within s at body size p e f =
    let w = whole_tests (eqb (length s - at) 0) (ltb (length s - at) 2) (ltb (length s - at - 2) (word_at s at 2)) (at + 2) (word_at s at 2) body size (sym e.answer ∙ f) in
    let two = ltb-false (length s - at) 2 w.0 in
    let fits = ltb-false (length s - at - 2) (word_at s at 2) w.1 in
    record { begins = sym w.2; sized = sym w.3; ends = omega (arith, w.2, w.3) }

-- ---- bytes that follow

turn_whole : (n w : ℕ) (b : Bytes) (ps : List spec.Piece) → 2 ≤ n → w ≤ n - 2 → turn n w b ps ≡ whole b ∷ ps
turn_whole n w b ps h l = rw (ne_eqb n 0 (omega arith), le-ltb n 2 h, le-ltb (n - 2) w l)

-- a whole piece stays the first, whatever bytes follow
whole_first : (u more : Bytes) (w : ℕ) → w ≡ word_at u 0 2 → 2 + w ≤ length u
    → pieces (u ++ more) ≡ whole (part u 2 w) ∷ pieces (drop (2 + w) u ++ more)
unfolding part
whole_first u more w e h =
    let v = u ++ more in
    let n = length-append u more in
    let same : word_at v 0 2 ≡ w
    = word_agree v u 0 2 (λ i a b. get_or-append u more 0 i (omega arith)) ∙ sym e in
    let body : take w (drop 2 v) ≡ take w (drop 2 u)
    = ap (take w) (drop-append-le 2 u more (omega arith)) ∙ take-append-le w (drop 2 u) more (let l = length-drop 2 u in omega arith) in
    let rest : drop (2 + w) v ≡ drop (2 + w) u ++ more = drop-append-le (2 + w) u more h in
    pieces_turn v
    ∙ (λ i. turn (length v) (same i) (part v 2 (same i)) (pieces_in (length v) (drop (2 + same i) v)))
    ∙ turn_whole (length v) w (part v 2 w) (pieces_in (length v) (drop (2 + w) v)) (omega arith) (omega arith)
    ∙ (λ i. whole (body i) ∷ pieces_most (length v) (drop (2 + w) v) (let l = length-drop (2 + w) v in omega arith) i)
    ∙ ap (λ (x : Bytes). whole (take w (drop 2 u)) ∷ pieces x) rest

pub piece_joined : (s more : Bytes) (at body size : ℕ) → Within s at body size
    → pieces (drop at s ++ more) ≡ whole (part s body size) ∷ pieces (drop (body + size) s ++ more)
piece_joined s more at body size w =
    let l = length-drop at s in
    let e : at + (2 + size) ≡ body + size = omega (arith, w.begins) in
    whole_first (drop at s) more size (w.sized ∙ sym (word_drop at s)) (omega (arith, w.begins, w.ends))
    ∙ (λ i. whole ((part_drop at size s ∙ ap (λ (k : ℕ). part s k size) (sym w.begins)) i)
    ∷ pieces ((drop-drop (2 + size) at s ∙ ap (λ (k : ℕ). drop k s) e) i ++ more))

-- ---- a rest moved to the front

pub moved_front : (s t : Bytes) (a e : ℕ) → CopiedTo s t a 0 (e - a) → Moved s a e (e - a) t
moved_front s t a e m =
    record {
      count = refl;
      front = bytes_shift t s 0 a (e - a) (λ k l. ap (λ (j : ℕ). get_or t j 0) (zero-add k) ∙ m k 0 (omega arith) (omega arith) ∙ ap (λ (j : ℕ). get_or s (a + j) 0) (let e : k - 0 ≡ k = omega arith in e));
    }
