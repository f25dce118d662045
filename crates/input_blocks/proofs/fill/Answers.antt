-- `input_blocks::fill` meets its contract: what stands at the start of the block is what the reader gave, in its order.
-- Assumes nothing.
use Rattle.std.proofs.Common.{◌≡◌, ℕ, ◌+◌, ◌-◌, ◌≤◌, List, ◌++◌, rules, arith, length, take, slice_range, sym, ap, ◌∙◌, subst, le_refl, drop_at, length-take-le}
use Rattle.std.proofs.lemmas.Slice.{take-put_mid_below}
use Rattle.std.specs.Io.KnownBytes.{Consumes}
use Rattle.std.proofs.KnownBytes.{Consumes-nil, Consumes-trans}
use borrow.Rule.Slice.PartMut.{put_mid, post_of}
use lib.Seq.{take-add, take-append-le}
use Rattle.input_blocks.proofs.fill.Goals as goal

-- the first a of old, then what stands from a to b in new, which begins like old
joined : (a b : ℕ) (old new : List ℕ) → a ≤ b → take a new ≡ take a old → take a old ++ slice_range new a b ≡ take b new
joined a b old new h front =
    let same : a + (b - a) ≡ b = omega arith in
    ap (λ l. l ++ slice_range new a b) (sym front) ∙ sym (take-add a (b - a) new) ∙ ap (λ n. take n new) same

-- of ys, put into xs at a, the first n
put_part : (a k n : ℕ) (xs ys : List ℕ) → a ≤ length xs → n ≤ length ys → slice_range (put_mid a k xs ys) a (a + n) ≡ take n ys
put_part a k n xs ys within fits =
    let same : (a + n) - a ≡ n = omega arith in
    let after = post_of a k xs in
    ap (take ((a + n) - a)) (drop_at (take a xs) (ys ++ after) a (length-take-le a xs within)) ∙ ap (λ m. take m (ys ++ after)) same ∙ take-append-le n ys after fits

-- the block is filled up to a, and then by n bytes of ys
filled_on : (a k n : ℕ) (xs ys : List ℕ) → a ≤ length xs → n ≤ length ys → take a xs ++ take n ys ≡ take (a + n) (put_mid a k xs ys)
filled_on a k n xs ys within fits =
    ap (λ l. take a xs ++ l) (sym (put_part a k n xs ys within fits))
    ∙ joined a (a + n) xs (put_mid a k xs ys) (omega arith) (take-put_mid_below _ _ _ _ _ (le_refl _) within)

pub loop-filled-init : goal.loop-filled-init
loop-filled-init g c = (search rules, search rules, Consumes-nil _)

pub loop-filled-preserved : goal.loop-filled-preserved
loop-filled-preserved g c =
    let room = length c.loop-filled.block - c.loop-filled.filled in
    let same = filled_on c.loop-filled.filled room c.in_ok-n.n c.loop-filled.block c.read.new.buf c.loop-filled.invariant.0 c.in_ok-n.ensures.bound.0 in
    (search rules, search rules, subst (Consumes _ _) same (Consumes-trans _ _ _ _ _ c.loop-filled.invariant.2 c.in_ok-n.ensures.bytes.0))

pub returns-after-loop-filled-clause-bound : goal.returns-after-loop-filled-clause-bound
returns-after-loop-filled-clause-bound g c = (c.loop-filled.invariant.0, sym (length-take-le _ _ c.loop-filled.invariant.0))

pub returns-after-loop-filled-clause-bytes : goal.returns-after-loop-filled-clause-bytes
returns-after-loop-filled-clause-bytes g c = c.loop-filled.invariant.2

pub returns-then-n-eq0-clause-bytes : goal.returns-then-n-eq0-clause-bytes
returns-then-n-eq0-clause-bytes g c =
    let from = c.loop-filled.filled in
    let room = length c.loop-filled.block - from in
    let none = c.if-n-eq0.true in
    let same = filled_on from room c.in_ok-n.n c.loop-filled.block c.read.new.buf c.loop-filled.invariant.0 c.in_ok-n.ensures.bound.0 in
    let here : from + c.in_ok-n.n ≡ from = omega arith in
    subst (Consumes _ _) (same ∙ ap (λ m. take m (put_mid from room c.loop-filled.block c.read.new.buf)) here) (Consumes-trans _ _ _ _ _ c.loop-filled.invariant.2 c.in_ok-n.ensures.bytes.0)
