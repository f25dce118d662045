-- `lists::pick::nth_held` meets its contract.
-- Assumes nothing.
use native.Mathlib.Omega.{arith}
use mathlib.Core.Path.{refl}
use Rattle.lists.proofs.PickLaws.{left_over, left_later, picked_here, picked_none}
use Rattle.lists.proofs.pick.nth_held.Goals as goal

pub loop-k-preserved-in_default : goal.loop-k-preserved-in_default
loop-k-preserved-in_default g c = (omega arith, left_over _ _ _ _ _ c.loop-k.invariant.1 c.in_default.ensures c.loop-k-test.true)

pub returns-then-left-eq0 : goal.returns-then-left-eq0
returns-then-left-eq0 g c = picked_here _ _ _ _ _ c.loop-k.invariant.1 c.in-Some.ensures c.loop-k-test.true c.if-left-eq0.true

pub loop-k-preserved : goal.loop-k-preserved
loop-k-preserved g c = (omega arith, left_later _ _ _ _ _ c.loop-k.invariant.1 c.in-Some.ensures c.loop-k-test.true c.if-left-eq0.false refl)

pub returns : goal.returns
returns g c = picked_none _ _ _ _ _ c.loop-k.invariant.1 c.loop-k-test.false
