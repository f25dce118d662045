-- `lists::pick::nth_held` meets its contract. The invariant: the answer is that of the places that are left, with so many still to pass.
-- Assumes nothing.
use Rattle.std.proofs.Common.{◌≤◌}
use Rattle.lists.proofs.PickLaws.{Left}
use Rattle.lists.proofs.pick.nth_held.Given as goal

abbrev pub invariant-loop-k : goal.invariant-loop-k
invariant-loop-k g l = (l.k ≤ l.m) × Left (goal.F-post g l.held) l.m l.n l.k l.left
