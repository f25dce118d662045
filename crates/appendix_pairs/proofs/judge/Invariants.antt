-- `appendix_pairs::judge`: no more findings are asked for than there are places.
-- Assumes nothing.
use Rattle.std.proofs.Common.{◌≤◌}
use Rattle.appendix_pairs.proofs.judge.Given as goal

abbrev pub invariant-loop-place : goal.invariant-loop-place
invariant-loop-place l = l.n ≤ l.place
