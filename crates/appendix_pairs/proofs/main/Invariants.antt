-- `appendix_pairs::main`: each pair passed was judged, and counted once at most beside that.
-- Assumes nothing.
use Rattle.std.proofs.Common.{◌≡◌, ◌≤◌}
use Rattle.appendix_pairs.proofs.main.Given as goal

abbrev pub invariant-loop-pair : goal.invariant-loop-pair
invariant-loop-pair l = (l.judged ≡ l.pair) × (l.matching ≤ l.pair) × (l.differing ≤ l.pair)
