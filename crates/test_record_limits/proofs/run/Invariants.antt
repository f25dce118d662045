-- `test_record_limits::run` meets its contract: each case is shorter than what was left before it.
-- Assumes nothing.
use Rattle.std.proofs.Common.{length, ◌≤◌}
use Rattle.test_record_limits.proofs.run.Given as goal

abbrev pub invariant-loop-space : goal.invariant-loop-space
invariant-loop-space g l = length l.rest ≤ length l.s

abbrev pub decreases-loop-space : goal.decreases-loop-space
decreases-loop-space g l = length l.rest
