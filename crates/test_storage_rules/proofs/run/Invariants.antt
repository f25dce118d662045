-- `test_storage_rules::run` is safe and ends: each line starts behind the one before it.
-- Assumes nothing.
use Rattle.std.proofs.Common.{length, ◌-◌}
use Rattle.test_storage_rules.proofs.run.Given as goal

abbrev pub decreases-loop-at : goal.decreases-loop-at
decreases-loop-at g l = length l.s - l.at
