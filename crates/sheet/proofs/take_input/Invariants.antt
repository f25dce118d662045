-- `sheet::take_input` meets its contract.
-- Assumes nothing.
use Rattle.std.proofs.Common.{◌≤◌}
use Rattle.sheet.proofs.take_input.Given as goal

abbrev pub invariant-loop : goal.invariant-loop
invariant-loop g l = l.rest ≤ 131072
