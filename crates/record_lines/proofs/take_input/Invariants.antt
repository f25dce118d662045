-- `record_lines::take_input` meets its contract: the numbers that are kept have their room.
-- Assumes nothing.
use Prim.Native.Nat.{◌≤◌}
use Rattle.record_lines.proofs.take_input.Given as goal

abbrev pub invariant-loop : goal.invariant-loop
invariant-loop g l = l.line.count ≤ 8964
