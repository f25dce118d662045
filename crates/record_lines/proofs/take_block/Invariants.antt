-- `record_lines::take_block` meets its contract: the numbers that are kept have their room.
-- Assumes nothing.
use Prim.Native.Nat.{◌≤◌}
use Rattle.record_lines.proofs.take_block.Given as goal

abbrev pub invariant-loop-b : goal.invariant-loop-b
invariant-loop-b g l = l.line.count ≤ 8964
