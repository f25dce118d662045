-- `sheet::take_block` meets its contract: of the block so far.
-- Assumes nothing.
use Rattle.std.proofs.Common.{length, ◌-◌}
use Rattle.sheet.specs.Input.{BlockTaken}
use Rattle.sheet.proofs.take_block.Given as goal

abbrev pub invariant-loop-number : goal.invariant-loop-number
invariant-loop-number g l =
    BlockTaken l.initial.history l.block l.first (g.W.Write.contents l.initial.writer) (g.W.Write.contents l.writer) l.number l.from l.history

abbrev pub decreases-loop-number : goal.decreases-loop-number
decreases-loop-number g l = length l.block - l.from
