-- `input_blocks::fill` meets its contract: what stands at the start of the block is what the reader gave, in its order.
-- Assumes nothing.
use Rattle.std.proofs.Common.{length, ◌-◌, take, ◌≡◌, ◌≤◌}
use Rattle.std.specs.Io.KnownBytes.{Consumes}
use Rattle.input_blocks.proofs.fill.Given as goal

abbrev pub invariant-loop-filled : goal.invariant-loop-filled
invariant-loop-filled g l =
    (l.filled ≤ length l.block) × (length l.block ≡ length l.initial.block)
    × Consumes (g.R.Read.remaining l.initial.reader) (g.R.Read.remaining l.reader) (take l.filled l.block)

abbrev pub decreases-loop-filled : goal.decreases-loop-filled
decreases-loop-filled g l = length l.initial.block - l.filled
