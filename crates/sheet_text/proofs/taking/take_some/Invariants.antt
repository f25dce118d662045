-- `sheet_text::taking::take_some` meets its contract.
-- Assumes nothing.
use Prim.Native.Nat.{◌≤◌}
use mathlib.Core.Path.{◌≡◌}
use lib.ListN.{length}
use Rattle.sheet_text.proofs.TakingLaws.{Taking}
use Rattle.sheet_text.specs.Sheet.{taken_most}
use Rattle.sheet_text.proofs.taking.take_some.Given as goal

abbrev pub invariant-loop-count : goal.invariant-loop-count
invariant-loop-count l =
    Taking l.initial.history l.block l.initial.sheet l.first l.start l.count l.from l.history l.sheet × (l.count ≤ taken_most) × (length l.history ≡ length l.initial.history)
