-- `sheet_text::closing::put_list` meets its contract. The invariant: the lines of the elements passed are put.
-- Assumes nothing.
use Prim.Native.Nat.{◌≤◌}
use Rattle.sheet_text.proofs.ClosingLaws.{Filled_to}
use Rattle.sheet_text.specs.Closing.{longest_list}
use Rattle.sheet_text.proofs.closing.put_list.Given as goal

abbrev pub invariant-loop-n : goal.invariant-loop-n
invariant-loop-n g l =
    Filled_to g.T.Listed.width (g.T.Listed.lines l.history.bytes.now) l.initial.sheet l.n l.sheet × (l.n ≤ longest_list)
