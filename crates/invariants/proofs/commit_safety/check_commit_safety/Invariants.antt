-- `invariants::commit_safety::check_commit_safety` meets its contract: the verdict is that of the rows that are left, from the least
-- rule that failed so far.
-- Assumes nothing.
use Prim.Native.Nat.{◌-◌}
use mathlib.Core.Path.{◌≡◌}
use Rattle.model.specs.Rows.{verdict}
use Rattle.record_entries.specs.BitLayout.{RowWalk, rows_at, first_row}
use Rattle.invariants.specs.Rules.{least, node_in, least_from}
use Rattle.invariants.proofs.commit_safety.check_commit_safety.Given as goal

abbrev pub invariant-loop : goal.invariant-loop
invariant-loop l =
    RowWalk l.s l.at (l.count - l.counter)
    × (verdict (rows_at l.s first_row l.count) ≡ least_from (least l.failed) (node_in l.failed) (rows_at l.s l.at (l.count - l.counter)))
