-- `lists::findings::finding_in` meets its contract. The invariant: the answer is that of the rows that are left, at the place among them.
-- Assumes nothing.
use Prim.Native.Nat.{◌-◌, ◌≤◌}
use mathlib.Core.Path.{◌≡◌}
use Rattle.storage_bytes.specs.Lists.{tabulate}
use Rattle.storage.specs.Tables.{finding_row, finding_rows}
use Rattle.lists.specs.Findings.{pick_ordered}
use Rattle.lists.proofs.findings.finding_in.Given as goal

abbrev pub invariant-loop-k : goal.invariant-loop-k
invariant-loop-k l =
    (l.k ≤ l.m) × (pick_ordered (finding_rows l.findings l.m) l.n ≡ pick_ordered (tabulate (finding_row l.findings) l.k (l.m - l.k)) l.left)
