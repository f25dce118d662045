-- `lists::leaders::least_from` meets its contract. The invariant: the best so far is the least of the rows passed, the last ones.
-- Assumes nothing.
use Prim.Native.Nat.{◌-◌, ◌≤◌}
use mathlib.Core.Path.{◌≡◌}
use Rattle.storage_bytes.specs.Lists.{tabulate}
use Rattle.storage.specs.Tables.{finding_row}
use Rattle.lists.specs.Leaders.{after, least_in}
use Rattle.lists.proofs.leaders.least_from.Given as goal

abbrev pub invariant-loop-k : goal.invariant-loop-k
invariant-loop-k l =
    (l.k ≤ l.m) × (l.best ≡ least_in (after l.last) (tabulate (finding_row l.findings) l.k (l.m - l.k)))
