-- `storage::rows::all_rows` meets its contract. The invariant: the answer is that of the rows that are left.
-- Assumes nothing.
use Rattle.std.proofs.Common.{◌≡◌, ◌-◌, Bool}
use Rattle.storage_bytes.specs.Lists.{every, tabulate}
use Rattle.storage.proofs.rows.all_rows.Given as goal

abbrev pub invariant-loop-k : goal.invariant-loop-k
invariant-loop-k g l =
    (p : g.R.StoredRow.Value → Bool) → ((x : _) (b : Bool) → goal.F-post g l.test x b → b ≡ p (g.R.StoredRow.value x))
    → every p (tabulate (g.R.StoredRow.stored l.table) 0 l.m) ≡ every p (tabulate (g.R.StoredRow.stored l.table) l.k (l.m - l.k))
