-- `log_prefix::table::Prefixes::find_extension` meets its contract.
-- Assumes nothing.
use Prim.Native.Nat.{◌-◌, ◌≤◌}
use mathlib.Core.Path.{◌≡◌}
use Rattle.storage.specs.Tables.{prefix_row}
use Rattle.storage.specs.Rules.{same_row}
use Rattle.log_prefix.specs.Table.{entry_value}
use Rattle.log_prefix.specs.Prefix.{row_of, search_from, find}
use Rattle.log_prefix.proofs.table.Prefixes.find_extension.Given as goal

abbrev pub invariant-loop-k : goal.invariant-loop-k
invariant-loop-k l =
    (l.k ≤ l.self.count)
    × (find (prefix_row l.self.rows.now) l.self.count (row_of l.p.0 0 (entry_value l.e))
    ≡ search_from (λ j. same_row (prefix_row l.self.rows.now j) (row_of l.p.0 0 (entry_value l.e))) l.k (l.self.count - l.k))
