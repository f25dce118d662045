-- `log_prefix::table::Prefixes::first_of` meets its contract.
-- Assumes nothing.
use Prim.Native.Nat.{◌-◌}
use mathlib.Core.Path.{◌≡◌}
use Rattle.storage.specs.Tables.{prefix_row}
use Rattle.log_prefix.specs.Prefix.{search_from, is_of, first}
use Rattle.log_prefix.proofs.table.Prefixes.first_of.Given as goal

abbrev pub invariant-loop-k : goal.invariant-loop-k
invariant-loop-k l =
    first (prefix_row l.self.rows.now) l.self.count l.index.0 l.term.0 ≡ search_from (λ j. is_of l.index.0 l.term.0 (prefix_row l.self.rows.now j)) l.k (l.self.count - l.k)
