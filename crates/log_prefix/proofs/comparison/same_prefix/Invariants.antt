-- `log_prefix::comparison::same_prefix` meets its contract.
-- Assumes nothing.
use Prim.Native.Nat.{ℕ, ◌≤◌}
use mathlib.Core.Path.{◌≡◌}
use lib.ListN.{length, drop}
use Rattle.storage.specs.Tables.{prefix_row}
use Rattle.storage_bytes.specs.Words.{same_bytes}
use Rattle.log_prefix.specs.Comparison.{same_entry, same_from}
use Rattle.log_prefix.specs.Table.{Table}
use Rattle.log_prefix.proofs.Turns.{Compared}
use Rattle.log_prefix.proofs.comparison.same_prefix.Given as goal

abbrev pub invariant-entries : goal.invariant-entries
invariant-entries l =
    (n : ℕ) × Table l.prefixes n × (l.p.0 ≤ n) × (l.q.0 ≤ n) × Compared (prefix_row l.prefixes) (same_from (prefix_row l.prefixes) l.initial.p.0 l.initial.p.0 l.initial.q.0) l.p.0 l.q.0

abbrev pub decreases-entries : goal.decreases-entries
decreases-entries l = l.p.0

-- the entries are the same if the bytes from k on are
abbrev pub invariant-loop-k : goal.invariant-loop-k
invariant-loop-k l =
    (length l.x ≡ l.size) × (length l.y ≡ l.size)
    × (same_entry (prefix_row l.prefixes l.i) (prefix_row l.prefixes l.j) ≡ same_bytes (drop l.k l.x) (drop l.k l.y))
