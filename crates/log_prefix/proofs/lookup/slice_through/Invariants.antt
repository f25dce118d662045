-- `log_prefix::lookup::slice_through` meets its contract. The invariant: at k, q goes through index end - (k - index).
-- Assumes nothing.
use Prim.Native.Nat.{ℕ, ◌+◌, ◌-◌, ◌≤◌}
use mathlib.Core.Path.{◌≡◌}
use Rattle.storage.specs.Tables.{prefix_row}
use Rattle.storage.specs.Values.{index_of}
use Rattle.log_prefix.specs.Table.{Table}
use Rattle.log_prefix.specs.Prefix.{slice_from}
use Rattle.log_prefix.proofs.Loops.{Sliced}
use Rattle.log_prefix.proofs.lookup.slice_through.Given as goal

abbrev pub invariant-loop-k : goal.invariant-loop-k
invariant-loop-k l =
    (n : ℕ) × Table l.prefixes n × (l.q.0 ≤ n) × (l.k-end + l.fn.index.0 - l.k ≡ index_of (prefix_row l.prefixes) l.q.0)
    × Sliced (prefix_row l.prefixes) l.fn.index.0 (slice_from (prefix_row l.prefixes) l.fn.index.0 l.initial.q.0 l.initial.q.0) l.q.0
