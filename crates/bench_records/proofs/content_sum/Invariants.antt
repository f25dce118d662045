-- `bench_records::content_sum` meets its contract: the sum is what was added, and the sum of what is left.
-- Assumes nothing.
use Prim.Native.Nat.{◌+◌, ◌*◌, ◌≤◌}
use mathlib.Core.Path.{◌≡◌}
use lib.ListN.{drop}
use Rattle.bench_records.specs.Used.{sum_of}
use Rattle.bench_records.proofs.content_sum.Given as goal

abbrev pub invariant-loop-x : goal.invariant-loop-x
invariant-loop-x l =
    (l.sum ≤ 255 * l.x-index) × (sum_of l.x-items ≡ l.sum + sum_of (drop l.x-index l.x-items))
