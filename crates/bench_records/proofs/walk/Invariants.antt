-- `bench_records::walk` meets its contract: the sum is what was added, and the sum of what is left.
-- Assumes nothing.
use Prim.Native.Nat.{◌+◌, ◌-◌, ◌*◌, ◌≤◌}
use mathlib.Core.Path.{◌≡◌}
use Rattle.record_entries.specs.BitLayout.{entries_at, first_entry, bits_of, view_bits}
use Rattle.bench_records.specs.Used.{contents_of}
use Rattle.bench_records.proofs.walk.Given as goal

abbrev pub invariant-loop-e : goal.invariant-loop-e
invariant-loop-e l =
    let w = l.e-iterator in
    let s = view_bits l.s in
    (bits_of w.view.bytes.now w.view.marked ≡ s)
    × (w.left ≤ l.count)
    × (l.sum ≤ 8160 * (l.count - w.left))
    × (contents_of (entries_at s first_entry l.count) ≡ l.sum + contents_of (entries_at s w.next w.left))
