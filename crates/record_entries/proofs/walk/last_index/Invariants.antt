-- `record_entries::walk::last_index` meets its contract: the last index is that of what is left.
-- Assumes nothing.
use Prim.Native.Nat.{◌-◌}
use mathlib.Core.Path.{◌≡◌}
use Rattle.model.specs.Record.{last_from}
use Rattle.record_entries.specs.BitLayout.{Walk, bits_of, entries_at}
use Rattle.record_entries.proofs.walk.last_index.Given as goal

abbrev pub invariant-loop : goal.invariant-loop
invariant-loop l =
    let v = bits_of l.view.bytes.now l.view.marked in
    Walk v l.at (l.count - l.counter)
    × (last_from l.initial.last.0 (entries_at v l.from l.count) ≡ last_from l.last.0 (entries_at v l.at (l.count - l.counter)))
