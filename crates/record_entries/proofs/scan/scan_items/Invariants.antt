-- `record_entries::scan::scan_items` meets its contract: the list ends where what is left of it ends.
-- Assumes nothing.
use Prim.Native.Nat.{◌+◌, ◌-◌, ◌*◌, ◌^◌, ◌≤◌}
use mathlib.Core.Path.{◌≡◌}
use Rattle.model.specs.Reading.{many}
use Rattle.record_entries.specs.Scans.{ended}
use Rattle.record_entries.proofs.scan.scan_items.Given as goal

abbrev pub invariant-loop : goal.invariant-loop
invariant-loop g l =
    let i = g.I.Item in
    (l.at + i.size * (l.count - l.counter) ≤ 2 ^ 32)
    × (ended (many i.read i.key 0 l.count l.s l.first) ≡ ended (many i.read i.key l.least (l.count - l.counter) l.s l.at))
