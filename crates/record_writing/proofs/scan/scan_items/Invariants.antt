-- `record_writing::scan::scan_items` meets its contract: the list ends where what is left of it ends.
-- Assumes nothing.
use Prim.Native.Nat.{◌-◌}
use mathlib.Core.Path.{◌≡◌}
use Rattle.model.specs.Reading.{many}
use Rattle.record_entries.specs.Scans.{ended}
use Rattle.record_writing.proofs.scan.scan_items.Given as goal

abbrev pub invariant-loop : goal.invariant-loop
invariant-loop g l =
    let i = g.I.Item in
    (ended (many i.read i.key 0 l.count l.fields l.first) ≡ ended (many i.read i.key l.least (l.count - l.counter) l.fields l.at))
