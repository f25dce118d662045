-- `record_editions::put::put_entries` meets its contract: the entries that are left give the rest.
-- Assumes nothing.
use Prim.Native.Nat.{◌-◌}
use Rattle.record_entries.specs.BitLayout.{bits_of, first_entry}
use Rattle.record_editions.specs.Turned.{entries_turned}
use Rattle.record_editions.proofs.Entries.{Turning}
use Rattle.record_editions.proofs.put.put_entries.Given as goal

abbrev pub invariant-loop : goal.invariant-loop
invariant-loop l =
    let v = bits_of l.view.bytes.now l.view.marked in
    Turning v l.fn.t (entries_turned v first_entry l.count) l.t l.at l.from (l.count - l.counter)
