-- `record_editions::turn::portions_end` meets its contract: the end is that of what is left.
-- Assumes nothing.
use Prim.Native.Nat.{◌-◌}
use mathlib.Core.Path.{◌≡◌}
use Rattle.record_entries.specs.BitLayout.{bits_of, first_entry, Walk}
use Rattle.record_editions.specs.Turned.{portions_end}
use Rattle.record_editions.proofs.turn.portions_end.Given as goal

abbrev pub invariant-loop : goal.invariant-loop
invariant-loop l =
    let v = bits_of l.view.bytes.now l.view.marked in
    Walk v l.at (l.count - l.counter)
    × (portions_end v first_entry l.count ≡ portions_end v l.at (l.count - l.counter))
