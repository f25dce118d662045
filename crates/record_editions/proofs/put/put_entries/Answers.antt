-- `record_editions::put::put_entries` meets its contract: a turn writes the next entry.
-- Assumes nothing.
use Prim.Native.Nat.{◌+◌, ◌-◌}
use mathlib.Core.Path.{◌≡◌}
use native.Mathlib.Omega.{arith}
use Rattle.record_entries.proofs.Walks.{here}
use Rattle.record_editions.proofs.Entries.{next_portion, next_room, turning_next, turning_end}
use Rattle.record_editions.proofs.put.put_entries.Goals as goal

pub next_at-next-requires : goal.next_at-next-requires
next_at-next-requires c = here _ _ _ c.loop.invariant.walk (omega arith)

pub put_entry-at-requires-clause-here : goal.put_entry-at-requires-clause-here
put_entry-at-requires-clause-here c = here _ _ _ c.loop.invariant.walk (omega arith)

pub put_entry-at-requires-clause-portion : goal.put_entry-at-requires-clause-portion
put_entry-at-requires-clause-portion c = next_portion c.loop.invariant (omega arith)

pub put_entry-at-requires-clause-room : goal.put_entry-at-requires-clause-room
put_entry-at-requires-clause-room c = (next_room c.loop.invariant (omega arith), omega (arith, c.loop.invariant.near))

pub loop-preserved : goal.loop-preserved
loop-preserved c =
    let d : c.args.count - (c.loop.counter + 1) ≡ c.args.count - c.loop.counter - 1 = omega arith in
    rw (c.next_at-next.ensures, d) (turning_next c.loop.invariant (omega arith) c.put_entry-at.ensures.written c.put_entry-at.ensures.next)

pub returns : goal.returns
returns c = turning_end c.loop.invariant (omega arith)
