-- `record_writing::put::put_fields` meets its contract: a turn writes one field of what is left.
-- Assumes nothing.
use native.Mathlib.Omega.{arith}
use Rattle.record_writing.proofs.Puts.{next_room, next_left, end_left}
use Rattle.record_writing.proofs.put.put_fields.Goals as goal

pub bounds-fields-from : goal.bounds-fields-from
bounds-fields-from c = (next_room _ _ _ c.loop-i.invariant c.loop-i-test.true).number

pub put_bits-requires : goal.put_bits-requires
put_bits-requires c =
    let r = next_room _ _ _ c.loop-i.invariant c.loop-i-test.true in
    (r.some, omega (arith, r.narrow), r.holds, r.bits)

pub overflow_add-next : goal.overflow_add-next
overflow_add-next c = record { fits = (next_room _ _ _ c.loop-i.invariant c.loop-i-test.true).near }

pub loop-i-preserved : goal.loop-i-preserved
loop-i-preserved c = next_left _ _ _ c.loop-i.invariant c.loop-i-test.true c.put_bits.ensures (omega arith) (omega arith)

pub returns : goal.returns
returns c = end_left _ _ _ c.loop-i.invariant (omega arith)
