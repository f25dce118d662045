-- `record_writing::put::put_rows` meets its contract: a turn writes one row of what is left.
-- Assumes nothing.
use native.Mathlib.Omega.{arith}
use Rattle.record_writing.specs.Puts.{spans_by, row_widths}
use Rattle.record_writing.proofs.Puts.{room_first, row_next, row_left, row_end, row_total}
use Rattle.record_writing.proofs.put.put_rows.Goals as goal

pub put_fields-requires : goal.put_fields-requires
put_fields-requires c = let l = row_next c.args.fields.now c.loop.k _ _ c.loop.invariant c.loop-test.true in room_first _ _ l.room

pub overflow_add-next : goal.overflow_add-next
overflow_add-next c =
    let l = row_next c.args.fields.now c.loop.k _ _ c.loop.invariant c.loop-test.true in
    let r = room_first (spans_by row_widths c.args.fields.now c.loop.k) _ l.room in
    record { fits = omega (arith, r.near, row_total c.args.fields.now c.loop.k) }

pub loop-preserved : goal.loop-preserved
loop-preserved c = row_left c.args.fields.now c.loop.k _ _ c.loop.invariant c.loop-test.true c.put_fields.ensures

pub returns : goal.returns
returns c = row_end c.args.fields.now c.loop.k _ _ c.loop.invariant (omega arith)
