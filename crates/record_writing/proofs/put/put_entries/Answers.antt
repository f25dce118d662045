-- `record_writing::put::put_entries` meets its contract: a turn writes one entry of what is left.
-- Assumes nothing.
use Prim.Native.Nat.{◌^◌, ◌<◌}
use native.Mathlib.Omega.{arith}
use lib.ListN.{length}
use Rattle.record_writing.specs.Puts.{entry_by}
use Rattle.record_writing.proofs.Puts.{room_first, entry_next, entry_left, entry_end, entry_total, entry_length}
use Rattle.std.proofs.Common.{rules}
use Rattle.record_writing.proofs.put.put_entries.Goals as goal

pub put_entry-n-requires : goal.put_entry-n-requires
put_entry-n-requires c = let l = entry_next c.args.fields.now c.loop.k _ _ c.loop.invariant c.loop-test.true in room_first _ _ l.room

pub overflow_add-next : goal.overflow_add-next
overflow_add-next c =
    let l = entry_next c.args.fields.now c.loop.k _ _ c.loop.invariant c.loop-test.true in
    let r = room_first (entry_by c.args.fields.now c.loop.k) _ l.room in
    record { fits = omega (arith, r.near, entry_total c.args.fields.now c.loop.k) }

pub overflow_mul-next : goal.overflow_mul-next
overflow_mul-next c =
    let l = entry_next c.args.fields.now c.loop.k _ _ c.loop.invariant c.loop-test.true in
    let r = room_first (entry_by c.args.fields.now c.loop.k) _ l.room in
    record { fits = omega (arith, r.near, entry_total c.args.fields.now c.loop.k, c.put_entry-n.ensures.count) }

pub overflow_add-next-in-loop : goal.overflow_add-next-in-loop
overflow_add-next-in-loop c =
    let l = entry_next c.args.fields.now c.loop.k _ _ c.loop.invariant c.loop-test.true in
    let r = room_first (entry_by c.args.fields.now c.loop.k) _ l.room in
    record { fits = omega (arith, r.near, entry_total c.args.fields.now c.loop.k, c.put_entry-n.ensures.count) }

pub overflow_add-k-in-loop : goal.overflow_add-k-in-loop
overflow_add-k-in-loop c =
    let l = entry_next c.args.fields.now c.loop.k _ _ c.loop.invariant c.loop-test.true in
    let r = room_first (entry_by c.args.fields.now c.loop.k) _ l.room in
    let h : length c.args.fields.now < 2 ^ 60 = search rules in
    record { fits = omega (arith, h, r.numbers, entry_length c.args.fields.now c.loop.k, c.put_entry-n.ensures.count) }

pub loop-preserved : goal.loop-preserved
loop-preserved c = entry_left c.args.fields.now c.loop.k _ _ c.loop.invariant c.loop-test.true c.put_entry-n.ensures.written c.put_entry-n.ensures.count

pub returns : goal.returns
returns c = entry_end c.args.fields.now c.loop.k _ _ c.loop.invariant (omega arith)
