-- `record_writing::put::put_entry` meets its contract: the content goes into the part that begins with its byte.
-- Assumes nothing.
use Prim.Native.Nat.{ℕ, ◌+◌, ◌/◌, ◌≤◌}
use mathlib.Core.Path.{◌≡◌, ap, sym, ◌∙◌}
use native.Mathlib.Omega.{arith}
use lib.ListN.{length}
use Rattle.model.specs.Sizes.{Bytes}
use Rattle.record_writing.specs.Spans.{total}
use Rattle.record_writing.specs.Puts.{put_spans, spans_by, head_widths, contents_by, content_count}
use Rattle.record_writing.proofs.Puts.{room_first, content_room, head_total, head_length, put_append, spans_lent, room_lent}
use Rattle.std.proofs.Common.{rules}
use Rattle.record_writing.proofs.put.put_entry.Goals as goal

pub put_fields-requires : goal.put_fields-requires
put_fields-requires c = room_first (spans_by head_widths c.args.fields.now c.args.from) _ c.requires

pub bounds-fields-from : goal.bounds-fields-from
bounds-fields-from c =
    let a = c.args in
    let r = room_first (spans_by head_widths a.fields.now a.from) _ c.requires in
    omega (arith, r.numbers, head_length a.fields.now a.from)

pub overflow_add-next : goal.overflow_add-next
overflow_add-next c =
    let a = c.args in
    let r = room_first (spans_by head_widths a.fields.now a.from) _ c.requires in
    record { fits = omega (arith, r.near, head_total a.fields.now a.from) }

pub slice_bounds-put_content-count : goal.slice_bounds-put_content-count
slice_bounds-put_content-count c = let r = content_room c.args.t.now c.put_fields.new.t c.args.fields.now c.args.from c.requires c.put_fields.ensures in omega (arith, r.bits)

pub slice_bounds-put_content-start : goal.slice_bounds-put_content-start
slice_bounds-put_content-start c =
    let r = content_room c.args.t.now c.put_fields.new.t c.args.fields.now c.args.from c.requires c.put_fields.ensures in
    let h : (c.args.at + 48) / 8 ≤ length c.put_fields.new.t = omega (arith, r.bits) in
    search rules

pub put_content-requires : goal.put_content-requires
put_content-requires c = let r = content_room c.args.t.now c.put_fields.new.t c.args.fields.now c.args.from c.requires c.put_fields.ensures in room_lent c.put_fields.new.t (c.args.at + 48) _ r (omega (arith, r.bits))

pub returns-clause-written : goal.returns-clause-written
returns-clause-written c =
    let a = c.args in
    let r = content_room c.args.t.now c.put_fields.new.t c.args.fields.now c.args.from c.requires c.put_fields.ensures in
    let heads = spans_by head_widths a.fields.now a.from in
    let cs = contents_by a.fields.now (a.from + 3) (content_count a.fields.now a.from) in
    spans_lent c.put_fields.new.t _ (a.at + 48) _ _ cs r (omega (arith, r.bits)) c.put_content.ensures
    ∙ ap (λ (t : Bytes). put_spans t (a.at + 48) cs) c.put_fields.ensures
    ∙ ap (λ (k : ℕ). put_spans (put_spans a.t.now a.at heads) k cs) (let e : a.at + 48 ≡ a.at + total heads = omega (arith, head_total a.fields.now a.from) in e)
    ∙ sym (put_append a.t.now a.at heads cs)
