-- `record_writing::put::put_record` meets its contract: a record's first fields, and then its entries or rows.
-- Assumes nothing.
use mathlib.Core.Path.{◌≡◌}
use mathlib.Core.List.{◌++◌}
use lib.ListN.{get_or}
use Rattle.std.proofs.Common.{rules}
use Rattle.record_writing.specs.Puts.{spans_by, rows_by, record_by}
use Rattle.record_writing.proofs.Whole.{rows_widths, view_by, view_room, rows_room, view_rest, rows_rest, view_put, rows_put}
use Rattle.record_writing.proofs.put.put_record.Goals as goal

pub put_fields-requires : goal.put_fields-requires
put_fields-requires c = view_room c.args.fields.now (view_by c.args.fields.now c.in-1.is) c.requires

pub put_entries-requires : goal.put_entries-requires
put_entries-requires c = view_rest c.args.fields.now (view_by c.args.fields.now c.in-1.is) c.args.t.now _ c.requires c.put_fields.ensures

pub returns-in-1 : goal.returns-in-1
returns-in-1 c = view_put c.args.fields.now (view_by c.args.fields.now c.in-1.is) c.args.t.now _ _ c.put_fields.ensures c.put_entries.ensures

pub put_fields-requires-in_default : goal.put_fields-requires-in_default
unfolding record_by
put_fields-requires-in_default c =
    let f = c.args.fields.now in
    let e : record_by f ≡ spans_by rows_widths f 0 ++ rows_by f 2 (get_or f 1 0) = search rules in
    rows_room f e c.requires

pub put_rows-requires : goal.put_rows-requires
unfolding record_by
put_rows-requires c =
    let f = c.args.fields.now in
    let e : record_by f ≡ spans_by rows_widths f 0 ++ rows_by f 2 (get_or f 1 0) = search rules in
    rows_rest f e c.args.t.now _ c.requires c.put_fields-in_default.ensures

pub returns-in_default : goal.returns-in_default
unfolding record_by
returns-in_default c =
    let f = c.args.fields.now in
    let e : record_by f ≡ spans_by rows_widths f 0 ++ rows_by f 2 (get_or f 1 0) = search rules in
    rows_put f e c.args.t.now _ _ c.put_fields-in_default.ensures c.put_rows.ensures
