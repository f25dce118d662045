-- `record_writing::put::bits` meets its contract: the fields of each kind take as many bits.
-- Assumes nothing.
use Prim.Native.Nat.{◌^◌, ◌<◌}
use mathlib.Core.Path.{◌≡◌, sym}
use mathlib.Core.List.{◌++◌}
use native.Mathlib.Omega.{arith}
use lib.ListN.{length, get_or}
use Rattle.std.proofs.Common.{rules}
use Rattle.record_writing.specs.Puts.{spans_by, rows_by, record_by}
use Rattle.record_writing.proofs.Whole.{rows_widths, view_known, rows_known, commit_total, terms_total, election_total, check_total}
use Rattle.record_writing.proofs.put.bits.Goals as goal

pub overflow_mul-result : goal.overflow_mul-result
overflow_mul-result c = let v = view_known c.args.fields.now c.requires c.in-1.is in record { fits = omega (arith, v.few) }

pub overflow_add-result : goal.overflow_add-result
overflow_add-result c = let v = view_known c.args.fields.now c.requires c.in-1.is in record { fits = omega (arith, v.few) }

pub overflow_add-result-in-1 : goal.overflow_add-result-in-1
overflow_add-result-in-1 c =
    let v = view_known c.args.fields.now c.requires c.in-1.is in
    let l : length c.args.fields.now < 2 ^ 60 = search rules in
    record { fits = omega (arith, v.few, l) }

pub returns-in-1-clause-is : goal.returns-in-1-clause-is
returns-in-1-clause-is c = sym (view_known c.args.fields.now c.requires c.in-1.is).bits

pub returns-in-1-clause-near : goal.returns-in-1-clause-near
returns-in-1-clause-near c =
    let v = view_known c.args.fields.now c.requires c.in-1.is in
    let l : length c.args.fields.now < 2 ^ 60 = search rules in
    omega (arith, v.few, l)

pub returns-in-2-clause-is : goal.returns-in-2-clause-is
returns-in-2-clause-is c = commit_total c.args.fields.now c.in-2.is

pub returns-in-3-clause-is : goal.returns-in-3-clause-is
returns-in-3-clause-is c = terms_total c.args.fields.now c.in-3.is

pub returns-in-4-clause-is : goal.returns-in-4-clause-is
returns-in-4-clause-is c = election_total c.args.fields.now c.in-4.is

pub returns-in-5-clause-is : goal.returns-in-5-clause-is
returns-in-5-clause-is c = check_total c.args.fields.now c.in-5.is

pub overflow_mul-result-in_default : goal.overflow_mul-result-in_default
unfolding record_by
overflow_mul-result-in_default c =
    let f = c.args.fields.now in
    let e : record_by f ≡ spans_by rows_widths f 0 ++ rows_by f 2 (get_or f 1 0) = search rules in
    let v = rows_known f c.requires e in
    record { fits = omega (arith, v.few) }

pub overflow_add-result-in_default : goal.overflow_add-result-in_default
unfolding record_by
overflow_add-result-in_default c =
    let f = c.args.fields.now in
    let e : record_by f ≡ spans_by rows_widths f 0 ++ rows_by f 2 (get_or f 1 0) = search rules in
    let v = rows_known f c.requires e in
    record { fits = omega (arith, v.few) }

pub returns-in_default-clause-is : goal.returns-in_default-clause-is
unfolding record_by
returns-in_default-clause-is c =
    let f = c.args.fields.now in
    let e : record_by f ≡ spans_by rows_widths f 0 ++ rows_by f 2 (get_or f 1 0) = search rules in
    sym (rows_known f c.requires e).bits

pub returns-in_default-clause-near : goal.returns-in_default-clause-near
unfolding record_by
returns-in_default-clause-near c =
    let f = c.args.fields.now in
    let e : record_by f ≡ spans_by rows_widths f 0 ++ rows_by f 2 (get_or f 1 0) = search rules in
    let v = rows_known f c.requires e in
    omega (arith, v.few)
