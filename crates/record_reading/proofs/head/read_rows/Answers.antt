-- `record_reading::head::read_rows` meets its contract: the model's chain is rewritten by what was taken; the rows are those in the bytes.
-- Assumes nothing.
use mathlib.Core.Path.{◌≡◌, refl}
use native.Mathlib.Omega.{arith}
use Rattle.model.specs.Reading.{many, row, rows_fields}
use Rattle.record_entries.specs.BitLayout.{node_of}
use Rattle.record_entries.proofs.Scanned.{rows_scanned}
use Rattle.record_entries.proofs.Listed.{end_not}
use Rattle.record_reading.proofs.Heads.{finish_head, fault_read, count_taken}
use Rattle.record_reading.proofs.head.read_rows.Goals as goal

pub returns-in_err-count : goal.returns-in_err-count
unfolding rows_fields
returns-in_err-count c =
    let count = count_taken c.args.s.now 4 c.take_limited.ensures.reads c.in_err-count.was (cc) (omega arith) in
    rw count (fault_read c.args.s.now _ _ c.from_residual.ensures.1)

pub returns-in_err-end : goal.returns-in_err-end
unfolding rows_fields
returns-in_err-end c =
    let count = count_taken c.args.s.now 4 c.take_limited.ensures.reads c.in_ok-count.was (cc) (omega arith) in
    let end : c.take_limited.new.self.next ≡ 14 = omega arith in
    let rows = end_not (many row node_of 0 c.in_ok-count.count c.args.s.now 14) (rw end at c.scan_items.ensures) c.in_err-end.was in
    rw (count, rows) (fault_read c.args.s.now _ _ c.from_residual-in_err-end.ensures.1)

pub returns : goal.returns
unfolding rows_fields
returns c =
    let count = count_taken c.args.s.now 4 c.take_limited.ensures.reads c.in_ok-count.was (cc) (omega arith) in
    let end : c.take_limited.new.self.next ≡ 14 = omega arith in
    let rows = rows_scanned c.args.s.now 14 c.in_ok-count.count (rw end at c.scan_items.ensures) c.in_ok-end.was in
    rw (count, rows, c.finish.ensures) (finish_head _ _ _ _ refl)
