-- `record_writing::write::write` meets its contract: what the look at the numbers answered says which of the three cases it is.
-- Assumes nothing.
use mathlib.Core.Path.{ap, ◌∙◌}
use native.Mathlib.Omega.{arith}
use Rattle.std.proofs.Common.{rules}
use Rattle.record_entries.specs.Scans.{done_part}
use Rattle.record_writing.proofs.Whole.{fields_known, writes_refused, writes_short, writes_whole}
use Rattle.record_writing.proofs.write.write.Goals as goal

pub returns-in_err-scan_record-clause-writes : goal.returns-in_err-scan_record-clause-writes
returns-in_err-scan_record-clause-writes c =
    writes_refused c.args.fields.now c.args.buffer.now _ _ (c.scan_record.ensures ∙ ap (λ r. done_part r 0) c.in_err-scan_record.was) c.from_residual.ensures.1

pub bits-requires : goal.bits-requires
bits-requires c = fields_known c.args.fields.now (c.scan_record.ensures ∙ ap (λ r. done_part r 0) c.in_ok-scan_record.was)

pub returns-then-buffer-length-clause-writes : goal.returns-then-buffer-length-clause-writes
returns-then-buffer-length-clause-writes c =
    writes_short c.args.fields.now c.args.buffer.now c.bits.result (c.scan_record.ensures ∙ ap (λ r. done_part r 0) c.in_ok-scan_record.was) c.bits.ensures.is (omega arith)

pub put_record-requires : goal.put_record-requires
put_record-requires c =
    let f = fields_known c.args.fields.now (c.scan_record.ensures ∙ ap (λ r. done_part r 0) c.in_ok-scan_record.was) in
    record { fit = f.fit; bits = omega (arith, c.bits.ensures.is); near = omega (arith, c.bits.ensures.is, c.bits.ensures.near); numbers = omega (arith, f.all) }

pub returns-clause-writes : goal.returns-clause-writes
returns-clause-writes c =
    writes_whole c.args.fields.now c.args.buffer.now _ c.bits.result (search rules)
    (c.scan_record.ensures ∙ ap (λ r. done_part r 0) c.in_ok-scan_record.was) c.bits.ensures.is (omega arith) c.put_record.ensures
