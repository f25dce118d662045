-- `sheet_lines::lines::put_record` meets its contract.
-- Assumes nothing.
use Rattle.sheet_lines.proofs.PutLaws.{filled_then}
use Rattle.sheet_lines.specs.Lines.{record_line}
use Rattle.sheet_lines.proofs.Joins.{pair_then}
use Rattle.sheet_lines.proofs.lines.put_record.Goals as goal

pub returns : goal.returns
unfolding record_line
returns c =
    let front = filled_then (filled_then c.put_decimal.ensures (rw c.from.ensures at c.put_field.ensures)) c.put_outcome.ensures in
    pair_then _ _ front (rw c.from-2.ensures at c.put_pair.ensures)
