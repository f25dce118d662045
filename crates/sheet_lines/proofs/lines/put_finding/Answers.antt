-- `sheet_lines::lines::put_finding` meets its contract.
-- Assumes nothing.
use Rattle.sheet_lines.proofs.PutLaws.{filled_then}
use Rattle.sheet_lines.specs.Lines.{finding_line}
use Rattle.sheet_lines.proofs.Joins.{pair_then}
use Rattle.sheet_lines.proofs.lines.put_finding.Goals as goal

pub returns : goal.returns
unfolding finding_line
returns c =
    let front = filled_then (filled_then c.put_text.ensures c.put_decimal.ensures) (rw c.from.ensures at c.put_field.ensures) in
    pair_then _ _ front (rw c.from-2.ensures at c.put_pair.ensures)
