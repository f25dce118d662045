-- `sheet_lines::lines::put_committed` meets its contract.
-- Assumes nothing.
use Rattle.sheet_lines.specs.Lines.{committed_line}
use Rattle.sheet_lines.proofs.Joins.{pair_then}
use Rattle.sheet_lines.proofs.lines.put_committed.Goals as goal

pub returns : goal.returns
unfolding committed_line
returns c = pair_then _ _ c.put_text.ensures (rw c.from.ensures at c.put_pair.ensures)
