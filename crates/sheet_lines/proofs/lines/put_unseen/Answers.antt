-- `sheet_lines::lines::put_unseen` meets its contract.
-- Assumes nothing. With the law named on the function the search was tried, and it did not find the answer.
use Rattle.sheet_lines.specs.Lines.{unseen_line}
use Rattle.sheet_lines.proofs.Joins.{pair_then}
use Rattle.sheet_lines.proofs.lines.put_unseen.Goals as goal

pub returns : goal.returns
unfolding unseen_line
returns c = pair_then _ _ c.put_text.ensures (rw c.from.ensures at c.put_pair.ensures)
