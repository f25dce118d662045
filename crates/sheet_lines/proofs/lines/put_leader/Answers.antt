-- `sheet_lines::lines::put_leader` meets its contract.
-- Assumes nothing. With the law named on the function the search was tried, and it did not find the answer.
use Rattle.sheet_lines.specs.Lines.{leader_line}
use Rattle.sheet_lines.proofs.Joins.{pair_then}
use Rattle.sheet_lines.proofs.lines.put_leader.Goals as goal

pub returns : goal.returns
unfolding leader_line
returns c = pair_then _ _ c.put_text.ensures (rw (c.from.ensures, c.from-2.ensures) at c.put_pair.ensures)
