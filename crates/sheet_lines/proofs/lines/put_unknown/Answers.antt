-- `sheet_lines::lines::put_unknown` meets its contract.
-- Assumes nothing. With the law named on the function the search was tried, and it did not find the answer.
use Rattle.sheet_lines.specs.Lines.{unknown_line}
use Rattle.sheet_lines.proofs.Joins.{last_then}
use Rattle.sheet_lines.proofs.lines.put_unknown.Goals as goal

pub returns : goal.returns
unfolding unknown_line
returns c = last_then _ c.put_text.ensures c.put_last.ensures
