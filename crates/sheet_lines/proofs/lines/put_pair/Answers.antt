-- `sheet_lines::lines::put_pair` meets its contract.
-- Assumes nothing. With the law named on the function the search was tried, and it did not find the answer.
use Rattle.sheet_lines.proofs.Joins.{last_then}
use Rattle.sheet_lines.proofs.lines.put_pair.Goals as goal

pub returns : goal.returns
returns c = last_then _ c.put_field.ensures c.put_last.ensures
