-- `sheet_lines::lines::put_field` meets its contract.
-- Assumes nothing. With the law named on the function the search was tried, and it did not find the answer.
use Rattle.sheet_lines.proofs.PutLaws.{filled_then}
use Rattle.sheet_lines.proofs.lines.put_field.Goals as goal

pub returns : goal.returns
returns c = filled_then c.put_text.ensures c.put_decimal.ensures
