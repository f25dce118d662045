-- `sheet_lines::decimal::Sheet::put_decimal` meets its contract.
-- Assumes nothing.
use mathlib.Core.Path.{ap, ◌∙◌}
use native.Mathlib.Omega.{arith}
use lib.ListN.{length}
use Rattle.sheet_lines.proofs.DecimalLaws.{decimal_known, decimal_twenty}
use Rattle.sheet_lines.proofs.PutLaws.{filled_as}
use Rattle.sheet_lines.proofs.decimal.Sheet.put_decimal.Goals as goal

pub returns : goal.returns
returns c =
    let v = c.args.v in
    let e = c.as_bytes-digits.ensures.value ∙ c.format.ensures.text ∙ decimal_known v (omega arith) in
    filled_as c.put_text.ensures _ e (let l = ap length e in let t = decimal_twenty v (omega arith) in omega arith)
