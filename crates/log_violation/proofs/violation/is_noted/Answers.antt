-- `log_violation::violation::is_noted` meets its contract.
-- Assumes nothing.
use native.Mathlib.Omega.{arith}
use mathlib.Core.Path.{refl, ◌∙◌}
use Rattle.std.proofs.Common.{rules, tests}
use Rattle.std.proofs.lemmas.Iterator.{YieldsList-from_range}
use Rattle.std.proofs.lemmas.Iterator.Search.{any_from_yields_List}
use Rattle.storage.specs.Tables.{finding_row}
use Rattle.storage_rows.specs.Rows.{finding_value}
use Rattle.storage_bytes.proofs.RangeLaws.{any_some}
use Rattle.log_violation.specs.Violation.{same_numbers}
use Rattle.log_violation.proofs.violation.is_noted.Goals as goal

pub returns : goal.returns
returns c =
    let row = finding_row c.args.findings.now in
    let f = finding_value c.args.f in
    any_from_yields_List (λ k. same_numbers (row k) f) _ _ c.any.result c.any.ensures.ran (YieldsList-from_range 0 c.args.n c.args.n refl (omega arith)) (λ x b q k. search (rules, tests))
    ∙ any_some (λ g. same_numbers g f) row 0 c.args.n
