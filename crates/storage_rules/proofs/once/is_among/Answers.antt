-- `storage_rules::once::is_among` meets its contract.
-- Assumes nothing.
use mathlib.Core.Path.{refl, ◌∙◌}
use Rattle.std.proofs.Common.{rules, tests}
use Rattle.std.proofs.lemmas.Iterator.{YieldsList-from_range}
use Rattle.std.proofs.lemmas.Iterator.Search.{any_from_yields_List}
use Rattle.storage.specs.Rules.{same_row}
use Rattle.storage.specs.Tables.{prefix_row}
use Rattle.storage_bytes.proofs.RangeLaws.{any_some}
use Rattle.storage_rules.proofs.once.is_among.Goals as goal

pub returns : goal.returns
returns c =
    let row = prefix_row c.args.prefixes.now in
    any_from_yields_List (λ j. same_row (row j) (row c.args.k)) _ _ c.any.result c.any.ensures.ran (YieldsList-from_range c.args.start c.args.k _ refl refl) (λ x b q k. search (rules, tests))
    ∙ any_some (λ s. same_row s (row c.args.k)) row c.args.start _
