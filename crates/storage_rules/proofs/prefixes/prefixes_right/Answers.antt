-- `storage_rules::prefixes::prefixes_right` meets its contract.
-- Assumes nothing.
use native.Mathlib.Omega.{arith}
use mathlib.Core.Path.{refl, ◌∙◌}
use Rattle.std.proofs.Common.{rules, tests}
use Rattle.std.proofs.lemmas.Iterator.{YieldsList-from_range}
use Rattle.std.proofs.lemmas.Iterator.Search.{all_from_yields_List}
use Rattle.storage.specs.Tables.{prefix_row, rows_of_prefixes}
use Rattle.storage_bytes.specs.Lists.{tabulate}
use Rattle.storage.specs.Rules.{prefix_right}
use Rattle.storage_rules.proofs.PrefixTurns.{all_rows_right}
use Rattle.storage_rules.proofs.prefixes.prefixes_right.Goals as goal

pub returns : goal.returns
unfolding tabulate
returns c =
    let t = c.args.prefixes.now in
    all_from_yields_List (λ k. prefix_right (rows_of_prefixes t k) (prefix_row t k)) _ _ c.all.result c.all.ensures.ran (YieldsList-from_range 0 c.args.n c.args.n refl (omega arith)) (λ x b q k. search (rules, tests))
    ∙ all_rows_right (prefix_row t) 0 c.args.n
