-- `storage_rules::leader_logs::is_kept_again` meets its contract.
-- Assumes nothing.
use mathlib.Core.Path.{refl, ◌∙◌}
use Prim.Native.Nat.{◌+◌}
use Rattle.std.proofs.Common.{rules, tests}
use Rattle.std.proofs.lemmas.Iterator.{YieldsList-from_range}
use Rattle.std.proofs.lemmas.Iterator.Search.{any_from_yields_List}
use Rattle.storage.specs.Rules.{is_pair}
use Rattle.storage.specs.Tables.{leader_log_row}
use Rattle.storage_bytes.proofs.RangeLaws.{any_some}
use Rattle.storage_rules.proofs.leader_logs.is_kept_again.Goals as goal

pub returns : goal.returns
returns c =
    let row = leader_log_row c.args.logs.now in
    let x = row c.args.k in
    any_from_yields_List (λ j. is_pair x.node x.term (row j)) _ _ c.any.result c.any.ensures.ran (YieldsList-from_range (c.args.k + 1) c.args.m _ refl refl) (λ x b q k. search (rules, tests))
    ∙ any_some (is_pair x.node x.term) row (c.args.k + 1) _
