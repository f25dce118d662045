-- `storage_rules::leader_logs::kept_once` meets its contract.
-- Assumes nothing.
use native.Mathlib.Omega.{arith}
use Prim.Native.Nat.{◌+◌, ◌-◌}
use mathlib.Core.Path.{refl, ◌∙◌}
use mathlib.Core.Bool.{not}
use Rattle.std.proofs.Common.{rules, tests}
use Rattle.std.proofs.lemmas.Iterator.{YieldsList-from_range}
use Rattle.std.proofs.lemmas.Iterator.Search.{all_from_yields_List}
use Rattle.storage.specs.Tables.{leader_log_row}
use Rattle.storage_bytes.specs.Lists.{tabulate}
use Rattle.storage.specs.Rules.{has_pair}
use Rattle.storage_rules.proofs.PairTurns.{all_kept_once}
use Rattle.storage_rules.proofs.leader_logs.kept_once.Goals as goal

pub returns : goal.returns
returns c =
    let row = leader_log_row c.args.logs.now in
    let m = c.args.m in
    all_from_yields_List (λ k. not (has_pair (row k).node (row k).term (tabulate row (k + 1) (m - (k + 1))))) _ _ c.all.result c.all.ensures.ran (YieldsList-from_range 0 m m refl (omega arith)) (λ x b q k. search (rules, tests))
    ∙ all_kept_once row m 0 m (omega arith)
