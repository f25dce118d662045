-- `leader_completeness::relevance::relevant_index` meets its contract.
-- Assumes nothing.
use Rattle.leader_completeness.proofs.RelevanceLaws.{relevant_not_passed, relevant_read}
use Rattle.storage_rows.specs.TermSearch.{found_index}
use Rattle.storage_rows.proofs.TermSearchLaws.{index_none}
use Rattle.storage.proofs.WellFormed.{end_small}
use Prim.Native.Nat.{◌≤◌, min}
use mathlib.Core.Path.{◌≡◌, ◌∙◌, ap}
use borrow.Author.Rules.{rules}
use native.Mathlib.Omega.{arith}
use Rattle.leader_completeness.proofs.relevance.relevant_index.Goals as goal

pub returns-then-le : goal.returns-then-le
returns-then-le c =
    let passed : c.args.end.0 ≤ c.args.c.mark.0 = search rules in
    index_none _ (relevant_not_passed _ _ _ c.requires passed)

pub last_relevant-requires : goal.last_relevant-requires
last_relevant-requires c =
    let e : c.min-last.result.0 ≡ min c.args.end.0 c.last_recorded.result.0 = search rules in
    let b = end_small _ c.args.history.formed in
    omega arith

pub returns : goal.returns
returns c =
    let e : c.min-last.result.0 ≡ min c.args.end.0 c.last_recorded.result.0 = search rules in
    c.last_relevant.ensures
    ∙ ap found_index (relevant_read _ _ _ c.requires _ c.array.ensures.is _ c.last_recorded.ensures.is _ e)
