-- `commit::prefix::observe_committed_prefixes` meets its contract.
-- Assumes nothing.
use Rattle.commit.proofs.CommittedTurns.{kept_within}
use Rattle.log_prefix.proofs.FrontLaws.{through_stored}
use Rattle.commit.proofs.PrefixTurns.{observe_unseen, observe_zero, observe_first, observe_later}
use Rattle.storage.proofs.WellFormed.{formed}
use borrow.Author.Tests.{eqb-true, eqb-false}
use mathlib.Core.Path.{sym, ◌∙◌}
use Rattle.commit.proofs.prefix.observe_committed_prefixes.Goals as goal

pub returns-in_default : goal.returns-in_default
returns-in_default c =
    observe_unseen _ _ _ _ c.front_through.ensures _ _ c.in_default.is c.with.ensures c.set_unseen.ensures

pub returns-then-eq : goal.returns-then-eq
returns-then-eq c =
    observe_zero _ _ _ _ c.front_through.ensures _ _ _ c.in-Some.is (eqb-true _ _ (sym c.if-eq.ensures)) c.with-then-eq.ensures c.set_unseen-then-eq.ensures

pub returns-in_default-committed_prefix : goal.returns-in_default-committed_prefix
returns-in_default-committed_prefix c =
    observe_first _ _ _ _ c.front_through.ensures _ _ _ c.in-Some.is (eqb-false _ _ (sym c.if-eq.ensures)) _ c.committed_prefix.ensures c.in_default-committed_prefix.is c.with-in_default-committed_prefix.ensures c.keep.ensures

pub insert_committed_prefix-requires : goal.insert_committed_prefix-requires
insert_committed_prefix-requires c =
    let h = c.args.history.now in
    let f = formed h c.requires.0 in (
      c.requires.0,
      c.requires.1,
      kept_within h f _ c.committed_prefix.ensures _ c.in-Some-committed_prefix.is,
      through_stored h c.args.node.0 c.args.index.0 _ f c.requires.1 (sym c.front_through.ensures ∙ c.in-Some.is),
    )

pub returns : goal.returns
returns c =
    observe_later _ _ _ _ c.front_through.ensures _ _ _ c.in-Some.is (eqb-false _ _ (sym c.if-eq.ensures)) _ c.committed_prefix.ensures _ c.in-Some-committed_prefix.is c.insert_committed_prefix.ensures
