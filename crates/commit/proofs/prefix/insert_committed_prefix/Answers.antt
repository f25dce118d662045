-- `commit::prefix::insert_committed_prefix` meets its contract.
-- Assumes nothing.
use Rattle.commit.specs.Prefix.{longer_in, end_in}
use Rattle.commit.proofs.Ends.{longer_is, end_is}
use Rattle.commit.proofs.PrefixTurns.{insert_differs, insert_longer, insert_shorter}
use lib.Dec.{ltb}
use borrow.Author.Tests.{lt-ltb, le-ltb}
use Prim.Native.Nat.{◌≤◌, ◌<◌, min}
use borrow.Author.Rules.{rules}
use mathlib.Core.Path.{◌≡◌, sym, ◌∙◌}
use Rattle.commit.proofs.prefix.insert_committed_prefix.Goals as goal
use Rattle.commit.proofs.prefix.insert_committed_prefix.Goals.{After-min-end, then-lt, else-lt}

-- the ends as they were read: the shorter one, and which prefix is longer
shorter_end : (c : After-min-end) → c.min-end.result.0 ≡ end_in c.args.history.now c.args.committed.0 c.args.seen.0
shorter_end c =
    let e : c.min-end.result.0 ≡ min c.through-committed_end.result.0 c.through-seen_end.result.0 = search rules in
    e ∙ end_is _ _ _ _ c.array-prefixes.ensures.is _ c.through-committed_end.ensures.is _ c.through-seen_end.ensures.is

is_longer : (c : After-min-end) → longer_in c.args.history.now c.args.committed.0 c.args.seen.0 ≡ ltb c.through-committed_end.result.0 c.through-seen_end.result.0
is_longer c = sym (longer_is _ _ _ _ c.array-prefixes.ensures.is _ c.through-committed_end.ensures.is _ c.through-seen_end.ensures.is)

pub returns-then-not-agree_through : goal.returns-then-not-agree_through
returns-then-not-agree_through c =
    let read = (goal.at.returns-then-not-agree_through c).After-min-end in
    insert_differs _ _ _ _ _ (shorter_end read) _ c.agree_through.ensures c.if-not-agree_through.true _ _ c.note_difference.ensures

pub returns : goal.returns
returns c =
    let read = (goal.at.returns c).After-min-end in
    elim c.if-lt.branch [
      | then-lt w ↦
          let longer : c.through-committed_end.result.0 < c.through-seen_end.result.0 = search rules in
          insert_longer _ _ _ _ _ (shorter_end read) _ c.agree_through.ensures c.if-not-agree_through.false _ _ c.owner-former.ensures.is c.flags-sum.ensures _ c.set_unseen.ensures
          _ c.with.ensures (is_longer read ∙ lt-ltb _ _ longer) _ (w.history-is ∙ w.set_committed.ensures)
      | else-lt w ↦
          let shorter : c.through-seen_end.result.0 ≤ c.through-committed_end.result.0 = search rules in
          insert_shorter _ _ _ _ _ (shorter_end read) _ c.agree_through.ensures c.if-not-agree_through.false _ _ c.owner-former.ensures.is c.flags-sum.ensures _ c.set_unseen.ensures
          _ c.with.ensures (is_longer read ∙ le-ltb _ _ shorter) _ w.history-is
    ]
