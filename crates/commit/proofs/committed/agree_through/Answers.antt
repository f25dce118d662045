-- `commit::committed::agree_through` meets its contract.
-- Assumes nothing.
use Rattle.commit.proofs.CommittedTurns.{agree_short, agree_short_2, agree_same, slice_kept}
use Rattle.storage.proofs.WellFormed.{formed}
use Rattle.log_prefix.proofs.TableLaws.{lent_asks, table_lent}
use mathlib.Core.Path.{refl}
use Rattle.storage.specs.Head.{prefixes_held}
use Rattle.commit.proofs.committed.agree_through.Goals as goal

pub slice_through-requires : goal.slice_through-requires
slice_through-requires c =
    let h = c.args.history in
    lent_asks h.bytes.now h.formed _ c.array-prefixes.ensures.is _ c.requires.0

pub returns-in_default : goal.returns-in_default
returns-in_default c =
    agree_short _ _ _ _ _ c.array-prefixes.ensures.is _ c.slice_through.ensures c.in_default.is

pub slice_through-requires-2 : goal.slice_through-requires-2
slice_through-requires-2 c =
    let h = c.args.history in
    lent_asks h.bytes.now h.formed _ c.array-prefixes.ensures.is _ c.requires.1

pub returns-in_default-slice_through : goal.returns-in_default-slice_through
returns-in_default-slice_through c =
    agree_short_2 _ _ _ _ _ c.array-prefixes.ensures.is _ c.slice_through.ensures _ c.in-Some.is _
    c.slice_through-2.ensures c.in_default-slice_through.is

pub same_prefix-requires : goal.same_prefix-requires
same_prefix-requires c =
    let h = c.args.history.bytes.now in
    let a = c.args.a.0 in
    let b = c.args.b.0 in
    let f = formed h c.args.history.formed in
    let lent = c.array-prefixes.ensures.is in (
      prefixes_held h,
      table_lent h _ _ f lent refl,
      slice_kept h a b c.args.index.0 _ lent _ c.slice_through.ensures _ f c.requires.0 c.in-Some.is,
      slice_kept h b a c.args.index.0 _ lent _ c.slice_through-2.ensures _ f c.requires.1 c.in-Some-slice_through.is,
    )

pub returns : goal.returns
returns c =
    agree_same _ _ _ _ _ c.array-prefixes.ensures.is _ c.slice_through.ensures _ c.in-Some.is _
    c.slice_through-2.ensures _ c.in-Some-slice_through.is _ c.same_prefix.ensures
