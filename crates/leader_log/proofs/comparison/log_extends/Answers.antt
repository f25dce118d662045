-- `leader_log::comparison::log_extends` meets its contract.
-- Assumes nothing.
use borrow.Author.Rules.{rules}
use Prim.Native.Nat.{◌≤◌, ◌<◌}
use mathlib.Core.Path.{refl}
use Rattle.storage.specs.Head.{prefixes_held}
use Rattle.storage.proofs.WellFormed.{formed}
use Rattle.log_prefix.proofs.TableLaws.{lent_asks, table_lent}
use Rattle.storage_rows.specs.Rows.{leader_log_value}
use Rattle.leader_log.proofs.ComparisonTurns.{ends_before, part_stored, older_gap, newer_gap, compared}
use Rattle.leader_log.proofs.comparison.log_extends.Goals as goal

pub returns-then-lt : goal.returns-then-lt
returns-then-lt c =
    let l : c.args.current.last.0 < c.args.previous.last.0 = search rules in
    ends_before c.args.history.bytes.now (leader_log_value c.args.previous) (leader_log_value c.args.current) l

pub slice_through-requires : goal.slice_through-requires
slice_through-requires c =
    let h = c.args.history in
    lent_asks h.bytes.now h.formed _ c.array-prefixes.ensures.is _ c.requires.0

pub returns-in_default : goal.returns-in_default
returns-in_default c =
    let l : c.args.previous.last.0 ≤ c.args.current.last.0 = search rules in
    older_gap c.args.history.bytes.now (leader_log_value c.args.previous) (leader_log_value c.args.current) _ c.array-prefixes.ensures.is l _ c.slice_through.ensures c.in_default.is

pub slice_through-requires-2 : goal.slice_through-requires-2
slice_through-requires-2 c =
    let h = c.args.history in
    lent_asks h.bytes.now h.formed _ c.array-prefixes.ensures.is _ c.requires.1

pub returns-in_default-slice_through : goal.returns-in_default-slice_through
returns-in_default-slice_through c =
    let l : c.args.previous.last.0 ≤ c.args.current.last.0 = search rules in
    newer_gap c.args.history.bytes.now (leader_log_value c.args.previous) (leader_log_value c.args.current) _ c.array-prefixes.ensures.is l _ c.slice_through.ensures _ c.in-Some.is _
    c.slice_through-2.ensures c.in_default-slice_through.is

pub same_prefix-requires : goal.same_prefix-requires
same_prefix-requires c =
    let h = c.args.history.bytes.now in
    let o = leader_log_value c.args.previous in
    let n = leader_log_value c.args.current in
    let f = formed h c.args.history.formed in
    let lent = c.array-prefixes.ensures.is in (
      prefixes_held h,
      table_lent h _ _ f lent refl,
      part_stored h o n _ lent o.front o.last _ c.slice_through.ensures _ f c.requires.0 c.in-Some.is,
      part_stored h o n _ lent n.front o.last _ c.slice_through-2.ensures _ f c.requires.1 c.in-Some-slice_through.is,
    )

pub returns : goal.returns
returns c =
    let l : c.args.previous.last.0 ≤ c.args.current.last.0 = search rules in
    compared c.args.history.bytes.now (leader_log_value c.args.previous) (leader_log_value c.args.current) _ c.array-prefixes.ensures.is l _ c.slice_through.ensures _ c.in-Some.is _
    c.slice_through-2.ensures _ c.in-Some-slice_through.is _ c.same_prefix.ensures
