-- `invariants::commit_safety::check_commit_safety` meets its contract: the verdict is that of the rows that are left, from the least
-- rule that failed so far.
-- Assumes nothing.
use Prim.Native.Nat.{◌+◌, ◌-◌}
use mathlib.Core.Path.{◌≡◌, ap, sym, ◌∙◌}
use native.Mathlib.Omega.{arith}
use borrow.Author.Tests.{ltb-false}
use Rattle.record_entries.specs.BitLayout.{rows_at, first_row}
use Rattle.record_entries.proofs.Walks.{row_here, next_row_walk}
use Rattle.invariants.specs.Rules.{least, verdict_for}
use Rattle.invariants.proofs.Pass.{row_shown, walk_verdict, row_next, rows_end, rule_1_end, answered}
use Rattle.invariants.proofs.commit_safety.check_commit_safety.Goals as goal

pub loop-init : goal.loop-init
loop-init c =
    let z : c.args.count - 0 ≡ c.args.count = omega arith in
    rw z (c.requires, walk_verdict 0 (rows_at c.args.s.now first_row c.args.count))

pub returns-then-not-comes_before : goal.returns-then-not-comes_before
returns-then-not-comes_before c =
    let k = ltb-false 1 (least c.loop.failed) (sym c.comes_before.ensures ∙ c.if-not-comes_before.true) in
    answered _ ∙ ap verdict_for (rule_1_end _ _ _ _ _ c.loop.invariant.1 k)

pub row_at-row-requires : goal.row_at-row-requires
row_at-row-requires c = row_here _ _ _ c.loop.invariant.0 (omega arith)

pub loop-preserved : goal.loop-preserved
loop-preserved c =
    let l = c.loop in
    let d : c.args.count - (l.counter + 1) ≡ c.args.count - l.counter - 1 = omega arith in
    let r = rw (c.row_at-row.ensures, row_shown _ _ _ l.invariant.0 (omega arith)) at c.with_row-failed.ensures in
    rw (c.row_at-row.ensures, d) (next_row_walk _ _ _ l.invariant.0 (omega arith), row_next _ _ _ _ _ l.invariant.1 (omega arith) ∙ r _)

pub returns : goal.returns
returns c = answered _ ∙ ap verdict_for (rows_end _ _ _ _ _ c.loop.invariant.1 (omega arith))
