-- `appendix_views::record::put_view` meets its contract.
-- Assumes nothing.
use mathlib.Core.Path.{sym, subst}
use native.Mathlib.Omega.{arith}
use Rattle.std.proofs.Common.{◌≤◌}
use Rattle.appendix_views.specs.declared.views.View.{View}
use Rattle.appendix_views.proofs.PutLaws.{three_at_most, term_small, entered_none, entered_room, entered_next, entered_all}
use Rattle.appendix_views.proofs.record.put_view.Goals as goal

pub loop-i-init : goal.loop-i-init
loop-i-init c =
    let small = subst (λ (v : View). v.count ≤ 3) (sym c.nth-view.ensures) (three_at_most c.args.n) in
    entered_none _ c.nth-view.result small c.put_text.ensures

pub put_entry-requires : goal.put_entry-requires
put_entry-requires c = (
  entered_room _ c.nth-view.result c.loop-i.i c.loop-i.invariant c.loop-i-test.true c.requires.0,
  (let w = c.loop-i.invariant.within in let h = c.loop-i-test.true in omega arith),
  term_small c.entry.result _ c.entry.ensures,
)

pub loop-i-preserved : goal.loop-i-preserved
loop-i-preserved c =
    let l = c.loop-i in
    entered_next _ c.nth-view.result l.i c.entry.result l.invariant c.loop-i-test.true c.entry.ensures c.put_entry.ensures

pub returns : goal.returns
returns c =
    let h = c.loop-i-test.false in
    entered_all _ c.nth-view.result c.loop-i.i c.args.n c.nth-view.ensures c.loop-i.invariant (omega arith)
