-- `sheet_text::closing::put_list` meets its contract.
-- Assumes nothing.
use mathlib.Core.Path.{◌≡◌}
use native.Mathlib.Omega.{arith}
use Rattle.sheet_text.proofs.ClosingLaws.{put_none, put_next, put_all, put_end, put_room}
use Rattle.sheet_text.specs.Closing.{longest_list}
use Rattle.sheet_text.proofs.closing.put_list.Goals as goal

pub loop-n-init : goal.loop-n-init
loop-n-init g c = (put_none g.T.Listed.width (g.T.Listed.lines c.args.history.bytes.now) _, omega arith)

pub returns-in_default : goal.returns-in_default
returns-in_default g c = put_end _ _ _ _ _ c.loop-n.invariant.0 c.loop-n.invariant.1 c.in_default.ensures

pub put-requires : goal.put-requires
put-requires g c = put_room _ _ _ _ _ c.loop-n.invariant.0 c.loop-n-test.true c.requires.start_in_bounds

pub loop-n-preserved : goal.loop-n-preserved
loop-n-preserved g c = (put_next _ _ _ _ _ _ _ c.loop-n.invariant.0 c.in-Some.ensures c.put.ensures, omega arith)

pub returns : goal.returns
returns g c = put_all _ _ _ _ _ c.loop-n.invariant.0 c.loop-n.invariant.1 (let e : c.loop-n.n ≡ longest_list = omega (arith, c.loop-n.invariant.1) in let b = c.requires.short in omega arith)
