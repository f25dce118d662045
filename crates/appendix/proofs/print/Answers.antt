-- `appendix::print` meets its contract: line by line, as many as there are.
-- Assumes nothing.
use native.Mathlib.Omega.{arith}
use Rattle.appendix.proofs.LineLaws.{lines_none, lines_next, lines_all}
use Rattle.appendix.proofs.print.Goals as goal

pub loop-n-init : goal.loop-n-init
loop-n-init g c = lines_none _

pub loop-n-preserved : goal.loop-n-preserved
loop-n-preserved g c = lines_next _ _ _ c.loop-n.n c.loop-n.invariant c.in_ok-print_line.ensures

pub returns : goal.returns
returns g c =
    lines_all _ _ c.loop-n.n (let h = c.loop-n-test.false in let k = c.loop-n.auto.n-end in omega arith) c.loop-n.invariant
