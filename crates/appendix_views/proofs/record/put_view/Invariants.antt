-- `appendix_views::record::put_view` meets its contract. The invariant: the entries so far are put, and those left make it whole.
-- Assumes nothing.
use Rattle.appendix_views.proofs.PutLaws.{Entered}
use Rattle.appendix_views.proofs.record.put_view.Given as goal

abbrev pub invariant-loop-i : goal.invariant-loop-i
invariant-loop-i l = Entered l.fn.sheet l.node l.view l.i l.sheet
