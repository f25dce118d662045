-- `appendix::print` meets its contract. The invariant: the lines so far are printed.
-- Assumes nothing.
use Rattle.std.specs.List.{range_with_len}
use Rattle.std.specs.Prelude.{map}
use Rattle.std.specs.Io.KnownBytes.{Appends}
use Rattle.appendix_views.specs.Counted.{view_at}
use Rattle.appendix.specs.Text.{lines_of}
use Rattle.appendix.proofs.print.Given as goal

abbrev pub invariant-loop-n : goal.invariant-loop-n
invariant-loop-n g l =
    Appends (g.W.Write.contents l.fn.writer) (g.W.Write.contents l.writer) (lines_of (map view_at (range_with_len 0 l.n)))
