-- `appendix::print_line` meets its contract.
-- Assumes nothing.
use mathlib.Core.Path.{refl}
use native.Mathlib.Omega.{arith}
use lib.Seq.{length-take-le}
use Rattle.appendix.proofs.LineLaws.{digits_are, line_is}
use Rattle.appendix.proofs.print_line.Goals as goal

pub returns : goal.returns
returns g c =
    let f = c.put_view.ensures in
    let e = c.encode_to_slice.ensures in
    line_is f refl (omega arith) c.write_all-2.result _ _ _ _
    (digits_are f refl (omega arith) _ _ _ _ _ refl e.fits (length-take-le _ _ (omega (arith, f.put.next, f.put.within))) e.written)
    c.in_ok-write_all.ensures.bytes c.write_all-2.ensures.bytes
