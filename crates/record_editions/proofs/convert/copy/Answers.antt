-- `record_editions::convert::copy` meets its contract.
-- Assumes nothing.
use native.Mathlib.Omega.{arith}
use Rattle.record_editions.proofs.Views.{copied}
use Rattle.record_editions.proofs.convert.copy.Goals as goal

pub returns : goal.returns
returns c = rw c.copy_from_slice.ensures.after (copied c.args.buffer.now c.args.s.now (omega arith))
