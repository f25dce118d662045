-- `sheet::take_block` meets its contract: of the block so far.
-- Assumes nothing.
use mathlib.Core.Path.{refl}
use native.Mathlib.Omega.{arith}
use Rattle.sheet.proofs.InputLaws.{block_begins, block_goes_on}
use Rattle.sheet.proofs.take_block.Goals as goal

pub loop-number-init : goal.loop-number-init
loop-number-init g c = block_begins _ _ _ _

pub loop-number-preserved : goal.loop-number-preserved
loop-number-preserved g c =
    block_goes_on _ _ _ _ _ _ _ _ _ _ _ _ _ c.loop-number.invariant refl (omega arith) c.take_some-p.ensures c.in_ok-flush.ensures

pub returns-then-p-lt-RECORDS_PER_WRITE-clause-taken : goal.returns-then-p-lt-RECORDS_PER_WRITE-clause-taken
returns-then-p-lt-RECORDS_PER_WRITE-clause-taken g c =
    block_goes_on _ _ _ _ _ _ _ _ _ _ _ _ _ c.loop-number.invariant refl (omega arith) c.take_some-p.ensures c.in_ok-flush.ensures
