-- `record_editions::put::put_mark` meets its contract.
-- Assumes nothing.
use mathlib.Core.Path.{refl}
use Rattle.record_writing.specs.Puts.{put_spans}
use Rattle.record_editions.proofs.put.put_mark.Goals as goal

pub returns-then-marked : goal.returns-then-marked
unfolding put_spans
returns-then-marked c = rw c.if-marked.true c.put_bits.ensures

pub returns-else-marked : goal.returns-else-marked
unfolding put_spans
returns-else-marked c = rw c.if-marked.false refl
