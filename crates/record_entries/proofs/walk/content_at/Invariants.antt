-- `record_entries::walk::content_at` meets its contract: the first i bytes are the model's, and zeros follow.
-- Assumes nothing.
use mathlib.Core.Path.{◌≡◌}
use Rattle.model.specs.Reading.{bytes_at}
use Rattle.record_entries.specs.Values.{padded}
use Rattle.record_entries.proofs.walk.content_at.Given as goal

abbrev pub invariant-loop-i : goal.invariant-loop-i
invariant-loop-i l = l.out ≡ padded (bytes_at l.s l.at l.i) l.i
