-- `record_editions::runs::move_bits` meets its contract: what was moved is the first bits of the run.
-- Assumes nothing.
use Prim.Native.Nat.{◌+◌, ◌*◌}
use mathlib.Core.Path.{◌≡◌}
use Rattle.model.specs.Reading.{field_at}
use Rattle.record_writing.specs.Puts.{put_field}
use Rattle.record_editions.proofs.runs.move_bits.Given as goal

abbrev pub invariant-loop : goal.invariant-loop
invariant-loop l = (l.done ≡ 57 + 57 * l.counter) × (l.t ≡ put_field l.fn.t l.at l.done (field_at l.s l.from l.done))
