-- `record_editions::turn::is_portion` meets its contract: the mark's bit is not set.
-- Assumes nothing.
use Rattle.record_entries.specs.BitLayout.{bits_of}
use Rattle.record_editions.proofs.Views.{portion_is}
use Rattle.record_editions.proofs.turn.is_portion.Goals as goal

pub returns-else-not-view : goal.returns-else-not-view
returns-else-not-view c =
    portion_is (bits_of c.args.view.bytes.now c.args.view.marked) c.args.at _ c.if-not-view.false c.bits_at.ensures
