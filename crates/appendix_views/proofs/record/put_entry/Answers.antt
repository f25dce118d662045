-- `appendix_views::record::put_entry` meets its contract.
-- Assumes nothing.
use Rattle.appendix_views.proofs.PutLaws.{entry_filled, entry_empty}
use Rattle.appendix_views.proofs.record.put_entry.Goals as goal

pub returns-then-e : goal.returns-then-e
returns-then-e c = entry_filled _ _ _ c.if-e.true c.put_text.ensures c.put_text-then-e.ensures

pub returns-else-e : goal.returns-else-e
returns-else-e c = entry_empty _ _ _ c.if-e.false c.put_text.ensures c.put_text-else-e.ensures
