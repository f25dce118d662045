-- `logical_log::writing::write_view` meets its contract.
-- Assumes nothing. With the law named on the function the search was tried, and it did not find the answer.
use Rattle.logical_log.proofs.WritingWhole.{view_written_lem}
use Rattle.logical_log.proofs.writing.write_view.Goals as goal

pub returns : goal.returns
returns c = view_written_lem _ _ _ _ _ _ _ _ _ _ _ _ _ c.store-stored.ensures c.last_index-last.ensures c.replace_view.ensures c.keep.ensures
