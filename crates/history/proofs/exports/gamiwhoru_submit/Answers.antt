-- `history::exports::gamiwhoru_submit` meets its contract.
-- Assumes nothing. With the law named on the function the search was tried, and it did not find the answer.
use Rattle.history.proofs.Handed.{handed}
use Rattle.history.proofs.exports.gamiwhoru_submit.Goals as goal

pub returns : goal.returns
returns c = handed _ _ _ _ c.submit.ensures _ c.from.ensures
