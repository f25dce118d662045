-- `sheet_text::closing::put_lists` meets its contract.
-- Assumes nothing. With the law named on the function the search was tried, and it did not find the answer.
use Rattle.sheet_text.proofs.ClosingLaws.{closed_right}
use Rattle.sheet_text.proofs.closing.put_lists.Goals as goal

pub returns : goal.returns
returns c =
    closed_right _ _ _ _ _ _ _ _
    c.in-Some.ensures
    c.in-Some.history.formed
    c.put_list.ensures
    c.put_list-2.ensures
    c.put_list-3.ensures
    c.put_list-4.ensures
    _
    _
    c.printed_committed-committed.ensures.length
    c.printed_committed-committed.ensures.owner
    c.put_committed.ensures
