-- `lists::unseen::mark_in` meets its contract.
-- Assumes nothing.
use Rattle.std.proofs.Common.{rules}
use Rattle.storage.specs.Tables.{row_of_node}
use Rattle.storage_rows.specs.TermSearch.{found_index}
use Rattle.lists.specs.Unseen.{unmarked, mark_in}
use Rattle.lists.proofs.unseen.mark_in.Goals as goal

pub returns : goal.returns
unfolding mark_in found_index
returns c =
    let t = c.args.nodes.now in
    c.nth_held.ensures (unmarked t) (λ k. record { node = record { 0 = k }; index = record { 0 = (row_of_node t k).unseen } }) (λ k r below p. search rules)
