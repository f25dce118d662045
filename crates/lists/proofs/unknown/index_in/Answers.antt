-- `lists::unknown::index_in` meets its contract.
-- Assumes nothing.
use Rattle.std.proofs.Common.{rules, ◌+◌}
use Rattle.lists.specs.Unknown.{is_known, index_in}
use Rattle.lists.proofs.unknown.index_in.Goals as goal

pub returns : goal.returns
unfolding index_in
returns c =
    let s = c.args in
    c.nth_held.ensures (is_known s.terms.now s.last.0) (λ i. record { 0 = i + 1 }) (λ k r below p. search rules)
