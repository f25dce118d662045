-- `election_certificates::marks::lower_marks` meets its contract. The invariant: lowering the marks of those that are left gives the rest.
-- Assumes nothing.
use Rattle.election_certificates.proofs.MarkTurns.{lowering_next, lowering_ends, lowering_none}
use Rattle.std.proofs.Common.{rules}
use Rattle.election_certificates.proofs.marks.lower_marks.Goals as goal

pub returns-then-le : goal.returns-then-le
returns-then-le c =
    let l = c.loop-k in
    lowering_ends _ _ _ _ _ l.invariant c.loop-k-test.true _ c.election_term.ensures (search rules)

pub loop-k-preserved : goal.loop-k-preserved
loop-k-preserved c =
    let l = c.loop-k in
    lowering_next _ _ _ _ _ l.invariant c.loop-k-test.true _ c.election_term.ensures (search rules) _ c.lower_mark.ensures

pub returns : goal.returns
returns c =
    let l = c.loop-k in
    lowering_none _ _ _ _ _ l.invariant c.loop-k-test.false
