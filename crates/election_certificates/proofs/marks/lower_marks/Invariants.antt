-- `election_certificates::marks::lower_marks` meets its contract. The invariant: lowering the marks of those that are left gives the rest.
-- Assumes nothing.
use Rattle.election_certificates.proofs.MarkTurns.{Lowering}
use Rattle.election_certificates.proofs.marks.lower_marks.Given as goal

abbrev pub invariant-loop-k : goal.invariant-loop-k
invariant-loop-k l = Lowering l.initial.history l.term.0 l.first.0 l.history l.k

abbrev pub decreases-loop-k : goal.decreases-loop-k
decreases-loop-k l = l.k
