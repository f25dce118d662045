-- `leader_completeness::marks::move_marks` meets its contract. The invariant: moving the marks that are left gives the rest.
-- Assumes nothing.
use Rattle.leader_completeness.proofs.MarkLaws.{Moving}
use Rattle.leader_completeness.proofs.marks.move_marks.Given as goal

abbrev pub invariant-loop-k : goal.invariant-loop-k
invariant-loop-k l = Moving l.initial.history l.end.0 l.m l.history l.k
