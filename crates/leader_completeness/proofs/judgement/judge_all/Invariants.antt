-- `leader_completeness::judgement::judge_all` meets its contract. The invariant: what is left gives the rest of the answer.
-- Assumes nothing.
use Rattle.leader_completeness.proofs.JudgementLaws.{Walking}
use Rattle.leader_completeness.proofs.judgement.judge_all.Given as goal

abbrev pub invariant-loop-k : goal.invariant-loop-k
invariant-loop-k l = Walking l.history.bytes.now l.initial.notes.rows l.initial.notes.held l.m l.notes.rows l.relevant l.notes.held l.k
