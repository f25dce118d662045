-- `leader_completeness::judgement::judge_all` meets its contract. The invariant: what is left gives the rest of the answer.
-- Assumes nothing.
use Rattle.leader_completeness.proofs.JudgementLaws.{row_here, row_stored, walking_next, walking_ends}
use Rattle.storage.proofs.WellFormed.{formed}
use native.Mathlib.Omega.{arith}
use mathlib.Core.Path.{refl}
use Rattle.leader_completeness.proofs.judgement.judge_all.Goals as goal

pub judge-relevant-requires : goal.judge-relevant-requires
judge-relevant-requires c =
    let n = c.certificate_count-m.ensures.is in
    let l = c.loop-k-test.true in (
      c.requires.0,
      c.requires.1,
      row_stored _ _ _ (formed _ c.args.history.formed) (omega arith) _ c.array-certificates.ensures.is c.certificate_at-c.ensures,
    )

pub loop-k-preserved : goal.loop-k-preserved
loop-k-preserved c =
    walking_next _ _ _ _ _ _ _ _ c.loop-k.invariant c.loop-k-test.true _ (row_here _ _ _ _ c.array-certificates.ensures.is c.certificate_at-c.ensures) _ _ _ c.judge-relevant.ensures _ refl

pub returns : goal.returns
returns c =
    walking_ends _ _ _ _ _ _ _ _ c.loop-k.invariant c.loop-k-test.false
