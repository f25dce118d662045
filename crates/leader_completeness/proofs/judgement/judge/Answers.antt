-- `leader_completeness::judgement::judge` meets its contract.
-- Assumes nothing.
use Rattle.leader_completeness.proofs.JudgementLaws.{judged_none, judged_some}
use Prim.Native.Nat.{ℕ}
use mathlib.Core.Bool.{true}
use Rattle.model.specs.Sizes.{Bytes}
use Rattle.log_violation.specs.Violation.{NotedAll, note_if}
use Rattle.leader_completeness.specs.Judgement.{lacking_of, JudgedAs}
use Rattle.log_violation.proofs.ViolationLaws.{if_not, if_noted}
use Rattle.storage_rows.proofs.TermSearchLaws.{index_told, nothing_told}
use Rattle.storage_rows.specs.Certificates.{certificate_value}
use mathlib.Core.Path.{refl, sym, ◌∙◌}
use Rattle.leader_completeness.proofs.judgement.judge.Goals as goal
use Rattle.leader_completeness.proofs.judgement.judge.Goals.{After-lacks_through}

pub returns-in_default : goal.returns-in_default
returns-in_default c =
    judged_none _ _ _ _ _ refl
    (nothing_told _ _ c.relevant_index.ensures c.in_default.is)

-- it has a relevant index, and what was noted of it is noted
noted : (c : After-lacks_through) (held : ℕ) (t : Bytes)
    → (let n = c.args.notes.now in
    NotedAll n.rows n.held (note_if c.lacks_through.result (lacking_of (certificate_value c.args.c) c.in-Some.index.0)) held t
    → JudgedAs c.args.history.bytes.now (certificate_value c.args.c) n.rows n.held true held t)
noted c held t w =
    let x = index_told _ _ c.relevant_index.ensures _ c.in-Some.is in
    judged_some c.args.history.bytes.now (certificate_value c.args.c) _ _ _ x.0 (λ z. x.1 (sym x.0 ∙ z)) _ c.lacks_through.ensures held t w

pub returns-then-lacks_through : goal.returns-then-lacks_through
returns-then-lacks_through c =
    noted (goal.at.returns-then-lacks_through c).After-lacks_through _ _ (if_noted _ _ _ _ c.if-lacks_through.true _ _ c.note.ensures)

pub returns-else-lacks_through : goal.returns-else-lacks_through
returns-else-lacks_through c =
    noted (goal.at.returns-else-lacks_through c).After-lacks_through _ _ (if_not _ _ _ _ c.if-lacks_through.false)
