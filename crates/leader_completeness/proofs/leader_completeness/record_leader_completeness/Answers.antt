-- `leader_completeness::leader_completeness::record_leader_completeness` meets its contract.
-- Assumes nothing.
use Rattle.leader_completeness.proofs.CheckLaws.{checked_nothing, number_is, end_read, checked_kept, judged_refused, judged_accepted, written_as}
use Rattle.std.proofs.lemmas.Result.{err_from_is_err_and}
use Rattle.log_violation.proofs.ViolationLaws.{over_limit, in_limit}
use Rattle.storage.proofs.WellFormed.{formed}
use Rattle.commit.proofs.CommittedTurns.{kept_within}
use Rattle.storage.specs.Values.{committed_end}
use mathlib.Core.Path.{◌≡◌, ap, ◌∙◌}
use native.Mathlib.Omega.{arith}
use Rattle.std.specs.Prelude.{Err}
use Rattle.answers.specs.Numbers.{accepted_with}
use Rattle.answers.proofs.StepLaws.{goes_on, told}
use Rattle.leader_completeness.proofs.leader_completeness.record_leader_completeness.Goals as goal
use Rattle.leader_completeness.proofs.leader_completeness.record_leader_completeness.Goals.{After-through-end}

-- the end of the committed prefix, as it was read
end_is : (c : After-through-end) → c.through-end.result.0 ≡ committed_end c.args.history.now
end_is c = end_read _ _ c.committed_prefix.ensures _ c.in-Some.is _ c.array.ensures.is _ c.through-end.ensures.is

pub returns-in_default : goal.returns-in_default
returns-in_default c =
    told _ _ c.with.ensures (checked_nothing c.args.history.now _ c.committed_prefix.ensures c.in_default.is)

pub through-end-requires : goal.through-end-requires
through-end-requires c =
    let o = formed _ c.requires in
    let a = kept_within _ o _ c.committed_prefix.ensures _ c.in-Some.is in
    let b = o.prefixes in
    omega arith

pub judge_all-relevant-requires : goal.judge_all-relevant-requires
judge_all-relevant-requires c = (
  number_is _ _ c.committed_prefix.ensures _ c.in-Some.is,
  end_is (goal.at.judge_all-relevant-requires c).After-through-end,
)

pub returns-in_err-fits : goal.returns-in_err-fits
returns-in_err-fits c =
    let h = c.args.history.now in
    let p = err_from_is_err_and c.from_residual.result c.from_residual.ensures.1 in
    goes_on _ _ (checked_kept h _ c.committed_prefix.ensures _ c.in-Some.is) _ _
    (told _ _ (p.1 ∙ ap Err p.2)
    (judged_refused h _ _ _ _ _ c.of-notes.ensures c.judge_all-relevant.ensures (over_limit _ _ c.fits.ensures _ c.in_err-fits.was)))

pub returns : goal.returns
returns c =
    let h = c.args.history.now in
    goes_on _ _ (checked_kept h _ c.committed_prefix.ensures _ c.in-Some.is) _ _
    (told _ _ (c.with-2.ensures ∙ ap accepted_with c.flags.ensures)
    (judged_accepted h _ _ _ _ _ c.of-notes.ensures c.judge_all-relevant.ensures (in_limit _ _ c.fits.ensures _ c.in_ok-fits.was)
    _ (end_is (goal.at.returns c).After-through-end)
    _ (written_as h _ _ _ _ c.move_marks.ensures _ c.keep.ensures)))
