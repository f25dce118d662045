-- `submission::submit::submit` meets its contract.
-- Assumes nothing.
use mathlib.Core.Path.{refl, sym, ◌∙◌, ap, subst}
use Rattle.std.specs.Prelude.{Err}
use Rattle.std.proofs.lemmas.Result.{err_from_is_err_and}
use Rattle.model.specs.Sizes.{Bytes}
use Rattle.answers.specs.declared.answer.Refusal.{Refusal}
use Rattle.record_reading.specs.Heads.{Told}
use Rattle.storage_rules.proofs.AllRules.{wrong_length}
use Rattle.answers.specs.Step.{Gives}
use Rattle.submission.specs.Replies.{submit_step}
use Rattle.submission.proofs.Dispatch.{broken, taken, unreadable}
use Rattle.submission.proofs.submit.submit.Goals as goal

pub returns-in_default : goal.returns-in_default
returns-in_default c =
    let a = c.args in
    broken a.history.now a.s.now (wrong_length a.history.now c.in_default.ensures.cases)

pub returns-then-not-well_formed : goal.returns-then-not-well_formed
returns-then-not-well_formed c =
    let b = c.in-Some.bytes.now in
    subst (λ (h : Bytes). Gives (submit_step h c.args.s.now) (Err Refusal.StorageBroken) b) c.in-Some.ensures.cases.same
    (broken b c.args.s.now (sym c.well_formed-2.ensures ∙ c.if-not-well_formed.true))

pub returns-in_err-head : goal.returns-in_err-head
returns-in_err-head c =
    let b = c.in-Some.bytes.now in
    let s = c.args.s.now in
    let p = err_from_is_err_and c.from_residual.result c.from_residual.ensures.1 in
    subst (λ (h : Bytes). Gives (submit_step h s) c.from_residual.result b) c.in-Some.ensures.cases.same
    (unreadable b s (sym c.well_formed-2.ensures ∙ c.if-not-well_formed.false) _ c.read.ensures _ _ _ c.in_err-head.was (p.1 ∙ ap Err p.2) refl)

pub returns : goal.returns
returns c =
    let b = c.in-Some.bytes.now in
    let s = c.args.s.now in
    subst (λ (h : Bytes). Gives (submit_step h s) c.dispatch.result c.dispatch.new.history) c.in-Some.ensures.cases.same
    (taken b s (sym c.well_formed-2.ensures ∙ c.if-not-well_formed.false) _
    (subst (Told s) c.in_ok-head.was c.read.ensures) _ _ c.dispatch.ensures)
