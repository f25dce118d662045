-- `leader_log::observation::hold_against` meets its contract.
-- Assumes nothing.
use native.Mathlib.Omega.{arith}
use Prim.Native.Nat.{◌≤◌, ◌<◌}
use mathlib.Core.Path.{sym, ◌∙◌, ap, subst}
use Rattle.std.specs.Prelude.{Some}
use Rattle.model.specs.Sizes.{leader_log_limit}
use Rattle.storage.specs.Head.{prefixes_held}
use Rattle.storage.specs.Tables.{LeaderLogRow}
use Rattle.storage.proofs.WellFormed.{formed}
use Rattle.storage_rows.specs.Rows.{leader_log_value}
use Rattle.leader_log.specs.Observation.{kept_in}
use Rattle.answers.specs.Numbers.{accepted_with}
use Rattle.leader_log.proofs.Turns.{row_read, left_open, differs, agrees}
use Rattle.leader_log.proofs.observation.hold_against.Goals as goal
use Rattle.leader_log.proofs.observation.hold_against.Goals.{After-of}

-- the place is one of the table's
within : (c : After-of) → c.args.place < leader_log_limit
within c = let f = (formed c.args.history.now c.requires.0).leader_logs in let l = c.requires.1 in omega arith

pub at-previous-requires : goal.at-previous-requires
at-previous-requires c = (within ((goal.at.at-previous-requires c).After-of), c.of.ensures.long)

pub log_extends-requires : goal.log_extends-requires
log_extends-requires c =
    let h = c.args.history.now in
    let read = row_read h c.args.place _ c.of.ensures.is _ c.at-previous.ensures in (
      subst (λ (x : LeaderLogRow). x.front ≤ prefixes_held h) (sym read) ((formed h c.requires.0).leader_log c.args.place c.requires.1).front,
      c.requires.2,
    )

pub set-requires-clause-within : goal.set-requires-clause-within
set-requires-clause-within c = within ((goal.at.set-requires-clause-within c).After-of)

pub returns-in_default : goal.returns-in_default
unfolding kept_in
returns-in_default c =
    let h = c.args.history.now in
    left_open h c.args.place (leader_log_value c.args.current) _ (row_read h c.args.place _ c.of.ensures.is _ c.at-previous.ensures) _ c.log_extends.ensures _ _ c.in_default.is c.with.ensures c.set.ensures

pub note_rewriting-requires : goal.note_rewriting-requires
note_rewriting-requires c = (c.requires.0, within ((goal.at.note_rewriting-requires c).After-of))

pub returns-then-not-extends : goal.returns-then-not-extends
returns-then-not-extends c =
    let h = c.args.history.now in
    differs h c.args.place (leader_log_value c.args.current) _ (row_read h c.args.place _ c.of.ensures.is _ c.at-previous.ensures) _ c.log_extends.ensures _ _ (c.in-Some.is ∙ ap Some c.if-not-extends.true) c.note_rewriting.ensures

pub set-requires-2-clause-within : goal.set-requires-2-clause-within
set-requires-2-clause-within c = within ((goal.at.set-requires-2-clause-within c).After-of)

pub returns : goal.returns
unfolding kept_in
returns c =
    let h = c.args.history.now in
    agrees h c.args.place (leader_log_value c.args.current) _ (row_read h c.args.place _ c.of.ensures.is _ c.at-previous.ensures) _ c.log_extends.ensures _ _ (c.in-Some.is ∙ ap Some c.if-not-extends.false) (c.with-2.ensures ∙ ap accepted_with c.growth.ensures) c.set-2.ensures
