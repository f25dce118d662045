-- `leader_log::observation::note_rewriting` meets its contract.
-- Assumes nothing.
use mathlib.Core.Path.{◌∙◌, ap}
use Rattle.std.specs.Prelude.{Err}
use Rattle.std.proofs.lemmas.Result.{err_from_is_err_and}
use Rattle.leader_log.specs.Observation.{kept_in}
use Rattle.leader_log.proofs.Turns.{note_full, note_so}
use Rattle.leader_log.proofs.observation.note_rewriting.Goals as goal

pub returns-in_err-note_in : goal.returns-in_err-note_in
returns-in_err-note_in c =
    let p = err_from_is_err_and c.from_residual.result c.from_residual.ensures.1 in
    note_full _ _ _ _ _ c.note_in.ensures _ c.in_err-note_in.was _ (p.1 ∙ ap Err p.2)

pub returns : goal.returns
unfolding kept_in
returns c =
    note_so _ _ _ _ _ c.note_in.ensures _ c.in_ok-note_in.was _ c.with.ensures _ c.set.ensures
