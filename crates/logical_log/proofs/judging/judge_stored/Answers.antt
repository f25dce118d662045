-- `logical_log::judging::judge_stored` meets its contract.
-- Assumes nothing.
use Prim.Native.Nat.{ℕ, ◌≤◌}
use mathlib.Core.Path.{sym, subst}
use Rattle.record_entries.proofs.Walks.{here}
use Rattle.log_prefix.proofs.StoredLaws.{stored_number, stored_nothing}
use Rattle.log_prefix.proofs.Loops.{are_same, are_other}
use Rattle.logical_log.proofs.Cursors.{find_within}
use Rattle.logical_log.proofs.Turns.{told, untold, judging_starts, entry_short, judging_none, judging_gap, judging_lost, judging_next}
use Rattle.record_entries.proofs.Views.{walked}
use Rattle.logical_log.proofs.judging.judge_stored.Goals as goal
use Rattle.logical_log.proofs.judging.judge_stored.Goals.{then-is_other, else-is_other}

pub loop-here-init : goal.loop-here-init
loop-here-init c =
    judging_starts _ _ _ _ _ _ _ (walked _ _ _ c.args.view.walk) _ c.first_cursor-here.ensures

pub entry_at-e-requires : goal.entry_at-e-requires
entry_at-e-requires c = here _ _ _ c.loop-here.invariant.walkable.walk c.loop-here-test.true

pub find_extension-requires : goal.find_extension-requires
find_extension-requires c = (
  c.loop-here.invariant.walkable.number,
  entry_short _ _ _ 0 c.loop-here.invariant.walkable.walk c.loop-here-test.true _ c.entry_at-e.ensures,
)

pub is_other-requires : goal.is_other-requires
is_other-requires c =
    let x = stored_number _ _ c.find_extension.ensures _ c.in-Some.is in (
      c.requires,
      subst (λ (y : ℕ). 1 ≤ y) (sym (are_same c.if-ne.ensures)) c.loop-here.invariant.walkable.positive,
      subst (λ (y : ℕ). y ≤ c.args.prefixes.count) (sym x.0) (find_within _ _ _),
    )

pub loop-here-preserved : goal.loop-here-preserved
loop-here-preserved c =
    let x = stored_number _ _ c.find_extension.ensures _ c.in-Some.is in
    judging_next _ _ _ _ _ _ _ _ _ _ c.loop-here.invariant
    c.loop-here-test.true _ c.entry_at-e.ensures (are_same c.if-ne.ensures) _ x.0 x.1 _ c.is_other.ensures _ _
    (elim c.if-is_other.branch [
      | then-is_other w ↦ told _ _ _ _ w.if-is_other.true _ w.lg03.ensures _ w.notes-is w.note.ensures
      | else-is_other w ↦ untold _ _ _ _ w.if-is_other.false w.notes-is
    ])
    _ c.cursor_after-here.ensures

pub returns-after-loop-here : goal.returns-after-loop-here
returns-after-loop-here c =
    judging_none _ _ _ _ _ _ _ _ _ _ c.loop-here.invariant c.loop-here-test.false

pub returns-then-ne : goal.returns-then-ne
returns-then-ne c =
    judging_gap _ _ _ _ _ _ _ _ _ _ c.loop-here.invariant c.loop-here-test.true _ c.entry_at-e.ensures (are_other c.if-ne.ensures)

pub returns-in_default : goal.returns-in_default
returns-in_default c =
    judging_lost _ _ _ _ _ _ _ _ _ _ c.loop-here.invariant
    c.loop-here-test.true _ c.entry_at-e.ensures (are_same c.if-ne.ensures) (stored_nothing _ _ c.find_extension.ensures c.in_default.is)
