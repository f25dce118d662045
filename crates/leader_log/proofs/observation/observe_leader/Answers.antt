-- `leader_log::observation::observe_leader` meets its contract.
-- Assumes nothing.
use mathlib.Core.Path.{sym, ◌∙◌, subst}
use Prim.Native.Nat.{ℕ, ◌≤◌}
use Rattle.model.specs.Sizes.{leader_log_limit}
use Rattle.storage.specs.Head.{prefixes_held}
use Rattle.storage.specs.Tables.{LeaderLogRow}
use Rattle.storage.proofs.WellFormed.{formed}
use Rattle.leader_log.proofs.Turns.{place_read, place_within, observe_first, observe_next}
use Rattle.leader_log.proofs.observation.observe_leader.Goals as goal

pub place_of-requires : goal.place_of-requires
place_of-requires c =
    subst (λ (n : ℕ). n ≤ leader_log_limit) (sym c.leader_log_count-held.ensures.is) (formed c.args.history.now c.requires.0).leader_logs

pub returns-in_default : goal.returns-in_default
returns-in_default c =
    let h = c.args.history.now in
    let l = c.args.leader in
    observe_first h l.node.0 l.term.0 _ c.present-current.ensures _ (place_read h l.node.0 l.term.0 _ c.array.ensures.is _ c.leader_log_count-held.ensures.is _ c.place_of.ensures) _ _ c.in_default.is c.keep_first.ensures

pub hold_against-requires : goal.hold_against-requires
hold_against-requires c =
    let h = c.args.history.now in
    let l = c.args.leader in
    let place = place_read h l.node.0 l.term.0 _ c.array.ensures.is _ c.leader_log_count-held.ensures.is _ c.place_of.ensures in (
      c.requires.0,
      place_within h l.node.0 l.term.0 c.in-Some.place (sym place ∙ c.in-Some.is),
      subst (λ (x : LeaderLogRow). x.front ≤ prefixes_held h) (sym c.present-current.ensures) ((formed h c.requires.0).node l.node.0 c.requires.1).front,
    )

pub returns : goal.returns
returns c =
    let h = c.args.history.now in
    let l = c.args.leader in
    observe_next h l.node.0 l.term.0 _ c.present-current.ensures _ (place_read h l.node.0 l.term.0 _ c.array.ensures.is _ c.leader_log_count-held.ensures.is _ c.place_of.ensures) _ _ c.in-Some.place c.in-Some.is c.hold_against.ensures
