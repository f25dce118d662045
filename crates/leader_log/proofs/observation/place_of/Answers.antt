-- `leader_log::observation::place_of` meets its contract.
-- Assumes nothing.
use mathlib.Core.Path.{sym, ◌∙◌}
use Rattle.storage.specs.Tables.{leader_log_row}
use Rattle.leader_log.proofs.Places.{place_stop, place_next, place_none}
use Rattle.leader_log.proofs.observation.place_of.Goals as goal

pub returns-then-is_pair : goal.returns-then-is_pair
returns-then-is_pair c =
    let s = c.args in
    sym (place_stop (leader_log_row s.logs.now) s.leader.node.0 s.leader.term.0 c.loop-k.k s.held c.loop-k.invariant c.loop-k-test.true (sym c.is_pair.ensures ∙ c.if-is_pair.true))

pub loop-k-preserved : goal.loop-k-preserved
loop-k-preserved c =
    let s = c.args in
    place_next (leader_log_row s.logs.now) s.leader.node.0 s.leader.term.0 c.loop-k.k s.held c.loop-k.invariant c.loop-k-test.true (sym c.is_pair.ensures ∙ c.if-is_pair.false)

pub returns : goal.returns
returns c =
    let s = c.args in
    sym (place_none (leader_log_row s.logs.now) s.leader.node.0 s.leader.term.0 c.loop-k.k s.held c.loop-k.invariant c.loop-k-test.false)
