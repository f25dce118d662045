-- `leader_log::observation::place_of` meets its contract. The invariant: the place is that among the rows that are left.
-- Assumes nothing.
use Prim.Native.Nat.{◌-◌}
use mathlib.Core.Path.{◌≡◌}
use Rattle.storage.specs.Tables.{leader_log_row}
use Rattle.leader_log.specs.Observation.{place_from}
use Rattle.leader_log.proofs.observation.place_of.Given as goal

abbrev pub invariant-loop-k : goal.invariant-loop-k
invariant-loop-k l =
    place_from (leader_log_row l.logs) l.leader.node.0 l.leader.term.0 0 l.held ≡ place_from (leader_log_row l.logs) l.leader.node.0 l.leader.term.0 l.k (l.held - l.k)
