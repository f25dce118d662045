-- `record_reading::head::read_leader` meets its contract: the model's chain is rewritten by what was taken on the way.
-- Assumes nothing.
use mathlib.Core.Path.{◌≡◌, refl}
use native.Mathlib.Omega.{arith}
use Rattle.model.specs.Reading.{leader_fields}
use Rattle.record_reading.proofs.Heads.{finish_head, node_taken, term_taken}
use Rattle.record_reading.proofs.head.read_leader.Goals as goal

pub returns : goal.returns
unfolding leader_fields
returns c =
    let node = node_taken c.args.s.now 4 c.take_node.ensures.reads c.in_ok-node.was (cc) (omega arith) in
    let term = term_taken c.args.s.now 10 c.take_term.ensures.reads c.in_ok-term.was (cc) (omega arith) in
    let end : c.take_term.new.self.next ≡ 42 = omega arith in
    rw (node, term, c.finish.ensures, end) (finish_head _ _ _ _ refl)
