-- `record_reading::head::read_election` meets its contract: the model's chain is rewritten by what was taken on the way.
-- Assumes nothing.
use mathlib.Core.Path.{◌≡◌}
use native.Mathlib.Omega.{arith}
use Rattle.model.specs.Reading.{election_fields}
use Rattle.record_reading.proofs.Heads.{finish_head, fault_read, node_taken, term_taken, yes_no_taken, length_taken, kept_length}
use Rattle.record_reading.proofs.head.read_election.Goals as goal

pub returns-in_err-length : goal.returns-in_err-length
unfolding election_fields
returns-in_err-length c =
    let leader = node_taken c.args.s.now 4 c.take_node.ensures.reads c.in_ok-leader.was (cc) (omega arith) in
    let term = term_taken c.args.s.now 10 c.take_term.ensures.reads c.in_ok-elected_in.was (cc) (omega arith) in
    let present = yes_no_taken c.args.s.now 42 c.take_yes_no.ensures.reads c.in_ok-present.was (cc) (omega arith) in
    let length = length_taken c.args.s.now 43 c.in_ok-present.present c.take_governed.ensures.reads c.in_err-length.was (cc) (omega arith) in
    rw (leader, term, present, length) (fault_read c.args.s.now _ _ c.from_residual-in_err-length.ensures.1)

pub returns : goal.returns
unfolding election_fields
returns c =
    let leader = node_taken c.args.s.now 4 c.take_node.ensures.reads c.in_ok-leader.was (cc) (omega arith) in
    let term = term_taken c.args.s.now 10 c.take_term.ensures.reads c.in_ok-elected_in.was (cc) (omega arith) in
    let present = yes_no_taken c.args.s.now 42 c.take_yes_no.ensures.reads c.in_ok-present.was (cc) (omega arith) in
    let length = length_taken c.args.s.now 43 c.in_ok-present.present c.take_governed.ensures.reads c.in_ok-length.was (cc) (omega arith) in
    let end : c.take_governed.new.self.next ≡ 53 = omega arith in
    rw (leader, term, present, length, c.finish.ensures, end)
    (finish_head _ _ _ _ (kept_length _ _ c.in_ok-present.present _ c.in_ok-length.ensures.within _ c.then_some.ensures))
