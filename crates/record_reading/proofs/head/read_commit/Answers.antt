-- `record_reading::head::read_commit` meets its contract: the model's chain is rewritten by what was taken on the way.
-- Assumes nothing.
use mathlib.Core.Path.{◌≡◌, refl}
use native.Mathlib.Omega.{arith}
use Rattle.model.specs.Reading.{commit_fields}
use Rattle.record_reading.proofs.Heads.{finish_head, fault_read, node_taken, index_taken}
use Rattle.record_reading.proofs.head.read_commit.Goals as goal

pub returns-in_err-index : goal.returns-in_err-index
unfolding commit_fields
returns-in_err-index c =
    let node = node_taken c.args.s.now 4 c.take_node.ensures.reads c.in_ok-node.was (cc) (omega arith) in
    let index = index_taken c.args.s.now 10 c.take_index.ensures.reads c.in_err-index.was (cc) (omega arith) in
    rw (node, index) (fault_read c.args.s.now _ _ c.from_residual-in_err-index.ensures.1)

pub returns : goal.returns
unfolding commit_fields
returns c =
    let node = node_taken c.args.s.now 4 c.take_node.ensures.reads c.in_ok-node.was (cc) (omega arith) in
    let index = index_taken c.args.s.now 10 c.take_index.ensures.reads c.in_ok-index.was (cc) (omega arith) in
    let end : c.take_index.new.self.next ≡ 20 = omega arith in
    rw (node, index, c.finish.ensures, end) (finish_head _ _ _ _ refl)
