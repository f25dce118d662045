-- `record_reading::head::read_view` meets its contract: the model's chain is rewritten by what was taken; the entries are those in the bytes.
-- Assumes nothing.
use mathlib.Core.Path.{◌≡◌, refl, ap}
use native.Mathlib.Omega.{arith}
use Rattle.model.specs.Reading.{many, shown, view_fields}
use Rattle.record_entries.specs.BitLayout.{ViewBits, is_marked, index_of}
use Rattle.record_entries.proofs.Scanned.{entries_scanned}
use Rattle.record_entries.proofs.Listed.{end_not}
use Rattle.record_reading.proofs.Heads.{finish_head, fault_read, node_taken, count_taken}
use Rattle.record_reading.proofs.head.read_view.Goals as goal

pub returns-in_err-count : goal.returns-in_err-count
unfolding view_fields
returns-in_err-count c =
    let node = node_taken c.args.s.now 4 c.take_node.ensures.reads c.in_ok-node.was (cc) (omega arith) in
    let count = count_taken c.args.s.now 10 c.take_limited.ensures.reads c.in_err-count.was (cc) (omega arith) in
    rw (node, count) (fault_read c.args.s.now _ _ c.from_residual-in_err-count.ensures.1)

pub returns-in_err-end : goal.returns-in_err-end
unfolding view_fields
returns-in_err-end c =
    let node = node_taken c.args.s.now 4 c.take_node.ensures.reads c.in_ok-node.was (cc) (omega arith) in
    let count = count_taken c.args.s.now 10 c.take_limited.ensures.reads c.in_ok-count.was (cc) (omega arith) in
    let end : c.take_limited.new.self.next ≡ 20 = omega arith in
    let marked : c.of.result.marked ≡ is_marked c.args.s.now = ap (λ (v : ViewBits). v.marked) c.of.ensures in
    let entries =
    end_not (many (shown (is_marked c.args.s.now)) index_of 0 c.in_ok-count.count c.args.s.now 20) (rw (end, marked) at c.scan_entries.ensures)
    c.in_err-end.was in
    rw (node, count, entries) (fault_read c.args.s.now _ _ c.from_residual-in_err-end.ensures.1)

pub returns : goal.returns
unfolding view_fields
returns c =
    let node = node_taken c.args.s.now 4 c.take_node.ensures.reads c.in_ok-node.was (cc) (omega arith) in
    let count = count_taken c.args.s.now 10 c.take_limited.ensures.reads c.in_ok-count.was (cc) (omega arith) in
    let end : c.take_limited.new.self.next ≡ 20 = omega arith in
    let marked : c.of.result.marked ≡ is_marked c.args.s.now = ap (λ (v : ViewBits). v.marked) c.of.ensures in
    let entries =
    entries_scanned (is_marked c.args.s.now) c.args.s.now 20 c.in_ok-count.count (rw (end, marked) at c.scan_entries.ensures) c.in_ok-end.was in
    rw (node, count, entries, c.finish.ensures) (finish_head _ _ _ _ refl)
