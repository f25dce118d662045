-- `record_reading::head::read_terms` meets its contract: the model's chain is rewritten by what was taken on the way.
-- Assumes nothing.
use mathlib.Core.Path.{◌≡◌, refl}
use native.Mathlib.Omega.{arith}
use Rattle.model.specs.Reading.{terms_fields}
use Rattle.record_reading.proofs.Heads.{finish_head, fault_read, index_taken, term_taken}
use Rattle.record_reading.proofs.head.read_terms.Goals as goal

pub returns-in_err-new : goal.returns-in_err-new
unfolding terms_fields
returns-in_err-new c =
    let old = index_taken c.args.s.now 4 c.take_index.ensures.reads c.in_ok-old.was (cc) (omega arith) in
    let new = index_taken c.args.s.now 14 c.take_index-2.ensures.reads c.in_err-new.was (cc) (omega arith) in
    rw (old, new) (fault_read c.args.s.now _ _ c.from_residual-in_err-new.ensures.1)

pub returns-in_err-term : goal.returns-in_err-term
unfolding terms_fields
returns-in_err-term c =
    let old = index_taken c.args.s.now 4 c.take_index.ensures.reads c.in_ok-old.was (cc) (omega arith) in
    let new = index_taken c.args.s.now 14 c.take_index-2.ensures.reads c.in_ok-new.was (cc) (omega arith) in
    let term = term_taken c.args.s.now 24 c.take_term.ensures.reads c.in_err-term.was (cc) (omega arith) in
    rw (old, new, term) (fault_read c.args.s.now _ _ c.from_residual-in_err-term.ensures.1)

pub returns : goal.returns
unfolding terms_fields
returns c =
    let old = index_taken c.args.s.now 4 c.take_index.ensures.reads c.in_ok-old.was (cc) (omega arith) in
    let new = index_taken c.args.s.now 14 c.take_index-2.ensures.reads c.in_ok-new.was (cc) (omega arith) in
    let term = term_taken c.args.s.now 24 c.take_term.ensures.reads c.in_ok-term.was (cc) (omega arith) in
    let end : c.take_term.new.self.next ≡ 56 = omega arith in
    rw (old, new, term, c.finish.ensures, end) (finish_head _ _ _ _ refl)
