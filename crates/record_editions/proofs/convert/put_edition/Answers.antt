-- `record_editions::convert::put_edition` meets its contract.
-- Assumes nothing.
use mathlib.Core.Path.{◌≡◌, sym, subst, ◌∙◌, ap}
use Rattle.std.specs.Prelude.{Ok}
use Rattle.std.proofs.Common.{rules}
use Rattle.record_entries.specs.BitLayout.{ViewBits, Walk, is_marked, first_entry}
use Rattle.record_reading.specs.Heads.{Told}
use Rattle.record_reading.proofs.Readable.{view_walk}
use Rattle.record_writing.specs.Writing.{Gives, Written}
use mathlib.Core.Bool.{Bool, not}
use Rattle.model.specs.Reading.{readable, read}
use Rattle.record_editions.specs.Editions.{put_edition}
use Rattle.record_editions.specs.Numbers.{number_of}
use Rattle.record_editions.specs.Turned.{view_of}
use Rattle.record_editions.proofs.Spelled.{head_put, own_put, some_byte, same_edition, other_edition}
use Rattle.record_editions.proofs.convert.put_edition.Goals as goal

pub returns-in_default : goal.returns-in_default
returns-in_default c =
    let a = c.args in
    let t = subst (Told a.s.now) c.in_ok-node.was c.read.ensures in
    subst (λ (w : Written). Gives number_of w c.copy.result c.copy.new.buffer)
    (sym (head_put a.s.now a.buffer.now c.in_ok-node.field-0 a.marked (search rules) t c.in_default.not-View)) c.copy.ensures

pub of-shown-requires : goal.of-shown-requires
of-shown-requires c =
    let a = c.args in
    let t = subst (Told a.s.now) (c.in_ok-node.was ∙ ap Ok c.in-View.is) c.read.ensures in
    some_byte a.s.now _ t.reading

pub returns-then-shown-marked : goal.returns-then-shown-marked
returns-then-shown-marked c =
    let a = c.args in
    let t = subst (Told a.s.now) (c.in_ok-node.was ∙ ap Ok c.in-View.is) c.read.ensures in
    let m : is_marked a.s.now ≡ a.marked = sym (ap (λ (v : ViewBits). v.marked) c.of-shown.ensures) ∙ same_edition _ _ c.if-shown-marked.true in
    subst (λ (w : Written). Gives number_of w c.copy-then-shown-marked.result c.copy-then-shown-marked.new.buffer)
    (sym (own_put a.s.now _ a.buffer.now (search rules) t.reading) ∙ ap (λ (b : Bool). put_edition b a.buffer.now (read a.s.now)) m) c.copy-then-shown-marked.ensures

pub invariant_of-view : goal.invariant_of-view
invariant_of-view c =
    let a = c.args in
    let t = subst (Told a.s.now) (c.in_ok-node.was ∙ ap Ok c.in-View.is) c.read.ensures in
    record {
      walk = ∣ subst (λ (v : ViewBits). Walk v first_entry c.in-View.count) (sym c.of-shown.ensures) (view_walk _ _ _ _ c.read.ensures (c.in_ok-node.was ∙ ap Ok c.in-View.is)) ∣₁;
      is_node = t.within.0;
    }

pub returns : goal.returns
returns c =
    let a = c.args in
    let t = subst (Told a.s.now) (c.in_ok-node.was ∙ ap Ok c.in-View.is) c.read.ensures in
    let m : not c.of-shown.result.marked ≡ a.marked = other_edition _ _ c.if-shown-marked.false in
    let e = ap (λ (v : ViewBits). readable (view_of v c.in-View.node.0 c.in-View.count)) c.of-shown.ensures ∙ sym t.reading in
    subst (λ (w : Written). Gives number_of w c.turn.result c.turn.new.buffer) (λ i. put_edition (m i) a.buffer.now (e i)) c.turn.ensures.gives
