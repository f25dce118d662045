-- `record_editions::turn::turn` meets its contract.
-- Assumes nothing.
use mathlib.Core.Path.{sym, ◌∙◌}
use native.Mathlib.Omega.{arith}
use Rattle.std.proofs.Common.{rules}
use Rattle.record_entries.specs.BitLayout.{bits_of, first_entry}
use Rattle.record_entries.proofs.Views.{walked}
use Rattle.record_editions.proofs.Entries.{portions_some, portions_not}
use Rattle.record_editions.proofs.Views.{gives_configured, gives_short, gives_whole}
use Rattle.record_editions.proofs.turn.turn.Goals as goal

pub portions_end-requires : goal.portions_end-requires
portions_end-requires c = walked (bits_of c.args.view.shown.bytes.now c.args.view.shown.marked) _ _ c.args.view.walk

pub returns-in_default : goal.returns-in_default
returns-in_default c =
    let w = c.args.view in
    let v = bits_of w.shown.bytes.now w.shown.marked in
    record { gives = gives_configured v w.node.0 w.entries c.args.buffer.now (portions_not v first_entry w.entries (sym c.portions_end.ensures ∙ c.in_default.is)) }

pub returns-then-buffer-length : goal.returns-then-buffer-length
returns-then-buffer-length c =
    let w = c.args.view in
    let v = bits_of w.shown.bytes.now w.shown.marked in
    let p = portions_some v first_entry w.entries (sym c.portions_end.ensures ∙ c.in-Some.is) in
    record { gives = gives_short v w.node.0 w.entries c.args.buffer.now c.turned_bits.result p.0 c.turned_bits.ensures.is (omega arith) }

pub returns : goal.returns
returns c =
    let w = c.args.view in
    let v = bits_of w.shown.bytes.now w.shown.marked in
    let p = portions_some v first_entry w.entries (sym c.portions_end.ensures ∙ c.in-Some.is) in
    record {
      gives = gives_whole v w.node.0 w.entries c.args.buffer.now _ c.turned_bits.result (search rules) w.is_node c.requires p.0 c.turned_bits.ensures.is (omega arith) c.put_view.ensures;
    }
