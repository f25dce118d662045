-- `record_editions::put::put_view` meets its contract: the kind, the node and the count, and then the entries.
-- Assumes nothing.
use mathlib.Core.Path.{◌≡◌, ap, ◌∙◌}
use native.Mathlib.Omega.{arith}
use lib.ListN.{length}
use Rattle.record_entries.specs.BitLayout.{bits_of}
use Rattle.record_entries.proofs.Views.{walked}
use Rattle.record_writing.proofs.Puts.{field_length}
use Rattle.record_editions.proofs.Views.{kind_small, view_width, view_put}
use Rattle.record_editions.proofs.put.put_view.Goals as goal

pub put_bits-requires : goal.put_bits-requires
put_bits-requires c =
    let a = c.args in
    let v = bits_of a.view.shown.bytes.now a.view.shown.marked in
    (omega arith, omega arith, rw c.kind.ensures (kind_small _), omega (arith, c.requires.room.0, view_width v a.view.node.0 a.view.entries))

pub put_bits-requires-2 : goal.put_bits-requires-2
put_bits-requires-2 c =
    let a = c.args in
    let v = bits_of a.view.shown.bytes.now a.view.shown.marked in
    let size : length c.put_bits.new.t ≡ length a.t.now = ap length c.put_bits.ensures ∙ field_length _ _ _ _ in
    (omega arith, omega arith, rw c.from.ensures a.view.is_node, omega (arith, c.requires.room.0, view_width v a.view.node.0 a.view.entries, size))

pub put_bits-requires-3 : goal.put_bits-requires-3
put_bits-requires-3 c =
    let a = c.args in
    let v = bits_of a.view.shown.bytes.now a.view.shown.marked in
    let size : length c.put_bits-2.new.t ≡ length a.t.now
    = ap length c.put_bits-2.ensures ∙ field_length _ _ _ _ ∙ ap length c.put_bits.ensures ∙ field_length _ _ _ _ in
    (omega arith, omega arith, omega (arith, c.requires.room.1), omega (arith, c.requires.room.0, view_width v a.view.node.0 a.view.entries, size))

pub put_entries-requires-clause-walk : goal.put_entries-requires-clause-walk
put_entries-requires-clause-walk c = walked (bits_of c.args.view.shown.bytes.now c.args.view.shown.marked) _ _ c.args.view.walk

pub put_entries-requires-clause-room : goal.put_entries-requires-clause-room
put_entries-requires-clause-room c =
    let a = c.args in
    let v = bits_of a.view.shown.bytes.now a.view.shown.marked in
    let size : length c.put_bits-3.new.t ≡ length a.t.now
    = ap length c.put_bits-3.ensures ∙ field_length _ _ _ _ ∙ ap length c.put_bits-2.ensures ∙ field_length _ _ _ _ ∙ ap length c.put_bits.ensures ∙ field_length _ _ _ _ in
    (omega (arith, c.requires.room.0, view_width v a.view.node.0 a.view.entries, size), c.requires.room.1)

pub returns : goal.returns
returns c =
    let a = c.args in
    let v = bits_of a.view.shown.bytes.now a.view.shown.marked in
    view_put v a.view.node.0 a.view.entries a.t.now c.put_bits.new.t c.put_bits-2.new.t c.put_bits-3.new.t c.put_entries.new.t
    (rw c.kind.ensures at c.put_bits.ensures) (rw c.from.ensures at c.put_bits-2.ensures) c.put_bits-3.ensures c.put_entries.ensures
