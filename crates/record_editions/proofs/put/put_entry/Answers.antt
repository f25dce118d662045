-- `record_editions::put::put_entry` meets its contract: two runs, and between them the mark where it is shown.
-- Assumes nothing.
use Prim.Native.Nat.{◌+◌, ◌-◌, ◌*◌}
use mathlib.Core.Path.{◌≡◌, ap, ◌∙◌}
use native.Mathlib.Omega.{arith}
use lib.ListN.{length}
use Rattle.std.proofs.Common.{rules}
use Rattle.record_entries.specs.BitLayout.{bits_of, mark_width, length_at}
use Rattle.record_entries.proofs.Given.{mark_small}
use Rattle.record_writing.proofs.Puts.{field_length, spans_length}
use Rattle.record_editions.specs.Turned.{other}
use Rattle.record_editions.proofs.Entries.{one_bit, entry_width, entry_put}
use Rattle.record_editions.proofs.put.put_entry.Goals as goal

pub move_bits-requires : goal.move_bits-requires
move_bits-requires c =
    let a = c.args in
    let r = c.requires in
    let v = bits_of a.view.bytes.now a.view.marked in
    let width = entry_width v a.from (other v) in
    (omega arith, omega (arith, r.room.0, width), omega (arith, r.here.whole), omega (arith, r.room.1), omega (arith, r.here.near))

pub put_mark-requires : goal.put_mark-requires
put_mark-requires c =
    let a = c.args in
    let v = bits_of a.view.bytes.now a.view.marked in
    let width = entry_width v a.from (other v) in
    let size : length c.move_bits.new.t ≡ length a.t.now = ap length c.move_bits.ensures ∙ field_length _ _ _ _ in
    omega (arith, c.requires.room.0, width, size)

pub move_bits-requires-2 : goal.move_bits-requires-2
move_bits-requires-2 c =
    let a = c.args in
    let r = c.requires in
    let v = bits_of a.view.bytes.now a.view.marked in
    let width = entry_width v a.from (other v) in
    let size : length c.put_mark.new.t ≡ length a.t.now
    = ap length c.put_mark.ensures ∙ spans_length _ _ _ ∙ ap length c.move_bits.ensures ∙ field_length _ _ _ _ in
    let own : c.from-own.result ≡ mark_width v.marked = c.from-own.ensures ∙ one_bit v.marked in
    let to : c.from-other.result ≡ mark_width (other v) = c.from-other.ensures ∙ one_bit (other v) in
    let tail : a.next - (a.from + (42 + c.from-own.result)) ≡ 6 + 8 * length_at v a.from = omega (arith, own, r.next) in (
      omega (arith, tail),
      omega (arith, tail, to, width, size, r.room.0),
      omega (arith, tail, own, r.next, r.here.whole),
      omega (arith, tail, to, mark_small (other v), r.here.short, r.room.1),
      omega (arith, tail, own, mark_small v.marked, r.here.short, r.here.near),
    )

pub returns-clause-written : goal.returns-clause-written
returns-clause-written c =
    let a = c.args in
    let v = bits_of a.view.bytes.now a.view.marked in
    let own : c.from-own.result ≡ mark_width v.marked = c.from-own.ensures ∙ one_bit v.marked in
    let to : c.from-other.result ≡ mark_width (other v) = c.from-other.ensures ∙ one_bit (other v) in
    let tail : a.next - (a.from + (42 + mark_width v.marked)) ≡ 6 + 8 * length_at v a.from = omega (arith, c.requires.next) in
    entry_put v a.from (other v) a.t.now c.move_bits.new.t c.put_mark.new.t c.move_bits-2.new.t (search rules) (search rules) a.at _ c.requires.portion tail c.requires.room.0
    c.move_bits.ensures c.put_mark.ensures (rw (own, to) at c.move_bits-2.ensures)

pub returns-clause-next : goal.returns-clause-next
returns-clause-next c =
    let a = c.args in
    let v = bits_of a.view.bytes.now a.view.marked in
    let own : c.from-own.result ≡ mark_width v.marked = c.from-own.ensures ∙ one_bit v.marked in
    let to : c.from-other.result ≡ mark_width (other v) = c.from-other.ensures ∙ one_bit (other v) in
    omega (arith, own, to, c.requires.next, entry_width v a.from (other v))
