-- `record_editions::runs::move_bits` meets its contract: a turn moves the next piece, and the last one ends with the run.
-- Assumes nothing.
use Prim.Native.Nat.{ℕ, ◌+◌, ◌-◌}
use mathlib.Core.Path.{◌≡◌, ap, ◌∙◌}
use native.Mathlib.Omega.{arith}
use lib.ListN.{length}
use Rattle.std.proofs.Common.{rules}
use Rattle.model.specs.Reading.{field_at}
use Rattle.record_bits.proofs.Widths.{field_lt}
use Rattle.record_writing.specs.Puts.{put_field}
use Rattle.record_writing.proofs.Puts.{field_length}
use Rattle.record_writing.proofs.Joins.{field_moved, field_over}
use Rattle.record_editions.proofs.runs.move_bits.Goals as goal

pub put_bits-requires : goal.put_bits-requires
put_bits-requires c = (omega arith, omega arith, rw c.bits_at.ensures (field_lt _ _ _), omega arith)

pub put_bits-requires-2 : goal.put_bits-requires-2
put_bits-requires-2 c = (omega arith, omega arith, rw c.bits_at-2.ensures (field_lt c.args.s.now c.args.from 57), omega arith)

pub put_bits-requires-in-loop : goal.put_bits-requires-in-loop
put_bits-requires-in-loop c =
    let l = c.loop in
    let size : length l.t ≡ length c.args.t.now = ap length l.invariant.1 ∙ field_length _ _ _ _ in
    (omega arith, omega arith, rw c.bits_at-in-loop.ensures (field_lt c.args.s.now (c.args.from + l.done) 57), omega (arith, size, l.invariant.0))

pub loop-preserved : goal.loop-preserved
loop-preserved c =
    let l = c.loop in
    let a = c.args in (
      omega (arith, l.invariant.0),
      c.put_bits-in-loop.ensures
          ∙ (λ i. put_field (l.invariant.1 i) (a.at + l.done) 57 (c.bits_at-in-loop.ensures i))
          ∙ field_moved a.t.now (search rules) a.s.now a.at a.from l.done 57 (omega (arith, l.invariant.0)) (omega arith) (omega (arith, l.invariant.0)),
    )

pub put_bits-requires-3 : goal.put_bits-requires-3
put_bits-requires-3 c =
    let l = c.loop in
    let size : length l.t ≡ length c.args.t.now = ap length l.invariant.1 ∙ field_length _ _ _ _ in
    (omega arith, omega arith, rw c.bits_at-3.ensures (field_lt c.args.s.now (c.args.from + (c.args.w - 57)) 57), omega (arith, size))

pub returns : goal.returns
returns c =
    let l = c.loop in
    let a = c.args in
    let b : ℕ = a.w - 57 in
    let e : b + 57 ≡ a.w = omega arith in
    c.put_bits-3.ensures
    ∙ (λ i. put_field (l.invariant.1 i) (a.at + b) 57 (c.bits_at-3.ensures i))
    ∙ field_over a.t.now (search rules) a.s.now a.at a.from l.done b 57 (omega (arith, l.invariant.0)) (omega arith)
    (omega (arith, l.invariant.0)) (omega (arith, l.invariant.0)) (omega arith)
    ∙ ap (λ (w : ℕ). put_field a.t.now a.at w (field_at a.s.now a.from w)) e
