-- `record_bits::bits::bits_at` meets its contract: a turn takes one whole byte, and v is the number of the bytes before it.
-- Assumes nothing.
use Prim.Native.Nat.{ℕ, ◌+◌, ◌-◌, ◌*◌, ◌/◌, ◌%◌, ◌^◌, ◌<◌}
use mathlib.Core.Path.{◌≡◌, ap, ◌∙◌}
use native.Mathlib.Omega.{arith}
use Rattle.std.proofs.lemmas.List.{get_or-take, get_or-drop, length-take, length-drop}
use Rattle.std.proofs.Math.ListN.{drop}
use Rattle.model.specs.Reading.{field_at}
use Rattle.record_bits.proofs.Widths.{turn, cut, field_none, field_lt_64}
use Rattle.record_bits.proofs.bits.bits_at.Goals as goal

pub loop-byte-init : goal.loop-byte-init
loop-byte-init c = field_none _ _ _ (omega arith)

turned : (c : goal.After-from)
    → let l = c.loop-byte in
    let a = c.args in
    (l.v * 2 ^ 8) % 2 ^ 64 + c.from.result ≡ field_at a.s.now (8 * (a.at / 8)) (8 * (l.byte-index + 1))
turned c =
    let l = c.loop-byte in
    let a = c.args in
    let f : ℕ = a.at / 8 in
    let n : ℕ = f + (a.at % 8 + a.w + 7) / 8 - f in
    let h : l.byte-index < n = omega (arith, length-take {A = ℕ}) in
    let e = c.from.ensures ∙ get_or-take n (drop f a.s.now) l.byte-index 0 h ∙ get_or-drop f a.s.now l.byte-index 0 in
    let b = c.type_inv.s (f + l.byte-index) in
    turn a.s.now f l.byte-index l.v c.from.result l.invariant (omega arith) e (omega (arith, b, e))

pub overflow_add-v : goal.overflow_add-v
overflow_add-v c = record { fits = rw (turned c) (field_lt_64 _ _ _ (omega arith)) }

pub loop-byte-preserved : goal.loop-byte-preserved
loop-byte-preserved c = turned c

pub returns : goal.returns
returns c =
    let a = c.args in
    let l = c.loop-byte in
    let e : l.byte-index ≡ (a.at % 8 + a.w + 7) / 8 = omega (arith, length-take {A = ℕ}, length-drop {A = ℕ}) in
    cut a.s.now a.at a.w _ l.v (l.invariant ∙ ap (λ (m : ℕ). field_at a.s.now (8 * (a.at / 8)) (8 * m)) e) (omega arith) (omega arith)
