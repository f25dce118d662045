-- `record_editions::turn::turned_bits` meets its contract.
-- Assumes nothing.
use native.Mathlib.Omega.{arith}
use Rattle.record_entries.specs.BitLayout.{bits_of}
use Rattle.record_entries.proofs.Views.{walked}
use Rattle.record_editions.proofs.Views.{fewer, more, end_near}
use Rattle.record_editions.proofs.turn.turned_bits.Goals as goal

pub overflow_sub-result : goal.overflow_sub-result
overflow_sub-result c =
    let w = c.args.view in
    omega (arith, fewer (bits_of w.shown.bytes.now w.shown.marked) w.node.0 w.entries c.requires.0 c.if-view.true)

pub overflow_add-result : goal.overflow_add-result
overflow_add-result c =
    let w = c.args.view in
    let v = bits_of w.shown.bytes.now w.shown.marked in
    record { fits = omega (arith, end_near v w.node.0 w.entries c.requires.0 (walked v _ _ w.walk), c.requires.1) }

pub returns-then-view-clause-is : goal.returns-then-view-clause-is
returns-then-view-clause-is c =
    let w = c.args.view in
    omega (arith, fewer (bits_of w.shown.bytes.now w.shown.marked) w.node.0 w.entries c.requires.0 c.if-view.true)

pub returns-then-view-clause-near : goal.returns-then-view-clause-near
returns-then-view-clause-near c =
    let w = c.args.view in
    let v = bits_of w.shown.bytes.now w.shown.marked in
    omega (arith, end_near v w.node.0 w.entries c.requires.0 (walked v _ _ w.walk), c.requires.1)

pub returns-else-view-clause-is : goal.returns-else-view-clause-is
returns-else-view-clause-is c =
    let w = c.args.view in
    more (bits_of w.shown.bytes.now w.shown.marked) w.node.0 w.entries c.requires.0 c.if-view.false

pub returns-else-view-clause-near : goal.returns-else-view-clause-near
returns-else-view-clause-near c =
    let w = c.args.view in
    let v = bits_of w.shown.bytes.now w.shown.marked in
    omega (arith, end_near v w.node.0 w.entries c.requires.0 (walked v _ _ w.walk), c.requires.1)
