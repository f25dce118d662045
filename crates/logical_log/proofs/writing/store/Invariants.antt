-- `logical_log::writing::store` meets its contract.
-- Assumes nothing.
use Prim.Native.Nat.{ℕ, ◌+◌}
use mathlib.Core.Path.{◌≡◌}
use Rattle.record_entries.specs.BitLayout.{bits_of}
use Rattle.logical_log.specs.Judging.{cursor_at}
use Rattle.logical_log.proofs.WritingTurns.{Written}
use Rattle.logical_log.proofs.writing.store.Given as goal

abbrev pub invariant-loop-e : goal.invariant-loop-e
invariant-loop-e l =
    let w = l.e-iterator in
    let s = bits_of l.view.bytes.now l.view.marked in
    (i : ℕ) × (bits_of w.view.bytes.now w.view.marked ≡ s) × Written l.initial.history l.count s l.fn.rest l.history (cursor_at w.next w.left i l.front.0) (l.count + l.made)
