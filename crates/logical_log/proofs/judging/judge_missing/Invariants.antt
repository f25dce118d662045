-- `logical_log::judging::judge_missing` meets its contract.
-- Assumes nothing.
use Prim.Native.Nat.{◌+◌}
use mathlib.Core.Path.{◌≡◌}
use Rattle.record_entries.specs.BitLayout.{bits_of}
use Rattle.logical_log.specs.Judging.{cursor_at}
use Rattle.logical_log.proofs.Turns.{Lacking}
use Rattle.logical_log.proofs.judging.judge_missing.Given as goal

abbrev pub invariant-loop-e : goal.invariant-loop-e
invariant-loop-e l =
    let w = l.e-iterator in
    let s = bits_of l.view.shown.bytes.now l.view.shown.marked in
    (bits_of w.view.bytes.now w.view.marked ≡ s)
    × Lacking l.prefixes.rows.now l.prefixes.count s l.rest l.view.node.0 l.initial.notes.rows l.initial.notes.held l.notes.rows
    (cursor_at w.next w.left (l.rest.index.0 + l.missing) l.rest.prefix.0) l.missing l.notes.held
