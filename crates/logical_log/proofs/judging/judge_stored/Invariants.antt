-- `logical_log::judging::judge_stored` meets its contract.
-- Assumes nothing.
use Rattle.record_entries.specs.BitLayout.{bits_of}
use Rattle.logical_log.proofs.Turns.{Judging}
use Rattle.logical_log.proofs.judging.judge_stored.Given as goal

abbrev pub invariant-loop-here : goal.invariant-loop-here
invariant-loop-here l =
    let s = bits_of l.view.shown.bytes.now l.view.shown.marked in
    Judging l.prefixes.rows.now l.prefixes.count s l.view.entries l.view.node.0 l.initial.notes.rows l.initial.notes.held l.notes.rows l.here l.notes.held

abbrev pub decreases-loop-here : goal.decreases-loop-here
decreases-loop-here l = l.here.left
