-- `logical_log::judging::judge_view` meets its contract.
-- Assumes nothing.
use mathlib.Core.Path.{sym, subst}
use Rattle.record_entries.specs.BitLayout.{first_entry, bits_of}
use Rattle.storage.proofs.WellFormed.{formed}
use Rattle.log_prefix.proofs.TableLaws.{table_lent}
use Rattle.logical_log.specs.Judging.{Walkable}
use Rattle.logical_log.proofs.Cursors.{cursor_walkable, first_walkable}
use Rattle.logical_log.proofs.Judged.{view_judged}
use Rattle.record_entries.proofs.Views.{walked}
use Rattle.logical_log.proofs.judging.judge_view.Goals as goal

pub of-prefixes-requires : goal.of-prefixes-requires
of-prefixes-requires c = (formed c.args.history.bytes.now c.args.history.formed).prefixes

pub judge_stored-rest-requires : goal.judge_stored-rest-requires
judge_stored-rest-requires c =
    let h = c.args.history.bytes.now in
    table_lent h _ _ (formed h c.args.history.formed) c.of-prefixes.ensures.0 c.of-prefixes.ensures.1

pub judge_missing-missing-requires : goal.judge_missing-missing-requires
judge_missing-missing-requires c =
    let count = c.of-prefixes.result.count in
    let h = c.args.history.bytes.now in
    let s = bits_of c.args.view.shown.bytes.now c.args.view.shown.marked in
    let w = c.judge_stored-rest.ensures in (
      table_lent h _ _ (formed h c.args.history.formed) c.of-prefixes.ensures.0 c.of-prefixes.ensures.1,
      subst (Walkable s count) (sym w.cursor)
          (cursor_walkable _ count s c.args.view.entries first_entry 1 0 (first_walkable s count c.args.view.entries (walked s _ _ c.args.view.walk))),
    )

pub returns : goal.returns
returns c =
    view_judged _ _ _ _ _ _ _ _
    c.of-prefixes.ensures.1 c.of-notes.ensures.0 c.of-prefixes.ensures.0 c.of-notes.ensures.1
    _ _ _ c.judge_stored-rest.ensures _ _ _ c.judge_missing-missing.ensures
