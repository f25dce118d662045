-- Observation of a view: what a judged view is answered, and the bytes after it.
-- Assumes nothing.
use Rattle.std.specs.Prelude.{ℕ, ◌+◌, ◌-◌, cond, ltb}
use Rattle.model.specs.Sizes.{Bytes, finding_limit}
use Rattle.model.specs.Record.{front, last_index}
use Rattle.record_entries.specs.BitLayout.{ViewBits, first_entry, entries_at}
use Rattle.answers.specs.declared.answer.Refusal.{Refusal}
use Rattle.answers.specs.Step.{Step, accepting, refusing}
use Rattle.log_prefix.specs.Extension.{written_bytes, written_count, written_number}
use Rattle.logical_log.specs.Judging.{missing_in, held_in, table_in}
use Rattle.log_violation.specs.Violation.{findings_kept}
use Rattle.logical_log.specs.Writing.{view_replaced}
use Rattle.storage.specs.Head.{prefixes_held}

-- ---- a view as a whole

-- an accepted view is written: its prefixes, the node's row, the findings
unfoldable pub view_written : Bytes → ℕ → ViewBits → ℕ → ℕ → Bytes → ℕ → Bytes
unfolding written_bytes written_number view_replaced findings_kept
view_written h n s m node t held =
    let es = entries_at s first_entry m in
    findings_kept (view_replaced (written_bytes h n 0 1 (front es)) node (written_number h n 0 1 (front es)) (last_index es)) t held

-- how many of its front's prefixes are made
unfoldable pub made_in : Bytes → ViewBits → ℕ → ℕ
unfolding written_count
made_in h s m = written_count h (prefixes_held h) 0 1 (front (entries_at s first_entry m)) - prefixes_held h

-- 6 before 7, each before anything is written; its value is the number made
unfoldable pub view_step : ℕ → Bytes → ViewBits → ℕ → ℕ → Step
unfolding missing_in held_in table_in made_in view_written
view_step limit h s m node =
    cond (ltb limit (prefixes_held h + missing_in h s m)) (refusing Refusal.PrefixesFull h)
    (cond (ltb finding_limit (held_in h s m node)) (refusing Refusal.FindingsFull h)
    (accepting (made_in h s m) (view_written h (prefixes_held h) s m node (table_in h s m node) (held_in h s m node))))
