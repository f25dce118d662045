-- The check of a history in bytes. A refused check leaves every byte.
-- Assumes nothing.
use Rattle.model.specs.Sizes.{Bytes, finding_limit}
use Rattle.std.specs.Prelude.{ℕ, cond, ltb, Option, Some, None}
use Rattle.storage_bytes.specs.Words.{word_at}
use Rattle.storage.specs.Tables.{findings_part}
use Rattle.log_violation.specs.Violation.{held_all, bytes_all, findings_kept}
use Rattle.log_prefix.specs.Prefix.{stored_of}
use Rattle.storage.specs.Values.{certificates_of, committed_end}
use Rattle.storage.specs.Head.{committed_number, certificates_held, findings_held}
use Rattle.leader_completeness.specs.Judgement.{lackings_in, flags_in}
use Rattle.leader_completeness.specs.Marks.{marks_moved}
use Rattle.units.specs.declared.LogPrefixWitness.{LogPrefixWitness}
use Rattle.answers.specs.declared.answer.Refusal.{Refusal}
use Rattle.answers.specs.Step.{Step, accepting, refusing}

-- ---- held against a committed prefix

-- the findings of the history with those of the check: how many, and their table
unfoldable pub check_held : Bytes → ℕ
unfolding word_at held_all lackings_in
check_held h = held_all (findings_part h) (findings_held h) (lackings_in h (certificates_of h))

unfoldable pub check_table : Bytes → Bytes
unfolding word_at bytes_all lackings_in
check_table h = bytes_all (findings_part h) (findings_held h) (lackings_in h (certificates_of h))

-- the marks, then the findings and how many there are
unfoldable pub check_written : Bytes → Bytes → ℕ → ℕ → Bytes
unfolding word_at marks_moved findings_kept
check_written h t held end = findings_kept (marks_moved h end 0 (certificates_held h)) t held

-- 7 where they are too many leaves every byte
unfoldable pub judged_step : Bytes → Step
unfolding check_held check_table check_written committed_end flags_in word_at
judged_step h =
    cond (ltb finding_limit (check_held h)) (refusing Refusal.FindingsFull h)
    (accepting (flags_in h 0 (certificates_of h)) (check_written h (check_table h) (check_held h) (committed_end h)))

-- ---- the check: where nothing is committed no mark is passed

abbrev pub kept_step : Bytes → Option LogPrefixWitness → Step
kept_step h None = accepting 0 h
kept_step h (Some p) = judged_step h

unfoldable pub check_step : Bytes → Step
unfolding stored_of judged_step word_at
check_step h = kept_step h (stored_of (committed_number h))
