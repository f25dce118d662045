-- A leader's view on the bytes of a history, in the order of the code: how it is held against the one kept, and what is kept.
-- Assumes nothing.
use Rattle.std.specs.Prelude.{ℕ, zero, suc, ◌+◌, ◌*◌, Bool, true, false, cond, leb, ltb, Option, Some, None}
use Rattle.model.specs.Sizes.{Bytes, leader_log_limit}
use Rattle.model.specs.History.{Finding}
use Rattle.storage_bytes.specs.Words.{put_bytes}
use Rattle.storage_bytes.specs.Layout.{leader_logs_start, leader_log_width}
use Rattle.storage.specs.Tables.{LeaderLogRow, row_of_node, leader_log_row, nodes_part, leader_logs_part}
use Rattle.storage.specs.Rules.{is_pair}
use Rattle.storage.specs.Writes.{leader_log_bytes, leader_log_appended}
use Rattle.storage.specs.Head.{leader_logs_held}
use Rattle.log_violation.specs.Violation.{room_for, noted_in}
use Rattle.answers.specs.declared.answer.Refusal.{Refusal}
use Rattle.answers.specs.Step.{Step, accepting, refusing}
use Rattle.leader_log.specs.Comparison.{extends_in}

-- ---- read

-- the node's present view, as it is kept for the node in the term
abbrev pub present_in : Bytes → ℕ → ℕ → LeaderLogRow
present_in h n t =
    let x = row_of_node (nodes_part h) n in
    record { node = n; term = t; front = x.front; last = x.last }

-- the place of the first of m rows, from place k on, that is of the pair
unfoldable pub place_from : (ℕ → LeaderLogRow) → ℕ → ℕ → ℕ → ℕ → Option ℕ
unfolding is_pair
place_from row n t k zero = None
place_from row n t k (suc m) = cond (is_pair n t (row k)) (Some k) (place_from row n t (k + 1) m)

-- the same in the bytes of a history
abbrev pub place_in : Bytes → ℕ → ℕ → Option ℕ
place_in h n t = place_from (leader_log_row (leader_logs_part h)) n t 0 (leader_logs_held h)

-- ---- judged and written

-- LG-01 (node, index 0, term)
abbrev pub rewriting : LeaderLogRow → Finding
rewriting x = record { name = 1; node = x.node; index = 0; term = x.term }

-- flag 8: a higher last index
abbrev pub growth_of : LeaderLogRow → LeaderLogRow → ℕ
growth_of older newer = cond (ltb older.last newer.last) 8 0

-- the view kept in place k
unfoldable pub kept_in : Bytes → ℕ → LeaderLogRow → Bytes
unfolding put_bytes leader_log_bytes
kept_in h k x = put_bytes h (leader_logs_start + k * leader_log_width) (leader_log_bytes x)

-- a pair's first record only keeps: 14 where as many are kept as a history holds
unfoldable pub first_step : Bytes → LeaderLogRow → Step
unfolding leader_log_appended
first_step h x = cond (leb leader_log_limit (leader_logs_held h)) (refusing Refusal.LeaderLogsFull h) (accepting 0 (leader_log_appended h x))

-- a rewriting is noted, unless there are too many findings: then every byte is left
unfoldable pub rewritten_step : Bytes → ℕ → LeaderLogRow → Step
unfolding room_for noted_in kept_in
rewritten_step h k x =
    cond (room_for h (rewriting x)) (accepting 0 (kept_in (noted_in h (rewriting x)) k x)) (refusing Refusal.FindingsFull h)

-- by whether the newer view x extends the one in place k
abbrev pub held_step : Bytes → ℕ → LeaderLogRow → LeaderLogRow → Option Bool → Step
held_step h k older x None = accepting 0 (kept_in h k x)
held_step h k older x (Some false) = rewritten_step h k x
held_step h k older x (Some true) = accepting (growth_of older x) (kept_in h k x)

-- held against the one in place k
unfoldable pub next_step : Bytes → ℕ → LeaderLogRow → Step
unfolding extends_in kept_in rewritten_step
next_step h k x = let older = leader_log_row (leader_logs_part h) k in held_step h k older x (extends_in h older x)

abbrev pub placed_step : Bytes → LeaderLogRow → Option ℕ → Step
placed_step h x None = first_step h x
placed_step h x (Some k) = next_step h k x

unfoldable pub leader_step : Bytes → ℕ → ℕ → Step
unfolding place_from first_step next_step
leader_step h n t = placed_step h (present_in h n t) (place_in h n t)
