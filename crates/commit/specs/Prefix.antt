-- A commit index on the bytes of a history, in the order of the code: what the prefix that it shows is answered, and what it leaves.
-- Assumes nothing.
use Rattle.std.specs.Prelude.{ℕ, min, Bool, cond, ltb, eqb, Option, Some, None}
use Rattle.model.specs.Sizes.{Bytes}
use Rattle.model.specs.History.{Finding}
use Rattle.storage_bytes.specs.Words.{word_at}
use Rattle.storage.specs.Values.{index_of}
use Rattle.storage.specs.Head.{committed_number, owner_of}
use Rattle.log_prefix.specs.Prefix.{stored_of, front_through}
use Rattle.answers.specs.declared.answer.Refusal.{Refusal}
use Rattle.answers.specs.Step.{Step, accepting, refusing}
use Rattle.commit.specs.Committed.{rows_of, agree_in, unseen_set, keep_bytes}
use Rattle.log_violation.specs.Violation.{room_for, noted_in}
use Rattle.units.specs.declared.LogPrefixWitness.{LogPrefixWitness}

-- ---- judged: nothing is written

-- the second prefix is the longer one
unfoldable pub longer_in : Bytes → ℕ → ℕ → Bool
longer_in h a b = ltb (index_of (rows_of h) a) (index_of (rows_of h) b)

-- "through the shorter end"
unfoldable pub end_in : Bytes → ℕ → ℕ → ℕ
end_in h a b = min (index_of (rows_of h) a) (index_of (rows_of h) b)

-- "flag 1, and flag 2 if the owner is another node"
abbrev pub flags_of : ℕ → ℕ → ℕ
flags_of owner n = cond (eqb owner n) 1 3

-- ---- written

-- LG-04 (node, shorter end)
abbrev pub difference : ℕ → ℕ → Finding
difference n i = record { name = 4; node = n; index = i; term = 0 }

-- a difference is noted, unless there are too many: then every byte is left
unfoldable pub note_step : Bytes → ℕ → ℕ → Step
unfolding room_for noted_in unseen_set
note_step h n i =
    cond (room_for h (difference n i)) (accepting 0 (unseen_set (noted_in h (difference n i)) n 0)) (refusing Refusal.FindingsFull h)

-- the prefix p held against the committed one, c
unfoldable pub insert_step : Bytes → ℕ → ℕ → ℕ → Step
unfolding agree_in end_in longer_in keep_bytes unseen_set note_step word_at
insert_step h n c p =
    cond (agree_in h c p (end_in h c p))
    (accepting (flags_of (owner_of h) n) (cond (longer_in h c p) (keep_bytes h n p) (unseen_set h n 0)))
    (note_step h n (end_in h c p))

-- a prefix p that is seen: the first is kept
abbrev pub kept_step : Bytes → ℕ → ℕ → Option LogPrefixWitness → Step
kept_step h n p None = accepting 0 (keep_bytes h n p)
kept_step h n p (Some c) = insert_step h n c.0 p

-- "index zero does nothing more" than clear the mark
abbrev pub seen_step : Bytes → ℕ → ℕ → Option LogPrefixWitness → Step
seen_step h n i None = accepting 0 (unseen_set h n i)
seen_step h n i (Some p) = cond (eqb p.0 0) (accepting 0 (unseen_set h n 0)) (kept_step h n p.0 (stored_of (committed_number h)))

unfoldable pub commit_step : Bytes → ℕ → ℕ → Step
unfolding front_through stored_of unseen_set keep_bytes insert_step word_at
commit_step h n i = seen_step h n i (front_through h n i)
