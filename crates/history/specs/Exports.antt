-- What the exported functions give, in the model's words: for any bytes, of a history and of a record. `decode h` is the
-- history that bytes which keep the storage rules stand for.
-- Assumes nothing.
use Rattle.std.specs.Prelude.{ℕ, ◌≡◌, true, false, cond, Option, Some, None, Result, Ok, Err}
use Rattle.model.specs.Sizes.{Bytes}
use Rattle.model.specs.History.{Finding}
use Rattle.model.specs.Leaders.{Leader}
use Rattle.model.specs.Answer.{answer, after}
use Rattle.model.specs.Lists.{Unseen, finding_list, leader_list, unseen_list, unknown_list, committed_length, committed_owner}
use Rattle.storage.specs.Rules.{right_length, well_formed}
use Rattle.storage.specs.Decode.{decode}
use Rattle.storage.specs.Fresh.{fresh_history, made_number}
use Rattle.storage.specs.declared.fresh.WrongLength.{WrongLength}
use Rattle.answers.specs.declared.answer.Refusal.{Refusal}
use Rattle.lists.specs.Picked.{nth}
use Rattle.storage_rows.specs.declared.findings.Found.{Found}
use Rattle.lists.specs.declared.leaders.Leader.{Leader as Printed}
use Rattle.lists.specs.declared.unseen.Unseen.{Unseen as Mark}
use Rattle.units.specs.declared.LogIndex.{LogIndex}
use Rattle.answers.specs.declared.numbers.Reply.{Reply}
use Rattle.history.specs.declared.exports.FindingReply.{FindingReply}
use Rattle.history.specs.declared.exports.LeaderReply.{LeaderReply}
use Rattle.history.specs.declared.exports.UnseenReply.{UnseenReply}
use Rattle.history.specs.declared.exports.UnknownReply.{UnknownReply}
use Rattle.history.specs.declared.exports.CommittedReply.{CommittedReply}
use Rattle.answers.specs.Numbers.{number_of, refusal_in, reply_of, model_reply}
use Rattle.submission.specs.Replies.{submit_answer, submit_bytes}

-- ---- a fresh history

-- whether the bytes are as many as a history has
abbrev pub made_answer : Bytes → Result Unit WrongLength
made_answer h = cond (right_length h) (Ok tt) (Err (record {}))

-- the number of that answer, and the fresh history, or the bytes as they were
pub record MadeFresh (h : Bytes) (r : ℕ) (h' : Bytes) : Type 0 where
  pub answer : r ≡ made_number (made_answer h)
  pub bytes : h' ≡ cond (right_length h) fresh_history h

-- ---- a record

-- r is the reply to the record s, handed to the bytes h, and h' are the bytes after it
pub record Handed (h s : Bytes) (r : Reply) (h' : Bytes) : Type 0 where
  -- for any two byte strings, as the definitions give them
  pub reply : r ≡ reply_of (submit_answer h s)
  pub bytes : h' ≡ submit_bytes h s
  -- bytes that break the storage rules: that refusal, and every byte as it was
  pub broken : well_formed h ≡ false → (r ≡ refusal_in (number_of Refusal.StorageBroken)) × (h' ≡ h)
  -- others: the model's reply, and the bytes after it stand for the model's history after it
  pub meant : well_formed h ≡ true → (r ≡ model_reply (answer (decode h) s)) × (well_formed h' ≡ true) × (decode h' ≡ after (decode h) s)
  -- a refused record leaves every byte
  pub refused : (r.refusal ≡ 0 → ⊥) → h' ≡ h

-- ---- the lists: the n-th element, counted from 0; state 1 where there are not so many, 12 for bytes that break the rules

abbrev pub no_finding : ℕ → FindingReply
no_finding k = record { state = k; name = 0; node = 0; index = 0; term = 0 }

abbrev pub a_finding : Finding → FindingReply
a_finding f = record { state = 0; name = f.name; node = f.node; index = f.index; term = f.term }

abbrev pub finding_reply : Option Found → FindingReply
finding_reply (Some f) =
    record { state = 0; name = f.name; node = f.node.0; index = f.index.0; term = f.term.0 }
finding_reply None = no_finding 1

abbrev pub finding_out : Bytes → ℕ → FindingReply
finding_out h n = cond (well_formed h) (nth a_finding (no_finding 1) (finding_list (decode h)) n) (no_finding 12)

abbrev pub no_leader : ℕ → LeaderReply
no_leader k = record { state = k; term = 0; leader = 0 }

abbrev pub a_leader : Leader → LeaderReply
a_leader l = record { state = 0; term = l.term; leader = l.leader }

abbrev pub leader_reply : Option Printed → LeaderReply
leader_reply (Some l) = record { state = 0; term = l.term.0; leader = l.leader.0 }
leader_reply None = no_leader 1

abbrev pub leader_out : Bytes → ℕ → LeaderReply
leader_out h n = cond (well_formed h) (nth a_leader (no_leader 1) (leader_list (decode h)) n) (no_leader 12)

abbrev pub no_mark : ℕ → UnseenReply
no_mark k = record { state = k; node = 0; index = 0 }

abbrev pub a_mark : Unseen → UnseenReply
a_mark u = record { state = 0; node = u.node; index = u.index }

abbrev pub unseen_reply : Option Mark → UnseenReply
unseen_reply (Some u) = record { state = 0; node = u.node.0; index = u.index.0 }
unseen_reply None = no_mark 1

abbrev pub unseen_out : Bytes → ℕ → UnseenReply
unseen_out h n = cond (well_formed h) (nth a_mark (no_mark 1) (unseen_list (decode h)) n) (no_mark 12)

abbrev pub no_index : ℕ → UnknownReply
no_index k = record { state = k; index = 0 }

abbrev pub an_index : ℕ → UnknownReply
an_index i = record { state = 0; index = i }

abbrev pub unknown_reply : Option LogIndex → UnknownReply
unknown_reply (Some i) = record { state = 0; index = i.0 }
unknown_reply None = no_index 1

abbrev pub unknown_out : Bytes → ℕ → UnknownReply
unknown_out h n = cond (well_formed h) (nth an_index (no_index 1) (unknown_list (decode h)) n) (no_index 12)

-- the committed prefix: its length and its owner, 0 and 0 where there is none
abbrev pub committed_out : Bytes → CommittedReply
committed_out h =
    cond (well_formed h) (record { state = 0; length = committed_length (decode h); owner = committed_owner (decode h) })
    (record { state = 12; length = 0; owner = 0 })
