-- "For every list of byte strings handed in turn to one fresh history": the history, the ledger and the answers after a
-- list of records. Each record is handed the history as the one before it left it, and the ledger is told of each only
-- whether it was accepted.
-- docs/SCOPE.md, "Promises".
-- Assumes nothing.
use Rattle.std.specs.Prelude.{List, [], ◌∷◌, ◌++◌}
use Rattle.std.proofs.Math.Option.{Option, none, some}
use Rattle.model.specs.Sizes.{Bytes}
use Rattle.model.specs.Refusal.{Refusal}
use Rattle.model.specs.Record.{Record}
use Rattle.model.specs.Reading.{Reading, readable, unreadable, read}
use Rattle.model.specs.History.{History, fresh}
use Rattle.model.specs.View.{view_refusal}
use Rattle.model.specs.Commit.{commit_refusal}
use Rattle.model.specs.Election.{election_refusal}
use Rattle.model.specs.Check.{check_refusal}
use Rattle.model.specs.LeaderLog.{leader_refusal}
use Rattle.model.specs.Answer.{Answer, is_accepted, refusal, answer, after}
use Rattle.model.specs.Ledger.{Ledger, empty, fed}

unfoldable pub history_from : History → List Bytes → History
unfolding after
history_from h [] = h
history_from h (s ∷ ss) = history_from (after h s) ss

unfoldable pub answers_from : History → List Bytes → List Answer
unfolding answer after
answers_from h [] = []
answers_from h (s ∷ ss) = answer h s ∷ answers_from (after h s) ss

-- the ledger, told whether the history accepted the record
unfoldable pub told : History → Ledger → Bytes → Ledger
unfolding answer fed
told h g s = fed g s (is_accepted (answer h s))

unfoldable pub ledger_from : History → Ledger → List Bytes → Ledger
unfolding told after
ledger_from h g [] = g
ledger_from h g (s ∷ ss) = ledger_from (after h s) (told h g s) ss

abbrev pub history_of : List Bytes → History
history_of ss = history_from fresh ss

abbrev pub answers_of : List Bytes → List Answer
answers_of ss = answers_from fresh ss

abbrev pub ledger_of : List Bytes → Ledger
ledger_of ss = ledger_from fresh empty ss

-- ---- the accepted records, each with the history and the ledger at that moment

pub record Event : Type 0 where
  pub history : History
  pub ledger : Ledger
  pub event : Record

abbrev pub event_unless : History → Ledger → Record → Option Refusal → List Event
event_unless h g r none = record { history = h; ledger = g; event = r } ∷ []
event_unless h g r (some e) = []

abbrev pub event_read : History → Ledger → Reading → List Event
event_read h g (readable r) = event_unless h g r (refusal h r)
event_read h g (unreadable e) = []

unfoldable pub events_from : History → Ledger → List Bytes → List Event
unfolding read view_refusal commit_refusal election_refusal check_refusal leader_refusal told after
events_from h g [] = []
events_from h g (s ∷ ss) = event_read h g (read s) ++ events_from (after h s) (told h g s) ss

abbrev pub events_of : List Bytes → List Event
events_of ss = events_from fresh empty ss

-- what each of the events gives, one after the other
unfoldable pub gathered : {A : Type 0} → (Event → List A) → List Event → List A
gathered f [] = []
gathered f (e ∷ es) = f e ++ gathered f es
