-- The answer to any byte string, and the history after it: for each kind what refuses it, its value and its effect.
-- A refused record changes nothing.
-- docs/SCOPE.md, "Answers".
-- Assumes nothing.
use Rattle.std.specs.Prelude.{ℕ, Bool, true, false}
use Rattle.std.proofs.Math.Option.{Option, none, some}
use Rattle.model.specs.Sizes.{Bytes, prefix_limit}
use Rattle.model.specs.Refusal.{Refusal}
use Rattle.model.specs.Record.{Record, view, commit, terms, election, check, rows, leader}
use Rattle.model.specs.Reading.{Reading, readable, unreadable, read}
use Rattle.model.specs.History.{History}
use Rattle.model.specs.View.{view_refusal, view_value, view_effect}
use Rattle.model.specs.Commit.{commit_refusal, commit_value, commit_effect}
use Rattle.model.specs.Terms.{terms_refusal, terms_effect}
use Rattle.model.specs.Election.{election_refusal, election_effect}
use Rattle.model.specs.Check.{check_refusal, check_value, check_effect}
use Rattle.model.specs.Rows.{verdict}
use Rattle.model.specs.LeaderLog.{leader_refusal, leader_value, leader_effect}

-- why the history refuses a readable record, if it does
abbrev pub refusal : History → Record → Option Refusal
refusal h (view n es) = view_refusal prefix_limit h n es
refusal h (commit n i) = commit_refusal h n i
refusal h (terms old new t) = terms_refusal old new
refusal h (election l t p n) = election_refusal h l n
refusal h check = check_refusal h
refusal h (rows rs) = none
refusal h (leader n t) = leader_refusal h n t

-- the number of prefixes that a view made; "the sum of its flags; the rule for kind 6"
abbrev pub value : History → Record → ℕ
value h (view n es) = view_value h es
value h (commit n i) = commit_value h n i
value h (terms old new t) = 0
value h (election l t p n) = 0
value h check = check_value h
value h (rows rs) = (verdict rs).rule
value h (leader n t) = leader_value h n t

-- "node of a failing row or 0"
abbrev pub failing_node : Record → ℕ
failing_node (view n es) = 0
failing_node (commit n i) = 0
failing_node (terms old new t) = 0
failing_node (election l t p n) = 0
failing_node check = 0
failing_node (rows rs) = (verdict rs).node
failing_node (leader n t) = 0

-- the history after an accepted record
abbrev pub effect : History → Record → History
effect h (view n es) = view_effect h n es
effect h (commit n i) = commit_effect h n i
effect h (terms old new t) = terms_effect h old new t
effect h (election l t p n) = election_effect h l t p n
effect h check = check_effect h
effect h (rows rs) = h
effect h (leader n t) = leader_effect h n t

-- accepted with its value and node, or refused
pub data Answer : Type 0 where
  accepted : ℕ → ℕ → Answer
  refused : Refusal → Answer

abbrev pub is_accepted : Answer → Bool
is_accepted (accepted v n) = true
is_accepted (refused r) = false

abbrev pub answer_unless : History → Record → Option Refusal → Answer
answer_unless h r none = accepted (value h r) (failing_node r)
answer_unless h r (some e) = refused e

abbrev pub answer_read : History → Reading → Answer
answer_read h (readable r) = answer_unless h r (refusal h r)
answer_read h (unreadable e) = refused e

-- the first refusal in document 01's order, or acceptance
unfoldable pub answer : History → Bytes → Answer
unfolding read view_refusal commit_refusal election_refusal check_refusal leader_refusal view_value commit_value check_value verdict leader_value
answer h s = answer_read h (read s)

abbrev pub after_unless : History → Record → Option Refusal → History
after_unless h r none = effect h r
after_unless h r (some e) = h

abbrev pub after_read : History → Reading → History
after_read h (readable r) = after_unless h r (refusal h r)
after_read h (unreadable e) = h

-- the history after any byte string
unfoldable pub after : History → Bytes → History
unfolding read view_refusal commit_refusal election_refusal check_refusal leader_refusal view_effect commit_effect terms_effect election_effect check_effect leader_effect
after h s = after_read h (read s)
