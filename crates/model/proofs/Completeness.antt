-- Demand 3, Leader Completeness: after an accepted check the leader list is the plain ledger's.
-- The statement is about the whole list of records at once. The proof is an invariant between history and ledger
-- (`CompletenessInvariant`), kept by each kind of record in a file of its own.
-- Assumes nothing.
use Prim.Native.Nat.{ℕ}
use mathlib.Core.Path.{◌≡◌, refl, sym, ◌∙◌, ap, subst}
use mathlib.Core.Bool.{true}
use mathlib.Core.List.{List, [], ◌∷◌, ◌++◌}
use Rattle.model.specs.Sizes.{Bytes}
use Rattle.model.specs.Record.{Record, view, commit, terms, election, check, rows, leader}
use Rattle.model.specs.Reading.{readable, read}
use Rattle.model.specs.History.{History}
use Rattle.model.specs.Answer.{is_accepted, answer, effect}
use Rattle.model.specs.Leaders.{Leader}
use Rattle.model.specs.Ledger.{Ledger, entered, ledger_leaders}
use Rattle.model.specs.Lists.{leader_list}
use Rattle.model.specs.Run.{history_from, history_of, ledger_from, ledger_of}
use Rattle.model.specs.Statements.{LeaderCompleteness}
use Rattle.model.proofs.Run.{by_events}
use Rattle.model.proofs.Last.{history_last, ledger_last}
use Rattle.model.proofs.CompletenessInvariant.{Invariant, at_first}
use Rattle.model.proofs.CompletenessView.{keeps_view}
use Rattle.model.proofs.CompletenessCommit.{keeps_commit}
use Rattle.model.proofs.CompletenessTerms.{keeps_terms}
use Rattle.model.proofs.CompletenessElection.{keeps_election}
use Rattle.model.proofs.CompletenessCheck.{keeps_check, check_reaches}
use Rattle.model.proofs.CompletenessLeaderLog.{keeps_leader}
use Rattle.model.proofs.CompletenessLedger.{same_leaders}

-- ---- examples

abbrev pub leader_in : ℕ → ℕ → Leader
leader_in t l = record { term = t; leader = l }

-- a check
unfoldable pub checked : Bytes
checked = 0x50 ∷ []

-- the premises of the theorem, for a list and then a check
abbrev CheckedAfter : List Bytes → Type 0
CheckedAfter ss = (read checked ≡ readable check) × (is_accepted (answer (history_of ss) checked) ≡ true)

-- for a list and then a check: the leader lists of the history and of the ledger
abbrev pub LeadersAfter : List Bytes → List Leader → List Leader → Type 0
LeadersAfter ss l m =
    (leader_list (history_of (ss ++ (checked ∷ []))) ≡ l) × (ledger_leaders (ledger_of (ss ++ (checked ∷ []))) ≡ m)

-- P12 with its late term: node 0 shows one entry and commits it; its commit term is 5; node 1 is elected in term 4 with a
-- log of no entries; check; its commit term is 3
unfoldable pub late : List Bytes
unfolding checked
late =
    (0x10 ∷ 0x00 ∷ 0x10 ∷ 0x04 ∷ 0x00 ∷ 0x00 ∷ 0x00 ∷ 0x04 ∷ 0x00 ∷ [])
    ∷ (0x20 ∷ 0x00 ∷ 0x10 ∷ [])
    ∷ (0x30 ∷ 0x00 ∷ 0x01 ∷ 0x00 ∷ 0x00 ∷ 0x00 ∷ 0x05 ∷ [])
    ∷ (0x40 ∷ 0x40 ∷ 0x00 ∷ 0x00 ∷ 0x01 ∷ 0x20 ∷ 0x00 ∷ [])
    ∷ checked
    ∷ (0x30 ∷ 0x00 ∷ 0x01 ∷ 0x00 ∷ 0x00 ∷ 0x00 ∷ 0x03 ∷ [])
    ∷ []

-- The premises hold, and the list is not empty.
late_checked : CheckedAfter late
unfolding late checked read answer history_from
late_checked = (refl, refl)

pub late_leaders : LeadersAfter late (leader_in 4 1 ∷ []) (leader_in 4 1 ∷ [])
unfolding late checked history_from ledger_from leader_list ledger_leaders
late_leaders = (refl, refl)

-- node 1 shows one entry and commits it; its commit term is recorded as zero; node 2 is elected in term 4 with no log
unfoldable pub zero_term : List Bytes
zero_term =
    (0x10 ∷ 0x40 ∷ 0x10 ∷ 0x04 ∷ 0x00 ∷ 0x00 ∷ 0x00 ∷ 0x04 ∷ 0x00 ∷ [])
    ∷ (0x20 ∷ 0x40 ∷ 0x10 ∷ [])
    ∷ (0x30 ∷ 0x00 ∷ 0x01 ∷ 0x00 ∷ 0x00 ∷ 0x00 ∷ 0x00 ∷ [])
    ∷ (0x40 ∷ 0x80 ∷ 0x00 ∷ 0x00 ∷ 0x01 ∷ 0x00 ∷ 0x00 ∷ [])
    ∷ []

-- A recorded zero is earlier than nothing, for the history as for the ledger.
zero_checked : CheckedAfter zero_term
unfolding zero_term checked read answer history_from
zero_checked = (refl, refl)

pub zero_leaders : LeadersAfter zero_term [] []
unfolding zero_term checked history_from ledger_from leader_list ledger_leaders
zero_leaders = (refl, refl)

-- the same and a check; then its commit term is 9, which is not before the election's
unfoldable pub told_later : List Bytes
unfolding zero_term checked
told_later = zero_term ++ (checked ∷ (0x30 ∷ 0x00 ∷ 0x01 ∷ 0x00 ∷ 0x00 ∷ 0x00 ∷ 0x09 ∷ []) ∷ [])

later_checked : CheckedAfter told_later
unfolding told_later zero_term checked read answer history_from
later_checked = (refl, refl)

pub later_leaders : LeadersAfter told_later [] []
unfolding told_later zero_term checked history_from ledger_from leader_list ledger_leaders
later_leaders = (refl, refl)

-- the same and a check; then its commit term is 3: the check behind it judges the index like any other
unfoldable pub told_early : List Bytes
unfolding zero_term checked
told_early = zero_term ++ (checked ∷ (0x30 ∷ 0x00 ∷ 0x01 ∷ 0x00 ∷ 0x00 ∷ 0x00 ∷ 0x03 ∷ []) ∷ [])

early_checked : CheckedAfter told_early
unfolding told_early zero_term checked read answer history_from
early_checked = (refl, refl)

pub early_leaders : LeadersAfter told_early (leader_in 4 2 ∷ []) (leader_in 4 2 ∷ [])
unfolding told_early zero_term checked history_from ledger_from leader_list ledger_leaders
early_leaders = (refl, refl)

-- ---- the invariant after every list

-- each kind keeps it
keeps : (h : History) (g : Ledger) (r : Record) → Invariant h g → Invariant (effect h r) (entered g r)
keeps h g (view n es) v = keeps_view h g n es v
keeps h g (commit n i) v = keeps_commit h g n i v
keeps h g (terms old new t) v = keeps_terms h g old new t v
keeps h g (election l t p n) v = keeps_election h g l t p n v
keeps h g check v = keeps_check h g v
keeps h g (rows rs) v = v
keeps h g (leader n t) v = keeps_leader h g n t v

pub always : (ss : List Bytes) → Invariant (history_of ss) (ledger_of ss)
always ss = by_events (λ h g es. Invariant h g) at_first (λ h g es r _ v. keeps h g r v) ss

-- ---- the theorem

pub leader_completeness : LeaderCompleteness
leader_completeness ss s e a =
    let v : Invariant (effect (history_of ss) check) (entered (ledger_of ss) check) =
    subst (λ (h : History). Invariant h (entered (ledger_of ss) check)) (history_last ss s check e a)
    (subst (λ (g : Ledger). Invariant (history_of (ss ++ (s ∷ []))) g) (ledger_last ss s check e a) (always (ss ++ (s ∷ [])))) in
    ap leader_list (history_last ss s check e a)
    ∙ same_leaders (effect (history_of ss) check) (entered (ledger_of ss) check) v (check_reaches (history_of ss))
    ∙ ap ledger_leaders (sym (ledger_last ss s check e a))
