-- A list of records and one more: the history and the ledger are those of the list, then one step.
-- Assumes nothing.
use mathlib.Core.Path.{◌≡◌, refl, sym, ◌∙◌, ap}
use mathlib.Core.Bool.{true}
use mathlib.Core.List.{List, [], ◌∷◌, ◌++◌}
use mathlib.Core.Option.{Option, none, some}
use Rattle.model.specs.Sizes.{Bytes}
use Rattle.model.specs.Refusal.{Refusal}
use Rattle.model.specs.Record.{Record}
use Rattle.model.specs.Reading.{readable, read}
use Rattle.model.specs.History.{History, fresh}
use Rattle.model.specs.Answer.{accepted, is_accepted, refusal, value, failing_node, effect, answer_unless, answer_read, answer, after_unless, after_read, after}
use Rattle.model.specs.Ledger.{Ledger, empty, entered, entered_read, fed}
use Rattle.model.specs.Run.{history_from, history_of, told, ledger_from, ledger_of}
use Rattle.model.proofs.Tests.{tf}

-- ---- any list, then any byte string

history_last_from : (h : History) (ss : List Bytes) (s : Bytes) → history_from h (ss ++ (s ∷ [])) ≡ after (history_from h ss) s
unfolding history_from
history_last_from h [] s = refl
history_last_from h (r ∷ ss) s = history_last_from (after h r) ss s

ledger_last_from : (h : History) (g : Ledger) (ss : List Bytes) (s : Bytes)
    → ledger_from h g (ss ++ (s ∷ [])) ≡ told (history_from h ss) (ledger_from h g ss) s
unfolding history_from ledger_from
ledger_last_from h g [] s = refl
ledger_last_from h g (r ∷ ss) s = ledger_last_from (after h r) (told h g r) ss s

-- ---- an accepted record

module _ (h : History) (g : Ledger) (s : Bytes) (r : Record) (e : read s ≡ readable r) where
  unless_accepted : (o : Option Refusal) → is_accepted (answer_unless h r o) ≡ true → o ≡ none
  unless_accepted none a = refl
  unless_accepted (some f) a = absurd (tf (sym a))

  answer_readable : answer h s ≡ answer_unless h r (refusal h r)
  unfolding answer
  answer_readable = ap (answer_read h) e

  -- an accepted record was not refused
  pub accepted_refusal : is_accepted (answer h s) ≡ true → refusal h r ≡ none
  accepted_refusal a = unless_accepted (refusal h r) (ap is_accepted (sym answer_readable) ∙ a)

  -- it is answered with its value
  pub accepted_answer : is_accepted (answer h s) ≡ true → answer h s ≡ accepted (value h r) (failing_node r)
  accepted_answer a = answer_readable ∙ ap (answer_unless h r) (accepted_refusal a)

  pub accepted_after : is_accepted (answer h s) ≡ true → after h s ≡ effect h r
  unfolding after
  accepted_after a = ap (after_read h) e ∙ ap (after_unless h r) (accepted_refusal a)

  pub accepted_told : is_accepted (answer h s) ≡ true → told h g s ≡ entered g r
  unfolding told fed
  accepted_told a = ap (fed g s) a ∙ ap (entered_read g) e

-- ---- any list, then an accepted record

module _ (ss : List Bytes) (s : Bytes) (r : Record) (e : read s ≡ readable r) (a : is_accepted (answer (history_of ss) s) ≡ true) where
  pub history_last : history_of (ss ++ (s ∷ [])) ≡ effect (history_of ss) r
  history_last = history_last_from fresh ss s ∙ accepted_after (history_of ss) (ledger_of ss) s r e a

  pub ledger_last : ledger_of (ss ++ (s ∷ [])) ≡ entered (ledger_of ss) r
  ledger_last = ledger_last_from fresh empty ss s ∙ accepted_told (history_of ss) (ledger_of ss) s r e a
