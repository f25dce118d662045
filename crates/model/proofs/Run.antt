-- Runs: a refused record leaves everything as it was, and what each accepted record keeps holds after every list.
-- Assumes nothing.
use Prim.Native.Nat.{ℕ}
use mathlib.Core.Path.{◌≡◌, refl, sym, ◌∙◌, ap, subst}
use mathlib.Core.Bool.{Bool, true, false}
use mathlib.Core.List.{List, [], ◌∷◌, ◌++◌, append-nil, append_assoc}
use mathlib.Core.Option.{Option, none, some}
use Rattle.model.specs.Sizes.{Bytes}
use Rattle.model.specs.Refusal.{Refusal}
use Rattle.model.specs.Record.{Record}
use Rattle.model.specs.Reading.{Reading, readable, unreadable, read}
use Rattle.model.specs.History.{History, fresh}
use Rattle.model.specs.Answer.{accepted, refused, is_accepted, refusal, effect, answer_unless, answer_read, answer, after_unless, after_read, after}
use Rattle.model.specs.Ledger.{Ledger, empty, entered, entered_read, fed}
use Rattle.model.specs.Run.{history_from, history_of, told, ledger_from, ledger_of, Event, event_unless, event_read, events_from, events_of, gathered}
use Rattle.model.specs.Statements.{RefusedMeansUntouched}
use Rattle.model.proofs.Tests.{tf}

-- ---- statements

-- What holds of the fresh history and the empty ledger, and is kept by each accepted record, holds after every list.
abbrev pub ByEvents : Type 1
ByEvents =
    (P : History → Ledger → List Event → Type 0)
    → P fresh empty []
    → ((h : History) (g : Ledger) (es : List Event) (r : Record) → refusal h r ≡ none → P h g es
    → P (effect h r) (entered g r) (es ++ (record { history = h; ledger = g; event = r } ∷ [])))
    → (ss : List Bytes) → P (history_of ss) (ledger_of ss) (events_of ss)

-- ---- refused records

accepted_not_refused : (v n : ℕ) (r : Refusal) → accepted v n ≡ refused r → ⊥
accepted_not_refused v n r e = tf (ap is_accepted e)

untouched_unless : (h : History) (r : Record) (e : Refusal) (o : Option Refusal) → answer_unless h r o ≡ refused e → after_unless h r o ≡ h
untouched_unless h r e none p = absurd (accepted_not_refused _ _ e p)
untouched_unless h r e (some f) p = refl

untouched_read : (h : History) (e : Refusal) (x : Reading) → answer_read h x ≡ refused e → after_read h x ≡ h
untouched_read h e (readable r) p = untouched_unless h r e (refusal h r) p
untouched_read h e (unreadable f) p = refl

pub refused_untouched : RefusedMeansUntouched
unfolding answer after
refused_untouched h s r p = untouched_read h r (read s) p

-- ---- one record: either all stays, or it was accepted

module _ (P : History → Ledger → List Event → Type 0) (h : History) (g : Ledger) (es : List Event) where
  abbrev Keep : Type 0
  Keep = (r : Record) → refusal h r ≡ none → P (effect h r) (entered g r) (es ++ (record { history = h; ledger = g; event = r } ∷ []))

  feed : Bool → Reading → Ledger
  feed true x = entered_read g x
  feed false x = g

  step_unless : P h g es → Keep → (r : Record) (o : Option Refusal) → refusal h r ≡ o
      → P (after_unless h r o) (feed (is_accepted (answer_unless h r o)) (readable r)) (es ++ event_unless h g r o)
  unfolding feed
  step_unless p k r none e = k r e
  step_unless p k r (some f) e = subst (λ (l : List Event). P h g l) (sym (append-nil es)) p

  step_read : P h g es → Keep → (x : Reading)
      → P (after_read h x) (feed (is_accepted (answer_read h x)) x) (es ++ event_read h g x)
  unfolding feed
  step_read p k (readable r) = step_unless p k r (refusal h r) refl
  step_read p k (unreadable f) = subst (λ (l : List Event). P h g l) (sym (append-nil es)) p

  fed_feed : (b : Bool) (s : Bytes) → fed g s b ≡ feed b (read s)
  unfolding fed feed
  fed_feed true s = refl
  fed_feed false s = refl

  pub step : P h g es → Keep → (s : Bytes) → P (after h s) (told h g s) (es ++ event_read h g (read s))
  unfolding after told answer
  step p k s =
      subst (λ (g' : Ledger). P (after_read h (read s)) g' (es ++ event_read h g (read s)))
      (sym (fed_feed (is_accepted (answer_read h (read s))) s)) (step_read p k (read s))

-- ---- a list of records

module _ (P : History → Ledger → List Event → Type 0)
    (keep : (h : History) (g : Ledger) (es : List Event) (r : Record) → refusal h r ≡ none → P h g es
    → P (effect h r) (entered g r) (es ++ (record { history = h; ledger = g; event = r } ∷ []))) where
  from : (ss : List Bytes) (h : History) (g : Ledger) (es : List Event) → P h g es
      → P (history_from h ss) (ledger_from h g ss) (es ++ events_from h g ss)
  unfolding history_from ledger_from events_from
  from [] h g es p = subst (λ (l : List Event). P h g l) (sym (append-nil es)) p
  from (s ∷ ss) h g es p =
      subst (λ (l : List Event). P (history_from (after h s) ss) (ledger_from (after h s) (told h g s) ss) l)
      (append_assoc es (event_read h g (read s)) (events_from (after h s) (told h g s) ss))
      (from ss (after h s) (told h g s) (es ++ event_read h g (read s))
      (step P h g es p (λ r e. keep h g es r e p) s))

pub by_events : ByEvents
by_events P base keep ss = from P keep ss fresh empty [] base

-- ---- what the events give, those of two lists and one event more

pub gathered_append : {A : Type 0} (f : Event → List A) (es fs : List Event) → gathered f (es ++ fs) ≡ gathered f es ++ gathered f fs
unfolding gathered
gathered_append f [] fs = refl
gathered_append f (e ∷ es) fs =
    ap (λ l. f e ++ l) (gathered_append f es fs) ∙ sym (append_assoc (f e) (gathered f es) (gathered f fs))

pub gathered_snoc : {A : Type 0} (f : Event → List A) (es : List Event) (e : Event)
    → gathered f (es ++ (e ∷ [])) ≡ gathered f es ++ f e
unfolding gathered
gathered_snoc f es e = gathered_append f es (e ∷ []) ∙ ap (λ l. gathered f es ++ l) (append-nil (f e))
