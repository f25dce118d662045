-- A bridge to any machine: if a machine's states stand for histories, its answers are the model's and each step keeps the
-- relation, then what is proved of the model holds of the machine. The storage uses it, so nothing is proved again on bytes.
-- Assumes nothing.
use Prim.Native.Nat.{ℕ}
use mathlib.Core.Path.{◌≡◌, refl, sym, ◌∙◌, ap, subst}
use mathlib.Core.Bool.{true}
use mathlib.Core.Logic.{◌↔◌}
use mathlib.Core.List.{List, [], ◌∷◌, ◌++◌, Memᴰ}
use Rattle.model.specs.Sizes.{Bytes}
use Rattle.model.specs.Refusal.{Refusal}
use Rattle.model.specs.Record.{check}
use Rattle.model.specs.Reading.{readable, read}
use Rattle.model.specs.History.{Finding, History, fresh}
use Rattle.model.specs.Answer.{Answer, refused, is_accepted, answer, after}
use Rattle.model.specs.Leaders.{Leader}
use Rattle.model.specs.Ledger.{Ledger, empty, fed, ledger_leaders}
use Rattle.model.specs.Lists.{finding_list, leader_list}
use Rattle.model.specs.Run.{history_from, history_of, answers_from, answers_of, told, ledger_from, ledger_of}
use Rattle.model.specs.Statements.{accepted_fronts, Matching, Agreeing, committed_seen}
use Rattle.model.proofs.Run.{refused_untouched}
use Rattle.model.proofs.Matching.{log_matching}
use Rattle.model.proofs.Committed.{committed_prefixes}
use Rattle.model.proofs.Completeness.{leader_completeness}

-- ---- statements

-- a machine that answers byte strings, and what its states stand for
pub record Machine : Type 1 where
  pub State : Type 0
  pub start : State
  pub answers : State → Bytes → Answer
  pub next : State → Bytes → State
  pub Represents : State → History → Type 0
  pub starts : Represents start fresh
  pub alike : (m : State) (h : History) → Represents m h → (s : Bytes) → answers m s ≡ answer h s
  pub keeps : (m : State) (h : History) → Represents m h → (s : Bytes) → Represents (next m s) (after h s)
  -- its printed findings and leaders are those of the history it stands for
  pub findings : State → List Finding
  pub leaders : State → List Leader
  pub findings_alike : (m : State) (h : History) → Represents m h → findings m ≡ finding_list h
  pub leaders_alike : (m : State) (h : History) → Represents m h → leaders m ≡ leader_list h

module _ (M : Machine) where
  -- the state after a list of records, the answers on the way, and the ledger told of each whether it was accepted
  unfoldable pub state_from : M.State → List Bytes → M.State
  state_from m [] = m
  state_from m (s ∷ ss) = state_from (M.next m s) ss

  unfoldable pub said_from : M.State → List Bytes → List Answer
  said_from m [] = []
  said_from m (s ∷ ss) = M.answers m s ∷ said_from (M.next m s) ss

  unfoldable pub told_from : M.State → Ledger → List Bytes → Ledger
  told_from m g [] = g
  told_from m g (s ∷ ss) = told_from (M.next m s) (fed g s (is_accepted (M.answers m s))) ss

  abbrev pub state_of : List Bytes → M.State
  state_of ss = state_from M.start ss

  abbrev pub said_of : List Bytes → List Answer
  said_of ss = said_from M.start ss

  abbrev pub told_of : List Bytes → Ledger
  told_of ss = told_from M.start empty ss

  -- After every list the machine's state stands for the history, and it has answered as the model.
  abbrev pub RepresentsAlways : Type 0
  RepresentsAlways = (ss : List Bytes) → M.Represents (state_of ss) (history_of ss) × (said_of ss ≡ answers_of ss) × (told_of ss ≡ ledger_of ss)

  -- Refused means untouched: the state still stands for the history it stood for.
  abbrev pub RefusedRepresents : Type 0
  RefusedRepresents = (m : M.State) (h : History) (s : Bytes) (r : Refusal) → M.Represents m h → M.answers m s ≡ refused r → M.Represents (M.next m s) h

  -- the machine prints no finding of this name
  abbrev pub PrintsNone : ℕ → List Bytes → Type 0
  PrintsNone name ss = (f : Finding) → Memᴰ f (M.findings (state_of ss)) → f.name ≡ name → ⊥

  abbrev pub MachineMatching : Type 0
  MachineMatching = (ss : List Bytes) → PrintsNone 3 ss ↔ Matching (accepted_fronts ss)

  abbrev pub MachineCommitted : Type 0
  MachineCommitted = (ss : List Bytes) → PrintsNone 4 ss ↔ Agreeing (committed_seen ss)

  -- Demand 3 of the machine: its leader list is that of the ledger it told.
  abbrev pub MachineCompleteness : Type 0
  MachineCompleteness =
      (ss : List Bytes) (s : Bytes)
      → read s ≡ readable check → is_accepted (M.answers (state_of ss) s) ≡ true
      → M.leaders (state_of (ss ++ (s ∷ []))) ≡ ledger_leaders (told_of (ss ++ (s ∷ [])))

  -- ---- proofs

  states : (ss : List Bytes) (m : M.State) (h : History) → M.Represents m h → M.Represents (state_from m ss) (history_from h ss)
  unfolding state_from history_from
  states [] m h r = r
  states (s ∷ ss) m h r = states ss (M.next m s) (after h s) (M.keeps m h r s)

  said : (ss : List Bytes) (m : M.State) (h : History) → M.Represents m h → said_from m ss ≡ answers_from h ss
  unfolding said_from answers_from
  said [] m h r = refl
  said (s ∷ ss) m h r =
      let e = M.alike m h r s in
      let f = said ss (M.next m s) (after h s) (M.keeps m h r s) in
      λ i. e i ∷ f i

  tells : (ss : List Bytes) (m : M.State) (h : History) (g : Ledger) → M.Represents m h → told_from m g ss ≡ ledger_from h g ss
  unfolding told_from ledger_from told
  tells [] m h g r = refl
  tells (s ∷ ss) m h g r =
      ap (λ (a : Answer). told_from (M.next m s) (fed g s (is_accepted a)) ss) (M.alike m h r s)
      ∙ tells ss (M.next m s) (after h s) (fed g s (is_accepted (answer h s))) (M.keeps m h r s)

  pub represents_always : RepresentsAlways
  represents_always ss =
      (states ss M.start fresh M.starts, said ss M.start fresh M.starts, tells ss M.start fresh empty M.starts)

  pub refused_represents : RefusedRepresents
  refused_represents m h s r st e =
      subst (M.Represents (M.next m s)) (refused_untouched h s r (sym (M.alike m h st s) ∙ e)) (M.keeps m h st s)

  prints : (name : ℕ) (ss : List Bytes)
      → PrintsNone name ss ↔ ((f : Finding) → Memᴰ f (finding_list (history_of ss)) → f.name ≡ name → ⊥)
  prints name ss =
      let e = M.findings_alike (state_of ss) (history_of ss) (represents_always ss).0 in
      (λ n f m. n f (subst (Memᴰ f) (sym e) m), λ n f m. n f (subst (Memᴰ f) e m))

  pub machine_matching : MachineMatching
  machine_matching ss = (λ n. (log_matching ss).0 ((prints 3 ss).0 n), λ x. (prints 3 ss).1 ((log_matching ss).1 x))

  pub machine_committed : MachineCommitted
  machine_committed ss = (λ n. (committed_prefixes ss).0 ((prints 4 ss).0 n), λ x. (prints 4 ss).1 ((committed_prefixes ss).1 x))

  pub machine_completeness : MachineCompleteness
  machine_completeness ss s c a =
      let after = represents_always (ss ++ (s ∷ [])) in
      M.leaders_alike (state_of (ss ++ (s ∷ []))) (history_of (ss ++ (s ∷ []))) after.0
      ∙ leader_completeness ss s c (sym (ap is_accepted (M.alike (state_of ss) (history_of ss) (represents_always ss).0 s)) ∙ a)
      ∙ ap ledger_leaders (sym after.2)
