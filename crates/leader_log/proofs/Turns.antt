-- What a leader's view comes to by what is read, and the exits of `note_rewriting`, `hold_against` and `observe_leader`.
-- Assumes nothing.
use Prim.Native.Nat.{ℕ, ◌<◌}
use native.Mathlib.Omega.{arith}
use mathlib.Core.Path.{◌≡◌, sym, ◌∙◌, ap}
use Rattle.std.specs.Prelude.{Option, Some, None, Result, Err, Ok, ⊤}
use mathlib.Core.Bool.{Bool, true, false}
use Rattle.model.specs.Sizes.{Bytes}
use Rattle.model.proofs.Tests.{cond_true, cond_false}
use Rattle.storage.specs.Tables.{LeaderLogRow, leader_log_row, leader_logs_part}
use Rattle.log_violation.specs.Violation.{room_for, room_answer, noted_in}
use Rattle.log_violation.specs.declared.violation.FindingsFull.{FindingsFull}
use Rattle.log_violation.proofs.Single.{some_room, no_room}
use Rattle.answers.specs.declared.answer.Accepted.{Accepted}
use Rattle.answers.specs.declared.answer.Refusal.{Refusal}
use Rattle.answers.specs.Numbers.{accepted_with}
use Rattle.answers.specs.Step.{Gives}
use Rattle.answers.proofs.StepLaws.{accepts_with, refuses_with, goes_on}
use Rattle.leader_log.specs.Comparison.{extends_in}
use Rattle.leader_log.specs.Observation.{rewriting, growth_of, kept_in, first_step, rewritten_step, held_step, next_step, placed_step, present_in, place_from, place_in, leader_step}
use Rattle.leader_log.proofs.Places.{found}
use Rattle.storage.specs.Head.{leader_logs_held}

-- ---- a rewriting noted

module _ (h : Bytes) (k : ℕ) (x : LeaderLogRow) (r : Result ⊤ FindingsFull) (u : Bytes)
    (em : (r ≡ room_answer h (rewriting x)) × (u ≡ noted_in h (rewriting x))) where
  pub note_full : (e : FindingsFull) → r ≡ Err e → (a : Result Accepted Refusal) → a ≡ Err Refusal.FindingsFull → Gives (rewritten_step h k x) a u
  unfolding rewritten_step
  note_full e z a ea =
      let full = no_room h (rewriting x) r u em e z in
      refuses_with _ _ _ (cond_false (room_for h (rewriting x)) _ _ full.0) a ea u full.1

  pub note_so : (v : ⊤) → r ≡ Ok v → (a : Result Accepted Refusal) → a ≡ accepted_with 0 → (w : Bytes) → w ≡ kept_in u k x → Gives (rewritten_step h k x) a w
  unfolding rewritten_step
  note_so v z a ea w ew =
      accepts_with _ _ _ (cond_true (room_for h (rewriting x)) _ _ (some_room h (rewriting x) r u em v z)) a ea w (ew ∙ ap (λ (y : Bytes). kept_in y k x) em.1)

-- ---- held against the one kept

module _ (h : Bytes) (k : ℕ) (x o : LeaderLogRow) (eo : o ≡ leader_log_row (leader_logs_part h) k) (b : Option Bool) (eb : b ≡ extends_in h o x)
    (r : Result Accepted Refusal) (h' : Bytes) where
  held_is : (v : Option Bool) → b ≡ v → next_step h k x ≡ held_step h k o x v
  unfolding next_step
  held_is v e = (λ i. held_step h k (sym eo i) x (extends_in h (sym eo i) x)) ∙ ap (held_step h k o x) (sym eb ∙ e)

  pub left_open : b ≡ None → r ≡ accepted_with 0 → h' ≡ kept_in h k x → Gives (next_step h k x) r h'
  left_open e er w = accepts_with _ _ 0 (held_is None e) r er h' w

  pub differs : b ≡ Some false → Gives (rewritten_step h k x) r h' → Gives (next_step h k x) r h'
  differs e w = goes_on _ _ (held_is (Some false) e) r h' w

  pub agrees : b ≡ Some true → r ≡ accepted_with (growth_of o x) → h' ≡ kept_in h k x → Gives (next_step h k x) r h'
  agrees e er w = accepts_with _ _ (growth_of o x) (held_is (Some true) e) r er h' w

-- ---- observed

module _ (h : Bytes) (n t : ℕ) (x : LeaderLogRow) (ex : x ≡ present_in h n t) (p : Option ℕ) (ep : p ≡ place_in h n t) (r : Result Accepted Refusal) (h' : Bytes) where
  placed_is : (q : Option ℕ) → p ≡ q → leader_step h n t ≡ placed_step h x q
  unfolding leader_step
  placed_is q e = (λ i. placed_step h (sym ex i) (place_in h n t)) ∙ ap (placed_step h x) (sym ep ∙ e)

  pub observe_first : p ≡ None → Gives (first_step h x) r h' → Gives (leader_step h n t) r h'
  observe_first e w = goes_on _ _ (placed_is None e) r h' w

  pub observe_next : (k : ℕ) → p ≡ Some k → Gives (next_step h k x) r h' → Gives (leader_step h n t) r h'
  observe_next k e w = goes_on _ _ (placed_is (Some k) e) r h' w

-- ---- what is read

-- the row in place k, and the place, of the table as it is lent
pub row_read : (h : Bytes) (k : ℕ) (q : Bytes) → q ≡ leader_logs_part h → (o : LeaderLogRow) → o ≡ leader_log_row q k → o ≡ leader_log_row (leader_logs_part h) k
row_read h k q e o eo = eo ∙ ap (λ (u : Bytes). leader_log_row u k) e

pub place_read : (h : Bytes) (n t : ℕ) (q : Bytes) → q ≡ leader_logs_part h → (m : ℕ) → m ≡ leader_logs_held h → (p : Option ℕ)
    → p ≡ place_from (leader_log_row q) n t 0 m → p ≡ place_in h n t
place_read h n t q e m em p ep = ep ∙ (λ i. place_from (leader_log_row (e i)) n t 0 (em i))

-- the place is among those held
pub place_within : (h : Bytes) (n t k : ℕ) → place_in h n t ≡ Some k → k < leader_logs_held h
place_within h n t k e =
    let f = found (leader_log_row (leader_logs_part h)) n t 0 (leader_logs_held h) k e in
    let a = f.is in
    let b = f.before in
    omega arith
