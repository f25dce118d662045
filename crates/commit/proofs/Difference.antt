-- A difference noted: what `note_difference` answers and leaves, and what the bytes stand for then.
-- Assumes nothing.
use Prim.Native.Nat.{ℕ, ◌≤◌, ◌<◌}
use native.Mathlib.Omega.{arith}
use mathlib.Core.Path.{◌≡◌, refl, ◌∙◌, ap}
use mathlib.Core.Bool.{false}
use mathlib.Core.Logic.{◌⊎◌}
use mathlib.Core.List.{[], ◌∷◌}
use lib.ListN.{length}
use Rattle.std.specs.Prelude.{Result, Ok, Err, ⊤}
use Rattle.model.specs.History.{History, noted}
use Rattle.model.specs.Sizes.{Bytes, node_count, index_limit, finding_limit}
use Rattle.model.proofs.Tests.{cond_true, cond_false}
use Rattle.storage.proofs.Meanings.{Represents}
use Rattle.log_violation.specs.Violation.{room_for, room_answer, noted_in}
use Rattle.log_violation.proofs.Single.{some_room, no_room, Taken, one_noted}
use Rattle.commit.specs.Committed.{unseen_set}
use Rattle.commit.specs.Prefix.{difference, note_step}
use Rattle.answers.specs.declared.answer.Accepted.{Accepted}
use Rattle.answers.specs.declared.answer.Refusal.{Refusal}
use Rattle.answers.specs.Numbers.{accepted_with}
use Rattle.answers.specs.Step.{Gives}
use Rattle.answers.proofs.StepLaws.{accepts_with, refuses_with}
use Rattle.log_violation.specs.declared.violation.FindingsFull.{FindingsFull}

module _ (h : Bytes) (n i : ℕ) (r : Result ⊤ FindingsFull) (u : Bytes)
    (em : (r ≡ room_answer h (difference n i)) × (u ≡ noted_in h (difference n i))) where
  pub note_full : (e : FindingsFull) → r ≡ Err e → (a : Result Accepted Refusal) → a ≡ Err Refusal.FindingsFull → Gives (note_step h n i) a u
  unfolding note_step
  note_full e z a ea =
      let full = no_room h (difference n i) r u em e z in
      refuses_with _ _ _ (cond_false (room_for h (difference n i)) _ _ full.0) a ea u full.1

  pub note_so : (v : ⊤) → r ≡ Ok v → (a : Result Accepted Refusal) → a ≡ accepted_with 0 → (w : Bytes) → w ≡ unseen_set u n 0 → Gives (note_step h n i) a w
  unfolding note_step
  note_so v z a ea w ew =
      accepts_with _ _ _ (cond_true (room_for h (difference n i)) _ _ (some_room h (difference n i) r u em v z)) a ea w (ew ∙ ap (λ (y : Bytes). unseen_set y n 0) em.1)

-- there is room for the difference, and it is among the findings then, or there are too many
pub difference_noted : (h : Bytes) (x : History) (s : Represents h x) (n i : ℕ) → n < node_count → i ≤ index_limit
    → Taken h x (difference n i) ⊎ ((room_for h (difference n i) ≡ false) × (finding_limit < length (noted x.findings (difference n i ∷ []))))
difference_noted h x s n i here limit =
    one_noted h x s (difference n i)
    (record { name = omega arith; node = omega (arith, here); index = omega (arith, limit); term = omega arith })
    (record { name = refl; node = omega (arith, here); index = limit })
