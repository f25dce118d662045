-- A function that ends with a step gives it: the law of every exit.
-- Assumes nothing.
use mathlib.Core.Path.{◌≡◌, refl, sym, ◌∙◌, subst}
use Rattle.std.specs.Prelude.{ℕ, Result, Err}
use Rattle.model.specs.Sizes.{Bytes}
use Rattle.answers.specs.declared.answer.Accepted.{Accepted}
use Rattle.answers.specs.declared.answer.Refusal.{Refusal}
use Rattle.answers.specs.Numbers.{accepted_with}
use Rattle.answers.specs.Step.{Step, accepting, refusing, Gives}

module _ (s t : Step) (e : s ≡ t) where
  pub goes_on : (r : Result Accepted Refusal) (h' : Bytes) → Gives t r h' → Gives s r h'
  goes_on r h' g = subst (λ (x : Step). Gives x r h') (sym e) g

  pub ends : Gives s t.answer t.bytes
  ends = goes_on t.answer t.bytes (record { answer = refl; bytes = refl })

-- an answer that is made by a call
pub told : {s : Step} {h' : Bytes} (r q : Result Accepted Refusal) → r ≡ q → Gives s q h' → Gives s r h'
told r q e g = record { answer = e ∙ g.answer; bytes = g.bytes }

-- an exit, by the step that it comes to
module _ (s : Step) (b : Bytes) where
  exits : (x : Step) → s ≡ x → (r : Result Accepted Refusal) → r ≡ x.answer → (h' : Bytes) → h' ≡ x.bytes → Gives s r h'
  exits x e r er h' eh = goes_on s x e r h' (record { answer = er; bytes = eh })

  pub accepts_with : (v : ℕ) → s ≡ accepting v b → (r : Result Accepted Refusal) → r ≡ accepted_with v → (h' : Bytes) → h' ≡ b → Gives s r h'
  accepts_with v e = exits (accepting v b) e

  pub refuses_with : (w : Refusal) → s ≡ refusing w b → (r : Result Accepted Refusal) → r ≡ Err w → (h' : Bytes) → h' ≡ b → Gives s r h'
  refuses_with w e = exits (refusing w b) e
