-- What taking a record gives: its answer, and the bytes of the history after it. Each kind has one definition of both.
-- Assumes nothing.
use Rattle.std.specs.Prelude.{ℕ, ◌≡◌, Result, Err}
use Rattle.model.specs.Sizes.{Bytes}
use Rattle.answers.specs.declared.answer.Accepted.{Accepted}
use Rattle.answers.specs.declared.answer.Refusal.{Refusal}
use Rattle.answers.specs.Numbers.{accepted_with}

pub record Step : Type 0 where
  pub answer : Result Accepted Refusal
  pub bytes : Bytes

-- accepted with a value, and no row that fails
abbrev pub accepting : ℕ → Bytes → Step
accepting v h = record { answer = accepted_with v; bytes = h }

-- refused, and the bytes as they are
abbrev pub refusing : Refusal → Bytes → Step
refusing r h = record { answer = Err r; bytes = h }

-- the answer r and the bytes h' are the step's
pub record Gives (s : Step) (r : Result Accepted Refusal) (h' : Bytes) : Type 0 where
  pub answer : r ≡ s.answer
  pub bytes : h' ≡ s.bytes
