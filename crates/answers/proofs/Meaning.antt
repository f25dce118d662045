-- What taking a record means, of bytes that stand for a history: the answer is the model's answer to the record, and the bytes
-- after it stand for the model's history after it. The crates of the kinds state their meaning by it.
-- Assumes nothing.
use mathlib.Core.Path.{◌≡◌, refl, sym, ◌∙◌, ap, subst}
use mathlib.Core.Bool.{false}
use mathlib.Core.Option.{Option, none, some}
use Rattle.std.specs.Prelude.{Ok, Err}
use Rattle.model.specs.Sizes.{Bytes}
use Rattle.model.specs.Refusal.{Refusal}
use Rattle.model.specs.Record.{Record}
use Rattle.model.specs.History.{History}
use Rattle.model.specs.Answer as model
use Rattle.model.specs.Answer.{refusal, value, failing_node, effect, is_accepted, answer_unless, after_unless}
use Rattle.model.proofs.Tests.{tf}
use Rattle.storage.proofs.Meanings.{Represents}
use Rattle.answers.specs.declared.answer.Accepted.{Accepted}
use Rattle.answers.specs.declared.answer.Refusal as own
use Rattle.answers.specs.Numbers.{modelled, node_number}
use Rattle.answers.specs.Step.{Step, refusing}

-- Where the model's refusal of the record r, or none, is o: of bytes that stand for x the step's answer is the model's, and its bytes stand
-- for the history after it.
pub record MeansUnder (o : Option Refusal) (h : Bytes) (x : History) (r : Record) (s : Step) : Type 0 where
  pub answers : modelled s.answer ≡ some (answer_unless x r o)
  pub represents : Represents s.bytes (after_unless x r o)
  -- a refused record leaves every byte
  pub keeps : is_accepted (answer_unless x r o) ≡ false → s.bytes ≡ h

abbrev pub Means : Bytes → History → Record → Step → Type 0
Means h x r s = MeansUnder (refusal x r) h x r s

module _ {o : Option Refusal} (h : Bytes) (x : History) (r : Record) where
  -- where the model does not refuse the record
  pub accepts : (a : Accepted) (h' : Bytes) → o ≡ none → model.accepted a.value (node_number a.node) ≡ model.accepted (value x r) (failing_node r)
      → Represents h' (effect x r) → MeansUnder o h x r (record { answer = Ok a; bytes = h' })
  accepts a h' e q s =
      record {
        answers = ap some (q ∙ ap (answer_unless x r) (sym e));
        represents = subst (Represents h') (ap (after_unless x r) (sym e)) s;
        keeps = λ p. absurd (tf (sym (ap is_accepted (ap (answer_unless x r) e)) ∙ p));
      }

  -- where it does
  pub refuses : (v : own.Refusal) (w : Refusal) → modelled (Err v) ≡ some (model.refused w) → Represents h x → o ≡ some w
      → MeansUnder o h x r (refusing v h)
  refuses v w q s e =
      record {
        answers = q ∙ ap (λ (y : Option Refusal). some (answer_unless x r y)) (sym e);
        represents = subst (Represents h) (ap (after_unless x r) (sym e)) s;
        keeps = λ _. refl;
      }
