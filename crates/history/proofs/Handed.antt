-- What `gamiwhoru_submit` promises, from what `submit` does: document 01's numbers for the answer, and both in the model's words.
-- Assumes nothing.
use mathlib.Core.Path.{◌≡◌, refl, sym, ◌∙◌, ap, subst}
use mathlib.Core.Bool.{true, false}
use mathlib.Core.Option.{Option, none, some}
use mathlib.Core.Logic.{⊎_elim}
use Rattle.model.specs.Sizes.{Bytes}
use Rattle.model.specs.Answer as model
use Rattle.model.specs.Answer.{answer, is_accepted}
use Rattle.model.proofs.Tests.{either}
use Rattle.storage.specs.Rules.{well_formed}
use Rattle.storage.specs.Decode.{decode}
use Rattle.std.specs.Prelude.{Result, Ok, Err}
use Rattle.answers.specs.declared.answer.Accepted.{Accepted}
use Rattle.answers.specs.declared.answer.Refusal.{Refusal}
use Rattle.answers.specs.declared.numbers.Reply.{Reply}
use Rattle.answers.specs.Numbers.{refusal_in, modelled, reply_of, model_reply}
use Rattle.submission.specs.Replies.{submit_step}
use Rattle.answers.specs.Step.{Step, Gives}
use Rattle.history.specs.Exports.{Handed}
use Rattle.submission.proofs.Meaning.{Means, submit_means, submit_broken}
use Rattle.storage.proofs.Meanings.{represented}

-- ---- the numbers of an answer are those of the model's

-- 12 where there is none
abbrev reply_for : Option model.Answer → Reply
reply_for none = refusal_in 12
reply_for (some a) = model_reply a

reply_modelled : (a : Result Accepted Refusal) → reply_of a ≡ reply_for (modelled a)
reply_modelled (Ok a) = refl
reply_modelled (Err (Refusal.Unreadable f)) = refl
reply_modelled (Err Refusal.PrefixesFull) = refl
reply_modelled (Err Refusal.FindingsFull) = refl
reply_modelled (Err Refusal.OldExceedsNew) = refl
reply_modelled (Err Refusal.LengthExceedsFront) = refl
reply_modelled (Err Refusal.CertificatesFull) = refl
reply_modelled (Err Refusal.StorageBroken) = refl
reply_modelled (Err Refusal.LeaderLogsFull) = refl

pub reply_alike : (a : Result Accepted Refusal) (b : model.Answer) → modelled a ≡ some b → reply_of a ≡ model_reply b
reply_alike a b e = reply_modelled a ∙ ap reply_for e

-- a reply with a number is to a refused record
pub number_refused : (a : model.Answer) → ((model_reply a).refusal ≡ 0 → ⊥) → is_accepted a ≡ false
number_refused (model.accepted v n) f = absurd (f refl)
number_refused (model.refused r) f = refl

-- ---- the promise

module _ (h s : Bytes) where
  abbrev step : Step
  step = submit_step h s

  means : well_formed h ≡ true → Means h (decode h) s step
  means w = submit_means h (decode h) s (represented h w)

  replies : well_formed h ≡ true → reply_of step.answer ≡ model_reply (answer (decode h) s)
  replies w = reply_alike step.answer (answer (decode h) s) (means w).answers

  leaves : ((reply_of step.answer).refusal ≡ 0 → ⊥) → step.bytes ≡ h
  leaves f =
      ⊎_elim (λ w. (means w).keeps (number_refused (answer (decode h) s) (λ z. f (ap (λ (r : Reply). r.refusal) (replies w) ∙ z))))
      (λ w. ap (λ (t : Step). t.bytes) (submit_broken h s w)) (either (well_formed h))

  pub handed : (a : Result Accepted Refusal) (h' : Bytes) → Gives step a h' → (r : Reply) → r ≡ reply_of a → Handed h s r h'
  handed a h' p r e =
      let q = e ∙ ap reply_of p.answer in
      record {
        reply = q;
        bytes = p.bytes;
        broken = λ w. let b = submit_broken h s w in (q ∙ ap (λ (t : Step). reply_of t.answer) b, p.bytes ∙ ap (λ (t : Step). t.bytes) b);
        meant = λ w. (
          q ∙ replies w,
          subst (λ (u : Bytes). well_formed u ≡ true) (sym p.bytes) (means w).represents.right,
          ap decode p.bytes ∙ (means w).represents.decodes,
        );
        refused = λ f. p.bytes ∙ leaves (λ z. f (ap (λ (r : Reply). r.refusal) q ∙ z));
      }
