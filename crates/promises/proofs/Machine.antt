-- `gamiwhoru_submit` on bytes as a machine of the model's bridge: its states are bytes, which stand for histories.
-- Assumes nothing.
use mathlib.Core.Path.{◌≡◌, refl, sym, ◌∙◌, ap}
use mathlib.Core.Bool.{Bool}
use mathlib.Core.List.{List, [], ◌∷◌}
use mathlib.Core.Option.{Option, none, some}
use lib.Dec.{eqb}
use Rattle.model.specs.Sizes.{Bytes}
use Rattle.model.specs.Refusal.{unknownKind}
use Rattle.model.specs.History.{History}
use Rattle.model.specs.Answer as model
use Rattle.model.specs.Answer.{is_accepted}
use Rattle.model.specs.Ledger.{Ledger, fed}
use Rattle.model.specs.Lists.{finding_list, leader_list}
use Rattle.model.proofs.Bridge.{Machine, state_from, told_from}
use Rattle.record_bits.specs.declared.bits.Fault.{Fault}
use Rattle.storage.specs.Decode.{decode}
use Rattle.storage.specs.Fresh.{fresh_history}
use Rattle.storage.proofs.Meanings.{Represents, fresh_represented}
use Rattle.std.specs.Prelude.{Result, Ok, Err}
use Rattle.answers.specs.declared.answer.Accepted.{Accepted}
use Rattle.answers.specs.declared.answer.Refusal.{Refusal}
use Rattle.answers.specs.Numbers.{modelled, reply_of}
use Rattle.submission.specs.Replies.{submit_step, submit_answer, submit_bytes}
use Rattle.submission.proofs.Meaning.{Means, submit_means}
use Rattle.promises.specs.Run.{bytes_from, accepts, ledger_from}

-- ---- the machine

pub means : (h : Bytes) (x : History) → Represents h x → (s : Bytes) → Means h x s (submit_step h s)
means h x r s = submit_means h x s r

-- the model's answer. Bytes that stand for a history are never answered 12, so what stands for 12 does not matter.
abbrev or_else : Option model.Answer → model.Answer
or_else none = model.refused unknownKind
or_else (some a) = a

abbrev pub said : Result Accepted Refusal → model.Answer
said a = or_else (modelled a)

abbrev pub submitting : Machine
submitting =
    record {
      State = Bytes;
      start = fresh_history;
      answers = λ h s. said (submit_answer h s);
      next = submit_bytes;
      Represents = Represents;
      starts = fresh_represented;
      alike = λ h x r s. ap or_else (means h x r s).answers;
      keeps = λ h x r s. (means h x r s).represents;
      findings = λ h. finding_list (decode h);
      leaders = λ h. leader_list (decode h);
      findings_alike = λ h x r. ap finding_list r.decodes;
      leaders_alike = λ h x r. ap leader_list r.decodes;
    }

-- ---- its runs are those of Run.antt

-- whether a record was accepted, by its number
fault_number : (f : Fault) → eqb (reply_of (Err (Refusal.Unreadable f))).refusal 0 ≡ is_accepted (said (Err (Refusal.Unreadable f)))
fault_number Fault.UnknownKind = refl
fault_number Fault.BitsMissing = refl
fault_number Fault.Filling = refl
fault_number Fault.OutOfLimit = refl
fault_number Fault.NotAbove = refl

by_number : (a : Result Accepted Refusal) → eqb (reply_of a).refusal 0 ≡ is_accepted (said a)
by_number (Ok v) = refl
by_number (Err (Refusal.Unreadable f)) = fault_number f
by_number (Err Refusal.PrefixesFull) = refl
by_number (Err Refusal.FindingsFull) = refl
by_number (Err Refusal.OldExceedsNew) = refl
by_number (Err Refusal.LengthExceedsFront) = refl
by_number (Err Refusal.CertificatesFull) = refl
by_number (Err Refusal.LeaderLogsFull) = refl
by_number (Err Refusal.StorageBroken) = refl

pub accepts_is : (h s : Bytes) → accepts h s ≡ is_accepted (said (submit_answer h s))
accepts_is h s = by_number (submit_answer h s)

-- an accepted record, by the number of its reply and by the model
pub accepts_alike : (h : Bytes) (x : History) → Represents h x → (s : Bytes) → accepts h s ≡ is_accepted (model.answer x s)
accepts_alike h x r s = accepts_is h s ∙ ap is_accepted (submitting.alike h x r s)

pub states_are : (ss : List Bytes) (h : Bytes) → state_from submitting h ss ≡ bytes_from h ss
unfolding state_from bytes_from
states_are [] h = refl
states_are (s ∷ ss) h = states_are ss (submit_bytes h s)

pub ledgers_are : (ss : List Bytes) (h : Bytes) (g : Ledger) → told_from submitting h g ss ≡ ledger_from h g ss
unfolding told_from ledger_from
ledgers_are [] h g = refl
ledgers_are (s ∷ ss) h g =
    ledgers_are ss (submit_bytes h s) (fed g s (is_accepted (said (submit_answer h s))))
    ∙ ap (λ (b : Bool). ledger_from (submit_bytes h s) (fed g s b) ss) (sym (accepts_is h s))
