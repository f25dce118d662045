-- Document 01's numbers for the answer to a record, of the code's answers and of the model's.
-- Assumes nothing.
use Rattle.std.specs.Prelude.{ℕ, Option, None, Result, Ok, Err}
use Rattle.std.specs.Option.{unwrap_or}
use Rattle.model.specs.Refusal.{number, prefixesFull, findingsFull, old_exceeds_new, lengthExceedsFront, certificatesFull, leaderLogsFull}
use Rattle.model.specs.Answer as model
use Rattle.std.proofs.Math.Option as option
use Rattle.record_bits.specs.Answers.{refusal_of}
use Rattle.units.specs.declared.NodeId.{NodeId}
use Rattle.answers.specs.declared.answer.Accepted.{Accepted}
use Rattle.answers.specs.declared.answer.Refusal.{Refusal}
use Rattle.answers.specs.declared.numbers.Reply.{Reply}

-- accepted with a value, and no row that fails
abbrev pub accepted_with : ℕ → Result Accepted Refusal
accepted_with v = Ok (record { value = v; node = None })

-- the number of a node that may be none: then 0
abbrev pub node_number : Option NodeId → ℕ
node_number n = (unwrap_or n (record { 0 = 0 })).0

-- a refusal: value and node are 0
abbrev pub refusal_in : ℕ → Reply
refusal_in n = record { refusal = n; value = 0; node = 0 }

-- an answer in the model's words; 12 is not among the model's
abbrev pub modelled : Result Accepted Refusal → option.Option model.Answer
modelled (Ok a) = option.some (model.accepted a.value (node_number a.node))
modelled (Err (Refusal.Unreadable f)) = option.some (model.refused (refusal_of f))
modelled (Err Refusal.PrefixesFull) = option.some (model.refused prefixesFull)
modelled (Err Refusal.FindingsFull) = option.some (model.refused findingsFull)
modelled (Err Refusal.OldExceedsNew) = option.some (model.refused old_exceeds_new)
modelled (Err Refusal.LengthExceedsFront) = option.some (model.refused lengthExceedsFront)
modelled (Err Refusal.CertificatesFull) = option.some (model.refused certificatesFull)
modelled (Err Refusal.StorageBroken) = option.none
modelled (Err Refusal.LeaderLogsFull) = option.some (model.refused leaderLogsFull)

-- the number of a refusal
abbrev pub number_of : Refusal → ℕ
number_of (Refusal.Unreadable f) = number (refusal_of f)
number_of Refusal.PrefixesFull = number prefixesFull
number_of Refusal.FindingsFull = number findingsFull
number_of Refusal.OldExceedsNew = number old_exceeds_new
number_of Refusal.LengthExceedsFront = number lengthExceedsFront
number_of Refusal.CertificatesFull = number certificatesFull
number_of Refusal.StorageBroken = 12
number_of Refusal.LeaderLogsFull = number leaderLogsFull

abbrev pub reply_of : Result Accepted Refusal → Reply
reply_of (Ok a) = record { refusal = 0; value = a.value; node = node_number a.node }
reply_of (Err r) = refusal_in (number_of r)

-- the model's answer, which is never 12
abbrev pub model_reply : model.Answer → Reply
model_reply (model.accepted v n) = record { refusal = 0; value = v; node = n }
model_reply (model.refused r) = refusal_in (number r)
