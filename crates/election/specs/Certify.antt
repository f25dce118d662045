-- What an election answers and writes, on the bytes of a history: as it is judged; accepted, a certificate in its place.
-- Assumes nothing.
use Rattle.std.specs.Prelude.{ℕ, Bool, true, false, cond, leb, Option, Some, None}
use Rattle.model.specs.Sizes.{Bytes, certificate_limit}
use Rattle.storage.specs.Tables.{CertificateRow}
use Rattle.storage.specs.Writes.{certificate_added}
use Rattle.storage.specs.Head.{certificates_held}
use Rattle.log_prefix.specs.Prefix.{front_through}
use Rattle.answers.specs.declared.answer.Refusal.{Refusal}
use Rattle.answers.specs.Step.{Step, accepting, refusing}
use Rattle.election.specs.declared.judging.Numbering.{Numbering}
use Rattle.election.specs.Numbering.{numbering_of, numbering_in}
use Rattle.units.specs.declared.LogPrefixWitness.{LogPrefixWitness}

-- as many certificates are held as a history holds
abbrev pub full_in : Bytes → Bool
full_in h = leb certificate_limit (certificates_held h)

-- a new certificate's row: its mark is zero, and an absent log has no number
abbrev pub kept : ℕ → ℕ → ℕ → Bool → ℕ → CertificateRow
kept l t number p log =
    record { term = t; log = cond p log 0; mark = 0; leader = l; number = number; present = cond p 1 0 }

-- an election of leader l in term t: 9 beyond the leader's front; else 10 where the certificates are full; else the certificate is put in
-- its place
abbrev pub step_of : Bytes → ℕ → ℕ → Bool → Option LogPrefixWitness → Bool → Numbering → Step
step_of h l t p None full m = refusing Refusal.LengthExceedsFront h
step_of h l t p (Some log) true m = refusing Refusal.CertificatesFull h
step_of h l t p (Some log) false m = accepting 0 (certificate_added h m.place (kept l t m.number p log.0))

-- the same in the bytes of a history, with a log of n entries
unfoldable pub election_step : Bytes → ℕ → ℕ → Bool → ℕ → Step
unfolding numbering_of
election_step h l t p n = step_of h l t p (front_through h l n) (full_in h) (numbering_in h t)
