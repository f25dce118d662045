-- The ways an election goes, with what was read: 9, 10 with nothing written, or kept.
-- Assumes nothing.
use Prim.Native.Nat.{ℕ, ◌≤◌, ◌<◌}
use mathlib.Core.Path.{◌≡◌, refl, ap, sym, ◌∙◌, subst}
use mathlib.Core.Bool.{Bool, true, false}
use lib.Dec.{leb}
use borrow.Author.Tests.{le-leb, lt-leb}
use Rattle.model.specs.Sizes.{Bytes, certificate_limit}
use Rattle.storage.specs.Tables.{CertificateRow, certificate_row, certificates_part}
use Rattle.storage.specs.Writes.{certificate_added}
use Rattle.storage.specs.Head.{certificates_held}
use Rattle.log_prefix.specs.Prefix.{front_through}
use Rattle.units.specs.declared.LogPrefixWitness.{LogPrefixWitness}
use Rattle.answers.specs.declared.answer.Refusal.{Refusal}
use Rattle.answers.specs.Numbers.{accepted_with}
use Rattle.answers.specs.Step.{Gives, accepting, refusing}
use Rattle.answers.proofs.StepLaws.{ends}
use Rattle.election.specs.declared.judging.Numbering.{Numbering}
use Rattle.election.specs.Numbering.{numbering_in}
use Rattle.election.proofs.NumberingTurns as judged
use Rattle.election.specs.Certify.{full_in, kept, step_of, election_step}
use Rattle.std.specs.Prelude.{Option, Some, None, Err}

-- the place is among those held, or behind them
pub place_fits : (h : Bytes) (t : ℕ) (k : Numbering) → k ≡ numbering_in h t → k.place ≤ certificates_held h
place_fits h t k e = subst (λ (m : Numbering). m.place ≤ certificates_held h) (sym e) (judged.next_within (certificate_row (certificates_part h)) t (certificates_held h))

-- ---- the exits

module _ (h : Bytes) (l t : ℕ) (p : Bool) (n : ℕ) (s : Option LogPrefixWitness) (es : s ≡ front_through h l n) where
  -- an election goes by what was read
  goes : (log : Option LogPrefixWitness) → s ≡ log → (b : Bool) → full_in h ≡ b → (m : Numbering) → numbering_in h t ≡ m
      → election_step h l t p n ≡ step_of h l t p log b m
  unfolding election_step
  goes log e b f m g = λ i. step_of h l t p ((sym es ∙ e) i) (f i) (g i)

  -- 9
  pub beyond : s ≡ None → Gives (election_step h l t p n) (Err Refusal.LengthExceedsFront) h
  beyond e = ends _ (refusing Refusal.LengthExceedsFront h) (goes None e _ refl _ refl)

  -- c certificates are held
  module _ (log : LogPrefixWitness) (e : s ≡ Some log) (c : ℕ) (ec : c ≡ certificates_held h) where
    -- 10
    pub full : certificate_limit ≤ c → Gives (election_step h l t p n) (Err Refusal.CertificatesFull) h
    full f = ends _ (refusing Refusal.CertificatesFull h) (goes (Some log) e true (ap (leb certificate_limit) (sym ec) ∙ le-leb certificate_limit c f) _ refl)

    -- the certificate is kept
    pub accepted : c < certificate_limit → (k : Numbering) → k ≡ numbering_in h t → (x : CertificateRow) → x ≡ kept l t k.number p log.0
        → (h' : Bytes) → h' ≡ certificate_added h k.place x → Gives (election_step h l t p n) (accepted_with 0) h'
    accepted f k ek x ex h' e' =
        ends _ (accepting 0 h')
        (goes (Some log) e false (ap (leb certificate_limit) (sym ec) ∙ lt-leb certificate_limit c f) k (sym ek) ∙ ap (accepting 0) (sym (e' ∙ ap (certificate_added h k.place) ex)))
