-- What recording an election means: of bytes that stand for a history the answer is the model's, and the bytes after it stand for
-- the model's history after it.
-- Assumes nothing.
use Rattle.model.specs.Sizes.{Bytes, node_count, certificate_limit}
use Prim.Native.Nat.{ℕ, ◌^◌, ◌<◌, ◌≤◌}
use mathlib.Core.Path.{◌≡◌, refl, sym, subst}
use mathlib.Core.Bool.{Bool, true, false}
use mathlib.Core.Logic.{⊎_elim}
use lib.ListN.{length, take}
use borrow.Author.Tests.{leb-false}
use Rattle.model.specs.Refusal.{lengthExceedsFront, certificatesFull}
use Rattle.model.specs.Record.{election}
use Rattle.model.specs.History.{History, front_of}
use Rattle.storage.specs.Head.{prefixes_held, certificates_held}
use Rattle.storage.specs.Decode.{prefix_at}
use Rattle.storage.proofs.Meanings.{Represents}
use Rattle.log_prefix.specs.Prefix.{witness}
use Rattle.log_prefix.proofs.Fronts.{front_cut}
use Rattle.answers.specs.declared.answer.Refusal.{Refusal}
use Rattle.answers.specs.Step.{Step}
use Rattle.answers.proofs.Meaning.{Means, accepts, refuses}
use Rattle.std.specs.Prelude.{Some}
use Rattle.election.specs.Certify.{full_in, step_of, election_step}
use Rattle.election.proofs.Effects.{place, number, numbering_same, model_beyond, model_within, kept_stands}

module _ (h : Bytes) (x : History) (s : Represents h x) (l t : ℕ) (p : Bool) (n : ℕ) (leads : l < node_count) (fits : t < 2 ^ 32) where
  abbrev Meant : Step → Type 0
  Meant = Means h x (election l t p n)

  -- the first n entries of the leader's front are the stored prefix q
  module _ (q : ℕ) (stored : q ≤ prefixes_held h) (log : prefix_at x.prefixes q ≡ take n (front_of x l)) (w : n ≤ length (front_of x l)) where
    within : (a : Bool) → full_in h ≡ a → Meant (step_of h l t p (Some (witness q)) a (record { place = place h x s t; number = number h x s t }))
    within true f = refuses h x _ Refusal.CertificatesFull certificatesFull refl s (model_within h x s l n w true f)
    within false f =
        accepts h x _ _ _ (model_within h x s l n w false f) refl
        (kept_stands h x s l t p n leads fits q stored log (leb-false certificate_limit (certificates_held h) f))

  -- "9 when length exceeds the leader's front, 10 when 64 are held", in this order, else a certificate: what `record_election` promises is what the model says, of any leader and any term of 32 bits
  pub election_means : Means h x (election l t p n) (election_step h l t p n)
  unfolding election_step
  election_means =
      ⊎_elim
      (λ c.
      subst Meant (sym (λ i. step_of h l t p (c.0 i) (full_in h) (numbering_same h x s t i)))
      (refuses h x _ Refusal.LengthExceedsFront lengthExceedsFront refl s (model_beyond h x s l n c.1)))
      (λ c.
      subst Meant (sym (λ i. step_of h l t p (c.told i) (full_in h) (numbering_same h x s t i)))
      (within c.part c.within c.first c.reaches _ refl))
      (front_cut h x s l leads n)
