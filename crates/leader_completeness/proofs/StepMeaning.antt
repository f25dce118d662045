-- The step for one certificate by itself, as a whole check makes it: judged, then its mark moved. Requests that check one
-- certificate at a time use these.
-- Assumes nothing.
use Prim.Native.Nat.{ℕ, ◌<◌}
use mathlib.Core.Path.{◌≡◌, refl, sym, ◌∙◌, ap, subst, subst₂}
use mathlib.Core.Bool.{Bool, true, false, cond, not}
use mathlib.Core.List.{List}
use lib.Dec.{ltb, eqb}
use lib.ListN.{length, set}
use Rattle.model.specs.Sizes.{Bytes}
use Rattle.model.specs.History.{Finding, Certificate, History, noted, with_certificates}
use Rattle.model.specs.Check.{relevant, lacking, moved}
use Rattle.storage_bytes.specs.Layout.{findings_length}
use Rattle.storage.specs.Tables.{CertificateRow, certificate_row, certificates_part}
use Rattle.storage.specs.Decode.{certificate_in}
use Rattle.storage.proofs.DecodeLaws.{CertificateNamed}
use Rattle.storage.proofs.Meanings.{Represents, end_is}
use Rattle.log_violation.proofs.ViolationLaws.{Holds, all_hold}
use Rattle.storage.specs.Values.{committed_end}
use Rattle.storage.specs.Head.{prefixes_held, certificates_held}
use Rattle.leader_completeness.specs.Relevance.{relevant_in}
use Rattle.leader_completeness.specs.Judgement.{flag_in, lacking_in, JudgedAs}
use Rattle.leader_completeness.specs.Marks.{mark_moved}
use Rattle.storage.proofs.WellFormed.{end_small}
use Rattle.leader_completeness.proofs.CertificateMeaning.{positive, relevant_means, lacking_means}
use Rattle.leader_completeness.proofs.MarkMeaning.{raised, mark_means}
use Rattle.leader_completeness.proofs.FindingMeaning.{fitting, lacking_fits}

-- what judging a certificate c of the history x comes to, after the flags b and the findings fs
pub record StepMeans (x : History) (c : Certificate) (b : ℕ) (fs : List Finding) (b' held' : ℕ) (t' : Bytes) : Type 0 where
  -- flag 4 was set before, or is by its relevant index
  pub flag : b' ≡ cond (ltb 0 (relevant x.committed x.terms c)) 4 b
  -- the table holds the findings with its LG-05, or there are too many
  pub findings : Holds t' held' (noted fs (lacking x.committed x.terms c))

either_set : (z : Bool) (b : ℕ) → cond z b 4 ≡ cond (not z) 4 b
either_set true b = refl
either_set false b = refl

module _ (h : Bytes) (x : History) (s : Represents h x) where
  pub judge_means : (c : CertificateRow) → CertificateNamed (prefixes_held h) c → (t : Bytes) (b held : ℕ) (r : Bool) (held' : ℕ) (t' : Bytes) (fs : List Finding)
      → length t ≡ findings_length → Holds t held fs → JudgedAs h c t held r held' t' → StepMeans x (certificate_in x.prefixes c) b fs (cond r 4 b) held' t'
  unfolding flag_in
  judge_means c w t b held r held' t' fs l k j =
      record {
        flag = j.flag b ∙ either_set (eqb (relevant_in h c) 0) b ∙ ap (λ (z : Bool). cond z 4 b) (positive (relevant_in h c))
            ∙ ap (λ (r : ℕ). cond (ltb 0 r) 4 b) (relevant_means h x s c);
        findings = subst (λ (gs : List Finding). Holds t' held' (noted fs gs)) (lacking_means h x s c w.log)
            (subst₂ (λ (u : Bytes) (n : ℕ). Holds u n (noted fs (lacking_in h c))) (sym j.table) (sym j.holds)
            (all_hold (lacking_in h c) t held fs l (λ g m. fitting g (lacking_fits h x s c w g m)) k));
      }

  -- its mark moves to the committed end, and nothing else changes
  pub move_means : (k : ℕ) → k < certificates_held h
      → Represents (mark_moved h k (committed_end h))
      (with_certificates x (set x.certificates k (moved x.committed (certificate_in x.prefixes (certificate_row (certificates_part h) k)))))
  unfolding moved
  move_means k l =
      subst (λ (n : ℕ). Represents (mark_moved h k (committed_end h)) (with_certificates x (set x.certificates k (raised n (certificate_in x.prefixes (certificate_row (certificates_part h) k))))))
      (end_is h x s)
      (mark_means h x s (committed_end h) (end_small h s.right) k l)
