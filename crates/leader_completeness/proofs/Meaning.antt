-- What the check means: of bytes that stand for a history the answer is the model's, and the bytes after it stand for the
-- model's history after it.
-- Assumes nothing.
use Prim.Native.Nat.{ℕ, ◌<◌, ◌≤◌}
use native.Mathlib.Omega.{arith}
use mathlib.Core.Path.{◌≡◌, refl, sym, ◌∙◌, ap, subst}
use mathlib.Core.Bool.{true, cond}
use mathlib.Core.Logic.{inl, ⊎_elim}
use mathlib.Core.List.{List, [], map, Memᴰ}
use mathlib.Core.Option.{none, some}
use lib.Dec.{ltb}
use lib.ListN.{length}
use borrow.Author.Tests.{lt-ltb, le-ltb}
use Rattle.model.specs.Refusal.{findingsFull}
use Rattle.model.specs.Record.{check}
use Rattle.model.specs.History.{Finding, Certificate, History, noted, with_certificates, with_findings}
use Rattle.model.specs.Check.{moved, lackings, some_relevant, check_findings, check_refusal, check_value, check_effect}
use Rattle.model.specs.Sizes.{Bytes, finding_limit}
use Rattle.model.specs.Answer.{accepted, refusal}
use Rattle.model.proofs.Tests.{cond_true, cond_false}
use Rattle.storage_bytes.specs.Lists.{every}
use Rattle.storage.specs.Tables.{CertificateRow, certificate_row, certificates_part, finding_row, finding_rows, findings_part}
use Rattle.storage.specs.Decode.{prefix_at}
use Rattle.storage.specs.Rules.{finding_right}
use Rattle.storage_bytes.proofs.ListLaws.{tabulate_length}
use Rattle.storage.proofs.DecodeLaws.{CertificateNamed}
use Rattle.storage.proofs.Meanings.{Represents, certificates_stored, findings_stored, committed_stored, findings_right, noted_right, end_is}
use Rattle.answers.specs.declared.answer.Refusal.{Refusal}
use Rattle.answers.specs.Step.{accepting}
use Rattle.answers.proofs.Meaning.{Means, accepts, refuses}
use Rattle.log_violation.proofs.Kept.{findings_kept_lem}
use Rattle.log_violation.proofs.ViolationLaws.{Holds, all_hold, all_length, findings_long}
use Rattle.storage.specs.Values.{certificates_of, committed_end}
use Rattle.log_violation.specs.Violation.{too_many}
use Rattle.storage_bytes.specs.Layout.{findings_length}
use Rattle.storage.specs.Head.{prefixes_held, committed_number, certificates_held, findings_held}
use Rattle.leader_completeness.specs.Judgement.{lackings_in, flags_in}
use Rattle.leader_completeness.specs.Marks.{marks_moved}
use Rattle.leader_completeness.specs.Check.{check_held, check_table, check_written, judged_step, check_step}
use Rattle.storage.proofs.WellFormed.{formed, end_small}
use Rattle.leader_completeness.proofs.Fits.{stored}
use Rattle.leader_completeness.proofs.CertificateMeaning.{lackings_mean, flags_mean}
use Rattle.leader_completeness.proofs.MarkMeaning.{raised, marks_mean}
use Rattle.leader_completeness.proofs.FindingMeaning.{Fitting, fitting, lackings_fit}
use Rattle.leader_completeness.proofs.CheckLaws.{check_cases}
use Rattle.leader_completeness.proofs.NothingCommitted.{nothing_refused, nothing_flagged, nothing_changed}

module _ (h : Bytes) (x : History) (s : Represents h x) where
  rows : (c : CertificateRow) → Memᴰ c (certificates_of h) → CertificateNamed (prefixes_held h) c
  rows = stored h s.right

  notes_fit : (g : Finding) → Memᴰ g (lackings_in h (certificates_of h)) → Fitting g
  notes_fit = lackings_fit h x s (certificates_of h) rows

  found : noted x.findings (lackings_in h (certificates_of h)) ≡ check_findings x
  unfolding check_findings
  found =
      ap (noted x.findings)
      (lackings_mean h x s (certificates_of h) (λ c m. (rows c m).log) ∙ ap (lackings x.committed x.terms) (certificates_stored h x s))

  -- the copy of the findings holds the model's, or there are too many
  holds : Holds (check_table h) (check_held h) (check_findings x)
  unfolding check_table check_held
  holds =
      subst (Holds (check_table h) (check_held h)) found
      (all_hold (lackings_in h (certificates_of h)) (findings_part h) (findings_held h) x.findings (findings_long h s.right)
      (λ g m. fitting g (notes_fit g m)) (inl ((formed h s.right).findings, findings_stored h x s)))

  flag : flags_in h 0 (certificates_of h) ≡ check_value x
  unfolding check_value
  flag =
      flags_mean h x s (certificates_of h) 0 ∙ ap (λ (cs : List Certificate). cond (some_relevant x.committed x.terms cs) 4 0) (certificates_stored h x s)

  -- the marks have moved, as the model's
  marks : Represents (marks_moved h (committed_end h) 0 (certificates_held h)) (with_certificates x (map (moved x.committed) x.certificates))
  unfolding moved
  marks =
      subst (λ (n : ℕ). Represents (marks_moved h (committed_end h) 0 n) (with_certificates x (map (moved x.committed) x.certificates)))
      (tabulate_length (certificate_row (certificates_part h)) 0 (certificates_held h))
      (subst (λ (cs : List Certificate). Represents (marks_moved h (committed_end h) 0 (length (certificates_of h))) (with_certificates x cs))
      (λ i. map (raised (end_is h x s i)) (certificates_stored h x s i))
      (marks_mean (certificates_of h) [] h x s (committed_end h) (end_small h s.right) (sym (certificates_stored h x s))))

  found_right : every finding_right (check_findings x) ≡ true
  found_right =
      subst (λ (fs : List Finding). every finding_right fs ≡ true) found
      (noted_right (lackings_in h (certificates_of h)) x.findings (findings_right h x s) (λ g m. (notes_fit g m).0))

  -- not too many: accepted
  module _ (few : check_held h ≤ finding_limit) (e : finding_rows (check_table h) (check_held h) ≡ check_findings x) where
    count : length (check_findings x) ≡ check_held h
    count = sym (ap length e) ∙ tabulate_length (finding_row (check_table h)) 0 (check_held h)

    model_accepts : refusal x check ≡ none
    unfolding check_refusal
    model_accepts = cond_false (ltb finding_limit (length (check_findings x))) (some findingsFull) none (le-ltb finding_limit (length (check_findings x)) (let z = count in omega arith))

    table_kept : length (check_table h) ≡ findings_length
    unfolding check_table
    table_kept = all_length (lackings_in h (certificates_of h)) (findings_part h) (findings_held h) ∙ findings_long h s.right

    written : Represents (check_written h (check_table h) (check_held h) (committed_end h)) (check_effect x)
    unfolding check_written check_findings check_effect
    written =
        subst (λ (fs : List Finding). Represents (check_written h (check_table h) (check_held h) (committed_end h)) (with_findings (with_certificates x (map (moved x.committed) x.certificates)) fs)) e
        (findings_kept_lem (marks_moved h (committed_end h) 0 (certificates_held h)) (with_certificates x (map (moved x.committed) x.certificates)) marks
        (check_table h) (check_held h) (lackings x.committed x.terms x.certificates) table_kept few (ap (every finding_right) e ∙ found_right) e)

    accepted_means : Means h x check (judged_step h)
    unfolding judged_step
    accepted_means =
        subst (Means h x check) (sym (cond_false (ltb finding_limit (check_held h)) _ _ (le-ltb finding_limit _ few)))
        (accepts h x check _ _ model_accepts (ap (λ (v : ℕ). accepted v 0) flag) written)

  -- too many: refused
  module _ (many : check_held h ≡ too_many) (more : finding_limit < length (check_findings x)) where
    model_refuses : refusal x check ≡ some findingsFull
    unfolding check_refusal
    model_refuses = cond_true (ltb finding_limit (length (check_findings x))) (some findingsFull) none (lt-ltb finding_limit _ more)

    refused_means : Means h x check (judged_step h)
    unfolding judged_step
    refused_means =
        subst (Means h x check) (sym (cond_true (ltb finding_limit (check_held h)) _ _ (lt-ltb finding_limit _ (omega arith))))
        (refuses h x check Refusal.FindingsFull findingsFull refl s model_refuses)

-- nothing is committed: accepted, and nothing changes
nothing_means : (h : Bytes) (x : History) → Represents h x → committed_number h ≡ 0 → Means h x check (accepting 0 h)
nothing_means h x s e =
    let none_kept : x.committed ≡ [] = sym (committed_stored h x s) ∙ ap (prefix_at x.prefixes) e in
    let count : findings_held h ≡ length x.findings =
    sym (tabulate_length (finding_row (findings_part h)) 0 (findings_held h)) ∙ ap length (findings_stored h x s) in
    let held = (formed h s.right).findings in
    accepts h x check _ h (nothing_refused x none_kept (omega arith))
    (ap (λ (v : ℕ). accepted v 0) (sym (nothing_flagged x none_kept)))
    (subst (Represents h) (sym (nothing_changed x none_kept)) s)

-- the check of bytes that stand for a history is the model's check of it
pub check_means : (h : Bytes) (x : History) → Represents h x → Means h x check (check_step h)
check_means h x s =
    check_cases h (Means h x check) (nothing_means h x s)
    (⊎_elim (λ a. accepted_means h x s a.0 a.1) (λ a. refused_means h x s a.0 a.1) (holds h x s))
