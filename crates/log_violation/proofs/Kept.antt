-- The findings that were gathered become the history's: the bytes, and what they stand for.
-- Assumes nothing.
use Prim.Native.Nat.{ℕ, ◌≤◌}
use mathlib.Core.Path.{◌≡◌, refl, sym, ◌∙◌, ap, subst}
use mathlib.Core.Bool.{true}
use mathlib.Core.List.{List}
use lib.Dec.{eqb}
use lib.ListN.{length}
use borrow.Author.Tests.{eq-eqb, ne_eqb, eqb-true}
use Rattle.model.specs.History.{History, Finding, same_finding, noted, with_findings}
use Rattle.model.specs.Sizes.{Bytes, finding_limit}
use Rattle.model.proofs.Tests.{cond_cases, cond_true, cond_false}
use Rattle.model.proofs.Members.{all_there}
use Rattle.storage_bytes.specs.Lists.{every}
use Rattle.storage_bytes.specs.Words.{put_bytes}
use Rattle.storage_bytes.specs.Layout.{findings_start, findings_length, findings_field}
use Rattle.storage.specs.Tables.{finding_row, finding_rows, findings_part}
use Rattle.storage.specs.Rules.{finding_right}
use Rattle.storage.specs.Head.{findings_held, put_head_field}
use Rattle.storage_bytes.proofs.ListLaws.{tabulate_length}
use Rattle.storage.proofs.Meanings.{Represents, findings_stored, findings_taken}
use Rattle.log_violation.specs.Violation.{findings_written, findings_kept}
use Rattle.log_violation.proofs.ViolationLaws.{written_length}

-- ---- the bytes: written where there are more than before

module _ (h t : Bytes) (n : ℕ) where
  pub kept_own : n ≡ findings_held h → h ≡ findings_kept h t n
  unfolding findings_kept
  kept_own e = sym (cond_true (eqb n (findings_held h)) h _ (eq-eqb n (findings_held h) e))

  pub kept_new : (n ≡ findings_held h → ⊥) → (u v : Bytes) → u ≡ put_bytes h findings_start t → v ≡ put_head_field findings_field u n → v ≡ findings_kept h t n
  unfolding findings_kept findings_written
  kept_new d u v eu ev =
      ev ∙ ap (λ (x : Bytes). put_head_field findings_field x n) eu ∙ sym (cond_false (eqb n (findings_held h)) h _ (ne_eqb n (findings_held h) d))

  pub kept_length : length (findings_kept h t n) ≡ length h
  unfolding findings_kept
  kept_length = cond_cases (λ (u : Bytes). length u ≡ length h) (eqb n (findings_held h)) h (findings_written h t n) (λ _. refl) (λ _. written_length h t n)

-- ---- what they stand for: the findings with those that were noted. As many as before are those of before.

module _ (h : Bytes) (x : History) (s : Represents h x) (t : Bytes) (n : ℕ) (gs : List Finding) where
  none_new : finding_rows t n ≡ noted x.findings gs → n ≡ findings_held h → finding_rows t n ≡ x.findings
  unfolding noted
  none_new e c =
      let many : length (noted x.findings gs) ≡ length x.findings =
      sym (ap length e) ∙ tabulate_length (finding_row t) 0 n ∙ c ∙ sym (tabulate_length (finding_row (findings_part h)) 0 (findings_held h))
      ∙ ap length (findings_stored h x s) in
      e ∙ all_there same_finding x.findings gs many

  pub findings_kept_lem : length t ≡ findings_length → n ≤ finding_limit → every finding_right (finding_rows t n) ≡ true → finding_rows t n ≡ noted x.findings gs
      → Represents (findings_kept h t n) (with_findings x (finding_rows t n))
  unfolding findings_kept findings_written
  findings_kept_lem long few right e =
      cond_cases (λ (u : Bytes). Represents u (with_findings x (finding_rows t n))) (eqb n (findings_held h)) h (findings_written h t n)
      (λ b. subst (λ (fs : List Finding). Represents h (with_findings x fs)) (sym (none_new e (eqb-true n (findings_held h) b))) s)
      (λ _. findings_taken h x s t n long few right)
