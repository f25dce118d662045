-- The turns of the check: what was judged and written is its step.
-- Assumes nothing.
use Prim.Native.Nat.{ℕ, ◌<◌, ◌≤◌}
use mathlib.Core.Path.{◌≡◌, refl, sym, ◌∙◌, ap, subst}
use mathlib.Core.Bool.{Bool, cond}
use borrow.Author.Tests.{lt-ltb, le-ltb}
use Rattle.model.specs.Sizes.{Bytes, finding_limit}
use Rattle.model.proofs.Tests.{cond_true, cond_false}
use Rattle.storage.specs.Tables.{findings_part, prefixes_part}
use Rattle.log_violation.specs.Violation.{held_all, bytes_all, findings_kept}
use Rattle.storage.specs.Values.{certificates_of, number_index, committed_end}
use Rattle.storage.specs.Head.{committed_number, certificates_held, findings_held}
use Rattle.units.specs.declared.LogPrefixWitness.{LogPrefixWitness}
use Rattle.log_prefix.specs.Prefix.{stored_of}
use Rattle.log_prefix.proofs.StoredLaws.{stored_number, stored_nothing}
use Rattle.leader_completeness.specs.Judgement.{lackings_in, JudgedAll}
use Rattle.leader_completeness.specs.Marks.{marks_moved}
use Rattle.answers.specs.declared.answer.Refusal.{Refusal}
use Rattle.answers.specs.Numbers.{accepted_with}
use Rattle.answers.specs.Step.{Step, Gives, accepting, refusing}
use Rattle.answers.proofs.StepLaws.{ends}
use Rattle.leader_completeness.specs.Check.{check_held, check_table, check_written, judged_step, kept_step, check_step}
use Rattle.std.specs.Prelude.{Option, Some, None, Err}

-- ---- written

module _ (h t : Bytes) (held end : ℕ) where
  pub written_as : (a : Bytes) → a ≡ marks_moved h end 0 (certificates_held h) → (b : Bytes) → b ≡ findings_kept a t held → b ≡ check_written h t held end
  unfolding check_written
  written_as a ea b eb = eb ∙ ap (λ (x : Bytes). findings_kept x t held) ea

-- ---- the committed prefix taken apart

module _ (h : Bytes) (k : Option LogPrefixWitness) (ek : k ≡ stored_of (committed_number h)) where
  pub checked_nothing : k ≡ None → Gives (check_step h) (accepted_with 0) h
  unfolding check_step
  checked_nothing g = ends _ (accepting 0 h) (ap (kept_step h) (sym ek ∙ g))

  module _ (p : LogPrefixWitness) (g : k ≡ Some p) where
    pub number_is : p.0 ≡ committed_number h
    number_is = (stored_number (committed_number h) k ek p g).0

    pub end_read : (q : Bytes) → q ≡ prefixes_part h → (end : ℕ) → end ≡ number_index q p.0 → end ≡ committed_end h
    unfolding committed_end
    end_read q eq end e = e ∙ (λ i. number_index (eq i) (number_is i))

    pub checked_kept : check_step h ≡ judged_step h
    unfolding check_step
    checked_kept = ap (kept_step h) (sym ek ∙ g)

-- what holds in both cases holds of the check
pub check_cases : (h : Bytes) (P : Step → Type 0) → (committed_number h ≡ 0 → P (accepting 0 h)) → P (judged_step h) → P (check_step h)
unfolding check_step
check_cases h P nothing kept = by (stored_of (committed_number h)) refl
  where
    by : (k : Option LogPrefixWitness) → k ≡ stored_of (committed_number h) → P (kept_step h k)
    by None e = nothing (stored_nothing (committed_number h) None e refl)
    by (Some p) e = kept

-- ---- judged on a copy of the findings

module _ (h u : Bytes) (n : ℕ) (b : Bool) (m : ℕ) (t : Bytes) (eu : (n ≡ findings_held h) × (u ≡ findings_part h)) (j : JudgedAll h u n b m t) where
  held_is : m ≡ check_held h
  unfolding check_held
  held_is = j.holds ∙ (λ i. held_all (eu.1 i) (eu.0 i) (lackings_in h (certificates_of h)))

  table_is : t ≡ check_table h
  unfolding check_table
  table_is = j.table ∙ (λ i. bytes_all (eu.1 i) (eu.0 i) (lackings_in h (certificates_of h)))

  pub judged_refused : finding_limit < m → Gives (judged_step h) (Err Refusal.FindingsFull) h
  unfolding judged_step
  judged_refused l =
      ends _ (refusing Refusal.FindingsFull h)
      (cond_true _ _ _ (lt-ltb finding_limit (check_held h) (subst (λ (x : ℕ). finding_limit < x) held_is l)))

  pub judged_accepted : m ≤ finding_limit → (end : ℕ) → end ≡ committed_end h → (h' : Bytes) → h' ≡ check_written h t m end
      → Gives (judged_step h) (accepted_with (cond b 4 0)) h'
  unfolding judged_step
  judged_accepted l end ee h' eh =
      ends _ (accepting (cond b 4 0) h')
      (cond_false _ _ _ (le-ltb finding_limit (check_held h) (subst (λ (x : ℕ). x ≤ finding_limit) held_is l))
      ∙ sym (λ i. accepting (j.flag i) ((eh ∙ (λ k. check_written h (table_is k) (held_is k) (ee k))) i)))
