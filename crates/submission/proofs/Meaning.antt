-- What `submit` means: of bytes that stand for a history the answer is the model's, and the bytes after it stand for the model's
-- history after it; other bytes are answered 12. A refused record leaves every byte.
-- Assumes nothing.
use mathlib.Core.Path.{◌≡◌, refl, sym, ◌∙◌, ap, subst}
use mathlib.Core.Bool.{false}
use mathlib.Core.Option.{some}
use mathlib.Core.List.{List}
use Rattle.model.specs.Sizes.{Bytes, prefix_limit}
use Rattle.model.specs.Record.{Row, Record, rows}
use Rattle.model.specs.Rows.{Verdict, verdict}
use Rattle.model.specs.Reading.{Reading, readable, unreadable, read}
use Rattle.model.specs.History.{History}
use Rattle.model.specs.Answer as model
use Rattle.model.specs.Answer.{answer_unless, refusal, answer, after, answer_read, after_read, is_accepted}
use Rattle.model.proofs.Tests.{cond_true, cond_false}
use Rattle.record_bits.specs.declared.bits.Fault.{Fault}
use Rattle.record_reading.specs.declared.head.Head.{Head}
use Rattle.record_bits.specs.Answers.{refusal_of}
use Rattle.record_reading.specs.Heads.{Told, head_of}
use Rattle.record_entries.specs.BitLayout.{rows_at, first_row, view_bits}
use Rattle.record_reading.proofs.Readable.{view_walk}
use Rattle.record_reading.proofs.Faults.{told_always}
use Rattle.storage.specs.Rules.{well_formed}
use Rattle.storage.proofs.Meanings.{Represents}
use Rattle.std.specs.Prelude.{Option as Answered, Some, None, is_some, unwrap_or, Result, Ok, Err}
use Rattle.answers.specs.declared.answer.Refusal.{Refusal}
use Rattle.answers.specs.Numbers.{modelled, node_number}
use Rattle.answers.specs.Step.{Step, refusing}
use Rattle.answers.proofs.Meaning as kinds
use Rattle.invariants.specs.declared.commit_safety.Failure.{Failure}
use Rattle.invariants.specs.Rules.{verdict_for, verdict_of, accepted_for, rows_answer}
use Rattle.invariants.proofs.Pass.{verdict_back}
use Rattle.logical_log.proofs.Meaning.{view_means}
use Rattle.commit.proofs.CommitLaws.{commit_means}
use Rattle.commit_terms.proofs.Meaning.{terms_mean}
use Rattle.election.proofs.Meaning.{election_means}
use Rattle.leader_completeness.proofs.Meaning.{check_means}
use Rattle.leader_log.proofs.Meaning.{leader_means}
use Rattle.submission.specs.Replies.{step_to, submit_step}

-- ---- statement

-- to the byte string s, of bytes h that stand for x, the step t is taken
pub record Means (h : Bytes) (x : History) (s : Bytes) (t : Step) : Type 0 where
  pub answers : modelled t.answer ≡ some (answer x s)
  pub represents : Represents t.bytes (after x s)
  -- a refused record leaves every byte
  pub keeps : is_accepted (answer x s) ≡ false → t.bytes ≡ h

-- ---- of a record that was read

module _ (h : Bytes) (x : History) (st : Represents h x) where
  took : (s : Bytes) (r : Record) (t : Step) → read s ≡ readable r → kinds.Means h x r t → Means h x s t
  unfolding answer after
  took s r t e m =
      record {
        answers = m.answers ∙ ap (λ (d : Reading). some (answer_read x d)) (sym e);
        represents = subst (Represents t.bytes) (ap (after_read x) (sym e)) m.represents;
        keeps = λ p. m.keeps (ap (λ (d : Reading). is_accepted (answer_read x d)) (sym e) ∙ p);
      }

  unread : (s : Bytes) (f : Fault) → read s ≡ unreadable (refusal_of f) → Means h x s (refusing (Refusal.Unreadable f) h)
  unfolding answer after
  unread s f e =
      record {
        answers = ap (λ (d : Reading). some (answer_read x d)) (sym e);
        represents = subst (Represents h) (ap (after_read x) (sym e)) st;
        keeps = λ _. refl;
      }

  -- no row is refused: the code's verdict is the model's
  rows_mean : (rs : List Row) → kinds.Means h x (rows rs) (record { answer = rows_answer rs; bytes = h })
  rows_mean rs =
      kinds.accepts h x (rows rs) (accepted_for (verdict_for (verdict rs))) h refl
      (numbered (verdict_for (verdict rs)) ∙ ap (λ (v : Verdict). model.accepted v.rule v.node) (verdict_back rs)) st
    where
      numbered : (f : Answered Failure) → model.accepted (accepted_for f).value (node_number (accepted_for f).node) ≡ model.accepted (verdict_of f).rule (verdict_of f).node
      numbered None = refl
      numbered (Some f) = refl

  told_means : (s : Bytes) (d : Result Head Fault) → Told s d → Means h x s (step_to h s d)
  told_means s (Ok (Head.View n c)) t =
      took s _ _ t.reading (view_means prefix_limit h x (view_bits s) c n.0 st (view_walk s _ n c t refl) t.within.0)
  told_means s (Ok (Head.Commit n i)) t = took s _ _ t.reading (commit_means h x n.0 i.0 st t.within.0 t.within.1)
  told_means s (Ok (Head.Terms c)) t =
      took s _ _ t.reading (terms_mean h x c.old.0 c.new.0 c.term.0 st t.within.1 t.within.2)
  told_means s (Ok (Head.Election e)) t =
      took s _ _ t.reading
      (election_means h x st e.leader.0 e.term.0 (is_some e.length) (unwrap_or e.length 0) t.within.0 t.within.1)
  told_means s (Ok Head.Check) t = took s _ _ t.reading (check_means h x st)
  told_means s (Ok (Head.Rows c)) t = took s _ _ t.reading (rows_mean (rows_at s first_row c))
  told_means s (Ok (Head.Leader l)) t = took s _ _ t.reading (leader_means h x st l.node.0 l.term.0 t.within.0 t.within.1)
  told_means s (Err w) t = unread s w t.reading

-- of bytes that stand for a history, what `submit` promises is what the model says
pub submit_means : (h : Bytes) (x : History) (s : Bytes) → Represents h x → Means h x s (submit_step h s)
unfolding submit_step
submit_means h x s st =
    subst (Means h x s) (sym (cond_true (well_formed h) _ (refusing Refusal.StorageBroken h) st.right))
    (told_means h x st s (head_of (read s)) (told_always s))

-- of bytes that break the storage rules, it is 12 and every byte as it was
pub submit_broken : (h s : Bytes) → well_formed h ≡ false → submit_step h s ≡ refusing Refusal.StorageBroken h
unfolding submit_step
submit_broken h s e = cond_false (well_formed h) _ _ e
