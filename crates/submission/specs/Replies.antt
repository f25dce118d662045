-- What any record is answered on the bytes of a history, and the bytes after it: 12 where they break the storage rules, else by
-- the head that reading gives.
-- Assumes nothing.
use Rattle.std.specs.Prelude.{cond, is_some, unwrap_or, Result, Ok, Err}
use Rattle.model.specs.Sizes.{Bytes, prefix_limit}
use Rattle.model.specs.Reading.{read}
use Rattle.record_reading.specs.Heads.{head_of}
use Rattle.record_entries.specs.BitLayout.{rows_at, first_row, view_bits}
use Rattle.storage.specs.Rules.{well_formed}
use Rattle.logical_log.specs.Observation.{view_step}
use Rattle.commit.specs.Prefix.{commit_step}
use Rattle.commit_terms.specs.Terms.{terms_step}
use Rattle.election.specs.Certify.{election_step}
use Rattle.leader_completeness.specs.Check.{check_step}
use Rattle.leader_log.specs.Observation.{leader_step}
use Rattle.invariants.specs.Rules.{rows_answer}
use Rattle.record_reading.specs.declared.head.Head.{Head}
use Rattle.record_bits.specs.declared.bits.Fault.{Fault}
use Rattle.answers.specs.declared.answer.Accepted.{Accepted}
use Rattle.answers.specs.declared.answer.Refusal.{Refusal}
use Rattle.answers.specs.Step.{Step, refusing}

-- by the head of the record
abbrev pub step_to : Bytes → Bytes → Result Head Fault → Step
step_to h s (Ok (Head.View n c)) = view_step prefix_limit h (view_bits s) c n.0
step_to h s (Ok (Head.Commit n i)) = commit_step h n.0 i.0
step_to h s (Ok (Head.Terms x)) = terms_step h x.old.0 x.new.0 x.term.0
step_to h s (Ok (Head.Election x)) = election_step h x.leader.0 x.term.0 (is_some x.length) (unwrap_or x.length 0)
step_to h s (Ok Head.Check) = check_step h
step_to h s (Ok (Head.Rows c)) = record { answer = rows_answer (rows_at s first_row c); bytes = h }
step_to h s (Ok (Head.Leader x)) = leader_step h x.node.0 x.term.0
step_to h s (Err f) = refusing (Refusal.Unreadable f) h

-- of any two byte strings: what `submit` promises
unfoldable pub submit_step : Bytes → Bytes → Step
submit_step h s = cond (well_formed h) (step_to h s (head_of (read s))) (refusing Refusal.StorageBroken h)

abbrev pub submit_answer : Bytes → Bytes → Result Accepted Refusal
submit_answer h s = (submit_step h s).answer

abbrev pub submit_bytes : Bytes → Bytes → Bytes
submit_bytes h s = (submit_step h s).bytes
