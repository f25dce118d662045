-- Demand 3, an accepted kind 7 record: to the ledger it is nothing, and what it finds is LG-01.
-- Assumes nothing.
use Prim.Native.Nat.{ℕ}
use native.Mathlib.Omega.{arith}
use Rattle.model.specs.Record.{leader}
use Rattle.model.specs.History.{History}
use Rattle.model.specs.LeaderLog.{kept_of, present, rewritings, leader_findings, leader_effect}
use Rattle.model.specs.Answer.{effect}
use Rattle.model.specs.Ledger.{Ledger, entered}
use Rattle.model.proofs.Matching.{rewritings_name}
use Rattle.model.proofs.CompletenessInvariant.{Invariant, others_noted}

pub keeps_leader : (h : History) (g : Ledger) (n t : ℕ) → Invariant h g
    → Invariant (effect h (leader n t)) (entered g (leader n t))
unfolding leader_effect leader_findings
keeps_leader h g n t v =
    let k = kept_of h.leader_logs n t in
    let noted_too = others_noted h g (rewritings k (present h n t)) (rewritings_name 5 k (present h n t) (λ e. omega arith)) v in
    record {
      fronts = v.fronts;
      committed = v.committed;
      terms = v.terms;
      elections = v.elections;
      marks = v.marks;
      sound = noted_too.0;
      complete = noted_too.1;
    }
