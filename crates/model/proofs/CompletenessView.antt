-- Demand 3, an accepted view: both sides take its front, and what it finds is LG-03.
-- Assumes nothing.
use Prim.Native.Nat.{ℕ}
use native.Mathlib.Omega.{arith}
use mathlib.Core.Path.{ap}
use mathlib.Core.List.{List}
use lib.ListN.{set}
use Rattle.model.specs.Entry.{Prefix}
use Rattle.model.specs.Record.{Shown, view, front}
use Rattle.model.specs.History.{History}
use Rattle.model.specs.View.{prefixes_of, mismatches, view_findings, view_effect}
use Rattle.model.specs.Answer.{effect}
use Rattle.model.specs.Ledger.{Ledger, entered}
use Rattle.model.proofs.Matching.{mismatches_name}
use Rattle.model.proofs.CompletenessInvariant.{Invariant, others_noted}

pub keeps_view : (h : History) (g : Ledger) (n : ℕ) (es : List Shown) → Invariant h g
    → Invariant (effect h (view n es)) (entered g (view n es))
unfolding view_effect view_findings
keeps_view h g n es v =
    let ms = mismatches h.prefixes n (prefixes_of (front es)) in
    let noted_too = others_noted h g ms (mismatches_name 5 n h.prefixes (prefixes_of (front es)) (λ e. omega arith)) v in
    record {
      fronts = ap (λ (l : List Prefix). set l n (front es)) v.fronts;
      committed = v.committed;
      terms = v.terms;
      elections = v.elections;
      marks = v.marks;
      sound = noted_too.0;
      complete = noted_too.1;
    }
