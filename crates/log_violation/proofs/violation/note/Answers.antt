-- `log_violation::violation::note` meets its contract.
-- Assumes nothing.
use Prim.Native.Nat.{◌+◌}
use mathlib.Core.Path.{sym, subst, ◌∙◌}
use Rattle.storage_rows.specs.Rows.{finding_value}
use Rattle.log_violation.proofs.ViolationLaws.{Noted, note_over, note_again, note_full, note_new}
use Rattle.log_violation.proofs.violation.note.Goals as goal
use Rattle.log_violation.proofs.violation.note.Goals.{then-n-lt-FINDING_LIMIT, else-n-lt-FINDING_LIMIT, then-n-gt-FINDING_LIMIT-via-then-n-gt-FINDING_LIMIT, then-n-gt-FINDING_LIMIT-via-else-n-gt-FINDING_LIMIT+then-is_noted}

pub returns-then-n-gt-FINDING_LIMIT : goal.returns-then-n-gt-FINDING_LIMIT
returns-then-n-gt-FINDING_LIMIT c =
    let s = c.args in
    let t = s.findings.now in
    let f = finding_value s.f in
    elim c.then-n-gt-FINDING_LIMIT.branch [
      | then-n-gt-FINDING_LIMIT-via-then-n-gt-FINDING_LIMIT w ↦ note_over t s.n f w.if-n-gt-FINDING_LIMIT.true
      | then-n-gt-FINDING_LIMIT-via-else-n-gt-FINDING_LIMIT+then-is_noted w ↦ note_again t s.n f w.if-n-gt-FINDING_LIMIT.false _ w.is_noted.ensures w.if-is_noted.true
    ]

pub returns : goal.returns
returns c =
    let s = c.args in
    let t = s.findings.now in
    let f = finding_value s.f in
    let e = c.is_noted.ensures in
    let z = c.if-is_noted.false in
    elim c.if-n-lt-FINDING_LIMIT.branch [
      | then-n-lt-FINDING_LIMIT w ↦ note_new t s.n f c.if-n-gt-FINDING_LIMIT.false _ e z w.if-n-lt-FINDING_LIMIT.true _ (w.findings-is ∙ w.put.ensures)
      | else-n-lt-FINDING_LIMIT w ↦ subst (Noted t s.n f (s.n + 1)) (sym w.findings-is) (note_full t s.n f c.if-n-gt-FINDING_LIMIT.false _ e z w.if-n-lt-FINDING_LIMIT.false)
    ]
