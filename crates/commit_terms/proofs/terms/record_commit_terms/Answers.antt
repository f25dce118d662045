-- `commit_terms::terms::record_commit_terms` meets its contract.
-- Assumes nothing.
use Rattle.answers.proofs.StepLaws.{told}
use Rattle.commit_terms.proofs.TermTurns.{record_refused, record_unchanged, record_changed}
use Prim.Native.Nat.{◌≤◌, ◌<◌}
use mathlib.Core.Path.{◌∙◌}
use borrow.Author.Rules.{rules}
use Rattle.commit_terms.proofs.terms.record_commit_terms.Goals as goal
use Rattle.commit_terms.proofs.terms.record_commit_terms.Goals.{in-Some, in_default}

pub returns-then-lt : goal.returns-then-lt
returns-then-lt c =
    let s = c.args in
    let exceeds : s.t.new.0 < s.t.old.0 = search rules in
    record_refused _ _ _ _ exceeds

pub returns : goal.returns
returns c =
    let s = c.args in
    let within : s.t.old.0 ≤ s.t.new.0 = search rules in
    told _ _ c.with.ensures (elim c.match-found.branch [
      | in-Some w ↦
          record_changed _ _ _ _ within _ c.lengthen.ensures _ c.array.ensures.is _ c.first_replaced-found.ensures
          _ w.in-Some.is _ w.replace_terms.ensures _ (w.history-is ∙ w.lower_marks.ensures)
      | in_default w ↦
          record_unchanged _ _ _ _ within _ c.lengthen.ensures _ c.array.ensures.is _ c.first_replaced-found.ensures w.in_default.is _ w.history-is
    ])
