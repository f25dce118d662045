-- `log_violation::violation::Notes::keep` meets its contract.
-- Assumes nothing.
use mathlib.Core.Path.{sym, ◌∙◌}
use Rattle.log_violation.proofs.Kept.{kept_own, kept_new}
use Rattle.log_violation.proofs.violation.Notes.keep.Goals as goal

pub returns-then-self-finding_count : goal.returns-then-self-finding_count
returns-then-self-finding_count c =
    let s = c.args in
    kept_own s.history.now s.self.now.rows s.self.now.held (c.if-self-finding_count.true ∙ c.finding_count.ensures.is)

pub returns : goal.returns
returns c =
    let s = c.args in
    kept_new s.history.now s.self.now.rows s.self.now.held (λ e. c.if-self-finding_count.false (e ∙ sym c.finding_count.ensures.is))
    _ _ c.put_bytes.ensures c.set_finding_count.ensures
