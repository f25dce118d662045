-- `log_prefix::lookup::matches_extension` meets its contract.
-- Assumes nothing.
use mathlib.Core.Path.{sym, ◌∙◌}
use native.Mathlib.Omega.{arith}
use Rattle.log_prefix.proofs.Loops.{are_same, are_other, match_parent, match_term, match_mark, match_size, match_content}
use Rattle.log_prefix.proofs.lookup.matches_extension.Goals as goal

pub returns-then-ne : goal.returns-then-ne
returns-then-ne c =
    match_parent _ _ _ _ _ _ _ _ 0 0 0
    c.parent_at.ensures.is (are_other c.if-ne.ensures)

pub returns-then-ne-2 : goal.returns-then-ne-2
returns-then-ne-2 c =
    match_term _ _ _ _ _ _ _ _ _ 0 0
    c.parent_at.ensures.is (are_same c.if-ne.ensures) c.term_at.ensures (are_other c.if-ne-2.ensures)

pub returns-then-mark_at-mark : goal.returns-then-mark_at-mark
returns-then-mark_at-mark c =
    match_mark _ _ _ _ _ _ _ _ _ _ 0
    c.parent_at.ensures.is (are_same c.if-ne.ensures) c.term_at.ensures (are_same c.if-ne-2.ensures)
    c.mark_at.ensures.is (λ q. c.if-mark_at-mark.true (q ∙ sym c.mark.ensures))

pub returns-then-size_at-e : goal.returns-then-size_at-e
returns-then-size_at-e c =
    match_size _ _ _ _ _ _ _ _ _ _ _
    c.parent_at.ensures.is (are_same c.if-ne.ensures) c.term_at.ensures (are_same c.if-ne-2.ensures)
    c.mark_at.ensures.is (c.if-mark_at-mark.false ∙ c.mark.ensures) c.size_at.ensures.is c.if-size_at-e.true

pub returns : goal.returns
returns c =
    match_content _ _ _ _ _ _ _ _ _ _ _
    c.parent_at.ensures.is (are_same c.if-ne.ensures) c.term_at.ensures (are_same c.if-ne-2.ensures)
    c.mark_at.ensures.is (c.if-mark_at-mark.false ∙ c.mark.ensures) c.size_at.ensures.is c.if-size_at-e.false (omega arith) _ (rw (c.content_at.ensures, c.content.ensures) at c.eq.ensures)
