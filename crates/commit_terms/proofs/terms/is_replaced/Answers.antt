-- `commit_terms::terms::is_replaced` meets its contract.
-- Assumes nothing.
use mathlib.Core.Path.{◌≡◌, sym, ◌∙◌}
use lib.Dec.{ltb}
use borrow.Author.Rules.{rules}
use borrow.Author.Tests.{eqb-true, eqb-false}
use Rattle.std.proofs.lemmas.Bool.{not-true, not-false}
use Rattle.commit_terms.proofs.TermTurns.{replaced_none, replaced_zero, replaced_greater}
use Rattle.commit_terms.proofs.terms.is_replaced.Goals as goal

pub returns-then-eq : goal.returns-then-eq
returns-then-eq c =
    c.eq.ensures ∙ sym c.if-eq.ensures
    ∙ replaced_zero _ _ (eqb-false _ _ (not-true _ (sym c.if-ne.ensures))) (eqb-true _ _ (sym c.if-eq.ensures))

pub returns-else-eq : goal.returns-else-eq
returns-else-eq c =
    let e : c.lt.result ≡ ltb c.args.term.0 c.args.x.0 = search rules in
    e ∙ replaced_greater _ _ (eqb-false _ _ (not-true _ (sym c.if-ne.ensures))) (eqb-false _ _ (sym c.if-eq.ensures))

pub returns-else-ne : goal.returns-else-ne
returns-else-ne c =
    c.ne.ensures ∙ sym c.if-ne.ensures ∙ replaced_none _ _ (eqb-true _ _ (not-false _ (sym c.if-ne.ensures)))
