-- `leader_completeness::relevance::last_relevant` meets its contract. The invariant: the answer is that of the indexes that are left.
-- Assumes nothing.
use Rattle.leader_completeness.proofs.RelevanceLaws.{relevant_next, relevant_found, relevant_none}
use Rattle.storage_rows.proofs.TermSearchLaws.{index_found, index_none}
use Prim.Native.Nat.{◌+◌, ◌-◌}
use mathlib.Core.Path.{◌≡◌, sym, ◌∙◌, ap}
use Rattle.storage.specs.Tables.{term_row}
use native.Mathlib.Omega.{arith}
use Rattle.leader_completeness.proofs.relevance.last_relevant.Goals as goal

pub returns-then-is_earlier : goal.returns-then-is_earlier
returns-then-is_earlier c =
    let l = c.loop-k in
    let s = c.args in
    let earlier = sym c.is_earlier.ensures ∙ c.if-is_earlier.true in
    let place : l.k - 1 + 1 - 1 ≡ l.k - 1 = omega arith in
    let after = c.loop-k-test.true in
    index_found (record { 0 = l.k - 1 + 1 }) _
    ((let e : l.k - 1 + 1 ≡ l.k = omega arith in e)
    ∙ relevant_found _ _ _ _ _ l.invariant after _ (c.term_of.ensures ∙ ap (term_row s.terms.now) place) earlier)
    (λ z. omega arith)

pub loop-k-preserved : goal.loop-k-preserved
loop-k-preserved c =
    let l = c.loop-k in
    let s = c.args in
    let later = sym c.is_earlier.ensures ∙ c.if-is_earlier.false in
    let place : l.k - 1 + 1 - 1 ≡ l.k - 1 = omega arith in
    relevant_next _ _ _ _ _ l.invariant c.loop-k-test.true _ (c.term_of.ensures ∙ ap (term_row s.terms.now) place) later

pub returns : goal.returns
returns c =
    let l = c.loop-k in
    index_none _ (relevant_none _ _ _ _ _ l.invariant c.loop-k-test.false)
