-- `election_certificates::order::place_of` meets its contract. The invariant: the place is that among the rows that are left.
-- Assumes nothing.
use Rattle.election_certificates.proofs.Loops.{place_stop, place_next}
use Prim.Native.Nat.{◌+◌, ◌-◌, ◌≤◌, ◌<◌}
use mathlib.Core.Path.{◌≡◌, ◌∙◌}
use borrow.Author.Rules.{rules}
use native.Mathlib.Omega.{arith}
use Rattle.election_certificates.proofs.order.place_of.Goals as goal

pub returns-then-le : goal.returns-then-le
returns-then-le c =
    let s = c.args in
    let no_later : c.term_at.result.0 ≤ s.term.0 = search rules in
    let some = c.loop-k-test.true in
    (let e : c.loop-k.k - 1 + 1 ≡ c.loop-k.k = omega arith in e)
    ∙ place_stop _ _ _ _ c.loop-k.invariant some _ c.term_at.ensures no_later

pub loop-k-preserved : goal.loop-k-preserved
loop-k-preserved c =
    let s = c.args in
    let later : s.term.0 < c.term_at.result.0 = search rules in
    place_next _ _ _ _ c.loop-k.invariant c.loop-k-test.true _ c.term_at.ensures later
