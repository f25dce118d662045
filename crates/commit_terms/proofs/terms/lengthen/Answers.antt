-- `commit_terms::terms::lengthen` meets its contract: zeros in the lent places are zeros in the whole, then the count.
-- Assumes nothing.
use Prim.Native.Nat.{◌≤◌, ◌<◌}
use borrow.Author.Rules.{rules}
use native.Mathlib.Omega.{arith}
use Rattle.commit_terms.proofs.TermTurns.{places_cleared, lengthen_not, lengthen_so}
use Rattle.commit_terms.proofs.terms.lengthen.Goals as goal

pub returns-then-le : goal.returns-then-le
returns-then-le c =
    let s = c.args in
    let enough : s.new.0 ≤ c.last_recorded-recorded.result.0 = search rules in
    lengthen_not _ _ _ c.last_recorded-recorded.ensures.is enough

pub returns : goal.returns
returns c =
    let r = c.last_recorded-recorded in
    let l : c.last_recorded-recorded.result.0 < c.args.new.0 = search rules in
    let h = c.args.history.now in
    lengthen_so h c.args.new.0 _ r.ensures.is l _
    (places_cleared h _ r.result.0 c.args.new.0 (omega arith) c.requires (omega arith) c.clear.ensures) _ c.set_last_recorded.ensures
