-- `commit_terms::terms::replace_terms` meets its contract. The invariant: replacing the places that are left gives the rest.
-- Assumes nothing.
use Prim.Native.Nat.{◌+◌}
use Rattle.commit_terms.proofs.TermTurns.{Replacing}
use Rattle.commit_terms.proofs.terms.replace_terms.Given as goal

abbrev pub invariant-loop-i : goal.invariant-loop-i
invariant-loop-i l = Replacing l.initial.history l.fn.first.0 l.fn.new.0 l.term.0 l.history (l.i + 1)
