-- `commit_terms::terms::first_replaced` meets its contract. The invariant: the answer is that of the places that are left.
-- Assumes nothing.
use Prim.Native.Nat.{◌+◌}
use Rattle.commit_terms.proofs.TermTurns.{Searching}
use Rattle.storage.specs.Tables.{term_row}
use Rattle.commit_terms.proofs.terms.first_replaced.Given as goal

abbrev pub invariant-loop-i : goal.invariant-loop-i
invariant-loop-i l = Searching (term_row l.terms) l.term.0 l.fn.old.0 l.fn.new.0 (l.i + 1)
