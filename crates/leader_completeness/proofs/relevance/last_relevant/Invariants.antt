-- `leader_completeness::relevance::last_relevant` meets its contract. The invariant: the answer is that of the indexes that are left.
-- Assumes nothing.
use Rattle.leader_completeness.specs.Relevance.{last_relevant}
use Rattle.storage.specs.Tables.{term_row}
use mathlib.Core.Path.{◌≡◌}
use Rattle.leader_completeness.proofs.relevance.last_relevant.Given as goal

abbrev pub invariant-loop-k : goal.invariant-loop-k
invariant-loop-k l =
    last_relevant (term_row l.terms) l.fn.mark.0 l.fn.term.0 l.fn.end.0 ≡ last_relevant (term_row l.terms) l.fn.mark.0 l.fn.term.0 l.k
