-- `election_certificates::order::place_of` meets its contract. The invariant: the place is that among the rows that are left.
-- Assumes nothing.
use Rattle.storage.specs.Tables.{certificate_row}
use Rattle.election_certificates.specs.Order.{place_from}
use mathlib.Core.Path.{◌≡◌}
use Rattle.election_certificates.proofs.order.place_of.Given as goal

abbrev pub invariant-loop-k : goal.invariant-loop-k
invariant-loop-k l =
    place_from (certificate_row l.certificates) l.fn.term.0 l.fn.n ≡ place_from (certificate_row l.certificates) l.fn.term.0 l.k
