-- `election_certificates::order::held_of` meets its contract. The invariant: the rows that were met are held, and so are as many as are held
-- of those that are left.
-- Assumes nothing.
use Rattle.storage.specs.Tables.{certificate_row}
use Rattle.election_certificates.specs.Order.{held_before}
use Prim.Native.Nat.{◌+◌, ◌-◌}
use mathlib.Core.Path.{◌≡◌}
use Rattle.election_certificates.proofs.order.held_of.Given as goal

abbrev pub invariant-loop-k : goal.invariant-loop-k
invariant-loop-k l =
    held_before (certificate_row l.certificates) l.fn.term.0 l.fn.place
    ≡ l.fn.place - l.k + held_before (certificate_row l.certificates) l.fn.term.0 l.k
