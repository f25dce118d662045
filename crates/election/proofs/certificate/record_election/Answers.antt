-- `election::certificate::record_election` meets its contract: each exit is a law of the ways an election goes.
-- Assumes nothing.
use Rattle.answers.proofs.StepLaws.{told}
use Rattle.election.proofs.Turns.{beyond, full, accepted}
use Rattle.election.proofs.certificate.record_election.Goals as goal

pub returns-in_default : goal.returns-in_default
returns-in_default c =
    beyond _ _ _ _ _ _ (rw c.unwrap_or.ensures at c.front_through.ensures) c.in_default.is

pub returns-then-certificate_count-ge-CERTIFICATE_LIMIT : goal.returns-then-certificate_count-ge-CERTIFICATE_LIMIT
returns-then-certificate_count-ge-CERTIFICATE_LIMIT c =
    full _ _ _ _ _ _ (rw c.unwrap_or.ensures at c.front_through.ensures) _ c.in-Some.is _ c.certificate_count.ensures.is c.if-certificate_count-ge-CERTIFICATE_LIMIT.true

pub returns : goal.returns
returns c =
    told _ _ c.with.ensures
    (accepted _ _ _ _ _ _ (rw c.unwrap_or.ensures at c.front_through.ensures) _ c.in-Some.is _ c.certificate_count.ensures.is
    c.if-certificate_count-ge-CERTIFICATE_LIMIT.false _ c.number_in_term-next.ensures
    _ c.new_certificate-c.ensures _ c.add_certificate.ensures)
