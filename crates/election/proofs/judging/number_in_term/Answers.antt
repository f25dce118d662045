-- `election::judging::number_in_term` meets its contract: over the table and the count of the history.
-- Assumes nothing.
use Rattle.storage.specs.Tables.{certificate_row}
use Rattle.election.specs.Numbering.{numbering_of}
use Rattle.election.proofs.NumberingTurns.{numbered_so}
use Rattle.std.proofs.Common.{◌∙◌}
use Rattle.election.proofs.judging.number_in_term.Goals as goal

pub returns : goal.returns
returns c =
    let s = c.args in
    numbered_so _ _ _ _ c.place_of-place.ensures _ c.held_of-number.ensures
    ∙ (λ i. numbering_of (certificate_row (c.array-certificates.ensures.is i)) s.term.0 (c.certificate_count-n.ensures.is i))
