-- The place and the number of a new certificate, on the bytes of a history.
-- Assumes nothing.
use Rattle.std.specs.Prelude.{ℕ}
use Rattle.model.specs.Sizes.{Bytes}
use Rattle.storage.specs.Tables.{CertificateRow, certificate_row, certificates_part}
use Rattle.storage.specs.Head.{certificates_held}
use Rattle.election.specs.declared.judging.Numbering.{Numbering}
use Rattle.election_certificates.specs.Order.{place_from, held_before}

-- the place and the number of a new certificate of term t behind n rows
unfoldable pub numbering_of : (ℕ → CertificateRow) → ℕ → ℕ → Numbering
unfolding place_from held_before
numbering_of row t n =
    let place = place_from row t n in
    record { place = place; number = held_before row t place }

-- the same in the bytes of a history
abbrev pub numbering_in : Bytes → ℕ → Numbering
numbering_in h t = numbering_of (certificate_row (certificates_part h)) t (certificates_held h)
