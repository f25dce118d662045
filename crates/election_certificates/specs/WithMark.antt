-- A certificate with its checked mark set.
-- Assumes nothing.
use Rattle.std.specs.Prelude.{ℕ}
use Rattle.storage.specs.Tables.{CertificateRow}

-- a certificate with another mark
abbrev pub marked_row : CertificateRow → ℕ → CertificateRow
marked_row c m =
    record { term = c.term; log = c.log; mark = m; leader = c.leader; number = c.number; present = c.present }
