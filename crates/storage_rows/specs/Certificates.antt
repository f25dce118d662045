-- The row that a certificate of the code stands for, and the certificate that a row tells of.
-- Assumes nothing.
use Rattle.std.specs.Prelude.{ℕ, cond, eqb, Option, Some, None, is_some}
use Rattle.units.specs.declared.LogPrefixWitness.{LogPrefixWitness}
use Rattle.storage_rows.specs.declared.certificates.Certificate.{Certificate}
use Rattle.storage_rows.specs.declared.certificates.StoredCertificate.{StoredCertificate}
use Rattle.storage.specs.Tables.{CertificateRow}

abbrev pub stored_value : StoredCertificate → CertificateRow
stored_value x =
    record {
      term = x.term.0;
      log = x.log.0;
      mark = x.mark.0;
      leader = x.leader.0;
      number = x.number;
      present = x.present;
    }

-- the number of a log: 0 where it is absent
abbrev pub log_number : Option LogPrefixWitness → ℕ
log_number None = 0
log_number (Some p) = p.0

abbrev pub certificate_value : Certificate → CertificateRow
certificate_value x =
    record {
      term = x.term.0;
      log = log_number x.log;
      mark = x.mark.0;
      leader = x.leader.0;
      number = x.number;
      present = cond (is_some x.log) 1 0;
    }

-- a row as its certificate has it: an absent log without a number
abbrev pub told_row : CertificateRow → CertificateRow
told_row c =
    record {
      term = c.term;
      log = cond (eqb c.present 0) 0 c.log;
      mark = c.mark;
      leader = c.leader;
      number = c.number;
      present = cond (eqb c.present 0) 0 1;
    }
