-- `storage_rules::certificates::numbered` meets its contract. The invariant: the answer is that of the rows that are left, after the last one passed.
-- Assumes nothing.
use Rattle.storage_rows.specs.Certificates.{stored_value}
use Rattle.storage.specs.Rules.{numbered, numbered_after}
use Rattle.storage.specs.Tables.{certificate_row, rows_of_certificates}
use Rattle.storage_bytes.specs.Lists.{tabulate}
use Prim.Native.Nat.{◌-◌}
use mathlib.Core.Path.{◌≡◌}
use Rattle.storage_rules.proofs.certificates.numbered.Given as goal

abbrev pub invariant-loop-k : goal.invariant-loop-k
invariant-loop-k l =
    numbered (rows_of_certificates l.certificates l.m) ≡ numbered_after (stored_value l.c) (tabulate (certificate_row l.certificates) l.k (l.m - l.k))
