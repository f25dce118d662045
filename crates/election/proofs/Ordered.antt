-- Where the certificates are numbered as the storage rule has them, a new one's place and number are those of all rows.
-- Assumes nothing.
use Prim.Native.Nat.{ℕ}
use mathlib.Core.Path.{◌≡◌}
use mathlib.Core.Bool.{true}
use mathlib.Core.List.{List}
use Rattle.storage_bytes.specs.Lists.{tabulate}
use Rattle.storage.specs.Tables.{CertificateRow}
use Rattle.storage.specs.Rules.{numbered}
use Rattle.storage.specs.Order.{place_of, held_of}
use Rattle.election_certificates.proofs.Ordered.{numbered_ordered, place_is, held_is}
use Rattle.election.specs.Numbering.{numbering_of}

module _ (row : ℕ → CertificateRow) (t n : ℕ) (e : numbered (tabulate row 0 n) ≡ true) where
  abbrev rows : List CertificateRow
  rows = tabulate row 0 n

  pub numbering_is : numbering_of row t n ≡ record { place = place_of t rows; number = held_of t rows }
  unfolding numbering_of
  numbering_is =
      let o = numbered_ordered row n e in
      λ i. record { place = place_is row t n o i; number = held_is row t n o i }
