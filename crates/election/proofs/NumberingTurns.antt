-- How a new certificate is numbered, with what was read.
-- Assumes nothing.
use Prim.Native.Nat.{ℕ, ◌≤◌}
use native.Mathlib.Omega.{arith}
use mathlib.Core.Path.{◌≡◌, ap, ◌∙◌}
use Rattle.model.specs.Sizes.{certificate_limit}
use Rattle.storage.specs.Tables.{CertificateRow}
use Rattle.election_certificates.specs.Order.{place_from, held_before}
use Rattle.election_certificates.proofs.Loops.{place_within}
use Rattle.election.specs.declared.judging.Numbering.{Numbering}
use Rattle.election.specs.Numbering.{numbering_of}

module _ (row : ℕ → CertificateRow) (t n place : ℕ) (ep : place ≡ place_from row t n) where
  pub place_fits : n ≤ certificate_limit → place ≤ certificate_limit
  place_fits h = omega (arith, place_within row t n)

  pub numbered_so : (number : ℕ) → number ≡ held_before row t place → ◌≡◌ {A = Numbering} (record { place = place; number = number }) (numbering_of row t n)
  unfolding numbering_of
  numbered_so number en =
      let e : number ≡ held_before row t (place_from row t n) = en ∙ ap (held_before row t) ep in
      λ i. record { place = ep i; number = e i }

-- the place is among the rows, or behind them
pub next_within : (row : ℕ → CertificateRow) (t n : ℕ) → (numbering_of row t n).place ≤ n
unfolding numbering_of
next_within row t n = place_within row t n
