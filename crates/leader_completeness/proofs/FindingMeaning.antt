-- The findings that a check notes fit their rows.
-- Assumes nothing.
use Prim.Native.Nat.{ℕ, ◌<◌, ◌≤◌}
use native.Mathlib.Omega.{arith}
use mathlib.Core.Path.{refl, sym, subst}
use mathlib.Core.Bool.{cond}
use mathlib.Core.Logic.{⊎_elim}
use mathlib.Core.List.Memᴰ
use mathlib.Core.List.{List, [], ◌∷◌, Memᴰ}
use lib.Dec.{eqb}
use Rattle.model.specs.History.{Finding, History}
use Rattle.model.specs.Sizes.{Bytes, index_limit, term_end}
use Rattle.model.proofs.Tests.{cond_cases}
use Rattle.storage.specs.Tables.{CertificateRow}
use Rattle.storage.specs.Writes.{FindingFits}
use Rattle.storage.specs.Head.{prefixes_held}
use Rattle.storage.proofs.DecodeLaws.{CertificateNamed, FindingNamed, name_small}
use Rattle.storage.proofs.Meanings.{Represents}
use Rattle.leader_completeness.specs.Relevance.{relevant_in}
use Rattle.leader_completeness.specs.Judgement.{lacks_through, lacking_of, lacking_at, lacking_in, lackings_in}
use Rattle.leader_completeness.proofs.CertificateMeaning.{relevant_within}

-- ---- each finding fits its row

-- in range, and its term is one of 32 bits
abbrev pub Fitting : Finding → Type 0
Fitting g = FindingNamed g × (g.term < term_end)

pub fitting : (g : Finding) → Fitting g → FindingFits g
fitting g f =
    let a = name_small g.name f.0.name in
    let b = f.0.node in
    let c = f.0.index in
    record { name = omega arith; node = omega arith; index = omega arith; term = f.1 }

one_fits : (n : ℕ) (c : CertificateRow) (i : ℕ) → CertificateNamed n c → i ≤ index_limit → Fitting (lacking_of c i)
one_fits n c i s l = (record { name = refl; node = s.leader; index = l }, omega (arith, s.term))

module _ (h : Bytes) (x : History) (s : Represents h x) where
  pub lacking_fits : (c : CertificateRow) → CertificateNamed (prefixes_held h) c → (g : Finding) → Memᴰ g (lacking_in h c) → Fitting g
  unfolding lacking_in lacking_at
  lacking_fits c w g =
      let r = relevant_in h c in
      cond_cases (λ (gs : List Finding). Memᴰ g gs → Fitting g) (eqb r 0) [] (cond (lacks_through h c r) (lacking_of c r ∷ []) [])
      (λ _ m. absurd (Memᴰ.not-nil m))
      (λ _. cond_cases (λ (gs : List Finding). Memᴰ g gs → Fitting g) (lacks_through h c r) (lacking_of c r ∷ []) []
      (λ _ m. subst Fitting (sym (Memᴰ.eq_of_singleton m)) (one_fits (prefixes_held h) c r w (relevant_within h x s c).1))
      (λ _ m. absurd (Memᴰ.not-nil m)))

  pub lackings_fit : (cs : List CertificateRow) → ((c : CertificateRow) → Memᴰ c cs → CertificateNamed (prefixes_held h) c)
      → (g : Finding) → Memᴰ g (lackings_in h cs) → Fitting g
  unfolding lackings_in
  lackings_fit [] f g m = absurd (Memᴰ.not-nil m)
  lackings_fit (c ∷ cs) f g m =
      ⊎_elim (lacking_fits c (f c (Memᴰ.head refl)) g) (lackings_fit cs (λ d n. f d (Memᴰ.tail n)) g)
      (Memᴰ.append_cases (lacking_in h c) m)
