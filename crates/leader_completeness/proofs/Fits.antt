-- What the storage rules say of a row of the certificates' table holds of each certificate among those stored.
-- Assumes nothing.
use Prim.Native.Nat.{ℕ, zero, suc, ◌+◌, ◌<◌}
use native.Mathlib.Omega.{arith}
use mathlib.Core.Path.{◌≡◌, sym, subst}
use mathlib.Core.Bool.{true}
use mathlib.Core.Logic.{⊎_elim}
use mathlib.Core.List.Memᴰ
use mathlib.Core.List.{Memᴰ}
use Rattle.model.specs.Sizes.{Bytes}
use Rattle.storage_bytes.specs.Lists.{tabulate}
use Rattle.storage.specs.Tables.{CertificateRow, certificate_row, certificates_part}
use Rattle.storage.specs.Values.{certificates_of}
use Rattle.storage.specs.Rules.{well_formed}
use Rattle.storage.specs.Head.{prefixes_held, certificates_held}
use Rattle.storage.proofs.DecodeLaws.{CertificateNamed}
use Rattle.storage.proofs.WellFormed.{formed}

-- a member of a table is one of its rows
row_of : {A : Type 0} (f : ℕ → A) (i n : ℕ) (x : A) → Memᴰ x (tabulate f i n) → (k : ℕ) × (k < i + n) × (x ≡ f k)
unfolding tabulate
row_of f i zero x m = absurd (Memᴰ.not-nil m)
row_of f i (suc n) x m =
    ⊎_elim (λ e. (i, omega arith, e))
    (λ t. let r = row_of f (i + 1) n x t in (r.0, (let z = r.1 in omega arith), r.2)) (Memᴰ.cases_cons m)

pub stored : (h : Bytes) → well_formed h ≡ true → (c : CertificateRow) → Memᴰ c (certificates_of h) → CertificateNamed (prefixes_held h) c
stored h w c m =
    let r = row_of (certificate_row (certificates_part h)) 0 (certificates_held h) c m in
    subst (CertificateNamed (prefixes_held h)) (sym r.2) ((formed h w).certificate r.0 (let z = r.1 in omega arith))
