-- The numbering of certificates in the order in which the code tests it. Laws of the loop take what it holds so far first.
-- Assumes nothing.
use Prim.Native.Nat.{ℕ, ◌+◌, ◌-◌, ◌≤◌, ◌<◌}
use native.Mathlib.Omega.{arith}
use mathlib.Core.Path.{◌≡◌, ap, sym, ◌∙◌}
use mathlib.Core.Bool.{Bool, true, false, ◌&&◌}
use lib.Dec.{eqb}
use borrow.Author.Tests.{eq-eqb, ne_eqb}
use Rattle.storage_bytes.specs.Lists.{tabulate}
use Rattle.storage.specs.Tables.{CertificateRow}
use Rattle.storage.specs.Rules.{follows, numbered_after, numbered}
use Rattle.storage_bytes.proofs.ListLaws.{tabulate_cons, tabulate_none}

module _ (f : ℕ → CertificateRow) (n : ℕ) where
  pub numbered_start : (c : CertificateRow) → c ≡ f 0 → 0 < n → c.number ≡ 0
      → numbered (tabulate f 0 n) ≡ numbered_after c (tabulate f 1 (n - 1))
  unfolding numbered
  numbered_start c e h z =
      let q : n ≡ n - 0 = omega arith in
      ap (λ (k : ℕ). numbered (tabulate f 0 k)) q
      ∙ ap numbered (tabulate_cons f 0 n h)
      ∙ (λ i. eqb (sym e i).number 0 && numbered_after (sym e i) (tabulate f 1 (n - 1)))
      ∙ ap (λ (b : Bool). b && numbered_after c (tabulate f 1 (n - 1))) (eq-eqb c.number 0 z)

  pub numbered_first : (c : CertificateRow) → c ≡ f 0 → 0 < n → (c.number ≡ 0 → ⊥) → numbered (tabulate f 0 n) ≡ false
  unfolding numbered
  numbered_first c e h z =
      let q : n ≡ n - 0 = omega arith in
      ap (λ (k : ℕ). numbered (tabulate f 0 k)) q
      ∙ ap numbered (tabulate_cons f 0 n h)
      ∙ (λ i. eqb (sym e i).number 0 && numbered_after (sym e i) (tabulate f 1 (n - 1)))
      ∙ ap (λ (b : Bool). b && numbered_after c (tabulate f 1 (n - 1))) (ne_eqb c.number 0 z)

  pub numbered_no_rows : n ≡ 0 → numbered (tabulate f 0 n) ≡ true
  unfolding numbered tabulate
  numbered_no_rows e = ap (λ (k : ℕ). numbered (tabulate f 0 k)) e

  module _ {b : Bool} (c d : CertificateRow) (k : ℕ) where
    step : b ≡ numbered_after c (tabulate f k (n - k)) → d ≡ f k → k < n
        → b ≡ (follows c d && numbered_after d (tabulate f (k + 1) (n - (k + 1))))
    unfolding numbered_after
    step inv e h =
        inv ∙ ap (numbered_after c) (tabulate_cons f k n h)
        ∙ (λ i. follows c (sym e i) && numbered_after (sym e i) (tabulate f (k + 1) (n - (k + 1))))

    pub numbered_next : b ≡ numbered_after c (tabulate f k (n - k)) → d ≡ f k → k < n → follows c d ≡ true
        → b ≡ numbered_after d (tabulate f (k + 1) (n - (k + 1)))
    numbered_next inv e h t =
        step inv e h ∙ ap (λ (v : Bool). v && numbered_after d (tabulate f (k + 1) (n - (k + 1)))) t

    pub numbered_stop : b ≡ numbered_after c (tabulate f k (n - k)) → d ≡ f k → k < n → follows c d ≡ false → b ≡ false
    numbered_stop inv e h t =
        step inv e h ∙ ap (λ (v : Bool). v && numbered_after d (tabulate f (k + 1) (n - (k + 1)))) t

  pub numbered_none : {b : Bool} (c : CertificateRow) (k : ℕ) → b ≡ numbered_after c (tabulate f k (n - k)) → n ≤ k → b ≡ true
  unfolding numbered_after
  numbered_none c k inv h = inv ∙ ap (numbered_after c) (tabulate_none f k n h)
