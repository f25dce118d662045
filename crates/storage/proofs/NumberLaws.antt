-- What the storage rule on numbers gives: where a term's certificates are numbered 0, 1, .. unbroken, each number is less than how many
-- the term holds. So no certificate of the term has the number that the next one gets.
-- Assumes nothing.
use Prim.Native.Nat.{ℕ, ◌+◌, ◌<◌, ◌≤◌}
use native.Mathlib.Omega.{arith}
use mathlib.Core.Path.{◌≡◌, sym, ◌∙◌, ap}
use mathlib.Core.Bool.{true, cond}
use mathlib.Core.Logic.{⊎_elim}
use mathlib.Core.List.Memᴰ
use mathlib.Core.List.{List, [], ◌∷◌, Memᴰ}
use lib.Dec.{eqb, ltb}
use borrow.Author.Tests.{eqb-true, eqb-false, eq-eqb, ne_eqb}
use Rattle.model.proofs.Tests.{either, cond_true, cond_false, and_left, and_right}
use Rattle.storage.specs.Tables.{CertificateRow}
use Rattle.storage.specs.Rules.{follows, numbered_after, numbered}
use Rattle.storage.specs.Order.{held_of}

-- a certificate counts for a term, or it does not
abbrev counted : ℕ → CertificateRow → ℕ
counted t c = cond (eqb c.term t) 1 0

-- the numbers that those up to c have used up of a term
abbrev used : ℕ → CertificateRow → ℕ
used t c = cond (eqb c.term t) (c.number + 1) 0

module _ (t : ℕ) where
  used_here : (c : CertificateRow) → c.term ≡ t → used t c ≡ c.number + 1
  used_here c e = cond_true (eqb c.term t) (c.number + 1) 0 (eq-eqb c.term t e)

  used_not : (c : CertificateRow) → (c.term ≡ t → ⊥) → used t c ≡ 0
  used_not c e = cond_false (eqb c.term t) (c.number + 1) 0 (ne_eqb c.term t e)

  counted_here : (c : CertificateRow) → c.term ≡ t → counted t c ≡ 1
  counted_here c e = cond_true {C = ℕ} (eqb c.term t) 1 0 (eq-eqb c.term t e)

  -- d right after c uses up one number more, or none
  module _ (c d : CertificateRow) (f : follows c d ≡ true) where
    of_same : d.term ≡ c.term → d.number ≡ c.number + 1
    unfolding follows
    of_same e = eqb-true d.number (c.number + 1) (sym (cond_true (eqb d.term c.term) _ _ (eq-eqb d.term c.term e)) ∙ f)

    of_other : (d.term ≡ c.term → ⊥) → d.number ≡ 0
    unfolding follows
    of_other e =
        eqb-true d.number 0
        (and_right (ltb c.term d.term) (eqb d.number 0) (sym (cond_false (eqb d.term c.term) _ _ (ne_eqb d.term c.term e)) ∙ f))

    used_on : used t d ≤ used t c + counted t d
    used_on =
        ⊎_elim
        (λ b.
        let here = eqb-true d.term t b in
        let one = used_here d here in
        let count = counted_here d here in
        ⊎_elim
        (λ a. let same = eqb-true c.term t a in let n = of_same (here ∙ sym same) in let m = used_here c same in omega arith)
        (λ a. let z = of_other (λ e. eqb-false c.term t a (sym e ∙ here)) in omega arith)
        (either (eqb c.term t)))
        (λ b. let z = used_not d (eqb-false d.term t b) in omega arith)
        (either (eqb d.term t))

  -- those behind c
  below_after : (c : CertificateRow) (ds : List CertificateRow) → numbered_after c ds ≡ true
      → (d : CertificateRow) → Memᴰ d ds → d.term ≡ t → d.number < used t c + held_of t ds
  unfolding numbered_after held_of
  below_after c [] e d m q = absurd (Memᴰ.not-nil m)
  below_after c (x ∷ ds) e d m q =
      let on = used_on c x (and_left (follows c x) _ e) in
      ⊎_elim
      (λ i.
      let s : x.term ≡ t = ap (λ (y : CertificateRow). y.term) (sym i) ∙ q in
      let n : d.number ≡ x.number = ap (λ (y : CertificateRow). y.number) i in
      let u = used_here x s in
      omega arith)
      (λ k. let l = below_after x ds (and_right (follows c x) _ e) d k q in omega arith)
      (Memᴰ.cases_cons m)

  -- each number is less than how many the term holds
  pub number_below : (cs : List CertificateRow) → numbered cs ≡ true → (d : CertificateRow) → Memᴰ d cs → d.term ≡ t → d.number < held_of t cs
  unfolding numbered held_of
  number_below [] e d m q = absurd (Memᴰ.not-nil m)
  number_below (c ∷ cs) e d m q =
      let z = eqb-true c.number 0 (and_left (eqb c.number 0) _ e) in
      let first : used t c ≤ counted t c = ⊎_elim
      (λ b. let h = eqb-true c.term t b in let u = used_here c h in let k = counted_here c h in omega arith)
      (λ b. let u = used_not c (eqb-false c.term t b) in omega arith)
      (either (eqb c.term t)) in
      ⊎_elim
      (λ i.
      let s : c.term ≡ t = ap (λ (y : CertificateRow). y.term) (sym i) ∙ q in
      let n : d.number ≡ c.number = ap (λ (y : CertificateRow). y.number) i in
      let k = counted_here c s in
      omega arith)
      (λ k. let l = below_after c cs (and_right (eqb c.number 0) _ e) d k q in omega arith)
      (Memᴰ.cases_cons m)
