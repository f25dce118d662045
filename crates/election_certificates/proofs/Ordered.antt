-- What the searches find among rows in order of term: the place behind those of no later term, all rows of the term, and whether one
-- of them has a number. The storage rule of the certificates' numbers gives that order.
-- Assumes nothing.
use Prim.Native.Nat.{ℕ, zero, suc, ◌+◌, ◌-◌, ◌≤◌, ◌<◌}
use native.Mathlib.Nat.{not-suc-le-zero}
use native.Mathlib.Decide.{ℕ_discrete, dec_le, dec_lt}
use native.Mathlib.Omega.{arith}
use mathlib.Core.Path.{◌≡◌, refl, subst}
use mathlib.Core.Bool.{Bool, true, false, cond, ◌&&◌}
use lib.Dec.{ltb, eqb}
use borrow.Author.Tests.{eqb-true, ltb-true, lt-ltb, le-ltb, eq-eqb, ne_eqb}
use Rattle.model.proofs.Tests.{cond_true, cond_false}
use Rattle.storage_bytes.specs.Lists.{tabulate}
use Rattle.storage.specs.Tables.{CertificateRow}
use Rattle.storage.specs.Rules.{follows, numbered_after, numbered}
use Rattle.storage.specs.Order.{place_of, held_of}
use Rattle.storage_bytes.proofs.ListLaws.{both}
use Rattle.election_certificates.specs.Order.{place_from, held_before}
use Rattle.election_certificates.proofs.Loops.{place_here, place_back, place_zero, place_within, held_more, held_end, held_within}

-- ---- the order

follows_rise : (c d : CertificateRow) → follows c d ≡ true → c.term ≤ d.term
unfolding follows
follows_rise c d e = go (eqb d.term c.term) refl e
  where
    go : (b : Bool) → eqb d.term c.term ≡ b
        → cond b (eqb d.number (c.number + 1)) (ltb c.term d.term && eqb d.number 0) ≡ true
        → c.term ≤ d.term
    go true q f = let z = eqb-true d.term c.term q in omega arith
    go false q f = let z = ltb-true c.term d.term (both (ltb c.term d.term) _ f).0 in omega arith

module _ (row : ℕ → CertificateRow) where
  -- no row is of a later term than one after it
  pub Ordered : ℕ → Type 0
  Ordered n = (j k : ℕ) → j ≤ k → k < n → (row j).term ≤ (row k).term

  -- the rows behind c are of no earlier term
  after : (c : CertificateRow) (i n : ℕ) → numbered_after c (tabulate row i n) ≡ true → (k : ℕ) → i ≤ k → k < i + n → c.term ≤ (row k).term
  unfolding numbered_after tabulate
  after c i zero e k a b = absurd (omega arith)
  after c i (suc n) e k a b =
      let p = both (follows c (row i)) _ e in
      let r = follows_rise c (row i) p.0 in
      elim (ℕ_discrete i k) [
        | yes q ↦ subst (λ (z : ℕ). c.term ≤ (row z).term) q r
        | no q ↦ let s = after (row i) (i + 1) n p.1 k (omega arith) (omega arith) in omega arith
      ]

  behind : (c : CertificateRow) (i n : ℕ) → numbered_after c (tabulate row i n) ≡ true → (j k : ℕ) → i ≤ j → j ≤ k → k < i + n → (row j).term ≤ (row k).term
  unfolding numbered_after tabulate
  behind c i zero e j k a l b = absurd (omega arith)
  behind c i (suc n) e j k a l b =
      let p = both (follows c (row i)) _ e in
      elim (ℕ_discrete i j) [
        | yes q ↦
            elim (ℕ_discrete j k) [
              | yes z ↦ subst (λ (y : ℕ). (row j).term ≤ (row y).term) z (omega arith)
              | no z ↦ subst (λ (y : ℕ). (row y).term ≤ (row k).term) q (after (row i) (i + 1) n p.1 k (omega arith) (omega arith))
            ]
        | no q ↦ behind (row i) (i + 1) n p.1 j k (omega arith) l (omega arith)
      ]

  -- the storage rule gives the order
  pub numbered_ordered : (n : ℕ) → numbered (tabulate row 0 n) ≡ true → Ordered n
  unfolding numbered numbered_after tabulate Ordered
  numbered_ordered zero e j k l b = absurd (not-suc-le-zero b)
  numbered_ordered (suc n) e j k l b =
      let p = both (eqb (row 0).number 0) _ e in
      elim (ℕ_discrete 0 j) [
        | yes q ↦
            elim (ℕ_discrete j k) [
              | yes z ↦ subst (λ (y : ℕ). (row j).term ≤ (row y).term) z (omega arith)
              | no z ↦ subst (λ (y : ℕ). (row y).term ≤ (row k).term) q (after (row 0) 1 n p.1 k (omega arith) (omega arith))
            ]
        | no q ↦ behind (row 0) 1 n p.1 j k (omega arith) l (omega arith)
      ]

  module _ (t : ℕ) where
    -- ---- what the searches tell of the rows

    -- the rows from the place on are of a later term
    later : (n k : ℕ) → place_from row t n ≤ k → k < n → t < (row k).term
    later zero k a b = absurd (not-suc-le-zero b)
    later (suc n) k a b =
        elim (dec_le (row n).term t) [
          | yes l ↦ absurd (let e = place_here row t n l in omega arith)
          | no l ↦
              elim (ℕ_discrete n k) [
                | yes q ↦ subst (λ (z : ℕ). t < (row z).term) q (omega arith)
                | no q ↦ later n k (let e = place_back row t n (omega arith) in omega arith) (omega arith)
              ]
        ]

    -- those before it are of no later one
    no_later : (n : ℕ) → Ordered n → (k : ℕ) → k < place_from row t n → (row k).term ≤ t
    unfolding Ordered
    no_later zero o k a = absurd (let e = place_zero row t in omega arith)
    no_later (suc n) o k a =
        elim (dec_le (row n).term t) [
          | yes l ↦ let e = place_here row t n l in let r = o k n (omega arith) (omega arith) in omega arith
          | no l ↦ no_later n (λ i j x y. o i j x (omega arith)) k (let e = place_back row t n (omega arith) in omega arith)
        ]

    -- as many as are held right before the place are of the term
    of_term : (p k : ℕ) → p - held_before row t p ≤ k → k < p → (row k).term ≡ t
    of_term zero k a b = absurd (not-suc-le-zero b)
    of_term (suc p) k a b =
        elim (ℕ_discrete (row p).term t) [
          | yes l ↦
              elim (ℕ_discrete p k) [
                | yes q ↦ subst (λ (z : ℕ). (row z).term ≡ t) q l
                | no q ↦ of_term p k (let e = held_more row t p l in omega arith) (omega arith)
              ]
          | no l ↦ absurd (let e = held_end row t p l in omega arith)
        ]

    -- those before them are of an earlier one
    earlier : (p : ℕ) → Ordered p → ((k : ℕ) → k < p → (row k).term ≤ t) → (k : ℕ) → k < p - held_before row t p → (row k).term < t
    unfolding Ordered
    earlier zero o h k a = absurd (omega arith)
    earlier (suc p) o h k a =
        elim (ℕ_discrete (row p).term t) [
          | yes l ↦ earlier p (λ i j x y. o i j x (omega arith)) (λ j x. h j (omega arith)) k (let e = held_more row t p l in omega (arith, held_within row t p))
          | no l ↦ let m = h p (omega arith) in let r = o k p (omega arith) (omega arith) in omega arith
        ]

    -- ---- the rows as a list: earlier terms up to a, the term up to p, later ones up to n

    module _ (a p n : ℕ) (l : a ≤ p) (r : p ≤ n) (low : (k : ℕ) → k < a → (row k).term < t)
        (same : (k : ℕ) → a ≤ k → k < p → (row k).term ≡ t) (high : (k : ℕ) → p ≤ k → k < n → t < (row k).term) where
      upto : (k : ℕ) → k < p → (row k).term ≤ t
      upto k b = elim (dec_lt k a) [ yes q ↦ omega (arith, low k q) | no q ↦ omega (arith, same k (omega arith) b) ]

      other : (k : ℕ) → (k < a → ⊥) → (k < p → ⊥) → k < n → (row k).term ≡ t → ⊥
      other k q z b e = let h = high k (omega arith) b in omega arith

      place_from_lem : (m i : ℕ) → i + m ≡ n → i ≤ p → i + place_of t (tabulate row i m) ≡ p
      unfolding place_of tabulate
      place_from_lem zero i e b = omega arith
      place_from_lem (suc m) i e b =
          elim (dec_lt i p) [
            | yes q ↦
                let z = cond_false (ltb t (row i).term) 0 (suc (place_of t (tabulate row (i + 1) m))) (le-ltb t (row i).term (upto i q)) in
                let s = place_from_lem m (i + 1) (omega arith) (omega arith) in
                omega arith
            | no q ↦
                let z = cond_true (ltb t (row i).term) 0 (suc (place_of t (tabulate row (i + 1) m))) (lt-ltb t (row i).term (high i (omega arith) (omega arith))) in
                omega arith
          ]

      held_from : (m i : ℕ) → i + m ≡ n → held_of t (tabulate row i m) ≡ p - a - (i - a)
      unfolding held_of tabulate
      held_from zero i e = omega arith
      held_from (suc m) i e =
          let s = held_from m (i + 1) (omega arith) in
          elim (dec_lt i a) [
            | yes q ↦
                let z = cond_false {C = ℕ} (eqb (row i).term t) 1 0 (ne_eqb (row i).term t (λ y. omega (arith, low i q))) in
                omega arith
            | no q ↦
                elim (dec_lt i p) [
                  | yes w ↦
                      let z = cond_true {C = ℕ} (eqb (row i).term t) 1 0 (eq-eqb (row i).term t (same i (omega arith) w)) in
                      omega arith
                  | no w ↦
                      let z = cond_false {C = ℕ} (eqb (row i).term t) 1 0 (ne_eqb (row i).term t (other i q w (omega arith))) in
                      omega arith
                ]
          ]

    -- ---- in order of term, the searches give the place and the number of all rows

    module _ (n : ℕ) (o : Ordered n) where
      abbrev place : ℕ
      place = place_from row t n

      abbrev held : ℕ
      held = held_before row t place

      within : place ≤ n
      within = place_within row t n

      room : held ≤ place
      room = held_within row t place

      short : Ordered place
      unfolding Ordered
      short i j x y = o i j x (omega (arith, within))

      low : (k : ℕ) → k < place - held → (row k).term < t
      low k b = earlier place short (no_later n o) k b

      pub place_is : place ≡ place_of t (tabulate row 0 n)
      place_is =
          let e = place_from_lem (place - held) place n (omega arith) within low (of_term place) (later n) n 0 (omega arith) (omega arith) in
          omega arith

      pub held_is : held ≡ held_of t (tabulate row 0 n)
      held_is =
          let e = held_from (place - held) place n (omega arith) within low (of_term place) (later n) n 0 (omega arith) in
          omega (arith, room)
