-- A certificate is put behind those of its term and of the terms before it, with the next number of its term: the rows stay
-- numbered, and the history has it where the model has it.
-- Assumes nothing.
use Prim.Native.Nat.{ℕ, suc, ◌+◌, ◌≤◌, ◌<◌}
use native.Mathlib.Nat.{add-zero}
use native.Mathlib.Omega.{arith}
use native.Mathlib.Decide.{ℕ_discrete, dec_lt}
use mathlib.Core.Logic.{◌⊎◌, inl, inr, ⊎_elim}
use mathlib.Core.Path.{◌≡◌, refl, ap, sym, ◌∙◌, subst}
use mathlib.Core.Bool.{Bool, true, false, cond, ◌&&◌}
use mathlib.Core.List.{List, [], ◌∷◌, ◌++◌, map}
use lib.Dec.{ltb, eqb}
use lib.ListN.{length, take, drop}
use borrow.Author.Tests.{ltb-true, lt-ltb, le-ltb, eqb-true, eq-eqb, ne_eqb}
use Rattle.model.specs.Entry.{Prefix}
use Rattle.model.specs.History.{Certificate, History, with_certificates}
use Rattle.model.specs.Election.{held, in_order}
use Rattle.model.specs.Sizes.{Bytes, certificate_limit}
use Rattle.storage.specs.Tables.{CertificateRow, tables_of}
use Rattle.storage.specs.Decode.{certificate_in}
use Rattle.storage.specs.Rules.{follows, numbered_after, numbered}
use Rattle.storage.specs.Writes.{CertificateFits, certificate_added}
use Rattle.storage.specs.Order.{place_of, held_of}
use Rattle.storage.specs.Head.{prefixes_held, certificates_held}
use Rattle.storage_bytes.proofs.ListLaws.{both}
use Rattle.storage.proofs.RuleLaws.{pass}
use Rattle.storage.proofs.DecodeLaws.{CertificateNamed}
use Rattle.storage.proofs.Meanings.{Represents, kept, certificates_is, certificate_inserted_lem}
use Rattle.storage.proofs.WellFormed.{certificates_count}

-- ---- the model's order and count, by rows

pub held_is : (ps : List Prefix) (t : ℕ) (cs : List CertificateRow) → held t (map (certificate_in ps) cs) ≡ held_of t cs
unfolding held held_of
held_is ps t [] = refl
held_is ps t (c ∷ cs) = ap (λ (n : ℕ). n + cond (eqb c.term t) 1 0) (held_is ps t cs)

pub in_order_lem : (ps : List Prefix) (x : CertificateRow) (cs : List CertificateRow)
    → take (place_of x.term cs) (map (certificate_in ps) cs) ++ (certificate_in ps x ∷ drop (place_of x.term cs) (map (certificate_in ps) cs))
    ≡ in_order (certificate_in ps x) (map (certificate_in ps) cs)
unfolding in_order place_of
in_order_lem ps x [] = refl
in_order_lem ps x (c ∷ cs) = go (ltb x.term c.term) (in_order_lem ps x cs)
  where
    l : List Certificate
    l = map (certificate_in ps) cs

    go : (b : Bool)
        → take (place_of x.term cs) (map (certificate_in ps) cs) ++ (certificate_in ps x ∷ drop (place_of x.term cs) (map (certificate_in ps) cs))
        ≡ in_order (certificate_in ps x) (map (certificate_in ps) cs)
        → take (cond b 0 (suc (place_of x.term cs))) (certificate_in ps c ∷ map (certificate_in ps) cs)
        ++ (certificate_in ps x ∷ drop (cond b 0 (suc (place_of x.term cs))) (certificate_in ps c ∷ map (certificate_in ps) cs))
        ≡ cond b (certificate_in ps x ∷ certificate_in ps c ∷ map (certificate_in ps) cs)
        (certificate_in ps c ∷ in_order (certificate_in ps x) (map (certificate_in ps) cs))
    go true ih = refl
    go false ih = ap (λ (q : List Certificate). certificate_in ps c ∷ q) ih

-- ---- the rows stay numbered

place_here : (t : ℕ) (d : CertificateRow) (ds : List CertificateRow) → t < d.term → place_of t (d ∷ ds) ≡ 0
unfolding place_of
place_here t d ds h = ap (λ (b : Bool). cond b 0 (suc (place_of t ds))) (lt-ltb t d.term h)

place_later : (t : ℕ) (d : CertificateRow) (ds : List CertificateRow) → d.term ≤ t → place_of t (d ∷ ds) ≡ suc (place_of t ds)
unfolding place_of
place_later t d ds h = ap (λ (b : Bool). cond b 0 (suc (place_of t ds))) (le-ltb t d.term h)

held_one : (t : ℕ) (d : CertificateRow) (ds : List CertificateRow) → d.term ≡ t → held_of t (d ∷ ds) ≡ held_of t ds + 1
unfolding held_of
held_one t d ds e = ap (λ (b : Bool). held_of t ds + cond {A = ℕ} b 1 0) (eq-eqb d.term t e)

held_other : (t : ℕ) (d : CertificateRow) (ds : List CertificateRow) → (d.term ≡ t → ⊥) → held_of t (d ∷ ds) ≡ held_of t ds
unfolding held_of
held_other t d ds e = ap (λ (b : Bool). held_of t ds + cond {A = ℕ} b 1 0) (ne_eqb d.term t e) ∙ add-zero (held_of t ds)

-- x comes after c with m of its term between them
Next : CertificateRow → CertificateRow → ℕ → Type 0
Next c x m = ((c.term ≡ x.term) × (x.number ≡ c.number + 1 + m)) ⊎ ((c.term < x.term) × (x.number ≡ m))

follows_next : (c d : CertificateRow) → follows c d ≡ true → Next c d 0
unfolding follows Next
follows_next c d e = go (eqb d.term c.term) refl e
  where
    go : (b : Bool) → eqb d.term c.term ≡ b
        → cond b (eqb d.number (c.number + 1)) (ltb c.term d.term && eqb d.number 0) ≡ true
        → ((c.term ≡ d.term) × (d.number ≡ c.number + 1 + 0)) ⊎ ((c.term < d.term) × (d.number ≡ 0))
    go true q f = inl (sym (eqb-true _ _ q), eqb-true _ _ f ∙ sym (add-zero (c.number + 1)))
    go false q f = let p = both (ltb c.term d.term) _ f in inr (ltb-true _ _ p.0, eqb-true _ _ p.1)

next_follows : (c d : CertificateRow) → Next c d 0 → follows c d ≡ true
unfolding follows Next
next_follows c d n =
    ⊎_elim
    (λ (p : (c.term ≡ d.term) × (d.number ≡ c.number + 1 + 0)).
    ap (λ (b : Bool). cond b (eqb d.number (c.number + 1)) (ltb c.term d.term && eqb d.number 0)) (eq-eqb _ _ (sym p.0))
    ∙ eq-eqb _ _ (p.1 ∙ add-zero (c.number + 1)))
    (λ (p : (c.term < d.term) × (d.number ≡ 0)).
    ap (λ (b : Bool). cond b (eqb d.number (c.number + 1)) (ltb c.term d.term && eqb d.number 0)) (ne_eqb d.term c.term (λ q. omega (arith, p.0)))
    ∙ pass _ (lt-ltb _ _ p.0)
    ∙ eq-eqb _ _ p.1)
    n

-- terms rise
rise : (c d : CertificateRow) (m : ℕ) → Next c d m → c.term ≤ d.term
unfolding Next
rise c d m n = ⊎_elim (λ (p : (c.term ≡ d.term) × (d.number ≡ c.number + 1 + m)). omega (arith, p.0)) (λ (p : (c.term < d.term) × (d.number ≡ m)). omega (arith, p.0)) n

-- a row that follows another is of no earlier term
pub follows_rise : (c d : CertificateRow) → follows c d ≡ true → c.term ≤ d.term
follows_rise c d e = rise c d 0 (follows_next c d e)

-- none of an earlier term behind a row
none_held : (t : ℕ) (d : CertificateRow) (ds : List CertificateRow) → numbered_after d ds ≡ true → t < d.term → held_of t (d ∷ ds) ≡ 0
unfolding numbered_after
none_held t d [] e h = held_other t d [] (λ q. omega arith) ∙ (unfold held_of in refl)
none_held t d (f ∷ fs) e h =
    let p = both (follows d f) _ e in
    held_other t d (f ∷ fs) (λ q. omega arith) ∙ none_held t f fs p.1 (omega (arith, rise d f 0 (follows_next d f p.0)))

-- the number after one more row
next_held : (c d x : CertificateRow) (ds : List CertificateRow) → Next c d 0 → d.term ≤ x.term → Next c x (held_of x.term (d ∷ ds)) → Next d x (held_of x.term ds)
unfolding Next
next_held c d x ds n h m =
    elim (ℕ_discrete d.term x.term) [
      | yes e ↦ inl (
        e,
        ⊎_elim
            (λ (p : (c.term ≡ x.term) × (x.number ≡ c.number + 1 + held_of x.term (d ∷ ds))).
            ⊎_elim
            (λ (q : (c.term ≡ d.term) × (d.number ≡ c.number + 1 + 0)). omega (arith, p.1, q.1, held_one x.term d ds e))
            (λ (q : (c.term < d.term) × (d.number ≡ 0)). absurd (omega (arith, p.0, q.0, e)))
            n)
            (λ (p : (c.term < x.term) × (x.number ≡ held_of x.term (d ∷ ds))).
            ⊎_elim
            (λ (q : (c.term ≡ d.term) × (d.number ≡ c.number + 1 + 0)). absurd (omega (arith, p.0, q.0, e)))
            (λ (q : (c.term < d.term) × (d.number ≡ 0)). omega (arith, p.1, q.1, held_one x.term d ds e))
            n)
            m,
      )
      | no e ↦ inr (
        omega arith,
        ⊎_elim
            (λ (p : (c.term ≡ x.term) × (x.number ≡ c.number + 1 + held_of x.term (d ∷ ds))). absurd (omega (arith, p.0, rise c d 0 n)))
            (λ (p : (c.term < x.term) × (x.number ≡ held_of x.term (d ∷ ds))). p.1 ∙ held_other x.term d ds e)
            m,
      )
    ]

-- where a row of an earlier term is put in front of d, d is the first of its term
first_of : (c d x : CertificateRow) (m : ℕ) → Next c d 0 → Next c x m → x.term < d.term → Next x d 0
unfolding Next
first_of c d x m n k h =
    inr (
      h,
      ⊎_elim
          (λ (p : (c.term ≡ d.term) × (d.number ≡ c.number + 1 + 0)). absurd (omega (arith, p.0, rise c x m k)))
          (λ (p : (c.term < d.term) × (d.number ≡ 0)). p.1)
          n,
    )

abbrev put : CertificateRow → ℕ → List CertificateRow → List CertificateRow
put x k cs = take k cs ++ (x ∷ drop k cs)

insert_after : (c x : CertificateRow) (ds : List CertificateRow) → numbered_after c ds ≡ true → Next c x (held_of x.term ds)
    → numbered_after c (put x (place_of x.term ds) ds) ≡ true
unfolding numbered_after held_of place_of
insert_after c x [] e n = ap (λ (b : Bool). b && true) (next_follows c x n)
insert_after c x (d ∷ ds) e n =
    let p = both (follows c d) _ e in
    let cd = follows_next c d p.0 in
    elim (dec_lt x.term d.term) [
      | yes h ↦
          let z : held_of x.term (d ∷ ds) ≡ 0 = none_held x.term d ds p.1 h in
          ap (λ (k : ℕ). numbered_after c (put x k (d ∷ ds))) (place_here x.term d ds h)
          ∙ pass _ (next_follows c x (subst (Next c x) z n))
          ∙ pass _ (next_follows x d (first_of c d x (held_of x.term (d ∷ ds)) cd n h))
          ∙ p.1
      | no h ↦
          ap (λ (k : ℕ). numbered_after c (put x k (d ∷ ds))) (place_later x.term d ds (omega arith))
          ∙ pass _ p.0
          ∙ insert_after d x ds p.1 (next_held c d x ds cd (omega arith) n)
    ]

-- a certificate with the next number of its term, put in its place
pub numbered_insert : (x : CertificateRow) (cs : List CertificateRow) → numbered cs ≡ true → x.number ≡ held_of x.term cs
    → numbered (put x (place_of x.term cs) cs) ≡ true
unfolding numbered held_of place_of Next
numbered_insert x [] e n = ap (λ (b : Bool). b && true) (eq-eqb _ _ n)
numbered_insert x (c ∷ cs) e n =
    let p = both (eqb c.number 0) _ e in
    let z : c.number ≡ 0 = eqb-true _ _ p.0 in
    elim (dec_lt x.term c.term) [
      | yes h ↦
          ap (λ (k : ℕ). numbered (put x k (c ∷ cs))) (place_here x.term c cs h)
          ∙ pass _ (eq-eqb _ _ (n ∙ none_held x.term c cs p.1 h))
          ∙ pass _ (next_follows x c (inr (h, z)))
          ∙ p.1
      | no h ↦
          ap (λ (k : ℕ). numbered (put x k (c ∷ cs))) (place_later x.term c cs (omega arith))
          ∙ pass _ p.0
          ∙ insert_after c x cs p.1
          (elim (ℕ_discrete c.term x.term) [
            | yes q ↦ inl (q, (let m = held_one x.term c cs q in omega arith))
            | no q ↦ inr (omega arith, n ∙ held_other x.term c cs q)
          ])
    ]

-- the place is within the rows
pub place_within : (t : ℕ) (cs : List CertificateRow) → place_of t cs ≤ length cs
unfolding place_of
place_within t [] = omega arith
place_within t (c ∷ cs) = go (ltb t c.term) (place_within t cs)
  where
    go : (b : Bool) → place_of t cs ≤ length cs → cond b 0 (suc (place_of t cs)) ≤ suc (length cs)
    go true h = omega arith
    go false h = omega arith

-- ---- an election in bytes

-- the certificate where the model has it
pub election_written : (h : Bytes) (x : History) (s : Represents h x) (c : CertificateRow) → certificates_held h < certificate_limit → CertificateFits c → CertificateNamed (prefixes_held h) c
    → c.number ≡ held_of c.term (tables_of h).certificates
    → Represents (certificate_added h (place_of c.term (tables_of h).certificates) c) (with_certificates x (in_order (certificate_in x.prefixes c) x.certificates))
election_written h x s c l f g n =
    let cs = (tables_of h).certificates in
    let k = place_of c.term cs in
    let within : k ≤ certificates_held h = omega (arith, place_within c.term cs, certificates_count h) in
    let e = certificates_is h x s in
    let order : take k x.certificates ++ (certificate_in x.prefixes c ∷ drop k x.certificates) ≡ in_order (certificate_in x.prefixes c) x.certificates
    = subst (λ (q : List Certificate). take k q ++ (certificate_in x.prefixes c ∷ drop k q) ≡ in_order (certificate_in x.prefixes c) q) e (in_order_lem x.prefixes c cs) in
    subst (λ (q : List Certificate). Represents (certificate_added h k c) (with_certificates x q)) order
    (certificate_inserted_lem h x s k c within l f g (numbered_insert c cs (kept h x s).numbered n))
