-- Demand 3, an accepted election: the history keeps as a certificate what the ledger adds, with nothing checked yet.
-- Assumes nothing.
use Prim.Native.Nat.{ℕ}
use native.Mathlib.Omega.{arith}
use mathlib.Core.Path.{◌≡◌, refl, sym, ◌∙◌, ap}
use mathlib.Core.Bool.{Bool, true, false}
use mathlib.Core.Logic.{◌⊎◌, inl, inr, ⊎_elim}
use mathlib.Core.List.Memᴰ
use mathlib.Core.List.{List, [], ◌∷◌, ◌++◌, Memᴰ}
use mathlib.Core.Option.{Option}
use lib.Dec.{ltb}
use lib.ListN.{get_or}
use Rattle.model.specs.Entry.{Prefix}
use Rattle.model.specs.Record.{election}
use Rattle.model.specs.History.{Finding, Certificate, History, front_of}
use Rattle.model.specs.Election.{log_of, in_order, certificate, election_effect}
use Rattle.model.specs.Answer.{effect}
use Rattle.model.specs.Ledger.{Elected, Ledger, entered, first_of}
use Rattle.model.proofs.Tests.{cond_cases}
use Rattle.model.proofs.CompletenessInvariant.{elected_of, Justified, Sound, Complete, Certified, SameElections, MarksWithin, Invariant}

-- ---- kept in order

pub order_cases : (c : Certificate) (ds : List Certificate) (x : Certificate) → Memᴰ x (in_order c ds) → (x ≡ c) ⊎ Memᴰ x ds
unfolding in_order
order_cases c [] x = λ m. inl (Memᴰ.eq_of_singleton m)
order_cases c (d ∷ ds) x =
    cond_cases (λ (z : List Certificate). Memᴰ x z → (x ≡ c) ⊎ Memᴰ x (d ∷ ds)) (ltb c.term d.term) _ _
    (λ _ m. Memᴰ.cases_cons m)
    (λ _ m. ⊎_elim (λ e. inr (Memᴰ.head e)) (λ k. ⊎_elim (λ e. inl e) (λ j. inr (Memᴰ.tail j)) (order_cases c ds x k))
    (Memᴰ.cases_cons m))

pub order_new : (c : Certificate) (ds : List Certificate) → Memᴰ c (in_order c ds)
unfolding in_order
order_new c [] = Memᴰ.head refl
order_new c (d ∷ ds) =
    cond_cases (λ (z : List Certificate). Memᴰ c z) (ltb c.term d.term) _ _
    (λ _. Memᴰ.head refl) (λ _. Memᴰ.tail (order_new c ds))

pub order_old : (c : Certificate) (ds : List Certificate) (x : Certificate) → Memᴰ x ds → Memᴰ x (in_order c ds)
unfolding in_order
order_old c [] x m = absurd (Memᴰ.not-nil m)
order_old c (d ∷ ds) x m =
    cond_cases (λ (z : List Certificate). Memᴰ x z) (ltb c.term d.term) _ _
    (λ _. Memᴰ.tail m)
    (λ _. ⊎_elim (λ e. Memᴰ.head e) (λ k. Memᴰ.tail (order_old c ds x k)) (Memᴰ.cases_cons m))

-- ---- one more certificate, which is one more election

module _ (c : Certificate) (e : Elected) (same : elected_of c ≡ e) (unchecked : c.mark ≡ 0) where
  elections_added : (cs : List Certificate) (es : List Elected) → SameElections cs es
      → SameElections (in_order c cs) (es ++ (e ∷ []))
  elections_added cs es s =
      record {
        recorded =
            λ d m. ⊎_elim
            (λ q. Memᴰ.append_right es (Memᴰ.head (ap elected_of q ∙ same)))
            (λ k. Memᴰ.append_left (e ∷ []) (s.recorded d k))
            (order_cases c cs d m);
        certified =
            λ f m. ⊎_elim
            (λ k. let w : Certified cs f = s.certified f k in
            record { certificate = w.certificate; among = order_old c cs w.certificate w.among; same = w.same })
            (λ k. record { certificate = c; among = order_new c cs; same = same ∙ sym (Memᴰ.eq_of_singleton k) })
            (Memᴰ.append_cases es m);
      }

  marks_added : (p : Prefix) (cs : List Certificate) → MarksWithin p cs → MarksWithin p (in_order c cs)
  marks_added p cs w d m =
      ⊎_elim (λ q. let z : d.mark ≡ c.mark = ap (λ (x : Certificate). x.mark) q in omega arith) (λ k. w d k)
      (order_cases c cs d m)

  complete_added : (fs : List Finding) (p : Prefix) (ts : List ℕ) (cs : List Certificate) → Complete fs p ts cs
      → Complete fs p ts (in_order c cs)
  complete_added fs p ts cs k d m i l o =
      ⊎_elim (λ q. absurd (let z : d.mark ≡ c.mark = ap (λ (x : Certificate). x.mark) q in omega arith))
      (λ j. k d j i l o)
      (order_cases c cs d m)

  sound_added : (fs : List Finding) (p : Prefix) (ts : ℕ → Option ℕ) (es : List Elected) → Sound fs p ts es
      → Sound fs p ts (es ++ (e ∷ []))
  sound_added fs p ts es s f m n =
      let j : Justified p ts es f = s f m n in
      record {
        election = j.election;
        among = Memᴰ.append_left (e ∷ []) j.among;
        pair = j.pair;
        place = j.place;
        lacks_committed = j.lacks_committed;
      }

-- ---- the same log

log_first : (b : Bool) (n : ℕ) (p q : Prefix) → p ≡ q → log_of b n p ≡ first_of b n q
log_first true n p q e = ap (log_of true n) e
log_first false n p q e = refl

certificate_elected : (h : History) (g : Ledger) (l t : ℕ) (b : Bool) (n : ℕ) → h.fronts ≡ g.fronts
    → elected_of (certificate h l t b n) ≡ record { leader = l; term = t; log = first_of b n (get_or g.fronts l []) }
unfolding certificate
certificate_elected h g l t b n e =
    let q : log_of b n (front_of h l) ≡ first_of b n (get_or g.fronts l []) =
    log_first b n (front_of h l) (get_or g.fronts l []) (ap (λ (x : List Prefix). get_or x l []) e) in
    λ i. record { leader = l; term = t; log = q i }

certificate_unchecked : (h : History) (l t : ℕ) (b : Bool) (n : ℕ) → (certificate h l t b n).mark ≡ 0
unfolding certificate
certificate_unchecked h l t b n = refl

pub keeps_election : (h : History) (g : Ledger) (l t : ℕ) (b : Bool) (n : ℕ) → Invariant h g
    → Invariant (effect h (election l t b n)) (entered g (election l t b n))
unfolding election_effect
keeps_election h g l t b n v =
    let c = certificate h l t b n in
    let e : Elected = record { leader = l; term = t; log = first_of b n (get_or g.fronts l []) } in
    let same : elected_of c ≡ e = certificate_elected h g l t b n v.fronts in
    let unchecked : c.mark ≡ 0 = certificate_unchecked h l t b n in
    record {
      fronts = v.fronts;
      committed = v.committed;
      terms = v.terms;
      elections = elections_added c e same unchecked h.certificates g.elections v.elections;
      marks = marks_added c e same unchecked h.committed h.certificates v.marks;
      sound = sound_added c e same unchecked h.findings h.committed g.terms g.elections v.sound;
      complete = complete_added c e same unchecked h.findings h.committed h.terms h.certificates v.complete;
    }
