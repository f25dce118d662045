-- Demand 3, what holds between the history and the ledger after every accepted record.
-- *Sound* and *complete* are the two halves of "the leader list equals the plain ledger's": every LG-05 names an election
-- in the ledger's list, and every certificate that owes an entry within its mark is named by an LG-05.
-- Assumes nothing.
use Prim.Native.Nat.{ℕ, zero, suc, ◌<◌, ◌≤◌}
use mathlib.Core.Path.{◌≡◌, refl, sym, ◌∙◌, ap}
use mathlib.Core.Bool.{true}
use mathlib.Core.Logic.{⊎_elim}
use mathlib.Core.List.Memᴰ
use mathlib.Core.List.{List, map, Memᴰ}
use mathlib.Core.Option.{Option, none, some}
use lib.ListN.{length, get_or, take}
use Rattle.model.specs.Entry.{Prefix}
use Rattle.model.specs.History.{Finding, Certificate, History, fresh, same_finding, noted}
use Rattle.model.specs.Check.{lacks}
use Rattle.model.specs.Leaders.{Leader}
use Rattle.model.specs.Ledger.{Elected, Ledger, empty, earlier, without}
use Rattle.model.specs.Statements.{Named, pair_of}
use Rattle.model.proofs.Members.{all_old, all_new, all_cases}
use Rattle.model.proofs.Matching.{Without}

-- ---- the two sides' words for one thing

-- a certificate as the ledger records it
abbrev pub elected_of : Certificate → Elected
elected_of c = record { leader = c.leader; term = c.term; log = c.log }

-- a recorded term as the ledger has it: a recorded zero is none
abbrev pub known : ℕ → Option ℕ
known zero = none
known (suc t) = some (suc t)

-- the (term, leader) of an election
abbrev pub leads : Elected → Leader
leads e = record { term = e.term; leader = e.leader }

-- ---- what the invariant says

-- place i (index i + 1) of the committed entries p has a commit term below the election's, and its log lacks p through it
pub record LacksAt (p : Prefix) (ts : ℕ → Option ℕ) (e : Elected) (i : ℕ) : Type 0 where
  pub within : i < length p
  pub early : earlier e.term (ts (suc i)) ≡ true
  pub lacking : without e.log (take (suc i) p) ≡ true

-- the finding is about one of the elections, which lacks a committed entry
pub record Justified (p : Prefix) (ts : ℕ → Option ℕ) (es : List Elected) (f : Finding) : Type 0 where
  pub election : Elected
  pub among : Memᴰ election es
  pub pair : leads election ≡ pair_of f
  pub place : ℕ
  pub lacks_committed : LacksAt p ts election place

abbrev pub Sound : List Finding → Prefix → (ℕ → Option ℕ) → List Elected → Type 0
Sound fs p ts es = (f : Finding) → Memᴰ f fs → f.name ≡ 5 → Justified p ts es f

-- place i has a recorded term that is nonzero and below the certificate's, and its log lacks p through it
pub record Owes (p : Prefix) (ts : List ℕ) (c : Certificate) (i : ℕ) : Type 0 where
  pub nonzero : 0 < get_or ts i 0
  pub early : get_or ts i 0 < c.term
  pub lacking : lacks c.log (take (suc i) p) ≡ true

abbrev pub Complete : List Finding → Prefix → List ℕ → List Certificate → Type 0
Complete fs p ts cs =
    (c : Certificate) → Memᴰ c cs → (i : ℕ) → i < c.mark → Owes p ts c i → Named fs (leads (elected_of c))

-- an election has a certificate
pub record Certified (cs : List Certificate) (e : Elected) : Type 0 where
  pub certificate : Certificate
  pub among : Memᴰ certificate cs
  pub same : elected_of certificate ≡ e

-- the certificates are the elections
pub record SameElections (cs : List Certificate) (es : List Elected) : Type 0 where
  pub recorded : (c : Certificate) → Memᴰ c cs → Memᴰ (elected_of c) es
  pub certified : (e : Elected) → Memᴰ e es → Certified cs e

-- no mark is past the committed end
abbrev pub MarksWithin : Prefix → List Certificate → Type 0
MarksWithin p cs = (c : Certificate) → Memᴰ c cs → c.mark ≤ length p

-- the ledger's term of each index is the recorded one
abbrev pub SameTerms : List ℕ → (ℕ → Option ℕ) → Type 0
SameTerms ts us = (i : ℕ) → us (suc i) ≡ known (get_or ts i 0)

pub record Invariant (h : History) (g : Ledger) : Type 0 where
  pub fronts : h.fronts ≡ g.fronts
  pub committed : h.committed ≡ g.committed
  pub terms : SameTerms h.terms g.terms
  pub elections : SameElections h.certificates g.elections
  pub marks : MarksWithin h.committed h.certificates
  pub sound : Sound h.findings h.committed g.terms g.elections
  pub complete : Complete h.findings h.committed h.terms h.certificates

pub at_first : Invariant fresh empty
at_first =
    record {
      fronts = refl;
      committed = refl;
      terms = λ i. refl;
      elections =
          record {
            recorded = λ c m. absurd (Memᴰ.not-nil m);
            certified = λ e m. absurd (Memᴰ.not-nil m);
          };
      marks = λ c m. absurd (Memᴰ.not-nil m);
      sound = λ f m e. absurd (Memᴰ.not-nil m);
      complete = λ c m i l o. absurd (Memᴰ.not-nil m);
    }

-- ---- the two words for "lacks"

pub lacks_without : (o : Option Prefix) (p : Prefix) → lacks o p ≡ without o p
lacks_without none p = refl
lacks_without (some q) p = refl

-- ---- more findings

pub named_noted : (fs gs : List Finding) (a : Leader) → Named fs a → Named (noted fs gs) a
unfolding noted
named_noted fs gs a n =
    record {
      finding = n.finding;
      among = all_old same_finding fs gs n.finding n.among;
      lg05 = n.lg05;
      pair = n.pair;
    }

pub named_new : (fs gs : List Finding) (a : Leader) → Named gs a → Named (noted fs gs) a
unfolding noted
named_new fs gs a n =
    record {
      finding = n.finding;
      among = all_new same_finding fs gs n.finding n.among;
      lg05 = n.lg05;
      pair = n.pair;
    }

pub sound_noted : (fs gs : List Finding) (p : Prefix) (ts : ℕ → Option ℕ) (es : List Elected) → Sound fs p ts es
    → Sound gs p ts es → Sound (noted fs gs) p ts es
unfolding noted
sound_noted fs gs p ts es s t f m e = ⊎_elim (λ k. s f k e) (λ k. t f k e) (all_cases same_finding fs gs f m)

-- where none of them is an LG-05, the findings still say of the ledger what they said
pub others_noted : (h : History) (g : Ledger) (gs : List Finding) → Without 5 gs → Invariant h g
    → Sound (noted h.findings gs) h.committed g.terms g.elections
    × Complete (noted h.findings gs) h.committed h.terms h.certificates
others_noted h g gs n v = (
  sound_noted h.findings gs h.committed g.terms g.elections v.sound (λ f m e. absurd (n f m e)),
  λ c m i l o. named_noted h.findings gs (leads (elected_of c)) (v.complete c m i l o),
)

-- ---- other marks

-- a change of marks is none to the elections
pub same_elections : (f : Certificate → Certificate) → ((c : Certificate) → elected_of (f c) ≡ elected_of c)
    → (cs : List Certificate) (es : List Elected) → SameElections cs es → SameElections (map f cs) es
same_elections f same cs es s =
    record {
      recorded =
          λ c m. let o : (b : Certificate) × Memᴰ b cs × (f b ≡ c) = Memᴰ.of_map f cs m in
          Memᴰ.cast (ap elected_of (sym o.2) ∙ same o.0) (s.recorded o.0 o.1);
      certified =
          λ e m. let k : Certified cs e = s.certified e m in
          record {
            certificate = f k.certificate;
            among = Memᴰ.map f k.among;
            same = same k.certificate ∙ k.same;
          };
    }
