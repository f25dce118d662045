-- Demand 3, where the invariant holds and no mark is before the committed end: the two leader lists are equal.
-- Assumes nothing.
use Prim.Native.Nat.{ℕ, zero, suc, ◌<◌, ◌≤◌}
use native.Mathlib.Omega.{arith}
use mathlib.Core.Path.{◌≡◌, refl, sym, ◌∙◌, ap, subst}
use mathlib.Core.Bool.{true, ◌&&◌}
use mathlib.Core.Logic.{⊎_elim}
use mathlib.Core.List.Memᴰ
use mathlib.Core.List.{List, [], ◌∷◌, Memᴰ}
use mathlib.Core.Option.{Option}
use lib.Dec.{ltb}
use lib.ListN.{length, get_or, take}
use borrow.Author.Tests.{ltb-true, ltb-false}
use Rattle.model.specs.Entry.{Prefix}
use Rattle.model.specs.History.{Certificate, History}
use Rattle.model.specs.Leaders.{Leader}
use Rattle.model.specs.Ledger.{Elected, Ledger, earlier, without, lacks_committed, lacking_leader, lacking_leaders, ledger_leaders}
use Rattle.model.specs.Lists.{leaders_of, leader_list}
use Rattle.model.specs.Statements.{Named}
use Rattle.model.proofs.Tests.{tf, either, cond_cases, cond_true, and_left, and_right, and_both, or_cases, or_left, or_right}
use Rattle.model.proofs.Leaders.{Within, leaders_of_lem, of_leaders, same_ascending}
use Rattle.model.proofs.CompletenessInvariant.{elected_of, known, leads, LacksAt, Justified, Owes, Certified, Invariant, lacks_without}

-- ---- which elections lack a committed entry

module _ (g : Ledger) (e : Elected) where
  -- an election that lacks a committed entry, with its index
  pub record Lacks : Type 0 where
    pub place : ℕ
    pub at : LacksAt g.committed g.terms e place

  lacks_place : (n : ℕ) → n ≤ length g.committed → lacks_committed g e n ≡ true → Lacks
  unfolding lacks_committed
  lacks_place zero l b = absurd (tf (sym b))
  lacks_place (suc i) l b =
      ⊎_elim
      (λ t. record {
        place = i;
        at =
            record {
              within = l;
              early = and_left _ _ t;
              lacking = and_right (earlier e.term (g.terms (suc i))) _ t;
            };
      })
      (λ t. lacks_place i (omega arith) t)
      (or_cases _ _ b)

  place_lacks : (n i : ℕ) → i < n → LacksAt g.committed g.terms e i → lacks_committed g e n ≡ true
  unfolding lacks_committed
  place_lacks zero i l b = absurd (omega arith)
  place_lacks (suc n) i l b =
      let here = earlier e.term (g.terms (suc n)) && without e.log (take (suc n) g.committed) in
      ⊎_elim
      (λ t. or_right here _ (place_lacks n i (ltb-true i n t) b))
      (λ t. let q : i ≡ n = omega (arith, ltb-false i n t) in
      let c : LacksAt g.committed g.terms e n = subst (LacksAt g.committed g.terms e) q b in
      or_left _ _ (and_both _ _ c.early c.lacking))
      (either (ltb i n))

-- a member of the ledger's list is an election that lacks one
pub record LackingAmong (g : Ledger) (es : List Elected) (a : Leader) : Type 0 where
  pub election : Elected
  pub among : Memᴰ election es
  pub pair : a ≡ leads election
  pub lacks_committed : Lacks g election

module _ (g : Ledger) where
  lacking_leader_cases : (e : Elected) (a : Leader) → Memᴰ a (lacking_leader g e) → LackingAmong g (e ∷ []) a
  unfolding lacking_leader
  lacking_leader_cases e a =
      cond_cases (λ (z : List Leader). Memᴰ a z → LackingAmong g (e ∷ []) a) _ _ _
      (λ t m. record {
        election = e;
        among = Memᴰ.head refl;
        pair = Memᴰ.eq_of_singleton m;
        lacks_committed = lacks_place g e (length g.committed) (omega arith) t;
      })
      (λ _ m. absurd (Memᴰ.not-nil m))

  pub lacking_leaders_cases : (es : List Elected) (a : Leader) → Memᴰ a (lacking_leaders g es) → LackingAmong g es a
  unfolding lacking_leaders
  lacking_leaders_cases [] a m = absurd (Memᴰ.not-nil m)
  lacking_leaders_cases (e ∷ es) a m =
      ⊎_elim (λ k. widen (e ∷ []) (λ d n. Memᴰ.head (Memᴰ.eq_of_singleton n)) (lacking_leader_cases e a k))
      (λ k. widen es (λ d n. Memᴰ.tail n) (lacking_leaders_cases es a k))
      (Memᴰ.append_cases (lacking_leader g e) m)
    where
      widen : (ds : List Elected) → ((d : Elected) → Memᴰ d ds → Memᴰ d (e ∷ es)) → LackingAmong g ds a → LackingAmong g (e ∷ es) a
      widen ds k w =
          record { election = w.election; among = k w.election w.among; pair = w.pair; lacks_committed = w.lacks_committed }

  lacking_leader_one : (e : Elected) (i : ℕ) → LacksAt g.committed g.terms e i → Memᴰ (leads e) (lacking_leader g e)
  unfolding lacking_leader
  lacking_leader_one e i b =
      subst (λ (z : List Leader). Memᴰ (leads e) z)
      (sym (cond_true _ _ _ (place_lacks g e (length g.committed) i b.within b)))
      (Memᴰ.head refl)

  pub lacking_leaders_all : (es : List Elected) (e : Elected) (i : ℕ) → Memᴰ e es → LacksAt g.committed g.terms e i
      → Memᴰ (leads e) (lacking_leaders g es)
  unfolding lacking_leaders
  lacking_leaders_all [] e i m b = absurd (Memᴰ.not-nil m)
  lacking_leaders_all (d ∷ es) e i m b =
      ⊎_elim
      (λ q. Memᴰ.append_left (lacking_leaders g es)
      (subst (λ (x : Elected). Memᴰ (leads e) (lacking_leader g x)) q (lacking_leader_one e i b)))
      (λ k. Memᴰ.append_right (lacking_leader g d) (lacking_leaders_all es e i k b))
      (Memᴰ.cases_cons m)

-- ---- each list within the other

module _ (h : History) (g : Ledger) (v : Invariant h g) where
  -- by soundness
  within_ledger : Within (leaders_of h.findings) (lacking_leaders g g.elections)
  within_ledger a m =
      let n : Named h.findings a = leaders_of_lem h.findings a m in
      let j : Justified h.committed g.terms g.elections n.finding = v.sound n.finding n.among n.lg05 in
      let b : LacksAt g.committed g.terms j.election j.place =
      subst (λ (p : Prefix). LacksAt p g.terms j.election j.place) v.committed j.lacks_committed in
      subst (λ (x : Leader). Memᴰ x (lacking_leaders g g.elections)) (j.pair ∙ sym n.pair)
      (lacking_leaders_all g g.elections j.election j.place j.among b)

  -- an early term of the ledger's is a recorded one
  early_recorded : (s x : ℕ) (o : Option ℕ) → o ≡ known x → earlier s o ≡ true → (0 < x) × (x < s)
  early_recorded s zero o q e = absurd (tf (sym (sym (ap (earlier s) q) ∙ e)))
  early_recorded s (suc x) o q e = (omega arith, ltb-true _ _ (sym (ap (earlier s) q) ∙ e))

  owes : (c : Certificate) (i : ℕ) → LacksAt g.committed g.terms (elected_of c) i → Owes h.committed h.terms c i
  owes c i b =
      let r : (0 < get_or h.terms i 0) × (get_or h.terms i 0 < c.term) =
      early_recorded c.term (get_or h.terms i 0) (g.terms (suc i)) (v.terms i) b.early in
      record {
        nonzero = r.0;
        early = r.1;
        lacking =
            lacks_without c.log (take (suc i) h.committed)
            ∙ ap (λ (p : Prefix). without c.log (take (suc i) p)) v.committed
            ∙ b.lacking;
      }

  -- by completeness, where every mark has come to the committed end
  ledger_within : ((c : Certificate) → Memᴰ c h.certificates → length h.committed ≤ c.mark)
      → Within (lacking_leaders g g.elections) (leaders_of h.findings)
  ledger_within reach a m =
      let w : LackingAmong g g.elections a = lacking_leaders_cases g g.elections a m in
      let k : Certified h.certificates w.election = v.elections.certified w.election w.among in
      let i = w.lacks_committed.place in
      let b : LacksAt g.committed g.terms (elected_of k.certificate) i =
      subst (λ (e : Elected). LacksAt g.committed g.terms e i) (sym k.same) w.lacks_committed.at in
      let q : length h.committed ≡ length g.committed = ap length v.committed in
      let r : length h.committed ≤ k.certificate.mark = reach k.certificate k.among in
      let l : i < length g.committed = b.within in
      of_leaders h.findings a
      (subst (λ (x : Leader). Named h.findings x) (ap leads k.same ∙ sym w.pair)
      (v.complete k.certificate k.among i (omega arith) (owes k.certificate i b)))

  pub same_leaders : ((c : Certificate) → Memᴰ c h.certificates → length h.committed ≤ c.mark)
      → leader_list h ≡ ledger_leaders g
  unfolding leader_list ledger_leaders
  same_leaders reach =
      same_ascending (leaders_of h.findings) (lacking_leaders g g.elections) within_ledger (ledger_within reach)
