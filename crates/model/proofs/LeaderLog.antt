-- Laws of a leader's log: what its tests tell of an older view and a later one, and what keeping a view does to the kept ones.
-- Assumes nothing.
use Prim.Native.Nat.{ℕ}
use mathlib.Core.Path.{◌≡◌, refl, sym, ◌∙◌, ap}
use mathlib.Core.Bool.{Bool, true, false, cond, not, ◌&&◌}
use mathlib.Core.Logic.{◌⊎◌, inl, inr, ⊎_elim, ◌↔◌}
use mathlib.Core.List.Memᴰ
use mathlib.Core.List.{List, [], ◌∷◌, map, Memᴰ}
use mathlib.Core.Option.{Option, some}
use lib.Dec.{leb, ltb, eqb}
use lib.ListN.{length}
use borrow.Author.Tests.{leb-true, ltb-true, lt-ltb, le-leb, eqb-true, eq-eqb, not-true}
use Rattle.std.proofs.Math.Decide.{ℕ_discrete}
use Rattle.model.specs.Entry.{is_in, with}
use Rattle.model.specs.History.{LeaderLog}
use Rattle.model.specs.LeaderLog.{is_of, kept_of, kept_with, judged, extends, rewrites, grows}
use Rattle.model.specs.Leaders.{Leader}
use Rattle.model.specs.AppendOnly.{NodeView, Judged, Rewrites, Grows, kept_for, kept_pair}
use Rattle.model.proofs.Tests.{tf, cond_cases, cond_false, and_left, and_right, and_both, or_cases, or_left, or_right, same_yes, same_no, yes_same, no_same}
use Rattle.model.proofs.Members.{member, with_there, with_fresh}

-- ---- an older view and a later one

module _ (n t : ℕ) (a b : NodeView) where
  abbrev older : LeaderLog
  older = kept_for n t a

  abbrev newer : LeaderLog
  newer = kept_for n t b

  judged_yes : judged older newer ≡ true → Judged a b
  judged_yes e = (leb-true _ _ (and_left _ _ e), leb-true _ _ (and_right (leb a.last (length a.front)) _ e))

  yes_judged : Judged a b → judged older newer ≡ true
  yes_judged j = and_both _ _ (le-leb _ _ j.0) (le-leb _ _ j.1)

  pub rewrites_is : (rewrites older newer ≡ true) ↔ Rewrites a b
  unfolding rewrites extends
  rewrites_is = (
    λ e. ⊎_elim (λ l. inl (ltb-true _ _ l))
        (λ w. inr (judged_yes (and_left _ _ w), same_no _ _ (not-true _ (and_right (judged older newer) _ w))))
        (or_cases (ltb b.last a.last) _ e),
    ⊎_elim (λ l. or_left _ _ (lt-ltb _ _ l))
        (λ w. or_right (ltb b.last a.last) _ (and_both _ _ (yes_judged w.0) (ap not (no_same _ _ w.1)))),
  )

  pub grows_is : (grows older newer ≡ true) ↔ Grows a b
  unfolding grows extends
  grows_is = (
    λ e.
        let w = and_left _ _ e in
        (judged_yes (and_left _ _ w), same_yes _ _ (and_right (judged older newer) _ w), ltb-true _ _ (and_right (judged older newer && extends older newer) _ e)),
    λ g. and_both _ _ (and_both _ _ (yes_judged g.0) (yes_same _ _ g.1)) (lt-ltb _ _ g.2),
  )

-- ---- the kept views, one more

-- leader n of term t
abbrev pub pair : ℕ → ℕ → Leader
pair n t = record { term = t; leader = n }

decided : {a b : Leader} → Dec (a.term ≡ b.term) → Dec (a.leader ≡ b.leader) → Dec (a ≡ b)
decided (yes p) (yes q) = yes (λ i. record { term = p i; leader = q i })
decided (yes p) (no q) = no (λ e. q (ap (λ (x : Leader). x.leader) e))
decided (no p) q = no (λ e. p (ap (λ (x : Leader). x.term) e))

pub same_pair : Discrete Leader
same_pair a b = decided (ℕ_discrete a.term b.term) (ℕ_discrete a.leader b.leader)

is_of_yes : (n t : ℕ) (k : LeaderLog) → is_of n t k ≡ true → kept_pair k ≡ pair n t
is_of_yes n t k e =
    let p = eqb-true k.node n (and_left _ _ e) in
    let q = eqb-true k.term t (and_right (eqb k.node n) _ e) in
    λ i. record { term = q i; leader = p i }

yes_is_of : (n t : ℕ) (k : LeaderLog) → kept_pair k ≡ pair n t → is_of n t k ≡ true
yes_is_of n t k e =
    and_both _ _ (eq-eqb k.node n (ap (λ (p : Leader). p.leader) e)) (eq-eqb k.term t (ap (λ (p : Leader). p.term) e))

-- a view that is kept in the place of its pair's earlier one, or after all others: the pairs are those before, and its own, once
with_after : (ps : List Leader) (p q : Leader) → (p ≡ q → ⊥) → q ∷ with same_pair ps p ≡ with same_pair (q ∷ ps) p
with_after ps p q n =
    ⊎_elim (λ m. ap (λ (l : List Leader). q ∷ l) (with_there same_pair ps p m) ∙ sym (with_there same_pair (q ∷ ps) p (Memᴰ.tail m)))
    (λ m. ap (λ (l : List Leader). q ∷ l) (with_fresh same_pair ps p m)
    ∙ sym (with_fresh same_pair (q ∷ ps) p (λ k. ⊎_elim n m (Memᴰ.cases_cons k))))
    (member same_pair p ps)

pub pairs_with : (ks : List LeaderLog) (v : LeaderLog)
    → map kept_pair (kept_with ks v) ≡ with same_pair (map kept_pair ks) (kept_pair v)
unfolding kept_with with is_in
pairs_with [] v = refl
pairs_with (k ∷ ks) v =
    cond_cases (λ (l : List LeaderLog). map kept_pair l ≡ with same_pair (map kept_pair (k ∷ ks)) (kept_pair v))
    (is_of v.node v.term k) (v ∷ ks) (k ∷ kept_with ks v)
    (λ e.
    let p = is_of_yes v.node v.term k e in
    ap (λ (q : Leader). q ∷ map kept_pair ks) (sym p)
    ∙ sym (with_there same_pair (kept_pair k ∷ map kept_pair ks) (kept_pair v) (Memᴰ.head (sym p))))
    (λ e.
    ap (λ (l : List Leader). kept_pair k ∷ l) (pairs_with ks v)
    ∙ with_after (map kept_pair ks) (kept_pair v) (kept_pair k) (λ p. tf (sym (yes_is_of v.node v.term k (sym p)) ∙ e)))

-- two tests of which not both pass may be asked in either order
cond_swap : {A : Type 0} (a b : Bool) (x y z : A) → (a ≡ true → b ≡ true → ⊥) → cond a x (cond b y z) ≡ cond b y (cond a x z)
cond_swap true true x y z n = absurd (n refl refl)
cond_swap true false x y z n = refl
cond_swap false b x y z n = refl

-- one that passed not need not be asked again
cond_again : {A : Type 0} (a b : Bool) (x y z : A) → b ≡ a → cond a x z ≡ cond a x (cond b y z)
cond_again true b x y z e = refl
cond_again false b x y z e = sym (cond_false b y z e)

-- what is kept for a pair then: the view if it is the pair's, and else what was kept
pub kept_of_with : (ks : List LeaderLog) (v : LeaderLog) (n t : ℕ)
    → kept_of (kept_with ks v) n t ≡ cond (is_of n t v) (some v) (kept_of ks n t)
unfolding kept_of kept_with
kept_of_with [] v n t = refl
kept_of_with (k ∷ ks) v n t =
    cond_cases (λ (l : List LeaderLog). kept_of l n t ≡ cond (is_of n t v) (some v) (cond (is_of n t k) (some k) (kept_of ks n t)))
    (is_of v.node v.term k) (v ∷ ks) (k ∷ kept_with ks v)
    (λ e.
    let p = is_of_yes v.node v.term k e in
    cond_again (is_of n t v) (is_of n t k) (some v) (some k) (kept_of ks n t) (λ i. eqb (p i).leader n && eqb (p i).term t))
    (λ e.
    ap (λ (o : Option LeaderLog). cond (is_of n t k) (some k) o) (kept_of_with ks v n t)
    ∙ cond_swap (is_of n t k) (is_of n t v) (some k) (some v) (kept_of ks n t)
    (λ x y. tf (sym (yes_is_of v.node v.term k (is_of_yes n t k x ∙ sym (is_of_yes n t v y))) ∙ e)))

pub kept_cases : (ks : List LeaderLog) (v k : LeaderLog) → Memᴰ k (kept_with ks v) → (k ≡ v) ⊎ Memᴰ k ks
unfolding kept_with
kept_cases [] v k = λ m. inl (Memᴰ.eq_of_singleton m)
kept_cases (x ∷ ks) v k =
    cond_cases (λ (l : List LeaderLog). Memᴰ k l → (k ≡ v) ⊎ Memᴰ k (x ∷ ks)) (is_of v.node v.term x) (v ∷ ks) (x ∷ kept_with ks v)
    (λ _ m. ⊎_elim (λ e. inl e) (λ j. inr (Memᴰ.tail j)) (Memᴰ.cases_cons m))
    (λ _ m. ⊎_elim (λ e. inr (Memᴰ.head e)) (λ j. ⊎_elim (λ e. inl e) (λ i. inr (Memᴰ.tail i)) (kept_cases ks v k j)) (Memᴰ.cases_cons m))
