-- Demand 3, accepted commit terms: both sides record the same terms, and a place that changed is past every mark that
-- matters.
-- Assumes nothing.
use Prim.Native.Nat.{ℕ, zero, suc, ◌+◌, ◌<◌, ◌≤◌}
use native.Mathlib.Omega.{arith}
use mathlib.Core.Path.{◌≡◌, refl, sym, ◌∙◌, ap, subst}
use mathlib.Core.Bool.{Bool, true, false, cond, ◌&&◌, ◌||◌}
use mathlib.Core.Logic.{◌⊎◌, inl, inr, ⊎_elim}
use mathlib.Core.List.Memᴰ
use mathlib.Core.List.{List, [], ◌∷◌, map, Memᴰ}
use mathlib.Core.Option.{Option, none, some}
use lib.Dec.{leb, ltb, eqb, eqb-suc-zero}
use lib.ListN.{length, get_or, take}
use borrow.Author.Tests.{leb-true, leb-false, ltb-true, lt-ltb}
use Rattle.model.specs.Entry.{Prefix}
use Rattle.model.specs.Record.{terms}
use Rattle.model.specs.History.{Finding, Certificate, History}
use Rattle.model.specs.Check.{lacks}
use Rattle.model.specs.Terms.{lengthened, changes, recorded, first_from, first_changed, lowered, terms_effect}
use Rattle.model.specs.Answer.{effect}
use Rattle.model.specs.Ledger.{Elected, Ledger, entered, open', set_terms, earlier}
use Rattle.model.specs.Statements.{Named}
use Rattle.model.proofs.Tests.{tf, either, cond_cases, cond_true, cond_false, and_right, and_both, and_false}
use Rattle.model.proofs.TermPlaces.{lengthened_at, lengthened_reaches, changes_yes, recorded_at}
use Rattle.model.proofs.CompletenessInvariant.{elected_of, known, leads, LacksAt, Justified, Sound, Owes, Complete, MarksWithin, SameTerms, Invariant, same_elections}

module _ (old new t : ℕ) where
  -- ---- the first changed index

  first_from_lem : (k i : ℕ) (l : List ℕ) → 0 < k → i < length l → changes old new t (k + i) (get_or l i 0) ≡ true
      → (0 < first_from old new t k l) × (first_from old new t k l ≤ k + i)
  unfolding first_from
  first_from_lem k i [] p h e = absurd (omega arith)
  first_from_lem k zero (x ∷ l) p h e =
      cond_cases (λ (z : ℕ). (0 < z) × (z ≤ k + 0)) _ _ _
      (λ _. omega arith)
      (λ n. absurd (let q : k + 0 ≡ k = omega arith in tf (sym e ∙ ap (λ (m : ℕ). changes old new t m x) q ∙ n)))
  first_from_lem k (suc i) (x ∷ l) p h e =
      cond_cases (λ (z : ℕ). (0 < z) × (z ≤ k + suc i)) (changes old new t k x) _ _
      (λ _. omega arith)
      (λ _. let q : k + suc i ≡ k + 1 + i = omega arith in
      let r : (0 < first_from old new t (k + 1) l) × (first_from old new t (k + 1) l ≤ k + 1 + i) =
      first_from_lem (k + 1) i l (omega arith) (omega arith) (sym (ap (λ (m : ℕ). changes old new t m (get_or l i 0)) q) ∙ e) in
      omega arith)

  -- a place that changed is at or past the first changed index
  pub first_changed_lem : (ts : List ℕ) (i : ℕ) → changes old new t (suc i) (get_or ts i 0) ≡ true
      → (0 < first_changed old new t ts) × (first_changed old new t ts ≤ suc i)
  unfolding first_changed
  first_changed_lem ts i e =
      let w : suc i ≤ new = (changes_yes old new t (suc i) (get_or ts i 0) e).within_new in
      let r : new ≤ length (lengthened new ts) = lengthened_reaches new ts in
      let q : 1 + i ≡ suc i = omega arith in
      let f : (0 < first_from old new t 1 (lengthened new ts)) × (first_from old new t 1 (lengthened new ts) ≤ 1 + i) =
      first_from_lem 1 i (lengthened new ts) (omega arith) (omega arith)
      ((λ j. changes old new t (q j) (lengthened_at new ts i j)) ∙ e) in
      omega arith

  -- ---- the same terms

  open_known : (x : ℕ) → open' t (known x) ≡ (eqb x 0 || ltb t x)
  open_known zero = refl
  open_known (suc x) = rw (eqb-suc-zero x)

  -- the two tests
  same_test : (i x : ℕ) → ltb 0 t && ltb old i && leb i new && open' t (known x) ≡ changes old new t i x
  unfolding changes
  same_test i x =
      ap (λ (b : Bool). ltb 0 t && ltb old i && leb i new && b) (open_known x)
      ∙ turn (ltb 0 t) (ltb old i) (leb i new) (eqb x 0 || ltb t x)
    where
      turn : (a b c d : Bool) → a && b && c && d ≡ b && c && a && d
      turn true true true d = refl
      turn true true false d = refl
      turn true false c d = refl
      turn false true true d = refl
      turn false true false d = refl
      turn false false c d = refl

  known_nonzero : 0 < t → some t ≡ known t
  known_nonzero h = go t h
    where
      go : (u : ℕ) → 0 < u → some u ≡ known u
      go zero p = absurd (omega arith)
      go (suc u) p = refl

  set_known : (b : Bool) (x : ℕ) → (b ≡ true → some t ≡ known t) → cond b (some t) (known x) ≡ known (cond b t x)
  set_known true x f = f refl
  set_known false x f = refl

  pub same_terms : (ts : List ℕ) (us : ℕ → Option ℕ) → SameTerms ts us → SameTerms (recorded old new t ts) (set_terms old new t us)
  same_terms ts us s i =
      let x = get_or ts i 0 in
      ap (λ (o : Option ℕ). cond (ltb 0 t && ltb old (suc i) && leb (suc i) new && open' t o) (some t) o) (s i)
      ∙ ap (λ (b : Bool). cond b (some t) (known x)) (same_test (suc i) x)
      ∙ set_known (changes old new t (suc i) x) x (λ e. known_nonzero (changes_yes old new t (suc i) x e).nonzero)
      ∙ ap known (sym (recorded_at old new t ts i))

  -- ---- an election that lacks a committed entry goes on lacking it

  sooner : (s : ℕ) (o : Option ℕ) → open' t o ≡ true → earlier s o ≡ true → earlier s (some t) ≡ true
  sooner s none p e = absurd (tf (sym e))
  sooner s (some u) p e =
      let a : t < u = ltb-true _ _ p in let b : u < s = ltb-true _ _ e in lt-ltb t s (omega arith)

  still_early : (us : ℕ → Option ℕ) (s i : ℕ) → earlier s (us i) ≡ true → earlier s (set_terms old new t us i) ≡ true
  still_early us s i e =
      cond_cases (λ (o : Option ℕ). earlier s o ≡ true) _ _ _
      (λ p. sooner s (us i) (and_right (ltb 0 t && ltb old i && leb i new) _ p) e) (λ _. e)

  sound_terms : (fs : List Finding) (p : Prefix) (us : ℕ → Option ℕ) (es : List Elected) → Sound fs p us es
      → Sound fs p (set_terms old new t us) es
  sound_terms fs p us es s f m e =
      let j : Justified p us es f = s f m e in
      let b : LacksAt p us j.election j.place = j.lacks_committed in
      record {
        election = j.election;
        among = j.among;
        pair = j.pair;
        place = j.place;
        lacks_committed =
            record {
              within = b.within;
              early = still_early us j.election.term (suc j.place) b.early;
              lacking = b.lacking;
            };
      }

  -- ---- marks

  module _ (first : ℕ) (c : Certificate) where
    pub lowered_mark : (lowered t first c).mark ≤ c.mark
    unfolding lowered
    lowered_mark =
        cond_cases (λ (d : Certificate). d.mark ≤ c.mark) _ _ _
        (λ e. let l : first ≤ c.mark = leb-true _ _ (and_right (ltb 0 first && ltb t c.term) _ e) in omega arith)
        (λ _. omega arith)

    -- a certificate with a greater term has its mark below the first changed index
    pub lowered_below : 0 < first → t < c.term → (lowered t first c).mark < first
    unfolding lowered
    lowered_below p l =
        cond_cases (λ (d : Certificate). d.mark < first) _ _ _
        (λ _. omega arith)
        (λ e. leb-false _ _ (other (and_false _ _ e)))
      where
        other : (ltb 0 first && ltb t c.term ≡ false) ⊎ (leb first c.mark ≡ false) → leb first c.mark ≡ false
        other (inl n) = absurd (tf (sym (and_both (ltb 0 first) _ (lt-ltb _ _ p) (lt-ltb _ _ l)) ∙ n))
        other (inr n) = n

    -- only the mark changes
    pub lowered_same : elected_of (lowered t first c) ≡ elected_of c
    unfolding lowered
    lowered_same =
        cond_cases (λ (d : Certificate). elected_of d ≡ elected_of c) (ltb 0 first && ltb t c.term && leb first c.mark)
        _ _ (λ _. refl) (λ _. refl)

  -- ---- what is owed within the mark was owed before

  module _ (p : Prefix) (ts : List ℕ) (c : Certificate) (i : ℕ)
      (l : i < (lowered t (first_changed old new t ts) c).mark)
      (o : Owes p (recorded old new t ts) (lowered t (first_changed old new t ts) c) i) where
    same_term : (lowered t (first_changed old new t ts) c).term ≡ c.term
    same_term = ap (λ (e : Elected). e.term) (lowered_same (first_changed old new t ts) c)

    same_log : (lowered t (first_changed old new t ts) c).log ≡ c.log
    same_log = ap (λ (e : Elected). e.log) (lowered_same (first_changed old new t ts) c)

    not_changed : changes old new t (suc i) (get_or ts i 0) ≡ true → ⊥
    not_changed e =
        let r : get_or (recorded old new t ts) i 0 ≡ t = recorded_at old new t ts i ∙ cond_true _ _ _ e in
        let s : get_or (recorded old new t ts) i 0 < (lowered t (first_changed old new t ts) c).term = o.early in
        let f : (0 < first_changed old new t ts) × (first_changed old new t ts ≤ suc i) = first_changed_lem ts i e in
        let g : t < c.term = omega (arith, same_term) in
        let b : (lowered t (first_changed old new t ts) c).mark < first_changed old new t ts =
        lowered_below (first_changed old new t ts) c f.0 g in
        omega arith

    owed_before : Owes p ts c i
    owed_before =
        ⊎_elim (λ e. absurd (not_changed e))
        (λ e. let r : get_or (recorded old new t ts) i 0 ≡ get_or ts i 0 = recorded_at old new t ts i ∙ cond_false _ _ _ e in
        let n : 0 < get_or (recorded old new t ts) i 0 = o.nonzero in
        let s : get_or (recorded old new t ts) i 0 < (lowered t (first_changed old new t ts) c).term = o.early in
        record {
          nonzero = omega arith;
          early = omega (arith, same_term);
          lacking = subst (λ (q : Option Prefix). lacks q (take (suc i) p) ≡ true) same_log o.lacking;
        })
        (either (changes old new t (suc i) (get_or ts i 0)))

  complete_terms : (fs : List Finding) (p : Prefix) (ts : List ℕ) (cs : List Certificate) → Complete fs p ts cs
      → Complete fs p (recorded old new t ts) (map (lowered t (first_changed old new t ts)) cs)
  complete_terms fs p ts cs k d m i l o =
      let w : (c : Certificate) × Memᴰ c cs × (lowered t (first_changed old new t ts) c ≡ d) =
      Memᴰ.of_map (lowered t (first_changed old new t ts)) cs m in
      let c = w.0 in
      let l' : i < (lowered t (first_changed old new t ts) c).mark = subst (λ (x : Certificate). i < x.mark) (sym w.2) l in
      let o' : Owes p (recorded old new t ts) (lowered t (first_changed old new t ts) c) i =
      subst (λ (x : Certificate). Owes p (recorded old new t ts) x i) (sym w.2) o in
      let b : (lowered t (first_changed old new t ts) c).mark ≤ c.mark = lowered_mark (first_changed old new t ts) c in
      subst (λ (e : Elected). Named fs (leads e))
      (sym (lowered_same (first_changed old new t ts) c) ∙ ap elected_of w.2)
      (k c w.1 i (omega arith) (owed_before p ts c i l' o'))

  marks_terms : (first : ℕ) (p : Prefix) (cs : List Certificate) → MarksWithin p cs → MarksWithin p (map (lowered t first) cs)
  marks_terms first p cs k d m =
      let w : (c : Certificate) × Memᴰ c cs × (lowered t first c ≡ d) = Memᴰ.of_map (lowered t first) cs m in
      let a : w.0.mark ≤ length p = k w.0 w.1 in
      let b : (lowered t first w.0).mark ≤ w.0.mark = lowered_mark first w.0 in
      let e : (lowered t first w.0).mark ≡ d.mark = ap (λ (x : Certificate). x.mark) w.2 in
      omega arith

pub keeps_terms : (h : History) (g : Ledger) (old new t : ℕ) → Invariant h g
    → Invariant (effect h (terms old new t)) (entered g (terms old new t))
unfolding terms_effect
keeps_terms h g old new t v =
    let first = first_changed old new t h.terms in
    record {
      fronts = v.fronts;
      committed = v.committed;
      terms = same_terms old new t h.terms g.terms v.terms;
      elections =
          same_elections (lowered t first) (lowered_same old new t first) h.certificates g.elections v.elections;
      marks = marks_terms old new t first h.committed h.certificates v.marks;
      sound = sound_terms old new t h.findings h.committed g.terms g.elections v.sound;
      complete = complete_terms old new t h.findings h.committed h.terms h.certificates v.complete;
    }
