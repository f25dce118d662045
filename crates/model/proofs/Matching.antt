-- Log Matching, as in the Raft paper: if two logs contain an entry with the same index and term, then the logs are identical
-- in all entries up through that index. From fresh, the LG-03 list has an index and term exactly if two accepted fronts do not
-- match there (`which_pairs`), so it is empty exactly if the accepted views match.
-- Assumes nothing.
use Prim.Native.Nat.{ℕ, zero, suc, ◌<◌, ◌≤◌, min}
use native.Mathlib.Omega.{arith}
use mathlib.Core.Path.{◌≡◌, refl, sym, ◌∙◌, ap, subst}
use mathlib.Core.Bool.{Bool, true, false, cond, ◌&&◌}
use mathlib.Core.Logic.{◌⊎◌, inl, inr, ⊎_elim, ◌↔◌}
use mathlib.Core.List.Memᴰ
use mathlib.Core.List.{List, [], ◌∷◌, ◌++◌, Memᴰ}
use mathlib.Core.Option.{Option, none, some}
use lib.Dec.{ltb, eqb}
use lib.ListN.{length, take}
use lib.Seq.{length-take-le}
use borrow.Author.Tests.{eqb-true, eq-eqb}
use Rattle.model.specs.Sizes.{Bytes}
use Rattle.model.specs.Entry.{Prefix, same, agree, last_term}
use Rattle.model.specs.Record.{Shown, Record, view, commit, terms, election, check, rows, leader, front}
use Rattle.model.specs.History.{Finding, Certificate, LeaderLog, History}
use Rattle.model.specs.View.{prefixes_of, remembered, differing, mismatch, mismatches, stored, view_effect}
use Rattle.model.specs.Commit.{seen, differences, commit_effect}
use Rattle.model.specs.Terms.{terms_effect}
use Rattle.model.specs.Election.{election_effect}
use Rattle.model.specs.Check.{relevant, lacks, lacking, lackings, check_effect}
use Rattle.model.specs.LeaderLog.{kept_of, present, rewrites, rewritings, leader_effect}
use Rattle.model.specs.Answer.{effect}
use Rattle.model.specs.Lists.{before, insert, ordered, finding_list}
use Rattle.model.specs.Run.{history_of}
use Rattle.model.specs.Statements.{accepted_fronts, PrefixOf, brought_by, NoFinding, term_at, Matching, LogMatching, Tells, Clashing, WhichPairs, EachEntryJudged}
use Rattle.model.proofs.Tests.{tf, either, cond_cases, cond_true, cond_false, and_left, and_right, and_both, same_yes, same_no, no_same}
use Rattle.model.proofs.Run.{by_events}
use Rattle.model.proofs.Stored.{stored_exactly, stored_mem, begun_prefix, findings_after}

-- ---- the printed findings are the findings

insert_mem : (f : Finding) (fs : List Finding) (g : Finding) → Memᴰ g (insert f fs) ↔ ((g ≡ f) ⊎ Memᴰ g fs)
unfolding insert
insert_mem f [] g = (λ m. Memᴰ.cases_cons m, ⊎_elim (λ e. Memᴰ.head e) (λ m. Memᴰ.tail m))
insert_mem f (x ∷ fs) g = (
  cond_cases (λ (l : List Finding). Memᴰ g l → (g ≡ f) ⊎ Memᴰ g (x ∷ fs)) (before f x) (f ∷ x ∷ fs) (x ∷ insert f fs) (λ _ m. Memᴰ.cases_cons m)
      (λ _ m. ⊎_elim (λ e. inr (Memᴰ.head e)) (λ k. ⊎_elim (λ e. inl e) (λ j. inr (Memᴰ.tail j)) ((insert_mem f fs g).0 k))
      (Memᴰ.cases_cons m)),
  λ c. cond_cases (λ (l : List Finding). Memᴰ g l) (before f x) (f ∷ x ∷ fs) (x ∷ insert f fs) (λ _. ⊎_elim (λ e. Memᴰ.head e) (λ m. Memᴰ.tail m) c)
      (λ _. ⊎_elim (λ e. Memᴰ.tail ((insert_mem f fs g).1 (inl e)))
      (λ m. ⊎_elim (λ e. Memᴰ.head e) (λ k. Memᴰ.tail ((insert_mem f fs g).1 (inr k))) (Memᴰ.cases_cons m)) c),
)

ordered_mem : (fs : List Finding) (g : Finding) → Memᴰ g (ordered fs) ↔ Memᴰ g fs
unfolding ordered
ordered_mem [] g = (λ m. m, λ m. m)
ordered_mem (f ∷ fs) g = (
  λ m. ⊎_elim (λ e. Memᴰ.head e) (λ k. Memᴰ.tail ((ordered_mem fs g).0 k)) ((insert_mem f (ordered fs) g).0 m),
  λ m. (insert_mem f (ordered fs) g).1 (⊎_elim (λ e. inl e) (λ k. inr ((ordered_mem fs g).1 k)) (Memᴰ.cases_cons m)),
)

pub printed : (h : History) (f : Finding) → Memᴰ f (finding_list h) ↔ Memᴰ f h.findings
unfolding finding_list
printed h f = ordered_mem h.findings f

-- ---- the walk goes on: each prefix of the view is judged, and no other. What follows rests on this law, not on how the walk is defined

mismatches_mem : (ps : List Prefix) (n : ℕ) (qs : List Prefix) (f : Finding)
    → Memᴰ f (mismatches ps n qs) ↔ ((q : Prefix) × Memᴰ q qs × Memᴰ f (mismatch ps n q))
unfolding mismatches
mismatches_mem ps n [] f = (λ m. absurd (Memᴰ.not-nil m), λ x. absurd (Memᴰ.not-nil x.1))
mismatches_mem ps n (y ∷ qs) f = (
  λ m. ⊎_elim (λ k. (y, Memᴰ.head refl, k))
      (λ k. let r = (mismatches_mem ps n qs f).0 k in (r.0, Memᴰ.tail r.1, r.2))
      (Memᴰ.append_cases (mismatch ps n y) m),
  λ x. ⊎_elim (λ e. Memᴰ.append_left (mismatches ps n qs) (subst (λ (q : Prefix). Memᴰ f (mismatch ps n q)) e x.2))
      (λ k. Memᴰ.append_right (mismatch ps n y) ((mismatches_mem ps n qs f).1 (x.0, k, x.2)))
      (Memᴰ.cases_cons x.1),
)

-- ---- which names a record brings

-- no finding of the list has this name
abbrev pub Without : ℕ → List Finding → Type 0
Without name fs = (f : Finding) → Memᴰ f fs → f.name ≡ name → ⊥

pub none_printed : (name : ℕ) (h : History) → NoFinding name h ↔ Without name h.findings
none_printed name h = (λ n f m. n f ((printed h f).1 m), λ n f m. n f ((printed h f).0 m))

-- without one after the record, exactly if without one before and among those it brings
pub without_after : (name : ℕ) (h : History) (r : Record)
    → Without name (effect h r).findings ↔ (Without name h.findings × Without name (brought_by h r))
without_after name h r = (
  λ n. (λ f m. n f ((findings_after h r f).1 (inl m)), λ f m. n f ((findings_after h r f).1 (inr m))),
  λ n f m. ⊎_elim (n.0 f) (n.1 f) ((findings_after h r f).0 m),
)

pub without_nil : (name : ℕ) → Without name []
without_nil name f m e = Memᴰ.not-nil m

without_one : (name : ℕ) (g : Finding) → (g.name ≡ name → ⊥) → Without name (g ∷ [])
without_one name g n f m e = n (sym (ap (λ (x : Finding). x.name) (Memᴰ.eq_of_singleton m)) ∙ e)

without_append : (name : ℕ) (fs gs : List Finding) → Without name fs → Without name gs → Without name (fs ++ gs)
without_append name fs gs a b f m e = ⊎_elim (λ k. a f k e) (λ k. b f k e) (Memᴰ.append_cases fs m)

without_else : (name : ℕ) (g : Finding) (b : Bool) → (g.name ≡ name → ⊥) → Without name (cond b [] (g ∷ []))
without_else name g true u = without_nil name
without_else name g false u = without_one name g u

without_then : (name : ℕ) (g : Finding) (b : Bool) → (g.name ≡ name → ⊥) → Without name (cond b (g ∷ []) [])
without_then name g true u = without_one name g u
without_then name g false u = without_nil name

-- a commit brings only LG-04, a check only LG-05, a view only LG-03, a leader only LG-01
pub differences_name : (name n : ℕ) (c p : Prefix) → (4 ≡ name → ⊥) → Without name (differences n c p)
unfolding differences
differences_name name n c p u =
    without_else name (record { name = 4; node = n; index = min (length c) (length p); term = 0 }) (agree c p) u

pub lackings_name : (name : ℕ) (p : Prefix) (ts : List ℕ) (cs : List Certificate) → (5 ≡ name → ⊥) → Without name (lackings p ts cs)
unfolding lackings lacking
lackings_name name p ts [] u = without_nil name
lackings_name name p ts (c ∷ cs) u =
    let i = relevant p ts c in
    without_append name (lacking p ts c) (lackings p ts cs)
    (without_then name (record { name = 5; node = c.leader; index = i; term = c.term }) (ltb 0 i && lacks c.log (take i p)) u)
    (lackings_name name p ts cs u)

differing_name : (name n : ℕ) (q : Prefix) (o : Option Prefix) → (3 ≡ name → ⊥) → Without name (differing n q o)
differing_name name n q none u = without_nil name
differing_name name n q (some p) u =
    without_else name (record { name = 3; node = n; index = length q; term = last_term q }) _ u

pub mismatches_name : (name n : ℕ) (ps qs : List Prefix) → (3 ≡ name → ⊥) → Without name (mismatches ps n qs)
unfolding mismatch
mismatches_name name n ps qs u f m =
    let r = (mismatches_mem ps n qs f).0 m in
    differing_name name n r.0 (remembered ps (length r.0) (last_term r.0)) u f r.2

pub rewritings_name : (name : ℕ) (k : Option LeaderLog) (v : LeaderLog) → (1 ≡ name → ⊥) → Without name (rewritings k v)
unfolding rewritings
rewritings_name name none v u = without_nil name
rewritings_name name (some k) v u =
    without_then name (record { name = 1; node = v.node; index = 0; term = v.term }) (rewrites k v) u

-- ---- the remembered prefix

-- p has the index and the term
abbrev Keyed : Prefix → ℕ → ℕ → Type 0
Keyed p i t = (length p ≡ i) × (last_term p ≡ t)

keyed : (p : Prefix) (i t : ℕ) → eqb (length p) i && eqb (last_term p) t ≡ true → Keyed p i t
keyed p i t e = (eqb-true (length p) i (and_left _ (eqb (last_term p) t) e), eqb-true (last_term p) t (and_right (eqb (length p) i) _ e))

-- what is remembered is stored, of that index and term
remembered_some : (ps : List Prefix) (i t : ℕ) (p : Prefix) → remembered ps i t ≡ some p → Memᴰ p ps × Keyed p i t
unfolding remembered
remembered_some [] i t p = λ e. absurd (let z : ◌≡◌ {A = ℕ} 0 1 = cc in omega arith)
remembered_some (x ∷ ps) i t p =
    cond_cases (λ (o : Option Prefix). o ≡ some p → Memᴰ p (x ∷ ps) × Keyed p i t)
    (eqb (length x) i && eqb (last_term x) t) (some x) (remembered ps i t)
    (λ k e. let xp : x ≡ p = cc in (Memᴰ.head (sym xp), subst (λ (y : Prefix). Keyed y i t) xp (keyed x i t k)))
    (λ _ e. let r = remembered_some ps i t p e in (Memᴰ.tail r.0, r.1))

-- where one of that index and term is stored, one is remembered
remembered_none : (ps : List Prefix) (i t : ℕ) (p : Prefix) → remembered ps i t ≡ none → Memᴰ p ps → Keyed p i t → ⊥
unfolding remembered
remembered_none [] i t p = λ e m k. Memᴰ.not-nil m
remembered_none (x ∷ ps) i t p =
    cond_cases (λ (o : Option Prefix). o ≡ none → Memᴰ p (x ∷ ps) → Keyed p i t → ⊥)
    (eqb (length x) i && eqb (last_term x) t) (some x) (remembered ps i t)
    (λ _ e m k. let z : ◌≡◌ {A = ℕ} 0 1 = cc in omega arith)
    (λ f e m k.
    ⊎_elim (λ px.
    tf (sym (and_both _ _ (eq-eqb (length x) i (sym (ap length px) ∙ k.0)) (eq-eqb (last_term x) t (sym (ap last_term px) ∙ k.1))) ∙ f))
    (λ j. remembered_none ps i t p e j k) (Memᴰ.cases_cons m))

-- ---- the LG-03 of an index and a term that a view brings

-- two stored prefixes have the index and the term, and differ
pub record Apart (ps : List Prefix) (i t : ℕ) : Type 0 where
  pub one : Prefix
  pub other : Prefix
  pub one_stored : Memᴰ one ps
  pub other_stored : Memᴰ other ps
  pub one_keyed : Keyed one i t
  pub other_keyed : Keyed other i t
  pub differ : one ≡ other → ⊥

lg03 : ℕ → Prefix → Finding
lg03 n q = record { name = 3; node = n; index = length q; term = last_term q }

-- where another is remembered, the prefix brings it
unlike_lg03 : (n : ℕ) (q p : Prefix) → (p ≡ q → ⊥) → Memᴰ (lg03 n q) (differing n q (some p))
unfolding lg03
unlike_lg03 n q p d =
    subst (λ (l : List Finding). Memᴰ (lg03 n q) l) (sym (cond_false (same p q) [] (lg03 n q ∷ []) (no_same p q d)))
    (Memᴰ.head refl)

-- what a prefix brings has its index and term, and another is remembered for them
unlike_tells : (n : ℕ) (q : Prefix) (o : Option Prefix) (i t : ℕ) → Tells (differing n q o) i t
    → Keyed q i t × ((p : Prefix) × (o ≡ some p) × (p ≡ q → ⊥))
unfolding lg03
unlike_tells n q none i t w = absurd (Memᴰ.not-nil w.among)
unlike_tells n q (some x) i t w = ⊎_elim alike apart (either (same x q))
  where
    Among : List Finding → Type 0
    Among l = Memᴰ w.finding l

    alike : same x q ≡ true → Keyed q i t × ((p : Prefix) × (some x ≡ some p) × (p ≡ q → ⊥))
    alike e = absurd (Memᴰ.not-nil (subst Among (cond_true (same x q) [] (lg03 n q ∷ []) e) w.among))

    apart : same x q ≡ false → Keyed q i t × ((p : Prefix) × (some x ≡ some p) × (p ≡ q → ⊥))
    apart e =
        let m = sym (Memᴰ.eq_of_singleton (subst Among (cond_false (same x q) [] (lg03 n q ∷ []) e) w.among)) in
        ((ap (λ (f : Finding). f.index) m ∙ w.index, ap (λ (f : Finding). f.term) m ∙ w.term), (x, refl, same_no x q e))

-- one front has each length once
once : (f p q : Prefix) → PrefixOf f p → PrefixOf f q → length p ≡ length q → p ≡ q
once f p q x y e =
    let lp : length p ≡ x.0 = ap length x.3 ∙ length-take-le x.0 f x.2 in
    let lq : length q ≡ y.0 = ap length y.3 ∙ length-take-le y.0 f y.2 in
    x.3 ∙ ap (λ (i : ℕ). take i f) (sym lp ∙ e ∙ lq) ∙ sym y.3

-- a view of front f after the prefixes ps
module _ (ps : List Prefix) (n : ℕ) (f : Prefix) (i t : ℕ) where
  Brought : Type 0
  Brought = Tells (mismatches ps n (prefixes_of f)) i t

  view_tells : Brought → Apart (stored ps f) i t
  unfolding Brought mismatch
  view_tells w =
      let r = (mismatches_mem ps n (prefixes_of f) w.finding).0 w.among in
      let u = unlike_tells n r.0 (remembered ps (length r.0) (last_term r.0)) i t
      (record { finding = w.finding; among = r.2; lg03 = w.lg03; index = w.index; term = w.term }) in
      let s = remembered_some ps (length r.0) (last_term r.0) u.1.0 u.1.1 in
      record {
        one = u.1.0;
        other = r.0;
        one_stored = (stored_mem ps f u.1.0).1 (inl s.0);
        other_stored = (stored_mem ps f r.0).1 (inr ((begun_prefix f r.0).0 r.1));
        one_keyed = (s.1.0 ∙ u.0.0, s.1.1 ∙ u.0.1);
        other_keyed = u.0;
        differ = u.1.2;
      }

  -- an old one and a new one: the new one is not the remembered one, or that is another old one
  across : (p q : Prefix) → Memᴰ p ps → PrefixOf f q → Keyed p i t → Keyed q i t → (p ≡ q → ⊥) → Apart ps i t ⊎ Brought
  unfolding Brought mismatch lg03
  across p q m x a b d = go (remembered ps (length q) (last_term q)) refl
    where
      go : (o : Option Prefix) → remembered ps (length q) (last_term q) ≡ o → Apart ps i t ⊎ Brought
      go none e = absurd (remembered_none ps (length q) (last_term q) p e m (a.0 ∙ sym b.0, a.1 ∙ sym b.1))
      go (some r) e =
          let s = remembered_some ps (length q) (last_term q) r e in
          ⊎_elim
          (λ k. inl (record {
            one = p;
            other = r;
            one_stored = m;
            other_stored = s.0;
            one_keyed = a;
            other_keyed = (s.1.0 ∙ b.0, s.1.1 ∙ b.1);
            differ = λ z. d (z ∙ same_yes r q k);
          }))
          (λ k. inr (record {
            finding = lg03 n q;
            among =
                (mismatches_mem ps n (prefixes_of f) (lg03 n q)).1 (
                  q,
                  (begun_prefix f q).1 x,
                  subst (λ (v : Option Prefix). Memᴰ (lg03 n q) (differing n q v)) (sym e) (unlike_lg03 n q r (same_no r q k)),
                );
            lg03 = refl;
            index = b.0;
            term = b.1;
          }))
          (either (same r q))

  apart_view : Apart (stored ps f) i t → Apart ps i t ⊎ Brought
  apart_view c =
      ⊎_elim
      (λ po. ⊎_elim
      (λ qo. inl (record {
        one = c.one;
        other = c.other;
        one_stored = po;
        other_stored = qo;
        one_keyed = c.one_keyed;
        other_keyed = c.other_keyed;
        differ = c.differ;
      }))
      (λ qn. across c.one c.other po qn c.one_keyed c.other_keyed c.differ)
      ((stored_mem ps f c.other).0 c.other_stored))
      (λ pn. ⊎_elim
      (λ qo. across c.other c.one qo pn c.other_keyed c.one_keyed (λ e. c.differ (sym e)))
      (λ qn. absurd (c.differ (once f c.one c.other pn qn (c.one_keyed.0 ∙ sym c.other_keyed.0))))
      ((stored_mem ps f c.other).0 c.other_stored))
      ((stored_mem ps f c.one).0 c.one_stored)

  apart_old : Apart ps i t → Apart (stored ps f) i t
  apart_old c =
      record {
        one = c.one;
        other = c.other;
        one_stored = (stored_mem ps f c.one).1 (inl c.one_stored);
        other_stored = (stored_mem ps f c.other).1 (inl c.other_stored);
        one_keyed = c.one_keyed;
        other_keyed = c.other_keyed;
        differ = c.differ;
      }

-- ---- kept by each accepted record

abbrev Inv : History → Type 0
Inv h = (i t : ℕ) → Tells h.findings i t ↔ Apart h.prefixes i t

tells_among : (fs gs : List Finding) (i t : ℕ) (w : Tells fs i t) → Memᴰ w.finding gs → Tells gs i t
tells_among fs gs i t w m = record { finding = w.finding; among = m; lg03 = w.lg03; index = w.index; term = w.term }

-- told after the record, exactly if told before or by what it brings
tells_after : (h : History) (r : Record) (i t : ℕ)
    → Tells (effect h r).findings i t ↔ (Tells h.findings i t ⊎ Tells (brought_by h r) i t)
tells_after h r i t = (
  λ w. ⊎_elim (λ m. inl (tells_among (effect h r).findings h.findings i t w m))
      (λ m. inr (tells_among (effect h r).findings (brought_by h r) i t w m)) ((findings_after h r w.finding).0 w.among),
  ⊎_elim (λ w. tells_among h.findings (effect h r).findings i t w ((findings_after h r w.finding).1 (inl w.among)))
      (λ w. tells_among (brought_by h r) (effect h r).findings i t w ((findings_after h r w.finding).1 (inr w.among))),
)

-- a record that brings no LG-03 and stores nothing
inv_other : (h : History) (r : Record) → Without 3 (brought_by h r) → Inv h
    → (i t : ℕ) → Tells (effect h r).findings i t ↔ Apart h.prefixes i t
inv_other h r b v i t = (
  λ w. ⊎_elim (λ k. (v i t).0 k) (λ k. absurd (b k.finding k.among k.lg03)) ((tells_after h r i t).0 w),
  λ c. (tells_after h r i t).1 (inl ((v i t).1 c)),
)

inv_view : (h : History) (n : ℕ) (xs : List Shown) → Inv h
    → (i t : ℕ) → Tells (effect h (view n xs)).findings i t ↔ Apart (stored h.prefixes (front xs)) i t
unfolding Brought
inv_view h n xs v i t =
    let ps = h.prefixes in let f = front xs in (
      λ w. ⊎_elim (λ k. apart_old ps n f i t ((v i t).0 k)) (λ k. view_tells ps n f i t k) ((tells_after h (view n xs) i t).0 w),
      λ c. (tells_after h (view n xs) i t).1 (⊎_elim (λ k. inl ((v i t).1 k)) (λ k. inr k) (apart_view ps n f i t c)),
    )

keep : (h : History) (r : Record) → Inv h → Inv (effect h r)
unfolding view_effect commit_effect terms_effect election_effect check_effect leader_effect
keep h (view n xs) v = inv_view h n xs v
keep h (commit n i) v = inv_other h (commit n i) (differences_name 3 n h.committed (seen h n i) (λ e. omega arith)) v
keep h (terms old new t) v = inv_other h (terms old new t) (without_nil 3) v
keep h (election l t p n) v = inv_other h (election l t p n) (without_nil 3) v
keep h check v = inv_other h check (lackings_name 3 h.committed h.terms h.certificates (λ e. omega arith)) v
keep h (rows rs) v = inv_other h (rows rs) (without_nil 3) v
keep h (leader n t) v =
    inv_other h (leader n t) (rewritings_name 3 (kept_of h.leader_logs n t) (present h n t) (λ e. omega arith)) v

inv : (ss : List Bytes) → Inv (history_of ss)
inv =
    by_events (λ h g es. Inv h) (λ i t. (λ w. absurd (Memᴰ.not-nil w.among), λ c. absurd (Memᴰ.not-nil c.one_stored)))
    (λ h g es r _ v. keep h r v)

-- ---- which pairs

-- the stored prefixes are those of the accepted fronts: two of them differ at an index and term exactly if two fronts clash there
above_zero : (i : ℕ) (p q : Prefix) → (take i p ≡ take i q → ⊥) → 0 < i
above_zero zero p q d = absurd (d refl)
above_zero (suc i) p q d = omega arith

-- of the length of a prefix of the front
reached : (i : ℕ) (x p : Prefix) → PrefixOf p x → length x ≡ i → (i ≤ length p) × (x ≡ take i p)
reached i x p o e =
    let l : o.0 ≡ i = sym (ap length o.3 ∙ length-take-le o.0 p o.2) ∙ e in
    (subst (λ (k : ℕ). k ≤ length p) l o.2, o.3 ∙ ap (λ (k : ℕ). take k p) l)

apart_clashing : (ss : List Bytes) (i t : ℕ) → Apart (history_of ss).prefixes i t ↔ Clashing (accepted_fronts ss) i t
apart_clashing ss i t = (to, from)
  where
    to : Apart (history_of ss).prefixes i t → Clashing (accepted_fronts ss) i t
    to c =
        let x = (stored_exactly ss c.one).0 c.one_stored in
        let y = (stored_exactly ss c.other).0 c.other_stored in
        let a = reached i c.one x.0 x.2 c.one_keyed.0 in
        let b = reached i c.other y.0 y.2 c.other_keyed.0 in
        record {
          one = x.0;
          other = y.0;
          one_among = x.1;
          other_among = y.1;
          one_reaches = a.0;
          other_reaches = b.0;
          one_term = sym (ap last_term a.1) ∙ c.one_keyed.1;
          other_term = sym (ap last_term b.1) ∙ c.other_keyed.1;
          differ = λ e. c.differ (a.1 ∙ e ∙ sym b.1);
        }

    from : Clashing (accepted_fronts ss) i t → Apart (history_of ss).prefixes i t
    from c =
        let z = above_zero i c.one c.other c.differ in
        record {
          one = take i c.one;
          other = take i c.other;
          one_stored = (stored_exactly ss (take i c.one)).1 (c.one, c.one_among, (i, z, c.one_reaches, refl));
          other_stored = (stored_exactly ss (take i c.other)).1 (c.other, c.other_among, (i, z, c.other_reaches, refl));
          one_keyed = (length-take-le i c.one c.one_reaches, c.one_term);
          other_keyed = (length-take-le i c.other c.other_reaches, c.other_term);
          differ = c.differ;
        }

pub which_pairs : WhichPairs
which_pairs ss i t =
    let h = history_of ss in (
      λ w.
          let held = tells_among (finding_list h) h.findings i t w ((printed h w.finding).0 w.among) in
          (apart_clashing ss i t).0 ((inv ss i t).0 held),
      λ c.
          let w = (inv ss i t).1 ((apart_clashing ss i t).1 c) in
          tells_among h.findings (finding_list h) i t w ((printed h w.finding).1 w.among),
    )

-- ---- log matching: no pair is told exactly if no two fronts clash

pub log_matching : LogMatching
log_matching ss = (matches, silent)
  where
    matches : NoFinding 3 (history_of ss) → Matching (accepted_fronts ss)
    matches n p q mp mq i z hp hq e =
        ⊎_elim (λ s. same_yes (take i p) (take i q) s) (λ s. absurd (told s)) (either (same (take i p) (take i q)))
      where
        told : same (take i p) (take i q) ≡ false → ⊥
        told s =
            let w = (which_pairs ss i (term_at p i)).1 (record {
              one = p;
              other = q;
              one_among = mp;
              other_among = mq;
              one_reaches = hp;
              other_reaches = hq;
              one_term = refl;
              other_term = sym e;
              differ = same_no (take i p) (take i q) s;
            }) in
            n w.finding w.among w.lg03

    silent : Matching (accepted_fronts ss) → NoFinding 3 (history_of ss)
    silent m f k e =
        let c = (which_pairs ss f.index f.term).0 (record { finding = f; among = k; lg03 = e; index = refl; term = refl }) in
        let z = above_zero f.index c.one c.other c.differ in
        c.differ (m c.one c.other c.one_among c.other_among f.index z c.one_reaches c.other_reaches (c.one_term ∙ sym c.other_term))

pub each_entry_judged : EachEntryJudged
each_entry_judged ps n p f = (
  λ m.
      let r = (mismatches_mem ps n (prefixes_of p) f).0 m in
      let b = (begun_prefix p r.0).0 r.1 in
      (b.0, b.1, b.2, subst (λ (q : Prefix). Memᴰ f (mismatch ps n q)) b.3 r.2),
  λ x. (mismatches_mem ps n (prefixes_of p) f).1 (take x.0 p, (begun_prefix p (take x.0 p)).1 (x.0, x.1, x.2, refl), x.3),
)
