-- Leader Append-Only, as far as kind 7 tells: from fresh, LG-01 of a leader and term is in the list exactly if two successive
-- accepted kind 7 records of the pair met views of which the later one rewrites the older; and the value is 8 exactly if the last
-- one met has grown into the present view.
-- Assumes nothing.
use Prim.Native.Nat.{ℕ}
use native.Mathlib.Omega.{arith}
use mathlib.Core.Path.{◌≡◌, refl, sym, ◌∙◌, ap, subst}
use mathlib.Core.Bool.{Bool, true, false, cond, ◌&&◌}
use mathlib.Core.Logic.{◌⊎◌, inl, inr, ⊎_elim, ◌↔◌}
use mathlib.Core.List.Memᴰ
use mathlib.Core.List.{List, [], ◌∷◌, ◌++◌, append-nil, append_assoc, nil≢cons, head-eq_of_cons-eq, tail-eq_of_cons-eq, map, Memᴰ}
use mathlib.Core.Option.{Option, none, some}
use lib.Dec.{eqb}
use lib.ListN.{get_or}
use borrow.Author.Tests.{eqb-true, eq-eqb}
use Rattle.model.specs.Sizes.{Bytes}
use Rattle.model.specs.Record.{Record, view, commit, terms, election, check, rows, leader, front}
use Rattle.model.specs.History.{Finding, LeaderLog, History}
use Rattle.model.specs.LeaderLog.{kept_of, present, rewrites, grows, rewritings, growth, leader_value}
use Rattle.model.specs.View.{prefixes_of}
use Rattle.model.specs.Commit.{seen}
use Rattle.model.specs.Answer.{accepted, effect}
use Rattle.model.specs.Lists.{finding_list}
use Rattle.model.specs.Run.{history_from, history_of, answers_from, answers_of, Event, events_of}
use Rattle.model.specs.Statements.{brought_by}
use Rattle.model.specs.AppendOnly.{NodeView, no_view, no_views, shown_from, shown_of, met_by, met_from, met_views, Successive, last_met, Rewrites, Grows, lg01, RewrittenAmong, WhenRewritten, AlwaysIndexZero, GrownSince, WhenGrown, kept_for, kept_if}
use Rattle.model.proofs.Tests.{tf, either, cond_true, cond_false, and_left, and_right, and_both}
use Rattle.model.proofs.Run.{by_events}
use Rattle.model.proofs.Stored.{findings_after}
use Rattle.model.proofs.Matching.{Without, printed, without_nil, mismatches_name, differences_name, lackings_name}
use Rattle.model.proofs.LeaderLog.{rewrites_is, grows_is}
use Rattle.model.proofs.Kept.{met_snoc, Follows, present_is, FollowsEvents, follows_first, follows_step, follows}

-- ---- two successive ones, with one more behind

-- the last one, with those before it
last_is : (vs : List NodeView) (a : NodeView) → last_met vs ≡ some a → (before : List NodeView) × (vs ≡ before ++ (a ∷ []))
unfolding last_met
last_is [] a e = absurd (let z : ◌≡◌ {A = ℕ} 0 1 = cc in omega arith)
last_is (v ∷ []) a e = let x : v ≡ a = cc in ([], ap (λ (z : NodeView). z ∷ []) x)
last_is (v ∷ w ∷ vs) a e =
    let l = last_is (w ∷ vs) a e in (v ∷ l.0, ap (λ (z : List NodeView). v ∷ z) l.1)

-- one of the earlier pairs, or the last of the earlier ones and the new one
Newest : List NodeView → NodeView → NodeView → NodeView → Type 0
Newest vs v a b = (last_met vs ≡ some a) × (b ≡ v)

later_pair : (x : NodeView) (vs : List NodeView) (v a b : NodeView) → Successive vs a b ⊎ Newest vs v a b
    → Successive (x ∷ vs) a b ⊎ Newest (x ∷ vs) v a b
unfolding last_met Newest
later_pair x vs v a b (inl s) = inl (x ∷ s.0, s.1, ap (λ (l : List NodeView). x ∷ l) s.2)
later_pair x [] v a b (inr n) = absurd (let z : ◌≡◌ {A = ℕ} 0 1 = cc in omega arith)
later_pair x (y ∷ vs) v a b (inr n) = inr n

successive_cases : (vs : List NodeView) (v a b : NodeView) → Successive (vs ++ (v ∷ [])) a b → Successive vs a b ⊎ Newest vs v a b
unfolding last_met Newest
successive_cases [] v a b ([], later, e) = absurd (nil≢cons (tail-eq_of_cons-eq e))
successive_cases [] v a b (x ∷ [], later, e) = absurd (nil≢cons (tail-eq_of_cons-eq e))
successive_cases [] v a b (x ∷ y ∷ before, later, e) = absurd (nil≢cons (tail-eq_of_cons-eq e))
successive_cases (x ∷ []) v a b ([], later, e) =
    inr (ap some (head-eq_of_cons-eq e), sym (head-eq_of_cons-eq (tail-eq_of_cons-eq e)))
successive_cases (x ∷ y ∷ vs) v a b ([], later, e) =
    let p = head-eq_of_cons-eq e in
    let q = head-eq_of_cons-eq (tail-eq_of_cons-eq e) in
    inl ([], vs, λ i. p i ∷ q i ∷ vs)
successive_cases (x ∷ vs) v a b (z ∷ before, later, e) =
    later_pair x vs v a b (successive_cases vs v a b (before, later, tail-eq_of_cons-eq e))

successive_old : (vs : List NodeView) (v a b : NodeView) → Successive vs a b → Successive (vs ++ (v ∷ [])) a b
successive_old vs v a b s =
    (s.0, s.1 ++ (v ∷ []), ap (λ (l : List NodeView). l ++ (v ∷ [])) s.2 ∙ append_assoc s.0 (a ∷ b ∷ s.1) (v ∷ []))

successive_new : (vs : List NodeView) (v a : NodeView) → last_met vs ≡ some a → Successive (vs ++ (v ∷ [])) a v
successive_new vs v a e =
    let l = last_is vs a e in
    (l.0, [], ap (λ (z : List NodeView). z ++ (v ∷ [])) l.1 ∙ append_assoc l.0 (a ∷ []) (v ∷ []))

-- the last of the views is rewritten by v
RewrittenBy : List NodeView → NodeView → Type 0
RewrittenBy vs v = (a : NodeView) × (last_met vs ≡ some a) × Rewrites a v

rewritten_more : (vs : List NodeView) (v : NodeView) → RewrittenAmong (vs ++ (v ∷ [])) ↔ (RewrittenAmong vs ⊎ RewrittenBy vs v)
unfolding RewrittenBy Newest
rewritten_more vs v = (
  λ w. ⊎_elim (λ s. inl (w.0, w.1, s, w.3)) (λ n. inr (w.0, n.0, subst (Rewrites w.0) n.1 w.3)) (successive_cases vs v w.0 w.1 w.2),
  ⊎_elim (λ w. (w.0, w.1, successive_old vs v w.0 w.1 w.2, w.3)) (λ w. (w.0, v, successive_new vs v w.0 w.1, w.2)),
)

-- ---- what a kind 7 record brings, and its value, where the last view met was o

abbrev flag8 : Bool → ℕ
flag8 b = cond b 8 0

abbrev EightOrNone : ℕ → Type 0
EightOrNone k = (k ≡ 8) ⊎ (k ≡ 0)

module _ (n t : ℕ) (v : NodeView) where
  brought_is : (o : Option NodeView)
      → Memᴰ (lg01 n t) (rewritings (kept_if n t o) (kept_for n t v)) ↔ ((a : NodeView) × (o ≡ some a) × Rewrites a v)
  unfolding rewritings
  brought_is none = (λ m. absurd (Memᴰ.not-nil m), λ w. absurd (let z : ◌≡◌ {A = ℕ} 0 1 = cc in let e = w.1 in omega arith))
  brought_is (some a) = (yes_there, there_yes)
    where
      yes_there : Memᴰ (lg01 n t) (cond (rewrites (kept_for n t a) (kept_for n t v)) (lg01 n t ∷ []) [])
          → (b : NodeView) × (some a ≡ some b) × Rewrites b v
      yes_there m =
          ⊎_elim (λ e. (a, refl, (rewrites_is n t a v).0 e))
          (λ e. absurd (Memᴰ.not-nil (subst (λ (l : List Finding). Memᴰ (lg01 n t) l) (cond_false _ (lg01 n t ∷ []) [] e) m)))
          (either (rewrites (kept_for n t a) (kept_for n t v)))

      there_yes : ((b : NodeView) × (some a ≡ some b) × Rewrites b v)
          → Memᴰ (lg01 n t) (cond (rewrites (kept_for n t a) (kept_for n t v)) (lg01 n t ∷ []) [])
      there_yes w =
          let e = w.1 in
          let p : w.0 ≡ a = cc in
          let r = (rewrites_is n t a v).1 (subst (λ (b : NodeView). Rewrites b v) p w.2) in
          subst (λ (l : List Finding). Memᴰ (lg01 n t) l) (sym (cond_true _ (lg01 n t ∷ []) [] r)) (Memᴰ.head refl)

  value_is : (o : Option NodeView)
      → EightOrNone (growth (kept_if n t o) (kept_for n t v))
      × ((growth (kept_if n t o) (kept_for n t v) ≡ 8) ↔ ((a : NodeView) × (o ≡ some a) × Grows a v))
  unfolding growth
  value_is none = (
    inr refl,
    (λ e. absurd (omega (arith, e)), λ w. absurd (let z : ◌≡◌ {A = ℕ} 0 1 = cc in let e = w.1 in omega arith)),
  )
  value_is (some a) = (by (grows (kept_for n t a) (kept_for n t v)), (grown, there_eight))
    where
      by : (b : Bool) → EightOrNone (flag8 b)
      by true = inl refl
      by false = inr refl

      grown : flag8 (grows (kept_for n t a) (kept_for n t v)) ≡ 8 → (b : NodeView) × (some a ≡ some b) × Grows b v
      grown e =
          ⊎_elim (λ g. (a, refl, (grows_is n t a v).0 g))
          (λ g. let z : flag8 (grows (kept_for n t a) (kept_for n t v)) ≡ 0 = cond_false _ 8 0 g in absurd (omega (arith, e, z)))
          (either (grows (kept_for n t a) (kept_for n t v)))

      there_eight : ((b : NodeView) × (some a ≡ some b) × Grows b v) → flag8 (grows (kept_for n t a) (kept_for n t v)) ≡ 8
      there_eight w =
          let e = w.1 in
          let p : w.0 ≡ a = cc in
          cond_true _ 8 0 ((grows_is n t a v).1 (subst (λ (b : NodeView). Grows b v) p w.2))

-- whatever is kept, it is LG-01 of the node and its term
brought_one : (k : Option LeaderLog) (v : LeaderLog) (f : Finding) → Memᴰ f (rewritings k v) → f ≡ lg01 v.node v.term
unfolding rewritings
brought_one none v f m = absurd (Memᴰ.not-nil m)
brought_one (some k) v f m = by (rewrites k v) m
  where
    by : (b : Bool) → Memᴰ f (cond b (lg01 v.node v.term ∷ []) []) → f ≡ lg01 v.node v.term
    by true m = Memᴰ.eq_of_singleton m
    by false m = absurd (Memᴰ.not-nil m)

-- ---- the kinds of records

-- a record that brings no LG-01 and meets nothing
abbrev Silent : History → Record → Type 0
Silent h r = Without 1 (brought_by h r) × ((n t : ℕ) (vs : List NodeView) → met_by n t vs r ≡ [])

-- all but kind 7
kinds : (h : History) (r : Record) → Silent h r ⊎ ((n : ℕ) × (t : ℕ) × (r ≡ leader n t))
kinds h (view n xs) = inl (mismatches_name 1 n h.prefixes (prefixes_of (front xs)) (λ e. omega arith), λ _ _ _. refl)
kinds h (commit n i) = inl (differences_name 1 n h.committed (seen h n i) (λ e. omega arith), λ _ _ _. refl)
kinds h (terms old new t) = inl (without_nil 1, λ _ _ _. refl)
kinds h (election l t p n) = inl (without_nil 1, λ _ _ _. refl)
kinds h check = inl (lackings_name 1 h.committed h.terms h.certificates (λ e. omega arith), λ _ _ _. refl)
kinds h (rows rs) = inl (without_nil 1, λ _ _ _. refl)
kinds h (leader n t) = inr (n, t, refl)

-- ---- kept by each accepted record

Told : List Finding → (ℕ → ℕ → List NodeView) → Type 0
Told fs met = (n t : ℕ) → Memᴰ (lg01 n t) fs ↔ RewrittenAmong (met n t)

module _ (h : History) (vs : List NodeView) (met : ℕ → ℕ → List NodeView) (f : Follows h vs met) (told : Told h.findings met) where
  told_still : (r : Record) → Silent h r → Told (effect h r).findings (λ n t. met n t ++ met_by n t vs r)
  unfolding Told
  told_still r w n t =
      let none : met n t ++ met_by n t vs r ≡ met n t = ap (λ (l : List NodeView). met n t ++ l) (w.1 n t vs) ∙ append-nil (met n t) in
      subst (λ (l : List NodeView). Memᴰ (lg01 n t) (effect h r).findings ↔ RewrittenAmong l) (sym none) (
        λ m. ⊎_elim (λ k. (told n t).0 k) (λ k. absurd (w.0 (lg01 n t) k refl)) ((findings_after h r (lg01 n t)).0 m),
        λ k. (findings_after h r (lg01 n t)).1 (inl ((told n t).1 k)),
      )

  told_leader : (m u : ℕ) → Told (effect h (leader m u)).findings (λ n t. met n t ++ met_by n t vs (leader m u))
  unfolding Told RewrittenBy
  told_leader m u n t = by (eqb m n && eqb u t) refl
    where
      v : NodeView
      v = get_or vs n no_view

      after : Memᴰ (lg01 n t) (effect h (leader m u)).findings
          ↔ (Memᴰ (lg01 n t) h.findings ⊎ Memᴰ (lg01 n t) (brought_by h (leader m u)))
      after = findings_after h (leader m u) (lg01 n t)

      -- of the pair: what it brings is told by the last view met
      of_pair : m ≡ n → u ≡ t
          → brought_by h (leader m u) ≡ rewritings (kept_if n t (last_met (met n t))) (kept_for n t (get_or vs n no_view))
      of_pair p q =
          (λ i. rewritings (kept_of h.leader_logs (p i) (q i)) (present h (p i) (q i)))
          ∙ (λ i. rewritings (f.kept n t i) (present_is h vs met f n t i))

      -- of another: it brings another LG-01 or none
      of_other : eqb m n && eqb u t ≡ false → Memᴰ (lg01 n t) (brought_by h (leader m u)) → ⊥
      of_other e k =
          let o = brought_one (kept_of h.leader_logs m u) (present h m u) (lg01 n t) k in
          tf (sym (and_both (eqb m n) (eqb u t) (eq-eqb m n (sym (ap (λ (x : Finding). x.node) o)))
          (eq-eqb u t (sym (ap (λ (x : Finding). x.term) o)))) ∙ e)

      by : (b : Bool) → eqb m n && eqb u t ≡ b
          → Memᴰ (lg01 n t) (effect h (leader m u)).findings ↔ RewrittenAmong (met n t ++ cond b (get_or vs n no_view ∷ []) [])
      by true e =
          let o = of_pair (eqb-true m n (and_left _ _ e)) (eqb-true u t (and_right (eqb m n) _ e)) in
          let b = brought_is n t (get_or vs n no_view) (last_met (met n t)) in
          let more = rewritten_more (met n t) (get_or vs n no_view) in (
            λ k. more.1 (⊎_elim (λ j. inl ((told n t).0 j)) (λ j. inr (b.0 (subst (Memᴰ (lg01 n t)) o j))) (after.0 k)),
            λ w. after.1 (⊎_elim (λ j. inl ((told n t).1 j)) (λ j. inr (subst (Memᴰ (lg01 n t)) (sym o) (b.1 j))) (more.0 w)),
          )
      by false e =
          subst (λ (l : List NodeView). Memᴰ (lg01 n t) (effect h (leader m u)).findings ↔ RewrittenAmong l) (sym (append-nil (met n t))) (
            λ k. ⊎_elim (λ j. (told n t).0 j) (λ j. absurd (of_other e j)) (after.0 k),
            λ w. after.1 (inl ((told n t).1 w)),
          )

  told_after : (r : Record) → Told (effect h r).findings (λ n t. met n t ++ met_by n t vs r)
  told_after r =
      ⊎_elim (told_still r)
      (λ k. subst (λ (x : Record). Told (effect h x).findings (λ n t. met n t ++ met_by n t vs x)) (sym k.2) (told_leader k.0 k.1))
      (kinds h r)

-- ---- after every list

not_two : (a b : NodeView) → Successive [] a b → ⊥
not_two a b ([], later, e) = nil≢cons e
not_two a b (x ∷ before, later, e) = nil≢cons e

at_first : Told [] (λ n t. met_from n t no_views [])
unfolding Told met_from
at_first n t = (λ m. absurd (Memᴰ.not-nil m), λ w. absurd (not_two w.0 w.1 w.2))

abbrev ToldEvents : History → List Event → Type 0
ToldEvents h es = Told h.findings (λ n t. met_from n t no_views es)

told_step : (h : History) (es : List Event) (e : Event) → FollowsEvents h es → ToldEvents h es
    → ToldEvents (effect h e.event) (es ++ (e ∷ []))
unfolding Told
told_step h es e f w n t =
    subst (λ (l : List NodeView). Memᴰ (lg01 n t) (effect h e.event).findings ↔ RewrittenAmong l) (sym (met_snoc n t no_views es e))
    (told_after h (shown_from no_views es) (λ m u. met_from m u no_views es) f w e.event n t)

told : (ss : List Bytes) → FollowsEvents (history_of ss) (events_of ss) × ToldEvents (history_of ss) (events_of ss)
told =
    by_events (λ h g es. FollowsEvents h es × ToldEvents h es) (follows_first, at_first)
    (λ h g es r _ w.
    let e : Event = record { history = h; ledger = g; event = r } in
    (follows_step h es e w.0, told_step h es e w.0 w.1))

pub when_rewritten : WhenRewritten
unfolding Told
when_rewritten ss n t =
    let h = history_of ss in (
      λ m. ((told ss).1 n t).0 ((printed h (lg01 n t)).0 m),
      λ w. (printed h (lg01 n t)).1 (((told ss).1 n t).1 w),
    )

-- ---- each LG-01 has index 0

abbrev IndexZero : List Finding → Type 0
IndexZero fs = (f : Finding) → Memᴰ f fs → f.name ≡ 1 → f.index ≡ 0

brought_zero : (h : History) (r : Record) → IndexZero (brought_by h r)
brought_zero h r =
    ⊎_elim (λ w f m e. absurd (w.0 f m e))
    (λ k. subst (λ (x : Record). IndexZero (brought_by h x)) (sym k.2)
    (λ f m _. ap (λ (x : Finding). x.index) (brought_one (kept_of h.leader_logs k.0 k.1) (present h k.0 k.1) f m)))
    (kinds h r)

always_zero : (ss : List Bytes) → IndexZero (history_of ss).findings
always_zero =
    by_events (λ h g es. IndexZero h.findings) (λ f m _. absurd (Memᴰ.not-nil m))
    (λ h g es r _ w f m e. ⊎_elim (λ k. w f k e) (λ k. brought_zero h r f k e) ((findings_after h r f).0 m))

pub always_index_zero : AlwaysIndexZero
always_index_zero ss f m e = always_zero ss f ((printed (history_of ss) f).0 m) e

-- ---- the value

pub when_grown : WhenGrown
unfolding leader_value
when_grown ss n t =
    let h = history_of ss in
    let vs = shown_from no_views (events_of ss) in
    let f = follows ss in
    let e : growth (kept_of h.leader_logs n t) (present h n t)
    ≡ growth (kept_if n t (last_met (met_views n t ss))) (kept_for n t (shown_of n ss)) =
    λ i. growth (f.kept n t i) (present_is h vs (λ m u. met_from m u no_views (events_of ss)) f n t i) in
    subst (λ (k : ℕ). EightOrNone k × ((k ≡ 8) ↔ GrownSince (met_views n t ss) (shown_of n ss))) (sym e)
    (value_is n t (shown_of n ss) (last_met (met_views n t ss)))

-- ---- examples: node 0 shows views, and leads term 1

-- entry 1 of term 1; of term 2; entries 1 and 2 of term 2; entries 1 and 3 of term 1; entries 1 and 4
unfoldable pub one : Bytes
one = 0x10 ∷ 0x00 ∷ 0x10 ∷ 0x04 ∷ 0x00 ∷ 0x00 ∷ 0x00 ∷ 0x04 ∷ 0x00 ∷ []

unfoldable pub other : Bytes
other = 0x10 ∷ 0x00 ∷ 0x10 ∷ 0x04 ∷ 0x00 ∷ 0x00 ∷ 0x00 ∷ 0x08 ∷ 0x00 ∷ []

unfoldable pub two : Bytes
two = 0x10 ∷ 0x00 ∷ 0x20 ∷ 0x04 ∷ 0x00 ∷ 0x00 ∷ 0x00 ∷ 0x08 ∷ 0x00 ∷ 0x08 ∷ 0x00 ∷ 0x00 ∷ 0x00 ∷ 0x08 ∷ 0x00 ∷ []

unfoldable pub with_third : Bytes
with_third = 0x10 ∷ 0x00 ∷ 0x20 ∷ 0x04 ∷ 0x00 ∷ 0x00 ∷ 0x00 ∷ 0x04 ∷ 0x00 ∷ 0x0c ∷ 0x00 ∷ 0x00 ∷ 0x00 ∷ 0x04 ∷ 0x00 ∷ []

unfoldable pub with_fourth : Bytes
with_fourth = 0x10 ∷ 0x00 ∷ 0x20 ∷ 0x04 ∷ 0x00 ∷ 0x00 ∷ 0x00 ∷ 0x04 ∷ 0x00 ∷ 0x10 ∷ 0x00 ∷ 0x00 ∷ 0x00 ∷ 0x04 ∷ 0x00 ∷ []

-- node 0 leads term 1, and term 2
unfoldable pub leads : Bytes
leads = 0x70 ∷ 0x00 ∷ 0x00 ∷ 0x00 ∷ 0x00 ∷ 0x40 ∷ []

unfoldable pub leads_next : Bytes
leads_next = 0x70 ∷ 0x00 ∷ 0x00 ∷ 0x00 ∷ 0x00 ∷ 0x80 ∷ []

-- each record of the list is accepted, with these values; and the findings
abbrev pub Values : List Bytes → List ℕ → List Finding → Type 0
Values ss vs fs = (answers_of ss ≡ map (λ v. accepted v 0) vs) × (finding_list (history_of ss) ≡ fs)

-- It wrote its entry again: LG-01. The later view is kept then, and growth from it is growth.
pub rewritten : Values (one ∷ leads ∷ other ∷ leads ∷ two ∷ leads ∷ []) (1 ∷ 0 ∷ 1 ∷ 0 ∷ 1 ∷ 8 ∷ []) (lg01 0 1 ∷ [])
unfolding one other two leads history_from answers_from finding_list
rewritten = (refl, refl)

-- An entry past a gap is gone: LG-01.
pub shortened : Values (with_third ∷ leads ∷ one ∷ leads ∷ []) (1 ∷ 0 ∷ 0 ∷ 0 ∷ []) (lg01 0 1 ∷ [])
unfolding one with_third leads history_from answers_from finding_list
shortened = (refl, refl)

-- With a gap before the older last index, nothing is judged.
pub unjudged : Values (with_third ∷ leads ∷ with_fourth ∷ leads ∷ []) (1 ∷ 0 ∷ 0 ∷ 0 ∷ []) []
unfolding with_third with_fourth leads history_from answers_from finding_list
unjudged = (refl, refl)

-- A pair's first record only keeps, also an empty view, from which any longer one is growth; the next term is another pair.
pub from_empty : Values (leads ∷ one ∷ leads ∷ other ∷ leads_next ∷ []) (0 ∷ 1 ∷ 8 ∷ 1 ∷ 0 ∷ []) []
unfolding one other leads leads_next history_from answers_from finding_list
from_empty = (refl, refl)
