-- The kept views: from fresh, what is kept for a leader and term is the last view that an accepted kind 7 record of the pair met.
-- No pair is kept twice, so 14 is answered exactly when the distinct pairs would exceed 64.
-- Assumes nothing.
use Prim.Native.Nat.{ℕ, zero, suc, ◌<◌}
use native.Mathlib.Omega.{arith}
use mathlib.Core.Path.{◌≡◌, refl, sym, ◌∙◌, ap, subst}
use mathlib.Core.Bool.{Bool, true, false, cond, ◌&&◌}
use mathlib.Core.Logic.{◌⊎◌, inl, inr, ⊎_elim, ◌↔◌}
use mathlib.Core.List.Memᴰ
use mathlib.Core.List.{List, [], ◌∷◌, ◌++◌, append-nil, append_assoc, map, Memᴰ}
use mathlib.Core.Option.{none, some}
use lib.Dec.{ltb, eqb}
use lib.ListN.{length, get_or, set, replicate, get_or-map, length-map}
use lib.Seq.{map-set, take-length}
use borrow.Author.Tests.{eqb-true}
use Rattle.model.specs.Sizes.{Bytes, leader_log_limit, finding_limit}
use Rattle.model.specs.Entry.{Prefix}
use Rattle.model.specs.Refusal.{findingsFull, leaderLogsFull}
use Rattle.model.specs.Record.{Shown, Record, view, commit, terms, election, check, rows, leader, front, last_index}
use Rattle.model.specs.History.{LeaderLog, History, fresh}
use Rattle.model.specs.LeaderLog.{kept_of, kept_with, present, leader_kept, leader_findings, leader_refusal, leader_effect}
use Rattle.model.specs.View.{stored, view_effect}
use Rattle.model.specs.Commit.{commit_effect}
use Rattle.model.specs.Terms.{terms_effect}
use Rattle.model.specs.Election.{election_effect}
use Rattle.model.specs.Check.{check_effect}
use Rattle.model.specs.Answer.{refusal, effect}
use Rattle.model.specs.Leaders.{Leader}
use Rattle.model.specs.Run.{history_of, Event, events_of, gathered}
use Rattle.model.specs.AppendOnly.{NodeView, no_view, no_views, shown_after, shown_from, met_by, met_from, last_met, kept_for, kept_if, KeptExactly, pairs_in, all_pairs_in, accepted_pairs, kept_pair, KeptOnce, KeptPairs, FourteenExactly, EmptyOrStored, FrontsIn, FrontsStored}
use Rattle.model.proofs.Tests.{and_left, and_right}
use Rattle.model.specs.Statements.{Distinct}
use Rattle.model.proofs.Run.{by_events, gathered_snoc}
use Rattle.model.proofs.Members.{with_old, with_new, with_cases, with_distinct}
use Rattle.model.proofs.Stored.{stored_mem, counted, exceeds, apart}
use Rattle.model.proofs.LeaderLog.{pair, same_pair, pairs_with, kept_of_with, kept_cases}

-- ---- the views met, one record more

pub shown_snoc : (vs : List NodeView) (es : List Event) (e : Event)
    → shown_from vs (es ++ (e ∷ [])) ≡ shown_after (shown_from vs es) e.event
unfolding shown_from
shown_snoc vs [] e = refl
shown_snoc vs (x ∷ es) e = shown_snoc (shown_after vs x.event) es e

pub met_snoc : (n t : ℕ) (vs : List NodeView) (es : List Event) (e : Event)
    → met_from n t vs (es ++ (e ∷ [])) ≡ met_from n t vs es ++ met_by n t (shown_from vs es) e.event
unfolding shown_from met_from
met_snoc n t vs [] e = append-nil (met_by n t vs e.event)
met_snoc n t vs (x ∷ es) e =
    ap (λ (l : List NodeView). met_by n t vs x.event ++ l) (met_snoc n t (shown_after vs x.event) es e)
    ∙ sym (append_assoc (met_by n t vs x.event) (met_from n t (shown_after vs x.event) es) _)

pub last_snoc : (vs : List NodeView) (v : NodeView) → last_met (vs ++ (v ∷ [])) ≡ some v
unfolding last_met
last_snoc [] v = refl
last_snoc (x ∷ []) v = refl
last_snoc (x ∷ y ∷ vs) v = last_snoc (y ∷ vs) v

-- ---- what a history holds, where vs are the nodes' views and `met n t` those met for a pair

pub record Follows (h : History) (vs : List NodeView) (met : ℕ → ℕ → List NodeView) : Type 0 where
  pub fronts : h.fronts ≡ map (λ (v : NodeView). v.front) vs
  pub lasts : h.lasts ≡ map (λ (v : NodeView). v.last) vs
  pub kept : (n t : ℕ) → kept_of h.leader_logs n t ≡ kept_if n t (last_met (met n t))

module _ (h : History) (vs : List NodeView) (met : ℕ → ℕ → List NodeView) (f : Follows h vs met) where
  pub present_is : (n t : ℕ) → present h n t ≡ kept_for n t (get_or vs n no_view)
  present_is n t =
      let p = ap (λ (l : List _). get_or l n []) f.fronts ∙ get_or-map (λ (v : NodeView). v.front) vs n no_view in
      let q = ap (λ (l : List ℕ). get_or l n 0) f.lasts ∙ get_or-map (λ (v : NodeView). v.last) vs n no_view in
      λ i. record { node = n; term = t; front = p i; last = q i }

  -- kept after a kind 7 record of leader m and term u
  kept_then : (m u n t : ℕ)
      → kept_of (kept_with h.leader_logs (present h m u)) n t ≡ kept_if n t (last_met (met n t ++ met_by n t vs (leader m u)))
  kept_then m u n t = kept_of_with h.leader_logs (present h m u) n t ∙ by (eqb m n && eqb u t) refl
    where
      by : (b : Bool) → eqb m n && eqb u t ≡ b
          → cond b (some (present h m u)) (kept_of h.leader_logs n t)
          ≡ kept_if n t (last_met (met n t ++ cond b (get_or vs n no_view ∷ []) []))
      by true e =
          let p = eqb-true m n (and_left _ _ e) in
          let q = eqb-true u t (and_right (eqb m n) _ e) in
          ap some (present_is m u)
          ∙ (λ i. some (kept_for (p i) (q i) (get_or vs (p i) no_view)))
          ∙ ap (kept_if n t) (sym (last_snoc (met n t) (get_or vs n no_view)))
      by false e = f.kept n t ∙ ap (λ (l : List NodeView). kept_if n t (last_met l)) (sym (append-nil (met n t)))

  -- what met nothing keeps nothing
  kept_still : (n t : ℕ) → kept_of h.leader_logs n t ≡ kept_if n t (last_met (met n t ++ []))
  kept_still n t = f.kept n t ∙ ap (λ (l : List NodeView). kept_if n t (last_met l)) (sym (append-nil (met n t)))

  follows_after : (r : Record) → Follows (effect h r) (shown_after vs r) (λ n t. met n t ++ met_by n t vs r)
  unfolding view_effect commit_effect terms_effect election_effect check_effect leader_effect leader_kept
  follows_after (view n xs) =
      record {
        fronts = ap (λ (l : List _). set l n (front xs)) f.fronts ∙ sym (map-set (λ (v : NodeView). v.front) vs n _);
        lasts = ap (λ (l : List ℕ). set l n (last_index xs)) f.lasts ∙ sym (map-set (λ (v : NodeView). v.last) vs n _);
        kept = kept_still;
      }
  follows_after (commit n i) = record { fronts = f.fronts; lasts = f.lasts; kept = kept_still }
  follows_after (terms old new t) = record { fronts = f.fronts; lasts = f.lasts; kept = kept_still }
  follows_after (election l t p n) = record { fronts = f.fronts; lasts = f.lasts; kept = kept_still }
  follows_after check = record { fronts = f.fronts; lasts = f.lasts; kept = kept_still }
  follows_after (rows rs) = record { fronts = f.fronts; lasts = f.lasts; kept = kept_still }
  follows_after (leader n t) = record { fronts = f.fronts; lasts = f.lasts; kept = kept_then n t }

-- ---- after every list

abbrev pub FollowsEvents : History → List Event → Type 0
FollowsEvents h es = Follows h (shown_from no_views es) (λ n t. met_from n t no_views es)

pub follows_first : FollowsEvents fresh []
unfolding shown_from met_from last_met kept_of
follows_first = record { fronts = refl; lasts = refl; kept = λ n t. refl }

pub follows_step : (h : History) (es : List Event) (e : Event) → FollowsEvents h es → FollowsEvents (effect h e.event) (es ++ (e ∷ []))
follows_step h es e f =
    let a = follows_after h (shown_from no_views es) (λ n t. met_from n t no_views es) f e.event in
    let vs = shown_snoc no_views es e in
    record {
      fronts = a.fronts ∙ ap (λ (l : List NodeView). map (λ (v : NodeView). v.front) l) (sym vs);
      lasts = a.lasts ∙ ap (λ (l : List NodeView). map (λ (v : NodeView). v.last) l) (sym vs);
      kept = λ n t. a.kept n t ∙ ap (λ (l : List NodeView). kept_if n t (last_met l)) (sym (met_snoc n t no_views es e));
    }

pub follows : (ss : List Bytes) → FollowsEvents (history_of ss) (events_of ss)
follows =
    by_events (λ h g es. FollowsEvents h es) follows_first
    (λ h g es r _ f. follows_step h es (record { history = h; ledger = g; event = r }) f)

pub kept_exactly : KeptExactly
kept_exactly ss = (follows ss).kept

-- ---- the kept pairs

-- no pair twice, and those of the list
abbrev Holds : List LeaderLog → List Leader → Type 0
Holds ks ps = Distinct (map kept_pair ks) × ((p : Leader) → Memᴰ p (map kept_pair ks) ↔ Memᴰ p ps)

-- the pairs with one more
one_more : (ks : List LeaderLog) (v : LeaderLog) (ps : List Leader) → Holds ks ps → Holds (kept_with ks v) (ps ++ (kept_pair v ∷ []))
one_more ks v ps w =
    let e = pairs_with ks v in (
      subst Distinct (sym e) (with_distinct same_pair (map kept_pair ks) (kept_pair v) w.0),
      λ p. (
        λ m. ⊎_elim (λ k. Memᴰ.append_left (kept_pair v ∷ []) ((w.1 p).0 k)) (λ q. Memᴰ.append_right ps (Memᴰ.head q))
            (with_cases same_pair (map kept_pair ks) (kept_pair v) p (subst (Memᴰ p) e m)),
        λ m. subst (Memᴰ p) (sym e)
            (⊎_elim (λ k. with_old same_pair (map kept_pair ks) (kept_pair v) p ((w.1 p).1 k))
            (λ k. Memᴰ.cast (Memᴰ.eq_of_singleton k) (with_new same_pair (map kept_pair ks) (kept_pair v)))
            (Memᴰ.append_cases ps m)),
      ),
    )

holds_after : (h : History) (ps : List Leader) (r : Record) → Holds h.leader_logs ps → Holds (effect h r).leader_logs (ps ++ pairs_in r)
unfolding view_effect commit_effect terms_effect election_effect check_effect leader_effect leader_kept
holds_after h ps (view n xs) w = subst (Holds h.leader_logs) (sym (append-nil ps)) w
holds_after h ps (commit n i) w = subst (Holds h.leader_logs) (sym (append-nil ps)) w
holds_after h ps (terms old new t) w = subst (Holds h.leader_logs) (sym (append-nil ps)) w
holds_after h ps (election l t p n) w = subst (Holds h.leader_logs) (sym (append-nil ps)) w
holds_after h ps check w = subst (Holds h.leader_logs) (sym (append-nil ps)) w
holds_after h ps (rows rs) w = subst (Holds h.leader_logs) (sym (append-nil ps)) w
holds_after h ps (leader n t) w = one_more h.leader_logs (present h n t) ps w

holds : (ss : List Bytes) → Holds (history_of ss).leader_logs (accepted_pairs ss)
holds =
    by_events (λ h g es. Holds h.leader_logs (all_pairs_in es))
    (unfold gathered in (tt, λ p. (λ m. m, λ m. m)))
    (λ h g es r _ w.
    subst (Holds (effect h r).leader_logs) (sym (gathered_snoc (λ e. pairs_in e.event) es _))
    (holds_after h (all_pairs_in es) r w))

pub kept_once : KeptOnce
kept_once ss = (holds ss).0

pub kept_pairs_are : KeptPairs
kept_pairs_are ss = (holds ss).1

-- ---- refusal 14

pub fourteen_exactly : FourteenExactly
unfolding leader_refusal leader_kept
fourteen_exactly ss n t count c =
    let h = history_of ss in
    let v = present h n t in
    let w = one_more h.leader_logs v (accepted_pairs ss) (holds ss) in
    let size : length (kept_with h.leader_logs v) ≡ count =
    sym (length-map (kept_with h.leader_logs v) kept_pair)
    ∙ counted same_pair (λ p. Memᴰ p (accepted_pairs ss) ⊎ (p ≡ pair n t)) (map kept_pair (kept_with h.leader_logs v)) w.0
    (λ p. (
      λ m. ⊎_elim (λ k. inl k) (λ k. inr (Memᴰ.eq_of_singleton k)) (Memᴰ.append_cases (accepted_pairs ss) ((w.1 p).0 m)),
      λ x. (w.1 p).1 (⊎_elim (λ k. Memᴰ.append_left (pair n t ∷ []) k) (λ e. Memᴰ.append_right (accepted_pairs ss) (Memᴰ.head e)) x),
    ))
    count c in
    subst (λ (k : ℕ). (refusal h (leader n t) ≡ some leaderLogsFull) ↔ (leader_log_limit < k)) size
    (exceeds leader_log_limit (length (kept_with h.leader_logs v)) leaderLogsFull
    (cond (ltb finding_limit (length (leader_findings h n t))) (some findingsFull) none)
    (apart findingsFull leaderLogsFull (ltb finding_limit (length (leader_findings h n t))) (λ e. omega arith)))

-- ---- each front is empty or stored

-- more prefixes
more_stored : (ps qs : List Prefix) (p : Prefix) → ((q : Prefix) → Memᴰ q ps → Memᴰ q qs) → EmptyOrStored ps p → EmptyOrStored qs p
more_stored ps qs p f s = ⊎_elim (λ e. inl e) (λ m. inr (f p m)) s

-- a front is a prefix of itself
own_front : (ps : List Prefix) (p : Prefix) → EmptyOrStored (stored ps p) p
own_front ps [] = inl refl
own_front ps (e ∷ p) =
    inr ((stored_mem ps (e ∷ p) (e ∷ p)).1 (inr (length (e ∷ p), omega arith, omega arith, sym (take-length (e ∷ p)))))

-- a list with a place replaced
replaced : (Q : Prefix → Type 0) (l : List Prefix) (n : ℕ) (x : Prefix) → ((i : ℕ) → Q (get_or l i [])) → Q x
    → (i : ℕ) → Q (get_or (set l n x) i [])
replaced Q [] n x f q i = f i
replaced Q (y ∷ l) zero x f q zero = q
replaced Q (y ∷ l) zero x f q (suc i) = f (suc i)
replaced Q (y ∷ l) (suc n) x f q zero = f zero
replaced Q (y ∷ l) (suc n) x f q (suc i) = replaced Q l n x (λ j. f (suc j)) q i

fronts_view : (h : History) (n : ℕ) (xs : List Shown) → FrontsIn h → FrontsIn (effect h (view n xs))
unfolding view_effect
fronts_view h n xs f =
    let p = front xs in
    let qs = stored h.prefixes p in
    let more : (x : Prefix) → EmptyOrStored h.prefixes x → EmptyOrStored qs x =
    λ x. more_stored h.prefixes qs x (λ q m. (stored_mem h.prefixes p q).1 (inl m)) in
    record {
      nodes = replaced (EmptyOrStored qs) h.fronts n p (λ i. more (get_or h.fronts i []) (f.nodes i)) (own_front h.prefixes p);
      kept = λ k m. more k.front (f.kept k m);
    }

fronts_after : (h : History) (r : Record) → FrontsIn h → FrontsIn (effect h r)
unfolding commit_effect terms_effect election_effect check_effect leader_effect leader_kept
fronts_after h (view n xs) f = fronts_view h n xs f
fronts_after h (commit n i) f = record { nodes = f.nodes; kept = f.kept }
fronts_after h (terms old new t) f = record { nodes = f.nodes; kept = f.kept }
fronts_after h (election l t p n) f = record { nodes = f.nodes; kept = f.kept }
fronts_after h check f = record { nodes = f.nodes; kept = f.kept }
fronts_after h (rows rs) f = f
fronts_after h (leader n t) f =
    record {
      nodes = f.nodes;
      kept = λ k m. ⊎_elim (λ e. subst (λ (x : LeaderLog). EmptyOrStored h.prefixes x.front) (sym e) (f.nodes n)) (f.kept k)
          (kept_cases h.leader_logs (present h n t) k m);
    }

pub fronts_stored : FrontsStored
fronts_stored =
    by_events (λ h g es. FrontsIn h)
    (record { nodes = replaced_none 64; kept = λ k m. absurd (Memᴰ.not-nil m) })
    (λ h g es r _ f. fronts_after h r f)
  where
    replaced_none : (k : ℕ) (n : ℕ) → EmptyOrStored [] (get_or (replicate k []) n [])
    replaced_none zero n = inl refl
    replaced_none (suc k) zero = inl refl
    replaced_none (suc k) (suc n) = replaced_none k n
