-- Committed prefixes: from fresh, the LG-04 list is empty exactly if any two committed prefixes seen agree through the shorter.
-- Assumes nothing.
use Prim.Native.Nat.{ℕ, ◌<◌, ◌≤◌, min}
use native.Mathlib.Omega.{arith}
use mathlib.Core.Path.{◌≡◌, refl, sym, ◌∙◌, ap, subst}
use mathlib.Core.Bool.{true, false, cond, ◌&&◌}
use mathlib.Core.Logic.{◌⊎◌, inl, inr, ⊎_elim, ◌↔◌}
use mathlib.Core.List.{List, [], ◌∷◌, ◌++◌, append-nil, append_assoc, Memᴰ}
use lib.Dec.{leb, ltb}
use lib.ListN.{length, get_or, take, set, length-take}
use lib.Seq.{take-length, take-take}
use borrow.Author.Tests.{ltb-true, ltb-false, lt-ltb, le-leb}
use Rattle.model.specs.Sizes.{Bytes}
use Rattle.model.specs.Entry.{Prefix, agree}
use Rattle.model.specs.Record.{Record, view, commit, terms, election, check, rows, leader, front}
use Rattle.model.specs.History.{Finding, History, front_of}
use Rattle.model.specs.View.{prefixes_of, view_effect}
use Rattle.model.specs.Commit.{through, seen, replaces, differences, commit_effect}
use Rattle.model.specs.Terms.{terms_effect}
use Rattle.model.specs.Election.{election_effect}
use Rattle.model.specs.Check.{check_effect}
use Rattle.model.specs.LeaderLog.{kept_of, present, leader_effect}
use Rattle.model.specs.Answer.{effect}
use Rattle.model.specs.Ledger.{Ledger, entered}
use Rattle.model.specs.Run.{history_of, ledger_of, gathered}
use Rattle.model.specs.Statements.{brought_by, shown_by, seen_by, seen_in, committed_seen, Agreeing, CommittedPrefixes}
use Rattle.model.proofs.Tests.{either, cond_true, cond_false, and_left, and_right, and_both, and_false, same_yes, yes_same}
use Rattle.model.proofs.Run.{by_events, gathered_snoc}
use Rattle.model.proofs.Matching.{Without, none_printed, without_after, without_nil, mismatches_name, lackings_name, rewritings_name}

-- ---- what is seen

-- a commit record shows its prefix, or nothing
seen_cases : (p : Prefix) (i : ℕ)
    → (shown_by p i ≡ through p i ∷ []) ⊎ ((shown_by p i ≡ []) × (through p i ≡ []))
seen_cases p i = go (either (ltb 0 i && leb i (length p)))
  where
    go : (ltb 0 i && leb i (length p) ≡ true) ⊎ (ltb 0 i && leb i (length p) ≡ false)
        → (shown_by p i ≡ through p i ∷ []) ⊎ ((shown_by p i ≡ []) × (through p i ≡ []))
    go (inl t) =
        inl (cond_true _ (take i p ∷ []) [] t
        ∙ ap (λ (x : Prefix). x ∷ []) (sym (cond_true (leb i (length p)) (take i p) [] (and_right (ltb 0 i) (leb i (length p)) t))))
    go (inr f) =
        inr (
          cond_false _ (take i p ∷ []) [] f,
          ⊎_elim (λ z. zeroth (ltb-false 0 i z)) (λ k. cond_false (leb i (length p)) (take i p) [] k)
              (and_false (ltb 0 i) (leb i (length p)) f),
        )
      where
        zeroth : i ≤ 0 → through p i ≡ []
        zeroth h =
            let z : i ≡ 0 = omega arith in
            ap (through p) z ∙ cond_true (leb 0 (length p)) [] [] (le-leb 0 (length p) (omega arith))

-- ---- agreement

agree_yes : (c p : Prefix) → agree c p ≡ true → take (min (length c) (length p)) c ≡ take (min (length c) (length p)) p
unfolding agree
agree_yes c p e = same_yes _ _ e

yes_agree : (c p : Prefix) → take (min (length c) (length p)) c ≡ take (min (length c) (length p)) p → agree c p ≡ true
unfolding agree
yes_agree c p e = yes_same _ _ e

-- no LG-04 is brought exactly if the two agree
differences_none : (n : ℕ) (c p : Prefix) → Without 4 (differences n c p) ↔ (agree c p ≡ true)
unfolding differences
differences_none n c p = (
  λ w. ⊎_elim (λ t. t)
      (λ f. absurd (w lg4 (subst (λ (l : List Finding). Memᴰ lg4 l) (sym (cond_false (agree c p) [] (lg4 ∷ []) f)) (mathlib.Core.List.Memᴰ.head refl)) refl))
      (either (agree c p)),
  λ t. subst (Without 4) (sym (cond_true (agree c p) [] (lg4 ∷ []) t)) (without_nil 4),
)
  where
    lg4 : Finding
    lg4 = record { name = 4; node = n; index = min (length c) (length p); term = 0 }

abbrev kept : Prefix → Prefix → Prefix
kept c p = cond (replaces c p) p c

-- a mismatch is not kept: what replaces the committed prefix agrees with it, and is longer
pub replaced_agrees : (c p : Prefix) → replaces c p ≡ true → (agree c p ≡ true) × (length c < length p)
unfolding replaces
replaced_agrees c p e = (and_left (agree c p) _ e, ltb-true (length c) (length p) (and_right (agree c p) _ e))

-- and what agrees and is longer replaces it. What follows rests on these two laws, not on how the test is defined
pub agreeing_replaces : (c p : Prefix) → agree c p ≡ true → length c < length p → replaces c p ≡ true
unfolding replaces
agreeing_replaces c p a h = and_both (agree c p) _ a (lt-ltb (length c) (length p) h)

kept_longer : (c p : Prefix) → agree c p ≡ true → length c < length p → (kept c p ≡ p) × (take (length c) p ≡ c)
kept_longer c p a h = (
  cond_true (replaces c p) p c (agreeing_replaces c p a h),
  let m : min (length c) (length p) ≡ length c = omega arith in
      let e : take (length c) c ≡ take (length c) p =
      subst (λ (k : ℕ). take k c ≡ take k p) m (agree_yes c p a) in
      sym e ∙ take-length c,
)

kept_shorter : (c p : Prefix) → agree c p ≡ true → length p ≤ length c → (kept c p ≡ c) × (take (length p) c ≡ p)
kept_shorter c p a h = (
  ⊎_elim (λ t. absurd (let q = (replaced_agrees c p t).1 in omega arith)) (λ f. cond_false (replaces c p) p c f) (either (replaces c p)),
  let m : min (length c) (length p) ≡ length p = omega arith in
      let e : take (length p) c ≡ take (length p) p =
      subst (λ (k : ℕ). take k c ≡ take k p) m (agree_yes c p a) in
      e ∙ take-length p,
)

-- one of the two is kept
kept_cases : (c p : Prefix) → (kept c p ≡ p) ⊎ (kept c p ≡ c)
kept_cases c p =
    ⊎_elim (λ t. inl (cond_true (replaces c p) p c t)) (λ f. inr (cond_false (replaces c p) p c f)) (either (replaces c p))

-- a prefix of c is one of whatever begins with c
carry : (c p q : Prefix) → take (length q) c ≡ q → take (length c) p ≡ c → take (length q) p ≡ q
carry c p q e f =
    let l : min (length q) (length c) ≡ length q = sym (length-take (length q) c) ∙ ap length e in
    let h : length q ≤ length c = omega arith in
    sym (take-take (length q) (length c) p h) ∙ ap (take (length q)) f ∙ e

-- ---- kept by each accepted record

pub record Inv (c : Prefix) (fs : List Finding) (ps : List Prefix) : Type 0 where
  -- a committed prefix that is not empty was seen
  pub is_seen : (c ≡ [] → ⊥) → Memᴰ c ps
  -- without an LG-04, the committed prefix begins with each one seen
  pub reaches : Without 4 fs → (p : Prefix) → Memᴰ p ps → take (length p) c ≡ p
  -- while all that was seen agrees there is no LG-04
  pub clear : Agreeing ps → Without 4 fs

-- a record that brings no LG-04 and shows no committed prefix
inv_other : (h : History) (r : Record) (ps : List Prefix) → Without 4 (brought_by h r)
    → Inv h.committed h.findings ps → Inv h.committed (effect h r).findings ps
inv_other h r ps b v =
    record {
      is_seen = v.is_seen;
      reaches = λ w. v.reaches ((without_after 4 h r).0 w).0;
      clear = λ a. (without_after 4 h r).1 (v.clear a, b);
    }

-- the new one agrees with the committed prefix if it agrees with all seen
agree_seen : (c p : Prefix) (ps : List Prefix) → ((c ≡ [] → ⊥) → Memᴰ c ps) → Agreeing (ps ++ (p ∷ [])) → agree c p ≡ true
agree_seen [] p ps s a = yes_agree [] p (ap (λ (k : ℕ). take k []) zeroth ∙ sym (ap (λ (k : ℕ). take k p) zeroth))
  where
    zeroth : min 0 (length p) ≡ 0
    zeroth = omega arith
agree_seen (e ∷ c) p ps s a =
    yes_agree (e ∷ c) p
    (a (e ∷ c) p (mathlib.Core.List.Memᴰ.append_left (p ∷ []) (s (λ x. let z : ◌≡◌ {A = ℕ} 0 1 = cc in omega arith)))
    (mathlib.Core.List.Memᴰ.append_right ps (mathlib.Core.List.Memᴰ.head refl)))

inv_shown : (h : History) (n i : ℕ) (ps : List Prefix) → Inv h.committed h.findings ps
    → Inv (kept h.committed (seen h n i)) (effect h (commit n i)).findings (ps ++ (seen h n i ∷ []))
inv_shown h n i ps v = record { is_seen = is_seen'; reaches = reaches'; clear = clear' }
  where
    c : Prefix
    c = h.committed

    p : Prefix
    p = seen h n i

    is_seen' : (kept h.committed (seen h n i) ≡ [] → ⊥) → Memᴰ (kept h.committed (seen h n i)) (ps ++ (seen h n i ∷ []))
    is_seen' ne =
        ⊎_elim (λ e. mathlib.Core.List.Memᴰ.append_right ps (mathlib.Core.List.Memᴰ.head e))
        (λ e. mathlib.Core.List.Memᴰ.cast e (mathlib.Core.List.Memᴰ.append_left (seen h n i ∷ []) (v.is_seen (λ z. ne (e ∙ z)))))
        (kept_cases h.committed (seen h n i))

    reaches' : Without 4 (effect h (commit n i)).findings → (q : Prefix) → Memᴰ q (ps ++ (seen h n i ∷ []))
        → take (length q) (kept h.committed (seen h n i)) ≡ q
    reaches' w q m =
        let b = (without_after 4 h (commit n i)).0 w in
        let a : agree c p ≡ true = (differences_none n c p).0 b.1 in
        let old : Memᴰ q ps → take (length q) c ≡ q = v.reaches b.0 q in
        ⊎_elim
        (λ t.
        let k = kept_longer c p a (ltb-true (length c) (length p) t) in
        ⊎_elim (λ o. ap (take (length q)) k.0 ∙ carry c p q (old o) k.1)
        (λ s. ap (take (length q)) k.0 ∙ (let e = mathlib.Core.List.Memᴰ.eq_of_singleton s in ap (λ (x : Prefix). take (length x) p) e ∙ take-length p ∙ sym e))
        (mathlib.Core.List.Memᴰ.append_cases ps m))
        (λ f.
        let k = kept_shorter c p a (ltb-false (length c) (length p) f) in
        ⊎_elim (λ o. ap (take (length q)) k.0 ∙ old o)
        (λ s. ap (take (length q)) k.0 ∙ (let e = mathlib.Core.List.Memᴰ.eq_of_singleton s in ap (λ (x : Prefix). take (length x) c) e ∙ k.1 ∙ sym e))
        (mathlib.Core.List.Memᴰ.append_cases ps m))
        (either (ltb (length c) (length p)))

    clear' : Agreeing (ps ++ (seen h n i ∷ [])) → Without 4 (effect h (commit n i)).findings
    clear' a =
        (without_after 4 h (commit n i)).1 (
          v.clear (λ x y mx my. a x y (mathlib.Core.List.Memᴰ.append_left (seen h n i ∷ []) mx) (mathlib.Core.List.Memᴰ.append_left (seen h n i ∷ []) my)),
          (differences_none n c p).1 (agree_seen c p ps v.is_seen a),
        )

-- nothing seen
inv_hidden : (h : History) (n i : ℕ) (ps : List Prefix) → seen h n i ≡ [] → Inv h.committed h.findings ps
    → Inv (kept h.committed (seen h n i)) (effect h (commit n i)).findings ps
inv_hidden h n i ps e v =
    let c = h.committed in
    let a : agree c (seen h n i) ≡ true =
    subst (λ (p : Prefix). agree c p ≡ true) (sym e) (yes_agree c [] (let z : min (length c) 0 ≡ 0 = omega arith in ap (λ (k : ℕ). take k c) z ∙ sym (ap (λ (k : ℕ). take k []) z))) in
    let k = kept_shorter c (seen h n i) a (subst (λ (p : Prefix). length p ≤ length c) (sym e) (omega arith)) in
    subst (λ (x : Prefix). Inv x (effect h (commit n i)).findings ps) (sym k.0)
    (inv_other h (commit n i) ps ((differences_none n c (seen h n i)).1 a) v)

module _ (h : History) (g : Ledger) (same-fronts : h.fronts ≡ g.fronts) (ps : List Prefix) where
  keep : (r : Record) → Inv h.committed h.findings ps
      → Inv (effect h r).committed (effect h r).findings (ps ++ seen_by g r)
  unfolding view_effect commit_effect terms_effect election_effect check_effect leader_effect
  keep (view n xs) v =
      subst (Inv h.committed (effect h (view n xs)).findings) (sym (append-nil ps))
      (inv_other h (view n xs) ps (mismatches_name 4 n h.prefixes (prefixes_of (front xs)) (λ e. omega arith)) v)
  keep (commit n i) v =
      let front-h : shown_by (get_or g.fronts n []) i ≡ shown_by (front_of h n) i =
      ap (λ (l : List Prefix). shown_by (get_or l n []) i) (sym same-fronts) in
      let After : List Prefix → Type 0 = Inv (kept h.committed (seen h n i)) (effect h (commit n i)).findings in
      ⊎_elim (λ e. subst (λ (l : List Prefix). After (ps ++ l)) (sym (front-h ∙ e)) (inv_shown h n i ps v))
      (λ e. subst (λ (l : List Prefix). After (ps ++ l)) (sym (front-h ∙ e.0))
      (subst After (sym (append-nil ps)) (inv_hidden h n i ps e.1 v)))
      (seen_cases (front_of h n) i)
  keep (terms old new t) v =
      subst (Inv h.committed h.findings) (sym (append-nil ps)) (inv_other h (terms old new t) ps (without_nil 4) v)
  keep (election l t p n) v =
      subst (Inv h.committed h.findings) (sym (append-nil ps)) (inv_other h (election l t p n) ps (without_nil 4) v)
  keep check v =
      subst (Inv h.committed (effect h check).findings) (sym (append-nil ps))
      (inv_other h check ps (lackings_name 4 h.committed h.terms h.certificates (λ e. omega arith)) v)
  keep (rows rs) v = subst (Inv h.committed h.findings) (sym (append-nil ps)) v
  keep (leader n t) v =
      subst (Inv h.committed (effect h (leader n t)).findings) (sym (append-nil ps))
      (inv_other h (leader n t) ps (rewritings_name 4 (kept_of h.leader_logs n t) (present h n t) (λ e. omega arith)) v)

-- the fronts are the ledger's
keep_fronts : (h : History) (g : Ledger) (r : Record) → h.fronts ≡ g.fronts → (effect h r).fronts ≡ (entered g r).fronts
unfolding view_effect commit_effect terms_effect election_effect check_effect leader_effect
keep_fronts h g (view n xs) e = ap (λ (l : List Prefix). set l n (front xs)) e
keep_fronts h g (commit n i) e = e
keep_fronts h g (terms old new t) e = e
keep_fronts h g (election l t p n) e = e
keep_fronts h g check e = e
keep_fronts h g (rows rs) e = e
keep_fronts h g (leader n t) e = e

inv : (ss : List Bytes)
    → ((history_of ss).fronts ≡ (ledger_of ss).fronts) × Inv (history_of ss).committed (history_of ss).findings (committed_seen ss)
inv =
    by_events (λ h g es. (h.fronts ≡ g.fronts) × Inv h.committed h.findings (seen_in es)) (
      refl,
      record {
        is_seen = λ n. absurd (n refl);
        reaches = unfold gathered in λ _ p m. absurd (mathlib.Core.List.Memᴰ.not-nil m);
        clear = λ _. without_nil 4;
      },
    )
    (λ h g es r _ v. (
      keep_fronts h g r v.0,
      subst (Inv (effect h r).committed (effect h r).findings) (sym (gathered_snoc (λ e. seen_by e.ledger e.event) es (record { history = h; ledger = g; event = r })))
          (keep h g v.0 (seen_in es) r v.1),
    ))

-- the history's fronts are the ledger's
pub fronts_alike : (ss : List Bytes) → (history_of ss).fronts ≡ (ledger_of ss).fronts
fronts_alike ss = (inv ss).0

-- two beginnings of one prefix agree through the shorter
both_begin : (c p q : Prefix) → take (length p) c ≡ p → take (length q) c ≡ q
    → take (min (length p) (length q)) p ≡ take (min (length p) (length q)) q
both_begin c p q e f =
    let m = min (length p) (length q) in
    sym (ap (take m) e) ∙ take-take m (length p) c (omega arith) ∙ sym (take-take m (length q) c (omega arith)) ∙ ap (take m) f

pub committed_prefixes : CommittedPrefixes
committed_prefixes ss = (
  λ n p q mp mq.
      let w = (none_printed 4 (history_of ss)).0 n in
      both_begin (history_of ss).committed p q ((inv ss).1.reaches w p mp) ((inv ss).1.reaches w q mq),
  λ a. (none_printed 4 (history_of ss)).1 ((inv ss).1.clear a),
)
