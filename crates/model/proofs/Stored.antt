-- Stored prefixes: from fresh they are distinct and exactly the nonempty prefixes of the accepted fronts. So refusal 6 is
-- answered exactly when those, with the view's own, would exceed 512; and 7 when the findings would exceed 128, after 6 and 14.
-- Assumes nothing.
use Prim.Native.Nat.{ℕ, zero, suc, ◌+◌, ◌<◌, ◌≤◌, zero-le}
use native.Mathlib.Nat.{le_of_suc-le-suc, not-suc-le-zero}
use native.Mathlib.Omega.{arith}
use mathlib.Core.Path.{◌≡◌, refl, sym, ◌∙◌, ap, subst}
use mathlib.Core.Bool.{Bool, true, false, cond}
use mathlib.Core.Logic.{◌⊎◌, inl, inr, ⊎_elim, ◌↔◌}
use mathlib.Core.List.Memᴰ
use mathlib.Core.List.{List, [], ◌∷◌, ◌++◌, append-nil, append_assoc, Memᴰ}
use mathlib.Core.Option.{Option, none, some}
use lib.Dec.{leb, ltb}
use lib.ListN.{length, take, length-map}
use borrow.Author.Tests.{ltb-true, ltb-false, lt-ltb, leb-false}
use Rattle.model.specs.Entry.{Prefix, prefixes}
use Rattle.model.specs.Refusal.{Refusal, number, prefixesFull, findingsFull, old_exceeds_new, lengthExceedsFront, certificatesFull, leaderLogsFull}
use Rattle.model.specs.Record.{Record, view, commit, terms, election, check, rows, leader, front}
use Rattle.model.specs.History.{Finding, Certificate, History, front_of, same_finding, noted}
use Rattle.model.specs.View.{prefixes_from, prefixes_of, stored, view_findings, view_refusal, view_effect}
use Rattle.model.specs.Commit.{commit_findings, commit_refusal, commit_effect}
use Rattle.model.specs.Terms.{first_changed, lowered, terms_effect}
use Rattle.model.specs.Election.{in_order, election_refusal, certificate, election_effect}
use Rattle.model.specs.Check.{moved, check_findings, check_refusal, check_effect}
use Rattle.model.specs.LeaderLog.{leader_kept, leader_findings, leader_refusal, leader_effect}
use Rattle.model.specs.Answer.{refusal, effect}
use Rattle.model.specs.Ledger.{Ledger}
use Rattle.model.specs.Run.{history_of, Event, events_of, gathered}
use Rattle.model.specs.Statements.{Distinct, front_in, fronts_in, accepted_fronts, PrefixOf, PrefixIn, StoredOnce, StoredExactly, Counts, SixExactly, brought_by, SevenExactly, Bounded, AlwaysBounded}
use Rattle.model.specs.Sizes.{Bytes, prefix_limit, certificate_limit, leader_log_limit, finding_limit}
use Rattle.model.proofs.Tests.{either, cond_cases, cond_true, cond_false}
use Rattle.model.proofs.Members.{all_old, all_new, all_cases, all_distinct, equally_long}
use Rattle.model.proofs.Run.{by_events, gathered_snoc}

-- ---- the prefixes that a front goes through

pub begun_yes : (p es q : Prefix) → Memᴰ q (prefixes_from p es) → (i : ℕ) × (0 < i) × (i ≤ length es) × (q ≡ p ++ take i es)
unfolding prefixes_from
begun_yes p [] q m = absurd (Memᴰ.not-nil m)
begun_yes p (e ∷ es) q m = ⊎_elim here (λ k. there (begun_yes (p ++ (e ∷ [])) es q k)) (Memᴰ.cases_cons m)
  where
    here : q ≡ p ++ (e ∷ []) → (i : ℕ) × (0 < i) × (i ≤ suc (length es)) × (q ≡ p ++ take i (e ∷ es))
    here x = (1, omega arith, omega arith, x)

    there : ((i : ℕ) × (0 < i) × (i ≤ length es) × (q ≡ (p ++ (e ∷ [])) ++ take i es))
        → (i : ℕ) × (0 < i) × (i ≤ suc (length es)) × (q ≡ p ++ take i (e ∷ es))
    there x = (suc x.0, omega arith, omega (arith, x.2), x.3 ∙ append_assoc p (e ∷ []) (take x.0 es))

pub yes_begun : (p es : Prefix) (i : ℕ) → 0 < i → i ≤ length es → Memᴰ (p ++ take i es) (prefixes_from p es)
unfolding prefixes_from
yes_begun p es zero z h = absurd (not-suc-le-zero z)
yes_begun p [] (suc i) z h = absurd (not-suc-le-zero h)
yes_begun p (e ∷ es) (suc zero) z h = Memᴰ.head refl
yes_begun p (e ∷ es) (suc (suc i)) z h =
    Memᴰ.tail (Memᴰ.cast (sym (append_assoc p (e ∷ []) (take (suc i) es)))
    (yes_begun (p ++ (e ∷ [])) es (suc i) (omega arith) (le_of_suc-le-suc h)))

pub begun_prefix : (p q : Prefix) → Memᴰ q (prefixes_of p) ↔ PrefixOf p q
begun_prefix p q = (λ m. begun_yes [] p q m, λ x. Memᴰ.cast x.3 (yes_begun [] p x.0 x.1 x.2))

pub stored_mem : (ps : List Prefix) (p q : Prefix) → Memᴰ q (stored ps p) ↔ (Memᴰ q ps ⊎ PrefixOf p q)
unfolding stored
stored_mem ps p q = (
  λ m. ⊎_elim (λ k. inl k) (λ k. inr ((begun_prefix p q).0 k)) (all_cases prefixes ps (prefixes_of p) q m),
  ⊎_elim (λ k. all_old prefixes ps (prefixes_of p) q k) (λ x. all_new prefixes ps (prefixes_of p) q ((begun_prefix p q).1 x)),
)

pub stored_distinct : (ps : List Prefix) (p : Prefix) → Distinct ps → Distinct (stored ps p)
unfolding stored
stored_distinct ps p u = all_distinct prefixes ps (prefixes_of p) u

-- ---- kept by each accepted record

abbrev Inv : History → List Event → Type 0
Inv h es = Distinct h.prefixes × ((q : Prefix) → Memᴰ q h.prefixes ↔ PrefixIn (fronts_in es) q)

in_append : (ps : List Prefix) (p q : Prefix) → (PrefixIn ps q ⊎ PrefixOf p q) ↔ PrefixIn (ps ++ (p ∷ [])) q
in_append ps p q = (⊎_elim old new, both)
  where
    old : PrefixIn ps q → PrefixIn (ps ++ (p ∷ [])) q
    old x = (x.0, Memᴰ.append_left (p ∷ []) x.1, x.2)

    new : PrefixOf p q → PrefixIn (ps ++ (p ∷ [])) q
    new x = (p, Memᴰ.append_right ps (Memᴰ.head refl), x)

    both : PrefixIn (ps ++ (p ∷ [])) q → PrefixIn ps q ⊎ PrefixOf p q
    both x =
        ⊎_elim (λ m. inl (x.0, m, x.2))
        (λ m. inr (subst (λ (z : Prefix). PrefixOf z q) (Memᴰ.eq_of_singleton m) x.2))
        (Memᴰ.append_cases ps x.1)

-- a view's
inv_view : (h : History) (es : List Event) (p : Prefix) → Inv h es
    → Distinct (stored h.prefixes p) × ((q : Prefix) → Memᴰ q (stored h.prefixes p) ↔ PrefixIn (fronts_in es ++ (p ∷ [])) q)
inv_view h es p v = (
  stored_distinct h.prefixes p v.0,
  λ q. (
    λ m. (in_append (fronts_in es) p q).0 (⊎_elim (λ k. inl ((v.1 q).0 k)) (λ k. inr k) ((stored_mem h.prefixes p q).0 m)),
    λ x. (stored_mem h.prefixes p q).1 (⊎_elim (λ k. inl ((v.1 q).1 k)) (λ k. inr k) ((in_append (fronts_in es) p q).1 x)),
  ),
)

abbrev Held : List Prefix → List Prefix → Type 0
Held ps fs = Distinct ps × ((q : Prefix) → Memᴰ q ps ↔ PrefixIn fs q)

-- the front of the record is added to those before; every other kind leaves prefixes and fronts as they are
keep_front : (h : History) (es : List Event) (r : Record) → Inv h es → Held (effect h r).prefixes (fronts_in es ++ front_in r)
unfolding view_effect commit_effect terms_effect election_effect check_effect leader_effect
keep_front h es (view n xs) v = inv_view h es (front xs) v
keep_front h es (commit n i) v = subst (Held h.prefixes) (sym (append-nil (fronts_in es))) v
keep_front h es (terms old new t) v = subst (Held h.prefixes) (sym (append-nil (fronts_in es))) v
keep_front h es (election l t p n) v = subst (Held h.prefixes) (sym (append-nil (fronts_in es))) v
keep_front h es check v = subst (Held h.prefixes) (sym (append-nil (fronts_in es))) v
keep_front h es (rows rs) v = subst (Held h.prefixes) (sym (append-nil (fronts_in es))) v
keep_front h es (leader n t) v = subst (Held h.prefixes) (sym (append-nil (fronts_in es))) v

keep : (h : History) (g : Ledger) (es : List Event) (r : Record) → refusal h r ≡ none → Inv h es
    → Inv (effect h r) (es ++ (record { history = h; ledger = g; event = r } ∷ []))
keep h g es r _ v = subst (Held (effect h r).prefixes) (sym (gathered_snoc (λ e. front_in e.event) es _)) (keep_front h es r v)

inv : (ss : List Bytes) → Inv (history_of ss) (events_of ss)
inv =
    by_events (λ h g es. Inv h es)
    (tt, λ q. (λ m. absurd (Memᴰ.not-nil m), unfold gathered in λ x. absurd (Memᴰ.not-nil x.1)))
    keep

pub stored_once : StoredOnce
stored_once ss = (inv ss).0

pub stored_exactly : StoredExactly
stored_exactly ss = (inv ss).1

-- ---- refusals 6 and 7

-- a list without doubles has as many members as are counted
pub counted : {A : Type 0} (d : Discrete A) (P : A → Type 0) (xs : List A) → Distinct xs → ((x : A) → Memᴰ x xs ↔ P x)
    → (n : ℕ) → Counts n P → length xs ≡ n
counted d P xs u f n c =
    equally_long d xs c.0 u c.1 (λ x m. (c.3 x).1 ((f x).0 m)) (λ x m. (f x).1 ((c.3 x).0 m)) ∙ c.2

-- "would exceed": the test passes exactly when the number does
pub exceeds : {A : Type 0} (limit n : ℕ) (a : A) (o : Option A) → (o ≡ some a → ⊥)
    → (cond (ltb limit n) (some a) o ≡ some a) ↔ (limit < n)
exceeds limit n a o apart = (
  λ e. ⊎_elim (λ t. ltb-true limit n t) (λ t. absurd (apart (sym (cond_false (ltb limit n) (some a) o t) ∙ e))) (either (ltb limit n)),
  λ h. cond_true (ltb limit n) (some a) o (lt-ltb limit n h),
)

-- two refusals differ where their numbers do
number_of : Option Refusal → ℕ
number_of none = 0
number_of (some r) = number r

unlike : (a b : Refusal) → (number a ≡ number b → ⊥) → some a ≡ some b → ⊥
unfolding number_of
unlike a b n e = n (ap number_of e)

pub apart : (a b : Refusal) (t : Bool) → (number a ≡ number b → ⊥) → cond t (some a) none ≡ some b → ⊥
apart a b true n e = unlike a b n e
apart a b false n e = let z : ◌≡◌ {A = ℕ} 0 1 = cc in omega arith

pub six_exactly : SixExactly
unfolding view_refusal
six_exactly ss n xs count c =
    let h = history_of ss in
    let size : length (stored h.prefixes (front xs)) ≡ count =
    counted prefixes (λ q. PrefixIn (accepted_fronts ss) q ⊎ PrefixOf (front xs) q) (stored h.prefixes (front xs))
    (stored_distinct h.prefixes (front xs) (stored_once ss))
    (λ q. (
      λ m. ⊎_elim (λ k. inl ((stored_exactly ss q).0 k)) (λ k. inr k) ((stored_mem h.prefixes (front xs) q).0 m),
      λ x. (stored_mem h.prefixes (front xs) q).1 (⊎_elim (λ k. inl ((stored_exactly ss q).1 k)) (λ k. inr k) x),
    ))
    count c in
    subst (λ (k : ℕ). (refusal h (view n xs) ≡ some prefixesFull) ↔ (prefix_limit < k)) size
    (exceeds prefix_limit (length (stored h.prefixes (front xs))) prefixesFull
    (cond (ltb finding_limit (length (view_findings h n (front xs)))) (some findingsFull) none)
    (apart findingsFull prefixesFull (ltb finding_limit (length (view_findings h n (front xs)))) (λ e. omega arith)))

-- ---- the findings

noted_mem : (fs gs : List Finding) (f : Finding) → Memᴰ f (noted fs gs) ↔ (Memᴰ f fs ⊎ Memᴰ f gs)
unfolding noted
noted_mem fs gs f =
    (λ m. all_cases same_finding fs gs f m, ⊎_elim (λ m. all_old same_finding fs gs f m) (λ m. all_new same_finding fs gs f m))

noted_once : (fs gs : List Finding) → Distinct fs → Distinct (noted fs gs)
unfolding noted
noted_once fs gs u = all_distinct same_finding fs gs u

-- the findings after a record are those before with those it brings
pub findings_after : (h : History) (r : Record) (f : Finding)
    → Memᴰ f (effect h r).findings ↔ (Memᴰ f h.findings ⊎ Memᴰ f (brought_by h r))
unfolding view_effect view_findings commit_effect commit_findings terms_effect election_effect check_effect check_findings leader_effect leader_findings
findings_after h (view n xs) f = noted_mem h.findings _ f
findings_after h (commit n i) f = noted_mem h.findings _ f
findings_after h (terms old new t) f = (λ m. inl m, ⊎_elim (λ m. m) (λ m. absurd (Memᴰ.not-nil m)))
findings_after h (election l t p n) f = (λ m. inl m, ⊎_elim (λ m. m) (λ m. absurd (Memᴰ.not-nil m)))
findings_after h check f = noted_mem h.findings _ f
findings_after h (rows rs) f = (λ m. inl m, ⊎_elim (λ m. m) (λ m. absurd (Memᴰ.not-nil m)))
findings_after h (leader n t) f = noted_mem h.findings _ f

once_after : (h : History) (r : Record) → Distinct h.findings → Distinct (effect h r).findings
unfolding view_effect view_findings commit_effect commit_findings terms_effect election_effect check_effect check_findings leader_effect leader_findings
once_after h (view n xs) u = noted_once h.findings (brought_by h (view n xs)) u
once_after h (commit n i) u = noted_once h.findings (brought_by h (commit n i)) u
once_after h (terms old new t) u = u
once_after h (election l t p n) u = u
once_after h check u = noted_once h.findings (brought_by h check) u
once_after h (rows rs) u = u
once_after h (leader n t) u = noted_once h.findings (brought_by h (leader n t)) u

-- no refusal: the test failed, and so did those after it
unrefused : {A : Type 0} (b : Bool) (a : A) (o : Option A) → cond b (some a) o ≡ none → (b ≡ false) × (o ≡ none)
unrefused true a o e = absurd (let z : ◌≡◌ {A = ℕ} 0 1 = cc in omega arith)
unrefused false a o e = (refl, e)

passed : {A : Type 0} (limit n : ℕ) (a : A) (o : Option A) → cond (ltb limit n) (some a) o ≡ none → (n ≤ limit) × (o ≡ none)
passed limit n a o e = let u = unrefused (ltb limit n) a o e in (ltb-false limit n u.0, u.1)

-- one certificate more
placed_length : (c : Certificate) (cs : List Certificate) → length (in_order c cs) ≡ length cs + 1
unfolding in_order
placed_length c [] = refl
placed_length c (d ∷ ds) =
    cond_cases (λ (l : List Certificate). length l ≡ suc (length ds) + 1) (ltb c.term d.term) (c ∷ d ∷ ds) (d ∷ in_order c ds)
    (λ _. omega arith) (λ _. let e = placed_length c ds in omega arith)

-- as many prefixes, certificates, kept views and findings as fit
Fit : History → Type 0
Fit h =
    (length h.prefixes ≤ prefix_limit)
    × (length h.certificates ≤ certificate_limit)
    × (length h.leader_logs ≤ leader_log_limit)
    × (length h.findings ≤ finding_limit)

fit_after : (h : History) (r : Record) → refusal h r ≡ none → Bounded h → Fit (effect h r)
unfolding Fit view_effect view_refusal commit_effect commit_refusal terms_effect election_effect election_refusal check_effect check_refusal leader_effect leader_refusal
fit_after h (view n xs) e b =
    let six = passed prefix_limit (length (stored h.prefixes (front xs))) prefixesFull _ e in
    (six.0, b.certificates_fit, b.leader_logs_fit, (passed finding_limit (length (view_findings h n (front xs))) findingsFull none six.1).0)
fit_after h (commit n i) e b =
    (b.prefixes_fit, b.certificates_fit, b.leader_logs_fit, (passed finding_limit (length (commit_findings h n i)) findingsFull none e).0)
fit_after h (terms old new t) e b =
    (b.prefixes_fit, (let l = length-map h.certificates (lowered t (first_changed old new t h.terms)) in let f = b.certificates_fit in omega arith), b.leader_logs_fit, b.findings_fit)
fit_after h (election l t p n) e b =
    let nine = unrefused (ltb (length (front_of h l)) n) lengthExceedsFront _ e in
    let ten = unrefused (leb certificate_limit (length h.certificates)) certificatesFull _ nine.1 in
    let room = leb-false certificate_limit (length h.certificates) ten.0 in
    (b.prefixes_fit, (let k = placed_length (certificate h l t p n) h.certificates in omega arith), b.leader_logs_fit, b.findings_fit)
fit_after h check e b =
    (b.prefixes_fit, (let l = length-map h.certificates (moved h.committed) in let f = b.certificates_fit in omega arith), b.leader_logs_fit, (passed finding_limit (length (check_findings h)) findingsFull none e).0)
fit_after h (rows rs) e b = (b.prefixes_fit, b.certificates_fit, b.leader_logs_fit, b.findings_fit)
fit_after h (leader n t) e b =
    let fourteen = passed leader_log_limit (length (leader_kept h n t)) leaderLogsFull _ e in
    (b.prefixes_fit, b.certificates_fit, fourteen.0, (passed finding_limit (length (leader_findings h n t)) findingsFull none fourteen.1).0)

pub always_bounded : AlwaysBounded
unfolding Fit
always_bounded =
    by_events (λ h g es. Bounded h) (record { prefixes_fit = zero-le; certificates_fit = zero-le; leader_logs_fit = zero-le; findings_fit = zero-le; findings_once = tt })
    (λ h g es r e b.
    let fit = fit_after h r e b in
    record {
      prefixes_fit = fit.0;
      certificates_fit = fit.1;
      leader_logs_fit = fit.2;
      findings_fit = fit.3;
      findings_once = once_after h r b.findings_once;
    })

-- what is proved of 7: it is answered exactly where the findings, k of them, exceed 128, and neither 6 nor 14 is
Seven : ℕ → Option Refusal → Type 0
Seven k o =
    (o ≡ some findingsFull) ↔ ((o ≡ some prefixesFull → ⊥) × (o ≡ some leaderLogsFull → ⊥) × (finding_limit < k))

-- 7 comes after r, whose test is t
seven_test : (r : Refusal) (t : Bool) (k : ℕ) (o : Option Refusal)
    → o ≡ cond t (some r) (cond (ltb finding_limit k) (some findingsFull) none)
    → (r ≡ prefixesFull) ⊎ (r ≡ leaderLogsFull) → Seven k o
unfolding Seven
seven_test r true k o e w = (
  λ f. absurd (⊎_elim (λ q. unlike prefixesFull findingsFull (λ z. omega arith) (sym (ap some q) ∙ sym e ∙ f))
      (λ q. unlike leaderLogsFull findingsFull (λ z. omega arith) (sym (ap some q) ∙ sym e ∙ f)) w),
  λ p. absurd (⊎_elim (λ q. p.0 (e ∙ ap some q)) (λ q. p.1 (e ∙ ap some q)) w),
)
seven_test r false k o e w =
    let full = exceeds finding_limit k findingsFull none (apart old_exceeds_new findingsFull false (λ x. omega arith)) in (
      λ f. (
        λ s. unlike findingsFull prefixesFull (λ z. omega arith) (sym f ∙ s),
        λ s. unlike findingsFull leaderLogsFull (λ z. omega arith) (sym f ∙ s),
        full.0 (sym e ∙ f),
      ),
      λ p. e ∙ full.1 p.2,
    )

-- a kind that brings none is never refused with 7
never : (h : History) (k : ℕ) (o : Option Refusal) → length h.findings ≡ k → length h.findings ≤ finding_limit
    → (o ≡ some findingsFull → ⊥) → Seven k o
unfolding Seven
never h k o e b f = (λ x. absurd (f x), λ p. absurd (let q = p.2 in omega arith))

election_not_seven : (a b : Bool) → cond a (some lengthExceedsFront) (cond b (some certificatesFull) none) ≡ some findingsFull → ⊥
election_not_seven true b e = unlike _ _ (λ x. omega arith) e
election_not_seven false true e = unlike _ _ (λ x. omega arith) e
election_not_seven false false e = let w : ◌≡◌ {A = ℕ} 0 1 = cc in omega arith

seven_by : (h : History) (r : Record) (k : ℕ) → Bounded h → length (effect h r).findings ≡ k → Seven k (refusal h r)
unfolding view_effect view_refusal commit_effect commit_refusal terms_effect election_effect election_refusal check_effect check_refusal leader_effect leader_refusal
seven_by h (view n xs) k b e =
    seven_test prefixesFull (ltb prefix_limit (length (stored h.prefixes (front xs)))) k _ (rw (← e)) (inl refl)
seven_by h (commit n i) k b e = seven_test prefixesFull false k _ (rw (← e)) (inl refl)
seven_by h (terms old new t) k b e =
    never h k _ e b.findings_fit (apart old_exceeds_new findingsFull (ltb new old) (λ x. omega arith))
seven_by h (election l t p n) k b e =
    never h k _ e b.findings_fit
    (election_not_seven (ltb (length (front_of h l)) n) (leb certificate_limit (length h.certificates)))
seven_by h check k b e = seven_test prefixesFull false k _ (rw (← e)) (inl refl)
seven_by h (rows rs) k b e = never h k none e b.findings_fit (apart old_exceeds_new findingsFull false (λ x. omega arith))
seven_by h (leader n t) k b e =
    seven_test leaderLogsFull (ltb leader_log_limit (length (leader_kept h n t))) k _ (rw (← e)) (inr refl)

pub seven_exactly : SevenExactly
unfolding Seven
seven_exactly ss r count c =
    let h = history_of ss in
    seven_by h r count (always_bounded ss)
    (counted same_finding (λ f. Memᴰ f h.findings ⊎ Memᴰ f (brought_by h r)) (effect h r).findings
    (once_after h r (always_bounded ss).findings_once) (findings_after h r) count c)
