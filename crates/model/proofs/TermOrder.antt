-- Commit terms in any order: each accepted kind 3 record keeps the list to what the records so far give. That speaks of them as a
-- set, so lists with the same ones end with the same list of commit terms.
-- Assumes nothing.
use Prim.Native.Nat.{ℕ, suc, ◌<◌, ◌≤◌, max}
use native.Mathlib.Omega.{arith}
use mathlib.Core.Path.{◌≡◌, refl, sym, ◌∙◌, ap, subst}
use mathlib.Core.Bool.{Bool, true, false, cond, ◌&&◌}
use mathlib.Core.Logic.{◌⊎◌, inl, inr, ⊎_elim, ◌↔◌}
use mathlib.Core.List.Memᴰ
use mathlib.Core.List.{List, [], ◌∷◌, ◌++◌, append-nil, map, Memᴰ}
use mathlib.Core.Option.{Option, none, some}
use Rattle.std.proofs.lemmas.Bool.{cases_lt}
use lib.Dec.{leb, ltb}
use lib.ListN.{length, get_or}
use lib.Seq.{ext_get_or}
use borrow.Author.Tests.{leb-true, le-ltb}
use Rattle.model.specs.Sizes.{Bytes}
use Rattle.model.specs.Refusal.{Refusal, old_exceeds_new}
use Rattle.model.specs.Record.{Record, view, commit, terms, election, check, rows, leader}
use Rattle.model.specs.Reading.{Reading, readable, unreadable, read}
use Rattle.model.specs.History.{Finding, Certificate, History, fresh}
use Rattle.model.specs.View.{view_effect}
use Rattle.model.specs.Commit.{commit_effect}
use Rattle.model.specs.Terms.{changes, recorded, terms_effect}
use Rattle.model.specs.Election.{election_effect}
use Rattle.model.specs.Check.{check_effect}
use Rattle.model.specs.LeaderLog.{leader_effect}
use Rattle.model.specs.Answer.{is_accepted, refusal, effect, answer_unless, answer_read, answer, after}
use Rattle.model.specs.Ledger.{Ledger, empty}
use Rattle.model.specs.Run.{history_from, history_of, told, Event, event_unless, event_read, events_from, gathered}
use Rattle.model.specs.Lists.{finding_list}
use Rattle.model.specs.TermOrder.{CommitTerms, terms_in, all_terms_in, accepted_terms, GreatestOrZero, SmallestOrZero, NewAmong, Gives, GivenAmong, TermsBy, TermsGiven, TermsInAnyOrder, IsTerms, TermsAccepted, SentAreAccepted}
use Rattle.model.proofs.Tests.{cond_cases, cond_false, and_left, and_right}
use Rattle.model.proofs.Run.{by_events, gathered_append, gathered_snoc}
use Rattle.model.proofs.Last.{accepted_refusal}
use Rattle.model.proofs.TermPlaces.{changes_yes, changes_no, recorded_length, recorded_at}
use Rattle.model.specs.Statements.{SameMembers}

-- ---- the greatest and the smallest number with a property

-- two properties of the same numbers
abbrev Alike : (ℕ → Type 0) → (ℕ → Type 0) → Type 0
Alike P Q = (m : ℕ) → P m ↔ Q m

module _ (P Q : ℕ → Type 0) (f : Alike P Q) where
  greatest_moved : (n : ℕ) → GreatestOrZero P n → GreatestOrZero Q n
  greatest_moved n =
      ⊎_elim (λ a. inl ((f n).0 a.0, λ m q. a.1 m ((f m).1 q))) (λ a. inr (a.0, λ m q. a.1 m ((f m).1 q)))

  smallest_moved : (n : ℕ) → SmallestOrZero P n → SmallestOrZero Q n
  smallest_moved n =
      ⊎_elim (λ a. inl ((f n).0 a.0, λ m q. a.1 m ((f m).1 q))) (λ a. inr (a.0, λ m q. a.1 m ((f m).1 q)))

module _ (P : ℕ → Type 0) where
  -- there is one such number
  one_greatest : (n k : ℕ) → GreatestOrZero P n → GreatestOrZero P k → n ≡ k
  one_greatest n k (inl a) (inl b) = let x = a.1 k b.0 in let y = b.1 n a.0 in omega arith
  one_greatest n k (inl a) (inr b) = absurd (b.1 n a.0)
  one_greatest n k (inr a) (inl b) = absurd (a.1 k b.0)
  one_greatest n k (inr a) (inr b) = a.0 ∙ sym b.0

  one_smallest : (n k : ℕ) → SmallestOrZero P n → SmallestOrZero P k → n ≡ k
  one_smallest n k (inl a) (inl b) = let x = a.1 k b.0 in let y = b.1 n a.0 in omega arith
  one_smallest n k (inl a) (inr b) = absurd (b.1 n a.0)
  one_smallest n k (inr a) (inl b) = absurd (a.1 k b.0)
  one_smallest n k (inr a) (inr b) = a.0 ∙ sym b.0

  -- one number more
  greatest_more : (n k : ℕ) → GreatestOrZero P n → GreatestOrZero (λ m. P m ⊎ (k ≡ m)) (max n k)
  greatest_more n k (inl a) =
      inl (
        ⊎_elim (λ l. inr (omega arith)) (λ l. inl (subst P (let e : n ≡ max n k = omega arith in e) a.0)) (cases_lt n k),
        λ m. ⊎_elim (λ p. let b = a.1 m p in omega arith) (λ e. omega (arith, e)),
      )
  greatest_more n k (inr a) = inl (inr (omega (arith, a.0)), λ m. ⊎_elim (λ p. absurd (a.1 m p)) (λ e. omega (arith, e)))

-- ---- one record more

module _ (cs : List CommitTerms) (old new t : ℕ) where
  abbrev one : CommitTerms
  one = record { old = old; new = new; term = t }

  -- what one of all has, one of those before has, or this one
  among : (P : CommitTerms → ℕ → Type 0)
      → Alike (λ m. ((c : CommitTerms) × Memᴰ c cs × P c m) ⊎ P one m)
      (λ m. (c : CommitTerms) × Memᴰ c (cs ++ (one ∷ [])) × P c m)
  among P m = (
    ⊎_elim (λ a. (a.0, Memᴰ.append_left (one ∷ []) a.1, a.2)) (λ p. (one, Memᴰ.append_right cs (Memᴰ.head refl), p)),
    λ a. ⊎_elim (λ k. inl (a.0, k, a.2))
        (λ k. inr (subst (λ (c : CommitTerms). P c m) (Memᴰ.eq_of_singleton k) a.2))
        (Memᴰ.append_cases cs a.1),
  )

  length_kept : (ts : List ℕ) → GreatestOrZero (NewAmong cs) (length ts)
      → GreatestOrZero (NewAmong (cs ++ (one ∷ []))) (length (recorded old new t ts))
  length_kept ts g =
      subst (GreatestOrZero (NewAmong (cs ++ (one ∷ [])))) (sym (recorded_length old new t ts))
      (greatest_moved _ _ (among (λ c m. c.new ≡ m)) (max (length ts) new) (greatest_more (NewAmong cs) (length ts) new g))

  -- at index i, for which x is the smallest so far
  module _ (i x : ℕ) (s : SmallestOrZero (GivenAmong cs i) x) where
    abbrev Smallest : ℕ → Type 0
    Smallest = SmallestOrZero (λ m. GivenAmong cs i m ⊎ Gives one i m)

    -- the term replaces x: it is smaller than all given so far, or the first
    replaced : changes old new t i x ≡ true → Smallest t
    replaced e =
        let c = changes_yes old new t i x e in
        inl (inr (c.above_old, c.within_new, refl, c.nonzero), λ m. ⊎_elim (below c.replaces s m) (λ g. omega (arith, g.2)))
      where
        below : (x ≡ 0) ⊎ (t < x) → SmallestOrZero (GivenAmong cs i) x → (m : ℕ) → GivenAmong cs i m → t ≤ m
        below r (inr a) m g = absurd (a.1 m g)
        below (inr l) (inl a) m g = let b = a.1 m g in omega arith
        below (inl z) (inl a) m g = let b = a.0.2.3 in absurd (omega (arith, z))

    -- x stays: the term is not for the index, or x is no greater
    stays : changes old new t i x ≡ false → Smallest x
    stays e = by s
      where
        no_smaller : (m : ℕ) → Gives one i m → (x ≡ 0 → ⊥) × (x ≤ m)
        no_smaller m g =
            let n = changes_no old new t i x e g.0 g.1 (omega (arith, g.2, g.3)) in
            (n.0, let l = n.1 in omega (arith, g.2))

        by : SmallestOrZero (GivenAmong cs i) x → Smallest x
        by (inl a) = inl (inl a.0, λ m. ⊎_elim (a.1 m) (λ g. (no_smaller m g).1))
        by (inr a) = inr (a.0, λ m. ⊎_elim (a.1 m) (λ g. (no_smaller m g).0 a.0))

    place_kept : SmallestOrZero (GivenAmong (cs ++ (one ∷ [])) i) (cond (changes old new t i x) t x)
    place_kept =
        smallest_moved _ _ (among (λ c m. Gives c i m)) (cond (changes old new t i x) t x)
        (cond_cases Smallest (changes old new t i x) t x replaced stays)

  terms_kept : (ts : List ℕ) → TermsBy cs ts → TermsBy (cs ++ (one ∷ [])) (recorded old new t ts)
  terms_kept ts b =
      record {
        length_is = length_kept ts b.length_is;
        place_is =
            λ i. subst (SmallestOrZero (GivenAmong (cs ++ (one ∷ [])) (suc i))) (sym (recorded_at old new t ts i))
            (place_kept (suc i) (get_or ts i 0) (b.place_is i));
      }

-- ---- after every list

-- a kind 3 record is one more; every other kind leaves the list, and gives nothing
keep_kind : (h : History) (cs : List CommitTerms) (r : Record) → TermsBy cs h.terms
    → TermsBy (cs ++ terms_in r) (effect h r).terms
unfolding view_effect commit_effect terms_effect election_effect check_effect leader_effect
keep_kind h cs (view n xs) b = subst (λ (l : List CommitTerms). TermsBy l h.terms) (sym (append-nil cs)) b
keep_kind h cs (commit n i) b = subst (λ (l : List CommitTerms). TermsBy l h.terms) (sym (append-nil cs)) b
keep_kind h cs (terms old new t) b = terms_kept cs old new t h.terms b
keep_kind h cs (election l t p n) b = subst (λ (l : List CommitTerms). TermsBy l h.terms) (sym (append-nil cs)) b
keep_kind h cs check b = subst (λ (l : List CommitTerms). TermsBy l h.terms) (sym (append-nil cs)) b
keep_kind h cs (rows rs) b = subst (λ (l : List CommitTerms). TermsBy l h.terms) (sym (append-nil cs)) b
keep_kind h cs (leader n t) b = subst (λ (l : List CommitTerms). TermsBy l h.terms) (sym (append-nil cs)) b

pub terms_given : TermsGiven
terms_given =
    by_events (λ h g es. TermsBy (all_terms_in es) h.terms)
    (unfold gathered in
    record {
      length_is = inr (refl, λ m n. Memᴰ.not-nil n.1);
      place_is = λ i. inr (refl, λ m n. Memᴰ.not-nil n.1);
    })
    (λ h g es r _ b.
    subst (λ (cs : List CommitTerms). TermsBy cs (effect h r).terms) (sym (gathered_snoc (λ e. terms_in e.event) es _))
    (keep_kind h (all_terms_in es) r b))

-- ---- in any order

-- records with the same members give the same list
same_list : (cs ds : List CommitTerms) (ts us : List ℕ) → SameMembers cs ds → TermsBy cs ts → TermsBy ds us → ts ≡ us
same_list cs ds ts us f a b =
    ext_get_or 0 ts us
    (one_greatest (NewAmong ds) (length ts) (length us)
    (greatest_moved _ _ (widened (λ c m. c.new ≡ m)) (length ts) a.length_is) b.length_is)
    (λ i _. one_smallest (GivenAmong ds (suc i)) (get_or ts i 0) (get_or us i 0)
    (smallest_moved _ _ (widened (λ c m. Gives c (suc i) m)) (get_or ts i 0) (a.place_is i)) (b.place_is i))
  where
    widened : (P : CommitTerms → ℕ → Type 0)
        → Alike (λ m. (c : CommitTerms) × Memᴰ c cs × P c m) (λ m. (c : CommitTerms) × Memᴰ c ds × P c m)
    widened P m = (λ a. (a.0, (f a.0).0 a.1, a.2), λ a. (a.0, (f a.0).1 a.1, a.2))

pub terms_in_any_order : TermsInAnyOrder
terms_in_any_order ss us f =
    same_list (accepted_terms ss) (accepted_terms us) (history_of ss).terms (history_of us).terms f
    (terms_given ss) (terms_given us)

-- ---- the kind 3 records that were sent, where all are accepted

abbrev Reads : Bytes → CommitTerms → Type 0
Reads s c = read s ≡ readable (terms c.old c.new c.term)

-- an accepted one was sent
event_terms : (h : History) (g : Ledger) (c : CommitTerms) (r : Record) (o : Option Refusal)
    → Memᴰ c (all_terms_in (event_unless h g r o)) → r ≡ terms c.old c.new c.term
unfolding gathered
event_terms h g c r (some f) m = absurd (Memᴰ.not-nil m)
event_terms h g c (terms old new t) none m =
    let e = Memᴰ.eq_of_singleton m in ap (λ (d : CommitTerms). terms d.old d.new d.term) (sym e)
event_terms h g c (view n xs) none m = absurd (Memᴰ.not-nil m)
event_terms h g c (commit n i) none m = absurd (Memᴰ.not-nil m)
event_terms h g c (election l t p n) none m = absurd (Memᴰ.not-nil m)
event_terms h g c check none m = absurd (Memᴰ.not-nil m)
event_terms h g c (rows rs) none m = absurd (Memᴰ.not-nil m)
event_terms h g c (leader n t) none m = absurd (Memᴰ.not-nil m)

read_terms : (h : History) (g : Ledger) (c : CommitTerms) (x : Reading)
    → Memᴰ c (all_terms_in (event_read h g x)) → x ≡ readable (terms c.old c.new c.term)
unfolding gathered
read_terms h g c (readable r) m = ap readable (event_terms h g c r (refusal h r) m)
read_terms h g c (unreadable e) m = absurd (Memᴰ.not-nil m)

sent : (ss : List Bytes) (h : History) (g : Ledger) (c : CommitTerms) → Memᴰ c (all_terms_in (events_from h g ss))
    → (s : Bytes) × Memᴰ s ss × Reads s c
unfolding events_from gathered
sent [] h g c m = absurd (Memᴰ.not-nil m)
sent (s ∷ ss) h g c m =
    ⊎_elim (λ k. (s, Memᴰ.head refl, read_terms h g c (read s) k))
    (λ k. let w = sent ss (after h s) (told h g s) c k in (w.0, Memᴰ.tail w.1, w.2))
    (Memᴰ.append_cases (all_terms_in (event_read h g (read s)))
    (subst (Memᴰ c) (gathered_append (λ e. terms_in e.event) (event_read h g (read s)) (events_from (after h s) (told h g s) ss)) m))

-- each of the list is accepted, from a history on
abbrev AcceptedFrom : History → List Bytes → Type 0
AcceptedFrom h ss =
    (before : List Bytes) (s : Bytes) (later : List Bytes) → ss ≡ before ++ (s ∷ later)
    → IsTerms s → is_accepted (answer (history_from h before) s) ≡ true

-- one that was sent is accepted
accepted : (ss : List Bytes) (h : History) (g : Ledger) → AcceptedFrom h ss
    → (s : Bytes) (c : CommitTerms) → Memᴰ s ss → Reads s c
    → Memᴰ c (all_terms_in (events_from h g ss))
unfolding events_from history_from gathered
accepted [] h g a s c m e = absurd (Memᴰ.not-nil m)
accepted (x ∷ ss) h g a s c m e =
    subst (Memᴰ c) (sym (gathered_append (λ e. terms_in e.event) (event_read h g (read x)) (events_from (after h x) (told h g x) ss)))
    (⊎_elim (λ q. Memᴰ.append_left _ (here (sym (ap read q) ∙ e)))
    (λ k. Memᴰ.append_right (all_terms_in (event_read h g (read x)))
    (accepted ss (after h x) (told h g x) (λ before y later q. a (x ∷ before) y later (ap (λ (l : List Bytes). x ∷ l) q)) s c k e))
    (Memᴰ.cases_cons m))
  where
    here : Reads x c → Memᴰ c (all_terms_in (event_read h g (read x)))
    here q =
        let r = terms c.old c.new c.term in
        let o = accepted_refusal h g x r q (a [] x ss refl (c, q)) in
        subst (λ (l : List Event). Memᴰ c (all_terms_in l)) (sym (ap (event_read h g) q ∙ ap (event_unless h g r) o)) (Memᴰ.head refl)

pub sent_are_accepted : SentAreAccepted
unfolding history_from
sent_are_accepted ss us f a b c = (
  λ m. let w = sent ss fresh empty c m in accepted us fresh empty b w.0 c ((f w.0 (c, w.2)).0 w.1) w.2,
  λ m. let w = sent us fresh empty c m in accepted ss fresh empty a w.0 c ((f w.0 (c, w.2)).1 w.1) w.2,
)

-- ---- a kind 3 record is refused only where old exceeds new, so that none is can be seen from the list

unfoldable pub rising : Reading → Bool
rising (readable (view n xs)) = true
rising (readable (commit n i)) = true
rising (readable (terms old new t)) = leb old new
rising (readable (election l t p n)) = true
rising (readable check) = true
rising (readable (rows rs)) = true
rising (readable (leader n t)) = true
rising (unreadable e) = true

unfoldable pub all_rising : List Bytes → Bool
unfolding rising read
all_rising [] = true
all_rising (s ∷ ss) = rising (read s) && all_rising ss

rising_of : (before : List Bytes) (s : Bytes) (later : List Bytes) → all_rising (before ++ (s ∷ later)) ≡ true
    → rising (read s) ≡ true
unfolding all_rising
rising_of [] s later e = and_left (rising (read s)) _ e
rising_of (x ∷ before) s later e = rising_of before s later (and_right (rising (read x)) _ e)

rising_accepted : (h : History) (s : Bytes) (c : CommitTerms) → Reads s c → rising (read s) ≡ true
    → is_accepted (answer h s) ≡ true
unfolding rising answer
rising_accepted h s c q e =
    let l : c.old ≤ c.new = leb-true c.old c.new (sym (ap rising q) ∙ e) in
    ap (λ (x : Reading). is_accepted (answer_read h x)) q
    ∙ ap (λ (o : Option Refusal). is_accepted (answer_unless h (terms c.old c.new c.term) o))
    (cond_false (ltb c.new c.old) (some old_exceeds_new) none (le-ltb c.new c.old l))

pub all_accepted : (ss : List Bytes) → all_rising ss ≡ true → TermsAccepted ss
all_accepted ss e before s later q t =
    rising_accepted (history_of before) s t.0 t.1 (rising_of before s later (sym (ap all_rising q) ∙ e))

-- ---- an example: what depends on the order

-- node 0 shows one entry and commits it, node 1 is elected in term 4 with a log of no entries
unfoldable pub elected : List Bytes
elected =
    (0x10 ∷ 0x00 ∷ 0x10 ∷ 0x04 ∷ 0x00 ∷ 0x00 ∷ 0x00 ∷ 0x04 ∷ 0x00 ∷ [])
    ∷ (0x20 ∷ 0x00 ∷ 0x10 ∷ [])
    ∷ (0x40 ∷ 0x40 ∷ 0x00 ∷ 0x00 ∷ 0x01 ∷ 0x20 ∷ 0x00 ∷ [])
    ∷ []

-- then a record, a check, a record
abbrev pub between : Bytes → Bytes → List Bytes
between a b = elected ++ (a ∷ (0x50 ∷ []) ∷ b ∷ [])

-- the entry's commit term is 5, and 3
unfoldable pub five : Bytes
five = 0x30 ∷ 0x00 ∷ 0x01 ∷ 0x00 ∷ 0x00 ∷ 0x00 ∷ 0x05 ∷ []

unfoldable pub three : Bytes
three = 0x30 ∷ 0x00 ∷ 0x01 ∷ 0x00 ∷ 0x00 ∷ 0x00 ∷ 0x03 ∷ []

-- after a list: the commit terms, the findings, the checked marks
abbrev pub Leaves : List Bytes → List ℕ → List Finding → List ℕ → Type 0
Leaves ss ts fs ms =
    ((history_of ss).terms ≡ ts) × (finding_list (history_of ss) ≡ fs)
    × (map (λ (c : Certificate). c.mark) (history_of ss).certificates ≡ ms)

abbrev pub lg05 : Finding
lg05 = record { name = 5; node = 1; index = 1; term = 4 }

-- Both times the entry has commit term 3. The check that saw 5 found nothing, and its mark was set back; the one that saw 3
-- found LG-05.
pub five_first : Leaves (between five three) (3 ∷ []) [] (0 ∷ [])
unfolding elected five three history_from finding_list
five_first = (refl, refl, refl)

pub three_first : Leaves (between three five) (3 ∷ []) (lg05 ∷ []) (1 ∷ [])
unfolding elected five three history_from finding_list
three_first = (refl, refl, refl)

-- The law is about them: both records are accepted both times.
pub accepted_both : TermsAccepted (between five three) × TermsAccepted (between three five)
unfolding elected five three all_rising
accepted_both = (all_accepted (between five three) refl, all_accepted (between three five) refl)
