-- Demand 3, an accepted check. What a log lacks through an index it lacks through every later one, so the last relevant
-- index decides. It has a commit term, so an LG-05 of the check is in the ledger's list.
-- Assumes nothing.
use Prim.Native.Nat.{ℕ, zero, suc, ◌+◌, ◌<◌, ◌≤◌, max}
use native.Mathlib.Omega.{arith}
use mathlib.Core.Path.{◌≡◌, refl, sym, ◌∙◌, ap, subst}
use mathlib.Core.Bool.{true, false, not, ◌&&◌}
use mathlib.Core.Logic.{⊎_elim}
use mathlib.Core.List.Memᴰ
use mathlib.Core.List.{List, [], ◌∷◌, map, Memᴰ}
use mathlib.Core.Option.{Option, none, some}
use lib.Dec.{leb, ltb, eqb}
use lib.ListN.{length, get_or, take, drop, length-take, take-append-drop, get_or-eq_default}
use lib.Seq.{take-take, take_at}
use borrow.Author.Tests.{leb-true, ltb-true, ltb-false, eqb-true, eqb-false, lt-ltb, le-leb, not-true}
use Rattle.model.specs.Entry.{Prefix}
use Rattle.model.specs.Record.{check}
use Rattle.model.specs.History.{Finding, Certificate, History, noted}
use Rattle.model.specs.Check.{is_earlier, last_below, relevant, lacks, lacking, moved, lackings, check_findings, check_effect}
use Rattle.model.specs.Answer.{effect}
use Rattle.model.specs.Ledger.{Elected, Ledger, entered, earlier}
use Rattle.model.specs.Statements.{Named, pair_of}
use Rattle.model.proofs.Tests.{either, cond_cases, cond_true, and_left, and_right, and_both, begins_no, no_begins}
use Rattle.model.proofs.CompletenessInvariant.{elected_of, known, leads, LacksAt, Sound, Owes, Complete, MarksWithin, SameTerms, SameElections, Invariant, lacks_without, named_noted, named_new, sound_noted, same_elections}

-- ---- the relevant index

-- index r is that of a place of the recorded terms, which start at index k, within the end and with a term earlier than t
pub record LastAt (end t k : ℕ) (xs : List ℕ) (r : ℕ) : Type 0 where
  pub place : ℕ
  pub index : r ≡ k + place
  pub within : r ≤ end
  pub recorded : 0 < get_or xs place 0
  pub early : get_or xs place 0 < t

module _ (mark end t : ℕ) where
  counts_here : (k x : ℕ) (xs : List ℕ) → ltb mark k && leb k end && is_earlier x t ≡ true → LastAt end t k (x ∷ xs) k
  counts_here k x xs e =
      record {
        place = 0;
        index = omega arith;
        within = leb-true _ _ (and_right (ltb mark k) _ (and_left _ _ e));
        recorded = ltb-true _ _ (and_left (ltb 0 x) _ (and_right (ltb mark k && leb k end) _ e));
        early = ltb-true _ _ (and_right (ltb 0 x) _ (and_right (ltb mark k && leb k end) _ e));
      }

  counts_later : (k x : ℕ) (xs : List ℕ) (r : ℕ) → LastAt end t (k + 1) xs r → LastAt end t k (x ∷ xs) r
  counts_later k x xs r w =
      let i : r ≡ k + 1 + w.place = w.index in
      record { place = suc w.place; index = omega arith; within = w.within; recorded = w.recorded; early = w.early }

  last_counts : (k : ℕ) (xs : List ℕ) → 0 < last_below mark end t k xs → LastAt end t k xs (last_below mark end t k xs)
  unfolding last_below
  last_counts k [] = λ p. absurd (omega arith)
  last_counts k (x ∷ xs) =
      cond_cases (λ (r : ℕ). 0 < r → LastAt end t k (x ∷ xs) r) (eqb (last_below mark end t (k + 1) xs) 0) _ _
      (λ _. cond_cases (λ (r : ℕ). 0 < r → LastAt end t k (x ∷ xs) r) _ _ _
      (λ e _. counts_here k x xs e) (λ _ p. absurd (omega arith)))
      (λ _ p. counts_later k x xs (last_below mark end t (k + 1) xs) (last_counts (k + 1) xs p))

  -- a place after the mark and within the end, with a term earlier than t, is not past it
  last_reaches : (k : ℕ) (xs : List ℕ) (j : ℕ) → j < length xs → mark < k + j → k + j ≤ end → 0 < get_or xs j 0 → get_or xs j 0 < t
      → k + j ≤ last_below mark end t k xs
  unfolding last_below
  last_reaches k [] j h m n z e = absurd (omega arith)
  last_reaches k (x ∷ xs) zero h m n z e =
      let c : ltb mark k && leb k end && is_earlier x t ≡ true =
      and_both _ _ (and_both _ _ (lt-ltb mark k (omega arith)) (le-leb k end (omega arith))) (and_both _ _ (lt-ltb 0 x z) (lt-ltb x t e)) in
      cond_cases (λ (r : ℕ). k + 0 ≤ r) _ _ _
      (λ _. omega (arith, cond_true _ k 0 c))
      (λ f. let w : LastAt end t (k + 1) xs (last_below mark end t (k + 1) xs) = last_counts (k + 1) xs (positive _ f) in
      omega (arith, w.index))
    where
      positive : (r : ℕ) → eqb r 0 ≡ false → 0 < r
      positive zero f = absurd (eqb-false 0 0 f refl)
      positive (suc r) f = omega arith
  last_reaches k (x ∷ xs) (suc j) h m n z e =
      let w : k + 1 + j ≤ last_below mark end t (k + 1) xs =
      last_reaches (k + 1) xs j (omega arith) (omega arith) (omega arith) z e in
      cond_cases (λ (r : ℕ). k + suc j ≤ r) _ _ _
      (λ f. absurd (let z : last_below mark end t (k + 1) xs ≡ 0 = eqb-true _ _ f in omega arith))
      (λ _. omega arith)

-- ---- "lacks the entries through i" only grows with i

own_length : (a : ℕ) (p : Prefix) → take (length (take a p)) p ≡ take a p
own_length a p =
    ap (take (length (take a p))) (sym (take-append-drop a p)) ∙ take_at (take a p) (drop a p) (length (take a p)) refl

begins_less : (q p : Prefix) (a b : ℕ) → a ≤ b → take (length (take b p)) q ≡ take b p → take (length (take a p)) q ≡ take a p
begins_less q p a b h e =
    let n = length (take a p) in
    let m : n ≤ a = omega (arith, length-take a p) in
    let l : n ≤ length (take b p) = omega (arith, length-take a p, length-take b p) in
    sym (take-take n (length (take b p)) q l)
    ∙ ap (take n) e
    ∙ take-take n b p (omega arith)
    ∙ own_length a p

pub lacks_more : (o : Option Prefix) (p : Prefix) (a b : ℕ) → a ≤ b → lacks o (take a p) ≡ true → lacks o (take b p) ≡ true
lacks_more none p a b h e = refl
lacks_more (some q) p a b h e =
    ap not (no_begins q (take b p) (λ x. begins_no q (take a p) (not-true _ e) (begins_less q p a b h x)))

-- ---- the findings of one certificate, and of all

-- LG-05 of a certificate at index r
abbrev pub lg05_at : Certificate → ℕ → Finding
lg05_at c r = record { name = 5; node = c.leader; index = r; term = c.term }

-- the finding is some certificate's, at its relevant index
pub record Found (p : Prefix) (ts : List ℕ) (cs : List Certificate) (f : Finding) : Type 0 where
  pub certificate : Certificate
  pub among : Memᴰ certificate cs
  pub exists : 0 < relevant p ts certificate
  pub lacked : lacks certificate.log (take (relevant p ts certificate) p) ≡ true
  pub finding : f ≡ lg05_at certificate (relevant p ts certificate)

module _ (p : Prefix) (ts : List ℕ) where
  lacking_found : (c : Certificate) (f : Finding) → Memᴰ f (lacking p ts c) → Found p ts (c ∷ []) f
  unfolding lacking
  lacking_found c f =
      cond_cases (λ (z : List Finding). Memᴰ f z → Found p ts (c ∷ []) f) _ _ _
      (λ e m. record {
        certificate = c;
        among = Memᴰ.head refl;
        exists = ltb-true _ _ (and_left _ _ e);
        lacked = and_right (ltb 0 (relevant p ts c)) _ e;
        finding = Memᴰ.eq_of_singleton m;
      })
      (λ _ m. absurd (Memᴰ.not-nil m))

  lackings_found : (cs : List Certificate) (f : Finding) → Memᴰ f (lackings p ts cs) → Found p ts cs f
  unfolding lackings
  lackings_found [] f m = absurd (Memᴰ.not-nil m)
  lackings_found (c ∷ cs) f m =
      ⊎_elim (λ k. widen (c ∷ []) (λ d n. Memᴰ.head (Memᴰ.eq_of_singleton n)) (lacking_found c f k))
      (λ k. widen cs (λ d n. Memᴰ.tail n) (lackings_found cs f k))
      (Memᴰ.append_cases (lacking p ts c) m)
    where
      widen : (ds : List Certificate) → ((d : Certificate) → Memᴰ d ds → Memᴰ d (c ∷ cs)) → Found p ts ds f → Found p ts (c ∷ cs) f
      widen ds k w =
          record {
            certificate = w.certificate;
            among = k w.certificate w.among;
            exists = w.exists;
            lacked = w.lacked;
            finding = w.finding;
          }

  -- a certificate that lacks the entries through its relevant index is found
  found_lacking : (c : Certificate) → 0 < relevant p ts c → lacks c.log (take (relevant p ts c) p) ≡ true
      → Memᴰ (lg05_at c (relevant p ts c)) (lacking p ts c)
  unfolding lacking
  found_lacking c r l =
      subst (λ (z : List Finding). Memᴰ (lg05_at c (relevant p ts c)) z)
      (sym (cond_true _ _ _ (and_both _ _ (lt-ltb _ _ r) l)))
      (Memᴰ.head refl)

  found_lackings : (cs : List Certificate) (c : Certificate) → Memᴰ c cs → 0 < relevant p ts c
      → lacks c.log (take (relevant p ts c) p) ≡ true → Memᴰ (lg05_at c (relevant p ts c)) (lackings p ts cs)
  unfolding lackings
  found_lackings [] c m r l = absurd (Memᴰ.not-nil m)
  found_lackings (d ∷ cs) c m r l =
      ⊎_elim
      (λ e. Memᴰ.append_left (lackings p ts cs)
      (subst (λ (x : Certificate). Memᴰ (lg05_at c (relevant p ts c)) (lacking p ts x)) e (found_lacking c r l)))
      (λ k. Memᴰ.append_right (lacking p ts d) (found_lackings cs c k r l))
      (Memᴰ.cases_cons m)

  -- ---- the relevant index of a certificate

  relevant_last : (c : Certificate) → 0 < relevant p ts c → LastAt (length p) c.term 1 ts (relevant p ts c)
  unfolding relevant
  relevant_last c r = last_counts _ (length p) c.term 1 ts r

  -- what is owed past the mark is at or before the relevant index
  relevant_reaches : (c : Certificate) (i : ℕ) → c.mark ≤ i → i < length p → Owes p ts c i → suc i ≤ relevant p ts c
  unfolding relevant
  relevant_reaches c i m l o =
      omega (arith, last_reaches c.mark (length p) c.term 1 ts i (inside ts i o.nonzero) (omega arith) (omega arith) o.nonzero o.early)
    where
      inside : (xs : List ℕ) (j : ℕ) → 0 < get_or xs j 0 → j < length xs
      inside xs j n =
          ⊎_elim (λ e. ltb-true j (length xs) e)
          (λ e. absurd (let z : get_or xs j 0 ≡ 0 = get_or-eq_default xs 0 (ltb-false j (length xs) e) in omega arith))
          (either (ltb j (length xs)))

-- ---- the mark

pub moved_same : (p : Prefix) (c : Certificate) → elected_of (moved p c) ≡ elected_of c
unfolding moved
moved_same p c = refl

pub moved_mark : (p : Prefix) (c : Certificate) → (moved p c).mark ≡ max c.mark (length p)
unfolding moved
moved_mark p c = refl

-- ---- sound

-- a recorded term that is not zero is the ledger's, so "earlier" says the same on both sides
known_early : (x s : ℕ) (o : Option ℕ) → o ≡ known x → 0 < x → x < s → earlier s o ≡ true
known_early zero s o e n h = absurd (omega arith)
known_early (suc x) s o e n h = rw e (lt-ltb (suc x) s h)

module _ (p : Prefix) (ts : List ℕ) (us : ℕ → Option ℕ) (terms : SameTerms ts us) where
  lacks_relevant : (c : Certificate) (r : ℕ) → lacks c.log (take r p) ≡ true
      → (w : LastAt (length p) c.term 1 ts r) → LacksAt p us (elected_of c) w.place
  lacks_relevant c r l w =
      let n : r ≤ length p = w.within in
      let x : r ≡ suc w.place = omega (arith, w.index) in
      record {
        within = omega arith;
        early = known_early (get_or ts w.place 0) c.term (us (suc w.place)) (terms w.place) w.recorded w.early;
        lacking =
            sym (lacks_without c.log (take (suc w.place) p))
            ∙ subst (λ (m : ℕ). lacks c.log (take m p) ≡ true) x l;
      }

  sound_lackings : (cs : List Certificate) (es : List Elected) → SameElections cs es → Sound (lackings p ts cs) p us es
  sound_lackings cs es s f m e =
      let w : Found p ts cs f = lackings_found p ts cs f m in
      let c = w.certificate in
      let a : LastAt (length p) c.term 1 ts (relevant p ts c) = relevant_last p ts c w.exists in
      record {
        election = elected_of c;
        among = s.recorded c w.among;
        pair = sym (ap pair_of w.finding);
        place = a.place;
        lacks_committed = lacks_relevant c (relevant p ts c) w.lacked a;
      }

-- ---- complete: what is owed within the new mark

module _ (p : Prefix) (ts : List ℕ) where
  -- owed past the old mark: found by this check
  named_now : (cs : List Certificate) (c : Certificate) → Memᴰ c cs → (i : ℕ) → c.mark ≤ i → i < length p → Owes p ts c i
      → Named (lackings p ts cs) (leads (elected_of c))
  named_now cs c m i h l o =
      let r : suc i ≤ relevant p ts c = relevant_reaches p ts c i h l o in
      record {
        finding = lg05_at c (relevant p ts c);
        among =
            found_lackings p ts cs c m (omega arith) (lacks_more c.log p (suc i) (relevant p ts c) r o.lacking);
        lg05 = refl;
        pair = refl;
      }

  complete_one : (fs : List Finding) (cs : List Certificate) → MarksWithin p cs → Complete fs p ts cs → (c : Certificate)
      → Memᴰ c cs → (i : ℕ) → i < max c.mark (length p) → Owes p ts c i
      → Named (noted fs (lackings p ts cs)) (leads (elected_of c))
  complete_one fs cs w k c m i l o =
      ⊎_elim (λ e. named_noted fs (lackings p ts cs) _ (k c m i (ltb-true _ _ e) o))
      (λ e. let h : c.mark ≤ i = ltb-false _ _ e in let b : c.mark ≤ length p = w c m in
      named_new fs (lackings p ts cs) _ (named_now cs c m i h (omega arith) o))
      (either (ltb i c.mark))

  complete_check : (fs : List Finding) (cs : List Certificate) → MarksWithin p cs → Complete fs p ts cs
      → Complete (noted fs (lackings p ts cs)) p ts (map (moved p) cs)
  unfolding moved
  complete_check fs cs w k d m i l o =
      let a : (c : Certificate) × Memᴰ c cs × (moved p c ≡ d) = Memᴰ.of_map (moved p) cs m in
      let l' : i < max a.0.mark (length p) = subst (λ (x : Certificate). i < x.mark) (sym a.2) l in
      let o' : Owes p ts (moved p a.0) i = subst (λ (x : Certificate). Owes p ts x i) (sym a.2) o in
      subst (λ (x : Certificate). Named (noted fs (lackings p ts cs)) (leads (elected_of x))) a.2
      (complete_one fs cs w k a.0 a.1 i l'
      (record { nonzero = o'.nonzero; early = o'.early; lacking = o'.lacking }))

marks_check : (p : Prefix) (cs : List Certificate) → MarksWithin p cs → MarksWithin p (map (moved p) cs)
marks_check p cs w d m =
    let a : (c : Certificate) × Memᴰ c cs × (moved p c ≡ d) = Memᴰ.of_map (moved p) cs m in
    let b : a.0.mark ≤ length p = w a.0 a.1 in
    let e : (moved p a.0).mark ≡ d.mark = ap (λ (x : Certificate). x.mark) a.2 in
    omega (arith, moved_mark p a.0)

-- after a check no mark is before the committed end
pub marks_reach : (p : Prefix) (cs : List Certificate) (d : Certificate) → Memᴰ d (map (moved p) cs) → length p ≤ d.mark
marks_reach p cs d m =
    let a : (c : Certificate) × Memᴰ c cs × (moved p c ≡ d) = Memᴰ.of_map (moved p) cs m in
    let e : (moved p a.0).mark ≡ d.mark = ap (λ (x : Certificate). x.mark) a.2 in
    omega (arith, moved_mark p a.0)

sound_check : (h : History) (g : Ledger) → Invariant h g
    → Sound (check_findings h) h.committed g.terms g.elections
unfolding check_findings
sound_check h g v =
    sound_noted h.findings (lackings h.committed h.terms h.certificates) h.committed g.terms g.elections
    v.sound
    (sound_lackings h.committed h.terms g.terms v.terms h.certificates g.elections v.elections)

complete_after : (h : History) (g : Ledger) → Invariant h g
    → Complete (check_findings h) h.committed h.terms (map (moved h.committed) h.certificates)
unfolding check_findings
complete_after h g v =
    complete_check h.committed h.terms h.findings h.certificates v.marks v.complete

pub keeps_check : (h : History) (g : Ledger) → Invariant h g → Invariant (effect h check) (entered g check)
unfolding check_effect
keeps_check h g v =
    record {
      fronts = v.fronts;
      committed = v.committed;
      terms = v.terms;
      elections =
          same_elections (moved h.committed) (moved_same h.committed) h.certificates g.elections v.elections;
      marks = marks_check h.committed h.certificates v.marks;
      sound = sound_check h g v;
      complete = complete_after h g v;
    }

-- after a check no mark is before the committed end
pub check_reaches : (h : History) (c : Certificate) → Memᴰ c (effect h check).certificates → length (effect h check).committed ≤ c.mark
unfolding check_effect
check_reaches h c m = marks_reach h.committed h.certificates c m
