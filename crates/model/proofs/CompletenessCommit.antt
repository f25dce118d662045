-- Demand 3, an accepted commit: both sides keep the same committed entries, which only ever get longer, and what it finds is
-- LG-04.
-- Assumes nothing.
use Prim.Native.Nat.{ℕ, suc, ◌<◌, ◌≤◌}
use native.Mathlib.Omega.{arith}
use mathlib.Core.Path.{◌≡◌, refl, sym, ◌∙◌, ap}
use mathlib.Core.Bool.{Bool, true, false, cond, ◌&&◌}
use mathlib.Core.Logic.{⊎_elim}
use mathlib.Core.List.{List, []}
use mathlib.Core.Option.{Option}
use lib.Dec.{leb, ltb}
use lib.ListN.{length, get_or, take, length-take}
use lib.Seq.{take-take}
use borrow.Author.Tests.{ltb-true, lt-ltb}
use Rattle.model.specs.Entry.{Prefix, begins, agree}
use Rattle.model.specs.Record.{commit}
use Rattle.model.specs.History.{Finding, Certificate, History, front_of}
use Rattle.model.specs.Commit.{through, seen, replaces, differences, commit_findings, commit_effect}
use Rattle.model.specs.Answer.{effect}
use Rattle.model.specs.Ledger.{Elected, Ledger, entered, extended}
use Rattle.model.proofs.Tests.{tf, either, cond_cases, cond_true, cond_false, and_left, and_right, and_both, test_ext, begins_yes, agree_short}
use Rattle.model.proofs.Matching.{differences_name}
use Rattle.model.proofs.Committed.{replaced_agrees, agreeing_replaces}
use Rattle.model.proofs.CompletenessInvariant.{LacksAt, Justified, Sound, Complete, MarksWithin, Invariant, others_noted}

-- ---- the same committed entries

-- the history's test and the ledger's, of a prefix q of at most i entries
module _ (c q : Prefix) (i n : ℕ) (short : length q ≤ i) (reached : leb i n ≡ true) where
  forth : replaces c q ≡ true → ltb 0 i && leb i n && ltb (length c) (length q) && begins q c ≡ true
  forth e =
      let r = replaced_agrees c q e in
      let l : length c < length q = r.1 in
      let a : agree c q ≡ begins q c = agree_short c q (omega arith) in
      and_both _ _
      (and_both _ _ (and_both _ _ (lt-ltb 0 i (omega arith)) reached) (lt-ltb _ _ l))
      (sym a ∙ r.0)

  back : ltb 0 i && leb i n && ltb (length c) (length q) && begins q c ≡ true → replaces c q ≡ true
  back e =
      let t : ltb (length c) (length q) ≡ true = and_right (ltb 0 i && leb i n) _ (and_left _ _ e) in
      let l : length c < length q = ltb-true _ _ t in
      let a : agree c q ≡ begins q c = agree_short c q (omega arith) in
      agreeing_replaces c q (a ∙ and_right (ltb 0 i && leb i n && ltb (length c) (length q)) _ e) l

-- nothing seen replaces nothing
none_seen : (c : Prefix) → cond (replaces c []) [] c ≡ c
none_seen c =
    cond_cases (λ (z : Prefix). z ≡ c) _ _ _
    (λ t. absurd (let l : length c < 0 = (replaced_agrees c [] t).1 in omega arith)) (λ _. refl)

not_reached : (p : Prefix) (i : ℕ) (c : Prefix) → leb i (length p) ≡ false → extended p i c ≡ c
unfolding extended
not_reached p i c e =
    cond_cases (λ (z : Prefix). z ≡ c)
    (ltb 0 i && leb i (length p) && ltb (length c) (length (take i p)) && begins (take i p) c) _ _
    (λ t. absurd (tf (sym (and_right (ltb 0 i) _ (and_left _ _ (and_left _ _ t))) ∙ e)))
    (λ _. refl)

reached : (p : Prefix) (i : ℕ) (c : Prefix) → leb i (length p) ≡ true
    → cond (replaces c (take i p)) (take i p) c ≡ extended p i c
unfolding extended
reached p i c e =
    let s : length (take i p) ≤ i = omega (arith, length-take i p) in
    ap (λ (b : Bool). cond b (take i p) c)
    (test_ext (replaces c (take i p)) _ (forth c (take i p) i (length p) s e) (back c (take i p) i (length p) s e))

-- what the history keeps is what the ledger takes
pub same_committed : (p : Prefix) (i : ℕ) (c : Prefix) → cond (replaces c (through p i)) (through p i) c ≡ extended p i c
same_committed p i c =
    ⊎_elim
    (λ e. rw (cond_true (leb i (length p)) _ _ e) (reached p i c e))
    (λ e. rw (cond_false (leb i (length p)) _ _ e) (none_seen c ∙ sym (not_reached p i c e)))
    (either (leb i (length p)))

-- ---- committed entries only ever get longer

-- q begins with the entries of p
pub record Extends (p q : Prefix) : Type 0 where
  pub longer : length p ≤ length q
  pub first : (i : ℕ) → i ≤ length p → take i q ≡ take i p

-- this is where a mismatch must not be kept
replaced_extends : (c q : Prefix) → replaces c q ≡ true → Extends c q
replaced_extends c q e =
    let r = replaced_agrees c q e in
    let l : length c < length q = r.1 in
    let b : take (length c) q ≡ c =
    begins_yes q c (sym (agree_short c q (omega arith)) ∙ r.0) in
    record {
      longer = omega arith;
      first = λ i s. sym (take-take i (length c) q s) ∙ ap (take i) b;
    }

pub kept_extends : (c q : Prefix) → Extends c (cond (replaces c q) q c)
kept_extends c q =
    cond_cases (Extends c) _ _ _ (replaced_extends c q)
    (λ _. record { longer = omega arith; first = λ i s. refl })

module _ (p q : Prefix) (x : Extends p q) where
  marks_extended : (cs : List Certificate) → MarksWithin p cs → MarksWithin q cs
  marks_extended cs w c m = let a : c.mark ≤ length p = w c m in let b : length p ≤ length q = x.longer in omega arith

  lacks_extended : (ts : ℕ → Option ℕ) (e : Elected) (i : ℕ) → LacksAt p ts e i → LacksAt q ts e i
  lacks_extended ts e i b =
      let w : i < length p = b.within in
      let l : length p ≤ length q = x.longer in
      record { within = omega arith; early = b.early; lacking = rw (x.first (suc i) w) b.lacking }

  sound_extended : (fs : List Finding) (ts : ℕ → Option ℕ) (es : List Elected) → Sound fs p ts es → Sound fs q ts es
  sound_extended fs ts es s f m e =
      let j : Justified p ts es f = s f m e in
      record {
        election = j.election;
        among = j.among;
        pair = j.pair;
        place = j.place;
        lacks_committed = lacks_extended ts j.election j.place j.lacks_committed;
      }

  complete_extended : (fs : List Finding) (ts : List ℕ) (cs : List Certificate) → MarksWithin p cs → Complete fs p ts cs
      → Complete fs q ts cs
  complete_extended fs ts cs w k c m i l o =
      let a : c.mark ≤ length p = w c m in
      let b : suc i ≤ length p = omega arith in
      k c m i l (record { nonzero = o.nonzero; early = o.early; lacking = rw (x.first (suc i) b) at o.lacking })

-- ---- what it finds

found_commit : (h : History) (g : Ledger) (n i : ℕ) → Invariant h g
    → Sound (commit_findings h n i) h.committed g.terms g.elections
    × Complete (commit_findings h n i) h.committed h.terms h.certificates
unfolding commit_findings
found_commit h g n i v =
    others_noted h g (differences n h.committed (seen h n i))
    (differences_name 5 n h.committed (seen h n i) (λ e. omega arith)) v

committed_after : (h : History) (g : Ledger) (n i : ℕ) → Invariant h g
    → cond (replaces h.committed (seen h n i)) (seen h n i) h.committed ≡ extended (get_or g.fronts n []) i g.committed
committed_after h g n i v =
    same_committed (front_of h n) i h.committed ∙ (λ j. extended (get_or (v.fronts j) n []) i (v.committed j))

pub keeps_commit : (h : History) (g : Ledger) (n i : ℕ) → Invariant h g
    → Invariant (effect h (commit n i)) (entered g (commit n i))
unfolding commit_effect
keeps_commit h g n i v =
    let q = cond (replaces h.committed (seen h n i)) (seen h n i) h.committed in
    let x : Extends h.committed q = kept_extends h.committed (seen h n i) in
    record {
      fronts = v.fronts;
      committed = committed_after h g n i v;
      terms = v.terms;
      elections = v.elections;
      marks = marks_extended h.committed q x h.certificates v.marks;
      sound = sound_extended h.committed q x (commit_findings h n i) g.terms g.elections (found_commit h g n i v).0;
      complete =
          complete_extended h.committed q x (commit_findings h n i) h.terms h.certificates v.marks
          (found_commit h g n i v).1;
    }
