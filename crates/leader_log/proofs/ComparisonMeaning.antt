-- What the comparison of two kept views means where bytes stand for a history: that the newer one rewrites the older, grows it,
-- or neither.
-- Assumes nothing.
use Prim.Native.Nat.{◌≤◌, ◌<◌}
use mathlib.Core.Path.{◌≡◌, refl, sym, ◌∙◌, ap}
use mathlib.Core.Bool.{Bool, true, false, not, ◌&&◌, ◌||◌}
use mathlib.Core.Logic.{⊎_elim}
use lib.Dec.{leb, ltb}
use lib.ListN.{length, take}
use borrow.Author.Tests.{le-leb, lt-leb, lt-ltb, ltb-true, ltb-false, le-ltb}
use Rattle.std.specs.Prelude.{Option, Some, None}
use Rattle.model.specs.Entry.{same}
use Rattle.model.specs.History.{LeaderLog, History}
use Rattle.model.specs.LeaderLog.{judged, extends, rewrites, grows}
use Rattle.model.specs.Sizes.{Bytes}
use Rattle.model.proofs.Tests.{either}
use Rattle.storage.specs.Tables.{LeaderLogRow}
use Rattle.storage.specs.Decode.{leader_log_in}
use Rattle.storage.specs.Head.{prefixes_held}
use Rattle.storage.proofs.Meanings.{Represents}
use Rattle.log_prefix.specs.Prefix.{slice_of}
use Rattle.log_prefix.proofs.Fronts.{Part, slice_is, stored_same}
use Rattle.leader_log.specs.Comparison.{rows_of, slices_same, extends_in}
use Rattle.leader_log.proofs.ComparisonTurns.{ends_before, reaches}
use native.Mathlib.Omega.{arith}
use Rattle.units.specs.declared.LogPrefixWitness.{LogPrefixWitness}

-- the model's two tests, by their parts
module _ (a b : LeaderLog) where
  rewrites_by : (l j e : Bool) → ltb b.last a.last ≡ l → judged a b ≡ j → extends a b ≡ e → rewrites a b ≡ (l || (j && not e))
  unfolding rewrites
  rewrites_by l j e p q r = λ i. p i || (q i && not (r i))

  grows_by : (j e g : Bool) → judged a b ≡ j → extends a b ≡ e → ltb a.last b.last ≡ g → grows a b ≡ (j && e && g)
  unfolding grows
  grows_by j e g q r p = λ i. q i && r i && p i

  -- a lower last index
  shorter : b.last < a.last → (rewrites a b ≡ true) × (grows a b ≡ false)
  shorter l =
      let p : ltb b.last a.last ≡ true = lt-ltb b.last a.last l in
      let g : ltb a.last b.last ≡ false = le-ltb a.last b.last (omega (arith, l)) in
      (rewrites_by true (judged a b) (extends a b) p refl refl, grows_by (judged a b) (extends a b) false refl refl g ∙ and_no (judged a b && extends a b))
    where
      and_no : (c : Bool) → (c && false) ≡ false
      and_no true = refl
      and_no false = refl

  module _ (l : a.last ≤ b.last) where
    -- a gap judges nothing
    gap : judged a b ≡ false → (rewrites a b ≡ false) × (grows a b ≡ false)
    gap j =
        (rewrites_by false false (extends a b) (le-ltb b.last a.last l) j refl, grows_by false (extends a b) (ltb a.last b.last) j refl refl)

    judged_so : judged a b ≡ true → (e : Bool) → extends a b ≡ e → (rewrites a b ≡ not e) × (grows a b ≡ (e && ltb a.last b.last))
    judged_so j e p =
        (rewrites_by false true e (le-ltb b.last a.last l) j p, grows_by true e (ltb a.last b.last) j p refl)

-- what the comparison answers, in the model's words
pub data Says (h : Bytes) (o n : LeaderLogRow) (a b : LeaderLog) : Type 0 where
  -- nothing is judged
  unjudged : extends_in h o n ≡ None → rewrites a b ≡ false → grows a b ≡ false → Says h o n a b
  differs : extends_in h o n ≡ Some false → rewrites a b ≡ true → grows a b ≡ false → Says h o n a b
  agrees : extends_in h o n ≡ Some true → rewrites a b ≡ false → grows a b ≡ ltb o.last n.last → Says h o n a b

module _ (h : Bytes) (x : History) (s : Represents h x) (o n : LeaderLogRow) (lo : o.front ≤ prefixes_held h) (ln : n.front ≤ prefixes_held h) where
  abbrev a : LeaderLog
  a = leader_log_in x.prefixes o

  abbrev b : LeaderLog
  b = leader_log_in x.prefixes n

  abbrev Said : Type 0
  Said = Says h o n a b

  module _ (l : o.last ≤ n.last) where
    older_gap : slice_of (rows_of h) o.front o.last ≡ None → length a.front < o.last → Said
    older_gap e g =
        let j : judged a b ≡ false = ap (λ (c : Bool). c && leb a.last (length b.front)) (lt-leb a.last (length a.front) g) in
        let m = gap a b l j in
        unjudged (reaches h o n l ∙ ap (λ (y : Option LogPrefixWitness). slices_same (rows_of h) y (slice_of (rows_of h) n.front o.last)) e) m.0 m.1

    module _ (p : Part h x (slice_of (rows_of h) o.front o.last) a.front o.last) where
      reaches_older : leb a.last (length a.front) ≡ true
      reaches_older = le-leb a.last (length a.front) p.reaches

      newer_gap : slice_of (rows_of h) n.front o.last ≡ None → length b.front < o.last → Said
      newer_gap e g =
          let j : judged a b ≡ false = (λ i. reaches_older i && lt-leb a.last (length b.front) g i) in
          let m = gap a b l j in
          unjudged (reaches h o n l ∙ (λ i. slices_same (rows_of h) (p.told i) (e i))) m.0 m.1

      both : Part h x (slice_of (rows_of h) n.front o.last) b.front o.last → Said
      unfolding extends
      both q =
          let j : judged a b ≡ true = (λ i. reaches_older i && le-leb a.last (length b.front) q.reaches i) in
          let v = stored_same h x s p.part q.part p.within q.within ∙ (λ i. same (p.first i) (q.first i)) in
          let e = reaches h o n l ∙ (λ i. slices_same (rows_of h) (p.told i) (q.told i)) ∙ ap Some v in
          ⊎_elim
          (λ t. let m = judged_so a b l j true t in agrees (e ∙ ap Some t) m.0 m.1)
          (λ f. let m = judged_so a b l j false f in differs (e ∙ ap Some f) m.0 m.1)
          (either (same (take o.last a.front) (take o.last b.front)))

    compared : Said
    compared =
        ⊎_elim (λ c. older_gap c.0 c.1)
        (λ p. ⊎_elim (λ c. newer_gap p c.0 c.1) (λ q. both p q) (slice_is h x s n.front o.last ln))
        (slice_is h x s o.front o.last lo)

  pub extends_means : Said
  extends_means =
      ⊎_elim
      (λ t. let l = ltb-true n.last o.last t in let m = shorter a b l in differs (sym (ends_before h o n l)) m.0 m.1)
      (λ f. compared (ltb-false n.last o.last f))
      (either (ltb n.last o.last))
