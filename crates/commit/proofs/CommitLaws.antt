-- What `observe_committed_prefixes` means: of bytes that stand for a history, its answer is the model's, and the bytes after it stand for
-- the model's history after it: unseen, nothing, the first prefix, agreement, or a difference.
-- Assumes nothing.
use Prim.Native.Nat.{ℕ, ◌≤◌, ◌<◌, min}
use native.Mathlib.Omega.{arith}
use mathlib.Core.Path.{◌≡◌, refl, sym, ◌∙◌, ap, subst}
use mathlib.Core.Bool.{Bool, true, false, cond}
use mathlib.Core.Logic.{⊎_elim}
use mathlib.Core.List.{List, [], ◌∷◌}
use mathlib.Core.Option.{none, some}
use lib.Dec.{leb, ltb, eqb}
use lib.ListN.{length, take}
use borrow.Author.Tests.{eqb-true, eqb-false, lt-ltb, le-ltb, le-leb, lt-leb}
use Rattle.model.specs.Entry.{Prefix, same, agree, with_all}
use Rattle.model.specs.Refusal.{findingsFull}
use Rattle.model.specs.History.{Finding, History, front_of, noted, with_findings}
use Rattle.model.specs.Commit.{seen, unseen_mark, replaces, differences, commit_findings, commit_refusal, agreement, commit_value, commit_effect}
use Rattle.model.specs.Sizes.{Bytes, node_count, index_limit, finding_limit}
use Rattle.model.proofs.Tests.{either, cond_true, cond_false, yes_same}
use Rattle.storage.proofs.RuleLaws.{pass, stop}
use Rattle.storage.proofs.Meanings.{Represents, findings_read}
use Rattle.log_violation.specs.Violation.{room_for, noted_in}
use Rattle.log_prefix.specs.Prefix.{witness, stored_of, front_through}
use Rattle.commit.specs.Committed.{agree_in, unseen_set, keep_bytes}
use Rattle.commit.specs.Prefix.{longer_in, end_in, flags_of, difference, note_step, insert_step, kept_step, commit_step}
use Rattle.log_prefix.proofs.StoredLaws.{stored_none, stored_read}
use Rattle.log_prefix.proofs.Fronts.{Part, front_cut}
use Rattle.answers.specs.declared.answer.Refusal.{Refusal}
use Rattle.answers.specs.Step.{Step, accepting, refusing}
use Rattle.answers.proofs.Meaning.{Means, accepts, refuses}
use Rattle.storage.proofs.WellFormed.{formed}
use Rattle.commit.proofs.PrefixTurns.{differs_step, longer_step, shorter_step, unseen_step, zero_step, some_step}
use Rattle.commit.proofs.PrefixLaws.{changed, at, committed_is, owner_is, empty_is, unseen_written, keep_written}
use Rattle.commit.proofs.Ends.{longer_means, end_means, agree_means, end_limit}
use Rattle.commit.proofs.Difference.{difference_noted}
use Rattle.storage.specs.Head.{prefixes_held, committed_number, owner_of}
use Rattle.std.specs.Prelude.{Option, Some, None}
use Rattle.units.specs.declared.LogPrefixWitness.{LogPrefixWitness}
use Rattle.model.specs.Record.{commit}
use Rattle.model.specs.Answer.{accepted}

-- ---- of the model alone

-- nothing differs from the empty prefix
agree_empty : (c p : Prefix) → min (length c) (length p) ≡ 0 → agree c p ≡ true
unfolding agree
agree_empty c p e = ap (λ (k : ℕ). same (take k c) (take k p)) e ∙ yes_same [] [] refl

keeps_empty : (c : Prefix) → replaces c [] ≡ false
unfolding replaces
keeps_empty c = pass _ (agree_empty c [] (omega arith)) ∙ le-ltb (length c) 0 (omega arith)

replaces_by : (c p : Prefix) → agree c p ≡ true → replaces c p ≡ ltb (length c) (length p)
unfolding replaces
replaces_by c p e = pass (ltb (length c) (length p)) e

replaces_not : (c p : Prefix) → agree c p ≡ false → replaces c p ≡ false
unfolding replaces
replaces_not c p e = stop (ltb (length c) (length p)) e

value_empty : (n o : ℕ) (c : Prefix) → agreement n o c [] ≡ 0
value_empty n o [] = refl
value_empty n o (e ∷ c) = refl

value_both : (n o : ℕ) (c p : Prefix) → (c ≡ [] → ⊥) → (p ≡ [] → ⊥) → agreement n o c p ≡ cond (agree c p) (flags_of o n) 0
value_both n o [] p a b = absurd (a refl)
value_both n o (e ∷ c) [] a b = absurd (b refl)
value_both n o (e ∷ c) (f ∷ p) a b = refl

nonempty : (p : Prefix) → (p ≡ [] → ⊥) → 0 < length p
nonempty [] n = absurd (n refl)
nonempty (e ∷ p) n = omega arith

module _ (x : History) (n i : ℕ) where
  pub record Accepts (v : ℕ) (h' : Bytes) : Type 0 where
    pub refuses : commit_refusal x n i ≡ none
    pub value : v ≡ commit_value x n i
    pub represents : Represents h' (commit_effect x n i)

  taken : (h : Bytes) (v : ℕ) (h' : Bytes) → Accepts v h' → Means h x (commit n i) (accepting v h')
  taken h v h' a = accepts h x (commit n i) _ h' a.refuses (ap (λ (m : ℕ). accepted m 0) a.value) a.represents

  few : (fs : List Finding) → fs ≡ commit_findings x n i → length fs ≤ finding_limit → commit_refusal x n i ≡ none
  unfolding commit_refusal
  few fs e l =
      cond_false (ltb finding_limit (length (commit_findings x n i))) _ _ (ap (λ (gs : List Finding). ltb finding_limit (length gs)) (sym e) ∙ le-ltb finding_limit (length fs) l)

  many : (fs : List Finding) → fs ≡ commit_findings x n i → finding_limit < length fs → commit_refusal x n i ≡ some findingsFull
  unfolding commit_refusal
  many fs e l =
      cond_true (ltb finding_limit (length (commit_findings x n i))) _ _ (ap (λ (gs : List Finding). ltb finding_limit (length gs)) (sym e) ∙ lt-ltb finding_limit (length fs) l)

  effect_is : (m : ℕ) (c : Prefix) (o : ℕ) (fs : List Finding) → m ≡ unseen_mark (front_of x n) i
      → c ≡ cond (replaces x.committed (seen x n i)) (seen x n i) x.committed
      → o ≡ cond (replaces x.committed (seen x n i)) n x.owner → fs ≡ commit_findings x n i
      → changed x n m c o fs ≡ commit_effect x n i
  unfolding commit_effect
  effect_is m c o fs em ec eo ef = λ j. changed x n (em j) (ec j) (eo j) (ef j)

  -- without a difference the findings stay
  quiet : agree x.committed (seen x n i) ≡ true → x.findings ≡ commit_findings x n i
  unfolding commit_findings noted with_all differences
  quiet e =
      sym (ap (with_all _ x.findings) (cond_true (agree x.committed (seen x n i)) [] _ e))

  differing : (c p : Prefix) → x.committed ≡ c → seen x n i ≡ p → agree c p ≡ false
      → noted x.findings (difference n (min (length c) (length p)) ∷ []) ≡ commit_findings x n i
  unfolding commit_findings differences
  differing c p ec ep e =
      sym (ap (noted x.findings) ((λ j. differences n (ec j) (ep j)) ∙ cond_false (agree c p) [] _ e))

  module _ (h : Bytes) (s : Represents h x) (here : n < node_count) (limit : i ≤ index_limit) where
    held : length x.findings ≤ finding_limit
    held = (let a = ap (λ (y : History). length y.findings) (sym s.decodes) ∙ findings_read h in let b = (formed h s.right).findings in omega arith)

    -- nothing is seen: only the mark is set
    nothing_seen : (m : ℕ) → m ≤ index_limit → m ≡ unseen_mark (front_of x n) i → seen x n i ≡ [] → Accepts 0 (unseen_set h n m)
    unfolding commit_value
    nothing_seen m b em e =
        let keeps : replaces x.committed (seen x n i) ≡ false = ap (replaces x.committed) e ∙ keeps_empty x.committed in
        let calm = quiet (ap (agree x.committed) e ∙ agree_empty x.committed [] (omega arith)) in
        record {
          refuses = few x.findings calm held;
          value = sym (ap (agreement n x.owner x.committed) e ∙ value_empty n x.owner x.committed);
          represents =
              subst (Represents (unseen_set h n m))
              (effect_is m x.committed x.owner x.findings em
              (sym (cond_false (replaces x.committed (seen x n i)) _ _ keeps)) (sym (cond_false (replaces x.committed (seen x n i)) _ _ keeps)) calm)
              (unseen_written h x s n m here b);
        }

    module _ (p : ℕ) (within : p ≤ prefixes_held h) (reach : 0 ≡ unseen_mark (front_of x n) i) (es : seen x n i ≡ at h x s p) (some-seen : p ≡ 0 → ⊥) where
      seen_some : at h x s p ≡ [] → ⊥
      seen_some e = some-seen (empty_is h x s p within e)

      -- it is kept, and no value but that of agreement
      replacing : agree x.committed (seen x n i) ≡ true → replaces x.committed (seen x n i) ≡ true → (v : ℕ) → v ≡ commit_value x n i → Accepts v (keep_bytes h n p)
      replacing e r v ev =
          record {
            refuses = few x.findings (quiet e) held;
            value = ev;
            represents =
                subst (Represents (keep_bytes h n p))
                (effect_is 0 (at h x s p) n x.findings reach
                (sym (cond_true (replaces x.committed (seen x n i)) _ _ r ∙ es)) (sym (cond_true (replaces x.committed (seen x n i)) _ _ r)) (quiet e))
                (keep_written h x s n p here within);
          }

      -- the first is kept
      first_seen : x.committed ≡ [] → Accepts 0 (keep_bytes h n p)
      unfolding commit_value
      first_seen e =
          let agrees : agree x.committed (seen x n i) ≡ true =
          ap (λ (c : Prefix). agree c (seen x n i)) e ∙ agree_empty [] (seen x n i) (omega arith) in
          replacing agrees
          (replaces_by x.committed (seen x n i) agrees
          ∙ (λ j. ltb (length (e j)) (length (es j))) ∙ lt-ltb 0 (length (at h x s p)) (nonempty (at h x s p) seen_some))
          0 (sym (ap (λ (c : Prefix). agreement n x.owner c (seen x n i)) e))

      module _ (c : ℕ) (lc : c ≤ prefixes_held h) (ec : x.committed ≡ at h x s c) (some-kept : c ≡ 0 → ⊥) where
        kept_some : at h x s c ≡ [] → ⊥
        kept_some e = some-kept (empty_is h x s c lc e)

        agree_is : agree x.committed (seen x n i) ≡ agree_in h c p (end_in h c p)
        agree_is = (λ j. agree (ec j) (es j)) ∙ sym (agree_means h x s c p lc within)

        value_is : (b : Bool) → agree_in h c p (end_in h c p) ≡ b → commit_value x n i ≡ cond b (flags_of (owner_of h) n) 0
        unfolding commit_value
        value_is b e =
            (λ j. agreement n (owner_is h x s j) (ec j) (es j))
            ∙ value_both n (owner_of h) (at h x s c) (at h x s p) kept_some seen_some
            ∙ ap (λ (y : Bool). cond y (flags_of (owner_of h) n) 0) (sym (agree_means h x s c p lc within) ∙ e)

        longer_is : agree x.committed (seen x n i) ≡ true → replaces x.committed (seen x n i) ≡ longer_in h c p
        longer_is e =
            replaces_by x.committed (seen x n i) e ∙ (λ j. ltb (length (ec j)) (length (es j))) ∙ sym (longer_means h x s c p lc within)

        -- agreement: a longer one replaces prefix and owner
        longer_seen : agree_in h c p (end_in h c p) ≡ true → longer_in h c p ≡ true → Accepts (flags_of (owner_of h) n) (keep_bytes h n p)
        longer_seen e l = replacing (agree_is ∙ e) (longer_is (agree_is ∙ e) ∙ l) (flags_of (owner_of h) n) (sym (value_is true e))

        shorter_seen : agree_in h c p (end_in h c p) ≡ true → longer_in h c p ≡ false → Accepts (flags_of (owner_of h) n) (unseen_set h n 0)
        shorter_seen e l =
            let keeps = longer_is (agree_is ∙ e) ∙ l in
            record {
              refuses = few x.findings (quiet (agree_is ∙ e)) held;
              value = sym (value_is true e);
              represents =
                  subst (Represents (unseen_set h n 0))
                  (effect_is 0 x.committed x.owner x.findings reach
                  (sym (cond_false (replaces x.committed (seen x n i)) _ _ keeps)) (sym (cond_false (replaces x.committed (seen x n i)) _ _ keeps))
                  (quiet (agree_is ∙ e)))
                  (unseen_written h x s n 0 here (omega arith));
            }

        -- a difference: LG-04, or too many findings
        module _ (e : agree_in h c p (end_in h c p) ≡ false) where
          abbrev fs : List Finding
          fs = noted x.findings (difference n (end_in h c p) ∷ [])

          found : fs ≡ commit_findings x n i
          found =
              ap (λ (k : ℕ). noted x.findings (difference n k ∷ [])) (end_means h x s c p lc within)
              ∙ differing (at h x s c) (at h x s p) ec es (sym (agree_means h x s c p lc within) ∙ e)

          keeps : replaces x.committed (seen x n i) ≡ false
          keeps = replaces_not x.committed (seen x n i) (agree_is ∙ e)

          differs_seen : Means h x (commit n i) (note_step h n (end_in h c p))
          unfolding note_step
          differs_seen =
              let f = difference n (end_in h c p) in
              ⊎_elim
              (λ y.
              subst (Means h x (commit n i)) (sym (cond_true (room_for h f) _ (refusing Refusal.FindingsFull h) y.room))
              (taken h 0 (unseen_set (noted_in h f) n 0)
              (record {
                refuses = few fs found y.few;
                value = sym (value_is false e);
                represents =
                    subst (Represents (unseen_set (noted_in h f) n 0))
                    (effect_is 0 x.committed x.owner fs reach
                    (sym (cond_false (replaces x.committed (seen x n i)) _ _ keeps)) (sym (cond_false (replaces x.committed (seen x n i)) _ _ keeps)) found)
                    (unseen_written (noted_in h f) (with_findings x fs) y.represents n 0 here (omega arith));
              })))
              (λ y.
              subst (Means h x (commit n i)) (sym (cond_false (room_for h f) (accepting 0 (unseen_set (noted_in h f) n 0)) _ y.0))
              (refuses h x (commit n i) Refusal.FindingsFull findingsFull refl s (many fs found y.1)))
              (difference_noted h x s n (end_in h c p) here (end_limit h x s c p lc within))

-- ---- all cases

module _ (h : Bytes) (x : History) (n i : ℕ) (s : Represents h x) (here : n < node_count) (limit : i ≤ index_limit) where
  abbrev Meant : Step → Type 0
  Meant t = Means h x (commit n i) t

  from : (t : Step) → commit_step h n i ≡ t → Meant t → Meant (commit_step h n i)
  from t e = subst Meant (sym e)

  -- the front is shorter
  not_reached : front_through h n i ≡ None → length (front_of x n) < i → Meant (commit_step h n i)
  not_reached e l =
      let short = lt-leb i (length (front_of x n)) l in
      from _ (unseen_step h n i e)
      (taken x n i h 0 (unseen_set h n i)
      (nothing_seen x n i h s here limit i limit (sym (cond_false (leb i (length (front_of x n))) 0 i short))
      (cond_false (leb i (length (front_of x n))) (take i (front_of x n)) [] short)))

  module _ (b : Part h x (front_through h n i) (front_of x n) i) where
    reaches : leb i (length (front_of x n)) ≡ true
    reaches = le-leb i (length (front_of x n)) b.reaches

    cleared : 0 ≡ unseen_mark (front_of x n) i
    cleared = sym (cond_true (leb i (length (front_of x n))) 0 i reaches)

    shown : seen x n i ≡ at h x s b.part
    shown = cond_true (leb i (length (front_of x n))) (take i (front_of x n)) [] reaches ∙ sym b.first

    index_zero : b.part ≡ 0 → Meant (commit_step h n i)
    index_zero z =
        from _ (zero_step h n i (witness b.part) b.told z)
        (taken x n i h 0 (unseen_set h n 0) (nothing_seen x n i h s here limit 0 (omega arith) cleared (shown ∙ ap (at h x s) z)))

    module _ (some-seen : b.part ≡ 0 → ⊥) where
      kept : (k : Option LogPrefixWitness) → stored_of (committed_number h) ≡ k → Meant (kept_step h n b.part k) → Meant (commit_step h n i)
      kept k e m = from _ (some_step h n i (witness b.part) b.told some-seen) (subst (λ (o : Option LogPrefixWitness). Meant (kept_step h n b.part o)) (sym e) m)

      first_one : committed_number h ≡ 0 → Meant (commit_step h n i)
      first_one z =
          kept None (sym (stored_none (committed_number h) z))
          (taken x n i h 0 (keep_bytes h n b.part)
          (first_seen x n i h s here limit b.part b.within cleared shown some-seen (committed_is h x s ∙ ap (at h x s) z)))

      module _ (some-kept : committed_number h ≡ 0 → ⊥) where
        abbrev c : ℕ
        c = committed_number h

        later : (t : Step) → insert_step h n c b.part ≡ t → Meant t → Meant (commit_step h n i)
        later t e m = kept (Some (witness c)) (sym (stored_read c c refl some-kept)) (subst Meant (sym e) m)

        lc : c ≤ prefixes_held h
        lc = (formed h s.right).committed

        agreeing : agree_in h c b.part (end_in h c b.part) ≡ true → Meant (commit_step h n i)
        agreeing e =
            ⊎_elim
            (λ l. later _ (longer_step h n c b.part e l)
            (taken x n i h _ _ (longer_seen x n i h s here limit b.part b.within cleared shown some-seen c lc (committed_is h x s) some-kept e l)))
            (λ l. later _ (shorter_step h n c b.part e l)
            (taken x n i h _ _ (shorter_seen x n i h s here limit b.part b.within cleared shown some-seen c lc (committed_is h x s) some-kept e l)))
            (either (longer_in h c b.part))

        compared : Meant (commit_step h n i)
        compared =
            ⊎_elim agreeing
            (λ e. later _ (differs_step h n c b.part e)
            (differs_seen x n i h s here limit b.part b.within cleared shown some-seen c lc (committed_is h x s) some-kept e))
            (either (agree_in h c b.part (end_in h c b.part)))

      some_one : Meant (commit_step h n i)
      some_one =
          ⊎_elim (λ e. first_one (eqb-true (committed_number h) 0 e)) (λ e. compared (eqb-false (committed_number h) 0 e)) (either (eqb (committed_number h) 0))

    reached : Meant (commit_step h n i)
    reached = ⊎_elim (λ e. index_zero (eqb-true b.part 0 e)) (λ e. some_one (eqb-false b.part 0 e)) (either (eqb b.part 0))

  -- kind 2
  pub commit_means : Means h x (commit n i) (commit_step h n i)
  commit_means = ⊎_elim (λ b. not_reached b.0 b.1) reached (front_cut h x s n here i)
