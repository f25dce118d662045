-- What a commit index comes to by what is read, and the exits of `insert_committed_prefix` and `observe_committed_prefixes`.
-- Assumes nothing.
use Prim.Native.Nat.{ℕ}
use mathlib.Core.Path.{◌≡◌, refl, sym, ◌∙◌, ap}
use mathlib.Core.Bool.{Bool, true, false, cond}
use lib.Dec.{eqb}
use borrow.Author.Tests.{eq-eqb, ne_eqb}
use Rattle.model.specs.Sizes.{Bytes}
use Rattle.model.proofs.Tests.{cond_true, cond_false}
use Rattle.storage.specs.Writes.{committed_set}
use Rattle.storage.specs.Head.{committed_number, owner_of}
use Rattle.log_prefix.specs.Prefix.{stored_of, front_through}
use Rattle.commit.specs.Committed.{agree_in, unseen_set, keep_bytes}
use Rattle.commit.specs.Prefix.{longer_in, end_in, flags_of, note_step, insert_step, kept_step, seen_step, commit_step}
use Rattle.units.specs.declared.LogPrefixWitness.{LogPrefixWitness}
use Rattle.answers.specs.declared.answer.Accepted.{Accepted}
use Rattle.answers.specs.declared.answer.Refusal.{Refusal}
use Rattle.answers.specs.Numbers.{accepted_with}
use Rattle.answers.specs.Step.{accepting, Gives}
use Rattle.answers.proofs.StepLaws.{accepts_with, goes_on}
use Rattle.std.specs.Prelude.{Option, Some, None, Result}

-- ---- held against the committed prefix

pub keep_is : (h : Bytes) (n p : ℕ) → keep_bytes h n p ≡ committed_set (unseen_set h n 0) p n
unfolding keep_bytes
keep_is h n p = refl

module _ (h : Bytes) (n c p : ℕ) where
  pub differs_step : agree_in h c p (end_in h c p) ≡ false → insert_step h n c p ≡ note_step h n (end_in h c p)
  unfolding insert_step
  differs_step f = cond_false (agree_in h c p (end_in h c p)) _ _ f

  agrees_step : agree_in h c p (end_in h c p) ≡ true
      → insert_step h n c p ≡ accepting (flags_of (owner_of h) n) (cond (longer_in h c p) (keep_bytes h n p) (unseen_set h n 0))
  unfolding insert_step
  agrees_step f = cond_true (agree_in h c p (end_in h c p)) _ _ f

  pub longer_step : agree_in h c p (end_in h c p) ≡ true → longer_in h c p ≡ true → insert_step h n c p ≡ accepting (flags_of (owner_of h) n) (keep_bytes h n p)
  longer_step f g = agrees_step f ∙ ap (accepting (flags_of (owner_of h) n)) (cond_true (longer_in h c p) _ _ g)

  pub shorter_step : agree_in h c p (end_in h c p) ≡ true → longer_in h c p ≡ false → insert_step h n c p ≡ accepting (flags_of (owner_of h) n) (unseen_set h n 0)
  shorter_step f g = agrees_step f ∙ ap (accepting (flags_of (owner_of h) n)) (cond_false (longer_in h c p) _ _ g)

module _ (h : Bytes) (n c p i : ℕ) (ei : i ≡ end_in h c p) (b : Bool) (eb : b ≡ agree_in h c p i) where
  agree_is : agree_in h c p (end_in h c p) ≡ b
  agree_is = ap (agree_in h c p) (sym ei) ∙ sym eb

  pub insert_differs : b ≡ false → (r : Result Accepted Refusal) (h' : Bytes) → Gives (note_step h n i) r h' → Gives (insert_step h n c p) r h'
  insert_differs f r h' w = goes_on _ _ (differs_step h n c p (agree_is ∙ f) ∙ ap (note_step h n) (sym ei)) r h' w

  module _ (f : b ≡ true) (o v : ℕ) (eo : o ≡ owner_of h) (ev : v ≡ flags_of o n) (u : Bytes) (eu : u ≡ unseen_set h n 0)
      (r : Result Accepted Refusal) (er : r ≡ accepted_with v) where
    told_is : r ≡ accepted_with (flags_of (owner_of h) n)
    told_is = er ∙ ap accepted_with (ev ∙ ap (λ (y : ℕ). flags_of y n) eo)

    pub insert_longer : longer_in h c p ≡ true → (h' : Bytes) → h' ≡ committed_set u p n → Gives (insert_step h n c p) r h'
    insert_longer g h' w =
        accepts_with _ _ _ (longer_step h n c p (agree_is ∙ f) g) r told_is h'
        (w ∙ ap (λ (y : Bytes). committed_set y p n) eu ∙ sym (keep_is h n p))

    pub insert_shorter : longer_in h c p ≡ false → (h' : Bytes) → h' ≡ u → Gives (insert_step h n c p) r h'
    insert_shorter g h' w = accepts_with _ _ _ (shorter_step h n c p (agree_is ∙ f) g) r told_is h' (w ∙ eu)

-- ---- observed

module _ (h : Bytes) (n i : ℕ) where
  pub unseen_step : front_through h n i ≡ None → commit_step h n i ≡ accepting 0 (unseen_set h n i)
  unfolding commit_step
  unseen_step e = ap (seen_step h n i) e

  module _ (p : LogPrefixWitness) (e : front_through h n i ≡ Some p) where
    pub zero_step : p.0 ≡ 0 → commit_step h n i ≡ accepting 0 (unseen_set h n 0)
    unfolding commit_step
    zero_step z = ap (seen_step h n i) e ∙ cond_true (eqb p.0 0) _ _ (eq-eqb p.0 0 z)

    pub some_step : (p.0 ≡ 0 → ⊥) → commit_step h n i ≡ kept_step h n p.0 (stored_of (committed_number h))
    unfolding commit_step
    some_step z = ap (seen_step h n i) e ∙ cond_false (eqb p.0 0) _ _ (ne_eqb p.0 0 z)

module _ (h : Bytes) (n i : ℕ) (s : Option LogPrefixWitness) (es : s ≡ front_through h n i) (r : Result Accepted Refusal) (h' : Bytes) where
  pub observe_unseen : s ≡ None → r ≡ accepted_with 0 → h' ≡ unseen_set h n i → Gives (commit_step h n i) r h'
  observe_unseen e er w = accepts_with _ _ 0 (unseen_step h n i (sym es ∙ e)) r er h' w

  module _ (p : LogPrefixWitness) (e : s ≡ Some p) where
    pub observe_zero : p.0 ≡ 0 → r ≡ accepted_with 0 → h' ≡ unseen_set h n 0 → Gives (commit_step h n i) r h'
    observe_zero z er w = accepts_with _ _ 0 (zero_step h n i p (sym es ∙ e) z) r er h' w

    module _ (z : p.0 ≡ 0 → ⊥) (k : Option LogPrefixWitness) (ek : k ≡ stored_of (committed_number h)) where
      kept_is : (g : Option LogPrefixWitness) → k ≡ g → commit_step h n i ≡ kept_step h n p.0 g
      kept_is g eg = some_step h n i p (sym es ∙ e) z ∙ ap (kept_step h n p.0) (sym ek ∙ eg)

      pub observe_first : k ≡ None → r ≡ accepted_with 0 → h' ≡ keep_bytes h n p.0 → Gives (commit_step h n i) r h'
      observe_first g er w = accepts_with _ _ 0 (kept_is None g) r er h' w

      pub observe_later : (c : LogPrefixWitness) → k ≡ Some c → Gives (insert_step h n c.0 p.0) r h' → Gives (commit_step h n i) r h'
      observe_later c g w = goes_on _ _ (kept_is (Some c) g) r h' w
