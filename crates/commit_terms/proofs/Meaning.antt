-- What `record_commit_terms` means: of bytes that stand for a history, the answer is the model's answer to the record, and the bytes
-- after it stand for the model's history after it.
-- Assumes nothing.
use Prim.Native.Nat.{ℕ, ◌≤◌, ◌<◌}
use mathlib.Core.Path.{refl}
use mathlib.Core.Option.{none, some}
use lib.Dec.{ltb}
use borrow.Author.Tests.{ltb-false}
use Rattle.model.specs.Refusal.{old_exceeds_new}
use Rattle.model.specs.Record.{terms}
use Rattle.model.specs.History.{History}
use Rattle.model.specs.Sizes.{Bytes, index_limit, term_end}
use Rattle.model.proofs.Tests.{cond_cases, cond_true, cond_false}
use Rattle.storage.proofs.Meanings.{Represents}
use Rattle.answers.proofs.Meaning.{Means, accepts, refuses}
use Rattle.commit_terms.specs.Terms.{record_bytes, terms_step}
use Rattle.answers.specs.declared.answer.Refusal.{Refusal}
use Rattle.commit_terms.proofs.TermLaws.{record_means}

-- kind 3
pub terms_mean : (h : Bytes) (x : History) (old new t : ℕ) → Represents h x → new ≤ index_limit → t < term_end
    → Means h x (terms old new t) (terms_step h old new t)
unfolding terms_step
terms_mean h x old new t s b f =
    cond_cases (Means h x (terms old new t)) (ltb new old) _ _
    (λ e. refuses h x _ Refusal.OldExceedsNew old_exceeds_new refl s (cond_true (ltb new old) (some old_exceeds_new) none e))
    (λ e.
    accepts h x _ _ (record_bytes h old new t) (cond_false (ltb new old) (some old_exceeds_new) none e) refl
    (record_means h x old new t s (ltb-false new old e) b f))
