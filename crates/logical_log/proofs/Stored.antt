-- The front of a view stored in bytes that stand for a history: after it they stand for the history with the front's prefixes.
-- Assumes nothing.
use Prim.Native.Nat.{ℕ, zero, suc, ◌+◌, ◌<◌, ◌≤◌}
use native.Mathlib.Omega.{arith}
use mathlib.Core.Path.{◌≡◌, sym, ◌∙◌, ap, subst}
use mathlib.Core.Logic.{⊎_elim}
use mathlib.Core.List.{List, [], ◌∷◌, ◌++◌, append-nil, append_assoc}
use lib.Dec.{eqb}
use lib.ListN.{length, length-append}
use borrow.Author.Tests.{eqb-true, eqb-false}
use Rattle.model.specs.Entry.{Entry, Prefix, prefixes, with, with_all}
use Rattle.model.specs.Record.{front_from}
use Rattle.model.specs.History.{History, with_prefixes}
use Rattle.model.specs.View.{prefixes_from}
use Rattle.model.specs.Sizes.{Bytes, index_limit, content_limit, prefix_limit, term_end}
use Rattle.model.proofs.Tests.{either}
use Rattle.record_entries.specs.BitLayout.{ViewBits, Walk, index_at, next_at, entries_at}
use Rattle.record_bits.proofs.Widths.{field_lt}
use Rattle.record_entries.proofs.Walks.{walk_entered}
use Rattle.storage.specs.Decode.{prefix_at}
use Rattle.storage.specs.Head.{prefixes_held}
use Rattle.storage.proofs.Meanings.{Represents}
use Rattle.log_prefix.specs.Extension.{extended_bytes, extended_count, extended_number, written_bytes, written_count, written_number}
use Rattle.logical_log.proofs.Cursors.{front_suc, front_cut, front_zero, walk_more, content_short}
use Rattle.log_prefix.proofs.Written.{count_grows, written_cons}
use Rattle.logical_log.proofs.StoredRows.{Step, extension_step}

-- ---- entries within the limits

-- the entries from index i on
abbrev pub Sound : ℕ → List Entry → Type 0
Sound i [] = Unit {0}
Sound i (e ∷ es) = (i ≤ index_limit) × (length e.content ≤ content_limit) × (e.term < term_end) × Sound (i + 1) es

-- so are those of a readable view's front
pub front_sound : (n : ℕ) (s : ViewBits) (k i : ℕ) → Walk s k n → Sound i (front_from i (entries_at s k n))
front_sound zero s k i w = subst (Sound i) (sym (front_zero s k i)) tt
front_sound (suc n) s k i w =
    ⊎_elim
    (λ t.
    let e = eqb-true (index_at s k) i t in
    subst (Sound i) (sym (front_suc s k n i e)) (
      subst (λ (j : ℕ). j ≤ index_limit) e (walk_entered s k (suc n) w (omega arith)).within,
      content_short s k n w,
      field_lt s.bytes (k + 10) 32,
      front_sound n s (next_at s k) (i + 1) (walk_more s k n w),
    ))
    (λ f. subst (Sound i) (sym (front_cut s k n i (eqb-false (index_at s k) i f))) tt)
    (either (eqb (index_at s k) i))

-- ---- the whole front

pub record Whole (h : Bytes) (x : History) (p : ℕ) (es : List Entry) (h' : Bytes) (n' p' : ℕ) : Type 0 where
  pub represents : Represents h' (with_prefixes x (with_all prefixes x.prefixes (prefixes_from (prefix_at x.prefixes p) es)))
  pub holds : n' ≡ prefixes_held h'
  pub within : p' ≤ n'
  pub is : prefix_at (with_all prefixes x.prefixes (prefixes_from (prefix_at x.prefixes p) es)) p' ≡ prefix_at x.prefixes p ++ es

none_left : (h : Bytes) (x : History) → Represents h x → (n p i : ℕ) → n ≡ prefixes_held h → p ≤ n
    → Whole h x p [] (written_bytes h n p i []) (written_count h n p i []) (written_number h n p i [])
unfolding written_bytes written_count written_number prefixes_from with_all
none_left h x s n p i en hp =
    record { represents = s; holds = en; within = hp; is = sym (append-nil (prefix_at x.prefixes p)) }

one_more : (h : Bytes) (x : History) (n p i : ℕ) (e : Entry) (es : List Entry)
    → Step h x n p e (extended_bytes h n p i e) (extended_count h n p e) (extended_number h n p e)
    → Whole (extended_bytes h n p i e) (with_prefixes x (with prefixes x.prefixes (prefix_at x.prefixes p ++ (e ∷ [])))) (extended_number h n p e) es
    (written_bytes (extended_bytes h n p i e) (extended_count h n p e) (extended_number h n p e) (i + 1) es)
    (written_count (extended_bytes h n p i e) (extended_count h n p e) (extended_number h n p e) (i + 1) es)
    (written_number (extended_bytes h n p i e) (extended_count h n p e) (extended_number h n p e) (i + 1) es)
    → Whole h x p (e ∷ es) (written_bytes h n p i (e ∷ es)) (written_count h n p i (e ∷ es)) (written_number h n p i (e ∷ es))
unfolding written_bytes written_count written_number prefixes_from with_all
one_more h x n p i e es a b =
    let q = prefix_at x.prefixes p in
    let W = with prefixes x.prefixes (q ++ (e ∷ [])) in
    let all : with_all prefixes W (prefixes_from (prefix_at W (extended_number h n p e)) es) ≡ with_all prefixes W (prefixes_from (q ++ (e ∷ [])) es) =
    ap (λ (z : Prefix). with_all prefixes W (prefixes_from z es)) a.is in
    record {
      represents = subst (λ (ps : List Prefix). Represents (written_bytes (extended_bytes h n p i e) (extended_count h n p e) (extended_number h n p e) (i + 1) es) (with_prefixes x ps)) all b.represents;
      holds = b.holds;
      within = b.within;
      is = ap (λ (ps : List Prefix). prefix_at ps (written_number (extended_bytes h n p i e) (extended_count h n p e) (extended_number h n p e) (i + 1) es)) (sym all)
          ∙ b.is ∙ ap (λ (z : Prefix). z ++ es) a.is ∙ append_assoc q (e ∷ []) es;
    }

pub front_represented : (es : List Entry) (h : Bytes) (x : History) → Represents h x → (n p i : ℕ) → n ≡ prefixes_held h → p ≤ n
    → length (prefix_at x.prefixes p) + 1 ≡ i → Sound i es → written_count h n p i es ≤ prefix_limit
    → Whole h x p es (written_bytes h n p i es) (written_count h n p i es) (written_number h n p i es)
front_represented [] h x s n p i en hp next sound room = none_left h x s n p i en hp
front_represented (e ∷ es) h x s n p i en hp next sound room =
    let c = written_cons h n p i e es in
    let r : extended_count h n p e ≤ prefix_limit =
    (let g = count_grows es (extended_bytes h n p i e) (extended_count h n p e) (extended_number h n p e) (i + 1) in let y = c.1 in omega arith) in
    let a = extension_step h x s n p i e en hp next sound.0 sound.1 sound.2 r in
    let x' = with_prefixes x (with prefixes x.prefixes (prefix_at x.prefixes p ++ (e ∷ []))) in
    let b = front_represented es (extended_bytes h n p i e) x' a.represents (extended_count h n p e) (extended_number h n p e) (i + 1) a.holds a.within
    (ap (λ (q : Prefix). length q + 1) a.is ∙ ap (λ (m : ℕ). m + 1) (length-append (prefix_at x.prefixes p) (e ∷ []) ∙ next))
    sound.3 (subst (λ (m : ℕ). m ≤ prefix_limit) c.1 room) in
    one_more h x n p i e es a b
