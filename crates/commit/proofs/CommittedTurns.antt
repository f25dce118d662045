-- What the steps on the committed prefix answer and leave, by what they read.
-- Assumes nothing.
use Prim.Native.Nat.{ℕ, ◌≤◌}
use mathlib.Core.Path.{◌≡◌, refl, sym, ◌∙◌, ap, subst}
use mathlib.Core.Bool.{Bool, false}
use Rattle.model.specs.Sizes.{Bytes}
use Rattle.storage.specs.Tables.{PrefixRow, prefix_row, prefixes_part}
use Rattle.storage.specs.Head.{prefixes_held, committed_number}
use Rattle.log_prefix.specs.Prefix.{stored_of, slice_of}
use Rattle.log_prefix.specs.Comparison.{same_from}
use Rattle.log_prefix.proofs.StoredLaws.{stored_number}
use Rattle.log_prefix.proofs.TableLaws.{whole_table, slice_within}
use Rattle.commit.specs.Committed.{rows_of, same_slices, agree_in}
use Rattle.units.specs.declared.LogPrefixWitness.{LogPrefixWitness}
use Rattle.storage.proofs.WellFormed.{Formed}
use Rattle.std.specs.Prelude.{Option, Some, None}

-- a part of a stored prefix is stored
stored_within : (h : Bytes) (p i : ℕ) (q : LogPrefixWitness) → Formed h → p ≤ prefixes_held h → slice_of (rows_of h) p i ≡ Some q → q.0 ≤ prefixes_held h
stored_within h p i q f l e = slice_within (prefixes_part h) (prefixes_held h) p i q (whole_table h f) l e

-- the committed prefix, where one is kept, is stored
pub kept_within : (h : Bytes) → Formed h → (k : Option LogPrefixWitness) → k ≡ stored_of (committed_number h) → (c : LogPrefixWitness) → k ≡ Some c → c.0 ≤ prefixes_held h
kept_within h f k ek c g = subst (λ (x : ℕ). x ≤ prefixes_held h) (sym (stored_number (committed_number h) k ek c g).0) f.committed

-- ---- compared

-- where the first is not there
pub none_first : (row : ℕ → PrefixRow) (s : Option LogPrefixWitness) → same_slices row None s ≡ false
none_first row (Some p) = refl
none_first row None = refl

module _ (h : Bytes) (a b i : ℕ) (q : Bytes) (eq : q ≡ prefixes_part h) (r : Option LogPrefixWitness) (er : r ≡ slice_of (prefix_row q) a i) where
  first_slice : slice_of (rows_of h) a i ≡ r
  first_slice = sym (er ∙ ap (λ (u : Bytes). slice_of (prefix_row u) a i) eq)

  pub agree_short : r ≡ None → false ≡ agree_in h a b i
  unfolding agree_in
  agree_short e =
      sym (ap (λ (x : Option LogPrefixWitness). same_slices (rows_of h) x (slice_of (rows_of h) b i)) (first_slice ∙ e) ∙ none_first (rows_of h) (slice_of (rows_of h) b i))

  pub slice_kept : (p : LogPrefixWitness) → Formed h → a ≤ prefixes_held h → r ≡ Some p → p.0 ≤ prefixes_held h
  slice_kept p f l e = stored_within h a i p f l (first_slice ∙ e)

  module _ (p : LogPrefixWitness) (e : r ≡ Some p) (s : Option LogPrefixWitness) (es : s ≡ slice_of (prefix_row q) b i) where
    both_slices : agree_in h a b i ≡ same_slices (rows_of h) (Some p) s
    unfolding agree_in
    both_slices =
        ap (λ (x : Option LogPrefixWitness). same_slices (rows_of h) x (slice_of (rows_of h) b i)) (first_slice ∙ e)
        ∙ ap (same_slices (rows_of h) (Some p)) (sym (es ∙ ap (λ (u : Bytes). slice_of (prefix_row u) b i) eq))

    pub agree_short_2 : s ≡ None → false ≡ agree_in h a b i
    agree_short_2 g = sym (both_slices ∙ ap (same_slices (rows_of h) (Some p)) g)

    pub agree_same : (p' : LogPrefixWitness) → s ≡ Some p' → (v : Bool) → v ≡ same_from (prefix_row q) p.0 p.0 p'.0 → v ≡ agree_in h a b i
    agree_same p' g v w =
        w ∙ ap (λ (u : Bytes). same_from (prefix_row u) p.0 p.0 p'.0) eq ∙ sym (both_slices ∙ ap (same_slices (rows_of h) (Some p)) g)
