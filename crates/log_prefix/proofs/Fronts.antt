-- What a cut of a stored prefix, and of a node's front, means where bytes stand for a history.
-- Assumes nothing.
use Prim.Native.Nat.{ℕ, ◌≤◌, ◌<◌}
use mathlib.Core.Path.{◌≡◌, sym, ◌∙◌, ap, subst}
use mathlib.Core.Logic.{◌⊎◌, inl, inr, ⊎_elim}
use mathlib.Core.List.{List}
use lib.ListN.{length, take}
use Rattle.model.specs.Entry.{Prefix, same}
use Rattle.model.specs.History.{History, front_of}
use Rattle.model.specs.Sizes.{Bytes, node_count}
use Rattle.storage.specs.Tables.{prefix_row, rows_of_prefixes, prefixes_part}
use Rattle.storage.specs.Decode.{prefix_at}
use Rattle.storage.specs.Head.{prefixes_held}
use Rattle.storage.proofs.WellFormed.{formed, formed_rows}
use Rattle.storage.proofs.Meanings.{Represents, front_read, prefixes_stored}
use Rattle.log_prefix.specs.Prefix.{witness, slice_of, front_in, front_through}
use Rattle.log_prefix.specs.Comparison.{same_from}
use Rattle.log_prefix.proofs.ComparisonLaws.{same_prefix}
use Rattle.log_prefix.proofs.SliceLaws.{slice_cases}
use Rattle.log_prefix.proofs.TableLaws.{rows_length, rows_at}
use Rattle.std.specs.Prelude.{Option, Some, None}
use Rattle.units.specs.declared.LogPrefixWitness.{LogPrefixWitness}

module _ (h : Bytes) (x : History) where
  -- the slice y is the first i entries of f, stored by number
  pub record Part (y : Option LogPrefixWitness) (f : Prefix) (i : ℕ) : Type 0 where
    pub part : ℕ
    pub told : y ≡ Some (witness part)
    pub reaches : i ≤ length f
    pub within : part ≤ prefixes_held h
    pub first : prefix_at x.prefixes part ≡ take i f

  -- y is f through index i: beyond its end exactly where f is shorter, else a part
  abbrev pub Cut : Option LogPrefixWitness → Prefix → ℕ → Type 0
  Cut y f i = ((y ≡ None) × (length f < i)) ⊎ Part y f i

  module _ (s : Represents h x) where
    -- a stored prefix, by number
    pub slice_is : (p i : ℕ) → p ≤ prefixes_held h → Cut (slice_of (prefix_row (prefixes_part h)) p i) (prefix_at x.prefixes p) i
    slice_is p i l =
        let resolves = prefixes_stored h x s in
        let count = rows_length (prefixes_part h) (prefixes_held h) in
        ⊎_elim
        (λ b. inl (b.0, subst (λ (ps : List Prefix). length (prefix_at ps p) < i) resolves b.1))
        (λ b.
        inr (record {
          part = b.0;
          told = b.1;
          reaches = subst (λ (ps : List Prefix). i ≤ length (prefix_at ps p)) resolves b.2;
          within = subst (λ (m : ℕ). b.0 ≤ m) count b.3;
          first = subst (λ (ps : List Prefix). prefix_at ps b.0 ≡ take i (prefix_at ps p)) resolves b.4;
        }))
        (slice_cases (prefix_row (prefixes_part h)) (rows_of_prefixes (prefixes_part h) (prefixes_held h)) (formed_rows h (formed h s.right))
        (rows_at (prefixes_part h) (prefixes_held h)) p i (subst (λ (m : ℕ). p ≤ m) (sym count) l))

    -- two stored prefixes compared
    pub stored_same : (p q : ℕ) → p ≤ prefixes_held h → q ≤ prefixes_held h
        → same_from (prefix_row (prefixes_part h)) p p q ≡ same (prefix_at x.prefixes p) (prefix_at x.prefixes q)
    stored_same p q l m =
        let count = rows_length (prefixes_part h) (prefixes_held h) in
        same_prefix (prefix_row (prefixes_part h)) (rows_of_prefixes (prefixes_part h) (prefixes_held h)) (formed_rows h (formed h s.right))
        (rows_at (prefixes_part h) (prefixes_held h)) p q (subst (λ (k : ℕ). p ≤ k) (sym count) l) (subst (λ (k : ℕ). q ≤ k) (sym count) m)
        ∙ ap (λ (ps : List Prefix). same (prefix_at ps p) (prefix_at ps q)) (prefixes_stored h x s)

    module _ (n : ℕ) (here : n < node_count) where
      -- a node's front
      pub front_is : front_of x n ≡ prefix_at x.prefixes (front_in h n)
      front_is = subst (λ (y : History). front_of y n ≡ prefix_at y.prefixes (front_in h n)) s.decodes (front_read h n here)

      pub front_cut : (i : ℕ) → Cut (front_through h n i) (front_of x n) i
      unfolding front_through
      front_cut i =
          subst (λ (f : Prefix). Cut (front_through h n i) f i) (sym front_is) (slice_is (front_in h n) i ((formed h s.right).node n here).front)
