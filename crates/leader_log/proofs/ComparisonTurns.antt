-- What `log_extends` answers, by what it reads.
-- Assumes nothing.
use Prim.Native.Nat.{ℕ, ◌≤◌, ◌<◌}
use mathlib.Core.Path.{◌≡◌, sym, ◌∙◌, ap}
use mathlib.Core.Bool.{Bool, false}
use lib.Dec.{ltb}
use borrow.Author.Tests.{lt-ltb, le-ltb}
use Rattle.std.specs.Prelude.{Option, Some, None}
use Rattle.model.specs.Sizes.{Bytes}
use Rattle.model.proofs.Tests.{cond_true, cond_false}
use Rattle.storage.specs.Tables.{LeaderLogRow, prefix_row, prefixes_part}
use Rattle.storage.specs.Head.{prefixes_held}
use Rattle.storage.proofs.WellFormed.{Formed}
use Rattle.log_prefix.specs.Prefix.{slice_of}
use Rattle.log_prefix.specs.Comparison.{same_from}
use Rattle.log_prefix.proofs.TableLaws.{whole_table, slice_within}
use Rattle.leader_log.specs.Comparison.{rows_of, slices_same, extends_in}
use Rattle.units.specs.declared.LogPrefixWitness.{LogPrefixWitness}

module _ (h : Bytes) (o n : LeaderLogRow) where
  pub ends_before : n.last < o.last → Some false ≡ extends_in h o n
  unfolding extends_in
  ends_before l = sym (cond_true (ltb n.last o.last) _ _ (lt-ltb n.last o.last l))

  pub reaches : o.last ≤ n.last → extends_in h o n ≡ slices_same (rows_of h) (slice_of (rows_of h) o.front o.last) (slice_of (rows_of h) n.front o.last)
  unfolding extends_in
  reaches l = cond_false (ltb n.last o.last) _ _ (le-ltb n.last o.last l)

  module _ (q : Bytes) (eq : q ≡ prefixes_part h) where
    -- a part of a stored prefix is stored
    pub part_stored : (p i : ℕ) (r : Option LogPrefixWitness) → r ≡ slice_of (prefix_row q) p i → (w : LogPrefixWitness) → Formed h → p ≤ prefixes_held h → r ≡ Some w → w.0 ≤ prefixes_held h
    part_stored p i r er w f l e =
        slice_within (prefixes_part h) (prefixes_held h) p i w (whole_table h f) l (ap (λ (u : Bytes). slice_of (prefix_row u) p i) (sym eq) ∙ sym er ∙ e)

    module _ (l : o.last ≤ n.last) (r : Option LogPrefixWitness) (er : r ≡ slice_of (prefix_row q) o.front o.last) where
      older : slice_of (rows_of h) o.front o.last ≡ r
      older = sym (er ∙ ap (λ (u : Bytes). slice_of (prefix_row u) o.front o.last) eq)

      pub older_gap : r ≡ None → None ≡ extends_in h o n
      older_gap e =
          sym (reaches l ∙ ap (λ (x : Option LogPrefixWitness). slices_same (rows_of h) x (slice_of (rows_of h) n.front o.last)) (older ∙ e))

      module _ (p : LogPrefixWitness) (ep : r ≡ Some p) (s : Option LogPrefixWitness) (es : s ≡ slice_of (prefix_row q) n.front o.last) where
        both : extends_in h o n ≡ slices_same (rows_of h) (Some p) s
        both =
            reaches l
            ∙ ap (λ (x : Option LogPrefixWitness). slices_same (rows_of h) x (slice_of (rows_of h) n.front o.last)) (older ∙ ep)
            ∙ ap (slices_same (rows_of h) (Some p)) (sym (es ∙ ap (λ (u : Bytes). slice_of (prefix_row u) n.front o.last) eq))

        pub newer_gap : s ≡ None → None ≡ extends_in h o n
        newer_gap e = sym (both ∙ ap (slices_same (rows_of h) (Some p)) e)

        pub compared : (w : LogPrefixWitness) → s ≡ Some w → (v : Bool) → v ≡ same_from (prefix_row q) p.0 p.0 w.0 → Some v ≡ extends_in h o n
        compared w e v ev =
            ap Some (ev ∙ ap (λ (u : Bytes). same_from (prefix_row u) p.0 p.0 w.0) eq) ∙ sym (both ∙ ap (slices_same (rows_of h) (Some p)) e)
