-- A node's front, as it is read and cut.
-- Assumes nothing.
use Prim.Native.Nat.{ℕ, ◌≤◌, ◌<◌}
use mathlib.Core.Path.{◌≡◌, sym, ◌∙◌, ap, subst}
use Rattle.model.specs.Sizes.{Bytes, node_count}
use Rattle.storage.specs.Tables.{NodeRow, row_of_node, nodes_part, prefix_row, prefixes_part}
use Rattle.storage.specs.Head.{prefixes_held}
use Rattle.storage.proofs.WellFormed.{Formed}
use Rattle.log_prefix.specs.Prefix.{slice_of, front_in, front_through}
use Rattle.units.specs.declared.LogPrefixWitness.{LogPrefixWitness}
use Rattle.log_prefix.proofs.TableLaws.{whole_table, slice_within}
use Rattle.std.specs.Prelude.{Option, Some}

module _ (h : Bytes) (n : ℕ) (x : NodeRow) (ex : x ≡ row_of_node (nodes_part h) n) where
  pub front_within : Formed h → n < node_count → x.front ≤ prefixes_held h
  front_within f l = subst (λ (y : NodeRow). y.front ≤ prefixes_held h) (sym ex) (f.node n l).front

  pub through_is : (u : Bytes) → u ≡ prefixes_part h → (i : ℕ) (r : Option LogPrefixWitness) → r ≡ slice_of (prefix_row u) x.front i → r ≡ front_through h n i
  unfolding front_through
  through_is u eu i r e =
      e ∙ ap (λ (y : Bytes). slice_of (prefix_row y) x.front i) eu ∙ ap (λ (y : NodeRow). slice_of (prefix_row (prefixes_part h)) y.front i) ex

-- a part of a front is stored
pub through_stored : (h : Bytes) (n i : ℕ) (p : LogPrefixWitness) → Formed h → n < node_count → front_through h n i ≡ Some p → p.0 ≤ prefixes_held h
unfolding front_through
through_stored h n i p f l e = slice_within (prefixes_part h) (prefixes_held h) (front_in h n) i p (whole_table h f) (f.node n l).front e
