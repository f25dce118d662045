-- The fresh history in bytes: it keeps the storage rules, and stands for the model's fresh history.
-- Assumes nothing.
use Prim.Native.Nat.{ℕ, zero, suc, ◌+◌, ◌*◌}
use native.Mathlib.Decide.{dec_lt}
use native.Mathlib.Omega.{arith}
use mathlib.Core.Path.{◌≡◌, refl, ap, ◌∙◌}
use mathlib.Core.Bool.{Bool, true, ◌&&◌}
use mathlib.Core.List.{[]}
use lib.ListN.{length, get_or, take, drop, replicate, length-replicate, length-take, get_or-eq_default}
use borrow.Author.Tests.{eq-eqb}
use Rattle.model.specs.History.{fresh}
use Rattle.model.specs.Sizes.{Bytes, node_count}
use Rattle.storage_bytes.specs.Lists.{tabulate}
use Rattle.storage_bytes.specs.Words.{word_at}
use Rattle.storage_bytes.specs.Layout.{part, history_length, head_start, head_length, nodes_start, nodes_length, node_width, number_width, index_width, node_last, node_unseen, start_in, length_in, head_fields}
use Rattle.storage.specs.Tables.{Tables, NodeRow, row_of_node, head_part, nodes_part, tables_in, tables_of, regions_of, tables_by, with_node_rows}
use Rattle.storage.specs.Decode.{history_in, resolve_from, decode}
use Rattle.storage.specs.Rules.{tables_right, well_formed}
use Rattle.storage.specs.Fresh.{zeros, fresh_history}
use Rattle.storage_bytes.proofs.ListLaws.{tabulate_replicate}
use Rattle.storage_bytes.proofs.PartLaws.{part_at}

pub zeros_length : (n : ℕ) → length (zeros n) ≡ n
unfolding zeros
zeros_length n = length-replicate n 0

-- ---- where every byte is 0

abbrev pub Zero : Bytes → Type 0
Zero t = (i : ℕ) → get_or t i 0 ≡ 0

pub zeros_zero : (n : ℕ) → Zero (zeros n)
unfolding zeros
zeros_zero zero i = refl
zeros_zero (suc n) zero = refl
zeros_zero (suc n) (suc i) = zeros_zero n i

part_zero : (h : Bytes) (a n : ℕ) → Zero h → Zero (part h a n)
unfolding part
part_zero h a n z i =
    elim (dec_lt i n) [
      | yes l ↦ part_at h a n i l ∙ z (a + i)
      | no l ↦ get_or-eq_default (take n (drop a h)) 0 {n = i} (omega (arith, length-take n (drop a h)))
    ]

pub word_zero : (t : Bytes) (o n : ℕ) → Zero t → word_at t o n ≡ 0
unfolding word_at
word_zero t o zero z = refl
word_zero t o (suc n) z = λ i. word_zero t o n z i * 256 + z (o + n) i

-- ---- the fresh history

abbrev empty_node : NodeRow
empty_node = record { front = 0; last = 0; unseen = 0 }

abbrev empty_tables : Tables
empty_tables =
    record {
      rows = [];
      nodes = replicate node_count empty_node;
      committed = 0;
      owner = 0;
      terms = [];
      certificates = [];
      findings = [];
      leader_logs = [];
    }

pub fresh_tables : tables_of fresh_history ≡ empty_tables
unfolding tables_in tabulate
fresh_tables =
    let z = part_zero fresh_history head_start head_length (zeros_zero history_length) in
    (λ i. tables_by (λ k. word_zero (head_part fresh_history) (start_in head_fields k) (length_in head_fields k) z i) (regions_of fresh_history))
    ∙ ap (with_node_rows empty_tables) nodes_zero
  where
    zn : Zero (nodes_part fresh_history)
    zn = part_zero fresh_history nodes_start nodes_length (zeros_zero history_length)

    nodes_zero : tabulate (row_of_node (nodes_part fresh_history)) 0 node_count ≡ replicate node_count empty_node
    nodes_zero =
        tabulate_replicate (row_of_node (nodes_part fresh_history)) empty_node 0 node_count
        (λ k j.
        record {
          front = word_zero (nodes_part fresh_history) (k * node_width) number_width zn j;
          last = word_zero (nodes_part fresh_history) (k * node_width + node_last) index_width zn j;
          unseen = word_zero (nodes_part fresh_history) (k * node_width + node_unseen) index_width zn j;
        })

-- it stands for the model's fresh history
pub fresh_decodes : decode fresh_history ≡ fresh
unfolding decode resolve_from
fresh_decodes = ap history_in fresh_tables

-- it keeps the storage rules
pub fresh_well_formed : well_formed fresh_history ≡ true
unfolding well_formed tables_right
fresh_well_formed =
    ap (λ (b : Bool). b && tables_right (tables_of fresh_history)) (eq-eqb (length fresh_history) history_length (zeros_length history_length))
    ∙ ap tables_right fresh_tables
