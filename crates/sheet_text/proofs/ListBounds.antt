-- No printed list of bytes that keep the storage rules is longer than 256.
-- Assumes nothing.
use Prim.Native.Nat.{ℕ, zero, suc, ◌+◌, ◌≤◌}
use native.Mathlib.Omega.{arith}
use mathlib.Core.Path.{◌≡◌, refl, ap, ◌∙◌}
use mathlib.Core.Bool.{true}
use mathlib.Core.List.{List, [], ◌∷◌}
use lib.Dec.{eqb}
use lib.ListN.{length, get_or, length-append, length-map}
use Rattle.model.specs.Sizes.{Bytes, node_count, finding_limit}
use Rattle.model.specs.History.{Finding}
use Rattle.model.specs.Lists.{Unseen, before, insert, ordered, finding_list, leader_list, unseen_of, marks_from, unseen_list, unknown_of, unknown_from, unknown_list}
use Rattle.model.proofs.Tests.{cond_cases}
use Rattle.storage.specs.Head.{findings_held}
use Rattle.storage.specs.Rules.{well_formed}
use Rattle.storage.specs.Tables.{row_of_node, nodes_part, finding_row, findings_part, tables_in}
use Rattle.storage.specs.Decode.{decode}
use Rattle.storage_bytes.proofs.ListLaws.{tabulate_length}
use Rattle.storage.proofs.WellFormed.{formed, end_small}
use Rattle.storage.proofs.Meanings.{end_is, findings_stored, represented}
use Rattle.lists.proofs.Ascents.{leaders_few}
use Rattle.sheet_text.specs.Closing.{longest_list}

insert_length : (f : Finding) (gs : List Finding) → length (insert f gs) ≡ suc (length gs)
unfolding insert
insert_length f [] = refl
insert_length f (g ∷ gs) =
    cond_cases (λ (l : List Finding). length l ≡ suc (suc (length gs))) (before f g) _ _ (λ _. refl) (λ _. ap suc (insert_length f gs))

ordered_length : (fs : List Finding) → length (ordered fs) ≡ length fs
unfolding ordered
ordered_length [] = refl
ordered_length (f ∷ fs) = insert_length f (ordered fs) ∙ ap suc (ordered_length fs)

marks_length : (n : ℕ) (is : List ℕ) → length (marks_from n is) ≤ length is
unfolding marks_from
marks_length n [] = omega arith
marks_length n (i ∷ is) =
    let one : length (unseen_of n i) ≤ 1
    = cond_cases (λ (l : List Unseen). length l ≤ 1) (eqb i 0) _ _ (λ _. omega arith) (λ _. omega arith) in
    omega (arith, length-append (unseen_of n i) (marks_from (n + 1) is), marks_length (n + 1) is)

unknown_length : (ts : List ℕ) (i n : ℕ) → length (unknown_from ts i n) ≤ n
unfolding unknown_from
unknown_length ts i zero = omega arith
unknown_length ts i (suc n) =
    let one : length (unknown_of ts i) ≤ 1
    = cond_cases (λ (l : List ℕ). length l ≤ 1) (eqb (get_or ts i 0) 0) _ _ (λ _. omega arith) (λ _. omega arith) in
    omega (arith, length-append (unknown_of ts i) (unknown_from ts (i + 1) n), unknown_length ts (i + 1) n)

module _ (h : Bytes) (right : well_formed h ≡ true) where
  findings_few : length (decode h).findings ≤ finding_limit
  findings_few =
      let n = tabulate_length (finding_row (findings_part h)) 0 (findings_held h) in
      omega (arith, ap length (findings_stored h (decode h) (represented h right)), (formed h right).findings)

  pub findings_bound : length (finding_list (decode h)) ≤ longest_list
  unfolding finding_list
  findings_bound = omega (arith, ordered_length (decode h).findings, findings_few)

  pub leaders_bound : length (leader_list (decode h)) ≤ longest_list
  unfolding leader_list
  leaders_bound = omega (arith, leaders_few (decode h).findings, findings_few)

  nodes_held : length (decode h).unseen ≡ node_count
  unfolding decode tables_in
  nodes_held = simp length-map (tabulate_length (row_of_node (nodes_part h)) 0 node_count)

  pub unseen_bound : length (unseen_list (decode h)) ≤ longest_list
  unfolding unseen_list
  unseen_bound = omega (arith, marks_length 0 (decode h).unseen, nodes_held)

  pub unknown_bound : length (unknown_list (decode h)) ≤ longest_list
  unfolding unknown_list
  unknown_bound =
      let s = represented h right in
      omega (arith, unknown_length (decode h).terms 0 (length (decode h).committed), end_is h (decode h) s, end_small h right)
