-- A reader's answer from a lent table is that of the whole history.
-- Assumes nothing.
use Prim.Native.Nat.{ℕ, suc, ◌-◌}
use native.Mathlib.Omega.{arith}
use mathlib.Core.Path.{◌≡◌, sym, ◌∙◌, ap}
use mathlib.Core.Bool.{true}
use lib.ListN.{length, length-append}
use Rattle.std.specs.Prelude.{Option}
use Rattle.model.specs.Sizes.{Bytes}
use Rattle.storage_bytes.proofs.ListLaws.{tabulate_length}
use Rattle.storage.specs.Tables.{nodes_part, terms_part, prefixes_part, prefix_row, rows_of_prefixes}
use Rattle.storage.specs.Rules.{well_formed}
use Rattle.storage.specs.Decode.{prefix_at, resolve}
use Rattle.storage.proofs.WellFormed.{formed, formed_rows, rows_index}
use Rattle.storage.proofs.RowFacts.{row_at, entry_after}
use Rattle.storage.specs.Values.{index_of, number_index, committed_end}
use Rattle.storage.specs.Head.{prefixes_held, terms_held, committed_number}
use Rattle.lists.specs.declared.unseen.Unseen.{Unseen}
use Rattle.units.specs.declared.LogIndex.{LogIndex}
use Rattle.lists.specs.Unseen.{mark_in, unseen_answer}
use Rattle.lists.specs.Unknown.{index_in, unknown_answer}

pub unseen_lent : (h t : Bytes) (n : ℕ) {r : Option Unseen} → t ≡ nodes_part h → r ≡ mark_in t n → r ≡ unseen_answer h n
unfolding unseen_answer
unseen_lent h t n e q = q ∙ ap (λ (u : Bytes). mark_in u n) e

pub unknown_lent : (h t : Bytes) (count m n : ℕ) {r : Option LogIndex} → t ≡ terms_part h → count ≡ terms_held h → m ≡ committed_end h
    → r ≡ index_in t count m n → r ≡ unknown_answer h n
unfolding unknown_answer
unknown_lent h t count m n et ec em q = q ∙ (λ i. index_in (et i) (ec i) (em i) n)

-- ---- the end of the committed prefix

pub end_none : (h : Bytes) → committed_number h ≡ 0 → committed_end h ≡ 0
unfolding committed_end number_index
end_none h z = ap (index_of (prefix_row (prefixes_part h))) z

-- one that is kept has an entry
pub end_some : (h : Bytes) → well_formed h ≡ true → (committed_number h ≡ 0 → ⊥) → committed_end h ≡ 0 → ⊥
unfolding committed_end
end_some h right some z =
    let f = formed h right in
    let n = prefixes_held h in
    let p = committed_number h in
    let rows = rows_of_prefixes (prefixes_part h) n in
    let facts = formed_rows h f in
    let last = entry_after rows facts (p - 1) (omega (arith, f.committed, tabulate_length (prefix_row (prefixes_part h)) 0 n)) in
    let one : suc (p - 1) ≡ p = omega arith in
    let long = rows_index (prefixes_part h) n p facts f.committed in
    let has = ap (λ (k : ℕ). length (prefix_at (resolve rows) k)) (sym one) ∙ ap length last ∙ length-append (prefix_at (resolve rows) (row_at rows (p - 1)).parent) _ in
    omega (arith, z, long, has)
