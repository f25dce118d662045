-- The rules of the prefixes in the order in which the code tests them.
-- Assumes nothing.
use Prim.Native.Nat.{ℕ, zero, suc, ◌+◌, ◌-◌, ◌*◌, ◌≤◌, ◌<◌}
use native.Mathlib.Nat.{zero-add}
use mathlib.Core.Path.{◌≡◌, refl, ap, ◌∙◌}
use mathlib.Core.Bool.{Bool, false, not, ◌&&◌}
use mathlib.Core.List.{List, [], ◌∷◌, ◌++◌}
use lib.Dec.{leb, eqb}
use lib.ListN.{drop}
use borrow.Author.Tests.{le-leb, lt-leb}
use Rattle.std.specs.List.{range_with_len, list_all}
use Rattle.model.specs.Sizes.{Bytes, index_limit, content_limit}
use Rattle.storage_bytes.specs.Lists.{tabulate}
use Rattle.storage_bytes.specs.Words.{word_at}
use Rattle.storage_bytes.specs.Layout.{prefix_width, number_width, index_width, byte_width, prefix_index, prefix_mark, prefix_size}
use Rattle.storage.specs.Tables.{PrefixRow, prefix_row, rows_of_prefixes}
use Rattle.storage.specs.Rules.{is_among, prefix_right, prefixes_right_after}
use Rattle.storage.specs.Values.{number_index}
use Rattle.storage_bytes.proofs.ListLaws.{tabulate_length, tabulate_snoc, tabulate_drop}
use Rattle.storage.proofs.RuleLaws.{index_among_lem}

-- ---- one row of prefixes

module _ (t : Bytes) (k : ℕ) where
  -- a row whose parent is not before it is wrong
  pub right_parent : k < word_at t (k * prefix_width) number_width → prefix_right (rows_of_prefixes t k) (prefix_row t k) ≡ false
  unfolding prefix_right
  right_parent h = rw (tabulate_length (prefix_row t) 0 k, lt-leb (word_at t (k * prefix_width) number_width) k h)

  -- the other tests of a row
  pub right_rest : word_at t (k * prefix_width) number_width ≤ k
      → prefix_right (rows_of_prefixes t k) (prefix_row t k)
      ≡ (eqb (word_at t (k * prefix_width + prefix_index) index_width) (number_index t (word_at t (k * prefix_width) number_width) + 1)
      && (leb (word_at t (k * prefix_width + prefix_index) index_width) index_limit
      && (leb (word_at t (k * prefix_width + prefix_mark) byte_width) 1
      && (leb (word_at t (k * prefix_width + prefix_size) byte_width) content_limit
      && not (is_among (prefix_row t k) (tabulate (prefix_row t) (word_at t (k * prefix_width) number_width) (k - word_at t (k * prefix_width) number_width)))))))
  unfolding prefix_right
  right_rest h =
      let p = word_at t (k * prefix_width) number_width in
      let d : drop p (rows_of_prefixes t k) ≡ tabulate (prefix_row t) p (k - p)
      = tabulate_drop (prefix_row t) 0 k p h ∙ ap (λ (q : ℕ). tabulate (prefix_row t) q (k - p)) (zero-add p) in
      rw (tabulate_length (prefix_row t) 0 k, le-leb p k h, index_among_lem t k p h, d)

-- ---- all rows of prefixes

module _ (f : ℕ → PrefixRow) where
  -- each held against those before it, from row i on
  pub all_rows_right : (i n : ℕ) → list_all (λ k. prefix_right (tabulate f 0 k) (f k)) (range_with_len i n) ≡ prefixes_right_after (tabulate f 0 i) (tabulate f i n)
  unfolding tabulate prefixes_right_after
  all_rows_right i zero = refl
  all_rows_right i (suc n) =
      let s : tabulate f 0 (i + 1) ≡ tabulate f 0 i ++ (f i ∷ [])
      = tabulate_snoc f 0 i ∙ ap (λ (q : ℕ). tabulate f 0 i ++ (f q ∷ [])) (zero-add i) in
      ap (λ (b : Bool). prefix_right (tabulate f 0 i) (f i) && b)
      (all_rows_right (i + 1) n ∙ ap (λ (l : List PrefixRow). prefixes_right_after l (tabulate f (i + 1) n)) s)
