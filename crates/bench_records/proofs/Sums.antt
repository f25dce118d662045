-- Laws of the sums under the benchmark, byte by byte and entry by entry.
-- Assumes nothing.
use Prim.Native.Nat.{ℕ, ◌+◌, ◌-◌, ◌≤◌, ◌<◌}
use mathlib.Core.Path.{◌≡◌, sym, ◌∙◌}
use mathlib.Core.List.{List}
use native.Mathlib.Omega.{arith}
use native.Mathlib.Numerals.{add-one}
use lib.ListN.{length, get_or, drop, drop_of_length-le}
use lib.Seq.{drop-cons}
use Rattle.record_entries.specs.BitLayout.{entries_at, next_at, content_at, ViewBits}
use Rattle.record_entries.proofs.Walks.{entries_next, entries_none}
use Rattle.bench_records.specs.Used.{sum_of, contents_of}

-- the bytes of a content, from the i-th on
module _ (xs : List ℕ) (v i : ℕ) where
  pub sum_next : {t : ℕ} (x : ℕ) → t ≡ v + sum_of (drop i xs) → i < length xs → x ≡ get_or xs i 0
      → t ≡ v + x + sum_of (drop (i + 1) xs)
  unfolding sum_of
  sum_next x e h q = e ∙ rw (drop-cons xs i 0 h, add-one i, q) (omega arith)

  pub sum_end : {t : ℕ} → t ≡ v + sum_of (drop i xs) → length xs ≤ i → v ≡ t
  unfolding sum_of
  sum_end e h = sym (e ∙ rw (drop_of_length-le xs h) (omega arith))

module _ (s : ViewBits) (k n v : ℕ) where
  pub contents_next : {t : ℕ} (x : ℕ) → t ≡ v + contents_of (entries_at s k n) → 0 < n → x ≡ sum_of (content_at s k)
      → t ≡ v + x + contents_of (entries_at s (next_at s k) (n - 1))
  unfolding contents_of
  contents_next x e h q = e ∙ rw (entries_next s k n h, q) (omega arith)

  pub contents_end : {t : ℕ} → t ≡ v + contents_of (entries_at s k n) → n ≤ 0 → v ≡ t
  unfolding contents_of
  contents_end e h = sym (e ∙ rw (entries_none s k n h) (omega arith))
