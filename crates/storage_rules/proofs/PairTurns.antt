-- That no pair is kept twice, in the order in which the code tests it.
-- Assumes nothing.
use Prim.Native.Nat.{ℕ, zero, suc, ◌+◌, ◌-◌}
use native.Mathlib.Omega.{arith}
use mathlib.Core.Path.{◌≡◌, refl}
use mathlib.Core.Bool.{not, ◌&&◌}
use Rattle.std.specs.List.{range_with_len, list_all}
use Rattle.storage_bytes.specs.Lists.{tabulate}
use Rattle.storage.specs.Tables.{LeaderLogRow}
use Rattle.storage.specs.Rules.{has_pair, kept_once}

module _ (f : ℕ → LeaderLogRow) (m : ℕ) where
  -- each row held against those behind it, from row i on
  pub all_kept_once : (i n : ℕ) → m ≡ i + n
      → list_all (λ k. not (has_pair (f k).node (f k).term (tabulate f (k + 1) (m - (k + 1))))) (range_with_len i n) ≡ kept_once (tabulate f i n)
  unfolding tabulate kept_once
  all_kept_once i zero e = refl
  all_kept_once i (suc n) e =
      let q : m - (i + 1) ≡ n = omega arith in
      (λ j. not (has_pair (f i).node (f i).term (tabulate f (i + 1) (q j))) && all_kept_once (i + 1) n (omega arith) j)
