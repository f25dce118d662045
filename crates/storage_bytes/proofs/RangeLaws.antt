-- What a search over a range answers is what the test of the rows at its places answers.
-- Assumes nothing.
use Prim.Native.Nat.{ℕ, zero, suc, ◌+◌}
use mathlib.Core.Path.{◌≡◌, refl, ap}
use mathlib.Core.Bool.{Bool, ◌||◌}
use Rattle.std.specs.List.{range_with_len, list_any}
use Rattle.storage_bytes.specs.Lists.{tabulate, some}

pub any_some : {A : Type 0} (test : A → Bool) (f : ℕ → A) (i n : ℕ) → list_any (λ k. test (f k)) (range_with_len i n) ≡ some test (tabulate f i n)
unfolding tabulate some
any_some test f i zero = refl
any_some test f i (suc n) = ap (λ (b : Bool). test (f i) || b) (any_some test f (i + 1) n)
