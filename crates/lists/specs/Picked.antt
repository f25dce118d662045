-- The n-th of a list, counted from 0, as an answer; and the n-th of those places that are not passed over, counted down as a
-- loop does.
-- Assumes nothing.
use Rattle.std.specs.Prelude.{ℕ, zero, suc, ◌+◌, ◌-◌, ◌<◌, ◌≡◌, Bool, cond, Option, Some, None, List, map, eqb, get_or}

-- the n-th answer for the elements of a list, or that there is none
abbrev pub nth : {A B : Type 0} → (A → B) → B → List A → ℕ → B
nth answer none xs n = get_or (map answer xs) n none

-- of m places from k on; `over` tells which are passed over, `item` what stands at one
unfoldable pub pick_from : {A : Type 0} → (ℕ → Bool) → (ℕ → A) → A → ℕ → ℕ → ℕ → A
pick_from over item none k zero n = none
pick_from over item none k (suc m) n =
    cond (over k) (pick_from over item none (k + 1) m n) (cond (eqb n 0) (item k) (pick_from over item none (k + 1) m (n - 1)))

-- by the answers of `post`, each of the first m places holds nothing where it is passed over, else the item
abbrev pub Holds : {A : Type 0} → (ℕ → Option A → Type 0) → ℕ → (ℕ → Bool) → (ℕ → A) → Type 0
Holds post m over item = (k : ℕ) (r : Option _) → k < m → post k r → r ≡ cond (over k) None (Some (item k))
