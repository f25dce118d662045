-- The n-th view by its number: how many entries it has, and the digits that its entries are.
-- Assumes nothing.
use Rattle.std.specs.Prelude.{ℕ, zero, suc, ◌+◌, ◌-◌, ◌/◌, ◌%◌, ◌<◌, ◌≡◌, false, cond, [], ◌∷◌, ltb, eqb, get_or}
use Rattle.model.specs.Entry.{Entry}
use Rattle.appendix_views.specs.Views.{content_of, View, views, view_count}
use Rattle.appendix_views.specs.declared.views.View.{View as Place}

-- the n-th view, counted from 0: one of no entry, 4 of one, 16 of two, 64 of three
abbrev pub place_of : ℕ → Place
place_of n =
    cond (ltb n 1) (record { count = 0; number = n })
    (cond (ltb n 5) (record { count = 1; number = n - 1 })
    (cond (ltb n 21) (record { count = 2; number = n - 5 }) (record { count = 3; number = n - 21 })))

-- the digit to base 4 that has `place` digits behind it
abbrev pub digit : ℕ → ℕ → ℕ
digit k place = cond (eqb place 0) (k % 4) (cond (eqb place 1) (k / 4 % 4) (k / 16 % 4))

-- the entry that a digit is
abbrev pub choice : ℕ → Entry
choice d = record { term = cond (ltb d 2) 1 2; configuration = false; content = content_of (eqb (d % 2) 1) }

-- the entries of the last n digits of k, with indexes from i on
unfoldable pub counted : ℕ → ℕ → ℕ → View
counted i k zero = []
counted i k (suc n) = record { index = i; entry = choice (digit k n) } ∷ counted (i + 1) k n

-- the n-th view
abbrev pub view_at : ℕ → View
view_at n = counted 1 (place_of n).number (place_of n).count

-- It is the n-th of the list.
abbrev pub NthView : Type 0
NthView = (n : ℕ) → n < view_count → view_at n ≡ get_or views n []
