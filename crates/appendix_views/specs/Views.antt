-- The views of the partner's appendix: every gapless view of at most three entries with term 1 or 2 and content empty or the
-- byte 00; each once, shorter first, then by entry, term before content, empty first.
-- Assumes nothing.
use Rattle.std.specs.Prelude.{ℕ, zero, suc, ◌+◌, ◌<◌, ◌≤◌, ◌≡◌, ◌↔◌, Bool, false, cond, List, [], ◌∷◌, ◌++◌, map, length}
use mathlib.Core.Logic.{◌⊎◌}
use mathlib.Core.List.{Memᴰ}
use Rattle.model.specs.Entry.{Entry}
use Rattle.model.specs.Record.{Shown}
use Rattle.model.specs.Statements.{Distinct}
use Rattle.appendix_views.specs.declared.views.Listed.{Listed}

abbrev pub View : Type 0
View = List Shown

-- ---- the enumeration

abbrev pub entry : ℕ → List ℕ → Entry
entry t c = record { term = t; configuration = false; content = c }

-- "term 1 or 2 and content empty or the byte 00", in the order "term before content, empty first"
abbrev pub choices : List Entry
choices = entry 1 [] ∷ entry 1 (0 ∷ []) ∷ entry 2 [] ∷ entry 2 (0 ∷ []) ∷ []

-- each of the entries, as entry i, before each of the views
unfoldable pub before_each : ℕ → List Entry → List View → List View
before_each i [] vs = []
before_each i (e ∷ es) vs = map (λ v. record { index = i; entry = e } ∷ v) vs ++ before_each i es vs

-- the views of n entries, whose indexes begin with i
unfoldable pub views_of : ℕ → ℕ → List View
unfolding before_each
views_of i zero = [] ∷ []
views_of i (suc n) = before_each i choices (views_of (i + 1) n)

-- those of at most n entries, "shorter first"
unfoldable pub views_to : ℕ → List View
unfolding views_of
views_to zero = views_of 1 zero
views_to (suc n) = views_to n ++ views_of 1 (suc n)

-- "at most three entries"
abbrev pub most_entries : ℕ
most_entries = 3

unfoldable pub views : List View
unfolding views_to
views = views_to most_entries

-- ---- what it has

-- the indexes are i, i + 1, ..: no gap
abbrev pub Gapless : ℕ → View → Type 0
Gapless i [] = Unit {0}
Gapless i (x ∷ xs) = (x.index ≡ i) × Gapless (i + 1) xs

-- every entry is one of the four, a portion record as kind 1 shows
abbrev pub Chosen : View → Type 0
Chosen v =
    (x : Shown) → Memᴰ x v
    → ((x.entry.term ≡ 1) ⊎ (x.entry.term ≡ 2)) × ((x.entry.content ≡ []) ⊎ (x.entry.content ≡ 0 ∷ [])) × (x.entry.configuration ≡ false)

-- Each gapless view of at most three such entries is in the list, and no other.
abbrev pub HasEach : Type 0
HasEach = (v : View) → Memᴰ v views ↔ (Gapless 1 v × (length v ≤ most_entries) × Chosen v)

abbrev pub view_count : ℕ
view_count = 85

-- Each is there once, and there are 85.
abbrev pub HasOnce : Type 0
HasOnce = Distinct views × (length views ≡ view_count)

-- ---- its order

-- "term before content, empty first"
abbrev pub Lower : Shown → Shown → Type 0
Lower a b =
    (a.entry.term < b.entry.term)
    ⊎ ((a.entry.term ≡ b.entry.term) × (length a.entry.content < length b.entry.content))

-- "by entry": the first entry that differs decides
abbrev pub ByEntry : View → View → Type 0
ByEntry [] w = ⊥
ByEntry (a ∷ v) [] = ⊥
ByEntry (a ∷ v) (b ∷ w) = Lower a b ⊎ ((a ≡ b) × ByEntry v w)

-- "shorter first, then by entry"
abbrev pub Sooner : View → View → Type 0
Sooner v w = (length v < length w) ⊎ ((length v ≡ length w) × ByEntry v w)

-- each comes before all that stand after it
abbrev pub Ordered : List View → Type 0
Ordered [] = Unit {0}
Ordered (v ∷ vs) = ((w : View) → Memᴰ w vs → Sooner v w) × Ordered vs

abbrev pub InOrder : Type 0
InOrder = Ordered views

-- ---- what an entry of the code stands for

abbrev pub content_of : Bool → List ℕ
content_of filled = cond filled (0 ∷ []) []

abbrev pub entry_of : Listed → Entry
entry_of e = record { term = e.term; configuration = false; content = content_of e.filled }
