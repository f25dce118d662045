-- Document 01, "Prefix": a prefix is the entries 1 to n, and equality covers term and content at each index; and the mark (T-09).
-- So a prefix is a list of entries, its end is its length, and equality is equality of lists.
-- docs/SCOPE.md, "Prefixes".
-- Assumes nothing.
use Rattle.std.specs.Prelude.{ℕ, min, ◌≡◌, refl, Bool, true, false, cond, ◌||◌, length, take}
use Rattle.std.proofs.Math.Decide.{ℕ_discrete}
use Rattle.std.proofs.Common.{ap}
use mathlib.Core.Bool.{true≢false, false≢true}
use mathlib.Core.List.{List, [], ◌∷◌, ◌++◌, nil≢cons, cons≢nil, head-eq_of_cons-eq, tail-eq_of_cons-eq}

-- an entry: its term, its mark, yes for a configuration entry and no for a portion record, and its content bytes. Its index
-- is its place in the prefix.
pub record Entry : Type 0 where
  pub term : ℕ
  pub configuration : Bool
  pub content : List ℕ

-- the entries 1 to n
abbrev pub Prefix : Type 0
Prefix = List Entry

-- ---- equality, decided; each type says that the decision is right

both {ℓ} : {A : Type ℓ} {x y : A} {xs ys : List A} → Dec (x ≡ y) → Dec (xs ≡ ys) → Dec (◌≡◌ {A = List A} (x ∷ xs) (y ∷ ys))
both (yes p) (yes q) = yes (λ i. p i ∷ q i)
both (yes p) (no q) = no (λ e. q (tail-eq_of_cons-eq e))
both (no p) (yes q) = no (λ e. p (head-eq_of_cons-eq e))
both (no p) (no q) = no (λ e. p (head-eq_of_cons-eq e))

unfoldable pub lists {ℓ} : {A : Type ℓ} → Discrete A → Discrete (List A)
unfolding both cons≢nil
lists d [] [] = yes refl
lists d [] (y ∷ ys) = no nil≢cons
lists d (x ∷ xs) [] = no cons≢nil
lists d (x ∷ xs) (y ∷ ys) = both (d x y) (lists d xs ys)

unfoldable bools : Discrete Bool
bools true true = yes refl
bools true false = no true≢false
bools false true = no false≢true
bools false false = yes refl

fields : {a b : Entry} → Dec (a.term ≡ b.term) → Dec (a.configuration ≡ b.configuration) → Dec (a.content ≡ b.content) → Dec (a ≡ b)
fields (yes p) (yes m) (yes q) = yes (λ i. record { term = p i; configuration = m i; content = q i })
fields (yes p) (yes m) (no q) = no (λ e. q (ap (λ (x : Entry). x.content) e))
fields (yes p) (no m) q = no (λ e. m (ap (λ (x : Entry). x.configuration) e))
fields (no p) m q = no (λ e. p (ap (λ (x : Entry). x.term) e))

unfoldable pub entries : Discrete Entry
unfolding fields lists bools ℕ_discrete
entries a b = fields (ℕ_discrete a.term b.term) (bools a.configuration b.configuration) (lists ℕ_discrete a.content b.content)

unfoldable pub prefixes : Discrete Prefix
unfolding lists entries
prefixes = lists entries

-- a decision as a test
abbrev pub holds {ℓ} : {P : Type ℓ} → Dec P → Bool
holds (yes p) = true
holds (no p) = false

-- ---- words used of prefixes and lists

abbrev pub same : Prefix → Prefix → Bool
same p q = holds (prefixes p q)

-- `begins q p`: q begins with the entries of p
unfoldable pub begins : Prefix → Prefix → Bool
unfolding prefixes
begins q p = same (take (length p) q) p

-- `agree p q`: p and q are the same through the shorter end
unfoldable pub agree : Prefix → Prefix → Bool
unfolding prefixes
agree p q = same (take (min (length p) (length q)) p) (take (min (length p) (length q)) q)

-- the term of the last entry
unfoldable pub last_term : Prefix → ℕ
last_term [] = 0
last_term (e ∷ []) = e.term
last_term (e ∷ f ∷ p) = last_term (f ∷ p)

-- x is one of the list
unfoldable pub is_in : {A : Type 0} → Discrete A → A → List A → Bool
is_in d x [] = false
is_in d x (y ∷ ys) = holds (d x y) || is_in d x ys

-- the list with x, which it has once
unfoldable pub with : {A : Type 0} → Discrete A → List A → A → List A
unfolding is_in
with d xs x = cond (is_in d x xs) xs (xs ++ (x ∷ []))

-- the list with each of the others, one after the other
unfoldable pub with_all : {A : Type 0} → Discrete A → List A → List A → List A
unfolding with
with_all d xs [] = xs
with_all d xs (y ∷ ys) = with_all d (with d xs y) ys
