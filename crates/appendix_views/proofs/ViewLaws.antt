-- The list of views has each that is asked for, once, in the order asked for, and no other.
-- Assumes nothing.
use Prim.Native.Nat.{ℕ, zero, suc, ◌+◌, ◌≤◌, zero-le, suc-le-suc}
use native.Mathlib.Nat.{le_of_suc-le-suc}
use native.Mathlib.Omega.{arith}
use mathlib.Core.Bool.{false}
use mathlib.Core.Path.{◌≡◌, refl, sym, ◌∙◌, ap, subst}
use mathlib.Core.Logic.{◌⊎◌, inl, inr, ⊎_elim}
use mathlib.Core.List.Memᴰ
use mathlib.Core.List.{List, [], ◌∷◌, ◌++◌, map, Memᴰ}
use lib.ListN.{length}
use Rattle.model.specs.Entry.{Entry}
use Rattle.model.specs.Record.{Shown}
use Rattle.model.specs.Statements.{Distinct}
use Rattle.appendix_views.specs.Views.{View, entry, choices, before_each, views_of, views_to, most_entries, views, Gapless, Chosen, HasEach, HasOnce, Lower, ByEntry, Sooner, Ordered, InOrder}

-- ---- the four entries

abbrev Choice : Entry → Type 0
Choice e = ((e.term ≡ 1) ⊎ (e.term ≡ 2)) × ((e.content ≡ []) ⊎ (e.content ≡ 0 ∷ [])) × (e.configuration ≡ false)

choice_of : (e : Entry) → Memᴰ e choices → Choice e
choice_of e m =
    ⊎_elim (λ p. moved p (inl refl, inl refl, refl))
    (λ m. ⊎_elim (λ p. moved p (inl refl, inr refl, refl))
    (λ m. ⊎_elim (λ p. moved p (inr refl, inl refl, refl))
    (λ m. moved (Memᴰ.eq_of_singleton m) (inr refl, inr refl, refl))
    (Memᴰ.cases_cons m)) (Memᴰ.cases_cons m)) (Memᴰ.cases_cons m)
  where
    moved : {d : Entry} → e ≡ d → Choice d → Choice e
    moved p c = subst Choice (sym p) c

of_choice : (e : Entry) → Choice e → Memᴰ e choices
of_choice e c =
    ⊎_elim
    (λ t. ⊎_elim (λ b. Memᴰ.head (λ i. record { term = t i; configuration = c.2 i; content = b i }))
    (λ b. Memᴰ.tail (Memᴰ.head (λ i. record { term = t i; configuration = c.2 i; content = b i }))) c.1)
    (λ t. ⊎_elim (λ b. Memᴰ.tail (Memᴰ.tail (Memᴰ.head (λ i. record { term = t i; configuration = c.2 i; content = b i }))))
    (λ b. Memᴰ.tail (Memᴰ.tail (Memᴰ.tail (Memᴰ.head (λ i. record { term = t i; configuration = c.2 i; content = b i }))))) c.1)
    c.0

-- ---- each entry before each view

abbrev shown : ℕ → Entry → Shown
shown i e = record { index = i; entry = e }

record Led (i : ℕ) (es : List Entry) (vs : List View) (v : View) : Type 0 where
  pub entry : Entry
  pub rest : View
  pub entry_among : Memᴰ entry es
  pub rest_among : Memᴰ rest vs
  pub is : v ≡ shown i entry ∷ rest

led : (i : ℕ) (es : List Entry) (vs : List View) (v : View) → Memᴰ v (before_each i es vs) → Led i es vs v
unfolding before_each
led i [] vs v m = absurd (Memᴰ.not-nil m)
led i (e ∷ es) vs v m =
    ⊎_elim
    (λ k.
    let a : (w : View) × Memᴰ w vs × (shown i e ∷ w ≡ v) = Memᴰ.of_map (λ (w : View). shown i e ∷ w) vs k in
    record { entry = e; rest = a.0; entry_among = Memᴰ.head refl; rest_among = a.1; is = sym a.2 })
    (λ k.
    let a = led i es vs v k in
    record { entry = a.entry; rest = a.rest; entry_among = Memᴰ.tail a.entry_among; rest_among = a.rest_among; is = a.is })
    (Memᴰ.append_cases (map (λ (w : View). shown i e ∷ w) vs) m)

leads : (i : ℕ) (es : List Entry) (vs : List View) (e : Entry) (w : View) → Memᴰ e es → Memᴰ w vs
    → Memᴰ (shown i e ∷ w) (before_each i es vs)
unfolding before_each
leads i [] vs e w m k = absurd (Memᴰ.not-nil m)
leads i (d ∷ es) vs e w m k =
    ⊎_elim
    (λ p. Memᴰ.append_left (before_each i es vs)
    (Memᴰ.cast (ap (λ (x : Entry). shown i x ∷ w) p) (Memᴰ.map (λ (v : View). shown i d ∷ v) k)))
    (λ j. Memᴰ.append_right (map (λ (v : View). shown i d ∷ v) vs) (leads i es vs e w j k))
    (Memᴰ.cases_cons m)

-- ---- membership

-- v is a gapless view of n entries from index i on, each one of the four
abbrev Fits : ℕ → ℕ → View → Type 0
Fits i n v = Gapless i v × (length v ≡ n) × Chosen v

chosen_cons : (x : Shown) (v : View) → Choice x.entry → Chosen v → Chosen (x ∷ v)
chosen_cons x v c k y m = ⊎_elim (λ e. subst (λ (z : Shown). Choice z.entry) (sym e) c) (λ j. k y j) (Memᴰ.cases_cons m)

of_yes : (i n : ℕ) (v : View) → Memᴰ v (views_of i n) → Fits i n v
unfolding views_of
of_yes i zero v m = subst (Fits i 0) (sym (Memᴰ.eq_of_singleton m)) (tt, refl, λ x k. absurd (Memᴰ.not-nil k))
of_yes i (suc n) v m =
    let a = led i choices (views_of (i + 1) n) v m in
    let b = of_yes (i + 1) n a.rest a.rest_among in
    subst (Fits i (suc n)) (sym a.is)
    ((refl, b.0), ap suc b.1, chosen_cons (shown i a.entry) a.rest (choice_of a.entry a.entry_among) b.2)

yes_of : (i n : ℕ) (v : View) → Fits i n v → Memᴰ v (views_of i n)
unfolding views_of
yes_of i zero [] f = Memᴰ.head refl
yes_of i zero (x ∷ v) f = absurd (omega (arith, f.1))
yes_of i (suc n) [] f = absurd (omega (arith, f.1))
yes_of i (suc n) (x ∷ v) f =
    Memᴰ.cast (λ k. record { index = f.0.0 k; entry = x.entry } ∷ v)
    (leads i choices (views_of (i + 1) n) x.entry v (of_choice x.entry (f.2 x (Memᴰ.head refl)))
    (yes_of (i + 1) n v (f.0.1, (let e = f.1 in omega arith), λ y m. f.2 y (Memᴰ.tail m))))

-- and of at most n
abbrev FitsTo : ℕ → View → Type 0
FitsTo n v = Gapless 1 v × (length v ≤ n) × Chosen v

to_yes : (n : ℕ) (v : View) → Memᴰ v (views_to n) → FitsTo n v
unfolding views_to
to_yes zero v m = let a = of_yes 1 0 v m in (a.0, omega (arith, a.1), a.2)
to_yes (suc n) v m =
    ⊎_elim (λ k. let a = to_yes n v k in (a.0, omega (arith, a.1), a.2))
    (λ k. let a = of_yes 1 (suc n) v k in (a.0, omega (arith, a.1), a.2))
    (Memᴰ.append_cases (views_to n) m)

longest : (l n : ℕ) → l ≤ suc n → (l ≤ n) ⊎ (l ≡ suc n)
longest zero n h = inl zero-le
longest (suc l) zero h = inr (omega arith)
longest (suc l) (suc n) h = ⊎_elim (λ k. inl (suc-le-suc k)) (λ e. inr (ap suc e)) (longest l n (le_of_suc-le-suc h))

yes_to : (n : ℕ) (v : View) → FitsTo n v → Memᴰ v (views_to n)
unfolding views_to
yes_to zero v f = yes_of 1 0 v (f.0, (let h = f.1 in omega arith), f.2)
yes_to (suc n) v f =
    ⊎_elim (λ h. Memᴰ.append_left (views_of 1 (suc n)) (yes_to n v (f.0, h, f.2)))
    (λ e. Memᴰ.append_right (views_to n) (yes_of 1 (suc n) v (f.0, e, f.2))) (longest (length v) n f.1)

pub has_each : HasEach
unfolding views
has_each v = (λ m. to_yes most_entries v m, λ f. yes_to most_entries v f)

-- ---- the order

sooner_cons : (x : Shown) (v w : View) → Sooner v w → Sooner (x ∷ v) (x ∷ w)
sooner_cons x v w = ⊎_elim (λ h. inl (suc-le-suc h)) (λ b. inr (ap suc b.0, inr (refl, b.1)))

ordered_map : (x : Shown) (vs : List View) → Ordered vs → Ordered (map (λ (v : View). x ∷ v) vs)
ordered_map x [] o = tt
ordered_map x (v ∷ vs) o = (
  λ w m.
      let a : (u : View) × Memᴰ u vs × (x ∷ u ≡ w) = Memᴰ.of_map (λ (u : View). x ∷ u) vs m in
      subst (λ (z : View). Sooner (x ∷ v) z) a.2 (sooner_cons x v a.0 (o.0 a.0 a.1)),
  ordered_map x vs o.1,
)

ordered_append : (vs ws : List View) → Ordered vs → Ordered ws → ((v w : View) → Memᴰ v vs → Memᴰ w ws → Sooner v w)
    → Ordered (vs ++ ws)
ordered_append [] ws a b f = b
ordered_append (v ∷ vs) ws a b f = (
  λ w m. ⊎_elim (λ k. a.0 w k) (λ k. f v w (Memᴰ.head refl) k) (Memᴰ.append_cases vs m),
  ordered_append vs ws a.1 b (λ u w m k. f u w (Memᴰ.tail m) k),
)

-- each of the entries is lower than those after it
Rising : ℕ → List Entry → Type 0
Rising i [] = Unit {0}
Rising i (e ∷ es) = ((d : Entry) → Memᴰ d es → Lower (shown i e) (shown i d)) × Rising i es

ordered_each : (i n : ℕ) (es : List Entry) (vs : List View) → Rising i es → Ordered vs → ((v : View) → Memᴰ v vs → length v ≡ n)
    → Ordered (before_each i es vs)
unfolding before_each Rising
ordered_each i n [] vs r o l = tt
ordered_each i n (e ∷ es) vs r o l =
    ordered_append (map (λ (w : View). shown i e ∷ w) vs) (before_each i es vs) (ordered_map (shown i e) vs o)
    (ordered_each i n es vs r.1 o l)
    (λ v w m k.
    let a : (u : View) × Memᴰ u vs × (shown i e ∷ u ≡ v) = Memᴰ.of_map (λ (u : View). shown i e ∷ u) vs m in
    let b = led i es vs w k in
    let s : Sooner (shown i e ∷ a.0) (shown i b.entry ∷ b.rest) =
    inr (ap suc (l a.0 a.1 ∙ sym (l b.rest b.rest_among)), inl (r.0 b.entry b.entry_among)) in
    subst (λ (z : View). Sooner z w) a.2 (subst (λ (z : View). Sooner (shown i e ∷ a.0) z) (sym b.is) s))

-- term 1 before term 2, and of one term no content before the byte
choices_rise : (i : ℕ) → Rising i choices
unfolding Rising
choices_rise i = (first, (second, (third, (λ d m. absurd (Memᴰ.not-nil m), tt))))
  where
    moved : (x e d : Entry) → d ≡ e → Lower (shown i x) (shown i e) → Lower (shown i x) (shown i d)
    moved x e d p l = subst (λ (z : Entry). Lower (shown i x) (shown i z)) (sym p) l

    third : (d : Entry) → Memᴰ d (entry 2 (0 ∷ []) ∷ []) → Lower (shown i (entry 2 [])) (shown i d)
    third d m = moved (entry 2 []) (entry 2 (0 ∷ [])) d (Memᴰ.eq_of_singleton m) (inr (refl, omega arith))

    second : (d : Entry) → Memᴰ d (entry 2 [] ∷ entry 2 (0 ∷ []) ∷ []) → Lower (shown i (entry 1 (0 ∷ []))) (shown i d)
    second d m =
        ⊎_elim (λ p. moved (entry 1 (0 ∷ [])) (entry 2 []) d p (inl (omega arith)))
        (λ k. moved (entry 1 (0 ∷ [])) (entry 2 (0 ∷ [])) d (Memᴰ.eq_of_singleton k) (inl (omega arith))) (Memᴰ.cases_cons m)

    first : (d : Entry) → Memᴰ d (entry 1 (0 ∷ []) ∷ entry 2 [] ∷ entry 2 (0 ∷ []) ∷ []) → Lower (shown i (entry 1 [])) (shown i d)
    first d m =
        ⊎_elim (λ p. moved (entry 1 []) (entry 1 (0 ∷ [])) d p (inr (refl, omega arith)))
        (λ m. ⊎_elim (λ p. moved (entry 1 []) (entry 2 []) d p (inl (omega arith)))
        (λ k. moved (entry 1 []) (entry 2 (0 ∷ [])) d (Memᴰ.eq_of_singleton k) (inl (omega arith))) (Memᴰ.cases_cons m))
        (Memᴰ.cases_cons m)

of_ordered : (i n : ℕ) → Ordered (views_of i n)
unfolding views_of
of_ordered i zero = (λ w m. absurd (Memᴰ.not-nil m), tt)
of_ordered i (suc n) =
    ordered_each i n choices (views_of (i + 1) n) (choices_rise i) (of_ordered (i + 1) n) (λ v m. (of_yes (i + 1) n v m).1)

to_ordered : (n : ℕ) → Ordered (views_to n)
unfolding views_to
to_ordered zero = of_ordered 1 0
to_ordered (suc n) =
    ordered_append (views_to n) (views_of 1 (suc n)) (to_ordered n) (of_ordered 1 (suc n))
    (λ v w m k. let a = (to_yes n v m).1 in let b = (of_yes 1 (suc n) w k).1 in inl (omega arith))

pub in_order : InOrder
unfolding views
in_order = to_ordered most_entries

-- ---- so each is there once

entry_self : (v : View) → ByEntry v v → ⊥
entry_self [] b = b
entry_self (x ∷ v) b = ⊎_elim (⊎_elim (λ h. omega arith) (λ h. let k = h.1 in omega arith)) (λ k. entry_self v k.1) b

sooner_self : (v : View) → Sooner v v → ⊥
sooner_self v = ⊎_elim (λ h. omega arith) (λ b. entry_self v b.1)

ordered_once : (vs : List View) → Ordered vs → Distinct vs
ordered_once [] o = tt
ordered_once (v ∷ vs) o = (λ m. sooner_self v (o.0 v m), ordered_once vs o.1)

pub has_once : HasOnce
unfolding views views_to views_of before_each
has_once = (ordered_once views in_order, refl)
