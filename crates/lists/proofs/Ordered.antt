-- The search for the n-th finding in printed order finds the n-th of the model's ordered list: an inserted finding stands
-- after exactly those that it does not come before, since the list that it is inserted in is ordered.
-- Assumes nothing.
use Prim.Native.Nat.{ℕ, zero, suc, ◌+◌, ◌-◌, ◌<◌, ◌≤◌}
use native.Mathlib.Omega.{arith}
use native.Mathlib.Nat.{not-suc-le-zero}
use native.Mathlib.Decide.{dec_lt}
use mathlib.Core.Path.{◌≡◌, refl, sym, ◌∙◌, ap}
use mathlib.Core.Logic.{◌⊎◌, inl, inr, ⊎_elim}
use mathlib.Core.Bool.{Bool, true, false, cond, not, ◌&&◌, ◌||◌}
use mathlib.Core.List.{List, [], ◌∷◌, ◌++◌, map}
use lib.Dec.{ltb, eqb}
use lib.ListN.{length, get_or, take, drop, length-map}
use borrow.Author.Tests.{eq-eqb, ne_eqb, lt-ltb, le-ltb, ltb-true, ltb-false, eqb-true, not-true}
use Rattle.model.specs.History.{Finding}
use Rattle.model.specs.Lists.{insert, ordered}
use Rattle.model.proofs.Tests.{cond_true, cond_false, either, or_cases, and_left, and_right, or_false_left, and_both}
use Rattle.storage_bytes.specs.Lists.{every}
use Rattle.storage_bytes.proofs.ListLaws.{both, every_weaker, every_insert, map_insert}
use Rattle.storage_rows.specs.declared.findings.Found.{Found}
use Rattle.std.specs.Prelude.{Option, None}
use Rattle.lists.specs.Findings.{comes_before, count_first, finding_of, pick_ordered}
use Rattle.lists.proofs.OrderLaws.{key_differs, key_same}

-- ---- an order by keys, one after the other

pub record Order {X : Type 0} (less : X → X → Bool) : Type 0 where
  pub asym : (x y : X) → less x y ≡ true → less y x ≡ false
  -- what is less than y is less than what is not less than y
  pub mix : (x y z : X) → less x y ≡ true → less z y ≡ false → less x z ≡ true

pub by_number : {X : Type 0} (key : X → ℕ) → Order (λ (x y : X). ltb (key x) (key y))
by_number key =
    record {
      asym = λ x y e. le-ltb (key y) (key x) (let l = ltb-true (key x) (key y) e in omega arith);
      mix = λ x y z e f.
          lt-ltb (key x) (key z)
          (let l = ltb-true (key x) (key y) e in
          let m = ltb-false (key z) (key y) f in
          omega arith);
    }

module _ {X : Type 0} (key : X → ℕ) (less : X → X → Bool) (o : Order less) where
  abbrev by : X → X → Bool
  by x y = ltb (key x) (key y) || (eqb (key x) (key y) && less x y)

  by_lower : (x y : X) → key x < key y → by x y ≡ true
  by_lower x y l = ap (λ (b : Bool). b || (eqb (key x) (key y) && less x y)) (lt-ltb (key x) (key y) l)

  by_higher : (x y : X) → key y < key x → by x y ≡ false
  by_higher x y l = sym (key_differs (key x) (key y) (less x y) (λ e. omega arith)) ∙ le-ltb (key x) (key y) (omega arith)

  by_same : (x y : X) → key x ≡ key y → by x y ≡ less x y
  by_same x y e = sym (key_same (key x) (key y) (less x y) e)

  -- what the test tells
  by_true : (x y : X) → by x y ≡ true → (key x < key y) ⊎ ((key x ≡ key y) × (less x y ≡ true))
  by_true x y e =
      ⊎_elim
      (λ l. inl (ltb-true (key x) (key y) l))
      (λ r. inr (eqb-true (key x) (key y) (and_left _ (less x y) r), and_right (eqb (key x) (key y)) (less x y) r))
      (or_cases (ltb (key x) (key y)) _ e)

  by_false : (x y : X) → by x y ≡ false → (key y < key x) ⊎ ((key x ≡ key y) × (less x y ≡ false))
  by_false x y e = go (dec_lt (key y) (key x))
    where
      go : Dec (key y < key x) → (key y < key x) ⊎ ((key x ≡ key y) × (less x y ≡ false))
      go (yes l) = inl l
      go (no f) =
          let m = ltb-false (key x) (key y) (or_false_left (ltb (key x) (key y)) _ e) in
          let q : key x ≡ key y = omega arith in
          inr (q, sym (by_same x y q) ∙ e)

  pub by_key : Order by
  by_key =
      record {
        asym = λ x y e.
            ⊎_elim
            (λ l. by_higher y x l)
            (λ w. by_same y x (sym w.0) ∙ o.asym x y w.1)
            (by_true x y e);
        mix = λ x y z e f.
            ⊎_elim
            (λ l. ⊎_elim (λ m. by_lower x z (omega arith)) (λ v. by_lower x z (let q = v.0 in omega arith)) (by_false z y f))
            (λ w.
            ⊎_elim
            (λ m. by_lower x z (let q = w.0 in omega arith))
            (λ v. by_same x z (w.0 ∙ sym v.0) ∙ o.mix x y z w.1 v.1)
            (by_false z y f))
            (by_true x y e);
      }

printed : Order comes_before
unfolding comes_before
printed =
    by_key (λ (f : Finding). f.name) _
    (by_key (λ (f : Finding). f.node) _ (by_key (λ (f : Finding). f.term) _ (by_number (λ (f : Finding). f.index))))

-- ---- ordered lists

abbrev after : Finding → Finding → Bool
after g h = not (comes_before h g)

unfoldable sorted : List Finding → Bool
unfolding every
sorted [] = true
sorted (g ∷ gs) = every (after g) gs && sorted gs

-- the model's insertion, by the shut test
insert_before : (f g : Finding) (gs : List Finding) → comes_before f g ≡ true → insert f (g ∷ gs) ≡ f ∷ g ∷ gs
unfolding insert comes_before
insert_before f g gs e = cond_true _ _ _ e

insert_behind : (f g : Finding) (gs : List Finding) → comes_before f g ≡ false → insert f (g ∷ gs) ≡ g ∷ insert f gs
unfolding insert comes_before
insert_behind f g gs e = cond_false _ _ _ e

insert_none : (f : Finding) → insert f [] ≡ f ∷ []
unfolding insert
insert_none f = refl

count_cons : (f g : Finding) (gs : List Finding) → count_first f (g ∷ gs) ≡ cond (comes_before f g) 0 1 + count_first f gs
unfolding count_first
count_cons f g gs = refl

count_nil : (f : Finding) → count_first f [] ≡ 0
unfolding count_first
count_nil f = refl

-- one that comes before the first comes before all
count_zero : (f g : Finding) (gs : List Finding) → comes_before f g ≡ true → every (after g) gs ≡ true → count_first f gs ≡ 0
unfolding every
count_zero f g [] e s = count_nil f
count_zero f g (h ∷ hs) e s =
    let w = both (after g h) _ s in
    let t = printed.mix f g h e (not-true _ w.0) in
    let r = count_zero f g hs e w.1 in
    count_cons f h hs ∙ ap (λ (b : Bool). cond {A = ℕ} b 0 1 + count_first f hs) t ∙ (let q : 0 + count_first f hs ≡ 0 = omega arith in q)

-- an inserted finding stands after those that it does not come before
inserted : (f : Finding) (gs : List Finding) → sorted gs ≡ true
    → insert f gs ≡ take (count_first f gs) gs ++ (f ∷ drop (count_first f gs) gs)
unfolding sorted
inserted f [] s = insert_none f ∙ ap (λ (p : ℕ). take p [] ++ (f ∷ drop p [])) (sym (count_nil f))
inserted f (g ∷ gs) s =
    ⊎_elim
    (λ e.
    let z : count_first f (g ∷ gs) ≡ 0
    = count_cons f g gs ∙ ap (λ (b : Bool). cond {A = ℕ} b 0 1 + count_first f gs) e
    ∙ (let r = count_zero f g gs e (both (every (after g) gs) _ s).0 in omega arith) in
    insert_before f g gs e ∙ ap (λ (p : ℕ). take p (g ∷ gs) ++ (f ∷ drop p (g ∷ gs))) (sym z))
    (λ e.
    let z : count_first f (g ∷ gs) ≡ suc (count_first f gs)
    = count_cons f g gs ∙ ap (λ (b : Bool). cond {A = ℕ} b 0 1 + count_first f gs) e ∙ (let q : 1 + count_first f gs ≡ suc (count_first f gs) = omega arith in q) in
    insert_behind f g gs e
    ∙ ap (λ (l : List Finding). g ∷ l) (inserted f gs (both (every (after g) gs) _ s).1)
    ∙ ap (λ (p : ℕ). take p (g ∷ gs) ++ (f ∷ drop p (g ∷ gs))) (sym z))
    (either (comes_before f g))

-- and leaves the list ordered
insert_sorted : (f : Finding) (gs : List Finding) → sorted gs ≡ true → sorted (insert f gs) ≡ true
unfolding sorted every
insert_sorted f [] s = ap sorted (insert_none f)
insert_sorted f (g ∷ gs) s =
    let w = both (every (after g) gs) _ s in
    ⊎_elim
    (λ e.
    ap sorted (insert_before f g gs e)
    ∙ and_both _ _
    (and_both _ _ (ap not (printed.asym f g e))
    (every_weaker (after g) (after f) gs (λ h t. ap not (printed.asym f h (printed.mix f g h e (not-true _ t)))) w.0))
    s)
    (λ e.
    ap sorted (insert_behind f g gs e)
    ∙ and_both _ _
    (ap (every (after g)) (inserted f gs w.1) ∙ every_insert (after g) gs (count_first f gs) f (ap not e) w.0)
    (insert_sorted f gs w.1))
    (either (comes_before f g))

ordered_cons : (f : Finding) (fs : List Finding) → ordered (f ∷ fs) ≡ insert f (ordered fs)
unfolding ordered
ordered_cons f fs = refl

ordered_nil : ordered [] ≡ []
unfolding ordered
ordered_nil = refl

ordered_sorted : (fs : List Finding) → sorted (ordered fs) ≡ true
ordered_sorted [] = ap sorted ordered_nil ∙ (unfold sorted in refl)
ordered_sorted (f ∷ fs) = ap sorted (ordered_cons f fs) ∙ insert_sorted f (ordered fs) (ordered_sorted fs)

-- as many are counted in whatever order
count_insert : (f g : Finding) (gs : List Finding) → count_first f (insert g gs) ≡ cond (comes_before f g) 0 1 + count_first f gs
count_insert f g [] = ap (count_first f) (insert_none g) ∙ count_cons f g []
count_insert f g (h ∷ hs) =
    ⊎_elim
    (λ e. ap (count_first f) (insert_before g h hs e) ∙ count_cons f g (h ∷ hs))
    (λ e.
    let r = count_insert f g hs in
    let a = count_cons f h (insert g hs) in
    let b = count_cons f h hs in
    ap (count_first f) (insert_behind g h hs e) ∙ (let q : count_first f (h ∷ insert g hs) ≡ cond (comes_before f g) 0 1 + count_first f (h ∷ hs) = omega arith in q))
    (either (comes_before g h))

count_ordered : (f : Finding) (fs : List Finding) → count_first f (ordered fs) ≡ count_first f fs
count_ordered f [] = ap (count_first f) ordered_nil
count_ordered f (g ∷ gs) =
    ap (count_first f) (ordered_cons g gs)
    ∙ count_insert f g (ordered gs)
    ∙ ap (λ (c : ℕ). cond {A = ℕ} (comes_before f g) 0 1 + c) (count_ordered f gs)
    ∙ sym (count_cons f g gs)

count_small : (f : Finding) (gs : List Finding) → count_first f gs ≤ length gs
count_small f [] = let e = count_nil f in omega arith
count_small f (g ∷ gs) =
    let c = count_cons f g gs in
    let r = count_small f gs in
    let w = one_at_most (comes_before f g) in
    omega arith
  where
    one_at_most : (b : Bool) → cond {A = ℕ} b 0 1 ≤ 1
    one_at_most true = omega arith
    one_at_most false = omega arith

-- ---- a place in a list with one more

module _ {B : Type 0} (none y : B) where
  abbrev with' : ℕ → List B → List B
  with' p ys = take p ys ++ (y ∷ drop p ys)

  place_here : (p : ℕ) (ys : List B) → p ≤ length ys → get_or (with' p ys) p none ≡ y
  place_here zero ys l = refl
  place_here (suc p) [] l = absurd (not-suc-le-zero l)
  place_here (suc p) (z ∷ zs) l = place_here p zs (omega arith)

  place_front : (p n : ℕ) (ys : List B) → n < p → p ≤ length ys → get_or (with' p ys) n none ≡ get_or ys n none
  place_front zero n ys h l = absurd (not-suc-le-zero h)
  place_front (suc p) n [] h l = absurd (not-suc-le-zero l)
  place_front (suc p) zero (z ∷ zs) h l = refl
  place_front (suc p) (suc n) (z ∷ zs) h l = place_front p n zs (omega arith) (omega arith)

  place_behind : (p n : ℕ) (ys : List B) → p ≤ n → p ≤ length ys → get_or (with' p ys) (suc n) none ≡ get_or ys n none
  place_behind zero n ys h l = refl
  place_behind (suc p) n [] h l = absurd (not-suc-le-zero l)
  place_behind (suc p) zero (z ∷ zs) h l = absurd (not-suc-le-zero h)
  place_behind (suc p) (suc n) (z ∷ zs) h l = place_behind p n zs (omega arith) (omega arith)

  -- the n-th, as the search looks for it
  place_any : (p n : ℕ) (ys : List B) → p ≤ length ys
      → get_or (with' p ys) n none ≡ cond (eqb n p) y (get_or ys (cond (ltb p n) (n - 1) n) none)
  place_any p n ys l = go (dec_lt p n) (dec_lt n p)
    where
      go : Dec (p < n) → Dec (n < p) → get_or (with' p ys) n none ≡ cond (eqb n p) y (get_or ys (cond (ltb p n) (n - 1) n) none)
      go (yes h) d =
          let e : n ≡ suc (n - 1) = omega arith in
          ap (λ (i : ℕ). get_or (with' p ys) i none) e
          ∙ place_behind p (n - 1) ys (omega arith) l
          ∙ ap (λ (i : ℕ). get_or ys i none) (sym (cond_true (ltb p n) (n - 1) n (lt-ltb p n h)))
          ∙ sym (cond_false (eqb n p) y _ (ne_eqb n p (λ q. omega arith)))
      go (no f) (yes h) =
          place_front p n ys h l
          ∙ ap (λ (i : ℕ). get_or ys i none) (sym (cond_false (ltb p n) (n - 1) n (le-ltb p n (omega arith))))
          ∙ sym (cond_false (eqb n p) y _ (ne_eqb n p (λ q. omega arith)))
      go (no f) (no g) =
          let e : n ≡ p = omega arith in
          ap (λ (i : ℕ). get_or (with' p ys) i none) e ∙ place_here p ys l ∙ sym (cond_true (eqb n p) y _ (eq-eqb n p e))

-- ---- the search

pick_cons : (f : Finding) (fs : List Finding) (n : ℕ) → pick_ordered (f ∷ fs) n
    ≡ cond (eqb n (count_first f fs)) (finding_of f) (pick_ordered fs (cond (ltb (count_first f fs) n) (n - 1) n))
unfolding pick_ordered
pick_cons f fs n = refl

pick_nil : (n : ℕ) → pick_ordered [] n ≡ None
unfolding pick_ordered
pick_nil n = refl

pub ordered_picked : (fs : List Finding) (n : ℕ) → pick_ordered fs n ≡ get_or (map finding_of (ordered fs)) n None
ordered_picked [] n = pick_nil n ∙ ap (λ (l : List Finding). get_or (map finding_of l) n None) (sym ordered_nil)
ordered_picked (f ∷ fs) n =
    let gs = ordered fs in
    let p = count_first f fs in
    let c : p ≡ count_first f gs = sym (count_ordered f fs) in
    let fits : p ≤ length (map finding_of gs) = (let a = count_small f gs in let b = length-map gs finding_of in omega arith) in
    pick_cons f fs n
    ∙ ap (λ (a : Option Found). cond (eqb n p) (finding_of f) a) (ordered_picked fs (cond (ltb p n) (n - 1) n))
    ∙ sym (place_any None (finding_of f) p n (map finding_of gs) fits)
    ∙ ap (λ (l : List (Option Found)). get_or l n None)
    (sym (map_insert finding_of gs p f)
    ∙ ap (map finding_of)
    (ap (λ (q : ℕ). take q gs ++ (f ∷ drop q gs)) c ∙ sym (inserted f gs (ordered_sorted fs)) ∙ sym (ordered_cons f fs)))
