-- Laws of lists by index and of tests of every member; those of a loop take what it holds so far as their first argument.
-- Assumes nothing.
use Prim.Native.Nat.{ℕ, zero, suc, ◌+◌, ◌-◌, ◌≤◌, ◌<◌}
use native.Mathlib.Nat.{add-zero, not-suc-le-zero}
use native.Mathlib.Numerals.{add-one}
use native.Mathlib.Omega.{arith}
use mathlib.Core.Logic.{◌≢◌}
use mathlib.Core.Path.{◌≡◌, refl, ap, sym, ◌∙◌}
use mathlib.Core.Bool.{Bool, true, false, ◌&&◌}
use mathlib.Core.List.{List, [], ◌∷◌, ◌++◌, map}
use lib.ListN.{length, get_or, set, take, drop, replicate}
use Rattle.storage_bytes.specs.Lists.{tabulate, every}

-- both halves of a test that passes
pub both : (a b : Bool) → (a && b) ≡ true → (a ≡ true) × (b ≡ true)
both true b e = (refl, e)
both false b e = (e, absurd (let z : ◌≡◌ {A = ℕ} 0 1 = cc in omega arith))

module _ {A : Type 0} where
  pub tabulate_length : (f : ℕ → A) (i n : ℕ) → length (tabulate f i n) ≡ n
  unfolding tabulate
  tabulate_length f i zero = refl
  tabulate_length f i (suc n) = ap suc (tabulate_length f (i + 1) n)

  pub tabulate_at : (f : ℕ → A) (i n k : ℕ) (d : A) → k < n → get_or (tabulate f i n) k d ≡ f (i + k)
  unfolding tabulate
  tabulate_at f i zero k d h = absurd (not-suc-le-zero h)
  tabulate_at f i (suc n) zero d h = ap f (sym (add-zero i))
  tabulate_at f i (suc n) (suc k) d h = tabulate_at f (i + 1) n k d (omega arith) ∙ ap f (omega arith)

  -- one more at the end
  pub tabulate_snoc : (f : ℕ → A) (i n : ℕ) → tabulate f i (n + 1) ≡ tabulate f i n ++ (f (i + n) ∷ [])
  unfolding tabulate
  tabulate_snoc f i zero = ap (λ (k : ℕ). f k ∷ []) (sym (add-zero i))
  tabulate_snoc f i (suc n) =
      ap (λ (k : ℕ). tabulate f i k) (add-one (suc n))
      ∙ ap (λ (l : List A). f i ∷ l)
      (ap (λ (k : ℕ). tabulate f (i + 1) k) (sym (add-one n))
      ∙ tabulate_snoc f (i + 1) n
      ∙ ap (λ (k : ℕ). tabulate f (i + 1) n ++ (f k ∷ [])) (omega arith))

  -- one more at the front
  pub tabulate_cons : (f : ℕ → A) (i n : ℕ) → i < n → tabulate f i (n - i) ≡ f i ∷ tabulate f (i + 1) (n - (i + 1))
  unfolding tabulate
  tabulate_cons f i n h = ap (λ (k : ℕ). tabulate f i k) (let e : n - i ≡ suc (n - (i + 1)) = omega arith in e)

  pub tabulate_none : (f : ℕ → A) (i n : ℕ) → n ≤ i → tabulate f i (n - i) ≡ []
  unfolding tabulate
  tabulate_none f i n h = ap (λ (k : ℕ). tabulate f i k) (let e : n - i ≡ 0 = omega arith in e)

  -- equal where the members are
  pub tabulate_same : (f g : ℕ → A) (i n : ℕ) → ((k : ℕ) → i ≤ k → k < i + n → f k ≡ g k) → tabulate f i n ≡ tabulate g i n
  unfolding tabulate
  tabulate_same f g i zero h = refl
  tabulate_same f g i (suc n) h =
      λ j. h i (omega arith) (omega arith) j ∷ tabulate_same f g (i + 1) n (λ k a b. h k (omega arith) (omega arith)) j

  pub tabulate_drop : (f : ℕ → A) (i n k : ℕ) → k ≤ n → drop k (tabulate f i n) ≡ tabulate f (i + k) (n - k)
  unfolding tabulate
  tabulate_drop f i n zero h = λ j. tabulate f (sym (add-zero i) j) (let e : n ≡ n - 0 = omega arith in e j)
  tabulate_drop f i zero (suc k) h = absurd (not-suc-le-zero h)
  tabulate_drop f i (suc n) (suc k) h =
      tabulate_drop f (i + 1) n k (omega arith)
      ∙ (λ j. tabulate f (let e : i + 1 + k ≡ i + suc k = omega arith in e j) (let e : n - k ≡ suc n - suc k = omega arith in e j))

  pub tabulate_replicate : (f : ℕ → A) (a : A) (i n : ℕ) → ((k : ℕ) → f k ≡ a) → tabulate f i n ≡ replicate n a
  unfolding tabulate
  tabulate_replicate f a i zero h = refl
  tabulate_replicate f a i (suc n) h = λ j. h i j ∷ tabulate_replicate f a (i + 1) n h j

  -- one member set
  pub tabulate_set : (f g : ℕ → A) (i n k : ℕ) (x : A) → g (i + k) ≡ x → ((j : ℕ) → j ≢ i + k → g j ≡ f j)
      → tabulate g i n ≡ set (tabulate f i n) k x
  unfolding tabulate
  tabulate_set f g i zero k x e h = refl
  tabulate_set f g i (suc n) zero x e h =
      λ j. (ap g (sym (add-zero i)) ∙ e) j ∷ tabulate_same g f (i + 1) n (λ k a b. h k (omega arith)) j
  tabulate_set f g i (suc n) (suc k) x e h =
      λ j. h i (omega arith) j
      ∷ tabulate_set f g (i + 1) n k x
      (ap g (let q : i + 1 + k ≡ i + suc k = omega arith in q) ∙ e)
      (λ m ne. h m (omega arith)) j

  -- ---- a test of every member

  pub every_snoc : (test : A → Bool) (xs : List A) (x : A) → every test (xs ++ (x ∷ [])) ≡ (every test xs && test x)
  unfolding every
  every_snoc test [] x = and_true' (test x)
    where
      and_true' : (b : Bool) → (b && true) ≡ b
      and_true' true = refl
      and_true' false = refl
  every_snoc test (y ∷ ys) x = ap (λ (b : Bool). test y && b) (every_snoc test ys x) ∙ assoc (test y) (every test ys) (test x)
    where
      assoc : (a b c : Bool) → (a && (b && c)) ≡ ((a && b) && c)
      assoc true b c = refl
      assoc false b c = refl

  -- what passes everywhere passes at each place
  pub every_at : (test : A → Bool) (xs : List A) (k : ℕ) (d : A) → every test xs ≡ true → k < length xs → test (get_or xs k d) ≡ true
  unfolding every
  every_at test [] k d e h = absurd (not-suc-le-zero h)
  every_at test (x ∷ xs) zero d e h = (both (test x) (every test xs) e).0
  every_at test (x ∷ xs) (suc k) d e h = every_at test xs k d (both (test x) (every test xs) e).1 (omega arith)

  -- ---- a loop that tests the rows of f, from 0 to n: `b` is the answer, `v` the value of the test at row i

  module _ (test : A → Bool) (f : ℕ → A) {b : Bool} (i n : ℕ) where
    pub every_next : b ≡ every test (tabulate f i (n - i)) → i < n → test (f i) ≡ true → b ≡ every test (tabulate f (i + 1) (n - (i + 1)))
    unfolding every
    every_next inv h t = inv ∙ ap (every test) (tabulate_cons f i n h) ∙ ap (λ (v : Bool). v && every test (tabulate f (i + 1) (n - (i + 1)))) t

    pub every_stop : b ≡ every test (tabulate f i (n - i)) → i < n → test (f i) ≡ false → b ≡ false
    unfolding every
    every_stop inv h t = inv ∙ ap (every test) (tabulate_cons f i n h) ∙ ap (λ (v : Bool). v && every test (tabulate f (i + 1) (n - (i + 1)))) t

    pub every_none : b ≡ every test (tabulate f i (n - i)) → n ≤ i → b ≡ true
    unfolding every
    every_none inv h = inv ∙ ap (every test) (tabulate_none f i n h)

  -- a weaker test passes too
  pub every_weaker : (test other : A → Bool) (xs : List A) → ((x : A) → test x ≡ true → other x ≡ true) → every test xs ≡ true → every other xs ≡ true
  unfolding every
  every_weaker test other [] h e = refl
  every_weaker test other (x ∷ xs) h e =
      let p = both (test x) (every test xs) e in
      ap (λ (b : Bool). b && every other xs) (h x p.0) ∙ every_weaker test other xs h p.1

  -- a member set to one that passes
  pub every_set : (test : A → Bool) (xs : List A) (k : ℕ) (x : A) → test x ≡ true → every test xs ≡ true → every test (set xs k x) ≡ true
  unfolding every
  every_set test [] k x t e = e
  every_set test (y ∷ ys) zero x t e =
      ap (λ (b : Bool). b && every test ys) t ∙ (both (test y) (every test ys) e).1
  every_set test (y ∷ ys) (suc k) x t e =
      let p = both (test y) (every test ys) e in
      ap (λ (b : Bool). b && every test (set ys k x)) p.0 ∙ every_set test ys k x t p.1

  pub map_set : {B : Type 0} (f : A → B) (xs : List A) (k : ℕ) (x : A) → map f (set xs k x) ≡ set (map f xs) k (f x)
  map_set f [] k x = refl
  map_set f (y ∷ ys) zero x = refl
  map_set f (y ∷ ys) (suc k) x = ap (λ (l : List _). f y ∷ l) (map_set f ys k x)

  -- equal results of every member that passes
  pub map_every : {B : Type 0} (test : A → Bool) (f g : A → B) (xs : List A) → ((x : A) → test x ≡ true → f x ≡ g x) → every test xs ≡ true → map f xs ≡ map g xs
  unfolding every
  map_every test f g [] h e = refl
  map_every test f g (x ∷ xs) h e =
      let p = both (test x) (every test xs) e in
      λ i. h x p.0 i ∷ map_every test f g xs h p.1 i

  -- ---- rows moved up by one, and one put in their place

  pub tabulate_append : (f : ℕ → A) (i n m : ℕ) → tabulate f i (n + m) ≡ tabulate f i n ++ tabulate f (i + n) m
  unfolding tabulate
  tabulate_append f i zero m = λ j. tabulate f (let e : i ≡ i + 0 = omega arith in e j) (let e : 0 + m ≡ m = omega arith in e j)
  tabulate_append f i (suc n) m =
      ap (tabulate f i) (let e : suc n + m ≡ suc (n + m) = omega arith in e)
      ∙ ap (λ (l : List A). f i ∷ l)
      (tabulate_append f (i + 1) n m ∙ ap (λ (k : ℕ). tabulate f (i + 1) n ++ tabulate f k m) (let e : i + 1 + n ≡ i + suc n = omega arith in e))

  pub tabulate_shift : (f g : ℕ → A) (i n : ℕ) → ((k : ℕ) → i ≤ k → k < i + n → g (k + 1) ≡ f k) → tabulate g (i + 1) n ≡ tabulate f i n
  unfolding tabulate
  tabulate_shift f g i zero h = refl
  tabulate_shift f g i (suc n) h =
      λ j. h i (omega arith) (omega arith) j ∷ tabulate_shift f g (i + 1) n (λ k a b. h k (omega arith) (omega arith)) j

  pub tabulate_take : (f : ℕ → A) (i n k : ℕ) → k ≤ n → take k (tabulate f i n) ≡ tabulate f i k
  unfolding tabulate
  tabulate_take f i n zero h = refl
  tabulate_take f i zero (suc k) h = absurd (not-suc-le-zero h)
  tabulate_take f i (suc n) (suc k) h = ap (λ (l : List A). f i ∷ l) (tabulate_take f (i + 1) n k (omega arith))

  pub tabulate_insert : (f g : ℕ → A) (n k : ℕ) (x : A) → k ≤ n → ((j : ℕ) → j < k → g j ≡ f j) → g k ≡ x
      → ((j : ℕ) → k ≤ j → j < n → g (j + 1) ≡ f j)
      → tabulate g 0 (n + 1) ≡ take k (tabulate f 0 n) ++ (x ∷ drop k (tabulate f 0 n))
  unfolding tabulate
  tabulate_insert f g n k x h low at high =
      let e : n + 1 ≡ k + suc (n - k) = omega arith in
      let d : drop k (tabulate f 0 n) ≡ tabulate f k (n - k)
      = tabulate_drop f 0 n k h ∙ ap (λ (q : ℕ). tabulate f q (n - k)) (let z : 0 + k ≡ k = omega arith in z) in
      ap (tabulate g 0) e
      ∙ tabulate_append g 0 k (suc (n - k))
      ∙ ap (λ (q : ℕ). tabulate g 0 k ++ tabulate g q (suc (n - k))) (let z : 0 + k ≡ k = omega arith in z)
      ∙ (λ j.
      (tabulate_same g f 0 k (λ q a b. low q (omega arith)) ∙ sym (tabulate_take f 0 n k h)) j
      ++ (at j ∷ (tabulate_shift f g k (n - k) (λ q a b. high q a (omega arith)) ∙ sym d) j))

  -- one more member at place k
  pub every_insert : (test : A → Bool) (xs : List A) (k : ℕ) (x : A) → test x ≡ true → every test xs ≡ true → every test (take k xs ++ (x ∷ drop k xs)) ≡ true
  unfolding every
  every_insert test xs zero x t e = ap (λ (b : Bool). b && every test xs) t ∙ e
  every_insert test [] (suc k) x t e = ap (λ (b : Bool). b && true) t
  every_insert test (y ∷ ys) (suc k) x t e =
      let p = both (test y) (every test ys) e in
      ap (λ (b : Bool). b && every test (take k ys ++ (x ∷ drop k ys))) p.0 ∙ every_insert test ys k x t p.1

  pub map_insert : {B : Type 0} (f : A → B) (xs : List A) (k : ℕ) (x : A) → map f (take k xs ++ (x ∷ drop k xs)) ≡ take k (map f xs) ++ (f x ∷ drop k (map f xs))
  map_insert f xs zero x = refl
  map_insert f [] (suc k) x = refl
  map_insert f (y ∷ ys) (suc k) x = ap (λ (l : List _). f y ∷ l) (map_insert f ys k x)
