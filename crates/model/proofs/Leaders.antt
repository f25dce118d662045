-- Leader lists: ascending by term and then leader, no pair twice, and settled by their members.
-- Assumes nothing.
use Prim.Native.Nat.{◌<◌, ◌≤◌}
use native.Mathlib.Omega.{arith}
use mathlib.Core.Path.{◌≡◌, refl, sym, ◌∙◌, ap}
use mathlib.Core.Bool.{true, false, ◌&&◌}
use mathlib.Core.Logic.{◌⊎◌, inl, inr, ⊎_elim}
use mathlib.Core.List.Memᴰ
use mathlib.Core.List.{List, [], ◌∷◌, Memᴰ}
use lib.Dec.{ltb, eqb}
use borrow.Author.Tests.{ltb-true, ltb-false, eqb-true, eqb-false}
use Rattle.model.specs.History.{Finding}
use Rattle.model.specs.Leaders.{Leader, below, placed, ascending}
use Rattle.model.specs.Ledger.{lacking_leaders, ledger_leaders}
use Rattle.model.specs.Lists.{leader_of, leaders_of, leader_list}
use Rattle.model.specs.Statements.{Before, Ascending, LeaderListAscends, LedgerLeadersAscend, pair_of, Named, LeaderListNames}
use Rattle.model.proofs.Tests.{cond_cases, and_left, and_right, and_false, or_cases, or_false_left, or_false_right}

-- ---- statements

-- every member of the one is a member of the other
abbrev pub Within : List Leader → List Leader → Type 0
Within l m = (a : Leader) → Memᴰ a l → Memᴰ a m

-- Two ascending lists with the same members are equal.
abbrev pub SettledByMembers : Type 0
SettledByMembers = (l m : List Leader) → Ascending l → Ascending m → Within l m → Within m l → l ≡ m

-- ---- the order

pub below_before : (a b : Leader) → below a b ≡ true → Before a b
below_before a b e =
    ⊎_elim (λ t. inl (ltb-true _ _ t))
    (λ t. inr (eqb-true _ _ (and_left _ _ t), ltb-true _ _ (and_right (eqb a.term b.term) _ t)))
    (or_cases _ _ e)

before_self : (a b : Leader) → a ≡ b → Before a b → ⊥
before_self a b e (inl p) = let q : a.term ≡ b.term = ap (λ (x : Leader). x.term) e in omega arith
before_self a b e (inr p) =
    let q : a.leader ≡ b.leader = ap (λ (x : Leader). x.leader) e in
    let r : a.leader < b.leader = p.1 in
    omega arith

before_trans : (a b c : Leader) → Before a b → Before b c → Before a c
before_trans a b c (inl p) (inl q) = inl (omega arith)
before_trans a b c (inl p) (inr q) = let r : b.term ≡ c.term = q.0 in inl (omega arith)
before_trans a b c (inr p) (inl q) = let r : a.term ≡ b.term = p.0 in inl (omega arith)
before_trans a b c (inr p) (inr q) =
    let r : a.leader < b.leader = p.1 in
    let s : b.leader < c.leader = q.1 in
    inr (p.0 ∙ q.0, omega arith)

-- neither below the other: the same
neither : (a b : Leader) → below a b ≡ false → below b a ≡ false → a ≡ b
neither a b e f =
    let p : b.term ≤ a.term = ltb-false _ _ (or_false_left _ _ e) in
    let q : a.term ≤ b.term = ltb-false _ _ (or_false_left _ _ f) in
    let t : a.term ≡ b.term = omega arith in
    let r : b.leader ≤ a.leader = unless t (or_false_right (ltb a.term b.term) _ e) in
    let s : a.leader ≤ b.leader = unless (sym t) (or_false_right (ltb b.term a.term) _ f) in
    let u : a.leader ≡ b.leader = omega arith in
    λ i. record { term = t i; leader = u i }
  where
    unless : {x y : Leader} → x.term ≡ y.term → eqb x.term y.term && ltb x.leader y.leader ≡ false → y.leader ≤ x.leader
    unless {x} {y} t z =
        ⊎_elim (λ n. absurd (eqb-false _ _ n t)) (λ n. ltb-false _ _ n) (and_false _ _ z)

-- ---- one more in its place

pub placed_cases : (a x : Leader) (l : List Leader) → Memᴰ x (placed a l) → (x ≡ a) ⊎ Memᴰ x l
unfolding placed
placed_cases a x [] = λ m. inl (Memᴰ.eq_of_singleton m)
placed_cases a x (b ∷ l) =
    cond_cases (λ (z : List Leader). Memᴰ x z → (x ≡ a) ⊎ Memᴰ x (b ∷ l)) (below a b) _ _
    (λ _ m. Memᴰ.cases_cons m)
    (λ _. cond_cases (λ (z : List Leader). Memᴰ x z → (x ≡ a) ⊎ Memᴰ x (b ∷ l)) (below b a) _ _
    (λ _ m. ⊎_elim (λ e. inr (Memᴰ.head e)) (λ k. ⊎_elim (λ e. inl e) (λ j. inr (Memᴰ.tail j)) (placed_cases a x l k))
    (Memᴰ.cases_cons m))
    (λ _ m. inr m))

pub placed_new : (a : Leader) (l : List Leader) → Memᴰ a (placed a l)
unfolding placed
placed_new a [] = Memᴰ.head refl
placed_new a (b ∷ l) =
    cond_cases (λ (z : List Leader). Memᴰ a z) _ _ _
    (λ _. Memᴰ.head refl)
    (λ e. cond_cases (λ (z : List Leader). Memᴰ a z) _ _ _
    (λ _. Memᴰ.tail (placed_new a l)) (λ f. Memᴰ.head (neither a b e f)))

pub placed_old : (a x : Leader) (l : List Leader) → Memᴰ x l → Memᴰ x (placed a l)
unfolding placed
placed_old a x [] m = absurd (Memᴰ.not-nil m)
placed_old a x (b ∷ l) m =
    cond_cases (λ (z : List Leader). Memᴰ x z) (below a b) _ _
    (λ _. Memᴰ.tail m)
    (λ _. cond_cases (λ (z : List Leader). Memᴰ x z) (below b a) _ _
    (λ _. ⊎_elim (λ e. Memᴰ.head e) (λ k. Memᴰ.tail (placed_old a x l k)) (Memᴰ.cases_cons m))
    (λ _. m))

placed_ascending : (a : Leader) (l : List Leader) → Ascending l → Ascending (placed a l)
unfolding placed
placed_ascending a [] u = (λ b m. absurd (Memᴰ.not-nil m), tt)
placed_ascending a (b ∷ l) u =
    cond_cases Ascending (below a b) _ _
    (λ e. (λ x m. first e x (Memᴰ.cases_cons m), u))
    (λ _. cond_cases Ascending (below b a) _ _
    (λ e. (λ x m. later e x (placed_cases a x l m), placed_ascending a l u.1))
    (λ _. u))
  where
    first : below a b ≡ true → (x : Leader) → (x ≡ b) ⊎ Memᴰ x l → Before a x
    first e x (inl p) = rw p (below_before a b e)
    first e x (inr m) = before_trans a b x (below_before a b e) (u.0 x m)

    later : below b a ≡ true → (x : Leader) → (x ≡ a) ⊎ Memᴰ x l → Before b x
    later e x (inl p) = rw p (below_before b a e)
    later e x (inr m) = u.0 x m

-- ---- all of them

pub ascending_ascends : (l : List Leader) → Ascending (ascending l)
unfolding ascending
ascending_ascends [] = tt
ascending_ascends (a ∷ l) = placed_ascending a (ascending l) (ascending_ascends l)

-- `ascending l` has the members of l, and no other
pub ascending_within : (l : List Leader) → Within (ascending l) l
unfolding ascending
ascending_within [] x m = m
ascending_within (a ∷ l) x m =
    ⊎_elim (λ e. Memᴰ.head e) (λ k. Memᴰ.tail (ascending_within l x k)) (placed_cases a x (ascending l) m)

pub within_ascending : (l : List Leader) → Within l (ascending l)
unfolding ascending
within_ascending [] x m = m
within_ascending (a ∷ l) x m =
    ⊎_elim (λ e. Memᴰ.cast e (placed_new a (ascending l))) (λ k. placed_old a x (ascending l) (within_ascending l x k))
    (Memᴰ.cases_cons m)

-- ---- settled by the members

heads : (a b : Leader) (l m : List Leader) → Ascending (a ∷ l) → Ascending (b ∷ m) → Within (a ∷ l) (b ∷ m) → Within (b ∷ m) (a ∷ l) → a ≡ b
heads a b l m u v f g =
    ⊎_elim (λ e. e)
    (λ j. ⊎_elim (λ e. sym e)
    (λ k. absurd (before_self a a refl (before_trans a b a (u.0 b k) (v.0 a j))))
    (Memᴰ.cases_cons (g b (Memᴰ.head refl))))
    (Memᴰ.cases_cons (f a (Memᴰ.head refl)))

tails : (a b : Leader) (l m : List Leader) → a ≡ b → Ascending (a ∷ l) → Within (a ∷ l) (b ∷ m) → Within l m
tails a b l m e u f x k =
    ⊎_elim (λ p. absurd (before_self a x (e ∙ sym p) (u.0 x k))) (λ j. j) (Memᴰ.cases_cons (f x (Memᴰ.tail k)))

pub settled_by_members : SettledByMembers
settled_by_members [] [] u v f g = refl
settled_by_members [] (b ∷ m) u v f g = absurd (Memᴰ.not-nil (g b (Memᴰ.head refl)))
settled_by_members (a ∷ l) [] u v f g = absurd (Memᴰ.not-nil (f a (Memᴰ.head refl)))
settled_by_members (a ∷ l) (b ∷ m) u v f g =
    let e : a ≡ b = heads a b l m u v f g in
    let t : l ≡ m =
    settled_by_members l m u.1 v.1 (tails a b l m e u f) (tails b a m l (sym e) v g) in
    λ i. e i ∷ t i

-- the lists made of two lists with the same members are equal
pub same_ascending : (l m : List Leader) → Within l m → Within m l → ascending l ≡ ascending m
same_ascending l m f g =
    settled_by_members (ascending l) (ascending m) (ascending_ascends l) (ascending_ascends m)
    (λ x k. within_ascending m x (f x (ascending_within l x k)))
    (λ x k. within_ascending l x (g x (ascending_within m x k)))

-- ---- the leader lists

pub leader_list_ascends : LeaderListAscends
unfolding leader_list
leader_list_ascends h = ascending_ascends (leaders_of h.findings)

pub ledger_leaders_ascend : LedgerLeadersAscend
unfolding ledger_leaders
ledger_leaders_ascend g = ascending_ascends (lacking_leaders g g.elections)

named_tail : (f : Finding) (fs : List Finding) (a : Leader) → Named fs a → Named (f ∷ fs) a
named_tail f fs a n =
    record { finding = n.finding; among = Memᴰ.tail n.among; lg05 = n.lg05; pair = n.pair }

leader_of_lem : (f : Finding) (a : Leader) → Memᴰ a (leader_of f)
    → (f.name ≡ 5) × (a ≡ pair_of f)
leader_of_lem f a =
    cond_cases
    (λ (z : List Leader). Memᴰ a z → (f.name ≡ 5) × (a ≡ pair_of f))
    (eqb f.name 5) (pair_of f ∷ []) []
    (λ t m. (eqb-true _ _ t, Memᴰ.eq_of_singleton m))
    (λ _ m. absurd (Memᴰ.not-nil m))

of_leader_lem : (f : Finding) (a : Leader) → f.name ≡ 5 → a ≡ pair_of f → Memᴰ a (leader_of f)
of_leader_lem f a e p =
    cond_cases (λ (z : List Leader). Memᴰ a z) _ _ _
    (λ _. Memᴰ.head p) (λ t. absurd (eqb-false _ _ t e))

pub leaders_of_lem : (fs : List Finding) (a : Leader) → Memᴰ a (leaders_of fs) → Named fs a
unfolding leaders_of
leaders_of_lem [] a m = absurd (Memᴰ.not-nil m)
leaders_of_lem (f ∷ fs) a m =
    ⊎_elim
    (λ k. let r : (f.name ≡ 5) × (a ≡ pair_of f) = leader_of_lem f a k in
    record { finding = f; among = Memᴰ.head refl; lg05 = r.0; pair = r.1 })
    (λ k. named_tail f fs a (leaders_of_lem fs a k))
    (Memᴰ.append_cases (leader_of f) m)

of_leaders_at : (fs : List Finding) (f : Finding) (a : Leader) → Memᴰ f fs → f.name ≡ 5
    → a ≡ pair_of f → Memᴰ a (leaders_of fs)
unfolding leaders_of
of_leaders_at [] f a m e p = absurd (Memᴰ.not-nil m)
of_leaders_at (f' ∷ fs) f a m e p =
    ⊎_elim
    (λ q. Memᴰ.append_left (leaders_of fs)
    (of_leader_lem f' a (ap (λ (x : Finding). x.name) (sym q) ∙ e)
    (p ∙ ap (λ (x : Finding). pair_of x) q)))
    (λ k. Memᴰ.append_right (leader_of f') (of_leaders_at fs f a k e p))
    (Memᴰ.cases_cons m)

pub of_leaders : (fs : List Finding) (a : Leader) → Named fs a → Memᴰ a (leaders_of fs)
of_leaders fs a n = of_leaders_at fs n.finding a n.among n.lg05 n.pair

pub leader_list_names : LeaderListNames
unfolding leader_list
leader_list_names h a = (
  λ m. leaders_of_lem h.findings a (ascending_within (leaders_of h.findings) a m),
  λ n. within_ascending (leaders_of h.findings) a (of_leaders h.findings a n),
)
