-- The search for the n-th leader finds the n-th of the model's ascending list: the least leader of the rows above a bound is
-- the first of the list above it, and above one of an ascending list stands the one after it.
-- Assumes nothing.
use Prim.Native.Nat.{ℕ, zero, suc, ◌+◌, ◌≤◌}
use native.Mathlib.Omega.{arith}
use mathlib.Core.Path.{◌≡◌, refl, sym, ◌∙◌, ap}
use mathlib.Core.Logic.{◌⊎◌, inl, inr, ⊎_elim}
use mathlib.Core.Bool.{Bool, true, false, cond, ◌||◌}
use mathlib.Core.List.{List, [], ◌∷◌, ◌++◌, map, Memᴰ, head-eq_of_cons-eq, tail-eq_of_cons-eq}
use lib.Dec.{ltb, eqb}
use lib.ListN.{length, get_or}
use borrow.Author.Tests.{eq-eqb, ne_eqb, lt-ltb, le-ltb, ltb-false, eqb-true, eqb-false}
use Rattle.model.specs.History.{Finding}
use Rattle.model.specs.Leaders.{Leader, placed, ascending}
use Rattle.model.specs.Lists.{leaders_of}
use Rattle.model.specs.Statements.{Before, Ascending}
use Rattle.model.proofs.Tests.{cond_true, cond_false, either}
use Rattle.model.proofs.Leaders.{ascending_ascends}
use Rattle.lists.specs.declared.leaders.Leader.{Leader as Printed}
use Rattle.std.specs.Prelude.{Option, None}
use Rattle.lists.specs.Leaders.{pair, leader_as, is_below, lesser, better_of, least_in, next_of, rounds_of, leader_in}
use Rattle.lists.proofs.OrderLaws.{key_differs, key_same}
use Rattle.lists.proofs.Ordered.{Order, by_number, by_key}
use Rattle.lists.proofs.LeaderLaws.{better_other, better_low, better_taken, lesser_first}

-- ---- the order of leaders

order : Order is_below
unfolding is_below
order = by_key (λ (a : Leader). a.term) _ (by_number (λ (a : Leader). a.leader))

-- what is below b, where b is below c, is below c
trans : (a b c : Leader) → is_below a b ≡ true → is_below b c ≡ true → is_below a c ≡ true
trans a b c e f = order.mix a b c e (order.asym b c f)

-- neither below the other: the same
same : (a b : Leader) → is_below a b ≡ false → is_below b a ≡ false → a ≡ b
same a b e f = λ i. record { term = same_term i; leader = same_leader i }
  where
    not_lower : (x y : Leader) → is_below x y ≡ false → y.term ≤ x.term
    not_lower x y q = ltb-false x.term y.term (unfold is_below in or_left_false (ltb x.term y.term) _ q)
      where
        or_left_false : (p r : Bool) → (p || r) ≡ false → p ≡ false
        or_left_false true r z = z
        or_left_false false r z = refl

    same_term : a.term ≡ b.term
    same_term = let p = not_lower a b e in let q = not_lower b a f in omega arith

    not_lesser : (x y : Leader) → x.term ≡ y.term → is_below x y ≡ false → y.leader ≤ x.leader
    not_lesser x y t q = ltb-false x.leader y.leader (key_same x.term y.term _ t ∙ (unfold is_below in q))

    same_leader : a.leader ≡ b.leader
    same_leader = let p = not_lesser a b same_term e in let q = not_lesser b a (sym same_term) f in omega arith

-- ---- the first of a list that is not below a bound, and all from there

unfoldable first_from : Leader → List Leader → Option Printed
unfolding is_below
first_from bd [] = None
first_from bd (b ∷ bs) = cond (is_below b bd) (first_from bd bs) (leader_as b)

first_nil : (bd : Leader) → first_from bd [] ≡ None
unfolding first_from
first_nil bd = refl

first_low : (bd b : Leader) (bs : List Leader) → is_below b bd ≡ true → first_from bd (b ∷ bs) ≡ first_from bd bs
unfolding first_from
first_low bd b bs e = cond_true _ _ _ e

first_here : (bd b : Leader) (bs : List Leader) → is_below b bd ≡ false → first_from bd (b ∷ bs) ≡ leader_as b
unfolding first_from
first_here bd b bs e = cond_false _ _ _ e

-- ---- one more leader placed

placed_nil : (a : Leader) → placed a [] ≡ a ∷ []
unfolding placed
placed_nil a = refl

placed_first : (a b : Leader) (bs : List Leader) → is_below a b ≡ true → placed a (b ∷ bs) ≡ a ∷ b ∷ bs
unfolding placed is_below
placed_first a b bs e = cond_true _ _ _ e

placed_later : (a b : Leader) (bs : List Leader) → is_below a b ≡ false → is_below b a ≡ true → placed a (b ∷ bs) ≡ b ∷ placed a bs
unfolding placed is_below
placed_later a b bs e f = cond_false _ _ _ e ∙ cond_true _ _ _ f

placed_there : (a b : Leader) (bs : List Leader) → is_below a b ≡ false → is_below b a ≡ false → placed a (b ∷ bs) ≡ b ∷ bs
unfolding placed is_below
placed_there a b bs e f = cond_false _ _ _ e ∙ cond_false _ _ _ f

-- of a and the first of a list, the lesser, where a is not below the bound
lesser_leader : (a b : Leader) → lesser a (leader_as b) ≡ cond (is_below b a) (leader_as b) (leader_as a)
unfolding lesser
lesser_leader a b = refl

placed_low : (bd a : Leader) (bs : List Leader) → is_below a bd ≡ true → first_from bd (placed a bs) ≡ first_from bd bs
placed_low bd a [] h = ap (first_from bd) (placed_nil a) ∙ first_low bd a [] h
placed_low bd a (b ∷ bs) h =
    ⊎_elim
    (λ e. ap (first_from bd) (placed_first a b bs e) ∙ first_low bd a (b ∷ bs) h)
    (λ e.
    ⊎_elim
    (λ f.
    let t = trans b a bd f h in
    ap (first_from bd) (placed_later a b bs e f) ∙ first_low bd b (placed a bs) t ∙ placed_low bd a bs h ∙ sym (first_low bd b bs t))
    (λ f. ap (first_from bd) (placed_there a b bs e f))
    (either (is_below b a)))
    (either (is_below a b))

placed_high : (bd a : Leader) (bs : List Leader) → is_below a bd ≡ false → first_from bd (placed a bs) ≡ lesser a (first_from bd bs)
placed_high bd a [] h =
    ap (first_from bd) (placed_nil a) ∙ first_here bd a [] h ∙ lesser_first a (first_from bd []) (first_nil bd)
placed_high bd a (b ∷ bs) h =
    ⊎_elim
    (λ e.
    let t : is_below b bd ≡ false = not_low b e in
    ap (first_from bd) (placed_first a b bs e)
    ∙ first_here bd a (b ∷ bs) h
    ∙ sym (ap (lesser a) (first_here bd b bs t) ∙ lesser_leader a b ∙ cond_false _ _ _ (order.asym a b e)))
    (λ e.
    ⊎_elim
    (λ f.
    ap (first_from bd) (placed_later a b bs e f)
    ∙ ⊎_elim
    (λ t. first_low bd b (placed a bs) t ∙ placed_high bd a bs h ∙ ap (lesser a) (sym (first_low bd b bs t)))
    (λ t. first_here bd b (placed a bs) t ∙ sym (ap (lesser a) (first_here bd b bs t) ∙ lesser_leader a b ∙ cond_true _ _ _ f))
    (either (is_below b bd)))
    (λ f.
    let q : a ≡ b = same a b e f in
    let t : is_below b bd ≡ false = ap (λ (x : Leader). is_below x bd) (sym q) ∙ h in
    ap (first_from bd) (placed_there a b bs e f)
    ∙ first_here bd b bs t
    ∙ ap leader_as (sym q)
    ∙ sym (ap (lesser a) (first_here bd b bs t) ∙ lesser_leader a b ∙ cond_false _ _ _ f))
    (either (is_below b a)))
    (either (is_below a b))
  where
    not_low : (b : Leader) → is_below a b ≡ true → is_below b bd ≡ false
    not_low b e =
        ⊎_elim
        (λ t. absurd (let z : ◌≡◌ {A = ℕ} 0 1 = cc (trans a b bd e t, h) in omega arith))
        (λ t. t)
        (either (is_below b bd))

-- ---- the least of the rows

abbrev leaders : List Finding → List Leader
leaders fs = ascending (leaders_of fs)

leaders_other : (f : Finding) (fs : List Finding) → (f.name ≡ 5 → ⊥) → leaders (f ∷ fs) ≡ leaders fs
unfolding leaders_of
leaders_other f fs d = ap (λ (b : Bool). ascending (cond b (pair f.term f.node ∷ []) [] ++ leaders_of fs)) (ne_eqb f.name 5 d)

leaders_one : (f : Finding) (fs : List Finding) → f.name ≡ 5 → leaders (f ∷ fs) ≡ placed (pair f.term f.node) (leaders fs)
unfolding leaders_of ascending
leaders_one f fs e = ap (λ (b : Bool). ascending (cond b (pair f.term f.node ∷ []) [] ++ leaders_of fs)) (eq-eqb f.name 5 e)

leaders_nil : leaders [] ≡ []
unfolding leaders_of ascending
leaders_nil = refl

least_nil : (bd : Leader) → least_in bd [] ≡ None
unfolding least_in
least_nil bd = refl

least_cons : (bd : Leader) (f : Finding) (fs : List Finding) → least_in bd (f ∷ fs) ≡ better_of bd f (least_in bd fs)
unfolding least_in
least_cons bd f fs = refl

is_five : (n : ℕ) → (n ≡ 5) ⊎ (n ≡ 5 → ⊥)
is_five n = ⊎_elim (λ e. inl (eqb-true n 5 e)) (λ e. inr (eqb-false n 5 e)) (either (eqb n 5))

least_first : (bd : Leader) (fs : List Finding) → least_in bd fs ≡ first_from bd (leaders fs)
least_first bd [] = least_nil bd ∙ sym (ap (first_from bd) leaders_nil ∙ first_nil bd)
least_first bd (f ∷ fs) =
    let a = pair f.term f.node in
    least_cons bd f fs
    ∙ ⊎_elim
    (λ e.
    ⊎_elim
    (λ h. sym (better_low bd f (least_in bd fs) e h) ∙ least_first bd fs ∙ sym (ap (first_from bd) (leaders_one f fs e) ∙ placed_low bd a (leaders fs) h))
    (λ h.
    sym (better_taken bd f (least_in bd fs) e h)
    ∙ ap (lesser a) (least_first bd fs)
    ∙ sym (ap (first_from bd) (leaders_one f fs e) ∙ placed_high bd a (leaders fs) h))
    (either (is_below a bd)))
    (λ d. sym (better_other bd f (least_in bd fs) d) ∙ least_first bd fs ∙ ap (first_from bd) (sym (leaders_other f fs d)))
    (is_five f.name)

-- ---- the rounds

unfoldable all_from : Leader → List Leader → List Leader
unfolding is_below
all_from bd [] = []
all_from bd (b ∷ bs) = cond (is_below b bd) (all_from bd bs) (b ∷ bs)

all_nil : (bd : Leader) → all_from bd [] ≡ []
unfolding all_from
all_nil bd = refl

all_low : (bd b : Leader) (bs : List Leader) → is_below b bd ≡ true → all_from bd (b ∷ bs) ≡ all_from bd bs
unfolding all_from
all_low bd b bs e = cond_true _ _ _ e

all_here : (bd b : Leader) (bs : List Leader) → is_below b bd ≡ false → all_from bd (b ∷ bs) ≡ b ∷ bs
unfolding all_from
all_here bd b bs e = cond_false _ _ _ e

abbrev nth_of : List Leader → ℕ → Option Printed
nth_of l n = get_or (map leader_as l) n None

first_all : (bd : Leader) (l : List Leader) → first_from bd l ≡ nth_of (all_from bd l) 0
first_all bd [] = first_nil bd ∙ ap (λ (l : List Leader). nth_of l 0) (sym (all_nil bd))
first_all bd (b ∷ bs) =
    ⊎_elim
    (λ e. first_low bd b bs e ∙ first_all bd bs ∙ ap (λ (l : List Leader). nth_of l 0) (sym (all_low bd b bs e)))
    (λ e. first_here bd b bs e ∙ ap (λ (l : List Leader). nth_of l 0) (sym (all_here bd b bs e)))
    (either (is_below b bd))

-- the bound after a leader
abbrev past : Leader → Leader
past a = pair a.term (a.leader + 1)

past_self : (a : Leader) → is_below a (past a) ≡ true
unfolding is_below
past_self a =
    sym (key_same a.term a.term _ refl) ∙ lt-ltb a.leader (a.leader + 1) (omega arith)

past_before : (a b : Leader) → Before a b → is_below b (past a) ≡ false
unfolding is_below
past_before a b (inl l) =
    sym (key_differs b.term a.term _ (λ e. omega arith)) ∙ le-ltb b.term a.term (omega arith)
past_before a b (inr w) =
    sym (key_same b.term a.term _ (sym w.0)) ∙ le-ltb b.leader (a.leader + 1) (let q = w.1 in omega arith)

all_past : (a : Leader) (l : List Leader) → ((b : Leader) → Memᴰ b l → Before a b) → all_from (past a) l ≡ l
all_past a [] u = all_nil (past a)
all_past a (b ∷ bs) u = all_here (past a) b bs (past_before a b (u b (Memᴰ.head refl)))

-- the first of them is not below the bound
first_high : (bd b : Leader) (rest l : List Leader) → all_from bd l ≡ b ∷ rest → is_below b bd ≡ false
first_high bd b rest [] e = absurd (let q = ap length (sym (all_nil bd) ∙ e) in omega arith)
first_high bd b rest (c ∷ cs) e =
    ⊎_elim
    (λ h. first_high bd b rest cs (sym (all_low bd c cs h) ∙ e))
    (λ h. ap (λ (x : Leader). is_below x bd) (sym (head-eq_of_cons-eq (sym (all_here bd c cs h) ∙ e))) ∙ h)
    (either (is_below c bd))

all_next : (bd b : Leader) (rest l : List Leader) → Ascending l → all_from bd l ≡ b ∷ rest → all_from (past b) l ≡ rest
all_next bd b rest [] u e = absurd (let q = ap length (sym (all_nil bd) ∙ e) in omega arith)
all_next bd b rest (c ∷ cs) u e =
    ⊎_elim
    (λ h.
    let r = all_next bd b rest cs u.1 (sym (all_low bd c cs h) ∙ e) in
    all_low (past b) c cs (trans c b (past b) (order.mix c bd b h (first_high bd b rest cs (sym (all_low bd c cs h) ∙ e))) (past_self b)) ∙ r)
    (λ h.
    let q = sym (all_here bd c cs h) ∙ e in
    let eb : c ≡ b = head-eq_of_cons-eq q in
    let er : cs ≡ rest = tail-eq_of_cons-eq q in
    ap (λ (x : Leader). all_from (past x) (c ∷ cs)) (sym eb) ∙ all_low (past c) c cs (past_self c) ∙ all_past c cs u.0 ∙ er)
    (either (is_below c bd))

rounds_zero : (fs : List Finding) (found : Option Printed) → rounds_of fs found 0 ≡ found
unfolding rounds_of
rounds_zero fs found = refl

rounds_suc : (fs : List Finding) (found : Option Printed) (n : ℕ) → rounds_of fs found (suc n) ≡ rounds_of fs (next_of fs found) n
unfolding rounds_of
rounds_suc fs found n = refl

next_nothing : (fs : List Finding) → next_of fs None ≡ None
unfolding next_of
next_nothing fs = refl

next_leader : (fs : List Finding) (a : Leader) → next_of fs (leader_as a) ≡ least_in (past a) fs
unfolding next_of
next_leader fs a = refl

rounds_nothing : (fs : List Finding) (n : ℕ) → rounds_of fs None n ≡ None
rounds_nothing fs zero = rounds_zero fs _
rounds_nothing fs (suc n) = rounds_suc fs _ n ∙ ap (λ (a : Option Printed). rounds_of fs a n) (next_nothing fs) ∙ rounds_nothing fs n

rounds_are : (fs : List Finding) (n : ℕ) (bd : Leader) (xs : List Leader) → all_from bd (leaders fs) ≡ xs → rounds_of fs (least_in bd fs) n ≡ nth_of xs n
rounds_are fs zero bd xs e =
    rounds_zero fs _ ∙ least_first bd fs ∙ first_all bd (leaders fs) ∙ ap (λ (l : List Leader). nth_of l 0) e
rounds_are fs (suc n) bd [] e =
    ap (λ (a : Option Printed). rounds_of fs a (suc n)) (least_first bd fs ∙ first_all bd (leaders fs) ∙ ap (λ (l : List Leader). nth_of l 0) e)
    ∙ rounds_nothing fs (suc n)
rounds_are fs (suc n) bd (b ∷ rest) e =
    ap (λ (a : Option Printed). rounds_of fs a (suc n)) (least_first bd fs ∙ first_all bd (leaders fs) ∙ ap (λ (l : List Leader). nth_of l 0) e)
    ∙ rounds_suc fs (leader_as b) n
    ∙ ap (λ (a : Option Printed). rounds_of fs a n) (next_leader fs b)
    ∙ rounds_are fs n (past b) rest (all_next bd b rest (leaders fs) (ascending_ascends (leaders_of fs)) e)

-- nothing is below the first bound
all_start : (l : List Leader) → all_from (pair 0 0) l ≡ l
all_start [] = all_nil (pair 0 0)
all_start (b ∷ bs) = all_here (pair 0 0) b bs (none_below b)
  where
    none_below : (b : Leader) → is_below b (pair 0 0) ≡ false
    none_below b =
        unfold is_below in
        ⊎_elim
        (λ e. sym (key_same b.term 0 (ltb b.leader 0) (eqb-true b.term 0 e)) ∙ le-ltb b.leader 0 (omega arith))
        (λ e. sym (key_differs b.term 0 (ltb b.leader 0) (eqb-false b.term 0 e)) ∙ le-ltb b.term 0 (omega arith))
        (either (eqb b.term 0))

pub leaders_picked : (fs : List Finding) (n : ℕ) → leader_in fs n ≡ get_or (map leader_as (ascending (leaders_of fs))) n None
unfolding leader_in
leaders_picked fs n = rounds_are fs n (pair 0 0) (leaders fs) (all_start (leaders fs))

-- ---- no more leaders than findings

placed_small : (a : Leader) (l : List Leader) → length (placed a l) ≤ suc (length l)
placed_small a [] = let e = ap length (placed_nil a) in omega arith
placed_small a (b ∷ bs) =
    ⊎_elim
    (λ e. let q = ap length (placed_first a b bs e) in omega arith)
    (λ e.
    ⊎_elim
    (λ f.
    let q = ap length (placed_later a b bs e f) in
    let r = placed_small a bs in
    omega arith)
    (λ f. let q = ap length (placed_there a b bs e f) in omega arith)
    (either (is_below b a)))
    (either (is_below a b))

pub leaders_few : (fs : List Finding) → length (ascending (leaders_of fs)) ≤ length fs
leaders_few [] = let e = ap length leaders_nil in omega arith
leaders_few (f ∷ fs) =
    let r = leaders_few fs in
    ⊎_elim
    (λ e.
    let q = ap length (leaders_one f fs e) in
    let s = placed_small (pair f.term f.node) (leaders fs) in
    omega arith)
    (λ d. let q = ap length (leaders_other f fs d) in omega arith)
    (is_five f.name)
