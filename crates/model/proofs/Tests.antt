-- What a test of the model tells: Boolean tests, decisions, and the definitions of `Entry` that are built of them.
-- Assumes nothing.
use Prim.Native.Nat.{ℕ, ◌≤◌, min}
use native.Mathlib.Omega.{arith}
use mathlib.Core.Path.{◌≡◌, refl, sym, ◌∙◌, ap}
use mathlib.Core.Bool.{Bool, true, false, cond, not, ◌&&◌, ◌||◌}
use mathlib.Core.Logic.{◌⊎◌, inl, inr}
use lib.Dec.{eqb}
use borrow.Author.Tests.{eq-eqb, ne_eqb, eqb-true, eqb-false}
use lib.ListN.{length, take}
use lib.Seq.{take_all}
use Rattle.std.specs.Bool.{then_some}
use Rattle.std.specs.Prelude.{Option, Some, None, is_some, unwrap_or}
use Rattle.model.specs.Entry.{Prefix, holds, same, prefixes, begins, agree}

-- ---- tests

pub tf : true ≡ false → ⊥
tf e = let z : ◌≡◌ {A = ℕ} 0 1 = cc in omega arith

pub either : (b : Bool) → (b ≡ true) ⊎ (b ≡ false)
either true = inl refl
either false = inr refl

-- what holds of both ends of a branch holds of the branch
pub cond_cases {ℓ κ} : {C : Type κ} (Q : C → Type ℓ) (b : Bool) (x y : C) → (b ≡ true → Q x) → (b ≡ false → Q y) → Q (cond b x y)
cond_cases Q true x y f g = f refl
cond_cases Q false x y f g = g refl

pub cond_true {ℓ} : {C : Type ℓ} (b : Bool) (x y : C) → b ≡ true → cond b x y ≡ x
cond_true true x y e = refl
cond_true false x y e = absurd (tf (sym e))

pub cond_false {ℓ} : {C : Type ℓ} (b : Bool) (x y : C) → b ≡ false → cond b x y ≡ y
cond_false true x y e = absurd (tf e)
cond_false false x y e = refl

-- none where a number is zero
pub unless_zero : {A : Type 0} (n : ℕ) (b : Bool) (x : A) → b ≡ not (eqb n 0) → then_some b x ≡ cond (eqb n 0) None (Some x)
unless_zero n b x e = ap (λ (v : Bool). then_some v x) e ∙ told (eqb n 0)
  where
    told : (z : Bool) → then_some (not z) x ≡ cond z None (Some x)
    told true = refl
    told false = refl

pub zero_none : {A : Type 0} (n : ℕ) (x : A) → n ≡ 0 → None ≡ cond (eqb n 0) None (Some x)
zero_none n x e = sym (cond_true (eqb n 0) None (Some x) (eq-eqb n 0 e))

pub above_some : {A : Type 0} (n : ℕ) (x : A) → (n ≡ 0 → ⊥) → Some x ≡ cond (eqb n 0) None (Some x)
above_some n x z = sym (cond_false (eqb n 0) None (Some x) (ne_eqb n 0 z))

-- and what such an answer tells of the number
module _ {A : Type 0} (n : ℕ) (x : A) {r : Option A} (e : r ≡ cond (eqb n 0) None (Some x)) where
  pub unless_none : r ≡ None → n ≡ 0
  unless_none q = told (eqb n 0) refl (sym q ∙ e)
    where
      told : (z : Bool) → eqb n 0 ≡ z → None ≡ cond z None (Some x) → n ≡ 0
      told true t w = eqb-true n 0 t
      told false t w = absurd (tf (sym (ap is_some w)))

  pub unless_some : (y : A) → r ≡ Some y → (y ≡ x) × (n ≡ 0 → ⊥)
  unless_some y q = told (eqb n 0) refl (sym q ∙ e)
    where
      told : (z : Bool) → eqb n 0 ≡ z → Some y ≡ cond z None (Some x) → (y ≡ x) × (n ≡ 0 → ⊥)
      told true t w = absurd (tf (ap is_some w))
      told false t w = (ap (λ (o : Option A). unwrap_or o y) w, eqb-false n 0 t)

pub and_left : (a b : Bool) → a && b ≡ true → a ≡ true
and_left true b e = refl
and_left false b e = e

pub and_right : (a b : Bool) → a && b ≡ true → b ≡ true
and_right true b e = e
and_right false b e = absurd (tf (sym e))

pub and_both : (a b : Bool) → a ≡ true → b ≡ true → a && b ≡ true
and_both true b e f = f
and_both false b e f = e

pub and_false : (a b : Bool) → a && b ≡ false → (a ≡ false) ⊎ (b ≡ false)
and_false true b e = inr e
and_false false b e = inl refl

pub or_cases : (a b : Bool) → a || b ≡ true → (a ≡ true) ⊎ (b ≡ true)
or_cases true b e = inl refl
or_cases false b e = inr e

pub or_left : (a b : Bool) → a ≡ true → a || b ≡ true
or_left true b e = refl
or_left false b e = absurd (tf (sym e))

pub or_right : (a b : Bool) → b ≡ true → a || b ≡ true
or_right true b e = refl
or_right false b e = e

pub or_false_left : (a b : Bool) → a || b ≡ false → a ≡ false
or_false_left true b e = e
or_false_left false b e = refl

pub or_false_right : (a b : Bool) → a || b ≡ false → b ≡ false
or_false_right true b e = absurd (tf e)
or_false_right false b e = e

-- two tests that follow from each other are the same
pub test_ext : (a b : Bool) → (a ≡ true → b ≡ true) → (b ≡ true → a ≡ true) → a ≡ b
test_ext true b f g = sym (f refl)
test_ext false true f g = g refl
test_ext false false f g = refl

-- ---- decisions

pub holds_yes {ℓ} : {P : Type ℓ} (d : Dec P) → holds d ≡ true → P
holds_yes (yes p) e = p
holds_yes (no p) e = absurd (tf (sym e))

pub holds_no {ℓ} : {P : Type ℓ} (d : Dec P) → holds d ≡ false → P → ⊥
holds_no (yes p) e q = tf e
holds_no (no p) e q = p q

pub yes_holds {ℓ} : {P : Type ℓ} (d : Dec P) → P → holds d ≡ true
yes_holds (yes p) q = refl
yes_holds (no p) q = absurd (p q)

pub no_holds {ℓ} : {P : Type ℓ} (d : Dec P) → (P → ⊥) → holds d ≡ false
no_holds (yes p) q = absurd (q p)
no_holds (no p) q = refl

-- ---- equality of prefixes

pub same_yes : (p q : Prefix) → same p q ≡ true → p ≡ q
same_yes p q e = holds_yes (prefixes p q) e

pub yes_same : (p q : Prefix) → p ≡ q → same p q ≡ true
yes_same p q e = yes_holds (prefixes p q) e

pub same_no : (p q : Prefix) → same p q ≡ false → p ≡ q → ⊥
same_no p q e = holds_no (prefixes p q) e

pub no_same : (p q : Prefix) → (p ≡ q → ⊥) → same p q ≡ false
no_same p q e = no_holds (prefixes p q) e

-- `begins q p`: the first entries of q are those of p
pub begins_yes : (q p : Prefix) → begins q p ≡ true → take (length p) q ≡ p
unfolding begins
begins_yes q p e = same_yes _ _ e

pub begins_no : (q p : Prefix) → begins q p ≡ false → take (length p) q ≡ p → ⊥
unfolding begins
begins_no q p e = same_no _ _ e

pub no_begins : (q p : Prefix) → (take (length p) q ≡ p → ⊥) → begins q p ≡ false
unfolding begins
no_begins q p e = no_same _ _ e

-- `agree p q`: one of the two begins with the other
pub agree_short : (p q : Prefix) → length p ≤ length q → agree p q ≡ begins q p
unfolding agree begins
agree_short p q h =
    let m : min (length p) (length q) ≡ length p = omega arith in
    ap (λ (n : ℕ). same (take n p) (take n q)) m
    ∙ ap (λ (x : Prefix). same x (take (length p) q)) (take_all (length p) p (omega arith))
    ∙ test_ext _ _
    (λ e. yes_same _ _ (sym (same_yes p (take (length p) q) e)))
    (λ e. yes_same _ _ (sym (same_yes (take (length p) q) p e)))
