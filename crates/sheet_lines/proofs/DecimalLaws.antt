-- Laws of decimal digits: the equations that a reader expects, and how many digits there are.
-- Assumes nothing.
use Prim.Native.Nat.{ℕ, zero, suc, ◌+◌, ◌/◌, ◌%◌, ◌^◌, ◌≤◌, ◌<◌}
use native.Mathlib.Nat.{not-suc-le-zero, pow-suc}
use native.Mathlib.Omega.{arith}
use mathlib.Core.Path.{◌≡◌, refl, ap, sym, ◌∙◌}
use mathlib.Core.Bool.{Bool, true, false, cond}
use mathlib.Core.List.{[], ◌∷◌, ◌++◌, append_assoc, append-nil}
use lib.Dec.{ltb}
use lib.ListN.{length, length-append}
use borrow.Author.Tests.{ltb-true, ltb-false, lt-ltb, le-ltb, eq-eqb, ne_eqb}
use Rattle.model.specs.Sizes.{Bytes}
use Rattle.std.specs.Fmt as library
use Rattle.std.specs.Fmt.{digits_onto, digit_glyph}
use Rattle.std.specs.Bool.{if◌then◌else◌}
use Rattle.sheet_lines.specs.Decimal.{digits, decimal}

cond_same : (b : Bool) (x y z : Bytes) → (b ≡ false → y ≡ z) → cond b x y ≡ cond b x z
cond_same true x y z h = refl
cond_same false x y z h = h refl

-- past v the most does not matter
digits_enough : (f g v : ℕ) → v < f → v < g → digits f v ≡ digits g v
unfolding digits
digits_enough zero g v h k = absurd (not-suc-le-zero h)
digits_enough (suc f) zero v h k = absurd (not-suc-le-zero k)
digits_enough (suc f) (suc g) v h k =
    cond_same (ltb v 10) ((48 + v) ∷ []) _ _
    (λ e. let l : 10 ≤ v = ltb-false v 10 e in
    ap (λ (ds : Bytes). ds ++ ((48 + v % 10) ∷ [])) (digits_enough f g (v / 10) (omega arith) (omega arith)))

-- a number below ten is its own digit
pub decimal_small : (v : ℕ) → v < 10 → decimal v ≡ (48 + v) ∷ []
unfolding decimal digits
decimal_small v h = ap (λ (b : Bool). cond b ((48 + v) ∷ []) (digits v (v / 10) ++ ((48 + v % 10) ∷ []))) (lt-ltb v 10 h)

-- any other has the digits of a tenth of it, then its last
pub decimal_large : (v : ℕ) → 10 ≤ v → decimal v ≡ decimal (v / 10) ++ ((48 + v % 10) ∷ [])
unfolding decimal digits
decimal_large v h =
    ap (λ (b : Bool). cond b ((48 + v) ∷ []) (digits v (v / 10) ++ ((48 + v % 10) ∷ []))) (le-ltb v 10 h)
    ∙ ap (λ (ds : Bytes). ds ++ ((48 + v % 10) ∷ [])) (digits_enough v (suc (v / 10)) (v / 10) (omega arith) (omega arith))

pub decimal_longer : (v : ℕ) → 10 ≤ v → length (decimal v) ≡ length (decimal (v / 10)) + 1
decimal_longer v h = ap length (decimal_large v h) ∙ length-append (decimal (v / 10)) ((48 + v % 10) ∷ [])

within_step : (k v : ℕ) → (10 ≤ v → length (decimal (v / 10)) ≤ suc k) → (b : Bool) → ltb v 10 ≡ b → length (decimal v) ≤ suc (suc k)
within_step k v h true e = let s = ap length (decimal_small v (ltb-true v 10 e)) in omega arith
within_step k v h false e =
    let l : 10 ≤ v = ltb-false v 10 e in
    omega (arith, decimal_longer v l, h l)

-- a number below 10 ^ (k + 1) has at most k + 1 digits
pub decimal_within : (k v : ℕ) → v < 10 ^ suc k → length (decimal v) ≤ suc k
decimal_within zero v h = let e = ap length (decimal_small v (omega arith)) in omega arith
decimal_within (suc k) v h =
    within_step k v (λ l. decimal_within k (v / 10) (omega (arith, pow-suc 10 (suc k)))) (ltb v 10) refl

-- a number of 64 bits has at most 20 digits
pub decimal_twenty : (v : ℕ) → v < 18446744073709551616 → length (decimal v) ≤ 20
decimal_twenty v h = decimal_within 19 v (omega arith)

-- ---- the library's decimal digits are these

glyph : (d : ℕ) → d < 10 → digit_glyph false d ≡ 48 + d
glyph d h = ap (λ (b : Bool). if b then 48 + d else (87 + d)) (lt-ltb d 10 h)

onto_small : (k v : ℕ) (more : Bytes) → v < 10 → digits_onto (suc k) 10 false v more ≡ decimal v ++ more
onto_small k v more h =
    ap (λ (b : Bool). if b then digit_glyph false (v % 10) ∷ more else digits_onto k 10 false (v / 10) (digit_glyph false (v % 10) ∷ more))
    (eq-eqb (v / 10) 0 (omega arith))
    ∙ ap (λ (g : ℕ). g ∷ more) (glyph (v % 10) (omega arith) ∙ (let e : 48 + v % 10 ≡ 48 + v = omega arith in e))
    ∙ ap (λ (ds : Bytes). ds ++ more) (sym (decimal_small v h))

onto_large : (k v : ℕ) (more : Bytes) → 10 ≤ v → (ds : Bytes) → digits_onto k 10 false (v / 10) (digit_glyph false (v % 10) ∷ more) ≡ ds
    → digits_onto (suc k) 10 false v more ≡ ds
onto_large k v more h ds e =
    ap (λ (b : Bool). if b then digit_glyph false (v % 10) ∷ more else digits_onto k 10 false (v / 10) (digit_glyph false (v % 10) ∷ more))
    (ne_eqb (v / 10) 0 (λ z. absurd (omega arith)))
    ∙ e

-- k + 1 digits at most, in front of others
onto_decimal : (k v : ℕ) (more : Bytes) → v < 10 ^ suc k → (b : Bool) → ltb v 10 ≡ b → digits_onto (suc k) 10 false v more ≡ decimal v ++ more
onto_decimal k v more h true e = onto_small k v more (ltb-true v 10 e)
onto_decimal zero v more h false e = let l : 10 ≤ v = ltb-false v 10 e in absurd (omega arith)
onto_decimal (suc k) v more h false e =
    let l : 10 ≤ v = ltb-false v 10 e in
    onto_large (suc k) v more l _
    (onto_decimal k (v / 10) (digit_glyph false (v % 10) ∷ more) (omega (arith, pow-suc 10 (suc k))) (ltb (v / 10) 10) refl
    ∙ ap (λ (g : ℕ). decimal (v / 10) ++ (g ∷ more)) (glyph (v % 10) (omega arith))
    ∙ sym (ap (λ (ds : Bytes). ds ++ more) (decimal_large v l) ∙ append_assoc (decimal (v / 10)) ((48 + v % 10) ∷ []) more))

pub decimal_known : (v : ℕ) → v < 18446744073709551616 → library.decimal v ≡ decimal v
unfolding library.digits
decimal_known v h = onto_decimal 63 v [] (omega arith) (ltb v 10) refl ∙ append-nil (decimal v)
