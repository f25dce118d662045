-- The search for a pair's row: its turns, each from what was left before, and what it finds.
-- Assumes nothing.
use Prim.Native.Nat.{ℕ, zero, suc, ◌+◌, ◌-◌, ◌≤◌, ◌<◌}
use native.Mathlib.Omega.{arith}
use mathlib.Core.Path.{◌≡◌, refl, ap, sym, ◌∙◌}
use mathlib.Core.Bool.{Bool, true, false, cond}
use Rattle.std.specs.Prelude.{Option, Some, None}
use Rattle.model.proofs.Tests.{cond_true, cond_false}
use Rattle.storage.specs.Tables.{LeaderLogRow}
use Rattle.storage.specs.Rules.{is_pair}
use Rattle.leader_log.specs.Observation.{place_from}

module _ (row : ℕ → LeaderLogRow) (n t : ℕ) where
  -- what is left of m rows, from row k on
  abbrev left : ℕ → ℕ → Option ℕ
  left m k = place_from row n t k (m - k)

  turn : (k m : ℕ) → k < m → left m k ≡ place_from row n t k (suc (m - (k + 1)))
  turn k m h = ap (place_from row n t k) (let e : m - k ≡ suc (m - (k + 1)) = omega arith in e)

  pub place_stop : {r : Option ℕ} (k m : ℕ) → r ≡ left m k → k < m → is_pair n t (row k) ≡ true → r ≡ Some k
  unfolding place_from
  place_stop k m inv h e = inv ∙ turn k m h ∙ cond_true (is_pair n t (row k)) _ _ e

  pub place_next : {r : Option ℕ} (k m : ℕ) → r ≡ left m k → k < m → is_pair n t (row k) ≡ false → r ≡ left m (k + 1)
  unfolding place_from
  place_next k m inv h e = inv ∙ turn k m h ∙ cond_false (is_pair n t (row k)) _ _ e

  pub place_none : {r : Option ℕ} (k m : ℕ) → r ≡ left m k → m ≤ k → r ≡ None
  unfolding place_from
  place_none k m inv h = inv ∙ ap (place_from row n t k) (let e : m - k ≡ 0 = omega arith in e)

  -- ---- what is found

  -- row j, of the m from k on, is of the pair
  pub record Found (k m j : ℕ) : Type 0 where
    pub offset : ℕ
    pub is : j ≡ k + offset
    pub before : offset < m
    pub pair : is_pair n t (row j) ≡ true

  pub found : (k m j : ℕ) → place_from row n t k m ≡ Some j → Found k m j
  unfolding place_from
  found k zero j e = absurd (let z : ◌≡◌ {A = ℕ} 0 1 = cc in omega arith)
  found k (suc m) j e = by (is_pair n t (row k)) refl e (λ q. found (k + 1) m j q)
    where
      by : (b : Bool) → is_pair n t (row k) ≡ b → cond b (Some k) (place_from row n t (k + 1) m) ≡ Some j
          → (place_from row n t (k + 1) m ≡ Some j → Found (k + 1) m j) → Found k (suc m) j
      by true p q ih =
          let s : k ≡ j = cc in
          record {
            offset = 0;
            is = omega (arith, s);
            before = omega arith;
            pair = ap (λ (i : ℕ). is_pair n t (row i)) (sym s) ∙ p;
          }
      by false p q ih =
          let f = ih q in
          record {
            offset = suc f.offset;
            is = omega (arith, f.is);
            before = omega (arith, f.before);
            pair = f.pair;
          }
