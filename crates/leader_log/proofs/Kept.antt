-- The row that the search finds is what the model keeps for the pair, and where it finds none, nothing is kept.
-- Assumes nothing.
use Prim.Native.Nat.{ℕ, zero, suc, ◌+◌, ◌-◌}
use native.Mathlib.Omega.{arith}
use mathlib.Core.Path.{◌≡◌, refl, ap, sym, ◌∙◌}
use mathlib.Core.Bool.{Bool, true, false, cond, ◌||◌}
use mathlib.Core.List.{List, [], ◌∷◌, ◌++◌, map}
use mathlib.Core.Option as option
use lib.ListN.{set}
use Rattle.std.specs.Prelude.{Some, None}
use Rattle.model.specs.Entry.{Prefix}
use Rattle.model.specs.History.{LeaderLog}
use Rattle.model.specs.LeaderLog.{kept_of, kept_with}
use Rattle.model.proofs.Tests.{cond_true, cond_false}
use Rattle.storage_bytes.specs.Lists.{tabulate, some}
use Rattle.storage.specs.Tables.{LeaderLogRow}
use Rattle.storage.specs.Decode.{leader_log_in}
use Rattle.storage.specs.Rules.{is_pair, has_pair}
use Rattle.leader_log.specs.Observation.{place_from}
use Rattle.leader_log.proofs.Places.{found}

module _ (row : ℕ → LeaderLogRow) (ps : List Prefix) (n t last : ℕ) (front : Prefix) where
  -- the logs of the m rows from k on
  abbrev logs : ℕ → ℕ → List LeaderLog
  logs k m = map (leader_log_in ps) (tabulate row k m)

  -- a view of the pair
  abbrev view : LeaderLog
  view = record { node = n; term = t; front = front; last = last }

  pub record Found (k m j : ℕ) : Type 0 where
    pub kept : kept_of (logs k m) n t ≡ option.some (leader_log_in ps (row j))
    pub after : kept_with (logs k m) view ≡ set (logs k m) (j - k) view

  here : (k m j : ℕ) → is_pair n t (row k) ≡ true → k ≡ j → Found k (suc m) j
  unfolding tabulate kept_of kept_with is_pair
  here k m j p e =
      let z : j - k ≡ 0 = omega (arith, e) in
      record {
        kept = cond_true _ _ _ p ∙ ap (λ (i : ℕ). option.some (leader_log_in ps (row i))) e;
        after = cond_true _ _ _ p ∙ ap (λ (i : ℕ). set (logs k (suc m)) i view) (sym z);
      }

  later : (k m j : ℕ) → is_pair n t (row k) ≡ false → j - k ≡ suc (j - (k + 1)) → Found (k + 1) m j → Found k (suc m) j
  unfolding tabulate kept_of kept_with is_pair
  later k m j p z f =
      record {
        kept = cond_false _ _ _ p ∙ f.kept;
        after =
            cond_false _ _ _ p
            ∙ ap (λ (ls : List LeaderLog). leader_log_in ps (row k) ∷ ls) f.after
            ∙ ap (λ (i : ℕ). set (logs k (suc m)) i view) (sym z);
      }

  pub kept_found : (k m j : ℕ) → place_from row n t k m ≡ Some j → Found k m j
  unfolding place_from
  kept_found k zero j e = absurd (let z : ◌≡◌ {A = ℕ} 0 1 = cc in omega arith)
  kept_found k (suc m) j e = by (is_pair n t (row k)) refl e (λ q. kept_found (k + 1) m j q)
    where
      by : (b : Bool) → is_pair n t (row k) ≡ b → cond b (Some k) (place_from row n t (k + 1) m) ≡ Some j
          → (place_from row n t (k + 1) m ≡ Some j → Found (k + 1) m j) → Found k (suc m) j
      by true p q ih = here k m j p (cc)
      by false p q ih =
          let f = found row n t (k + 1) m j q in
          later k m j p (let a = f.is in omega arith) (ih q)

  -- nothing is kept for the pair
  pub record Missing (k m : ℕ) : Type 0 where
    pub none : has_pair n t (tabulate row k m) ≡ false
    pub kept : kept_of (logs k m) n t ≡ option.none
    pub after : kept_with (logs k m) view ≡ logs k m ++ (view ∷ [])

  not_here : (k m : ℕ) → is_pair n t (row k) ≡ false → Missing (k + 1) m → Missing k (suc m)
  unfolding tabulate some kept_of kept_with is_pair
  not_here k m p f =
      record {
        none = ap (λ (b : Bool). b || has_pair n t (tabulate row (k + 1) m)) p ∙ f.none;
        kept = cond_false _ _ _ p ∙ f.kept;
        after = cond_false _ _ _ p ∙ ap (λ (ls : List LeaderLog). leader_log_in ps (row k) ∷ ls) f.after;
      }

  nowhere : (k : ℕ) → Missing k 0
  unfolding tabulate some kept_of kept_with
  nowhere k = record { none = refl; kept = refl; after = refl }

  pub kept_missing : (k m : ℕ) → place_from row n t k m ≡ None → Missing k m
  unfolding place_from
  kept_missing k zero e = nowhere k
  kept_missing k (suc m) e = by (is_pair n t (row k)) refl e (λ q. kept_missing (k + 1) m q)
    where
      by : (b : Bool) → is_pair n t (row k) ≡ b → cond b (Some k) (place_from row n t (k + 1) m) ≡ None
          → (place_from row n t (k + 1) m ≡ None → Missing (k + 1) m) → Missing k (suc m)
      by true p q ih = absurd (let z : ◌≡◌ {A = ℕ} 0 1 = cc in omega arith)
      by false p q ih = not_here k m p (ih q)
