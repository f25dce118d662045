-- Laws of putting bytes into the output: one thing after another, more room.
-- Assumes nothing.
use Prim.Native.Nat.{ℕ, ◌+◌, ◌≤◌}
use native.Mathlib.Omega.{arith}
use mathlib.Core.Path.{◌≡◌, refl, ap, sym, ◌∙◌}
use mathlib.Core.List.{[], ◌++◌, append_assoc}
use lib.ListN.{length, take, drop, length-append}
use lib.Seq.{take-append-le, take_all}
use Rattle.model.specs.Sizes.{Bytes}
use Rattle.storage_bytes.specs.Words.{put_bytes}
use Rattle.storage_bytes.proofs.PartLaws.{part_back}
use Rattle.storage_bytes.proofs.WordLaws.{put_join}
use Rattle.sheet_lines.specs.Decimal.{Put}
use Rattle.sheet_lines.specs.Filled.{Filled}
use Rattle.sheet_lines.specs.declared.decimal.Sheet.{Sheet}

-- two things side by side are one
pub put_then : {m n o r e : ℕ} {t t' t'' vs ws : Bytes} → Put m t o vs r t' → Put n t' r ws e t'' → Put (m + n) t o (vs ++ ws) e t''
put_then {m} {n} {o} {r} {e} {t} {t'} {t''} {vs} {ws} p q =
    let l = length-append vs ws in
    record {
      next = omega (arith, l, p.next, q.next);
      bytes = q.bytes ∙ (λ i. put_bytes (p.bytes i) (p.next i) ws) ∙ put_join t o vs ws;
      within = omega (arith, l, p.within, q.within);
    }

-- the same bytes by another name, and more room
pub put_as : {m n o r : ℕ} {t t' vs : Bytes} → Put m t o vs r t' → (ws : Bytes) → vs ≡ ws → m ≤ n → Put n t o ws r t'
put_as {m} {n} {o} {r} {t} {t'} {vs} p ws e h =
    record {
      next = p.next ∙ ap (λ (x : Bytes). o + length x) e;
      bytes = p.bytes ∙ ap (put_bytes t o) e;
      within = let l = ap length e in omega (arith, p.within);
    }

-- a line's last three things, put together first
pub line_join : (x v w e : Bytes) → x ++ (v ++ w ++ e) ≡ x ++ v ++ w ++ e
line_join x v w e = simp append_assoc

-- ---- a sheet

pub filled_none : (s : Sheet) → Filled 0 s [] s
unfolding put_bytes
filled_none s = record { put = record { next = omega arith; bytes = refl; within = omega arith }; kept = refl; lent = refl }

pub filled_then : {m n : ℕ} {s s' s'' : Sheet} {vs ws : Bytes} → Filled m s vs s' → Filled n s' ws s'' → Filled (m + n) s (vs ++ ws) s''
filled_then p q = record { put = put_then p.put q.put; kept = q.kept ∙ p.kept; lent = q.lent ∙ p.lent }

pub filled_as : {m n : ℕ} {s s' : Sheet} {vs : Bytes} → Filled m s vs s' → (ws : Bytes) → vs ≡ ws → m ≤ n → Filled n s ws s'
filled_as p ws e h = record { put = put_as p.put ws e h; kept = p.kept; lent = p.lent }

-- what a sheet that was empty has
pub sheet_holds : {m : ℕ} {s s' : Sheet} {vs : Bytes} → Filled m s vs s' → s.end ≡ 0 → m ≤ length s.out.now → take s'.end s'.out.now ≡ vs
sheet_holds {m} {s} {s'} {vs} f z room =
    (λ i. take (next i) (is i)) ∙ take-append-le (length vs) vs _ (omega arith) ∙ take_all (length vs) vs (omega arith)
  where
    next : s'.end ≡ length vs
    next = omega (arith, f.put.next, z)

    is : s'.out.now ≡ vs ++ drop (0 + length vs) s.out.now
    is =
        f.put.bytes
        ∙ ap (λ (o : ℕ). put_bytes s.out.now o vs) z
        ∙ sym (part_back s.out.now 0 vs (omega (arith, f.put.within)))
