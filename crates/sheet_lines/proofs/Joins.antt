-- Laws of a line's end: its last numbers behind the part before them, put one after another, are one line.
-- Assumes nothing.
use Prim.Native.Nat.{ℕ, ◌+◌}
use native.Mathlib.Omega.{arith}
use mathlib.Core.Path.{sym}
use mathlib.Core.List.{◌++◌, append_assoc}
use Rattle.model.specs.Sizes.{Bytes}
use Rattle.sheet_lines.specs.Filled.{Filled}
use Rattle.sheet_lines.specs.declared.decimal.Sheet.{Sheet}
use Rattle.sheet_lines.proofs.PutLaws.{filled_then, filled_as, line_join}
use Rattle.sheet_lines.specs.Lines.{field, line_end}

module _ {m n : ℕ} {s s' s'' : Sheet} {vs : Bytes} where
  -- the last number
  pub last_then : (v : ℕ) → Filled m s vs s' → Filled n s' (field v ++ line_end) s'' → Filled (m + n) s (vs ++ field v ++ line_end) s''
  last_then v p q = filled_as (filled_then p q) _ (sym (append_assoc vs (field v) line_end)) (omega arith)

  -- the last two
  pub pair_then : (v w : ℕ) → Filled m s vs s' → Filled n s' (field v ++ field w ++ line_end) s''
      → Filled (m + n) s (vs ++ field v ++ field w ++ line_end) s''
  pair_then v w p q = filled_as (filled_then p q) _ (line_join vs (field v) (field w) line_end) (omega arith)
