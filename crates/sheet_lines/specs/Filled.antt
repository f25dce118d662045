-- What a function that puts bytes into a sheet promises.
-- Assumes nothing.
use Rattle.std.specs.Prelude.{ℕ, ◌≡◌, length}
use Rattle.model.specs.Sizes.{Bytes}
use Rattle.sheet_lines.specs.Decimal.{Put}
use Rattle.sheet_lines.specs.declared.decimal.Sheet.{Sheet}

-- the bytes vs, no more than `most`, were put into s where its next ones go: s' is the sheet after them, of the same lent bytes
pub record Filled (most : ℕ) (s : Sheet) (vs : Bytes) (s' : Sheet) : Type 0 where
  pub put : Put most s.out.now s.end vs s'.end s'.out.now
  pub kept : length s'.out.now ≡ length s.out.now
  pub lent : s'.out.ghost_name ≡ s.out.ghost_name
