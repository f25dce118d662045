-- What a search among the commit terms answers.
-- Assumes nothing.
use Rattle.std.specs.Prelude.{ℕ, cond, eqb, Option, Some, None}
use Rattle.units.specs.declared.LogIndex.{LogIndex}

-- by the index that is found; 0 is none
unfoldable pub found_index : ℕ → Option LogIndex
found_index i = cond (eqb i 0) None (Some (record { 0 = i }))
