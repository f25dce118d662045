-- What a block of the input brings about: the history after it, the lines that are written, and where its rest begins.
-- Assumes nothing.
use Rattle.std.specs.Prelude.{ℕ, ◌-◌, ◌≤◌, ◌≡◌, List, ◌++◌, length, take, drop, Option}
use Rattle.std.specs.Io.KnownBytes.{Appends}
use Rattle.model.specs.Sizes.{Bytes}
use Rattle.sheet_text.specs.Pieces.{pieces}
use Rattle.sheet_text.specs.Sheet.{record_lines, bytes_through}

-- Of the pieces of a block, those before place `from` were handed to the bytes h as the records `first` to `number` - 1, and their
-- lines appended to what the writer holds, where that is known. The bytes of the history after them are h'.
pub record BlockTaken (h block : Bytes) (first : ℕ) (old new : Option (List ℕ)) (number from : ℕ) (h' : Bytes) : Type 0 where
  pub lines : Appends old new (record_lines first h (take (number - first) (pieces block)))
  pub history : h' ≡ bytes_through h (take (number - first) (pieces block))
  pub rest : pieces (drop from block) ≡ drop (number - first) (pieces block)
  -- whatever bytes follow the block, these pieces come first, and then those of its rest and of what follows
  pub joined : (more : Bytes) → pieces (block ++ more) ≡ take (number - first) (pieces block) ++ pieces (drop from block ++ more)
  pub long : length (take (number - first) (pieces block)) ≡ number - first
  pub on : first ≤ number
  pub within : from ≤ length block
