-- The bytes of a fresh history, and what making one answers. All zeros is the fresh history: every count is 0, every node's
-- front and the committed prefix are the empty prefix.
-- Assumes nothing.
use Rattle.std.specs.Prelude.{ℕ, ◌≡◌, cond, replicate, Result, Ok, Err}
use Rattle.model.specs.Sizes.{Bytes}
use Rattle.storage_bytes.specs.Layout.{history_length}
use Rattle.storage.specs.Rules.{right_length}
use Rattle.storage.specs.declared.fresh.WrongLength.{WrongLength}

unfoldable pub zeros : ℕ → Bytes
zeros n = replicate n 0

-- the fresh history
abbrev pub fresh_history : Bytes
fresh_history = zeros history_length

-- document 01's number for each answer: 0 stands for accepted
abbrev pub made_number : Result Unit WrongLength → ℕ
made_number (Ok _) = 0
made_number (Err _) = 12

-- what making a fresh history in h answers and leaves
pub record FreshMade (h : Bytes) (answer : Result Unit WrongLength) (after : Bytes) : Type 0 where
  pub answers : answer ≡ cond (right_length h) (Ok tt) (Err (record {}))
  pub number : made_number answer ≡ cond (right_length h) 0 12
  pub leaves : after ≡ cond (right_length h) fresh_history h
