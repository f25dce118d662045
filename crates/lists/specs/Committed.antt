-- The committed prefix and its owner, as the bytes of a history have it; the owner is 0 where there is none. (The length alone:
-- `committed_end` of `storage`.)
-- Assumes nothing.
use Rattle.std.specs.Prelude.{ℕ, Option, Some, None, cond, eqb}
use Rattle.model.specs.Sizes.{Bytes}
use Rattle.storage_bytes.specs.Words.{word_at}
use Rattle.storage.specs.Values.{committed_end}
use Rattle.storage.specs.Head.{owner_of}
use Rattle.lists.specs.declared.committed.Committed.{Committed}

unfoldable pub owner_in : Bytes → ℕ
unfolding word_at committed_end
owner_in h = cond (eqb (committed_end h) 0) 0 (owner_of h)

-- the length and the owner, or that the committed prefix is empty
unfoldable pub committed_answer : Bytes → Option Committed
unfolding word_at committed_end
committed_answer h =
    cond (eqb (committed_end h) 0) None (Some (record { length = record { 0 = committed_end h }; owner = record { 0 = owner_of h } }))
