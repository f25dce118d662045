-- The n-th unseen mark, as the table of nodes has them.
-- Assumes nothing.
use Rattle.std.specs.Prelude.{ℕ, Bool, Option, Some, None, eqb}
use Rattle.model.specs.Lists.{Unseen as Mark}
use Rattle.model.specs.Sizes.{Bytes, node_count}
use Rattle.storage_bytes.specs.Words.{word_at}
use Rattle.storage.specs.Tables.{row_of_node, nodes_part}
use Rattle.lists.specs.declared.unseen.Unseen.{Unseen}
use Rattle.lists.specs.Picked.{pick_from}

-- a printed mark
abbrev pub told_unseen : Mark → Option Unseen
told_unseen u = Some (record { node = record { 0 = u.node }; index = record { 0 = u.index } })

-- node k has no mark
abbrev pub unmarked : Bytes → ℕ → Bool
unmarked t k = eqb (row_of_node t k).unseen 0

abbrev pub mark_at : Bytes → ℕ → Option Unseen
mark_at t k = told_unseen (record { node = k; index = (row_of_node t k).unseen })

unfoldable pub mark_in : Bytes → ℕ → Option Unseen
unfolding word_at pick_from
mark_in t n = pick_from (unmarked t) (mark_at t) None 0 node_count n

unfoldable pub unseen_answer : Bytes → ℕ → Option Unseen
unfolding mark_in
unseen_answer h n = mark_in (nodes_part h) n
