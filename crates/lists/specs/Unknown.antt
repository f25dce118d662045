-- The n-th unknown index, as the table of commit terms has them.
-- Assumes nothing.
use Rattle.std.specs.Prelude.{ℕ, ◌+◌, Bool, false, Option, Some, None, cond, not, leb, eqb}
use Rattle.model.specs.Sizes.{Bytes}
use Rattle.storage_bytes.specs.Words.{word_at}
use Rattle.storage.specs.Tables.{term_row, terms_part}
use Rattle.units.specs.declared.LogIndex.{LogIndex}
use Rattle.lists.specs.Picked.{pick_from}
use Rattle.storage.specs.Values.{committed_end}
use Rattle.storage.specs.Head.{terms_held}

-- the index after i has a term, of the count that are stored
unfoldable pub is_known : Bytes → ℕ → ℕ → Bool
unfolding word_at
is_known t count i = cond (leb count i) false (not (eqb (term_row t i) 0))

-- a printed index
abbrev pub index_of : ℕ → Option LogIndex
index_of i = Some (record { 0 = i })

unfoldable pub index_in : Bytes → ℕ → ℕ → ℕ → Option LogIndex
unfolding is_known pick_from
index_in t count m n = pick_from (is_known t count) (λ i. index_of (i + 1)) None 0 m n

unfoldable pub unknown_answer : Bytes → ℕ → Option LogIndex
unfolding index_in committed_end word_at
unknown_answer h n = index_in (terms_part h) (terms_held h) (committed_end h) n
