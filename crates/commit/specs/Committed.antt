-- The committed prefix on the bytes of a history, in the order of the code: how two prefixes compare, and what is kept.
-- Assumes nothing.
use Rattle.std.specs.Prelude.{ℕ, ◌+◌, ◌*◌, Bool, false, Option, Some, None}
use Rattle.model.specs.Sizes.{Bytes}
use Rattle.storage_bytes.specs.Words.{put_bytes}
use Rattle.storage_bytes.specs.Layout.{node_width, nodes_start}
use Rattle.storage.specs.Tables.{PrefixRow, NodeRow, row_of_node, prefix_row, nodes_part, prefixes_part}
use Rattle.storage.specs.Writes.{node_bytes, committed_set}
use Rattle.log_prefix.specs.Prefix.{slice_of}
use Rattle.log_prefix.specs.Comparison.{same_from}
use Rattle.units.specs.declared.LogPrefixWitness.{LogPrefixWitness}

-- ---- judged: nothing is written

abbrev pub rows_of : Bytes → ℕ → PrefixRow
rows_of h = prefix_row (prefixes_part h)

abbrev pub node_of : Bytes → ℕ → NodeRow
node_of h n = row_of_node (nodes_part h) n

-- both parts are there and the same
abbrev pub same_slices : (ℕ → PrefixRow) → Option LogPrefixWitness → Option LogPrefixWitness → Bool
same_slices row (Some p) (Some q) = same_from row p.0 p.0 q.0
same_slices row (Some p) None = false
same_slices row None (Some q) = false
same_slices row None None = false

unfoldable pub agree_in : Bytes → ℕ → ℕ → ℕ → Bool
unfolding slice_of same_from
agree_in h a b i = same_slices (rows_of h) (slice_of (rows_of h) a i) (slice_of (rows_of h) b i)

-- ---- written

-- the node's unseen mark
unfoldable pub unseen_set : Bytes → ℕ → ℕ → Bytes
unfolding put_bytes node_bytes
unseen_set h n m = put_bytes h (nodes_start + n * node_width) (node_bytes (record { front = (node_of h n).front; last = (node_of h n).last; unseen = m }))

-- the prefix of number p kept, with its owner; the mark is cleared
unfoldable pub keep_bytes : Bytes → ℕ → ℕ → Bytes
unfolding unseen_set committed_set
keep_bytes h n p = committed_set (unseen_set h n 0) p n
