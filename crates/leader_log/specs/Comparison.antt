-- Two kept views of one leader compared, on the bytes of a history, in the order of the code.
-- Assumes nothing.
use Rattle.std.specs.Prelude.{ℕ, Bool, false, cond, ltb, Option, Some, None}
use Rattle.model.specs.Sizes.{Bytes}
use Rattle.storage.specs.Tables.{PrefixRow, LeaderLogRow, prefix_row, prefixes_part}
use Rattle.log_prefix.specs.Prefix.{slice_of}
use Rattle.log_prefix.specs.Comparison.{same_from}
use Rattle.units.specs.declared.LogPrefixWitness.{LogPrefixWitness}

abbrev pub rows_of : Bytes → ℕ → PrefixRow
rows_of h = prefix_row (prefixes_part h)

-- both parts are there, and are the same or not
abbrev pub slices_same : (ℕ → PrefixRow) → Option LogPrefixWitness → Option LogPrefixWitness → Option Bool
slices_same row (Some p) (Some q) = Some (same_from row p.0 p.0 q.0)
slices_same row (Some p) None = None
slices_same row None s = None

-- whether the newer view extends the older one, where no gap leaves it open
unfoldable pub extends_in : Bytes → LeaderLogRow → LeaderLogRow → Option Bool
unfolding slice_of same_from
extends_in h older newer =
    cond (ltb newer.last older.last) (Some false)
    (slices_same (rows_of h) (slice_of (rows_of h) older.front older.last) (slice_of (rows_of h) newer.front older.last))
