-- Comparison of two stored prefixes by term and content at each index, from the last entry back, in the loop's order.
-- Assumes nothing.
use Rattle.std.specs.Prelude.{ℕ, zero, suc, ◌-◌, Bool, true, false, cond, ◌&&◌, ◌||◌, eqb}
use Rattle.storage.specs.Tables.{PrefixRow}
use Rattle.storage_bytes.specs.Words.{same_bytes}

-- the last entries are the same
unfoldable pub same_entry : PrefixRow → PrefixRow → Bool
unfolding same_bytes
same_entry r s = eqb r.term s.term && (eqb r.mark s.mark && (eqb r.size s.size && same_bytes r.content s.content))

-- the prefixes of two numbers are the same: the same stored one, or the same last entry after the same prefix
unfoldable pub same_from : (ℕ → PrefixRow) → ℕ → ℕ → ℕ → Bool
unfolding same_entry
same_from row zero p q = eqb p q
same_from row (suc fuel) p q =
    cond (eqb p q) true
    (cond (eqb p 0 || eqb q 0) false
    (cond (same_entry (row (p - 1)) (row (q - 1))) (same_from row fuel (row (p - 1)).parent (row (q - 1)).parent) false))
