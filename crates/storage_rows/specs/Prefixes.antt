-- What the writes of a prefix's row leave.
-- Assumes nothing.
use Rattle.std.specs.Prelude.{ℕ, List}
use Rattle.storage_rows.specs.declared.prefixes.PrefixRow.{PrefixRow}
use Rattle.storage.specs.Writes.{prefix_bytes, prefix_appended}

-- the bytes of the row
abbrev pub row_bytes : PrefixRow → List ℕ
row_bytes x = prefix_bytes x.parent.0 x.index.0 x.term.0 x.mark x.size x.content

-- the history with the row behind the others
abbrev pub row_appended : List ℕ → PrefixRow → List ℕ
row_appended h x = prefix_appended h x.parent.0 x.index.0 x.term.0 x.mark x.size x.content
