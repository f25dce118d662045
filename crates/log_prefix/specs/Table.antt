-- The table of prefixes as the functions over prefixes are lent it: its region, and how many rows it holds.
-- Assumes nothing.
use Rattle.std.specs.Prelude.{ℕ, ◌≤◌, ◌≡◌, true, [], length}
use Rattle.model.specs.Entry.{Entry}
use Rattle.model.specs.Sizes.{Bytes, prefix_limit}
use Rattle.record_entries.specs.declared.walk.ShownEntry.{ShownEntry}
use Rattle.storage_bytes.specs.Words.{bytes_at}
use Rattle.storage_bytes.specs.Layout.{prefixes_length}
use Rattle.storage.specs.Tables.{rows_of_prefixes}
use Rattle.storage.specs.Rules.{prefixes_right_after}

-- n rows that keep the storage rules
pub record Table (t : Bytes) (n : ℕ) : Type 0 where
  pub long : length t ≡ prefixes_length
  pub fits : n ≤ prefix_limit
  pub right : prefixes_right_after [] (rows_of_prefixes t n) ≡ true

-- the entry that a shown one holds
abbrev pub entry_value : ShownEntry → Entry
entry_value e = record { term = e.term.0; configuration = e.configuration; content = bytes_at e.content 0 e.length }
