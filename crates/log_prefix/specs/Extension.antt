-- An extension of a stored prefix by an entry, found or made: what `extend` answers and writes; and the entries of a front written
-- one after the other.
-- Assumes nothing.
use Rattle.std.specs.Prelude.{ℕ, ◌+◌, ◌-◌, ◌≤◌, ◌<◌, ◌≡◌, cond, List, [], ◌∷◌, ◌++◌, eqb, length, replicate}
use Rattle.model.specs.Entry.{Entry}
use Rattle.model.specs.Sizes.{Bytes, content_limit, prefix_limit}
use Rattle.storage.specs.Tables.{prefix_row, prefixes_part}
use Rattle.storage.specs.Decode.{mark_of}
use Rattle.storage.specs.Writes.{prefix_appended}
use Rattle.storage.specs.Values.{number_index}
use Rattle.storage.specs.Head.{prefixes_held}
use Rattle.log_prefix.specs.declared.prefix.Extended.{Extended}
use Rattle.record_entries.specs.declared.walk.ShownEntry.{ShownEntry}
use Rattle.log_prefix.specs.Table.{entry_value}
use Rattle.log_prefix.specs.Prefix.{witness, row_of, find}

-- an extension that is stored has its number, one that is not gets the next
abbrev pub or_next : ℕ → ℕ → ℕ
or_next k count = cond (eqb k 0) (count + 1) k

-- the number of the stored extension of p by e in a history that holds n prefixes, or 0
unfoldable pub extension_in : Bytes → ℕ → ℕ → Entry → ℕ
unfolding find
extension_in h n p e = find (prefix_row (prefixes_part h)) n (row_of p 0 e)

-- the content as it is stored, in 32 bytes
abbrev pub stored_content : Entry → Bytes
stored_content e = e.content ++ replicate (content_limit - length e.content) 0

-- the history with the extension of p by e to index i as its next row
abbrev pub appended : Bytes → ℕ → ℕ → Entry → Bytes
appended h p i e = prefix_appended h p i e.term (mark_of e) (length e.content) (stored_content e)

-- found or made: the history, how many prefixes it holds, and the number of the extension
unfoldable pub extended_bytes : Bytes → ℕ → ℕ → ℕ → Entry → Bytes
unfolding extension_in prefix_appended
extended_bytes h n p i e = cond (eqb (extension_in h n p e) 0) (appended h p i e) h

unfoldable pub extended_count : Bytes → ℕ → ℕ → Entry → ℕ
unfolding extension_in
extended_count h n p e = cond (eqb (extension_in h n p e) 0) (n + 1) n

unfoldable pub extended_number : Bytes → ℕ → ℕ → Entry → ℕ
unfolding extension_in
extended_number h n p e = or_next (extension_in h n p e) n

-- whether it was found or made: one that is made is the next row
abbrev pub extended : Bytes → ℕ → ℕ → Entry → Extended
extended h n p e = cond (eqb (extension_in h n p e) 0) (Extended.Made (witness (n + 1))) (Extended.Found (witness (extension_in h n p e)))

-- the index after the last of the prefix of number p
abbrev pub next_index : Bytes → ℕ → ℕ
next_index h p = number_index (prefixes_part h) p + 1

-- `extend` takes the next index only: the extension, and the history after it; any other entry leaves every byte
unfoldable pub extension : Bytes → ℕ → ℕ → ShownEntry → Extended
unfolding extension_in
extension h n p e = cond (eqb e.index.0 (next_index h p)) (extended h n p (entry_value e)) Extended.NotNext

unfoldable pub extension_bytes : Bytes → ℕ → ℕ → ShownEntry → Bytes
unfolding extended_bytes
extension_bytes h n p e = cond (eqb e.index.0 (next_index h p)) (extended_bytes h n p e.index.0 (entry_value e)) h

-- the entries of a front, from index i on, one after the other
unfoldable pub written_bytes : Bytes → ℕ → ℕ → ℕ → List Entry → Bytes
unfolding extended_bytes extended_count extended_number
written_bytes h n p i [] = h
written_bytes h n p i (e ∷ es) = written_bytes (extended_bytes h n p i e) (extended_count h n p e) (extended_number h n p e) (i + 1) es

unfoldable pub written_count : Bytes → ℕ → ℕ → ℕ → List Entry → ℕ
unfolding extended_bytes extended_count extended_number
written_count h n p i [] = n
written_count h n p i (e ∷ es) = written_count (extended_bytes h n p i e) (extended_count h n p e) (extended_number h n p e) (i + 1) es

unfoldable pub written_number : Bytes → ℕ → ℕ → ℕ → List Entry → ℕ
unfolding extended_bytes extended_count extended_number
written_number h n p i [] = p
written_number h n p i (e ∷ es) = written_number (extended_bytes h n p i e) (extended_count h n p e) (extended_number h n p e) (i + 1) es

-- what making the next row asks: a history that holds n prefixes, with room for one more, and an entry as it is read
pub record Making (h : Bytes) (n : ℕ) (e : ShownEntry) : Type 0 where
  pub count : n ≡ prefixes_held h
  pub room : n < prefix_limit
  pub padded : e.content ≡ stored_content (entry_value e)

-- what `extend` asks: a history that holds n prefixes, with room for the extension, and an entry as it is read
pub record Extending (h : Bytes) (n p : ℕ) (e : ShownEntry) : Type 0 where
  pub count : n ≡ prefixes_held h
  pub number : p ≤ n
  pub fits : n ≤ prefix_limit
  pub room : e.index.0 ≡ next_index h p → extended_count h n p (entry_value e) ≤ prefix_limit
  pub short : e.length ≤ content_limit
  pub padded : e.content ≡ stored_content (entry_value e)
