-- The entries and rows of a record by their bits: what stands at a bit, with no faults. Where the record is readable, this
-- is what the model reads.
-- Assumes nothing.
use Rattle.std.specs.Prelude.{ℕ, zero, suc, ◌+◌, ◌*◌, ◌^◌, ◌≤◌, ◌≡◌, Bool, false, cond, List, [], ◌∷◌, eqb}
use Rattle.model.specs.Sizes.{Bytes}
use Rattle.model.specs.Record.{Shown, Configuration, Row}
use Rattle.model.specs.Reading.{field_at, bytes_at, got, Reader, many, shown, row}

-- an entry's key and a row's: what rises from one to the next
abbrev pub index_of : Shown → ℕ
index_of x = x.index

abbrev pub node_of : Row → ℕ
node_of x = x.node

-- ---- lists of items that follow one another

-- n items from bit k on: the item at a bit is `at`, and the bit after it is `next`
unfoldable pub items_at : {A : Type 0} → (Bytes → ℕ → A) → (Bytes → ℕ → ℕ) → Bytes → ℕ → ℕ → List A
items_at at next s k zero = []
items_at at next s k (suc n) = at s k ∷ items_at at next s (next s k) n

-- the bit after them
unfoldable pub end_at : (Bytes → ℕ → ℕ) → Bytes → ℕ → ℕ → ℕ
end_at next s k zero = k
end_at next s k (suc n) = end_at next s (next s k) n

-- ---- entries: index, term, mark, content length, content

-- a view's bytes, and whether each entry shows its mark there, as in kind 9
pub record ViewBits : Type 0 where
  pub bytes : Bytes
  pub marked : Bool

abbrev pub bits_of : Bytes → Bool → ViewBits
bits_of s m = record { bytes = s; marked = m }

-- a record of kind 9
abbrev pub is_marked : Bytes → Bool
is_marked s = eqb (field_at s 0 4) 9

-- a record as a view of its kind
abbrev pub view_bits : Bytes → ViewBits
view_bits s = bits_of s (is_marked s)

-- the bits of a mark
abbrev pub mark_width : Bool → ℕ
mark_width m = cond m 1 0

-- where an entry's content length stands in it, and where its content does
abbrev pub length_place : Bool → ℕ
length_place m = 42 + mark_width m

abbrev pub content_place : Bool → ℕ
content_place m = 48 + mark_width m

abbrev pub index_at : ViewBits → ℕ → ℕ
index_at v k = field_at v.bytes k 10

abbrev pub term_at : ViewBits → ℕ → ℕ
term_at v k = field_at v.bytes (k + 10) 32

abbrev pub mark_at : ViewBits → ℕ → Bool
mark_at v k = cond v.marked (eqb (field_at v.bytes (k + 42) 1) 1) false

abbrev pub length_at : ViewBits → ℕ → ℕ
length_at v k = field_at v.bytes (k + length_place v.marked) 6

abbrev pub content_at : ViewBits → ℕ → List ℕ
content_at v k = bytes_at v.bytes (k + content_place v.marked) (length_at v k)

-- the bit after the entry
abbrev pub next_at : ViewBits → ℕ → ℕ
next_at v k = k + content_place v.marked + 8 * length_at v k

abbrev pub shown_at : ViewBits → ℕ → Shown
shown_at v k =
    record { index = index_at v k; entry = record { term = term_at v k; configuration = mark_at v k; content = content_at v k } }

-- the entry and the bit after it, of any bytes
abbrev pub shown_in : Bool → Bytes → ℕ → Shown
shown_in m s k = shown_at (bits_of s m) k

abbrev pub next_in : Bool → Bytes → ℕ → ℕ
next_in m s k = next_at (bits_of s m) k

-- n entries from bit k on
abbrev pub entries_at : ViewBits → ℕ → ℕ → List Shown
entries_at v k n = items_at (shown_in v.marked) (next_in v.marked) v.bytes k n

-- ---- rows: node, floor, commit, last index, floor configuration, actual configuration

abbrev pub configuration_at : Bytes → ℕ → Configuration
configuration_at s k =
    record { present = eqb (field_at s k 1) 1; index = field_at s (k + 1) 10; identity = field_at s (k + 11) 32 }

-- the bit after a row
abbrev pub after_row : Bytes → ℕ → ℕ
after_row s k = k + 122

abbrev pub row_at : Bytes → ℕ → Row
row_at s k =
    record {
      node = field_at s k 6;
      floor = field_at s (k + 6) 10;
      commit = field_at s (k + 16) 10;
      last = field_at s (k + 26) 10;
      floor_configuration = configuration_at s (k + 36);
      actual_configuration = configuration_at s (k + 79);
    }

-- n rows from bit k on
abbrev pub rows_at : Bytes → ℕ → ℕ → List Row
rows_at s k n = items_at row_at after_row s k n

-- ---- walking: the n items from bit k on are readable

-- the model reads just these, each above the one before it, from `least` on. Each has at most `size` bits, and the
-- positions are small, so that no sum of them wraps.
pub record Listed {A : Type 0} (item : ℕ → Reader A) (key : A → ℕ) (at : Bytes → ℕ → A) (next : Bytes → ℕ → ℕ) (size : ℕ)
    (s : Bytes) (k n : ℕ) : Type 0 where
  pub least : ℕ
  pub near : k + size * n ≤ 2 ^ 32
  pub reads : many item key least n s k ≡ got (items_at at next s k n) (end_at next s k n)

-- the n entries from bit k on
abbrev pub Walk : ViewBits → ℕ → ℕ → Type 0
Walk v k n = Listed (shown v.marked) index_of (shown_in v.marked) (next_in v.marked) 305 v.bytes k n

-- the n rows from bit k on
abbrev pub RowWalk : Bytes → ℕ → ℕ → Type 0
RowWalk s k n = Listed row node_of row_at after_row 122 s k n

-- where a view's entries begin, and where the rows do
abbrev pub first_entry : ℕ
first_entry = 20

abbrev pub first_row : ℕ
first_row = 14
