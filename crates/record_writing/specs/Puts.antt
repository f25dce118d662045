-- The fields of a record written one after the other into bytes, each into what the ones before it left, and the fields of a
-- list of numbers by their places in it.
-- Assumes nothing.
use Rattle.std.specs.Prelude.{ℕ, zero, suc, ◌+◌, ◌-◌, ◌*◌, ◌/◌, ◌%◌, ◌^◌, ◌≤◌, ◌<◌, ◌≡◌, Bool, true, cond, ◌&&◌, List, [], ◌∷◌, ◌++◌, leb, ltb, eqb, length, get_or}
use Rattle.model.specs.Sizes.{Bytes}
use Rattle.storage_bytes.specs.Words.{word_bytes, put_bytes}
use Rattle.storage_bytes.specs.Lists.{tabulate, every}
use Rattle.record_writing.specs.Spans.{Span, span, total}

-- ---- writing

-- the bytes that a field of w bits from bit `at` on reaches
abbrev pub reach : ℕ → ℕ → ℕ
reach at w = (at % 8 + w + 7) / 8

-- those bytes as a number: the bits before the field in its first byte stay, and zeros follow it
abbrev pub word_of : Bytes → ℕ → ℕ → ℕ → ℕ
word_of t at w v = (get_or t (at / 8) 0 / 2 ^ (8 - at % 8) * 2 ^ w + v) * 2 ^ (8 * reach at w - (at % 8 + w))

-- a field of w bits from bit `at` on
unfoldable pub put_field : Bytes → ℕ → ℕ → ℕ → Bytes
unfolding put_bytes word_bytes
put_field t at w v = put_bytes t (at / 8) (word_bytes (reach at w) (word_of t at w v))

-- one field after the other
unfoldable pub put_spans : Bytes → ℕ → List Span → Bytes
unfolding put_field
put_spans t at [] = t
put_spans t at (x ∷ xs) = put_spans (put_field t at x.width x.value) (at + x.width) xs

-- ---- what is asked before

-- the bits of a field hold its number
abbrev pub fits : Span → Bool
fits x = ltb 0 x.width && leb x.width 32 && ltb x.value (2 ^ x.width)

-- there is room in n bytes from bit `at` on, m numbers have the fields from the k-th on, and no sum of bits wraps
pub record Room (n at m k : ℕ) (xs : List Span) : Type 0 where
  pub fit : every fits xs ≡ true
  pub bits : at + total xs ≤ 8 * n
  pub near : at + total xs < 2 ^ 64
  pub numbers : k + length xs ≤ m

-- ---- the fields of a list of numbers, from its k-th on

-- one for each width
abbrev pub spans_by : List ℕ → List ℕ → ℕ → List Span
spans_by ws fs k = tabulate (λ i. span (get_or ws i 0) (get_or fs (k + i) 0)) 0 (length ws)

-- n bytes
abbrev pub contents_by : List ℕ → ℕ → ℕ → List Span
contents_by fs k n = tabulate (λ i. span 8 (get_or fs (k + i) 0)) 0 n

abbrev pub head_widths : List ℕ
head_widths = 10 ∷ 32 ∷ 6 ∷ []

-- an entry's content has as many bytes as its third number says
abbrev pub content_count : List ℕ → ℕ → ℕ
content_count fs k = get_or fs (k + 2) 0

abbrev pub entry_by : List ℕ → ℕ → List Span
entry_by fs k = spans_by head_widths fs k ++ contents_by fs (k + 3) (content_count fs k)

-- n entries
unfoldable pub entries_by : List ℕ → ℕ → ℕ → List Span
unfolding tabulate
entries_by fs k zero = []
entries_by fs k (suc n) = entry_by fs k ++ entries_by fs (k + 3 + content_count fs k) n

abbrev pub row_widths : List ℕ
row_widths = 6 ∷ 10 ∷ 10 ∷ 10 ∷ 1 ∷ 10 ∷ 32 ∷ 1 ∷ 10 ∷ 32 ∷ []

-- n rows
unfoldable pub rows_by : List ℕ → ℕ → ℕ → List Span
unfolding tabulate
rows_by fs k zero = []
rows_by fs k (suc n) = spans_by row_widths fs k ++ rows_by fs (k + 10) n

-- the whole list, of a kind
abbrev pub kind_by : ℕ → List ℕ → List Span
kind_by kind fs =
    cond (eqb kind 1) (spans_by (4 ∷ 6 ∷ 10 ∷ []) fs 0 ++ entries_by fs 3 (get_or fs 2 0))
    (cond (eqb kind 2) (spans_by (4 ∷ 6 ∷ 10 ∷ []) fs 0)
    (cond (eqb kind 3) (spans_by (4 ∷ 10 ∷ 10 ∷ 32 ∷ []) fs 0)
    (cond (eqb kind 4) (spans_by (4 ∷ 6 ∷ 32 ∷ 1 ∷ 10 ∷ []) fs 0)
    (cond (eqb kind 5) (spans_by (4 ∷ []) fs 0)
    (spans_by (4 ∷ 10 ∷ []) fs 0 ++ rows_by fs 2 (get_or fs 1 0))))))

-- the whole list, by its first number
unfoldable pub record_by : List ℕ → List Span
unfolding entries_by rows_by
record_by fs = kind_by (get_or fs 0 0) fs

-- the list's numbers are a record's fields, and no more
pub record Fields (fs : List ℕ) : Type 0 where
  pub fit : every fits (record_by fs) ≡ true
  pub all : length (record_by fs) ≡ length fs
