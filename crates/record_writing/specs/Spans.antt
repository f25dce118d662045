-- A record spelled: its fields in their order, each with its bits, the numbers that the writer takes for it, and its bytes, most
-- significant bit first, zero bits in the filling.
-- Assumes nothing.
use Rattle.std.specs.Prelude.{ℕ, ◌+◌, ◌-◌, ◌*◌, ◌/◌, ◌^◌, Bool, true, false, cond, not, ◌&&◌, ◌||◌, List, [], ◌∷◌, ◌++◌, map, length}
use Rattle.model.specs.Sizes.{Bytes}
use Rattle.model.specs.Record.{Shown, Configuration, Row, Record, view, commit, terms, election, check, rows, leader}
use Rattle.storage_bytes.specs.Words.{word_bytes}
use Rattle.record_writing.specs.Format.{view_kind}

-- ---- fields

-- a field of a record: how many bits it takes, and its number
pub record Span : Type 0 where
  pub width : ℕ
  pub value : ℕ

abbrev pub span : ℕ → ℕ → Span
span w v = record { width = w; value = v }

abbrev pub value_of : Span → ℕ
value_of x = x.value

-- a yes/no
abbrev pub bit : Bool → Span
bit b = span 1 (cond b 1 0)

-- a node takes 6 bits, an index, a count or a length 10, a term or an identity 32, a content length 6, a content byte 8
abbrev pub content_spans : List ℕ → List Span
content_spans bs = map (span 8) bs

-- an entry's mark, where its edition shows it
abbrev pub mark_spans : Bool → Bool → List Span → List Span
mark_spans marked m xs = cond marked (bit m ∷ xs) xs

abbrev pub entry_spans : Bool → Shown → List Span
entry_spans marked x =
    span 10 x.index ∷ span 32 x.entry.term
    ∷ mark_spans marked x.entry.configuration (span 6 (length x.entry.content) ∷ content_spans x.entry.content)

abbrev pub configuration_spans : Configuration → List Span → List Span
configuration_spans c xs = bit c.present ∷ span 10 c.index ∷ span 32 c.identity ∷ xs

abbrev pub row_spans : Row → List Span
row_spans x =
    span 6 x.node ∷ span 10 x.floor ∷ span 10 x.commit ∷ span 10 x.last
    ∷ configuration_spans x.floor_configuration (configuration_spans x.actual_configuration [])

-- those of one item after another
unfoldable pub all_spans : {A : Type 0} → (A → List Span) → List A → List Span
all_spans f [] = []
all_spans f (x ∷ xs) = f x ++ all_spans f xs

-- every record starts with its kind, of 4 bits. A view has two editions, with marks or without; the other kinds have one.
unfoldable pub spans : Bool → Record → List Span
unfolding all_spans
spans marked (view n es) =
    span 4 (view_kind marked) ∷ span 6 n ∷ span 10 (length es) ∷ all_spans (entry_spans marked) es
spans marked (commit n i) = span 4 2 ∷ span 6 n ∷ span 10 i ∷ []
spans marked (terms o n t) = span 4 3 ∷ span 10 o ∷ span 10 n ∷ span 32 t ∷ []
spans marked (election l t p n) = span 4 4 ∷ span 6 l ∷ span 32 t ∷ bit p ∷ span 10 n ∷ []
spans marked check = span 4 5 ∷ []
spans marked (rows rs) = span 4 6 ∷ span 10 (length rs) ∷ all_spans row_spans rs
spans marked (leader n t) = span 4 7 ∷ span 6 n ∷ span 32 t ∷ []

-- the writer's numbers: it writes a view without marks
abbrev pub fields : Record → List ℕ
fields r = map value_of (spans false r)

-- ---- bytes

-- how many bits the fields take
unfoldable pub total : List Span → ℕ
total [] = 0
total (x ∷ xs) = x.width + total xs

-- the fields behind the number n, as one number
unfoldable pub joined : ℕ → List Span → ℕ
joined n [] = n
joined n (x ∷ xs) = joined (n * 2 ^ x.width + x.value) xs

-- how many bytes hold k bits
abbrev pub bytes_for : ℕ → ℕ
bytes_for k = (k + 7) / 8

-- a number of k bits in as many bytes as hold them, and zeros in the bits after it
unfoldable pub packed : ℕ → ℕ → Bytes
unfolding word_bytes
packed k n = word_bytes (bytes_for k) (n * 2 ^ (8 * bytes_for k - k))

unfoldable pub pack : List Span → Bytes
unfolding packed total joined
pack xs = packed (total xs) (joined 0 xs)

-- the bytes of a record, of an edition
unfoldable pub spell : Bool → Record → Bytes
unfolding pack spans
spell marked r = pack (spans marked r)

-- ---- editions

-- no entry is a configuration entry
unfoldable pub unmarked : List Shown → Bool
unmarked [] = true
unmarked (x ∷ xs) = not x.entry.configuration && unmarked xs

-- whether an edition can show a record
abbrev pub shows : Bool → Record → Bool
shows marked (view n es) = marked || unmarked es
shows marked (commit n i) = true
shows marked (terms o n t) = true
shows marked (election l t p n) = true
shows marked check = true
shows marked (rows rs) = true
shows marked (leader n t) = true
