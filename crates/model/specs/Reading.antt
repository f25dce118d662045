-- Document 01, "Record bits" and the reading part of "Refused records": any bytes are read from the left, and the answer
-- is the record or the first fault.
--
-- A field's own faults come in this order: its bits are missing, its value is out of limit, it is not above the one before.
-- So each field has one reader with all its faults, and a record is a chain of fields. What follows the last field is
-- looked at last.
-- docs/SCOPE.md, "Records".
-- Assumes nothing.
use Rattle.std.specs.Prelude.{ℕ, zero, suc, ◌+◌, ◌-◌, ◌*◌, ◌/◌, ◌%◌, ◌^◌, Bool, true, false, cond, ◌&&◌, List, [], ◌∷◌, leb, ltb, eqb, length, get_or}
use Rattle.model.specs.Sizes.{Bytes, index_limit, content_limit}
use Rattle.model.specs.Refusal.{Refusal, unknownKind, bitsMissing, filling, outOfLimit, notAbove}
use Rattle.model.specs.Record.{Shown, Configuration, Row, Record, view, commit, terms, election, check, rows, leader}

-- ---- bits: "packed most significant bit first"

-- bit k of the record
unfoldable pub bit_at : Bytes → ℕ → ℕ
bit_at s k = get_or s (k / 8) 0 / 2 ^ (7 - k % 8) % 2

-- the number in the w bits from bit k on
unfoldable pub field_at : Bytes → ℕ → ℕ → ℕ
unfolding bit_at
field_at s k zero = 0
field_at s k (suc w) = field_at s k w * 2 + bit_at s (k + w)

-- the n bytes from bit k on
unfoldable pub bytes_at : Bytes → ℕ → ℕ → List ℕ
unfolding field_at
bytes_at s k zero = []
bytes_at s k (suc n) = field_at s k 8 ∷ bytes_at s (k + 8) n

-- ---- readers: from a bit on, a value and the next bit, or the first fault

pub data Part (A : Type 0) : Type 0 where
  got : A → ℕ → Part A
  fault : Refusal → Part A

abbrev pub Reader : Type 0 → Type 0
Reader A = Bytes → ℕ → Part A

abbrev pub onward : {A B : Type 0} → Bytes → Part A → (A → Reader B) → Part B
onward s (got a k) f = f a s k
onward s (fault r) f = fault r

-- `do` blocks: one reader, and then the next where that one left off
infixl 20 ◌>>=◌
abbrev pub ◌>>=◌ : {A B : Type 0} → Reader A → (A → Reader B) → Reader B
◌>>=◌ m f s k = onward s (m s k) f

abbrev pub return : {A : Type 0} → A → Reader A
return a s k = got a k

-- the value a, or the fault r where the test fails
abbrev pub require : {A : Type 0} → Bool → Refusal → A → Reader A
require b r a s k = cond b (got a k) (fault r)

-- ---- fields

-- a field of w bits: 2 where its bits are missing
unfoldable pub field : ℕ → Reader ℕ
unfolding field_at
field w s k = cond (leb (k + w) (8 * length s)) (got (field_at s k w) (k + w)) (fault bitsMissing)

-- node takes 6 bits and term 32: every value is within its limit
abbrev pub node : Reader ℕ
node = field 6

abbrev pub term : Reader ℕ
term = field 32

-- a field of w bits that is at most m: else 4
unfoldable pub limited : ℕ → ℕ → Reader ℕ
unfolding field
limited w m = do
  v ← field w
  require (leb v m) outOfLimit v

-- index, count and length take 10 bits, content length 6
abbrev pub index : Reader ℕ
index = limited 10 index_limit

abbrev pub content_length : Reader ℕ
content_length = limited 6 content_limit

-- a yes/no takes 1 bit
unfoldable pub yes_no : Reader Bool
unfolding field
yes_no = do
  v ← field 1
  return (eqb v 1)

-- content of n bytes: 2 where its bits are missing
unfoldable pub content : ℕ → Reader (List ℕ)
unfolding bytes_at
content n s k = cond (leb (k + 8 * n) (8 * length s)) (got (bytes_at s k n) (k + 8 * n)) (fault bitsMissing)

-- a field of w bits, at most m, that "present" governs: 4 where it is not zero and absent
unfoldable pub governed : Bool → ℕ → ℕ → Reader ℕ
unfolding limited
governed present w m = limited w (cond present m 0)

-- an entry's index: 4 if it is zero too; 5 below `least`, one more than the index before it
unfoldable pub entry_index : ℕ → Reader ℕ
unfolding limited
entry_index least = do
  i ← index
  i ← require (ltb 0 i) outOfLimit i
  require (leb least i) notAbove i

-- a row's node: 5 below `least`, one more than the node before it
unfoldable pub row_node : ℕ → Reader ℕ
unfolding field
row_node least = do
  n ← node
  require (leb least n) notAbove n

-- ---- kinds

-- `many item key least n`: n items, each above the key of the one before it
unfoldable pub many : {A : Type 0} → (ℕ → Reader A) → (A → ℕ) → ℕ → ℕ → Reader (List A)
many item key least zero = return []
many item key least (suc n) = do
  x ← item least
  xs ← many item key (key x + 1) n
  return (x ∷ xs)

-- an entry's mark: shown in kind 9, where yes is a configuration entry; in kind 1 each entry is a portion record
unfoldable pub mark : Bool → Reader Bool
unfolding yes_no
mark marked = cond marked yes_no (return false)

-- an entry of a view: index, term, mark, content length, content
unfoldable pub shown : Bool → ℕ → Reader Shown
unfolding entry_index field mark limited content
shown marked least = do
  i ← entry_index least
  t ← term
  m ← mark marked
  n ← content_length
  c ← content n
  return (record { index = i; entry = record { term = t; configuration = m; content = c } })

-- a configuration: present, index, identity. An identity takes 32 bits, and has no limit but that.
unfoldable pub configuration : Reader Configuration
unfolding yes_no governed
configuration = do
  p ← yes_no
  i ← governed p 10 index_limit
  d ← governed p 32 (2 ^ 32 - 1)
  return (record { present = p; index = i; identity = d })

-- a row: node, floor, commit, last index, floor configuration, actual configuration
unfoldable pub row : ℕ → Reader Row
unfolding row_node limited configuration
row least = do
  n ← row_node least
  f ← index
  c ← index
  l ← index
  fc ← configuration
  ac ← configuration
  return (record { node = n; floor = f; commit = c; last = l; floor_configuration = fc; actual_configuration = ac })

-- 1 view, and 9 view with marks: node, count, then the entries
unfoldable pub view_fields : Bool → Reader Record
unfolding field limited many shown
view_fields marked = do
  n ← node
  c ← index
  es ← many (shown marked) (λ x. x.index) 0 c
  return (view n es)

-- 2 commit: node, commit index
unfoldable pub commit_fields : Reader Record
unfolding field limited
commit_fields = do
  n ← node
  i ← index
  return (commit n i)

-- 3 commit terms: old, new, term
unfoldable pub terms_fields : Reader Record
unfolding field limited
terms_fields = do
  o ← index
  n ← index
  t ← term
  return (terms o n t)

-- 4 election: leader, term, log present, length
unfoldable pub election_fields : Reader Record
unfolding field yes_no governed
election_fields = do
  l ← node
  t ← term
  p ← yes_no
  n ← governed p 10 index_limit
  return (election l t p n)

-- 6 rows: count, then the rows
unfoldable pub rows_fields : Reader Record
unfolding limited many row
rows_fields = do
  c ← index
  rs ← many row (λ x. x.node) 0 c
  return (rows rs)

-- 7 leader: node, term
unfoldable pub leader_fields : Reader Record
unfolding field
leader_fields = do
  n ← node
  t ← term
  return (leader n t)

-- the fields of a kind: 1 where the kind is unknown
unfoldable pub fields_of : ℕ → Reader Record
unfolding view_fields commit_fields terms_fields election_fields rows_fields leader_fields
fields_of kind =
    cond (eqb kind 1) (view_fields false)
    (cond (eqb kind 2) commit_fields
    (cond (eqb kind 3) terms_fields
    (cond (eqb kind 4) election_fields
    (cond (eqb kind 5) (return check)
    (cond (eqb kind 6) rows_fields
    (cond (eqb kind 7) leader_fields
    (cond (eqb kind 9) (view_fields true)
    (λ s k. fault unknownKind))))))))

-- ---- the whole record

-- the fields end in the last byte, whose other bits are zero
unfoldable pub filled : Bytes → ℕ → Bool
unfolding field_at
filled s k = ltb (8 * length s - k) 8 && eqb (field_at s k (8 * length s - k)) 0

-- what the bytes are read as
pub data Reading : Type 0 where
  readable : Record → Reading
  unreadable : Refusal → Reading

-- last, 3: a bit set in the filling or a further byte
abbrev pub finish : Bytes → Part Record → Reading
finish s (got r k) = cond (filled s k) (readable r) (unreadable filling)
finish s (fault r) = unreadable r

-- every record starts with a kind of 4 bits
unfoldable pub record_fields : Reader Record
unfolding field fields_of
record_fields = do
  kind ← field 4
  fields_of kind

unfoldable pub read : Bytes → Reading
unfolding record_fields filled
read s = finish s (record_fields s 0)
