-- The fields of each kind that the writer knows, 1 to 6, in their order, each with all its faults, whatever the fields are read from:
-- `field w` reads one of w bits. The model's reading of these kinds is these over the bits of a record (proofs/Sources.antt), and the
-- writer's over a list of numbers.
-- Assumes nothing.
use Rattle.std.specs.Prelude.{ℕ, ◌-◌, ◌^◌, Bool, true, false, cond, List, leb, ltb, eqb}
use Rattle.model.specs.Sizes.{index_limit, content_limit}
use Rattle.model.specs.Refusal.{unknownKind, outOfLimit, notAbove}
use Rattle.model.specs.Record.{Shown, Configuration, Row, Record, view, commit, terms, election, check, rows, leader}
use Rattle.model.specs.Reading.{Reader, fault, ◌>>=◌, return, require, many}
use Rattle.record_entries.specs.BitLayout.{index_of, node_of}

-- the kind of a view: 9 where each entry shows its mark
abbrev pub view_kind : Bool → ℕ
view_kind marked = cond marked 9 1

-- a content byte has no key
abbrev pub no_key : ℕ → ℕ
no_key b = 0

module _ (field : ℕ → Reader ℕ) where
  -- ---- fields

  abbrev pub node : Reader ℕ
  node = field 6

  abbrev pub term : Reader ℕ
  term = field 32

  -- a field of w bits that is at most m: else 4
  unfoldable pub limited : ℕ → ℕ → Reader ℕ
  limited w m = do
    v ← field w
    require (leb v m) outOfLimit v

  abbrev pub index : Reader ℕ
  index = limited 10 index_limit

  abbrev pub content_length : Reader ℕ
  content_length = limited 6 content_limit

  unfoldable pub yes_no : Reader Bool
  yes_no = do
    v ← field 1
    return (eqb v 1)

  -- a byte of a content, whatever the one before it
  abbrev pub content_byte : ℕ → Reader ℕ
  content_byte least = field 8

  -- n bytes
  abbrev pub content : ℕ → Reader (List ℕ)
  content n = many content_byte no_key 0 n

  -- a field that "present" governs: 4 where it is not zero and absent
  unfoldable pub governed : Bool → ℕ → ℕ → Reader ℕ
  unfolding limited
  governed present w m = limited w (cond present m 0)

  -- an entry's index: 4 if it is zero too; 5 below `least`
  unfoldable pub entry_index : ℕ → Reader ℕ
  unfolding limited
  entry_index least = do
    i ← index
    i ← require (ltb 0 i) outOfLimit i
    require (leb least i) notAbove i

  -- a row's node: 5 below `least`
  unfoldable pub row_node : ℕ → Reader ℕ
  row_node least = do
    n ← node
    require (leb least n) notAbove n

  -- ---- kinds

  -- an entry's mark: shown in kind 9; in kind 1 each entry is a portion record
  unfoldable pub mark : Bool → Reader Bool
  unfolding yes_no
  mark marked = cond marked yes_no (return false)

  -- an entry of a view
  unfoldable pub shown : Bool → ℕ → Reader Shown
  unfolding entry_index mark limited
  shown marked least = do
    i ← entry_index least
    t ← term
    m ← mark marked
    n ← content_length
    c ← content n
    return (record { index = i; entry = record { term = t; configuration = m; content = c } })

  unfoldable pub configuration : Reader Configuration
  unfolding yes_no governed
  configuration = do
    p ← yes_no
    i ← governed p 10 index_limit
    d ← governed p 32 (2 ^ 32 - 1)
    return (record { present = p; index = i; identity = d })

  unfoldable pub row : ℕ → Reader Row
  unfolding row_node limited configuration
  row least = do
    n ← row_node least
    f ← index
    c ← index
    l ← index
    fc ← configuration
    ac ← configuration
    return (record { node = n; floor = f; commit = c; last = l; floor_configuration = fc; actual_configuration = ac })

  unfoldable pub view_fields : Bool → Reader Record
  unfolding limited shown
  view_fields marked = do
    n ← node
    c ← index
    es ← many (shown marked) index_of 0 c
    return (view n es)

  unfoldable pub commit_fields : Reader Record
  unfolding limited
  commit_fields = do
    n ← node
    i ← index
    return (commit n i)

  unfoldable pub terms_fields : Reader Record
  unfolding limited
  terms_fields = do
    o ← index
    n ← index
    t ← term
    return (terms o n t)

  unfoldable pub election_fields : Reader Record
  unfolding yes_no governed
  election_fields = do
    l ← node
    t ← term
    p ← yes_no
    n ← governed p 10 index_limit
    return (election l t p n)

  unfoldable pub rows_fields : Reader Record
  unfolding limited row
  rows_fields = do
    c ← index
    rs ← many row node_of 0 c
    return (rows rs)

  unfoldable pub leader_fields : Reader Record
  leader_fields = do
    n ← node
    t ← term
    return (leader n t)

  -- the fields of a kind: 1 where the kind is unknown
  unfoldable pub fields_of : ℕ → Reader Record
  unfolding view_fields commit_fields terms_fields election_fields rows_fields leader_fields
  fields_of kind =
      cond (eqb kind (view_kind false)) (view_fields false)
      (cond (eqb kind 2) commit_fields
      (cond (eqb kind 3) terms_fields
      (cond (eqb kind 4) election_fields
      (cond (eqb kind 5) (return check)
      (cond (eqb kind 6) rows_fields
      (cond (eqb kind 7) leader_fields
      (cond (eqb kind (view_kind true)) (view_fields true)
      (λ s k. fault unknownKind))))))))
