-- From a record that the model reads to what `read` tells of it: the limits of its fields, and the walk over its entries or
-- rows, which are the ones in the bytes, in order, each readable.
-- Assumes nothing.
use Prim.Native.Nat.{ℕ, ◌≤◌, ◌<◌}
use Rattle.std.specs.Prelude.{Result, Ok, Err, is_some, unwrap_or}
use Rattle.record_bits.specs.declared.bits.Fault.{Fault}
use mathlib.Core.Path.{◌≡◌, refl, ap, sym, subst, ◌∙◌}
use mathlib.Core.Bool.{Bool, true, false, cond}
use mathlib.Core.List.{List}
use mathlib.Core.Logic.{◌⊎◌, inl, inr, ⊎_elim}
use native.Mathlib.Omega.{arith}
use borrow.Author.Tests.{eqb-true}
use lib.Dec.{eqb}
use lib.ListN.{length}
use Rattle.model.specs.Refusal.{filling}
use Rattle.model.specs.Record.{Shown, Row, Record, view, commit, terms, election, check, rows, leader}
use Rattle.model.specs.Reading.{field_at, readable, unreadable, Part, got, fault, Reader, field, limited, governed, yes_no, many, shown, row, view_fields, commit_fields, terms_fields, election_fields, rows_fields, leader_fields, fields_of, filled, finish, record_fields, read}
use Rattle.model.specs.Sizes.{Bytes, index_limit}
use Rattle.units.specs.declared.NodeId.{NodeId}
use Rattle.record_reading.specs.declared.head.Head.{Head}
use Rattle.record_reading.specs.Heads.{reading_of, head_of, Within, Told}
use Rattle.record_entries.specs.BitLayout.{index_of, node_of, is_marked, view_bits, shown_in, next_in, entries_at, row_at, after_row, rows_at, Walk, RowWalk, first_entry, first_row}
use Rattle.record_bits.proofs.Widths.{field_lt}
use Rattle.record_entries.proofs.Given.{fault≢got, got_same, went, field_is, field_below, limited_is, governed_within}
use Rattle.record_entries.proofs.Listed.{many_is, walk_read}
use Rattle.record_reading.proofs.Heads.{head_back}
use Rattle.record_entries.proofs.Walks.{entries_length, rows_length}
use Rattle.record_entries.proofs.Scanned.{entry_listed, row_listed}

-- the kind of a view
abbrev view_kind : Bool → ℕ
view_kind m = cond m 9 1

-- the kind of a record, where `kind` is 9 exactly for a view with marks
abbrev kind_of : ℕ → Record → ℕ
kind_of kind (view n es) = view_kind (eqb kind 9)
kind_of kind (commit n i) = 2
kind_of kind (terms o n t) = 3
kind_of kind (election l t p n) = 4
kind_of kind check = 5
kind_of kind (rows rs) = 6
kind_of kind (leader n t) = 7

-- ---- each kind's fields give a record of that kind

module _ (s : Bytes) (k : ℕ) {r : Record} {j : ℕ} (kind : ℕ) where
  view_kinds : (m : Bool) → view_fields m s k ≡ got r j → kind_of kind r ≡ view_kind (eqb kind 9)
  unfolding view_fields
  view_kinds m e =
      let g₁ = went s (field 6 s k) _ e in
      let g₂ = went s (limited 10 index_limit s g₁.place) _ g₁.rest in
      let g₃ = went s (many (shown m) index_of 0 g₂.value s g₂.place) _ g₂.rest in
      ap (kind_of kind) (got_same g₃.rest).0

  -- of that kind
  view_of : (m : Bool) → (kind ≡ view_kind m) × (view_fields m s k ≡ got r j) → kind ≡ kind_of kind r
  view_of true p = p.0 ∙ sym (view_kinds true p.1 ∙ ap (λ (i : ℕ). view_kind (eqb i 9)) p.0)
  view_of false p = p.0 ∙ sym (view_kinds false p.1 ∙ ap (λ (i : ℕ). view_kind (eqb i 9)) p.0)

  commit_kind : commit_fields s k ≡ got r j → kind_of kind r ≡ 2
  unfolding commit_fields
  commit_kind e =
      let g₁ = went s (field 6 s k) _ e in
      let g₂ = went s (limited 10 index_limit s g₁.place) _ g₁.rest in
      ap (kind_of kind) (got_same g₂.rest).0

  terms_kind : terms_fields s k ≡ got r j → kind_of kind r ≡ 3
  unfolding terms_fields
  terms_kind e =
      let g₁ = went s (limited 10 index_limit s k) _ e in
      let g₂ = went s (limited 10 index_limit s g₁.place) _ g₁.rest in
      let g₃ = went s (field 32 s g₂.place) _ g₂.rest in
      ap (kind_of kind) (got_same g₃.rest).0

  election_kind : election_fields s k ≡ got r j → kind_of kind r ≡ 4
  unfolding election_fields
  election_kind e =
      let g₁ = went s (field 6 s k) _ e in
      let g₂ = went s (field 32 s g₁.place) _ g₁.rest in
      let g₃ = went s (yes_no s g₂.place) _ g₂.rest in
      let g₄ = went s (governed g₃.value 10 index_limit s g₃.place) _ g₃.rest in
      ap (kind_of kind) (got_same g₄.rest).0

  check_kind : ◌≡◌ {A = Part Record} (got check k) (got r j) → kind_of kind r ≡ 5
  check_kind e = ap (kind_of kind) (got_same e).0

  rows_kind : rows_fields s k ≡ got r j → kind_of kind r ≡ 6
  unfolding rows_fields
  rows_kind e =
      let g₁ = went s (limited 10 index_limit s k) _ e in
      let g₂ = went s (many row node_of 0 g₁.value s g₁.place) _ g₁.rest in
      ap (kind_of kind) (got_same g₂.rest).0

  leader_kind : leader_fields s k ≡ got r j → kind_of kind r ≡ 7
  unfolding leader_fields
  leader_kind e =
      let g₁ = went s (field 6 s k) _ e in
      let g₂ = went s (field 32 s g₁.place) _ g₁.rest in
      ap (kind_of kind) (got_same g₂.rest).0

  -- a kind that is i, or else one of the others
  pick : (i : ℕ) (f g : Reader Record) → cond (eqb kind i) f g s k ≡ got r j
      → ((kind ≡ i) × (f s k ≡ got r j)) ⊎ (g s k ≡ got r j)
  pick i f g e = go (eqb kind i) refl e
    where
      go : (b : Bool) → eqb kind i ≡ b → cond b f g s k ≡ got r j → ((kind ≡ i) × (f s k ≡ got r j)) ⊎ (g s k ≡ got r j)
      go true q e = inl (eqb-true kind i q, e)
      go false q e = inr e

  -- what was read by a kind's fields is of that kind
  kind_is : fields_of kind s k ≡ got r j → kind ≡ kind_of kind r
  unfolding fields_of
  kind_is e₁ =
      ⊎_elim (view_of false) (λ e₂.
      ⊎_elim (λ p. p.0 ∙ sym (commit_kind p.1)) (λ e₃.
      ⊎_elim (λ p. p.0 ∙ sym (terms_kind p.1)) (λ e₄.
      ⊎_elim (λ p. p.0 ∙ sym (election_kind p.1)) (λ e₅.
      ⊎_elim (λ p. p.0 ∙ sym (check_kind p.1)) (λ e₆.
      ⊎_elim (λ p. p.0 ∙ sym (rows_kind p.1)) (λ e₇.
      ⊎_elim (λ p. p.0 ∙ sym (leader_kind p.1)) (λ e₈.
      ⊎_elim (view_of true) (λ e₉. absurd (fault≢got e₉))
      (pick 9 _ _ e₈)) (pick 7 _ _ e₇)) (pick 6 _ _ e₆)) (pick 5 _ _ e₅)) (pick 4 _ _ e₄)) (pick 3 _ _ e₃)) (pick 2 _ _ e₂)) (pick 1 _ _ e₁)

-- ---- the whole record

-- the kind's fields gave the record
record Whole (s : Bytes) (r : Record) : Type 0 where
  pub end : ℕ
  pub fields : fields_of (kind_of (field_at s 0 4) r) s 4 ≡ got r end

whole : (s : Bytes) (r : Record) → read s ≡ readable r → Whole s r
unfolding read record_fields
whole s r e =
    let f = finished (record_fields s 0) e in
    let g = went s (field 4 s 0) fields_of f.1 in
    let v = field_is s 0 4 g.first in
    let k = kind_is s g.place g.value g.rest ∙ ap (λ (i : ℕ). kind_of i r) v.value in
    record { end = f.0; fields = sym (λ i. fields_of (k i) s (v.next i)) ∙ g.rest }
  where
    finished : (p : Part Record) → finish s p ≡ readable r → (j : ℕ) × (p ≡ got r j)
    finished (got q j) e = (j, ap (λ (x : Record). got x j) (same (filled s j) e))
      where
        same : (b : Bool) → cond b (readable q) (unreadable filling) ≡ readable r → q ≡ r
        same true e = cc
        same false e = absurd (let z : ◌≡◌ {A = ℕ} 0 1 = cc in omega arith)
    finished (fault q) e = absurd (let z : ◌≡◌ {A = ℕ} 0 1 = cc in omega arith)

-- a readable view: its node and its entries stand in the bytes, and the entries can be walked
pub record ViewRead (s : Bytes) (n : ℕ) (es : List Shown) : Type 0 where
  pub some : 0 < length s
  pub node : n ≡ field_at s 4 6
  pub count : length es ≤ index_limit
  pub entries : es ≡ entries_at (view_bits s) first_entry (length es)
  pub walk : Walk (view_bits s) first_entry (length es)

-- the fields of a view's kind
view_fields_of : (m : Bool) (s : Bytes) {r : Record} {j : ℕ} → fields_of (view_kind m) s 4 ≡ got r j → view_fields m s 4 ≡ got r j
unfolding fields_of
view_fields_of true s e = e
view_fields_of false s e = e

pub view_read : (s : Bytes) (n : ℕ) (es : List Shown) → read s ≡ readable (view n es) → ViewRead s n es
unfolding view_fields
view_read s n es e =
    let t = is_marked s in
    let w = whole s (view n es) e in
    let g₁ = went s (field 6 s 4) _ (view_fields_of t s w.fields) in
    let v₁ = field_is s 4 6 g₁.first in
    let g₂ = went s (limited 10 index_limit s g₁.place) _ g₁.rest in
    let v₂ = limited_is s g₁.place 10 index_limit g₂.first in
    let g₃ = went s (many (shown t) index_of 0 g₂.value s g₂.place) _ g₂.rest in
    let r = (got_same g₃.rest).0 in
    let p : g₂.place ≡ first_entry = omega (arith, v₁.next, v₂.field.next) in
    let m = many_is (shown t) index_of (shown_in t) (next_in t) 305 s (entry_listed t s) 0 g₂.place g₂.value g₃.first in
    let f : es ≡ entries_at (view_bits s) first_entry g₂.value =
    entries_of r ∙ m.values ∙ ap (λ (k : ℕ). entries_at (view_bits s) k g₂.value) p in
    let l : length es ≡ g₂.value = ap length f ∙ entries_length (view_bits s) first_entry g₂.value in
    let q =
    walk_read (shown t) index_of (shown_in t) (next_in t) 305 s (entry_listed t s) 0 g₂.place g₂.value (omega (arith, p, v₂.within)) g₃.first in
    record {
      some = omega (arith, v₁.whole);
      node = node_in r ∙ v₁.value;
      count = omega (arith, l, v₂.within);
      entries = f ∙ ap (entries_at (view_bits s) first_entry) (sym l);
      walk = rw l (rw p at q);
    }
  where
    entries_of : {a b : ℕ} {xs ys : List Shown} → ◌≡◌ {A = Record} (view a xs) (view b ys) → xs ≡ ys
    entries_of q = cc

    node_in : {a b : ℕ} {xs ys : List Shown} → ◌≡◌ {A = Record} (view a xs) (view b ys) → a ≡ b
    node_in q = cc

-- readable rows
pub record RowsRead (s : Bytes) (rs : List Row) : Type 0 where
  pub count : length rs ≤ index_limit
  pub values : rs ≡ rows_at s first_row (length rs)
  pub walk : RowWalk s first_row (length rs)

pub rows_read : (s : Bytes) (rs : List Row) → read s ≡ readable (rows rs) → RowsRead s rs
unfolding fields_of rows_fields
rows_read s rs e =
    let w = whole s (rows rs) e in
    let g₁ = went s (limited 10 index_limit s 4) _ w.fields in
    let v₁ = limited_is s 4 10 index_limit g₁.first in
    let g₂ = went s (many row node_of 0 g₁.value s g₁.place) _ g₁.rest in
    let r = (got_same g₂.rest).0 in
    let p : g₁.place ≡ first_row = omega (arith, v₁.field.next) in
    let m = many_is row node_of row_at after_row 122 s (row_listed s) 0 g₁.place g₁.value g₂.first in
    let f : rs ≡ rows_at s first_row g₁.value = rows_of r ∙ m.values ∙ ap (λ (k : ℕ). rows_at s k g₁.value) p in
    let l : length rs ≡ g₁.value = ap length f ∙ rows_length s first_row g₁.value in
    let q = walk_read row node_of row_at after_row 122 s (row_listed s) 0 g₁.place g₁.value (omega (arith, p, v₁.within)) g₂.first in
    record {
      count = omega (arith, l, v₁.within);
      values = f ∙ ap (rows_at s first_row) (sym l);
      walk = rw l (rw p at q);
    }
  where
    rows_of : {xs ys : List Row} → ◌≡◌ {A = Record} (rows xs) (rows ys) → xs ≡ ys
    rows_of q = cc

-- a readable election: an absent log has length zero
pub election_read : (s : Bytes) (l t : ℕ) (p : Bool) (n : ℕ) → read s ≡ readable (election l t p n) → n ≤ cond p index_limit 0
unfolding fields_of election_fields governed
election_read s l t p n e =
    let w = whole s (election l t p n) e in
    let g₁ = went s (field 6 s 4) _ w.fields in
    let g₂ = went s (field 32 s g₁.place) _ g₁.rest in
    let g₃ = went s (yes_no s g₂.place) _ g₂.rest in
    let g₄ = went s (governed g₃.value 10 index_limit s g₃.place) _ g₃.rest in
    let r = same (got_same g₄.rest).0 in
    subst (λ (q : Bool). n ≤ cond q index_limit 0) r.0 (omega (arith, r.1, (limited_is s g₃.place 10 (cond g₃.value index_limit 0) g₄.first).within))
  where
    same : {a b x y u v : ℕ} {p q : Bool} → ◌≡◌ {A = Record} (election a x p u) (election b y q v) → (q ≡ p) × (u ≡ v)
    same q = (cc, cc)

-- ---- the limits of each kind's fields, and what `read` tells

limits : (s : Bytes) (r : Result Head Fault) → read s ≡ reading_of s r → Within r
unfolding fields_of commit_fields terms_fields election_fields leader_fields
limits s (Ok (Head.View n c)) e =
    let v = view_read s n.0 (entries_at (view_bits s) first_entry c) e in
    (omega (arith, v.node, field_lt s 4 6), omega (arith, v.count, entries_length (view_bits s) first_entry c))
limits s (Ok (Head.Commit n i)) e =
    let w = whole s (commit n.0 i.0) e in
    let g₁ = went s (field 6 s 4) _ w.fields in
    let g₂ = went s (limited 10 index_limit s g₁.place) _ g₁.rest in
    let r = commit_same (got_same g₂.rest).0 in
    (omega (arith, r.0, field_below s 4 6 g₁.first), omega (arith, r.1, (limited_is s g₁.place 10 index_limit g₂.first).within))
  where
    commit_same : {a b x y : ℕ} → ◌≡◌ {A = Record} (commit a x) (commit b y) → (a ≡ b) × (x ≡ y)
    commit_same q = (cc, cc)
limits s (Ok (Head.Terms x)) e =
    let w = whole s (terms x.old.0 x.new.0 x.term.0) e in
    let g₁ = went s (limited 10 index_limit s 4) _ w.fields in
    let g₂ = went s (limited 10 index_limit s g₁.place) _ g₁.rest in
    let g₃ = went s (field 32 s g₂.place) _ g₂.rest in
    let r = terms_same (got_same g₃.rest).0 in (
      omega (arith, r.0, (limited_is s 4 10 index_limit g₁.first).within),
      omega (arith, r.1, (limited_is s g₁.place 10 index_limit g₂.first).within),
      omega (arith, r.2, field_below s g₂.place 32 g₃.first),
    )
  where
    terms_same : {a b x y u v : ℕ} → ◌≡◌ {A = Record} (terms a x u) (terms b y v) → (a ≡ b) × (x ≡ y) × (u ≡ v)
    terms_same q = (cc, cc, cc)
limits s (Ok (Head.Election x)) e =
    let w = whole s (election x.leader.0 x.term.0 (is_some x.length) (unwrap_or x.length 0)) e in
    let g₁ = went s (field 6 s 4) _ w.fields in
    let g₂ = went s (field 32 s g₁.place) _ g₁.rest in
    let g₃ = went s (yes_no s g₂.place) _ g₂.rest in
    let g₄ = went s (governed g₃.value 10 index_limit s g₃.place) _ g₃.rest in
    let r = election_same (got_same g₄.rest).0 in (
      omega (arith, r.0, field_below s 4 6 g₁.first),
      omega (arith, r.1, field_below s g₁.place 32 g₂.first),
      omega (arith, r.2, governed_within s g₃.place g₃.value 10 index_limit g₄.first),
    )
  where
    election_same : {a b x y u v : ℕ} {p q : Bool} → ◌≡◌ {A = Record} (election a x p u) (election b y q v) → (a ≡ b) × (x ≡ y) × (u ≡ v)
    election_same q = (cc, cc, cc)
limits s (Ok Head.Check) e = tt
limits s (Ok (Head.Rows c)) e = omega (arith, (rows_read s (rows_at s first_row c) e).count, rows_length s first_row c)
limits s (Ok (Head.Leader x)) e =
    let w = whole s (leader x.node.0 x.term.0) e in
    let g₁ = went s (field 6 s 4) _ w.fields in
    let g₂ = went s (field 32 s g₁.place) _ g₁.rest in
    let r = leader_same (got_same g₂.rest).0 in
    (omega (arith, r.0, field_below s 4 6 g₁.first), omega (arith, r.1, field_below s g₁.place 32 g₂.first))
  where
    leader_same : {a b x y : ℕ} → ◌≡◌ {A = Record} (leader a x) (leader b y) → (a ≡ b) × (x ≡ y)
    leader_same q = (cc, cc)
limits s (Err f) e = tt

-- an answer that stands for what the model reads
pub told : (s : Bytes) (r : Result Head Fault) → read s ≡ reading_of s r → Told s r
told s r e = record { head = head_back s r ∙ ap head_of (sym e); reading = e; within = limits s r e }

-- a view has a byte
pub view_some : (s : Bytes) (r : Result Head Fault) (n : NodeId) (c : ℕ) → Told s r → r ≡ Ok (Head.View n c) → 0 < length s
view_some s r n c t e = (view_read s n.0 (entries_at (view_bits s) first_entry c) (t.reading ∙ ap (reading_of s) e)).some

-- the walk over a view's entries, and over the rows, from what `read` told

pub view_walk : (s : Bytes) (r : Result Head Fault) (n : NodeId) (c : ℕ) → Told s r → r ≡ Ok (Head.View n c) → Walk (view_bits s) first_entry c
view_walk s r n c t e =
    let l = entries_length (view_bits s) first_entry c in
    rw l at (view_read s n.0 (entries_at (view_bits s) first_entry c) (t.reading ∙ ap (reading_of s) e)).walk

pub rows_walk : (s : Bytes) (r : Result Head Fault) (c : ℕ) → Told s r → r ≡ Ok (Head.Rows c) → RowWalk s first_row c
rows_walk s r c t e =
    let l = rows_length s first_row c in
    rw l at (rows_read s (rows_at s first_row c) (t.reading ∙ ap (reading_of s) e)).walk
