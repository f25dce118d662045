-- The turns of the judging walks along a front, each from what was read, and what an entry as it is read is to the front.
-- Assumes nothing.
use Prim.Native.Nat.{ℕ, suc, ◌+◌, ◌-◌, ◌<◌, ◌≤◌}
use native.Mathlib.Omega.{arith}
use mathlib.Core.Path.{◌≡◌, refl, sym, ◌∙◌, ap, subst}
use mathlib.Core.Bool.{Bool, true, false, cond, not, ◌&&◌}
use mathlib.Core.List.{List, [], ◌∷◌, ◌++◌}
use lib.Dec.{eqb}
use lib.ListN.{length, replicate, length-append, length-replicate}
use borrow.Author.Tests.{eq-eqb, ne_eqb}
use Rattle.model.specs.Entry.{Entry}
use Rattle.model.specs.Record.{front_from}
use Rattle.model.specs.History.{Finding}
use Rattle.model.specs.Sizes.{Bytes, index_limit, content_limit}
use Rattle.record_entries.specs.declared.walk.ShownEntry.{ShownEntry}
use Rattle.record_entries.specs.BitLayout.{ViewBits, Walk, first_entry, index_at, term_at, length_at, content_at, next_at, shown_at, entries_at, content_place, mark_at}
use Rattle.record_entries.specs.Values.{shown_entry}
use Rattle.record_bits.proofs.Widths.{bytes_length}
use Rattle.record_entries.proofs.Walks.{next_walk, walk_entered, here, entry_content}
use Rattle.storage.specs.Tables.{PrefixRow, prefix_row}
use Rattle.storage.proofs.RowLaws.{bytes_take}
use Rattle.log_prefix.specs.Table.{entry_value}
use Rattle.storage_rows.specs.declared.findings.Found.{Found}
use Rattle.storage_rows.specs.Rows.{finding_value}
use Rattle.log_violation.specs.declared.violation.Notes.{Notes}
use Rattle.log_violation.specs.Violation.{held_all, bytes_all, NotedAll, note_if}
use Rattle.log_prefix.specs.Prefix.{witness, stored_of, first}
use Rattle.units.specs.declared.LogPrefixWitness.{LogPrefixWitness}
use Rattle.log_prefix.specs.Comparison.{same_from}
use Rattle.logical_log.specs.Judging.{differs, other, is_remembered, note_of, lack_notes, next_number, cursor_at, front_at, Walkable, ends_at, cursor_from, stored_notes, ReachedAs, LackingAs}
use Rattle.logical_log.specs.declared.judging.FrontCursor.{FrontCursor}
use Rattle.log_prefix.proofs.StoredLaws.{stored_number, stored_nothing}
use Rattle.log_violation.proofs.ViolationLaws.{if_not, if_noted, held_then, bytes_then}
use Rattle.logical_log.proofs.Cursors.{front_suc, front_cut, front_zero, ends_gap, ends_lost, goes_on, cursor_stays, cursor_goes, stored_stays, stored_goes, walkable_next, first_walkable}
use Rattle.std.specs.Prelude.{Option, Some, None, is_some}

-- ---- whether another prefix is remembered

module _ (row : ℕ → PrefixRow) (n i t : ℕ) (r : Option LogPrefixWitness) (e : r ≡ stored_of (first row n i t)) where
  at_first : (k : ℕ) → differs row (first row n i t) k ≡ other row n i t k
  unfolding other
  at_first k = refl

  none_differs : (x k : ℕ) → eqb x 0 ≡ true → differs row x k ≡ false
  unfolding differs
  none_differs x k a = ap (λ (y : Bool). not y && not (same_from row x x k)) a

  some_differs : (x k : ℕ) (b : Bool) → eqb x 0 ≡ false → same_from row x x k ≡ b → differs row x k ≡ not b
  unfolding differs
  some_differs x k b a d = λ j. not (a j) && not (d j)

  pub other_none : (k : ℕ) → r ≡ None → false ≡ other row n i t k
  other_none k z = sym (none_differs (first row n i t) k (eq-eqb _ 0 (stored_nothing (first row n i t) r e z))) ∙ at_first k

  module _ (w : LogPrefixWitness) (z : r ≡ Some w) where
    found_first : (w.0 ≡ first row n i t) × (first row n i t ≡ 0 → ⊥)
    found_first = stored_number (first row n i t) r e w z

    pub other_same : (k : ℕ) (b : Bool) → b ≡ same_from row w.0 w.0 k → not b ≡ other row n i t k
    other_same k b q =
        sym (some_differs (first row n i t) k b (ne_eqb _ 0 found_first.1) (sym (q ∙ ap (λ (x : ℕ). same_from row x x k) found_first.0)))
        ∙ at_first k

-- a prefix is remembered where the search finds one
pub remembered_is : (row : ℕ → PrefixRow) (n i t : ℕ) → is_some (stored_of (first row n i t)) ≡ is_remembered row n i t
unfolding is_remembered stored_of
remembered_is row n i t = by (eqb (first row n i t) 0)
  where
    by : (b : Bool) → is_some (cond b None (Some (witness (first row n i t)))) ≡ not b
    by true = refl
    by false = refl

-- ---- an entry as it is read

pub entry_read : (s : ViewBits) (k : ℕ) (e : ShownEntry) → e ≡ shown_entry s k → length_at s k ≤ content_limit → entry_value e ≡ (shown_at s k).entry
entry_read s k e q h =
    ap entry_value q
    ∙ (let c = (shown_entry s k).content in
    let n = length_at s k in
    let long : length c ≡ n + (content_limit - n) = length-append (content_at s k) (replicate (content_limit - n) 0) ∙ (λ i. bytes_length s.bytes (k + content_place s.marked) n i + length-replicate {A = ℕ} (content_limit - n) 0 i) in
    let w = bytes_take c n (omega arith) ∙ entry_content s k in
    λ i. record { term = term_at s k; configuration = mark_at s k; content = w i })

-- ---- the front, entry by entry

module _ (s : ViewBits) (k n i : ℕ) where
  one_more : 0 < n → n ≡ suc (n - 1)
  one_more h = omega arith

  front_more : 0 < n → index_at s k ≡ i → front_from i (entries_at s k n) ≡ (shown_at s k).entry ∷ front_from (i + 1) (entries_at s (next_at s k) (n - 1))
  front_more h e = ap (λ (m : ℕ). front_from i (entries_at s k m)) (one_more h) ∙ front_suc s k (n - 1) i e

  front_stop : 0 < n → (index_at s k ≡ i → ⊥) → front_from i (entries_at s k n) ≡ []
  front_stop h e = ap (λ (m : ℕ). front_from i (entries_at s k m)) (one_more h) ∙ front_cut s k (n - 1) i e

  pub front_none : n ≤ 0 → front_from i (entries_at s k n) ≡ []
  front_none h = ap (λ (m : ℕ). front_from i (entries_at s k m)) (let z : n ≡ 0 = omega arith in z) ∙ front_zero s k i

-- the front goes on with the entry as it is read
pub front_shown : (s : ViewBits) (k n i : ℕ) (e : ShownEntry) → Walk s k n → 0 < n → e ≡ shown_entry s k → e.index.0 ≡ i
    → front_from i (entries_at s k n) ≡ entry_value e ∷ front_from (i + 1) (entries_at s e.next (n - 1))
front_shown s k n i e w h q g =
    front_more s k n i h (sym (ap (λ (x : ShownEntry). x.index.0) q) ∙ g)
    ∙ (let a = sym (entry_read s k e q (here s k n w h).short) in
    let b = sym (ap (λ (x : ShownEntry). x.next) q) in
    λ z. a z ∷ front_from (i + 1) (entries_at s (b z) (n - 1)))

-- ---- an entry of a walk

module _ (s : ViewBits) (at left i : ℕ) (w : Walk s at left) (h : 0 < left) (e : ShownEntry) (q : e ≡ shown_entry s at) where
  pub entry_short : e.length ≤ content_limit
  entry_short = subst (λ (x : ShownEntry). x.length ≤ content_limit) (sym q) (here s at left w h).short

  pub walk_next : Walk s e.next (left - 1)
  walk_next = subst (λ (x : ℕ). Walk s x (left - 1)) (sym (ap (λ (x : ShownEntry). x.next) q)) (next_walk s at left w h)

  pub index_within : e.index.0 ≡ i → i ≤ index_limit
  index_within g = subst (λ (x : ℕ). x ≤ index_limit) (sym (ap (λ (x : ShownEntry). x.index.0) q) ∙ g) (walk_entered s at left w h).within

  -- another index than the next: the front ends
  pub front_gap : (e.index.0 ≡ i → ⊥) → front_from i (entries_at s at left) ≡ []
  front_gap g = front_stop s at left i h (λ x. g (ap (λ (y : ShownEntry). y.index.0) q ∙ x))

-- ---- LG-03 noted where it is told

module _ (b : Bool) (f : Finding) (old new : Notes) where
  pub told : b ≡ true → (x : Found) → finding_value x ≡ f → (u : Notes) → new ≡ u → NotedAll old.rows old.held (finding_value x ∷ []) u.held u.rows
      → NotedAll old.rows old.held (note_if b f) new.held new.rows
  told t x e u s w =
      subst (λ (v : Notes). NotedAll old.rows old.held (note_if b f) v.held v.rows) (sym s)
      (if_noted b f old.rows old.held t _ _ (subst (λ (g : Finding). NotedAll old.rows old.held (g ∷ []) u.held u.rows) e w))

  pub untold : b ≡ false → new ≡ old → NotedAll old.rows old.held (note_if b f) new.held new.rows
  untold t s =
      subst (λ (v : Notes). NotedAll old.rows old.held (note_if b f) v.held v.rows) (sym s) (if_not b f old.rows old.held t)

-- ---- the walk along the stored prefixes

module _ (ps : Bytes) (count : ℕ) (s : ViewBits) where
  -- the place where it ends, and its LG-03, from a place on
  abbrev End : FrontCursor → FrontCursor
  End x = cursor_from (prefix_row ps) count s x.at x.left x.index.0 x.prefix.0

  abbrev Noted : ℕ → FrontCursor → List Finding
  Noted node x = stored_notes (prefix_row ps) count node s x.at x.left x.index.0 x.prefix.0

pub record Judging (ps : Bytes) (count : ℕ) (s : ViewBits) (entries node : ℕ) (t₀ : Bytes) (held : ℕ) (t : Bytes) (x : FrontCursor) (n : ℕ) : Type 0 where
  pub cursor : End ps count s (cursor_at first_entry entries 1 0) ≡ End ps count s x
  pub holds : held_all t₀ held (Noted ps count s node (cursor_at first_entry entries 1 0)) ≡ held_all t n (Noted ps count s node x)
  pub table : bytes_all t₀ held (Noted ps count s node (cursor_at first_entry entries 1 0)) ≡ bytes_all t n (Noted ps count s node x)
  pub walkable : Walkable s count x

module _ (ps : Bytes) (count : ℕ) (s : ViewBits) (entries node : ℕ) (t₀ : Bytes) (held : ℕ) where
  pub judging_starts : Walk s first_entry entries → (x : FrontCursor) → x ≡ cursor_at first_entry entries 1 0
      → Judging ps count s entries node t₀ held t₀ x held
  judging_starts w x ex =
      subst (λ (y : FrontCursor). Judging ps count s entries node t₀ held t₀ y held) (sym ex)
      (record { cursor = refl; holds = refl; table = refl; walkable = first_walkable s count entries w })

  module _ (t : Bytes) (x : FrontCursor) (n : ℕ) (j : Judging ps count s entries node t₀ held t x n) where
    ends : End ps count s x ≡ x → Noted ps count s node x ≡ [] → ReachedAs ps count s entries node t₀ held n x t
    unfolding held_all bytes_all
    ends e z =
        record {
          cursor = sym (j.cursor ∙ e);
          holds = sym (j.holds ∙ ap (held_all t n) z);
          table = sym (j.table ∙ ap (bytes_all t n) z);
        }

    -- the place with so many entries left
    abbrev With : ℕ → FrontCursor
    With m = cursor_at x.at m x.index.0 x.prefix.0

    pub judging_none : x.left ≤ 0 → ReachedAs ps count s entries node t₀ held n x t
    unfolding cursor_from stored_notes
    judging_none l =
        let z : x ≡ With 0 = ap With (let y : x.left ≡ 0 = omega arith in y) in
        ends (ap (End ps count s) z ∙ sym z) (ap (Noted ps count s node) z)

    module _ (h : 0 < x.left) where
      one_left : x ≡ With (suc (x.left - 1))
      one_left = ap With (let y : x.left ≡ suc (x.left - 1) = omega arith in y)

      ends_here : ends_at (prefix_row ps) count s x.at x.index.0 x.prefix.0 ≡ true → ReachedAs ps count s entries node t₀ held n x t
      ends_here e =
          ends
          (ap (End ps count s) one_left ∙ cursor_stays (prefix_row ps) count s x.at x.index.0 x.prefix.0 (x.left - 1) e ∙ sym one_left)
          (ap (Noted ps count s node) one_left ∙ stored_stays (prefix_row ps) count s x.at x.index.0 x.prefix.0 (x.left - 1) node e)

      module _ (e : ShownEntry) (q : e ≡ shown_entry s x.at) where
        index_read : e.index.0 ≡ index_at s x.at
        index_read = ap (λ (y : ShownEntry). y.index.0) q

        pub judging_gap : (e.index.0 ≡ x.index.0 → ⊥) → ReachedAs ps count s entries node t₀ held n x t
        judging_gap g = ends_here (ends_gap (prefix_row ps) count s x.at x.index.0 x.prefix.0 (λ y. g (index_read ∙ y)))

        module _ (g : e.index.0 ≡ x.index.0) where
          here_index : index_at s x.at ≡ x.index.0
          here_index = sym index_read ∙ g

          value : entry_value e ≡ (shown_at s x.at).entry
          value = entry_read s x.at e q (here s x.at x.left j.walkable.walk h).short

          pub judging_lost : next_number (prefix_row ps) count x.prefix.0 (entry_value e) ≡ 0 → ReachedAs ps count s entries node t₀ held n x t
          judging_lost z =
              ends_here (ends_lost (prefix_row ps) count s x.at x.index.0 x.prefix.0 here_index (ap (next_number (prefix_row ps) count x.prefix.0) (sym value) ∙ z))

          pub judging_next : (k : ℕ) → k ≡ next_number (prefix_row ps) count x.prefix.0 (entry_value e) → (next_number (prefix_row ps) count x.prefix.0 (entry_value e) ≡ 0 → ⊥)
              → (b : Bool) → b ≡ other (prefix_row ps) count e.index.0 e.term.0 k
              → (n' : ℕ) (t' : Bytes) → NotedAll t n (note_of b node e.index.0 e.term.0) n' t'
              → (y : FrontCursor) → y ≡ cursor_at e.next (x.left - 1) (x.index.0 + 1) k
              → Judging ps count s entries node t₀ held t' y n'
          judging_next k ek z b eb n' t' en y ey =
              record {
                cursor = j.cursor ∙ ap (End ps count s) one_left ∙ cursor_goes (prefix_row ps) count s x.at x.index.0 x.prefix.0 (x.left - 1) goes ∙ ap (End ps count s) after;
                holds = j.holds ∙ ap (held_all t n) noted ∙ held_then t n _ n' t' en _;
                table = j.table ∙ ap (bytes_all t n) noted ∙ bytes_then t n _ n' t' en _;
                walkable = subst (Walkable s count) after
                    (walkable_next (prefix_row ps) count s (x.left - 1) x.at x.index.0 x.prefix.0 (subst (Walkable s count) one_left j.walkable) here_index);
              }
            where
              number : next_number (prefix_row ps) count x.prefix.0 (shown_at s x.at).entry ≡ k
              number = ap (next_number (prefix_row ps) count x.prefix.0) (sym value) ∙ sym ek

              next : next_at s x.at ≡ e.next
              next = sym (ap (λ (v : ShownEntry). v.next) q)

              after : cursor_at (next_at s x.at) (x.left - 1) (x.index.0 + 1) (next_number (prefix_row ps) count x.prefix.0 (shown_at s x.at).entry) ≡ y
              after = (λ i. cursor_at (next i) (x.left - 1) (x.index.0 + 1) (number i)) ∙ sym ey

              goes : ends_at (prefix_row ps) count s x.at x.index.0 x.prefix.0 ≡ false
              goes = goes_on (prefix_row ps) count s x.at x.index.0 x.prefix.0 here_index (λ v. z (ap (next_number (prefix_row ps) count x.prefix.0) value ∙ v))

              noted : Noted ps count s node x ≡ note_of b node e.index.0 e.term.0 ++ Noted ps count s node y
              noted =
                  ap (Noted ps count s node) one_left ∙ stored_goes (prefix_row ps) count s x.at x.index.0 x.prefix.0 (x.left - 1) node goes
                  ∙ (let term = sym (ap (λ (v : ShownEntry). v.term.0) q) in
                  λ i. note_of (other (prefix_row ps) count (sym g i) (term i) (number i)) node (sym g i) (term i) ++ Noted ps count s node (after i))
                  ∙ ap (λ (v : Bool). note_of v node e.index.0 e.term.0 ++ Noted ps count s node y) (sym eb)

-- ---- the walk along the rest

lack_cons : (row : ℕ → PrefixRow) (n node i : ℕ) (e : Entry) (es : List Entry)
    → lack_notes row n node i (e ∷ es) ≡ note_of (is_remembered row n i e.term) node i e.term ++ lack_notes row n node (i + 1) es
unfolding lack_notes
lack_cons row n node i e es = refl

-- its LG-03, from a place on
abbrev Lacked : Bytes → ℕ → ViewBits → ℕ → FrontCursor → List Finding
Lacked ps count s node x = lack_notes (prefix_row ps) count node x.index.0 (front_at s x)

pub record Lacking (ps : Bytes) (count : ℕ) (s : ViewBits) (r : FrontCursor) (node : ℕ) (t₀ : Bytes) (held : ℕ) (t : Bytes) (x : FrontCursor) (missing n : ℕ) : Type 0 where
  pub lacks : length (front_at s r) ≡ missing + length (front_at s x)
  pub holds : held_all t₀ held (Lacked ps count s node r) ≡ held_all t n (Lacked ps count s node x)
  pub table : bytes_all t₀ held (Lacked ps count s node r) ≡ bytes_all t n (Lacked ps count s node x)
  pub walk : Walk s x.at x.left
  pub small : x.index.0 ≤ 257
  pub below : missing < x.index.0

module _ (ps : Bytes) (count : ℕ) (s : ViewBits) (r : FrontCursor) (node : ℕ) (t₀ : Bytes) (held : ℕ) where
  module _ (t : Bytes) (x : FrontCursor) (missing n : ℕ) (j : Lacking ps count s r node t₀ held t x missing n) where
    pub lacking_ends : front_at s x ≡ [] → LackingAs ps count s r.at r.left r.index.0 node t₀ held missing n t
    unfolding lack_notes held_all bytes_all
    lacking_ends e =
        record {
          lack = (let a = j.lacks in let b = ap length e in omega arith);
          holds = sym (j.holds ∙ ap (λ (es : List Entry). held_all t n (lack_notes (prefix_row ps) count node x.index.0 es)) e);
          table = sym (j.table ∙ ap (λ (es : List Entry). bytes_all t n (lack_notes (prefix_row ps) count node x.index.0 es)) e);
        }

    pub lacking_next : 0 < x.left → (e : ShownEntry) → e ≡ shown_entry s x.at → e.index.0 ≡ x.index.0
        → (b : Bool) → b ≡ is_remembered (prefix_row ps) count e.index.0 e.term.0
        → (n' : ℕ) (t' : Bytes) → NotedAll t n (note_of b node e.index.0 e.term.0) n' t'
        → (y : FrontCursor) → y ≡ cursor_at e.next (x.left - 1) (x.index.0 + 1) x.prefix.0
        → Lacking ps count s r node t₀ held t' y (missing + 1) n'
    lacking_next h e q g b eb n' t' en y ey =
        subst (λ (v : FrontCursor). Lacking ps count s r node t₀ held t' v (missing + 1) n') (sym ey)
        (record {
          lacks = (let a = j.lacks in let c = ap length steps in omega arith);
          holds = j.holds ∙ ap (held_all t n) noted ∙ held_then t n _ n' t' en _;
          table = j.table ∙ ap (bytes_all t n) noted ∙ bytes_then t n _ n' t' en _;
          walk = walk_next s x.at x.left x.index.0 j.walk h e q;
          small = (let v = index_within s x.at x.left x.index.0 j.walk h e q g in omega arith);
          below = (let v = j.below in omega arith);
        })
      where
        after : FrontCursor
        after = cursor_at e.next (x.left - 1) (x.index.0 + 1) x.prefix.0

        steps : front_at s x ≡ entry_value e ∷ front_at s after
        steps = front_shown s x.at x.left x.index.0 e j.walk h q g

        noted : Lacked ps count s node x ≡ note_of b node e.index.0 e.term.0 ++ Lacked ps count s node after
        noted =
            ap (lack_notes (prefix_row ps) count node x.index.0) steps ∙ lack_cons (prefix_row ps) count node x.index.0 (entry_value e) (front_at s after)
            ∙ (λ i. note_of (is_remembered (prefix_row ps) count (sym g i) e.term.0) node (sym g i) e.term.0 ++ Lacked ps count s node after)
            ∙ ap (λ (v : Bool). note_of v node e.index.0 e.term.0 ++ Lacked ps count s node after) (sym eb)
