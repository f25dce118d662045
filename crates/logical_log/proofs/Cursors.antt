-- The place where the walk along the stored prefixes of a front ends, entry by entry.
-- Assumes nothing.
use Prim.Native.Nat.{ℕ, zero, suc, ◌+◌, ◌-◌, ◌≤◌}
use native.Mathlib.Omega.{arith}
use mathlib.Core.Path.{◌≡◌, refl, sym, ◌∙◌, ap, subst}
use mathlib.Core.Bool.{Bool, true, false, not, ◌||◌}
use mathlib.Core.Logic.{◌⊎◌, inl, inr, ⊎_elim}
use mathlib.Core.List.{List, [], ◌∷◌, ◌++◌, append_assoc}
use lib.Dec.{eqb}
use lib.ListN.{length}
use borrow.Author.Tests.{eq-eqb, ne_eqb, eqb-true, eqb-false}
use Rattle.model.specs.Entry.{Entry}
use Rattle.model.specs.Record.{front_from}
use Rattle.model.specs.Sizes.{content_limit}
use Rattle.model.proofs.Tests.{either, cond_true, cond_false}
use Rattle.record_entries.specs.BitLayout.{ViewBits, Walk, first_entry, index_at, length_at, next_at, shown_at, entries_at, items_at, content_place}
use Rattle.record_bits.proofs.Widths.{bytes_length}
use Rattle.record_entries.proofs.Walks.{next_walk, walk_entered, here}
use Rattle.storage.specs.Tables.{PrefixRow}
use Rattle.log_prefix.specs.Prefix.{search_from, find, is_of, first}
use Rattle.log_prefix.proofs.PrefixLaws.{searched}
use Rattle.logical_log.specs.Judging.{other, note_of, lack_notes, next_number, cursor_at, front_at, Walkable, ends_at, cursor_from, stored_notes, notes_from}
use Rattle.logical_log.specs.declared.judging.FrontCursor.{FrontCursor}

-- ---- a number found is one of the rows

search_within : (test : ℕ → Bool) (k n : ℕ) → search_from test k (n - k) ≤ n
search_within test k n =
    ⊎_elim (λ h. let a = h.number in let b = h.before in let c = h.after in omega arith)
    (λ m. let a = m.is_zero in omega arith) (searched test k (n - k))

pub first_within : (row : ℕ → PrefixRow) (n i t : ℕ) → first row n i t ≤ n
unfolding first
first_within row n i t = search_within (λ k. is_of i t (row k)) (i - 1) n

pub find_within : (row : ℕ → PrefixRow) (n : ℕ) (r : PrefixRow) → find row n r ≤ n
unfolding find
find_within row n r = search_within _ r.parent n

-- ---- the front, entry by entry

module _ (s : ViewBits) (at n i : ℕ) where
  pub front_suc : index_at s at ≡ i → front_from i (entries_at s at (suc n)) ≡ (shown_at s at).entry ∷ front_from (i + 1) (entries_at s (next_at s at) n)
  unfolding front_from items_at
  front_suc e = cond_true (eqb (index_at s at) i) _ [] (eq-eqb (index_at s at) i e)

  pub front_cut : (index_at s at ≡ i → ⊥) → front_from i (entries_at s at (suc n)) ≡ []
  unfolding front_from items_at
  front_cut e = cond_false (eqb (index_at s at) i) _ [] (ne_eqb (index_at s at) i e)

pub front_zero : (s : ViewBits) (at i : ℕ) → front_from i (entries_at s at zero) ≡ []
unfolding front_from items_at
front_zero s at i = refl

pub walk_more : (s : ViewBits) (at n : ℕ) → Walk s at (suc n) → Walk s (next_at s at) n
walk_more s at n w = subst (Walk s (next_at s at)) (let z : suc n - 1 ≡ n = omega arith in z) (next_walk s at (suc n) w (omega arith))

pub content_short : (s : ViewBits) (at n : ℕ) → Walk s at (suc n) → length (shown_at s at).entry.content ≤ content_limit
content_short s at n w =
    let a = bytes_length s.bytes (at + content_place s.marked) (length_at s at) in
    let b = (here s at (suc n) w (omega arith)).short in
    omega arith

-- ---- one turn of the walk

module _ (row : ℕ → PrefixRow) (count : ℕ) (s : ViewBits) (at i p : ℕ) where
  -- the number of the next prefix
  abbrev pub next : ℕ
  next = next_number row count p (shown_at s at).entry

  pub ends_gap : (index_at s at ≡ i → ⊥) → ends_at row count s at i p ≡ true
  ends_gap g = ap (λ (b : Bool). not b || eqb next 0) (ne_eqb (index_at s at) i g)

  pub ends_lost : index_at s at ≡ i → next ≡ 0 → ends_at row count s at i p ≡ true
  ends_lost g z = λ j. not (eq-eqb (index_at s at) i g j) || eq-eqb next 0 z j

  pub goes_on : index_at s at ≡ i → (next ≡ 0 → ⊥) → ends_at row count s at i p ≡ false
  goes_on g z = λ j. not (eq-eqb (index_at s at) i g j) || ne_eqb next 0 z j

  -- what it meets: another index, an entry whose prefix is not stored, or one whose prefix is
  pub data Turn : Type 0 where
    gap : (index_at s at ≡ i → ⊥) → Turn
    lost : index_at s at ≡ i → next ≡ 0 → Turn
    more : index_at s at ≡ i → (next ≡ 0 → ⊥) → Turn

  pub turn : Turn
  turn =
      ⊎_elim
      (λ a.
      ⊎_elim (λ b. lost (eqb-true (index_at s at) i a) (eqb-true next 0 b)) (λ b. more (eqb-true (index_at s at) i a) (eqb-false next 0 b)) (either (eqb next 0)))
      (λ a. gap (eqb-false (index_at s at) i a))
      (either (eqb (index_at s at) i))

  module _ (n : ℕ) where
    pub cursor_stays : ends_at row count s at i p ≡ true → cursor_from row count s at (suc n) i p ≡ cursor_at at (suc n) i p
    unfolding cursor_from
    cursor_stays e = cond_true (ends_at row count s at i p) _ _ e

    pub cursor_goes : ends_at row count s at i p ≡ false → cursor_from row count s at (suc n) i p ≡ cursor_from row count s (next_at s at) n (i + 1) next
    unfolding cursor_from
    cursor_goes e = cond_false (ends_at row count s at i p) _ _ e

    module _ (node : ℕ) where
      pub stored_stays : ends_at row count s at i p ≡ true → stored_notes row count node s at (suc n) i p ≡ []
      unfolding stored_notes
      stored_stays e = cond_true (ends_at row count s at i p) _ _ e

      pub stored_goes : ends_at row count s at i p ≡ false → stored_notes row count node s at (suc n) i p
          ≡ note_of (other row count i (shown_at s at).entry.term next) node i (shown_at s at).entry.term ++ stored_notes row count node s (next_at s at) n (i + 1) next
      unfolding stored_notes
      stored_goes e = cond_false (ends_at row count s at i p) _ _ e

      -- with those of the rest
      pub notes_stay : ends_at row count s at i p ≡ true
          → notes_from row count node s at (suc n) i p ≡ lack_notes row count node i (front_from i (entries_at s at (suc n)))
      notes_stay e = λ j. stored_stays e j ++ lack_notes row count node (cursor_stays e j).index.0 (front_at s (cursor_stays e j))

      pub notes_go : ends_at row count s at i p ≡ false → notes_from row count node s at (suc n) i p
          ≡ note_of (other row count i (shown_at s at).entry.term next) node i (shown_at s at).entry.term ++ notes_from row count node s (next_at s at) n (i + 1) next
      notes_go e =
          (λ j. stored_goes e j ++ lack_notes row count node (cursor_goes e j).index.0 (front_at s (cursor_goes e j)))
          ∙ append_assoc (note_of (other row count i (shown_at s at).entry.term next) node i (shown_at s at).entry.term) (stored_notes row count node s (next_at s at) n (i + 1) next) _

-- ---- the place as a whole

module _ (row : ℕ → PrefixRow) (count : ℕ) (s : ViewBits) where
  -- past an entry whose prefix is stored
  pub walkable_next : (n at i p : ℕ) → Walkable s count (cursor_at at (suc n) i p) → index_at s at ≡ i
      → Walkable s count (cursor_at (next_at s at) n (i + 1) (next row count s at i p))
  walkable_next n at i p w g =
      record {
        walk = walk_more s at n w.walk;
        number = find_within row count _;
        positive = omega arith;
        small = (let x = (walk_entered s at (suc n) w.walk (omega arith)).within in omega arith);
      }

  -- what holds where the walk begins and is kept past each entry whose prefix is stored holds at its place
  pub cursor_keeps : (P : FrontCursor → Type 0)
      → ((n at i p : ℕ) → P (cursor_at at (suc n) i p) → index_at s at ≡ i → (next row count s at i p ≡ 0 → ⊥) → P (cursor_at (next_at s at) n (i + 1) (next row count s at i p)))
      → (n at i p : ℕ) → P (cursor_at at n i p) → P (cursor_from row count s at n i p)
  unfolding cursor_from
  cursor_keeps P k zero at i p w = w
  cursor_keeps P k (suc n) at i p w = go (turn row count s at i p) (cursor_keeps P k n (next_at s at) (i + 1) (next row count s at i p))
    where
      go : Turn row count s at i p → (P (cursor_at (next_at s at) n (i + 1) (next row count s at i p)) → P (cursor_from row count s (next_at s at) n (i + 1) (next row count s at i p)))
          → P (cursor_from row count s at (suc n) i p)
      go (gap g) ih = subst P (sym (cursor_stays row count s at i p n (ends_gap row count s at i p g))) w
      go (lost g z) ih = subst P (sym (cursor_stays row count s at i p n (ends_lost row count s at i p g z))) w
      go (more g z) ih = subst P (sym (cursor_goes row count s at i p n (goes_on row count s at i p g z))) (ih (k n at i p w g z))

  pub cursor_walkable : (n at i p : ℕ) → Walkable s count (cursor_at at n i p) → Walkable s count (cursor_from row count s at n i p)
  cursor_walkable = cursor_keeps (Walkable s count) (λ n at i p w g z. walkable_next n at i p w g)

  -- at a place the front is at its end, or goes on with an entry whose prefix is not stored
  abbrev pub Ended : FrontCursor → Type 0
  Ended r = (front_at s r ≡ []) ⊎ ((e : Entry) × (es : List Entry) × (front_at s r ≡ e ∷ es) × (next_number row count r.prefix.0 e ≡ 0))

  pub cursor_ended : (n at i p : ℕ) → Ended (cursor_from row count s at n i p)
  unfolding cursor_from
  cursor_ended zero at i p = inl (front_zero s at i)
  cursor_ended (suc n) at i p = go (turn row count s at i p) (cursor_ended n (next_at s at) (i + 1) (next row count s at i p))
    where
      go : Turn row count s at i p → Ended (cursor_from row count s (next_at s at) n (i + 1) (next row count s at i p)) → Ended (cursor_from row count s at (suc n) i p)
      go (gap g) ih = subst Ended (sym (cursor_stays row count s at i p n (ends_gap row count s at i p g))) (inl (front_cut s at n i g))
      go (lost g z) ih =
          subst Ended (sym (cursor_stays row count s at i p n (ends_lost row count s at i p g z))) (inr ((shown_at s at).entry, front_from (i + 1) (entries_at s (next_at s at) n), front_suc s at n i g, z))
      go (more g z) ih = subst Ended (sym (cursor_goes row count s at i p n (goes_on row count s at i p g z))) ih

-- the place of a view begins at its first entry
pub first_walkable : (s : ViewBits) (count n : ℕ) → Walk s first_entry n → Walkable s count (cursor_at first_entry n 1 0)
first_walkable s count n w = record { walk = w; number = omega arith; positive = omega arith; small = omega arith }

-- a front has no more entries than there are indexes from its first on
pub front_most : (n : ℕ) (s : ViewBits) (at i : ℕ) → Walk s at n → i ≤ 257 → length (front_from i (entries_at s at n)) + i ≤ 257
front_most zero s at i w l = (let z = ap length (front_zero s at i) in omega arith)
front_most (suc n) s at i w l =
    ⊎_elim
    (λ a.
    let g = eqb-true (index_at s at) i a in
    let x = (walk_entered s at (suc n) w (omega arith)).within in
    let y = front_most n s (next_at s at) (i + 1) (walk_more s at n w) (omega arith) in
    let z = ap length (front_suc s at n i g) in
    omega arith)
    (λ a. let z = ap length (front_cut s at n i (eqb-false (index_at s at) i a)) in omega arith)
    (either (eqb (index_at s at) i))
