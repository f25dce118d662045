-- Laws for the loops of callers: the entries of a readable view and the rows, one after the other.
-- Assumes nothing.
use Prim.Native.Nat.{ℕ, ◌+◌, ◌-◌, ◌≤◌, ◌<◌}
use mathlib.Core.Path.{◌≡◌, sym, ap, ◌∙◌}
use mathlib.Core.List.{[], ◌∷◌}
use native.Mathlib.Omega.{arith}
use lib.ListN.{length, take, replicate, length-append, length-replicate}
use lib.Seq.{take_at}
use Rattle.std.specs.Prelude.{Some}
use Rattle.model.specs.Sizes.{Bytes, content_limit}
use Rattle.model.specs.Record.{last_from}
use Rattle.model.specs.Reading.{shown, row}
use Rattle.record_entries.specs.BitLayout.{ViewBits, index_of, node_of, content_place, shown_in, next_in, shown_at, next_at, entries_at, index_at, length_at, content_at, row_at, after_row, rows_at, Walk, RowWalk}
use Rattle.record_entries.specs.declared.walk.ShownEntry.{ShownEntry}
use Rattle.record_entries.specs.Values.{shown_entry, Here, RowHere, EntryTaken}
use Rattle.record_bits.proofs.Widths.{bytes_length}
use Rattle.record_entries.proofs.Given.{Entered, Rowed, shown_is, row_is}
use Rattle.record_entries.proofs.Scanned.{entry_listed, row_listed}
use Rattle.record_entries.proofs.Listed.{walk_item, walk_next, items_none, items_next, items_length}

-- With 0 < n left at bit k, the model's remaining entries are the one there and those after it

module _ (s : ViewBits) (k n : ℕ) where
  pub entries_none : n ≤ 0 → entries_at s k n ≡ []
  entries_none h = items_none (shown_in s.marked) (next_in s.marked) s.bytes k n h

  pub entries_next : 0 < n → entries_at s k n ≡ shown_at s k ∷ entries_at s (next_at s k) (n - 1)
  entries_next h = items_next (shown_in s.marked) (next_in s.marked) s.bytes k n h

  pub entries_length : length (entries_at s k n) ≡ n
  entries_length = items_length (shown_in s.marked) (next_in s.marked) s.bytes k n

  pub next_walk : Walk s k n → 0 < n → Walk s (next_at s k) (n - 1)
  next_walk w h =
      walk_next (shown s.marked) index_of (shown_in s.marked) (next_in s.marked) 305 s.bytes (entry_listed s.marked s.bytes) k n w h

  -- all that is known of the entry there
  pub walk_entered : (w : Walk s k n) → 0 < n → Entered s w.least k (shown_at s k) (next_at s k)
  walk_entered w h =
      shown_is s.marked s.bytes w.least k
      (walk_item (shown s.marked) index_of (shown_in s.marked) (next_in s.marked) 305 s.bytes (entry_listed s.marked s.bytes) k n w h)

  -- what `entry_at`, `index_at` and `next_at` ask
  pub here : Walk s k n → 0 < n → Here s k
  here w h =
      let e = walk_entered w h in
      record { near = omega (arith, w.near); short = e.short; whole = e.whole }

-- what an iterator of entries took from the bytes s, at bit k with n left
pub record Taken (s : ViewBits) (k n : ℕ) (e : ShownEntry) (t : ViewBits) (j m : ℕ) : Type 0 where
  pub some : 0 < n
  pub is : e ≡ shown_entry s k
  pub view : t ≡ s
  pub next : j ≡ e.next
  pub left : m ≡ n - 1

pub entry_taken : {s b : ViewBits} (same : b ≡ s) {k n j m : ℕ} {e : ShownEntry} {t : ViewBits} → EntryTaken b k n (Some e) t j m → Taken s k n e t j m
entry_taken same {k} took =
    record {
      some = omega (arith, took.3);
      is = took.0 ∙ ap (λ (x : ViewBits). shown_entry x k) same;
      view = took.1 ∙ same;
      next = took.2 ∙ sym (ap (λ (x : ShownEntry). x.next) took.0);
      left = omega (arith, took.3);
    }

-- the model's content is the first `length` bytes of the array
pub entry_content : (s : ViewBits) (k : ℕ) → take (length_at s k) (shown_entry s k).content ≡ (shown_at s k).entry.content
entry_content s k = take_at (content_at s k) _ (length_at s k) (bytes_length s.bytes (k + content_place s.marked) (length_at s k))

-- the array is as long as the longest content
pub entry_length : (s : ViewBits) (k : ℕ) → length_at s k ≤ content_limit → length (shown_entry s k).content ≡ content_limit
entry_length s k h =
    let n : ℕ = length_at s k in
    length-append (content_at s k) (replicate (content_limit - n) 0)
    ∙ omega (arith, bytes_length s.bytes (k + content_place s.marked) n, length-replicate {A = ℕ} (content_limit - n) 0)

-- the same for rows

module _ (s : Bytes) (k n : ℕ) where
  pub rows_none : n ≤ 0 → rows_at s k n ≡ []
  rows_none h = items_none row_at after_row s k n h

  pub rows_next : 0 < n → rows_at s k n ≡ row_at s k ∷ rows_at s (after_row s k) (n - 1)
  rows_next h = items_next row_at after_row s k n h

  pub rows_length : length (rows_at s k n) ≡ n
  rows_length = items_length row_at after_row s k n

  pub next_row_walk : RowWalk s k n → 0 < n → RowWalk s (after_row s k) (n - 1)
  next_row_walk w h = walk_next row node_of row_at after_row 122 s (row_listed s) k n w h

  pub walk_rowed : (w : RowWalk s k n) → 0 < n → Rowed s w.least k (row_at s k) (after_row s k)
  walk_rowed w h = row_is s w.least k (walk_item row node_of row_at after_row 122 s (row_listed s) k n w h)

  -- what `row_at` asks
  pub row_here : RowWalk s k n → 0 < n → RowHere s k
  row_here w h = record { near = omega (arith, w.near); whole = (walk_rowed w h).whole }

-- ---- the last index, entry by entry

module _ (s : ViewBits) (k n : ℕ) where
  pub last_next : {t : ℕ} (m i : ℕ) → t ≡ last_from m (entries_at s k n) → 0 < n → i ≡ index_at s k
      → t ≡ last_from i (entries_at s (next_at s k) (n - 1))
  unfolding last_from
  last_next m i e h p = e ∙ rw (entries_next s k n h, p)

  pub last_end : {t : ℕ} (m : ℕ) → t ≡ last_from m (entries_at s k n) → n ≤ 0 → m ≡ t
  unfolding last_from
  last_end m e h = sym (e ∙ rw (entries_none s k n h))
