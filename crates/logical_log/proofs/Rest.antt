-- What is left to write of a view after the walk along its stored prefixes: to write its front from that place on is to write all
-- of it.
-- Assumes nothing.
use Prim.Native.Nat.{ℕ, zero, suc, ◌+◌, ◌-◌, ◌≤◌}
use native.Mathlib.Omega.{arith}
use mathlib.Core.Path.{◌≡◌, refl, sym, ◌∙◌, ap, subst}
use mathlib.Core.Bool.{false}
use mathlib.Core.List.{[], ◌∷◌}
use lib.Dec.{eqb}
use lib.ListN.{length, length-append}
use borrow.Author.Tests.{ne_eqb}
use Rattle.model.specs.Entry.{Entry}
use Rattle.model.specs.Record.{front_from, front, last_from, last_index}
use Rattle.model.specs.Sizes.{Bytes, content_limit}
use Rattle.record_entries.specs.BitLayout.{ViewBits, Walk, first_entry, index_at, next_at, shown_at, entries_at, items_at}
use Rattle.storage.specs.Tables.{PrefixRow, prefix_row, rows_of_prefixes, prefixes_part}
use Rattle.storage.specs.Values.{number_index}
use Rattle.storage.specs.Decode.{prefix_at, resolve}
use Rattle.storage.specs.Head.{prefixes_held}
use Rattle.storage.proofs.WellFormed.{Formed, rows_index, formed_rows}
use Rattle.log_prefix.specs.Prefix.{row_of, find}
use Rattle.log_prefix.proofs.PrefixLaws.{found}
use Rattle.log_prefix.proofs.TableLaws.{rows_length, rows_at}
use Rattle.log_prefix.specs.Extension.{next_index, extension_in, written_bytes, written_count, written_number}
use Rattle.log_prefix.proofs.Written.{number_found, count_found, bytes_found, written_cons}
use Rattle.logical_log.specs.Judging.{next_number, cursor_at, front_at, last_at, Walkable, cursor_in}
use Rattle.logical_log.specs.declared.judging.FrontCursor.{FrontCursor}
use Rattle.logical_log.proofs.Cursors.{next, cursor_keeps, front_suc, content_short, walkable_next, first_walkable}

-- a place of a view of m entries such that what is before it writes nothing
pub record Rest (h : Bytes) (s : ViewBits) (m : ℕ) (r : FrontCursor) : Type 0 where
  pub bytes : written_bytes h (prefixes_held h) 0 1 (front (entries_at s first_entry m)) ≡ written_bytes h (prefixes_held h) r.prefix.0 r.index.0 (front_at s r)
  pub counts : written_count h (prefixes_held h) 0 1 (front (entries_at s first_entry m)) ≡ written_count h (prefixes_held h) r.prefix.0 r.index.0 (front_at s r)
  pub number : written_number h (prefixes_held h) 0 1 (front (entries_at s first_entry m)) ≡ written_number h (prefixes_held h) r.prefix.0 r.index.0 (front_at s r)
  pub last : last_index (entries_at s first_entry m) ≡ last_at s r
  pub next : r.index.0 ≡ next_index h r.prefix.0

module _ (h : Bytes) (f : Formed h) (s : ViewBits) (m : ℕ) where
  abbrev count : ℕ
  count = prefixes_held h

  abbrev row : ℕ → PrefixRow
  row = prefix_row (prefixes_part h)

  -- the number of the next prefix
  abbrev number_at : ℕ → ℕ → ℕ → ℕ
  number_at at i p = next row count s at i p

  extension_is : (p : ℕ) (e : Entry) → extension_in h count p e ≡ next_number row count p e
  unfolding extension_in
  extension_is p e = refl

  -- a stored extension is one index longer
  index_next : (p i k : ℕ) (e : Entry) → p ≤ count → length e.content ≤ content_limit → i ≡ next_index h p
      → next_number row count p e ≡ k → (k ≡ 0 → ⊥) → i + 1 ≡ next_index h k
  index_next p i zero e l short w ek z = absurd (z refl)
  index_next p i (suc k) e l short w ek z =
      let g = formed_rows h f in
      let size = rows_length (prefixes_part h) count in
      let x = found row (rows_of_prefixes (prefixes_part h) count) g (rows_at (prefixes_part h) count) p 0 e (subst (λ (n : ℕ). p ≤ n) (sym size) l) short k
      (ap (λ (n : ℕ). find row n (row_of p 0 e)) size ∙ ek) in
      let a = rows_index (prefixes_part h) count p g l in
      let b = rows_index (prefixes_part h) count (suc k) g (subst (λ (n : ℕ). suc k ≤ n) size x.0) in
      let c = ap length x.1 ∙ length-append (prefix_at (resolve (rows_of_prefixes (prefixes_part h) count)) p) (e ∷ []) in
      omega arith

  last_suc : (at n d : ℕ) → last_from d (entries_at s at (suc n)) ≡ last_from (index_at s at) (entries_at s (next_at s at) n)
  unfolding last_from items_at
  last_suc at n d = refl

  -- past an entry whose prefix is stored
  rest_next : (n at i p : ℕ) → Walkable s count (cursor_at at (suc n) i p) → Rest h s m (cursor_at at (suc n) i p) → index_at s at ≡ i → (number_at at i p ≡ 0 → ⊥)
      → Rest h s m (cursor_at (next_at s at) n (i + 1) (number_at at i p))
  rest_next n at i p st w g z =
      let e = (shown_at s at).entry in
      let R = front_from (i + 1) (entries_at s (next_at s at) n) in
      let there : eqb (extension_in h count p e) 0 ≡ false = ap (λ (x : ℕ). eqb x 0) (extension_is p e) ∙ ne_eqb (number_at at i p) 0 z in
      let steps = front_suc s at n i g in
      let u = written_cons h count p i e R in
      let b = bytes_found h count p i e there in
      let c = count_found h count p e there in
      let d = number_found h count p e there ∙ extension_is p e in
      record {
        bytes = w.bytes ∙ ap (written_bytes h count p i) steps ∙ u.0 ∙ (λ j. written_bytes (b j) (c j) (d j) (i + 1) R);
        counts = w.counts ∙ ap (written_count h count p i) steps ∙ u.1 ∙ (λ j. written_count (b j) (c j) (d j) (i + 1) R);
        number = w.number ∙ ap (written_number h count p i) steps ∙ u.2 ∙ (λ j. written_number (b j) (c j) (d j) (i + 1) R);
        last = w.last ∙ last_suc at n (i - 1) ∙ ap (λ (x : ℕ). last_from x (entries_at s (next_at s at) n)) (let y : index_at s at ≡ i + 1 - 1 = omega arith in y);
        next = index_next p i (number_at at i p) e st.number (content_short s at n st.walk) w.next refl z;
      }

  -- the walk's own place is one
  pub rest_of : Walk s first_entry m → Rest h s m (cursor_in h s m)
  unfolding cursor_in
  rest_of w =
      (cursor_keeps row count s (λ (r : FrontCursor). Walkable s count r × Rest h s m r)
      (λ n at i p k g z. (walkable_next row count s n at i p k.0 g, rest_next n at i p k.0 k.1 g z)) m first_entry 1 0
      (first_walkable s count m w, record { bytes = refl; counts = refl; number = refl; last = refl; next = first })).1
    where
      first : 1 ≡ next_index h 0
      first = (unfold number_index in refl)
