-- Laws of the scanning loops: an entry and a row as they stand in the bytes, and lists that were scanned.
-- Assumes nothing.
use Prim.Native.Nat.{ℕ}
use mathlib.Core.Path.{◌≡◌, ap, ◌∙◌}
use Rattle.std.specs.Prelude.{Result, Ok}
use mathlib.Core.Bool.{Bool}
use mathlib.Core.List.{List}
use native.Mathlib.Omega.{arith}
use Rattle.model.specs.Sizes.{Bytes}
use Rattle.model.specs.Record.{Shown, Row}
use Rattle.model.specs.Reading.{got, many, shown, row}
use Rattle.record_bits.specs.declared.bits.Fault.{Fault}
use Rattle.record_entries.specs.Scans.{ended, end_part}
use Rattle.record_entries.specs.BitLayout.{index_of, node_of, bits_of, shown_in, next_in, entries_at, row_at, after_row, rows_at}
use Rattle.record_entries.proofs.Given.{mark_small, shown_is, row_is}
use Rattle.record_entries.proofs.Listed.{ListedAt, keyed_is, many_is}

-- ---- entries

pub entry_listed : (m : Bool) (s : Bytes) (least k : ℕ) (x : Shown) (j : ℕ) → shown m least s k ≡ got x j
    → ListedAt (shown_in m) (next_in m) 305 s k x j
entry_listed m s least k x j e =
    let h = shown_is m s least k e in
    record { value = h.value; end = h.next; within = omega (arith, h.short, mark_small m) }

-- ---- rows

pub row_listed : (s : Bytes) (least k : ℕ) (x : Row) (j : ℕ) → row least s k ≡ got x j
    → ListedAt row_at after_row 122 s k x j
row_listed s least k x j e =
    let h = row_is s least k e in
    record { value = h.value; end = h.next; within = omega arith }

-- ---- lists that were scanned

-- entries that were scanned are those in the bytes
pub entries_scanned : (m : Bool) (s : Bytes) (k n : ℕ) {r : Result ℕ Fault} {e : ℕ}
    → ended (many (shown m) index_of 0 n s k) ≡ end_part r
    → r ≡ Ok e → many (shown m) index_of 0 n s k ≡ got (entries_at (bits_of s m) k n) e
entries_scanned m s k n {e = e} p q =
    let d = keyed_is (λ x. 0) (many (shown m) index_of 0 n s k) (p ∙ ap end_part q) in
    let l = many_is (shown m) index_of (shown_in m) (next_in m) 305 s (entry_listed m s) 0 k n d.part in
    d.part ∙ ap (λ (es : List Shown). got es e) l.values

-- rows that were scanned are those in the bytes
pub rows_scanned : (s : Bytes) (k n : ℕ) {r : Result ℕ Fault} {e : ℕ} → ended (many row node_of 0 n s k) ≡ end_part r
    → r ≡ Ok e → many row node_of 0 n s k ≡ got (rows_at s k n) e
rows_scanned s k n {e = e} p q =
    let d = keyed_is (λ x. 0) (many row node_of 0 n s k) (p ∙ ap end_part q) in
    let m = many_is row node_of row_at after_row 122 s (row_listed s) 0 k n d.part in
    d.part ∙ ap (λ (rs : List Row). got rs e) m.values
