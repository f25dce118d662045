-- What the judging walks say of a view against a history.
-- Assumes nothing.
use Prim.Native.Nat.{ℕ, ◌≤◌}
use native.Mathlib.Omega.{arith}
use mathlib.Core.Path.{◌≡◌, sym, ◌∙◌, ap}
use mathlib.Core.List.{List, ◌++◌}
use lib.ListN.{length}
use Rattle.model.specs.History.{Finding}
use Rattle.model.specs.Sizes.{Bytes, index_limit}
use Rattle.record_entries.specs.BitLayout.{ViewBits, Walk, first_entry}
use Rattle.storage.specs.Tables.{prefix_row, prefixes_part, findings_part}
use Rattle.storage.specs.Head.{prefixes_held, findings_held}
use Rattle.log_violation.specs.Violation.{held_all, bytes_all}
use Rattle.log_violation.proofs.ViolationLaws.{held_then, bytes_then}
use Rattle.logical_log.specs.Judging.{front_at, lack_notes, Walkable, cursor_from, stored_notes, notes_from, ReachedAs, LackingAs, cursor_in, missing_in, notes_in, held_in, table_in, ViewJudged}
use Rattle.logical_log.specs.declared.judging.FrontCursor.{FrontCursor}
use Rattle.logical_log.proofs.Cursors.{cursor_walkable, first_walkable, Ended, cursor_ended, front_most}

-- both walks, over the history's prefixes and a copy of its findings
pub view_judged : (h : Bytes) (s : ViewBits) (m node : ℕ) (q t₀ : Bytes) (count held : ℕ) → count ≡ prefixes_held h → held ≡ findings_held h → q ≡ prefixes_part h → t₀ ≡ findings_part h
    → (held₁ : ℕ) (r : FrontCursor) (t₁ : Bytes) → ReachedAs q count s m node t₀ held held₁ r t₁
    → (missing held₂ : ℕ) (t₂ : Bytes) → LackingAs q count s r.at r.left r.index.0 node t₁ held₁ missing held₂ t₂
    → ViewJudged h s m node missing held₂ r t₂
unfolding cursor_in missing_in held_in table_in notes_in
view_judged h s m node q t₀ count held ec eh eq et held₁ r t₁ a missing held₂ t₂ b =
    record {
      cursor = cursor;
      lack = b.lack ∙ ap (λ (x : FrontCursor). length (front_at s x)) cursor;
      holds = b.holds ∙ sym (held_then t₀ held N held₁ t₁ (a.holds, a.table) (R r)) ∙ ap (λ (x : FrontCursor). held_all t₀ held (N ++ R x)) a.cursor
          ∙ (λ i. held_all (et i) (eh i) (notes_from (prefix_row (eq i)) (ec i) node s first_entry m 1 0));
      table = b.table ∙ sym (bytes_then t₀ held N held₁ t₁ (a.holds, a.table) (R r)) ∙ ap (λ (x : FrontCursor). bytes_all t₀ held (N ++ R x)) a.cursor
          ∙ (λ i. bytes_all (et i) (eh i) (notes_from (prefix_row (eq i)) (ec i) node s first_entry m 1 0));
    }
  where
    N : List Finding
    N = stored_notes (prefix_row q) count node s first_entry m 1 0

    R : FrontCursor → List Finding
    R x = lack_notes (prefix_row q) count node x.index.0 (front_at s x)

    cursor : r ≡ cursor_in h s m
    cursor = a.cursor ∙ (λ i. cursor_from (prefix_row (eq i)) (ec i) s first_entry m 1 0)

-- ---- what holds of the place, and of how many prefixes are missing

pub cursor_in_ended : (h : Bytes) (s : ViewBits) (m : ℕ) → Ended (prefix_row (prefixes_part h)) (prefixes_held h) s (cursor_in h s m)
unfolding cursor_in
cursor_in_ended h s m = cursor_ended (prefix_row (prefixes_part h)) (prefixes_held h) s m first_entry 1 0

module _ (h : Bytes) (s : ViewBits) (m : ℕ) (w : Walk s first_entry m) where
  pub cursor_in_walkable : Walkable s (prefixes_held h) (cursor_in h s m)
  unfolding cursor_in
  cursor_in_walkable = cursor_walkable (prefix_row (prefixes_part h)) (prefixes_held h) s m first_entry 1 0 (first_walkable s (prefixes_held h) m w)

  pub missing_most : missing_in h s m ≤ index_limit
  unfolding missing_in
  missing_most =
      let p = cursor_in_walkable in
      let x = front_most (cursor_in h s m).left s (cursor_in h s m).at (cursor_in h s m).index.0 p.walk p.small in
      let y = p.positive in
      omega arith
