-- What an accepted view writes: the prefixes of its front, the node's row, the findings.
-- Assumes nothing.
use Rattle.std.specs.Prelude.{ℕ, ◌+◌, ◌-◌, ◌*◌, ◌≤◌, ◌≡◌, true}
use Rattle.record_entries.specs.BitLayout.{ViewBits}
use Rattle.model.specs.Record.{front}
use Rattle.model.specs.Sizes.{Bytes, prefix_limit}
use Rattle.storage_bytes.specs.Words.{put_bytes}
use Rattle.storage_bytes.specs.Layout.{nodes_start, node_width}
use Rattle.storage.specs.Tables.{row_of_node, nodes_part}
use Rattle.storage.specs.Writes.{node_bytes}
use Rattle.storage.specs.Rules.{well_formed}
use Rattle.storage.specs.Head.{prefixes_held}
use Rattle.logical_log.specs.declared.judging.FrontCursor.{FrontCursor}
use Rattle.log_prefix.specs.Extension.{next_index, written_bytes, written_count, written_number}
use Rattle.logical_log.specs.Judging.{front_at, Walkable, last_at}
use Rattle.log_violation.specs.Violation.{findings_kept}

-- what storing the front of a view from a place on asks: well-formed storage that holds n prefixes, a place at the index after
-- its prefix, and room for what is left of the front
pub record Storing (h : Bytes) (n : ℕ) (s : ViewBits) (r : FrontCursor) : Type 0 where
  pub right : well_formed h ≡ true
  pub count : n ≡ prefixes_held h
  pub walkable : Walkable s n r
  pub next : r.index.0 ≡ next_index h r.prefix.0
  pub room : written_count h n r.prefix.0 r.index.0 (front_at s r) ≤ prefix_limit

-- how many of its prefixes are made
unfoldable pub rest_made : Bytes → ℕ → ViewBits → FrontCursor → ℕ
unfolding written_count
rest_made h n s r = written_count h n r.prefix.0 r.index.0 (front_at s r) - n

-- and what it does: the number of the front, how many were made, and the history
pub record StoredAs (h : Bytes) (n : ℕ) (s : ViewBits) (r : FrontCursor) (number count : ℕ) (h' : Bytes) : Type 0 where
  pub is : number ≡ written_number h n r.prefix.0 r.index.0 (front_at s r)
  pub made : count ≡ rest_made h n s r
  pub bytes : h' ≡ written_bytes h n r.prefix.0 r.index.0 (front_at s r)

-- "an accepted view replaces the node's earlier one": the node's row, its unseen mark as it was
unfoldable pub view_replaced : Bytes → ℕ → ℕ → ℕ → Bytes
view_replaced h k front last =
    put_bytes h (nodes_start + k * node_width) (node_bytes (record { front = front; last = last; unseen = (row_of_node (nodes_part h) k).unseen }))

-- what is left of a view from a place on, the node's row and the findings
unfoldable pub rest_written : Bytes → ℕ → ViewBits → FrontCursor → ℕ → Bytes → ℕ → Bytes
unfolding written_bytes written_number view_replaced findings_kept
rest_written h n s r node t held =
    let es = front_at s r in
    findings_kept (view_replaced (written_bytes h n r.prefix.0 r.index.0 es) node (written_number h n r.prefix.0 r.index.0 es) (last_at s r)) t held
