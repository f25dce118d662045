-- `record_entries::walk::last_index` meets its contract: the last index is that of what is left.
-- Assumes nothing.
use Prim.Native.Nat.{◌+◌, ◌-◌}
use mathlib.Core.Path.{◌≡◌}
use native.Mathlib.Omega.{arith}
use Rattle.record_entries.proofs.Walks.{here, next_walk, last_next, last_end}
use Rattle.record_entries.proofs.walk.last_index.Goals as goal

pub index_at-last-requires : goal.index_at-last-requires
index_at-last-requires c = here _ _ _ c.loop.invariant.0 (omega arith)

pub next_at-at-requires : goal.next_at-at-requires
next_at-at-requires c = here _ _ _ c.loop.invariant.0 (omega arith)

pub loop-preserved : goal.loop-preserved
loop-preserved c =
    let l = c.loop in
    let d : c.args.count - (l.counter + 1) ≡ c.args.count - l.counter - 1 = omega arith in
    rw (c.next_at-at.ensures, d) (
      next_walk _ _ _ l.invariant.0 (omega arith),
      last_next _ _ _ _ _ l.invariant.1 (omega arith) c.index_at-last.ensures,
    )

pub returns : goal.returns
returns c = last_end _ _ _ _ c.loop.invariant.1 (omega arith)
