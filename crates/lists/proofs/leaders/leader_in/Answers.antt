-- `lists::leaders::leader_in` meets its contract.
-- Assumes nothing.
use Prim.Native.Nat.{◌+◌, ◌-◌}
use mathlib.Core.Path.{◌≡◌, sym}
use native.Mathlib.Omega.{arith}
use Rattle.storage.specs.Tables.{finding_rows}
use Rattle.lists.proofs.LeaderLaws.{rounds_start, rounds_next, rounds_done}
use Rattle.lists.proofs.leaders.leader_in.Goals as goal

pub loop-init : goal.loop-init
loop-init c =
    let s = c.args in
    (omega arith, rounds_start (finding_rows s.findings.now s.m) s.n c.least_from-found.ensures (let e : s.n - 0 ≡ s.n = omega arith in e))

pub loop-preserved : goal.loop-preserved
loop-preserved c =
    let s = c.args in (
      omega arith,
      rounds_next (finding_rows s.findings.now s.m) c.loop.found (s.n - c.loop.counter) c.loop.invariant.1 (omega arith) c.next_leader-found.ensures
          (let e : s.n - (c.loop.counter + 1) ≡ s.n - c.loop.counter - 1 = omega arith in e),
    )

pub returns : goal.returns
returns c =
    let s = c.args in
    sym (rounds_done (finding_rows s.findings.now s.m) c.loop.found (s.n - c.loop.counter) c.loop.invariant.1 (omega arith))
