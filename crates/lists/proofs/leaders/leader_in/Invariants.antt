-- `lists::leaders::leader_in` meets its contract. The invariant: the answer is that of the rounds that are left, above the leader reached.
-- Assumes nothing.
use Prim.Native.Nat.{◌-◌, ◌≤◌}
use mathlib.Core.Path.{◌≡◌}
use Rattle.storage.specs.Tables.{finding_rows}
use Rattle.lists.specs.Leaders.{leader_in, rounds_of}
use Rattle.lists.proofs.leaders.leader_in.Given as goal

abbrev pub invariant-loop : goal.invariant-loop
invariant-loop l =
    (l.counter ≤ l.n) × (leader_in (finding_rows l.findings l.m) l.n ≡ rounds_of (finding_rows l.findings l.m) l.found (l.n - l.counter))
