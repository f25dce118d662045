-- `record_entries::walk::Entries::next` meets its contract: with one left, an entry stands there, and the walk goes on after it.
-- Assumes nothing.
use Prim.Native.Nat.{◌-◌}
use native.Mathlib.Omega.{arith}
use Rattle.record_entries.specs.BitLayout.{Walk, bits_of}
use Rattle.record_entries.proofs.Walks.{here, next_walk}
use Rattle.record_entries.proofs.walk.EntriesIterator.next.Goals as goal

pub entry_at-e-requires : goal.entry_at-e-requires
entry_at-e-requires c = here _ _ _ c.requires (omega arith)

pub returns-clause-goes : goal.returns-clause-goes
returns-clause-goes c =
    let s = c.args.self.now in
    let w : Walk (bits_of s.view.bytes.now s.view.marked) c.entry_at-e.result.next (s.left - 1) = rw c.entry_at-e.ensures (next_walk _ _ _ c.requires (omega arith)) in
    record { on = λ _. (w, tt, omega arith); keeps = w; rests = λ _. tt }
