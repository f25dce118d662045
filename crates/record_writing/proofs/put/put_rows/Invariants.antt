-- `record_writing::put::put_rows` meets its contract: the rows that are left give the rest.
-- Assumes nothing.
use Prim.Native.Nat.{◌-◌}
use lib.ListN.{length}
use Rattle.record_writing.specs.Puts.{rows_by}
use Rattle.record_writing.proofs.Puts.{Left}
use Rattle.record_writing.proofs.put.put_rows.Given as goal

abbrev pub invariant-loop : goal.invariant-loop
invariant-loop l =
    Left l.initial.t l.at (rows_by l.fields l.from l.count) (length l.fields) l.k l.t l.next (rows_by l.fields l.k (l.count - l.counter))
