-- `record_writing::put::put_content` meets its contract: the bytes that are left give the rest.
-- Assumes nothing.
use Prim.Native.Nat.{ℕ, ◌+◌, ◌-◌, ◌*◌}
use lib.ListN.{length, get_or}
use Rattle.storage_bytes.specs.Lists.{tabulate}
use Rattle.record_writing.specs.Spans.{span}
use Rattle.record_writing.specs.Puts.{contents_by}
use Rattle.record_writing.proofs.Puts.{Left}
use Rattle.record_writing.proofs.put.put_content.Given as goal

abbrev pub invariant-loop-i : goal.invariant-loop-i
invariant-loop-i l =
    Left l.initial.rest l.at (contents_by l.fields l.from l.n) (length l.fields) (l.from + l.i) l.rest (l.at + 8 * l.i)
    (tabulate (λ (i : ℕ). span 8 (get_or l.fields (l.from + i) 0)) l.i (l.n - l.i))
