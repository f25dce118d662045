-- `record_writing::put::put_fields` meets its contract: the fields that are left give the rest.
-- Assumes nothing.
use Prim.Native.Nat.{ℕ, ◌+◌, ◌-◌}
use lib.ListN.{length, get_or}
use Rattle.storage_bytes.specs.Lists.{tabulate}
use Rattle.record_writing.specs.Spans.{span}
use Rattle.record_writing.specs.Puts.{spans_by}
use Rattle.record_writing.proofs.Puts.{Left}
use Rattle.record_writing.proofs.put.put_fields.Given as goal

abbrev pub invariant-loop-i : goal.invariant-loop-i
invariant-loop-i l =
    Left l.initial.t l.at (spans_by l.widths l.fields l.from) (length l.fields) (l.from + l.i) l.t l.next
    (tabulate (λ (i : ℕ). span (get_or l.widths i 0) (get_or l.fields (l.from + i) 0)) l.i (length l.widths - l.i))
