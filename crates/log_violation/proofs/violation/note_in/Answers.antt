-- `log_violation::violation::note_in` meets its contract.
-- Assumes nothing.
use Rattle.storage_rows.specs.Rows.{finding_value}
use Rattle.log_violation.proofs.ViolationLaws.{in_room, in_full}
use Rattle.log_violation.proofs.violation.note_in.Goals as goal

pub returns-then-n-gt-FINDING_LIMIT : goal.returns-then-n-gt-FINDING_LIMIT
returns-then-n-gt-FINDING_LIMIT c =
    in_full c.args.history.now (finding_value c.args.f) c.told-history _ c.finding_count-held.ensures.is _ _ c.note-n.ensures c.if-n-gt-FINDING_LIMIT.true

pub returns : goal.returns
returns c =
    in_room c.args.history.now (finding_value c.args.f) c.told-history _ c.finding_count-held.ensures.is _ _ c.note-n.ensures c.if-n-gt-FINDING_LIMIT.false _
    c.set_finding_count.ensures
