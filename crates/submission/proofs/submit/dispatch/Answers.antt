-- `submission::submit::dispatch` meets its contract.
-- Assumes nothing.
use mathlib.Core.Path.{ap, sym, subst}
use Rattle.std.specs.Prelude.{Ok}
use Rattle.record_entries.specs.BitLayout.{ViewBits, Walk, first_entry}
use Rattle.record_reading.proofs.Readable.{view_some, view_walk, rows_walk}
use Rattle.submission.proofs.Dispatch.{view_node}
use Rattle.submission.proofs.submit.dispatch.Goals as goal

pub invariant_of-view : goal.invariant_of-view
invariant_of-view c =
    let t = c.requires.1 in
    let e = ap Ok c.in-View.is in
    record { walk = ∣ subst (λ (v : ViewBits). Walk v first_entry c.in-View.count) (sym c.of.ensures) (view_walk _ _ _ _ t e) ∣₁; is_node = view_node _ _ t _ _ e }

pub of-requires : goal.of-requires
of-requires c = view_some _ _ _ _ c.requires.1 (ap Ok c.in-View.is)

pub check_rows-requires : goal.check_rows-requires
check_rows-requires c = let s = c in rows_walk _ _ _ s.requires.1 (ap Ok c.in-Rows.is)
