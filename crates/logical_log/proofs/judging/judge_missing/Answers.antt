-- `logical_log::judging::judge_missing` meets its contract.
-- Assumes nothing.
use Prim.Native.Nat.{◌+◌}
use mathlib.Core.Path.{◌≡◌, ap, ◌∙◌}
use native.Mathlib.Omega.{arith}
use borrow.Author.Rules.{rules}
use Rattle.record_entries.specs.BitLayout.{bits_of}
use Rattle.std.specs.Prelude.{is_some}
use Rattle.record_entries.proofs.Walks.{entry_taken}
use Rattle.logical_log.specs.Judging.{cursor_at}
use Rattle.logical_log.proofs.Turns.{told, untold, remembered_is, lacking_next, lacking_ends, front_none, front_gap}
use Rattle.logical_log.proofs.judging.judge_missing.Goals as goal
use Rattle.logical_log.proofs.judging.judge_missing.Goals.{then-is_some, else-is_some}

pub loop-e-preserved : goal.loop-e-preserved
loop-e-preserved c =
    let l = c.loop-e in
    let took = entry_taken l.invariant.0 c.in-Some.ensures.steps in
    let index : c.args.rest.index.0 + (l.missing + 1) ≡ c.args.rest.index.0 + l.missing + 1 = omega arith in
    let known : c.is_some.result ≡ is_some c.first_of.result = search rules in (
      took.view,
      lacking_next _ _ _ _ _ _ _ _ _ _ _ l.invariant.1 took.some _ took.is c.if-e-rest.false _ (known ∙ ap is_some c.first_of.ensures ∙ remembered_is _ _ _ _) _ _
          (elim c.if-is_some.branch [
            | then-is_some w ↦ told _ _ _ _ w.if-is_some.true _ w.lg03.ensures _ w.notes-is w.note.ensures
            | else-is_some w ↦ untold _ _ _ _ w.if-is_some.false w.notes-is
          ])
          _ (λ i. cursor_at (took.next i) (took.left i) (index i) c.args.rest.prefix.0),
    )

pub returns-in-None : goal.returns-in-None
returns-in-None c =
    let s = bits_of c.args.view.shown.bytes.now c.args.view.shown.marked in
    lacking_ends _ _ _ _ _ _ _ _ _ _ _ c.loop-e.invariant.1
    (front_none s c.loop-e.e-iterator.next c.loop-e.e-iterator.left _ (omega (arith, c.in-None.ensures.steps)))

pub returns-then-e-rest : goal.returns-then-e-rest
returns-then-e-rest c =
    let took = entry_taken c.loop-e.invariant.0 c.in-Some.ensures.steps in
    lacking_ends _ _ _ _ _ _ _ _ _ _ _ c.loop-e.invariant.1
    (front_gap _ _ _ _ c.loop-e.invariant.1.walk took.some _ took.is c.if-e-rest.true)
