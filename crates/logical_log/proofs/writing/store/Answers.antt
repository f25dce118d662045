-- `logical_log::writing::store` meets its contract.
-- Assumes nothing.
use Prim.Native.Nat.{◌+◌}
use mathlib.Core.Path.{refl, sym, ◌∙◌}
use native.Mathlib.Omega.{arith}
use Rattle.record_entries.proofs.Walks.{entry_taken}
use Rattle.log_prefix.specs.declared.prefix.Extended.{Extended}
use Rattle.log_prefix.proofs.Written.{answer_tells}
use Rattle.logical_log.specs.Judging.{cursor_at}
use Rattle.logical_log.proofs.WritingTurns.{writing_starts, writing_ends, writing_gap, writing_asks, writing_next}
use Rattle.logical_log.proofs.writing.store.Goals as goal

pub loop-e-init : goal.loop-e-init
loop-e-init c = rw c.into_iter-e-iterator.ensures.into_iter_gives (c.args.rest.index.0, refl, writing_starts _ _ _ _ c.requires)

pub extend-requires : goal.extend-requires
extend-requires c =
    let inv = c.loop-e.invariant in
    let took = entry_taken inv.1 c.in-Some.ensures.steps in
    writing_asks _ _ _ _ inv.2.storing took.some _ took.is

pub overflow_add-count : goal.overflow_add-count
overflow_add-count c =
    let inv = c.loop-e.invariant in
    let took = entry_taken inv.1 c.in-Some.ensures.steps in
    let a = writing_asks _ _ _ _ inv.2.storing took.some _ took.is in
    omega (arith, a.fits)

pub overflow_add-made : goal.overflow_add-made
overflow_add-made c =
    let inv = c.loop-e.invariant in
    let took = entry_taken inv.1 c.in-Some.ensures.steps in
    let a = writing_asks _ _ _ _ inv.2.storing took.some _ took.is in
    omega (arith, a.fits)

pub loop-e-preserved-in-Found : goal.loop-e-preserved-in-Found
loop-e-preserved-in-Found c =
    let l = c.loop-e in
    let inv = l.invariant in
    let took = entry_taken inv.1 c.in-Some.ensures.steps in
    let p = c.in-Found.p in (
      inv.0 + 1,
      took.view,
      writing_next _ _ _ _ _ _ _ inv.2 took.some _ took.is _ _ _
          (answer_tells l.history _ l.front.0 _ (Extended.Found p) _ (sym c.in-Found.is ∙ c.extend.ensures.0, c.extend.ensures.1))
          l.made refl _ (λ i. cursor_at (took.next i) (took.left i) (inv.0 + 1) p.0),
    )

pub loop-e-preserved : goal.loop-e-preserved
loop-e-preserved c =
    let l = c.loop-e in
    let inv = l.invariant in
    let took = entry_taken inv.1 c.in-Some.ensures.steps in
    let p = c.in-Made.p in (
      inv.0 + 1,
      took.view,
      writing_next _ _ _ _ _ _ _ inv.2 took.some _ took.is _ _ _
          (answer_tells l.history _ l.front.0 _ (Extended.Made p) _ (sym c.in-Made.is ∙ c.extend.ensures.0, c.extend.ensures.1))
          (l.made + 1) (omega arith) _ (λ i. cursor_at (took.next i) (took.left i) (inv.0 + 1) p.0),
    )

pub returns-in-None : goal.returns-in-None
returns-in-None c =
    writing_ends _ _ _ _ _ _ _ c.loop-e.invariant.2 (omega (arith, c.in-None.ensures.steps)) _ refl

pub returns-in-NotNext : goal.returns-in-NotNext
returns-in-NotNext c =
    let l = c.loop-e in
    let inv = l.invariant in
    let took = entry_taken inv.1 c.in-Some.ensures.steps in
    let o = answer_tells l.history _ l.front.0 _ Extended.NotNext _ (sym c.in-NotNext.is ∙ c.extend.ensures.0, c.extend.ensures.1) in
    writing_gap _ _ _ _ _ _ _ inv.2 took.some _ took.is o.0 _ o.1
