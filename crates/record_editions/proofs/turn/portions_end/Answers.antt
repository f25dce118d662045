-- `record_editions::turn::portions_end` meets its contract: the end is that of what is left.
-- Assumes nothing.
use Prim.Native.Nat.{◌+◌, ◌-◌}
use mathlib.Core.Path.{◌≡◌, sym, ◌∙◌}
use native.Mathlib.Omega.{arith}
use Rattle.record_entries.proofs.Walks.{here, next_walk}
use Rattle.record_editions.proofs.Entries.{portions_next, portions_stop, portions_none}
use Rattle.record_editions.proofs.turn.portions_end.Goals as goal

pub is_portion-requires : goal.is_portion-requires
is_portion-requires c = here _ _ _ c.loop.invariant.0 (omega arith)

pub next_at-at-requires : goal.next_at-at-requires
next_at-at-requires c = here _ _ _ c.loop.invariant.0 (omega arith)

pub returns-then-not-is_portion : goal.returns-then-not-is_portion
returns-then-not-is_portion c =
    sym (c.loop.invariant.1 ∙ portions_stop _ _ _ (omega arith) (sym c.is_portion.ensures ∙ c.if-not-is_portion.true))

pub loop-preserved : goal.loop-preserved
loop-preserved c =
    let l = c.loop in
    let d : c.args.count - (l.counter + 1) ≡ c.args.count - l.counter - 1 = omega arith in
    rw (c.next_at-at.ensures, d) (
      next_walk _ _ _ l.invariant.0 (omega arith),
      l.invariant.1 ∙ portions_next _ _ _ (omega arith) (sym c.is_portion.ensures ∙ c.if-not-is_portion.false),
    )

pub returns : goal.returns
returns c = sym (c.loop.invariant.1 ∙ portions_none _ _ _ (omega arith))
