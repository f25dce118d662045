-- `bench_records::walk` meets its contract: the sum is what was added, and the sum of what is left.
-- Assumes nothing.
use mathlib.Core.Path.{refl, ap, ◌∙◌}
use native.Mathlib.Omega.{arith}
use lib.ListN.{take}
use Rattle.record_entries.specs.declared.walk.ShownEntry.{ShownEntry}
use Rattle.record_entries.proofs.Walks.{here, entry_content, entry_taken}
use Rattle.bench_records.proofs.Sums.{contents_next, contents_end}
use Rattle.bench_records.specs.Used.{sum_of}
use Rattle.bench_records.proofs.walk.Goals as goal

pub content_sum-sum-requires : goal.content_sum-sum-requires
content_sum-sum-requires c =
    let took = entry_taken refl c.in-Some.ensures.steps in
    let h = here _ _ _ c.loop-e.iterator.0 took.some in
    rw took.is h.short

pub loop-e-preserved : goal.loop-e-preserved
loop-e-preserved c =
    let l = c.loop-e in
    let took = entry_taken l.invariant.0 c.in-Some.ensures.steps in
    let sum = c.content_sum-sum.ensures.0 ∙ ap (λ (e : ShownEntry). sum_of (take e.length e.content)) took.is ∙ ap sum_of (entry_content _ _) in (
      took.view,
      omega (arith, took.left),
      omega (arith, took.left, took.some, c.content_sum-sum.ensures.1),
      rw (took.next, took.is, took.left) (contents_next _ _ _ _ _ l.invariant.3 took.some sum),
    )

pub returns : goal.returns
returns c = contents_end _ _ _ _ c.loop-e.invariant.3 (omega (arith, c.in-None.ensures.steps))
