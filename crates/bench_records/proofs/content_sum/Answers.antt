-- `bench_records::content_sum` meets its contract: the sum is what was added, and the sum of what is left.
-- Assumes nothing.
use Prim.Native.Nat.{ℕ}
use mathlib.Core.Path.{◌∙◌, ap}
use native.Mathlib.Omega.{arith}
use lib.ListN.{length}
use Rattle.std.proofs.lemmas.List.{length-take}
use Rattle.bench_records.proofs.Sums.{sum_next, sum_end}
use Rattle.bench_records.specs.Used.{sum_of}
use Rattle.bench_records.proofs.content_sum.Goals as goal

pub loop-x-preserved : goal.loop-x-preserved
loop-x-preserved c =
    (omega arith, sum_next _ c.loop-x.sum c.loop-x.x-index _ c.loop-x.invariant.1 c.loop-x-test.true c.from-sum.ensures)

pub returns : goal.returns
returns c =
    let h = c.requires in
    let e = c.content-x-items.ensures in
    let l = ap length e in (
      sum_end _ c.loop-x.sum c.loop-x.x-index c.loop-x.invariant.1 c.loop-x-test.false ∙ ap sum_of e,
      omega (arith, l, length-take {A = ℕ}),
    )
