-- `record_writing::scan::scan_items` meets its contract: a turn takes one item from what is left of the list.
-- Assumes nothing.
use Prim.Native.Nat.{ℕ, suc, ◌+◌, ◌-◌, ◌<◌}
use mathlib.Core.Path.{◌≡◌, refl, ◌∙◌}
use native.Mathlib.Omega.{arith}
use Rattle.std.proofs.Common.{rules}
use Rattle.record_entries.proofs.Listed.{scan_end, scan_next, scan_stop}
use Rattle.record_writing.proofs.scan.scan_items.Goals as goal

-- of what is left a turn takes one
one_less : (n i : ℕ) → i < n → n - i ≡ suc (n - (i + 1))
one_less n i h = omega arith

pub returns-in_err-passed : goal.returns-in_err-passed
returns-in_err-passed g c =
    let i = g.I.Item in
    let e = c.loop.invariant
    ∙ scan_stop i.read i.key c.args.fields.now c.loop.least c.loop.at _ _ refl (one_less _ _ c.loop-test.true) c.in_err-passed.ensures.reads in
    rw e (search rules)

pub loop-preserved : goal.loop-preserved
loop-preserved g c =
    let i = g.I.Item in
    let d = one_less c.args.count c.loop.counter c.loop-test.true in
    c.loop.invariant
    ∙ scan_next i.read i.key c.args.fields.now c.loop.least c.loop.at _ _ _ _ refl d c.in_ok-passed.ensures.reads

pub returns : goal.returns
returns g c =
    let i = g.I.Item in scan_end i.read i.key c.args.fields.now c.loop.least c.loop.at _ c.loop.invariant (omega arith)
