-- `record_entries::walk::content_at` meets its contract: the first i bytes are the model's, and zeros follow.
-- Assumes nothing.
use Prim.Native.Nat.{◌+◌, ◌/◌}
use native.Mathlib.Omega.{arith}
use Rattle.record_bits.proofs.Widths.{window_at, padded_more}
use Rattle.record_entries.proofs.walk.content_at.Goals as goal

pub loop-i-preserved : goal.loop-i-preserved
loop-i-preserved c =
    let low = c.type_inv.s ((c.args.at + 7) / 8 + c.loop-i.i) in
    rw c.loop-i.invariant (padded_more _ _ _ _ (omega arith) (rw (c.from.ensures, c.from-in-loop-i.ensures) (window_at _ _ _ (omega (arith, low)))))
