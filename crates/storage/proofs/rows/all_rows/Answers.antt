-- `storage::rows::all_rows` meets its contract. The invariant: the answer is that of the rows that are left.
-- Assumes nothing.
use Rattle.std.proofs.Common.{ap, sym, ◌∙◌}
use Rattle.storage_bytes.proofs.ListLaws.{every_next, every_stop, every_none}
use Rattle.storage.proofs.rows.all_rows.Goals as goal

pub returns-then-not-test : goal.returns-then-not-test
returns-then-not-test g c = λ p h.
    sym
    (every_stop p (g.R.StoredRow.stored c.args.table.now) c.loop-k.k c.args.m (c.loop-k.invariant p h) c.loop-k-test.true
    (ap p (sym c.at.ensures) ∙ sym (h _ _ c.test.ensures) ∙ c.if-not-test.true))

pub loop-k-preserved : goal.loop-k-preserved
loop-k-preserved g c = λ p h.
    every_next p (g.R.StoredRow.stored c.args.table.now) c.loop-k.k c.args.m (c.loop-k.invariant p h) c.loop-k-test.true
    (ap p (sym c.at.ensures) ∙ sym (h _ _ c.test.ensures) ∙ c.if-not-test.false)

pub returns : goal.returns
returns g c = λ p h.
    sym (every_none p (g.R.StoredRow.stored c.args.table.now) c.loop-k.k c.args.m (c.loop-k.invariant p h) c.loop-k-test.false)
