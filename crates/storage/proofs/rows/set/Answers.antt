-- `storage::rows::set` meets its contract: a write in the lent table is that write in the whole.
-- Assumes nothing.
use Rattle.std.proofs.Common.{ℕ, ◌*◌, ◌+◌, ap, ◌∙◌, arith}
use Rattle.storage_bytes.specs.declared.layout.Region.{Region}
use Rattle.storage_bytes.specs.Words.{put_bytes}
use Rattle.storage.proofs.WriteLaws.{row_written}
use Rattle.storage.proofs.rows.set.Goals as goal

pub returns : goal.returns
returns g c =
    let s = c.args in
    let row = g.R.Row in
    let law = g.met.R.Row in
    let start = ap (λ (b : Region). b.start) c.TABLE-a.ensures in
    let long = ap (λ (b : Region). b.length) c.TABLE.ensures in
    let h = s.history.now in
    row_written h _ _ row.width s.k row.count (row.bytes s.row) c.put.ensures (omega (arith, start, long, law.inside)) (long ∙ law.filled) c.requires.within
    (law.wide s.row c.requires.whole)
    ∙ ap (λ (a : ℕ). put_bytes h (a + s.k * row.width) (row.bytes s.row)) start
