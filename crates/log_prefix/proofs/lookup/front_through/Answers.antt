-- `log_prefix::lookup::front_through` meets its contract.
-- Assumes nothing.
use Rattle.log_prefix.proofs.FrontLaws.{front_within, through_is}
use Rattle.log_prefix.proofs.TableLaws.{lent_asks}
use Rattle.storage.proofs.WellFormed.{formed}
use Rattle.storage_rows.specs.Rows.{node_value}
use Rattle.log_prefix.proofs.lookup.front_through.Goals as goal

pub slice_through-requires : goal.slice_through-requires
slice_through-requires c =
    let h = c.args.history in
    let x = c.node_of-x in
    lent_asks h.bytes.now h.formed _ c.array.ensures.is _ (front_within h.bytes.now c.args.node.0 (node_value x.result) x.ensures (formed h.bytes.now h.formed) c.requires)

pub returns : goal.returns
returns c =
    let s = c.args in
    through_is s.history.bytes.now s.node.0 (node_value c.node_of-x.result) c.node_of-x.ensures _ c.array.ensures.is s.index.0 _
    c.slice_through.ensures
