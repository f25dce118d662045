-- What the constructors of the limited units answer: the unit, or that the number is above the limit of document 01,
-- "Sizes of things": node 0 to 63, index 0 to 256.
-- Assumes nothing.
use Rattle.std.specs.Prelude.{ℕ, cond, leb, Result, Ok, Err}
use Rattle.units.specs.declared.NodeId.{NodeId}
use Rattle.units.specs.declared.LogIndex.{LogIndex}
use Rattle.units.specs.declared.OutOfLimit.{OutOfLimit}
use Rattle.model.specs.Sizes.{last_node, index_limit}

abbrev pub node_of : ℕ → Result NodeId OutOfLimit
node_of n = cond (leb n last_node) (Ok (record { 0 = n })) (Err (record {}))

abbrev pub index_of : ℕ → Result LogIndex OutOfLimit
index_of n = cond (leb n index_limit) (Ok (record { 0 = n })) (Err (record {}))
