-- The rows that a node, a finding and a leader's log of the code stand for.
-- Assumes nothing.
use Rattle.std.specs.Prelude.{ℕ, Option}
use Rattle.std.specs.Option.{unwrap_or}
use Rattle.model.specs.History.{Finding}
use Rattle.units.specs.declared.LogIndex.{LogIndex}
use Rattle.storage_rows.specs.declared.nodes.Node.{Node}
use Rattle.storage_rows.specs.declared.findings.Found.{Found}
use Rattle.storage_rows.specs.declared.leader_logs.LeaderLog.{LeaderLog}
use Rattle.storage.specs.Tables.{NodeRow, LeaderLogRow}

-- 0 is no mark
abbrev pub mark_value : Option LogIndex → ℕ
mark_value i = (unwrap_or i (record { 0 = 0 })).0

abbrev pub node_value : Node → NodeRow
node_value x = record { front = x.front.0; last = x.last.0; unseen = mark_value x.unseen }

abbrev pub finding_value : Found → Finding
finding_value x = record { name = x.name; node = x.node.0; index = x.index.0; term = x.term.0 }

abbrev pub leader_log_value : LeaderLog → LeaderLogRow
leader_log_value x = record { node = x.node.0; term = x.term.0; front = x.front.0; last = x.last.0 }
