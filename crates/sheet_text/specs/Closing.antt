-- Document 01, "The printed sheet": the lists that follow the records.
-- Assumes nothing.
use Rattle.std.specs.Prelude.{ℕ, ◌+◌, ◌*◌, cond, List, [], ◌∷◌, ◌++◌}
use Rattle.model.specs.Sizes.{Bytes, index_limit}
use Rattle.model.specs.History.{Finding, History}
use Rattle.model.specs.Leaders.{Leader}
use Rattle.model.specs.Lists.{Unseen, finding_list, leader_list, unseen_list, unknown_list, committed_length, committed_owner}
use Rattle.storage.specs.Rules.{well_formed}
use Rattle.storage.specs.Decode.{decode}
use Rattle.sheet_lines.specs.Lines.{finding_room, leader_room, unseen_room, unknown_room, committed_room, finding_line, leader_line, unseen_line, unknown_line, committed_line}

-- no list is longer: there are so many indexes, and fewer findings, leaders and nodes
abbrev pub longest_list : ℕ
longest_list = index_limit

-- how many bytes all lists take at most
abbrev pub closing_room : ℕ
closing_room =
    longest_list * finding_room + longest_list * leader_room + longest_list * unseen_room + longest_list * unknown_room + committed_room

unfoldable pub lines_of : {A : Type 0} → (A → Bytes) → List A → Bytes
lines_of line [] = []
lines_of line (x ∷ xs) = line x ++ lines_of line xs

-- lines, one after another
abbrev pub joined : List Bytes → Bytes
joined ls = lines_of (λ l. l) ls

abbrev pub of_finding : Finding → Bytes
of_finding f = finding_line f.name f.node f.index f.term

abbrev pub of_leader : Leader → Bytes
of_leader l = leader_line l.term l.leader

abbrev pub of_unseen : Unseen → Bytes
of_unseen u = unseen_line u.node u.index

-- "Then findings ..; `leader` term node; `unseen` node index; `unknown` index; `committed` length owner"
unfoldable pub closing : History → Bytes
unfolding lines_of
closing h =
    lines_of of_finding (finding_list h)
    ++ lines_of of_leader (leader_list h)
    ++ lines_of of_unseen (unseen_list h)
    ++ lines_of unknown_line (unknown_list h)
    ++ committed_line (committed_length h) (committed_owner h)

-- the lists of the history that bytes stand for, nothing where they break the storage rules
abbrev pub closing_of : Bytes → Bytes
closing_of h = cond (well_formed h) (closing (decode h)) []
