-- The n-th leader, as it is looked for in the table of findings: the least, and then each time the least above it.
-- Assumes nothing.
use Rattle.std.specs.Prelude.{ℕ, zero, suc, ◌+◌, Bool, cond, Option, Some, None, List, [], ◌∷◌, leb, eqb}
use Rattle.model.specs.Sizes.{Bytes}
use Rattle.model.specs.History.{Finding}
use Rattle.model.specs.Leaders.{Leader as Ranked, below}
use Rattle.storage_bytes.specs.Words.{word_at}
use Rattle.storage.specs.Tables.{finding_rows, findings_part}
use Rattle.storage.specs.Head.{findings_held}
use Rattle.lists.specs.declared.leaders.Leader.{Leader}

abbrev pub pair : ℕ → ℕ → Ranked
pair t l = record { term = t; leader = l }

-- a printed leader
abbrev pub leader_as : Ranked → Option Leader
leader_as a = Some (record { term = record { 0 = a.term }; leader = record { 0 = a.leader } })

unfoldable pub is_below : Ranked → Ranked → Bool
is_below a b = below a b

-- the lesser of a and the best so far
unfoldable pub lesser : Ranked → Option Leader → Option Leader
unfolding is_below
lesser a (Some b) = cond (is_below (pair b.term.0 b.leader.0) a) (Some b) (leader_as a)
lesser a None = leader_as a

abbrev pub lesser_of : Finding → Option Leader → Option Leader
lesser_of f best = lesser (pair f.term f.node) best

-- with one more finding, of which only an LG-05 that is not below the bound counts
unfoldable pub better_of : Ranked → Finding → Option Leader → Option Leader
unfolding lesser
better_of bound f best =
    cond (eqb f.name 5) (cond (is_below (pair f.term f.node) bound) best (lesser_of f best)) best

-- the least leader that is not below the bound
unfoldable pub least_in : Ranked → List Finding → Option Leader
unfolding better_of
least_in bound [] = None
least_in bound (f ∷ fs) = better_of bound f (least_in bound fs)

-- the bound right after the last leader; the first search has none
abbrev pub after : Option Leader → Ranked
after (Some a) = pair a.term.0 (a.leader.0 + 1)
after None = pair 0 0

-- the least above one
unfoldable pub next_of : List Finding → Option Leader → Option Leader
unfolding least_in
next_of fs (Some a) = least_in (pair a.term.0 (a.leader.0 + 1)) fs
next_of fs None = None

unfoldable pub rounds_of : List Finding → Option Leader → ℕ → Option Leader
unfolding next_of
rounds_of fs found zero = found
rounds_of fs found (suc n) = rounds_of fs (next_of fs found) n

unfoldable pub leader_in : List Finding → ℕ → Option Leader
unfolding rounds_of
leader_in fs n = rounds_of fs (least_in (pair 0 0) fs) n

unfoldable pub leader_answer : Bytes → ℕ → Option Leader
unfolding word_at leader_in
leader_answer h n =
    cond (leb (findings_held h) n) None (leader_in (finding_rows (findings_part h) (findings_held h)) n)
