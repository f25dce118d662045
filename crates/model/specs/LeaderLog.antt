-- Document 02, T-02: a leader's log. The node's present view is held against the one kept for the leader and term: a leader
-- that shortened or rewrote its log within a term brings LG-01.
-- docs/SCOPE.md, "Leaders' logs".
-- Assumes nothing.
use Rattle.std.specs.Prelude.{ℕ, Bool, cond, not, ◌&&◌, ◌||◌, List, [], ◌∷◌, leb, ltb, eqb, length, take}
use Rattle.std.proofs.Math.Option.{Option, none, some}
use Rattle.model.specs.Sizes.{leader_log_limit, finding_limit}
use Rattle.model.specs.Entry.{prefixes, same}
use Rattle.model.specs.Refusal.{Refusal, findingsFull, leaderLogsFull}
use Rattle.model.specs.History.{Finding, LeaderLog, History, with_leader_logs, with_findings, front_of, last_of, noted}

-- ---- the kept views, each pair of leader and term once

-- k is the one of leader n in term t
abbrev pub is_of : ℕ → ℕ → LeaderLog → Bool
is_of n t k = eqb k.node n && eqb k.term t

-- the one kept for the pair, or none
unfoldable pub kept_of : List LeaderLog → ℕ → ℕ → Option LeaderLog
kept_of [] n t = none
kept_of (k ∷ ks) n t = cond (is_of n t k) (some k) (kept_of ks n t)

-- "the present view is then kept": in the place of the pair's earlier one, or after all others
unfoldable pub kept_with : List LeaderLog → LeaderLog → List LeaderLog
kept_with [] v = v ∷ []
kept_with (k ∷ ks) v = cond (is_of v.node v.term k) (v ∷ ks) (k ∷ kept_with ks v)

-- the node's present view. "A node without a view has the empty one."
abbrev pub present : History → ℕ → ℕ → LeaderLog
present h n t = record { node = n; term = t; front = front_of h n; last = last_of h n }

-- ---- an older view and a newer one of the same leader in the same term

-- the view has no gap at or before index i
abbrev pub gapless : ℕ → LeaderLog → Bool
gapless i v = leb i (length v.front)

-- "a gap in either view at or before the older last index judges nothing"
abbrev pub judged : LeaderLog → LeaderLog → Bool
judged older newer = gapless older.last older && gapless older.last newer

-- the prefixes through the older last index are equal
unfoldable pub extends : LeaderLog → LeaderLog → Bool
unfolding prefixes
extends older newer = same (take older.last older.front) (take older.last newer.front)

-- LG-01: "a lower last index (entries past a gap count), or a differing prefix through the older last index"
unfoldable pub rewrites : LeaderLog → LeaderLog → Bool
unfolding extends
rewrites older newer = ltb newer.last older.last || (judged older newer && not (extends older newer))

-- flag 8: "agreement with a higher last index"
unfoldable pub grows : LeaderLog → LeaderLog → Bool
unfolding extends
grows older newer = judged older newer && extends older newer && ltb older.last newer.last

-- ---- against the kept one. "A pair's first record only keeps."

-- "LG-01 (node, index 0, term)"
unfoldable pub rewritings : Option LeaderLog → LeaderLog → List Finding
unfolding rewrites
rewritings none v = []
rewritings (some k) v = cond (rewrites k v) (record { name = 1; node = v.node; index = 0; term = v.term } ∷ []) []

unfoldable pub growth : Option LeaderLog → LeaderLog → ℕ
unfolding grows
growth none v = 0
growth (some k) v = cond (grows k v) 8 0

-- ---- the record

-- the kept views with the present one
unfoldable pub leader_kept : History → ℕ → ℕ → List LeaderLog
unfolding kept_with
leader_kept h n t = kept_with h.leader_logs (present h n t)

unfoldable pub leader_findings : History → ℕ → ℕ → List Finding
unfolding kept_of rewritings noted
leader_findings h n t = noted h.findings (rewritings (kept_of h.leader_logs n t) (present h n t))

-- 14 when the kept views would be more than 64, 7 when the findings would exceed 128
unfoldable pub leader_refusal : History → ℕ → ℕ → Option Refusal
unfolding leader_kept leader_findings
leader_refusal h n t =
    cond (ltb leader_log_limit (length (leader_kept h n t))) (some leaderLogsFull)
    (cond (ltb finding_limit (length (leader_findings h n t))) (some findingsFull) none)

unfoldable pub leader_value : History → ℕ → ℕ → ℕ
unfolding kept_of growth
leader_value h n t = growth (kept_of h.leader_logs n t) (present h n t)

unfoldable pub leader_effect : History → ℕ → ℕ → History
unfolding leader_kept leader_findings
leader_effect h n t = with_findings (with_leader_logs h (leader_kept h n t)) (leader_findings h n t)
