-- Leader Append-Only, as far as kind 7 tells: what is proved of it, and the words that it is said in. They speak of the accepted
-- records and of the views at those moments, not of what the history keeps: that the kept view is the last one met is a theorem
-- (KeptExactly). The theorems are in proofs/AppendOnly.antt, those of the kept views in proofs/Kept.antt.
-- Assumes nothing.
use Rattle.std.specs.Prelude.{ℕ, ◌<◌, ◌≤◌, ◌≡◌, ◌↔◌, cond, ◌&&◌, List, [], ◌∷◌, ◌++◌, map, eqb, length, get_or, take, set, replicate}
use Rattle.std.proofs.Math.Option.{Option, none, some}
use mathlib.Core.Logic.{◌⊎◌}
use mathlib.Core.List.{Memᴰ}
use Rattle.model.specs.Sizes.{Bytes, node_count, leader_log_limit}
use Rattle.model.specs.Entry.{Prefix}
use Rattle.model.specs.Refusal.{leaderLogsFull}
use Rattle.model.specs.Record.{Record, view, commit, terms, election, check, rows, leader, front, last_index}
use Rattle.model.specs.History.{Finding, LeaderLog, History, front_of}
use Rattle.model.specs.LeaderLog.{kept_of}
use Rattle.model.specs.Leaders.{Leader}
use Rattle.model.specs.Lists.{finding_list}
use Rattle.model.specs.Answer.{refusal, value}
use Rattle.model.specs.Run.{history_of, Event, events_of, gathered}
use Rattle.model.specs.Statements.{Distinct, Counts}

-- ---- the views that the records of a leader met

-- a node's view: its front, and its last index, past a gap too
pub record NodeView : Type 0 where
  pub front : Prefix
  pub last : ℕ

-- "a node without a view has the empty one"
abbrev pub no_view : NodeView
no_view = record { front = []; last = 0 }

-- the nodes' views, at first all empty
abbrev pub no_views : List NodeView
no_views = replicate node_count no_view

-- the nodes' views after an accepted record, where they were vs: "an accepted view replaces the node's earlier one"
abbrev pub shown_after : List NodeView → Record → List NodeView
shown_after vs (view n xs) = set vs n (record { front = front xs; last = last_index xs })
shown_after vs (commit n i) = vs
shown_after vs (terms old new t) = vs
shown_after vs (election l t p n) = vs
shown_after vs check = vs
shown_after vs (rows rs) = vs
shown_after vs (leader n t) = vs

unfoldable pub shown_from : List NodeView → List Event → List NodeView
shown_from vs [] = vs
shown_from vs (e ∷ es) = shown_from (shown_after vs e.event) es

-- node n's view after a list of records
abbrev pub shown_of : ℕ → List Bytes → NodeView
shown_of n ss = get_or (shown_from no_views (events_of ss)) n no_view

-- leader n's view, where the record names n and term t
abbrev pub met_by : ℕ → ℕ → List NodeView → Record → List NodeView
met_by n t vs (view m xs) = []
met_by n t vs (commit m i) = []
met_by n t vs (terms old new u) = []
met_by n t vs (election l u p i) = []
met_by n t vs check = []
met_by n t vs (rows rs) = []
met_by n t vs (leader m u) = cond (eqb m n && eqb u t) (get_or vs n no_view ∷ []) []

unfoldable pub met_from : ℕ → ℕ → List NodeView → List Event → List NodeView
met_from n t vs [] = []
met_from n t vs (e ∷ es) = met_by n t vs e.event ++ met_from n t (shown_after vs e.event) es

-- the views that the accepted kind 7 records of leader n and term t met, each the node's at that moment
abbrev pub met_views : ℕ → ℕ → List Bytes → List NodeView
met_views n t ss = met_from n t no_views (events_of ss)

-- b follows on a
abbrev pub Successive : List NodeView → NodeView → NodeView → Type 0
Successive vs a b = (before : List NodeView) × (later : List NodeView) × (vs ≡ before ++ (a ∷ b ∷ later))

-- the last of them, or none
unfoldable pub last_met : List NodeView → Option NodeView
last_met [] = none
last_met (v ∷ []) = some v
last_met (v ∷ w ∷ vs) = last_met (w ∷ vs)

-- ---- an older view and a later one

-- both have no gap at or before the older one's last index
abbrev pub Judged : NodeView → NodeView → Type 0
Judged a b = (a.last ≤ length a.front) × (a.last ≤ length b.front)

-- the later one is shorter, or both are gapless through the older one's last index and differ through it
abbrev pub Rewrites : NodeView → NodeView → Type 0
Rewrites a b = (b.last < a.last) ⊎ (Judged a b × (take a.last a.front ≡ take a.last b.front → ⊥))

-- both are gapless through the older one's last index and agree through it, and the later one is longer
abbrev pub Grows : NodeView → NodeView → Type 0
Grows a b = Judged a b × (take a.last a.front ≡ take a.last b.front) × (a.last < b.last)

-- ---- LG-01 and flag 8 (AppendOnly)

abbrev pub lg01 : ℕ → ℕ → Finding
lg01 n t = record { name = 1; node = n; index = 0; term = t }

-- two successive ones of the views, of which the later one rewrites the older
abbrev pub RewrittenAmong : List NodeView → Type 0
RewrittenAmong vs = (a : NodeView) × (b : NodeView) × Successive vs a b × Rewrites a b

-- From fresh, LG-01 (node, 0, term) is in the list exactly if some two successive accepted kind 7 records of that leader and term
-- met views of which the later one rewrites the older.
abbrev pub WhenRewritten : Type 0
WhenRewritten =
    (ss : List Bytes) (n t : ℕ) → Memᴰ (lg01 n t) (finding_list (history_of ss)) ↔ RewrittenAmong (met_views n t ss)

-- From fresh, every LG-01 has index 0, so the list has no other than those.
abbrev pub AlwaysIndexZero : Type 0
AlwaysIndexZero = (ss : List Bytes) (f : Finding) → Memᴰ f (finding_list (history_of ss)) → f.name ≡ 1 → f.index ≡ 0

-- the last of the views has grown into b
abbrev pub GrownSince : List NodeView → NodeView → Type 0
GrownSince vs b = (a : NodeView) × (last_met vs ≡ some a) × Grows a b

-- From fresh, the value of a kind 7 record is 8 exactly if the view that the last accepted one of that leader and term met has
-- grown into the node's present view, and else 0.
abbrev pub WhenGrown : Type 0
WhenGrown =
    (ss : List Bytes) (n t : ℕ)
    → ((value (history_of ss) (leader n t) ≡ 8) ⊎ (value (history_of ss) (leader n t) ≡ 0))
    × ((value (history_of ss) (leader n t) ≡ 8) ↔ GrownSince (met_views n t ss) (shown_of n ss))

-- ---- the kept views (Kept)

-- the view v, kept for leader n of term t
abbrev pub kept_for : ℕ → ℕ → NodeView → LeaderLog
kept_for n t v = record { node = n; term = t; front = v.front; last = v.last }

abbrev pub kept_if : ℕ → ℕ → Option NodeView → Option LeaderLog
kept_if n t none = none
kept_if n t (some v) = some (kept_for n t v)

-- From fresh, what is kept for a leader and term is the last view that an accepted kind 7 record of the pair met, if any did.
abbrev pub KeptExactly : Type 0
KeptExactly = (ss : List Bytes) (n t : ℕ) → kept_of (history_of ss).leader_logs n t ≡ kept_if n t (last_met (met_views n t ss))

-- the (term, leader) of a kind 7 record, and of a kept view
abbrev pub pairs_in : Record → List Leader
pairs_in (view n xs) = []
pairs_in (commit n i) = []
pairs_in (terms old new t) = []
pairs_in (election l t p n) = []
pairs_in check = []
pairs_in (rows rs) = []
pairs_in (leader n t) = record { term = t; leader = n } ∷ []

abbrev pub all_pairs_in : List Event → List Leader
all_pairs_in es = gathered (λ e. pairs_in e.event) es

abbrev pub accepted_pairs : List Bytes → List Leader
accepted_pairs ss = all_pairs_in (events_of ss)

abbrev pub kept_pair : LeaderLog → Leader
kept_pair k = record { term = k.term; leader = k.node }

abbrev pub kept_pairs : History → List Leader
kept_pairs h = map kept_pair h.leader_logs

-- From fresh, no pair is kept twice.
abbrev pub KeptOnce : Type 0
KeptOnce = (ss : List Bytes) → Distinct (kept_pairs (history_of ss))

-- From fresh, the kept pairs are exactly those of the accepted kind 7 records.
abbrev pub KeptPairs : Type 0
KeptPairs = (ss : List Bytes) (p : Leader) → Memᴰ p (kept_pairs (history_of ss)) ↔ Memᴰ p (accepted_pairs ss)

-- From fresh, 14 is answered exactly when the distinct pairs of the accepted kind 7 records, with this one's, exceed 64.
abbrev pub FourteenExactly : Type 0
FourteenExactly =
    (ss : List Bytes) (n t count : ℕ)
    → Counts count (λ p. Memᴰ p (accepted_pairs ss) ⊎ (p ≡ record { term = t; leader = n }))
    → (refusal (history_of ss) (leader n t) ≡ some leaderLogsFull) ↔ (leader_log_limit < count)

-- empty, or one of the stored prefixes
abbrev pub EmptyOrStored : List Prefix → Prefix → Type 0
EmptyOrStored ps p = (p ≡ []) ⊎ Memᴰ p ps

-- From fresh, each node's front and each kept one is empty or a stored prefix.
pub record FrontsIn (h : History) : Type 0 where
  pub nodes : (n : ℕ) → EmptyOrStored h.prefixes (front_of h n)
  pub kept : (k : LeaderLog) → Memᴰ k h.leader_logs → EmptyOrStored h.prefixes k.front

abbrev pub FrontsStored : Type 0
FrontsStored = (ss : List Bytes) → FrontsIn (history_of ss)
