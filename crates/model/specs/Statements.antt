-- What is proved of the model, and the words that it is said in: what a list of records shows, that the findings say of it
-- exactly what document 01 promises, and what a history holds. The theorems are in proofs/, each in the file that a heading
-- here names; `crates/promises/specs` says the three demands of the library in the same words.
-- docs/SCOPE.md, "Promises".
-- Assumes nothing.
use Rattle.std.specs.Prelude.{ℕ, ◌+◌, min, ◌<◌, ◌≤◌, ◌≡◌, ◌↔◌, true, cond, ◌&&◌, List, [], ◌∷◌, ◌++◌, leb, ltb, length, get_or, take}
use Rattle.std.proofs.Math.Option.{some}
use mathlib.Core.Logic.{◌⊎◌}
use mathlib.Core.List.{Memᴰ}
use Rattle.model.specs.Entry.{Prefix, last_term}
use Rattle.model.specs.Refusal.{Refusal, prefixesFull, findingsFull, leaderLogsFull}
use Rattle.model.specs.Record.{Shown, Record, view, commit, terms, election, check, rows, leader, front}
use Rattle.model.specs.Reading.{readable, read}
use Rattle.model.specs.History.{Finding, History}
use Rattle.model.specs.View.{prefixes_of, mismatch, mismatches}
use Rattle.model.specs.Commit.{seen, differences}
use Rattle.model.specs.Check.{lackings}
use Rattle.model.specs.LeaderLog.{kept_of, present, rewritings}
use Rattle.model.specs.Answer.{refused, is_accepted, answer, refusal, value, effect, after}
use Rattle.model.specs.Leaders.{Leader}
use Rattle.model.specs.Ledger.{Ledger, ledger_leaders}
use Rattle.model.specs.Lists.{finding_list, leader_list}
use Rattle.model.specs.Run.{history_of, ledger_of, Event, events_of, gathered}
use Rattle.model.specs.Sizes.{Bytes, prefix_limit, certificate_limit, leader_log_limit, finding_limit}

-- ---- refused records (Run)

-- Refused means untouched: a refused record leaves the history as it was.
abbrev pub RefusedMeansUntouched : Type 0
RefusedMeansUntouched = (h : History) (s : Bytes) (r : Refusal) → answer h s ≡ refused r → after h s ≡ h

-- ---- the accepted fronts, and the prefixes stored for them (Stored)

-- the fronts of the accepted views, in the order accepted
abbrev pub front_in : Record → List Prefix
front_in (view n xs) = front xs ∷ []
front_in (commit n i) = []
front_in (terms old new t) = []
front_in (election l t p n) = []
front_in check = []
front_in (rows rs) = []
front_in (leader n t) = []

abbrev pub fronts_in : List Event → List Prefix
fronts_in es = gathered (λ e. front_in e.event) es

abbrev pub accepted_fronts : List Bytes → List Prefix
accepted_fronts ss = fronts_in (events_of ss)

-- a list without doubles
abbrev pub Distinct : {A : Type 0} → List A → Type 0
Distinct [] = Unit {0}
Distinct (x ∷ xs) = (Memᴰ x xs → ⊥) × Distinct xs

-- q is a nonempty prefix of p: its entries 1 to i
abbrev pub PrefixOf : Prefix → Prefix → Type 0
PrefixOf p q = (i : ℕ) × (0 < i) × (i ≤ length p) × (q ≡ take i p)

-- q is a nonempty prefix of one of the fronts
abbrev pub PrefixIn : List Prefix → Prefix → Type 0
PrefixIn ps q = (p : Prefix) × Memᴰ p ps × PrefixOf p q

-- From fresh, no prefix is stored twice.
abbrev pub StoredOnce : Type 0
StoredOnce = (ss : List Bytes) → Distinct (history_of ss).prefixes

-- From fresh, the stored prefixes are exactly the nonempty prefixes of the accepted fronts.
abbrev pub StoredExactly : Type 0
StoredExactly = (ss : List Bytes) (q : Prefix) → Memᴰ q (history_of ss).prefixes ↔ PrefixIn (accepted_fronts ss) q

-- `Counts n P`: n things have the property: a list of n without doubles has exactly them
abbrev pub Counts : {A : Type 0} → ℕ → (A → Type 0) → Type 0
Counts {A} n P = (xs : List A) × Distinct xs × (length xs ≡ n) × ((x : A) → Memᴰ x xs ↔ P x)

-- From fresh, 6 is answered exactly when the distinct nonempty prefixes of all accepted fronts, with this one's, exceed 512.
abbrev pub SixExactly : Type 0
SixExactly =
    (ss : List Bytes) (n : ℕ) (xs : List Shown) (count : ℕ)
    → Counts count (λ q. PrefixIn (accepted_fronts ss) q ⊎ PrefixOf (front xs) q)
    → (refusal (history_of ss) (view n xs) ≡ some prefixesFull) ↔ (prefix_limit < count)

-- The value of a view is the stored prefixes after it less those before it.
abbrev pub ValueIsStored : Type 0
ValueIsStored =
    (h : History) (n : ℕ) (xs : List Shown) → length h.prefixes + value h (view n xs) ≡ length (effect h (view n xs)).prefixes

-- From fresh, the value of an accepted view is the distinct nonempty prefixes of the accepted fronts with its own, less those
-- before it.
abbrev pub ValueIsGrowth : Type 0
ValueIsGrowth =
    (ss : List Bytes) (s : Bytes) (n : ℕ) (xs : List Shown) (before with_it : ℕ)
    → read s ≡ readable (view n xs) → is_accepted (answer (history_of ss) s) ≡ true
    → Counts before (PrefixIn (accepted_fronts ss)) → Counts with_it (PrefixIn (accepted_fronts (ss ++ (s ∷ []))))
    → before + value (history_of ss) (view n xs) ≡ with_it

-- the findings that a record brings, whether new or held already
abbrev pub brought_by : History → Record → List Finding
brought_by h (view n xs) = mismatches h.prefixes n (prefixes_of (front xs))
brought_by h (commit n i) = differences n h.committed (seen h n i)
brought_by h (terms old new t) = []
brought_by h (election l t p n) = []
brought_by h check = lackings h.committed h.terms h.certificates
brought_by h (rows rs) = []
brought_by h (leader n t) = rewritings (kept_of h.leader_logs n t) (present h n t)

-- From fresh, 7 is answered exactly when the distinct findings, with the record's, exceed 128, and neither 6 nor 14 is.
abbrev pub SevenExactly : Type 0
SevenExactly =
    (ss : List Bytes) (r : Record) (count : ℕ)
    → Counts count (λ f. Memᴰ f (history_of ss).findings ⊎ Memᴰ f (brought_by (history_of ss) r))
    → (refusal (history_of ss) r ≡ some findingsFull)
    ↔ ((refusal (history_of ss) r ≡ some prefixesFull → ⊥)
    × (refusal (history_of ss) r ≡ some leaderLogsFull → ⊥)
    × (finding_limit < count))

-- From fresh, there are never more than 512 prefixes, 64 certificates, 64 kept views and 128 findings, and no finding is held
-- twice.
pub record Bounded (h : History) : Type 0 where
  pub prefixes_fit : length h.prefixes ≤ prefix_limit
  pub certificates_fit : length h.certificates ≤ certificate_limit
  pub leader_logs_fit : length h.leader_logs ≤ leader_log_limit
  pub findings_fit : length h.findings ≤ finding_limit
  pub findings_once : Distinct h.findings

abbrev pub AlwaysBounded : Type 0
AlwaysBounded = (ss : List Bytes) → Bounded (history_of ss)

-- ---- Log Matching (Matching)

-- the printed findings have none of this name
abbrev pub NoFinding : ℕ → History → Type 0
NoFinding name h = (f : Finding) → Memᴰ f (finding_list h) → f.name ≡ name → ⊥

-- the term of the entry at index i
abbrev pub term_at : Prefix → ℕ → ℕ
term_at p i = last_term (take i p)

-- any two accepted views that have an entry of the same index and term, neither with a gap before it, agree through it
abbrev pub Matching : List Prefix → Type 0
Matching fronts =
    (p q : Prefix) → Memᴰ p fronts → Memᴰ q fronts
    → (i : ℕ) → 0 < i → i ≤ length p → i ≤ length q → term_at p i ≡ term_at q i → take i p ≡ take i q

-- From fresh, the LG-03 list is empty exactly if the accepted views match.
abbrev pub LogMatching : Type 0
LogMatching = (ss : List Bytes) → NoFinding 3 (history_of ss) ↔ Matching (accepted_fronts ss)

-- the list has an LG-03 of this index and term, for some node
pub record Tells (fs : List Finding) (i t : ℕ) : Type 0 where
  pub finding : Finding
  pub among : Memᴰ finding fs
  pub lg03 : finding.name ≡ 3
  pub index : finding.index ≡ i
  pub term : finding.term ≡ t

-- two of the fronts reach the index, have the term there, and differ through it
pub record Clashing (fronts : List Prefix) (i t : ℕ) : Type 0 where
  pub one : Prefix
  pub other : Prefix
  pub one_among : Memᴰ one fronts
  pub other_among : Memᴰ other fronts
  pub one_reaches : i ≤ length one
  pub other_reaches : i ≤ length other
  pub one_term : term_at one i ≡ t
  pub other_term : term_at other i ≡ t
  pub differ : take i one ≡ take i other → ⊥

-- Which pairs: from fresh, the LG-03 list has an index and term exactly if two accepted fronts clash there.
abbrev pub WhichPairs : Type 0
WhichPairs = (ss : List Bytes) (i t : ℕ) → Tells (finding_list (history_of ss)) i t ↔ Clashing (accepted_fronts ss) i t

-- the two LG-03 lists name the same pairs of index and term
abbrev pub SamePairs : List Bytes → List Bytes → Type 0
SamePairs ss rs = (i t : ℕ) → Tells (finding_list (history_of ss)) i t ↔ Tells (finding_list (history_of rs)) i t

-- the lists have the same members, in whatever order and however often
abbrev pub SameMembers : {A : Type 0} → List A → List A → Type 0
SameMembers {A} xs ys = (x : A) → Memᴰ x xs ↔ Memᴰ x ys

-- the same byte strings of a sort stand in both lists, in whatever order and whatever stands between them
abbrev pub SameSent : (Bytes → Type 0) → List Bytes → List Bytes → Type 0
SameSent P ss rs = (s : Bytes) → P s → Memᴰ s ss ↔ Memᴰ s rs

-- each byte string of a sort is accepted where it stands
abbrev pub EachAccepted : (Bytes → Type 0) → List Bytes → Type 0
EachAccepted P ss =
    (before : List Bytes) (s : Bytes) (later : List Bytes) → ss ≡ before ++ (s ∷ later)
    → P s → is_accepted (answer (history_of before) s) ≡ true

-- the accepted fronts are the same set
abbrev pub SameFronts : List Bytes → List Bytes → Type 0
SameFronts ss rs = SameMembers (accepted_fronts ss) (accepted_fronts rs)

-- So where the accepted fronts are the same set, the pairs are the same.
abbrev pub PairsByFronts : Type 0
PairsByFronts = (ss rs : List Bytes) → SameFronts ss rs → SamePairs ss rs

-- s is read as a view
pub record IsView (s : Bytes) : Type 0 where
  pub node : ℕ
  pub shown : List Shown
  pub reads : read s ≡ readable (view node shown)

abbrev pub SameViews : List Bytes → List Bytes → Type 0
SameViews ss rs = SameSent IsView ss rs

abbrev pub ViewsAccepted : List Bytes → Type 0
ViewsAccepted ss = EachAccepted IsView ss

-- Any arrival: where the same views are accepted throughout in two orders, the pairs are the same, whichever the nodes.
abbrev pub AnyArrival : Type 0
AnyArrival = (ss rs : List Bytes) → SameViews ss rs → ViewsAccepted ss → ViewsAccepted rs → SamePairs ss rs

-- The walk goes on along the view's own front: a view brings LG-03 for each of its prefixes that differs from the one
-- remembered for its index and term, and no other.
abbrev pub EachEntryJudged : Type 0
EachEntryJudged =
    (ps : List Prefix) (n : ℕ) (p : Prefix) (f : Finding)
    → Memᴰ f (mismatches ps n (prefixes_of p))
    ↔ ((i : ℕ) × (0 < i) × (i ≤ length p) × Memᴰ f (mismatch ps n (take i p)))

-- ---- committed prefixes (Committed)

-- a committed prefix is seen by an accepted commit record that the node's front reaches at that moment; each node's front
-- is the ledger's, the front of its last accepted view
abbrev pub shown_by : Prefix → ℕ → List Prefix
shown_by p i = cond (ltb 0 i && leb i (length p)) (take i p ∷ []) []

abbrev pub seen_by : Ledger → Record → List Prefix
seen_by g (view n xs) = []
seen_by g (commit n i) = shown_by (get_or g.fronts n []) i
seen_by g (terms old new t) = []
seen_by g (election l t p n) = []
seen_by g check = []
seen_by g (rows rs) = []
seen_by g (leader n t) = []

abbrev pub seen_in : List Event → List Prefix
seen_in es = gathered (λ e. seen_by e.ledger e.event) es

abbrev pub committed_seen : List Bytes → List Prefix
committed_seen ss = seen_in (events_of ss)

-- any two agree through the shorter
abbrev pub Agreeing : List Prefix → Type 0
Agreeing ps =
    (p q : Prefix) → Memᴰ p ps → Memᴰ q ps
    → take (min (length p) (length q)) p ≡ take (min (length p) (length q)) q

-- From fresh, the LG-04 list is empty exactly if any two committed prefixes seen agree through the shorter.
abbrev pub CommittedPrefixes : Type 0
CommittedPrefixes = (ss : List Bytes) → NoFinding 4 (history_of ss) ↔ Agreeing (committed_seen ss)

-- ---- Leader Completeness (Completeness)

-- Demand 3: for every list of byte strings handed in turn to one fresh history and ending with an accepted check, the leader
-- list equals the plain ledger's.
abbrev pub LeaderCompleteness : Type 0
LeaderCompleteness =
    (ss : List Bytes) (s : Bytes)
    → read s ≡ readable check → is_accepted (answer (history_of ss) s) ≡ true
    → leader_list (history_of (ss ++ (s ∷ []))) ≡ ledger_leaders (ledger_of (ss ++ (s ∷ [])))

-- ---- leader lists (Leaders)

-- a comes before b: by term, then leader
abbrev pub Before : Leader → Leader → Type 0
Before a b = (a.term < b.term) ⊎ ((a.term ≡ b.term) × (a.leader < b.leader))

-- each comes before all that stand after it; so none stands twice
abbrev pub Ascending : List Leader → Type 0
Ascending [] = Unit {0}
Ascending (a ∷ l) = ((b : Leader) → Memᴰ b l → Before a b) × Ascending l

-- The leader list of any history is ascending by term and then leader, and has no pair twice.
abbrev pub LeaderListAscends : Type 0
LeaderListAscends = (h : History) → Ascending (leader_list h)

-- So is the ledger's.
abbrev pub LedgerLeadersAscend : Type 0
LedgerLeadersAscend = (g : Ledger) → Ascending (ledger_leaders g)

-- the (term, leader) of a finding
abbrev pub pair_of : Finding → Leader
pair_of f = record { term = f.term; leader = f.node }

-- a finding LG-05 has the pair
pub record Named (fs : List Finding) (a : Leader) : Type 0 where
  pub finding : Finding
  pub among : Memᴰ finding fs
  pub lg05 : finding.name ≡ 5
  pub pair : a ≡ pair_of finding

-- The leader list has the (term, leader) of each LG-05, and no other.
abbrev pub LeaderListNames : Type 0
LeaderListNames =
    (h : History) (a : Leader)
    → (Memᴰ a (leader_list h) → Named h.findings a) × (Named h.findings a → Memᴰ a (leader_list h))
