-- The three demands, log matching for any arrival and leaders' logs, for every list of byte strings handed in turn to one fresh history, about
-- what `history` exports: `gamiwhoru_submit` by its definitions (Run.antt), and the readers by the contracts that they meet.
-- `answer` and `history_of` are the model's: document 01 written out.
-- Assumes nothing.
use Rattle.std.specs.Prelude.{ℕ, ◌+◌, ◌≡◌, true, ◌↔◌, List, [], ◌∷◌, ◌++◌}
use mathlib.Core.Logic.{◌⊎◌}
use mathlib.Core.List.{Memᴰ}
use Rattle.model.specs.Sizes.{Bytes}
use Rattle.model.specs.Record.{Shown, view, check, leader}
use Rattle.model.specs.Reading.{readable, read}
use Rattle.model.specs.Answer.{answer}
use Rattle.model.specs.Run.{history_of}
use Rattle.model.specs.Ledger.{ledger_leaders}
use Rattle.model.specs.Statements.{accepted_fronts, PrefixIn, Counts, Matching, Agreeing, committed_seen, Clashing, SameFronts, IsView, SameViews, SameMembers}
use Rattle.model.specs.AppendOnly.{shown_of, met_views, lg01, RewrittenAmong, GrownSince}
use Rattle.model.specs.TermOrder.{accepted_terms, TermsBy, SameTermsSent}
use Rattle.storage.specs.Rules.{well_formed}
use Rattle.storage.specs.Head.{terms_held}
use Rattle.storage.specs.Tables.{terms_part, term_rows}
use Rattle.storage.specs.Decode.{decode}
use Rattle.lists.specs.Picked.{nth}
use Rattle.answers.specs.Numbers.{model_reply}
use Rattle.submission.specs.Replies.{submit_bytes}
use Rattle.history.specs.Exports.{a_finding, finding_out, a_leader, no_leader, leader_out}
use Rattle.promises.specs.Run.{bytes_of, submit_reply, reply_to, accepts, ledger_of, TermsAccepted, EachAccepted}

-- A history grown from a fresh one never meets 12: its bytes keep the storage rules, and they stand for the model's history.
abbrev pub NeverBroken : Type 0
NeverBroken = (ss : List Bytes) → (well_formed (bytes_of ss) ≡ true) × (decode (bytes_of ss) ≡ history_of ss)

-- Demand 1: any bytes, at any moment, get the first refusal in document 01's order, or acceptance. A refused record changes
-- no byte.
abbrev pub Demand1 : Type 0
Demand1 =
    (ss : List Bytes) (s : Bytes)
    → (reply_to ss s ≡ model_reply (answer (history_of ss) s))
    × (((reply_to ss s).refusal ≡ 0 → ⊥) → submit_bytes (bytes_of ss) s ≡ bytes_of ss)

-- the reader of findings gives none of this name
abbrev pub PrintsNone : ℕ → List Bytes → Type 0
PrintsNone name ss = (n : ℕ) → (finding_out (bytes_of ss) n).state ≡ 0 → (finding_out (bytes_of ss) n).name ≡ name → ⊥

-- Demand 2: the LG-03 list is empty exactly if any two observed logs agree as the Raft paper's Log Matching says,
abbrev pub Demand2Matching : Type 0
Demand2Matching = (ss : List Bytes) → PrintsNone 3 ss ↔ Matching (accepted_fronts ss)

-- and LG-04 exactly if any two committed prefixes seen agree through the shorter.
abbrev pub Demand2Committed : Type 0
Demand2Committed = (ss : List Bytes) → PrintsNone 4 ss ↔ Agreeing (committed_seen ss)

-- Demand 3: for every list of byte strings handed in turn to one fresh history and ending with an accepted check, the leader
-- list equals the plain ledger's: the reader gives the ledger's n-th leader, and "no more" past the last.
abbrev pub Demand3 : Type 0
Demand3 =
    (ss : List Bytes) (s : Bytes)
    → read s ≡ readable check → accepts (bytes_of ss) s ≡ true
    → (n : ℕ) → leader_out (bytes_of (ss ++ (s ∷ []))) n ≡ nth a_leader (no_leader 1) (ledger_leaders (ledger_of (ss ++ (s ∷ [])))) n

-- The value of an accepted view is the growth in distinct prefixes: the nonempty prefixes of the accepted fronts with its own,
-- less those before it.
abbrev pub ValueIsGrowth : Type 0
ValueIsGrowth =
    (ss : List Bytes) (s : Bytes) (n : ℕ) (xs : List Shown) (before with_it : ℕ)
    → read s ≡ readable (view n xs) → accepts (bytes_of ss) s ≡ true
    → Counts before (PrefixIn (accepted_fronts ss)) → Counts with_it (PrefixIn (accepted_fronts (ss ++ (s ∷ []))))
    → before + (reply_to ss s).value ≡ with_it

-- Refusal 11 is never given, whichever bytes are lent as a history and as a record,
abbrev pub NeverEleven : Type 0
NeverEleven = (h s : Bytes) → (submit_reply h s).refusal ≡ 11 → ⊥

-- nor by document 01's history, after any list.
abbrev pub ModelNeverEleven : Type 0
ModelNeverEleven = (ss : List Bytes) (s : Bytes) → (model_reply (answer (history_of ss) s)).refusal ≡ 11 → ⊥

-- ---- commit terms in any order

-- the list of commit terms that a history holds: as many words as its head says, of the region that docs/LAYOUT.md names
abbrev pub recorded_terms : Bytes → List ℕ
recorded_terms h = term_rows (terms_part h) (terms_held h)

-- The list of commit terms is as long as the greatest new of the accepted kind 3 records, and has at each index the smallest
-- nonzero term that one of them gives for it, or zero if none does.
abbrev pub TermsGiven : Type 0
TermsGiven = (ss : List Bytes) → TermsBy (accepted_terms ss) (recorded_terms (bytes_of ss))

-- So where the accepted kind 3 records are the same, in any order and any of them repeated, the list is the same:
abbrev pub TermsInAnyOrder : Type 0
TermsInAnyOrder =
    (ss us : List Bytes) → SameMembers (accepted_terms ss) (accepted_terms us)
    → recorded_terms (bytes_of ss) ≡ recorded_terms (bytes_of us)

-- of two servers that send the same kind 3 records, where all of them are accepted both times,
abbrev pub TermsSentInAnyOrder : Type 0
TermsSentInAnyOrder =
    (ss us : List Bytes) → SameTermsSent ss us → TermsAccepted ss → TermsAccepted us
    → recorded_terms (bytes_of ss) ≡ recorded_terms (bytes_of us)

-- after two records are swapped, where all of kind 3 are accepted before and after,
abbrev pub TermsSwapped : Type 0
TermsSwapped =
    (xs : List Bytes) (a : Bytes) (ys : List Bytes) (b : Bytes) (zs : List Bytes)
    → TermsAccepted (xs ++ (a ∷ (ys ++ (b ∷ zs)))) → TermsAccepted (xs ++ (b ∷ (ys ++ (a ∷ zs))))
    → recorded_terms (bytes_of (xs ++ (a ∷ (ys ++ (b ∷ zs))))) ≡ recorded_terms (bytes_of (xs ++ (b ∷ (ys ++ (a ∷ zs)))))

-- and after one of the records is repeated, wherever that is.
abbrev pub TermsRepeated : Type 0
TermsRepeated =
    (xs : List Bytes) (a : Bytes) (ys : List Bytes) → Memᴰ a (xs ++ ys)
    → TermsAccepted (xs ++ ys) → TermsAccepted (xs ++ (a ∷ ys))
    → recorded_terms (bytes_of (xs ++ ys)) ≡ recorded_terms (bytes_of (xs ++ (a ∷ ys)))

-- ---- log matching for any arrival

-- the reader of findings gives an LG-03 of this index and term, for some node
pub record Gives (ss : List Bytes) (i t : ℕ) : Type 0 where
  pub position : ℕ
  pub given : (finding_out (bytes_of ss) position).state ≡ 0
  pub lg03 : (finding_out (bytes_of ss) position).name ≡ 3
  pub index : (finding_out (bytes_of ss) position).index ≡ i
  pub term : (finding_out (bytes_of ss) position).term ≡ t

-- Which pairs: the LG-03 list has an index and term exactly if two accepted fronts reach the index, have the term there and
-- differ through it. The right side speaks of the accepted fronts as a set.
abbrev pub WhichPairs : Type 0
WhichPairs = (ss : List Bytes) (i t : ℕ) → Gives ss i t ↔ Clashing (accepted_fronts ss) i t

-- the two LG-03 lists name the same pairs of index and term
abbrev pub SamePairs : List Bytes → List Bytes → Type 0
SamePairs ss rs = (i t : ℕ) → Gives ss i t ↔ Gives rs i t

-- So they do wherever the accepted fronts are the same set,
abbrev pub PairsByFronts : Type 0
PairsByFronts = (ss rs : List Bytes) → SameFronts ss rs → SamePairs ss rs

-- each view of the list is accepted where it stands
abbrev pub ViewsAccepted : List Bytes → Type 0
ViewsAccepted ss = EachAccepted IsView ss

-- and so for the same views in two orders, each accepted throughout: whichever the nodes, and whatever other records stand
-- between.
abbrev pub AnyArrival : Type 0
AnyArrival = (ss rs : List Bytes) → SameViews ss rs → ViewsAccepted ss → ViewsAccepted rs → SamePairs ss rs

-- ---- leaders' logs

-- the reader of findings gives LG-01 (node, 0, term)
pub record GivesLg01 (ss : List Bytes) (n t : ℕ) : Type 0 where
  pub position : ℕ
  pub given : finding_out (bytes_of ss) position ≡ a_finding (lg01 n t)

-- LG-01 (node, 0, term) is in the list exactly if some two successive accepted kind 7 records of that leader and term met views of
-- which the later one is shorter, or, both gapless through the older last index, differs through it. The right side speaks of the
-- accepted records and the views at those moments.
abbrev pub WhenRewritten : Type 0
WhenRewritten = (ss : List Bytes) (n t : ℕ) → GivesLg01 ss n t ↔ RewrittenAmong (met_views n t ss)

-- Every LG-01 has index 0, so the list has no other than those.
abbrev pub AlwaysIndexZero : Type 0
AlwaysIndexZero =
    (ss : List Bytes) (position : ℕ)
    → (finding_out (bytes_of ss) position).state ≡ 0 → (finding_out (bytes_of ss) position).name ≡ 1
    → (finding_out (bytes_of ss) position).index ≡ 0

-- The value of an accepted kind 7 record is 8 exactly if the view that the last accepted one of that leader and term met has grown
-- into the node's present view, and else 0.
abbrev pub WhenGrown : Type 0
WhenGrown =
    (ss : List Bytes) (s : Bytes) (n t : ℕ)
    → read s ≡ readable (leader n t) → accepts (bytes_of ss) s ≡ true
    → (((reply_to ss s).value ≡ 8) ⊎ ((reply_to ss s).value ≡ 0))
    × (((reply_to ss s).value ≡ 8) ↔ GrownSince (met_views n t ss) (shown_of n ss))
