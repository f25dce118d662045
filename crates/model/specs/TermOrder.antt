-- What is proved of commit terms in any order, and the words that it is said in: the list of commit terms is told by the
-- accepted kind 3 records as a set, so neither their order nor a repetition matters. The theorems are in proofs/TermOrder.antt.
-- Checked marks and findings are not included: there is an example beside the theorems in which they differ.
-- Assumes nothing.
use Rattle.std.specs.Prelude.{ℕ, suc, ◌<◌, ◌≤◌, ◌≡◌, List, [], ◌∷◌, length, get_or}
use mathlib.Core.Logic.{◌⊎◌}
use mathlib.Core.List.{Memᴰ}
use Rattle.model.specs.Sizes.{Bytes}
use Rattle.model.specs.Record.{Record, view, commit, terms, election, check, rows, leader}
use Rattle.model.specs.Reading.{readable, read}
use Rattle.model.specs.Run.{history_of, Event, events_of, gathered}
use Rattle.model.specs.Statements.{SameMembers, SameSent, EachAccepted}

-- ---- the accepted kind 3 records

pub record CommitTerms : Type 0 where
  pub old : ℕ
  pub new : ℕ
  pub term : ℕ

abbrev pub terms_in : Record → List CommitTerms
terms_in (view n xs) = []
terms_in (commit n i) = []
terms_in (terms old new t) = record { old = old; new = new; term = t } ∷ []
terms_in (election l t p n) = []
terms_in check = []
terms_in (rows rs) = []
terms_in (leader n t) = []

abbrev pub all_terms_in : List Event → List CommitTerms
all_terms_in es = gathered (λ e. terms_in e.event) es

abbrev pub accepted_terms : List Bytes → List CommitTerms
accepted_terms ss = all_terms_in (events_of ss)

-- ---- the list that they give

-- n is the greatest number with the property, or zero where none has it; and the smallest
abbrev pub GreatestOrZero : (ℕ → Type 0) → ℕ → Type 0
GreatestOrZero P n = (P n × ((m : ℕ) → P m → m ≤ n)) ⊎ ((n ≡ 0) × ((m : ℕ) → P m → ⊥))

abbrev pub SmallestOrZero : (ℕ → Type 0) → ℕ → Type 0
SmallestOrZero P n = (P n × ((m : ℕ) → P m → n ≤ m)) ⊎ ((n ≡ 0) × ((m : ℕ) → P m → ⊥))

-- one of the records has this new
abbrev pub NewAmong : List CommitTerms → ℕ → Type 0
NewAmong cs n = (c : CommitTerms) × Memᴰ c cs × (c.new ≡ n)

-- the record gives index i the nonzero term t
abbrev pub Gives : CommitTerms → ℕ → ℕ → Type 0
Gives c i t = (c.old < i) × (i ≤ c.new) × (c.term ≡ t) × (0 < t)

-- one of the records does
abbrev pub GivenAmong : List CommitTerms → ℕ → ℕ → Type 0
GivenAmong cs i t = (c : CommitTerms) × Memᴰ c cs × Gives c i t

-- the list of commit terms of indexes 1, 2, .. that the records give: its length is the greatest new, and each index has the
-- smallest nonzero term given for it, or zero if none is. Index i + 1 stands at place i; past the list none is given.
pub record TermsBy (cs : List CommitTerms) (ts : List ℕ) : Type 0 where
  pub length_is : GreatestOrZero (NewAmong cs) (length ts)
  pub place_is : (i : ℕ) → SmallestOrZero (GivenAmong cs (suc i)) (get_or ts i 0)

-- From fresh, the list of commit terms is the one that the accepted kind 3 records give.
abbrev pub TermsGiven : Type 0
TermsGiven = (ss : List Bytes) → TermsBy (accepted_terms ss) (history_of ss).terms

-- ---- in any order, any of them repeated

-- From fresh, lists of records with the same accepted kind 3 records have the same list of commit terms.
abbrev pub TermsInAnyOrder : Type 0
TermsInAnyOrder =
    (ss us : List Bytes) → SameMembers (accepted_terms ss) (accepted_terms us) → (history_of ss).terms ≡ (history_of us).terms

-- the byte string is a kind 3 record
abbrev pub IsTerms : Bytes → Type 0
IsTerms s = (c : CommitTerms) × (read s ≡ readable (terms c.old c.new c.term))

-- the two lists have the same kind 3 records
abbrev pub SameTermsSent : List Bytes → List Bytes → Type 0
SameTermsSent ss us = SameSent IsTerms ss us

-- each kind 3 record of the list is accepted when it comes
abbrev pub TermsAccepted : List Bytes → Type 0
TermsAccepted ss = EachAccepted IsTerms ss

-- From fresh, where the same kind 3 records are sent, and all of them accepted both times, the accepted ones are the same.
abbrev pub SentAreAccepted : Type 0
SentAreAccepted =
    (ss us : List Bytes) → SameTermsSent ss us → TermsAccepted ss → TermsAccepted us
    → SameMembers (accepted_terms ss) (accepted_terms us)
