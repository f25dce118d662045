-- Document 01, "The plain ledger". It is fed the same records in the same order, and told of each only whether it was
-- accepted. It takes nothing from the history: this file stands on records, their reading, entries and the order of leaders.
-- docs/SCOPE.md, "The plain ledger".
-- Assumes nothing.
use Rattle.std.specs.Prelude.{ℕ, zero, suc, Bool, true, false, cond, not, ◌&&◌, ◌||◌, List, [], ◌∷◌, ◌++◌, leb, ltb, length, get_or, take, set, replicate}
use Rattle.std.proofs.Math.Option.{Option, none, some}
use Rattle.model.specs.Sizes.{Bytes, node_count}
use Rattle.model.specs.Entry.{Prefix, begins}
use Rattle.model.specs.Record.{Record, view, commit, terms, election, check, rows, leader, front_from, front}
use Rattle.model.specs.Reading.{Reading, readable, unreadable, read}
use Rattle.model.specs.Leaders.{Leader, ascending}

-- a recorded election: leader, term, and its log or none
pub record Elected : Type 0 where
  pub leader : ℕ
  pub term : ℕ
  pub log : Option Prefix

pub record Ledger : Type 0 where
  -- each node's front
  pub fronts : List Prefix
  -- the committed entries
  pub committed : Prefix
  -- a commit term or none for each index
  pub terms : ℕ → Option ℕ
  -- the recorded elections
  pub elections : List Elected

-- "at first all empty"
abbrev pub empty : Ledger
empty = record { fronts = replicate node_count []; committed = []; terms = λ i. none; elections = [] }

-- "if the index is above zero and the node's front reaches it, the front's entries through it replace the committed
-- entries, provided they are longer and begin with them"
unfoldable pub extended : Prefix → ℕ → Prefix → Prefix
unfolding begins
extended p i c =
    cond (ltb 0 i && leb i (length p) && ltb (length c) (length (take i p)) && begins (take i p) c) (take i p) c

-- "has none or a greater one"
abbrev pub open' : ℕ → Option ℕ → Bool
open' t none = true
open' t (some u) = ltb t u

-- "a nonzero term is set at each index from old+1 to new that has none or a greater one"
abbrev pub set_terms : ℕ → ℕ → ℕ → (ℕ → Option ℕ) → ℕ → Option ℕ
set_terms old new t ts i = cond (ltb 0 t && ltb old i && leb i new && open' t (ts i)) (some t) (ts i)

-- "the first `length` entries of the leader's front as its log, or no log"
abbrev pub first_of : Bool → ℕ → Prefix → Option Prefix
first_of true n p = some (take n p)
first_of false n p = none

-- an accepted record
abbrev pub entered : Ledger → Record → Ledger
entered g (view n es) =
    record { fronts = set g.fronts n (front es); committed = g.committed; terms = g.terms; elections = g.elections }
entered g (commit n i) =
    record {
      fronts = g.fronts;
      committed = extended (get_or g.fronts n []) i g.committed;
      terms = g.terms;
      elections = g.elections;
    }
entered g (terms old new t) =
    record { fronts = g.fronts; committed = g.committed; terms = set_terms old new t g.terms; elections = g.elections }
entered g (election l t p n) =
    record {
      fronts = g.fronts;
      committed = g.committed;
      terms = g.terms;
      elections = g.elections ++ (record { leader = l; term = t; log = first_of p n (get_or g.fronts l []) } ∷ []);
    }
entered g check = g
entered g (rows rs) = g
entered g (leader n t) = g

abbrev pub entered_read : Ledger → Reading → Ledger
entered_read g (readable r) = entered g r
entered_read g (unreadable e) = g

-- "a refused one changes nothing"
unfoldable pub fed : Ledger → Bytes → Bool → Ledger
unfolding read front_from extended
fed g s true = entered_read g (read s)
fed g s false = g

-- ---- its leader list

-- "has a commit term below the election's"
abbrev pub earlier : ℕ → Option ℕ → Bool
earlier t none = false
earlier t (some u) = ltb u t

-- "the log is absent or does not begin with the committed entries through that index"
abbrev pub without : Option Prefix → Prefix → Bool
without none p = true
without (some q) p = not (begins q p)

-- some index of the committed entries, among the first n, is such an index for the election
unfoldable pub lacks_committed : Ledger → Elected → ℕ → Bool
unfolding begins
lacks_committed g e zero = false
lacks_committed g e (suc i) =
    (earlier e.term (g.terms (suc i)) && without e.log (take (suc i) g.committed)) || lacks_committed g e i

-- the (term, leader) of each such election, in the order recorded
unfoldable pub lacking_leader : Ledger → Elected → List Leader
unfolding lacks_committed
lacking_leader g e = cond (lacks_committed g e (length g.committed)) (record { term = e.term; leader = e.leader } ∷ []) []

unfoldable pub lacking_leaders : Ledger → List Elected → List Leader
unfolding lacking_leader
lacking_leaders g [] = []
lacking_leaders g (e ∷ es) = lacking_leader g e ++ lacking_leaders g es

-- "once, ascending"
unfoldable pub ledger_leaders : Ledger → List Leader
unfolding lacking_leaders ascending
ledger_leaders g = ascending (lacking_leaders g g.elections)
