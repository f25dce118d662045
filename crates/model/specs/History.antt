-- The history: what it holds, and the fresh one.
-- docs/SCOPE.md, "The history".
-- Assumes nothing.
use Rattle.std.specs.Prelude.{ℕ, ◌≡◌, List, [], ◌∷◌, get_or, set, replicate}
use Rattle.std.proofs.Math.Decide.{ℕ_discrete}
use Rattle.std.proofs.Common.{ap}
use Rattle.std.proofs.Math.Option.{Option}
use Rattle.model.specs.Sizes.{node_count}
use Rattle.model.specs.Entry.{Prefix, lists, with_all}

-- a finding: its name, node, index and term; 1 is LG-01, 3 LG-03, 4 LG-04, 5 LG-05
pub record Finding : Type 0 where
  pub name : ℕ
  pub node : ℕ
  pub index : ℕ
  pub term : ℕ

-- an election's certificate: its number within its term, its log or none, its checked mark
pub record Certificate : Type 0 where
  pub leader : ℕ
  pub term : ℕ
  pub number : ℕ
  pub log : Option Prefix
  pub mark : ℕ

-- the view kept for a leader of a term: its front and its last index, past a gap too
pub record LeaderLog : Type 0 where
  pub node : ℕ
  pub term : ℕ
  pub front : Prefix
  pub last : ℕ

pub record History : Type 0 where
  -- the distinct nonempty prefixes of the accepted fronts, in the order first seen
  pub prefixes : List Prefix
  -- of each node, 0 to 63: its front; the last index of its view; its unseen mark, 0 where there is none
  pub fronts : List Prefix
  pub lasts : List ℕ
  pub unseen : List ℕ
  -- the committed prefix, empty where none is kept, and its owner
  pub committed : Prefix
  pub owner : ℕ
  -- the commit terms of indexes 1, 2, ..
  pub terms : List ℕ
  -- the certificates by term, then arrival
  pub certificates : List Certificate
  -- the views kept for leaders of a term, each pair once, in the order first kept
  pub leader_logs : List LeaderLog
  -- the distinct findings, in the order found
  pub findings : List Finding

abbrev pub fresh : History
fresh =
    record {
      prefixes = [];
      fronts = replicate node_count [];
      lasts = replicate node_count 0;
      unseen = replicate node_count 0;
      committed = [];
      owner = 0;
      terms = [];
      certificates = [];
      leader_logs = [];
      findings = [];
    }

-- ---- a history with one thing changed. Whatever changes a history says so by these, so a field more is a line more in each here.

abbrev pub with_prefixes : History → List Prefix → History
with_prefixes h ps =
    record {
      prefixes = ps;
      fronts = h.fronts;
      lasts = h.lasts;
      unseen = h.unseen;
      committed = h.committed;
      owner = h.owner;
      terms = h.terms;
      certificates = h.certificates;
      leader_logs = h.leader_logs;
      findings = h.findings;
    }

-- of each node its front and the last index of its view
abbrev pub with_views : History → List Prefix → List ℕ → History
with_views h fs ls =
    record {
      prefixes = h.prefixes;
      fronts = fs;
      lasts = ls;
      unseen = h.unseen;
      committed = h.committed;
      owner = h.owner;
      terms = h.terms;
      certificates = h.certificates;
      leader_logs = h.leader_logs;
      findings = h.findings;
    }

abbrev pub with_unseen : History → List ℕ → History
with_unseen h is =
    record {
      prefixes = h.prefixes;
      fronts = h.fronts;
      lasts = h.lasts;
      unseen = is;
      committed = h.committed;
      owner = h.owner;
      terms = h.terms;
      certificates = h.certificates;
      leader_logs = h.leader_logs;
      findings = h.findings;
    }

-- of node n its front, the last index of its view and its unseen mark
abbrev pub with_node : History → ℕ → Prefix → ℕ → ℕ → History
with_node h n front last unseen = with_unseen (with_views h (set h.fronts n front) (set h.lasts n last)) (set h.unseen n unseen)

-- the committed prefix and its owner
abbrev pub with_committed : History → Prefix → ℕ → History
with_committed h p n =
    record {
      prefixes = h.prefixes;
      fronts = h.fronts;
      lasts = h.lasts;
      unseen = h.unseen;
      committed = p;
      owner = n;
      terms = h.terms;
      certificates = h.certificates;
      leader_logs = h.leader_logs;
      findings = h.findings;
    }

abbrev pub with_terms : History → List ℕ → History
with_terms h ts =
    record {
      prefixes = h.prefixes;
      fronts = h.fronts;
      lasts = h.lasts;
      unseen = h.unseen;
      committed = h.committed;
      owner = h.owner;
      terms = ts;
      certificates = h.certificates;
      leader_logs = h.leader_logs;
      findings = h.findings;
    }

abbrev pub with_certificates : History → List Certificate → History
with_certificates h cs =
    record {
      prefixes = h.prefixes;
      fronts = h.fronts;
      lasts = h.lasts;
      unseen = h.unseen;
      committed = h.committed;
      owner = h.owner;
      terms = h.terms;
      certificates = cs;
      leader_logs = h.leader_logs;
      findings = h.findings;
    }

abbrev pub with_leader_logs : History → List LeaderLog → History
with_leader_logs h ks =
    record {
      prefixes = h.prefixes;
      fronts = h.fronts;
      lasts = h.lasts;
      unseen = h.unseen;
      committed = h.committed;
      owner = h.owner;
      terms = h.terms;
      certificates = h.certificates;
      leader_logs = ks;
      findings = h.findings;
    }

abbrev pub with_findings : History → List Finding → History
with_findings h fs =
    record {
      prefixes = h.prefixes;
      fronts = h.fronts;
      lasts = h.lasts;
      unseen = h.unseen;
      committed = h.committed;
      owner = h.owner;
      terms = h.terms;
      certificates = h.certificates;
      leader_logs = h.leader_logs;
      findings = fs;
    }

-- a node's front, and the last index of its view; a node without a view has the empty one
abbrev pub front_of : History → ℕ → Prefix
front_of h n = get_or h.fronts n []

abbrev pub last_of : History → ℕ → ℕ
last_of h n = get_or h.lasts n 0

-- ---- equality of findings, decided

abbrev pub numbers : Finding → List ℕ
numbers f = f.name ∷ f.node ∷ f.index ∷ f.term ∷ []

decided : {a b : Finding} → Dec (numbers a ≡ numbers b) → Dec (a ≡ b)
decided (yes e) =
    yes (λ i. record { name = get_or (e i) 0 0; node = get_or (e i) 1 0; index = get_or (e i) 2 0; term = get_or (e i) 3 0 })
decided (no h) = no (λ e. h (ap numbers e))

unfoldable pub same_finding : Discrete Finding
unfolding decided lists ℕ_discrete
same_finding a b = decided (lists ℕ_discrete (numbers a) (numbers b))

-- the findings with some more, each once
unfoldable pub noted : List Finding → List Finding → List Finding
unfolding same_finding with_all
noted fs gs = with_all same_finding fs gs
