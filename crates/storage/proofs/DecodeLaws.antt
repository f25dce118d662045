-- What each change of the tables means: for the storage rules, which it keeps, and for the history that the tables stand for.
-- Assumes nothing.
use Prim.Native.Nat.{ℕ, ◌+◌, ◌≤◌, ◌<◌}
use native.Mathlib.Omega.{arith}
use mathlib.Core.Path.{◌≡◌, refl, ap, ◌∙◌}
use mathlib.Core.Bool.{Bool, true, cond, ◌&&◌}
use mathlib.Core.Logic.{⊎_elim}
use mathlib.Core.List.{List, [], ◌∷◌, ◌++◌}
use mathlib.Core.Option.{none, some}
use lib.Dec.{leb, eqb}
use lib.ListN.{length, set, length-append}
use borrow.Author.Tests.{leb-true, eqb-true, le-leb, eq-eqb}
use Rattle.model.specs.Entry.{Prefix}
use Rattle.model.specs.History.{Finding, with_prefixes, with_views, with_unseen, with_node, with_committed, with_certificates, with_leader_logs}
use Rattle.model.specs.Sizes.{Bytes, last_node, index_limit, prefix_limit, certificate_limit, finding_limit, leader_log_limit, term_limit}
use Rattle.model.proofs.Tests.{or_cases}
use Rattle.storage_bytes.specs.Lists.{every}
use Rattle.storage_bytes.specs.Layout.{history_length}
use Rattle.storage.specs.Tables.{PrefixRow, NodeRow, CertificateRow, LeaderLogRow, Tables, tables_in, tables_of, head_part, prefixes_part, with_prefix_row, with_node_row, with_committed_number, with_term_rows, with_certificate_rows, with_finding_rows, with_leader_log_rows}
use Rattle.storage.specs.Decode.{prefix_at, extended, resolve, front_in, certificate_in, leader_log_in, history_in, decode}
use Rattle.storage.specs.Rules.{node_right, certificate_right, is_name, finding_right, leader_log_right, numbered, kept_once, prefix_right, prefixes_right_after, within_limits, committed_right, tables_right, well_formed}
use Rattle.storage.specs.Head.{prefixes_held}
use Rattle.storage_bytes.proofs.ListLaws.{both, every_weaker, every_set, map_set, map_every}
use Rattle.storage.proofs.RuleLaws.{pass, all_of, all_set, all_last}
use Rattle.storage.proofs.RowFacts.{Facts, facts_of, rows_sized, number_kept, resolve_snoc, resolve_count, right_snoc}

-- ---- the storage rules, one by one

pub record Kept (t : Tables) : Type 0 where
  pub limits : within_limits (length t.rows) (length t.terms) (length t.certificates) (length t.findings) (length t.leader_logs) ≡ true
  pub committed : committed_right (length t.rows) t.committed t.owner ≡ true
  pub nodes : every (node_right (length t.rows)) t.nodes ≡ true
  pub certificates : every (certificate_right (length t.rows)) t.certificates ≡ true
  pub numbered : numbered t.certificates ≡ true
  pub findings : every finding_right t.findings ≡ true
  pub leader_logs : every (leader_log_right (length t.rows)) t.leader_logs ≡ true
  pub once : kept_once t.leader_logs ≡ true
  pub rows : prefixes_right_after [] t.rows ≡ true

pub kept_of : (t : Tables) → tables_right t ≡ true → Kept t
unfolding tables_right
kept_of t e =
    let a = both (within_limits (length t.rows) (length t.terms) (length t.certificates) (length t.findings) (length t.leader_logs)) _ e in
    let b = both (committed_right (length t.rows) t.committed t.owner) _ a.1 in
    let c = both (every (node_right (length t.rows)) t.nodes) _ b.1 in
    let d = both (every (certificate_right (length t.rows)) t.certificates) _ c.1 in
    let f = both (numbered t.certificates) _ d.1 in
    let g = both (every finding_right t.findings) _ f.1 in
    let l = both (every (leader_log_right (length t.rows)) t.leader_logs) _ g.1 in
    let o = both (kept_once t.leader_logs) _ l.1 in
    record {
      limits = a.0;
      committed = b.0;
      nodes = c.0;
      certificates = d.0;
      numbered = f.0;
      findings = g.0;
      leader_logs = l.0;
      once = o.0;
      rows = o.1;
    }

pub kept_right : (t : Tables) → Kept t → tables_right t ≡ true
unfolding tables_right
kept_right t k =
    pass _ k.limits
    ∙ pass _ k.committed
    ∙ pass _ k.nodes
    ∙ pass _ k.certificates
    ∙ pass _ k.numbered
    ∙ pass _ k.findings
    ∙ pass _ k.leader_logs
    ∙ pass _ k.once
    ∙ k.rows

-- of bytes: the right length, and tables that keep the rules
pub well_formed_parts : (h : Bytes) → well_formed h ≡ true → (length h ≡ history_length) × Kept (tables_of h)
unfolding well_formed
well_formed_parts h e =
    let a = both (eqb (length h) history_length) _ e in
    (eqb-true (length h) history_length a.0, kept_of (tables_of h) a.1)

pub well_formed_of : (h : Bytes) → length h ≡ history_length → Kept (tables_of h) → well_formed h ≡ true
unfolding well_formed
well_formed_of h l k = pass _ (eq-eqb (length h) history_length l) ∙ kept_right (tables_of h) k

-- the rows of well-formed bytes have the facts
pub row_facts : (h : Bytes) → Kept (tables_of h) → Facts (tables_of h).rows
unfolding tables_in
row_facts h k = facts_of (tables_of h).rows (rows_sized (prefixes_part h) (prefixes_held (head_part h))) k.rows

-- ---- what the tests of a row say

pub record NodeNamed (n : ℕ) (x : NodeRow) : Type 0 where
  pub front : x.front ≤ n
  pub last : x.last ≤ index_limit
  pub unseen : x.unseen ≤ index_limit

pub node_named : (n : ℕ) (x : NodeRow) → node_right n x ≡ true → NodeNamed n x
unfolding node_right
node_named n x e =
    let a = both (leb x.front n) _ e in
    let b = both (leb x.last index_limit) _ a.1 in
    record { front = leb-true _ _ a.0; last = leb-true _ _ b.0; unseen = leb-true _ _ b.1 }

pub node_test : (n : ℕ) (x : NodeRow) → NodeNamed n x → node_right n x ≡ true
unfolding node_right
node_test n x f = pass _ (le-leb _ _ f.front) ∙ pass _ (le-leb _ _ f.last) ∙ le-leb _ _ f.unseen

pub record CertificateNamed (n : ℕ) (x : CertificateRow) : Type 0 where
  pub log : x.log ≤ n
  pub mark : x.mark ≤ index_limit
  pub leader : x.leader ≤ last_node
  pub term : x.term ≤ term_limit
  pub present : x.present ≤ 1

pub certificate_named : (n : ℕ) (x : CertificateRow) → certificate_right n x ≡ true → CertificateNamed n x
unfolding certificate_right
certificate_named n x e =
    let a = both (leb x.log n) _ e in
    let b = both (leb x.mark index_limit) _ a.1 in
    let c = both (leb x.leader last_node) _ b.1 in
    let d = both (leb x.term term_limit) _ c.1 in
    record {
      log = leb-true _ _ a.0;
      mark = leb-true _ _ b.0;
      leader = leb-true _ _ c.0;
      term = leb-true _ _ d.0;
      present = leb-true _ _ d.1;
    }

pub certificate_test : (n : ℕ) (x : CertificateRow) → CertificateNamed n x → certificate_right n x ≡ true
unfolding certificate_right
certificate_test n x f =
    pass _ (le-leb _ _ f.log) ∙ pass _ (le-leb _ _ f.mark) ∙ pass _ (le-leb _ _ f.leader) ∙ pass _ (le-leb _ _ f.term) ∙ le-leb _ _ f.present

pub record FindingNamed (x : Finding) : Type 0 where
  pub name : is_name x.name ≡ true
  pub node : x.node ≤ last_node
  pub index : x.index ≤ index_limit

-- a name is small
pub name_small : (n : ℕ) → is_name n ≡ true → n ≤ 5
name_small n e =
    ⊎_elim (λ a. omega (arith, eqb-true n 1 a)) (λ b. leb-true n 5 (both (leb 3 n) (leb n 5) b).1) (or_cases (eqb n 1) (leb 3 n && leb n 5) e)

pub finding_test : (x : Finding) → FindingNamed x → finding_right x ≡ true
unfolding finding_right
finding_test x f =
    pass _ f.name ∙ pass _ (le-leb _ _ f.node) ∙ le-leb _ _ f.index

pub record LeaderLogNamed (n : ℕ) (x : LeaderLogRow) : Type 0 where
  pub node : x.node ≤ last_node
  pub front : x.front ≤ n
  pub last : x.last ≤ index_limit

pub leader_log_named : (n : ℕ) (x : LeaderLogRow) → leader_log_right n x ≡ true → LeaderLogNamed n x
unfolding leader_log_right
leader_log_named n x e =
    let a = both (leb x.node last_node) _ e in
    let b = both (leb x.front n) _ a.1 in
    record { node = leb-true _ _ a.0; front = leb-true _ _ b.0; last = leb-true _ _ b.1 }

pub leader_log_test : (n : ℕ) (x : LeaderLogRow) → LeaderLogNamed n x → leader_log_right n x ≡ true
unfolding leader_log_right
leader_log_test n x f = pass _ (le-leb _ _ f.node) ∙ pass _ (le-leb _ _ f.front) ∙ le-leb _ _ f.last

pub committed_named : (n p o : ℕ) → committed_right n p o ≡ true → (p ≤ n) × (o ≤ last_node)
unfolding committed_right
committed_named n p o e = let a = both (leb p n) _ e in (leb-true _ _ a.0, leb-true _ _ a.1)

pub committed_test : (n p o : ℕ) → p ≤ n → o ≤ last_node → committed_right n p o ≡ true
unfolding committed_right
committed_test n p o h g = pass _ (le-leb _ _ h) ∙ le-leb _ _ g

-- ---- changes that keep the rules: each changes some of the tests, and the others stay

abbrev limits_of : Tables → List Bool
limits_of t =
    leb (length t.rows) prefix_limit
    ∷ leb (length t.terms) index_limit
    ∷ leb (length t.certificates) certificate_limit
    ∷ leb (length t.findings) finding_limit
    ∷ []

abbrev tests_of : Tables → List Bool
tests_of t =
    within_limits (length t.rows) (length t.terms) (length t.certificates) (length t.findings) (length t.leader_logs)
    ∷ committed_right (length t.rows) t.committed t.owner
    ∷ every (node_right (length t.rows)) t.nodes
    ∷ every (certificate_right (length t.rows)) t.certificates
    ∷ numbered t.certificates
    ∷ every finding_right t.findings
    ∷ every (leader_log_right (length t.rows)) t.leader_logs
    ∷ kept_once t.leader_logs
    ∷ []

module _ (t : Tables) (k : Kept t) where
  -- the i-th test, and the last, told to be b
  test_set : (ts : List Bool) (i : ℕ) (b : Bool) → all_of ts (prefixes_right_after [] t.rows) ≡ true → b ≡ true
      → all_of (set ts i b) (prefixes_right_after [] t.rows) ≡ true
  test_set ts i b e q = all_set ts (prefixes_right_after [] t.rows) i b e q

  limit_set : (i n m : ℕ) → n ≤ m → all_of (set (limits_of t) i (leb n m)) (leb (length t.leader_logs) leader_log_limit) ≡ true
  unfolding within_limits
  limit_set i n m h = all_set (limits_of t) (leb (length t.leader_logs) leader_log_limit) i (leb n m) k.limits (le-leb n m h)

  all_right : all_of (tests_of t) (prefixes_right_after [] t.rows) ≡ true
  unfolding tables_right
  all_right = kept_right t k

  pub kept_node : (i : ℕ) (x : NodeRow) → NodeNamed (length t.rows) x → Kept (with_node_row t i x)
  unfolding tables_right
  kept_node i x f =
      kept_of (with_node_row t i x)
      (test_set (tests_of t) 2 (every (node_right (length t.rows)) (set t.nodes i x)) all_right
      (every_set (node_right (length t.rows)) t.nodes i x (node_test _ x f) k.nodes))

  pub kept_committed : (p o : ℕ) → p ≤ length t.rows → o ≤ last_node → Kept (with_committed_number t p o)
  unfolding tables_right
  kept_committed p o h g =
      kept_of (with_committed_number t p o)
      (test_set (tests_of t) 1 (committed_right (length t.rows) p o) all_right (committed_test _ p o h g))

  pub kept_terms : (ts : List ℕ) → length ts ≤ index_limit → Kept (with_term_rows t ts)
  unfolding tables_right within_limits
  kept_terms ts h =
      kept_of (with_term_rows t ts)
      (test_set (tests_of t) 0 (within_limits (length t.rows) (length ts) (length t.certificates) (length t.findings) (length t.leader_logs)) all_right
      (limit_set 1 (length ts) index_limit h))

  pub kept_certificates : (cs : List CertificateRow) → length cs ≤ certificate_limit → every (certificate_right (length t.rows)) cs ≡ true
      → numbered cs ≡ true → Kept (with_certificate_rows t cs)
  unfolding tables_right within_limits
  kept_certificates cs h e m =
      let u = set (tests_of t) 0 (within_limits (length t.rows) (length t.terms) (length cs) (length t.findings) (length t.leader_logs)) in
      let v = set u 3 (every (certificate_right (length t.rows)) cs) in
      kept_of (with_certificate_rows t cs)
      (test_set v 4 (numbered cs)
      (test_set u 3 (every (certificate_right (length t.rows)) cs)
      (test_set (tests_of t) 0 (within_limits (length t.rows) (length t.terms) (length cs) (length t.findings) (length t.leader_logs)) all_right
      (limit_set 2 (length cs) certificate_limit h))
      e)
      m)

  pub kept_findings : (fs : List Finding) → length fs ≤ finding_limit → every finding_right fs ≡ true → Kept (with_finding_rows t fs)
  unfolding tables_right within_limits
  kept_findings fs h e =
      let u = set (tests_of t) 0 (within_limits (length t.rows) (length t.terms) (length t.certificates) (length fs) (length t.leader_logs)) in
      kept_of (with_finding_rows t fs)
      (test_set u 5 (every finding_right fs)
      (test_set (tests_of t) 0 (within_limits (length t.rows) (length t.terms) (length t.certificates) (length fs) (length t.leader_logs)) all_right
      (limit_set 3 (length fs) finding_limit h))
      e)

  pub kept_leader_logs : (ls : List LeaderLogRow) → length ls ≤ leader_log_limit → every (leader_log_right (length t.rows)) ls ≡ true
      → kept_once ls ≡ true → Kept (with_leader_log_rows t ls)
  unfolding tables_right within_limits
  kept_leader_logs ls h e m =
      let u = set (tests_of t) 0 (within_limits (length t.rows) (length t.terms) (length t.certificates) (length t.findings) (length ls)) in
      let v = set u 6 (every (leader_log_right (length t.rows)) ls) in
      kept_of (with_leader_log_rows t ls)
      (test_set v 7 (kept_once ls)
      (test_set u 6 (every (leader_log_right (length t.rows)) ls)
      (test_set (tests_of t) 0 (within_limits (length t.rows) (length t.terms) (length t.certificates) (length t.findings) (length ls)) all_right
      (all_last (limits_of t) (leb (length t.leader_logs) leader_log_limit) (leb (length ls) leader_log_limit) k.limits (le-leb _ _ h)))
      e)
      m)

  -- a prefix more: what names prefixes by number names them still
  pub kept_row : (x : PrefixRow) → length t.rows < prefix_limit → prefix_right t.rows x ≡ true → Kept (with_prefix_row t x)
  unfolding within_limits
  kept_row x h e =
      let l : length (t.rows ++ (x ∷ [])) ≡ length t.rows + 1 = length-append t.rows (x ∷ []) in
      let c = committed_named _ _ _ k.committed in
      record {
        limits = limit_set 0 (length (t.rows ++ (x ∷ []))) prefix_limit (omega arith);
        committed = committed_test _ _ _ (omega arith) c.1;
        nodes = every_weaker (node_right (length t.rows)) _ t.nodes
            (λ y q.
            let f = node_named _ y q in
            node_test _ y (record { front = omega arith; last = f.last; unseen = f.unseen })) k.nodes;
        certificates = every_weaker (certificate_right (length t.rows)) _ t.certificates
            (λ y q.
            let f = certificate_named _ y q in
            certificate_test _ y (record { log = omega arith; mark = f.mark; leader = f.leader; term = f.term; present = f.present })) k.certificates;
        numbered = k.numbered;
        findings = k.findings;
        leader_logs = every_weaker (leader_log_right (length t.rows)) _ t.leader_logs
            (λ y q.
            let f = leader_log_named _ y q in
            leader_log_test _ y (record { node = f.node; front = omega (arith, f.front); last = f.last })) k.leader_logs;
        once = k.once;
        rows = right_snoc [] t.rows x ∙ pass _ k.rows ∙ e;
      }

-- ---- what they mean

pub decode_is : (h : Bytes) → decode h ≡ history_in (tables_of h)
unfolding decode
decode_is h = refl

-- a node's front, last index and unseen mark
pub history_node : (t : Tables) (i : ℕ) (x : NodeRow) → history_in (with_node_row t i x)
    ≡ with_node (history_in t) i (prefix_at (history_in t).prefixes x.front) x.last x.unseen
history_node t i x =
    λ j.
    with_unseen
    (with_views (history_in t)
    (map_set (front_in (resolve t.rows)) t.nodes i x j)
    (map_set (λ (y : NodeRow). y.last) t.nodes i x j))
    (map_set (λ (y : NodeRow). y.unseen) t.nodes i x j)

-- a row more is a prefix more; every prefix named before keeps its entries
pub history_row : (t : Tables) (x : PrefixRow) → Kept t → history_in (with_prefix_row t x)
    ≡ with_prefixes (history_in t) ((history_in t).prefixes ++ (extended (history_in t).prefixes x ∷ []))
history_row t x k =
    λ j.
    with_leader_logs
    (with_certificates
    (with_committed
    (with_views
    (with_prefixes (history_in t) (resolve_snoc [] t.rows x j))
    (map_every (node_right (length t.rows)) (front_in (resolve (t.rows ++ (x ∷ [])))) (front_in (resolve t.rows)) t.nodes
    (λ y q. same y.front (node_named _ y q).front) k.nodes j)
    (history_in t).lasts)
    (same t.committed (committed_named _ _ _ k.committed).0 j)
    (history_in t).owner)
    (map_every (certificate_right (length t.rows)) (certificate_in (resolve (t.rows ++ (x ∷ [])))) (certificate_in (resolve t.rows)) t.certificates
    (λ y q i.
    record {
      leader = y.leader;
      term = y.term;
      number = y.number;
      log = cond (eqb y.present 0) none (some (same y.log (certificate_named _ y q).log i));
      mark = y.mark;
    }) k.certificates j))
    (map_every (leader_log_right (length t.rows)) (leader_log_in (resolve (t.rows ++ (x ∷ [])))) (leader_log_in (resolve t.rows)) t.leader_logs
    (λ y q i.
    record {
      node = y.node;
      term = y.term;
      front = same y.front (leader_log_named _ y q).front i;
      last = y.last;
    }) k.leader_logs j)
  where
    same : (p : ℕ) → p ≤ length t.rows → prefix_at (resolve (t.rows ++ (x ∷ []))) p ≡ prefix_at (resolve t.rows) p
    same p h =
        ap (λ (l : List Prefix). prefix_at l p) (resolve_snoc [] t.rows x)
        ∙ number_kept [] (resolve t.rows) (extended (resolve t.rows) x) p (omega (arith, resolve_count t.rows))
