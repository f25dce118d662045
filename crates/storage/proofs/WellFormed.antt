-- What the storage rules say of well-formed bytes, by the numbers that the code reads: the tables by the counts in the head, the
-- limits, and what each row names.
-- Assumes nothing.
use Prim.Native.Nat.{ℕ, ◌≤◌, ◌<◌}
use native.Mathlib.Nat.{zero-add}
use native.Mathlib.Omega.{arith}
use mathlib.Core.Path.{◌≡◌, sym, ◌∙◌, ap, subst}
use mathlib.Core.Bool.{true}
use mathlib.Core.List.{[]}
use lib.ListN.{length, get_or}
use Rattle.model.specs.Sizes.{Bytes, last_node, node_count, index_limit, prefix_limit, certificate_limit, finding_limit, leader_log_limit}
use Rattle.storage_bytes.specs.Layout.{history_length, prefixes_field, terms_field, committed_field, certificates_field, findings_field, owner_field, leader_logs_field}
use Rattle.storage.specs.Tables.{NodeRow, CertificateRow, LeaderLogRow, row_of_node, certificate_row, prefix_row, finding_row, term_row, rows_of_prefixes, rows_of_certificates, finding_rows, term_rows, leader_log_row, leader_log_rows, head_part, nodes_part, terms_part, certificates_part, findings_part, prefixes_part, leader_logs_part, tables_in, tables_of}
use Rattle.storage.specs.Values.{number_index, committed_end}
use Rattle.storage.specs.Decode.{prefix_at, resolve}
use Rattle.storage.specs.Rules.{node_right, certificate_right, leader_log_right, prefixes_right_after, well_formed}
use Rattle.storage.specs.Head.{prefixes_held, terms_held, committed_number, certificates_held, findings_held, owner_of, leader_logs_held}
use Rattle.storage_bytes.proofs.ListLaws.{tabulate_length, tabulate_at, every_at}
use Rattle.storage.proofs.RowFacts.{Facts, facts_of, rows_sized, index_small}
use Rattle.storage.proofs.RuleLaws.{within, index_among_lem}
use Rattle.storage.proofs.DecodeLaws.{Kept, well_formed_parts, NodeNamed, node_named, CertificateNamed, certificate_named, LeaderLogNamed, leader_log_named, committed_named}
use Rattle.storage.proofs.HeadLaws.{head_read}

-- ---- the tables by the counts in the head

module _ (h : Bytes) where
  pub rows_are : (tables_of h).rows ≡ rows_of_prefixes (prefixes_part h) (prefixes_held h)
  unfolding tables_in
  rows_are = ap (rows_of_prefixes (prefixes_part h)) (head_read h prefixes_field)

  pub terms_are : (tables_of h).terms ≡ term_rows (terms_part h) (terms_held h)
  unfolding tables_in
  terms_are = ap (term_rows (terms_part h)) (head_read h terms_field)

  pub certificates_are : (tables_of h).certificates ≡ rows_of_certificates (certificates_part h) (certificates_held h)
  unfolding tables_in
  certificates_are = ap (rows_of_certificates (certificates_part h)) (head_read h certificates_field)

  pub findings_are : (tables_of h).findings ≡ finding_rows (findings_part h) (findings_held h)
  unfolding tables_in
  findings_are = ap (finding_rows (findings_part h)) (head_read h findings_field)

  pub rows_count : length (tables_of h).rows ≡ prefixes_held h
  rows_count = ap length rows_are ∙ tabulate_length (prefix_row (prefixes_part h)) 0 (prefixes_held h)

  pub terms_count : length (tables_of h).terms ≡ terms_held h
  terms_count = ap length terms_are ∙ tabulate_length (term_row (terms_part h)) 0 (terms_held h)

  pub certificates_count : length (tables_of h).certificates ≡ certificates_held h
  certificates_count = ap length certificates_are ∙ tabulate_length (certificate_row (certificates_part h)) 0 (certificates_held h)

  pub findings_count : length (tables_of h).findings ≡ findings_held h
  findings_count = ap length findings_are ∙ tabulate_length (finding_row (findings_part h)) 0 (findings_held h)

  pub leader_logs_are : (tables_of h).leader_logs ≡ leader_log_rows (leader_logs_part h) (leader_logs_held h)
  unfolding tables_in
  leader_logs_are = ap (leader_log_rows (leader_logs_part h)) (head_read h leader_logs_field)

  pub leader_logs_count : length (tables_of h).leader_logs ≡ leader_logs_held h
  leader_logs_count = ap length leader_logs_are ∙ tabulate_length (leader_log_row (leader_logs_part h)) 0 (leader_logs_held h)

  committed_is : (tables_of h).committed ≡ committed_number h
  unfolding tables_in
  committed_is = head_read h committed_field

  owner_is : (tables_of h).owner ≡ owner_of h
  unfolding tables_in
  owner_is = head_read h owner_field

  nodes_count : length (tables_of h).nodes ≡ node_count
  unfolding tables_in
  nodes_count = tabulate_length (row_of_node (nodes_part h)) 0 node_count

  -- a row by its place
  pub node_row : (k : ℕ) (d : NodeRow) → k < node_count → get_or (tables_of h).nodes k d ≡ row_of_node (nodes_part h) k
  unfolding tables_in
  node_row k d l = tabulate_at (row_of_node (nodes_part h)) 0 node_count k d l ∙ ap (row_of_node (nodes_part h)) (zero-add k)

  pub certificate_row_lem : (k : ℕ) (d : CertificateRow) → k < certificates_held h → get_or (tables_of h).certificates k d ≡ certificate_row (certificates_part h) k
  unfolding tables_in
  certificate_row_lem k d l =
      tabulate_at (certificate_row (certificates_part h)) 0 (certificates_held (head_part h)) k d (omega (arith, head_read h certificates_field))
      ∙ ap (certificate_row (certificates_part h)) (zero-add k)

  pub leader_log_row_lem : (k : ℕ) (d : LeaderLogRow) → k < leader_logs_held h → get_or (tables_of h).leader_logs k d ≡ leader_log_row (leader_logs_part h) k
  unfolding tables_in
  leader_log_row_lem k d l =
      tabulate_at (leader_log_row (leader_logs_part h)) 0 (leader_logs_held (head_part h)) k d (omega (arith, head_read h leader_logs_field))
      ∙ ap (leader_log_row (leader_logs_part h)) (zero-add k)

-- ---- what the rules say

pub record Formed (h : Bytes) : Type 0 where
  pub long : length h ≡ history_length
  pub prefixes : prefixes_held h ≤ prefix_limit
  pub terms : terms_held h ≤ index_limit
  pub certificates : certificates_held h ≤ certificate_limit
  pub findings : findings_held h ≤ finding_limit
  pub leader_logs : leader_logs_held h ≤ leader_log_limit
  pub committed : committed_number h ≤ prefixes_held h
  pub owner : owner_of h ≤ last_node
  pub node : (k : ℕ) → k < node_count → NodeNamed (prefixes_held h) (row_of_node (nodes_part h) k)
  pub certificate : (k : ℕ) → k < certificates_held h → CertificateNamed (prefixes_held h) (certificate_row (certificates_part h) k)
  pub leader_log : (k : ℕ) → k < leader_logs_held h → LeaderLogNamed (prefixes_held h) (leader_log_row (leader_logs_part h) k)
  pub rows : prefixes_right_after [] (rows_of_prefixes (prefixes_part h) (prefixes_held h)) ≡ true

module _ (h : Bytes) (e : well_formed h ≡ true) where
  kept : Kept (tables_of h)
  kept = (well_formed_parts h e).1

  node_formed : (k : ℕ) → k < node_count → NodeNamed (prefixes_held h) (row_of_node (nodes_part h) k)
  node_formed k l =
      let x = row_of_node (nodes_part h) k in
      let n = length (tables_of h).rows in
      subst (λ (m : ℕ). NodeNamed m x) (rows_count h)
      (subst (NodeNamed n) (node_row h k x l)
      (node_named n _ (every_at (node_right n) (tables_of h).nodes k x kept.nodes (omega (arith, nodes_count h)))))

  certificate_formed : (k : ℕ) → k < certificates_held h → CertificateNamed (prefixes_held h) (certificate_row (certificates_part h) k)
  certificate_formed k l =
      let x = certificate_row (certificates_part h) k in
      let n = length (tables_of h).rows in
      subst (λ (m : ℕ). CertificateNamed m x) (rows_count h)
      (subst (CertificateNamed n) (certificate_row_lem h k x l)
      (certificate_named n _ (every_at (certificate_right n) (tables_of h).certificates k x kept.certificates (omega (arith, certificates_count h)))))

  leader_log_formed : (k : ℕ) → k < leader_logs_held h → LeaderLogNamed (prefixes_held h) (leader_log_row (leader_logs_part h) k)
  leader_log_formed k l =
      let x = leader_log_row (leader_logs_part h) k in
      let n = length (tables_of h).rows in
      subst (λ (m : ℕ). LeaderLogNamed m x) (rows_count h)
      (subst (LeaderLogNamed n) (leader_log_row_lem h k x l)
      (leader_log_named n _ (every_at (leader_log_right n) (tables_of h).leader_logs k x kept.leader_logs (omega (arith, leader_logs_count h)))))

  pub formed : Formed h
  formed =
      let limits = within _ _ _ _ _ kept.limits in
      let named = committed_named _ _ _ kept.committed in
      record {
        long = (well_formed_parts h e).0;
        prefixes = omega (arith, rows_count h, limits.prefixes);
        terms = omega (arith, terms_count h, limits.terms);
        certificates = omega (arith, certificates_count h, limits.certificates);
        findings = omega (arith, findings_count h, limits.findings);
        leader_logs = omega (arith, leader_logs_count h, limits.leader_logs);
        committed = omega (arith, committed_is h, rows_count h, named.0);
        owner = omega (arith, owner_is h, named.1);
        node = node_formed;
        certificate = certificate_formed;
        leader_log = leader_log_formed;
        rows = ap (prefixes_right_after []) (sym (rows_are h)) ∙ kept.rows;
      }

-- the rows have their facts, and the index of a stored prefix is within the limit
pub formed_rows : (h : Bytes) → Formed h → Facts (rows_of_prefixes (prefixes_part h) (prefixes_held h))
formed_rows h f = facts_of (rows_of_prefixes (prefixes_part h) (prefixes_held h)) (rows_sized (prefixes_part h) (prefixes_held h)) f.rows

-- a number's index is the length of its prefix
pub rows_index : (t : Bytes) (n p : ℕ) → Facts (rows_of_prefixes t n) → p ≤ n → number_index t p ≡ length (prefix_at (resolve (rows_of_prefixes t n)) p)
rows_index t n p f l =
    sym (index_among_lem t n p l) ∙ sym (f.index p (subst (λ (m : ℕ). p ≤ m) (sym (tabulate_length (prefix_row t) 0 n)) l))

pub formed_index : (h : Bytes) → Formed h → (p : ℕ) → p ≤ prefixes_held h → number_index (prefixes_part h) p ≤ index_limit
formed_index h f p l =
    subst (λ (x : ℕ). x ≤ index_limit) (index_among_lem (prefixes_part h) (prefixes_held h) p l)
    (index_small (rows_of_prefixes (prefixes_part h) (prefixes_held h)) (formed_rows h f) p (omega (arith, tabulate_length (prefix_row (prefixes_part h)) 0 (prefixes_held h))))

pub end_small : (h : Bytes) → well_formed h ≡ true → committed_end h ≤ index_limit
unfolding committed_end
end_small h right = let f = formed h right in formed_index h f (committed_number h) f.committed

-- the counts alone, for functions that name them in their attribute: `grind` applies them where it would not read the record
pub prefixes_fit : (h : Bytes) → well_formed h ≡ true → prefixes_held h ≤ prefix_limit
prefixes_fit h right = (formed h right).prefixes

pub certificates_fit : (h : Bytes) → well_formed h ≡ true → certificates_held h ≤ certificate_limit
certificates_fit h right = (formed h right).certificates

pub findings_fit : (h : Bytes) → well_formed h ≡ true → findings_held h ≤ finding_limit
findings_fit h right = (formed h right).findings

pub leader_logs_fit : (h : Bytes) → well_formed h ≡ true → leader_logs_held h ≤ leader_log_limit
leader_logs_fit h right = (formed h right).leader_logs

pub committed_fits : (h : Bytes) → well_formed h ≡ true → committed_number h ≤ prefixes_held h
committed_fits h right = (formed h right).committed
