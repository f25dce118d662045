-- The bytes of a history as tables of numbered rows. Prefixes are still numbers here: 0 is the empty prefix, k the k-th row.
-- A row past its table's count is not in the table, so its bytes do not matter; nor do content bytes past the row's size.
-- Assumes nothing.
use Rattle.std.specs.Prelude.{ℕ, ◌+◌, ◌*◌, min, List, [], ◌∷◌, ◌++◌, set}
use Rattle.model.specs.History.{Finding}
use Rattle.model.specs.Sizes.{Bytes, node_count, content_limit}
use Rattle.storage_bytes.specs.Lists.{tabulate}
use Rattle.storage_bytes.specs.Words.{word_at, bytes_at}
use Rattle.storage_bytes.specs.Layout.{part, start_in, length_in, regions, head_region, nodes_region, terms_region, certificates_region, findings_region, prefixes_region, prefixes_field, terms_field, committed_field, certificates_field, findings_field, owner_field, number_width, index_width, term_width, byte_width, node_last, node_unseen, node_width, certificate_log, certificate_mark, certificate_leader, certificate_number, certificate_present, certificate_width, finding_node, finding_index, finding_term, finding_width, prefix_index, prefix_term, prefix_mark, prefix_size, prefix_content, prefix_width, leader_logs_region, leader_logs_field, leader_log_term, leader_log_front, leader_log_last, leader_log_width}
use Rattle.storage.specs.Head.{head_field}

-- a stored prefix: the number of the prefix that it extends, its own index, and its last entry's term, mark and content. A mark is
-- 1 for a configuration entry and 0 for a portion record.
pub record PrefixRow : Type 0 where
  pub parent : ℕ
  pub index : ℕ
  pub term : ℕ
  pub mark : ℕ
  pub size : ℕ
  pub content : Bytes

-- a node: the number of its front, the last index of its view, its unseen mark
pub record NodeRow : Type 0 where
  pub front : ℕ
  pub last : ℕ
  pub unseen : ℕ

-- a certificate: its log is the prefix of that number where `present` is not 0
pub record CertificateRow : Type 0 where
  pub term : ℕ
  pub log : ℕ
  pub mark : ℕ
  pub leader : ℕ
  pub number : ℕ
  pub present : ℕ

-- a leader's log: what was kept for the node in the term, the number of its front and the last index of its view
pub record LeaderLogRow : Type 0 where
  pub node : ℕ
  pub term : ℕ
  pub front : ℕ
  pub last : ℕ

pub record Tables : Type 0 where
  pub rows : List PrefixRow
  pub nodes : List NodeRow
  pub committed : ℕ
  pub owner : ℕ
  pub terms : List ℕ
  pub certificates : List CertificateRow
  pub findings : List Finding
  pub leader_logs : List LeaderLogRow

-- ---- a row of a region, by its place from 0

abbrev pub row_of_node : Bytes → ℕ → NodeRow
row_of_node r k =
    let o = k * node_width in
    record { front = word_at r o number_width; last = word_at r (o + node_last) index_width; unseen = word_at r (o + node_unseen) index_width }

abbrev pub term_row : Bytes → ℕ → ℕ
term_row r k = word_at r (k * term_width) term_width

abbrev pub certificate_row : Bytes → ℕ → CertificateRow
certificate_row r k =
    let o = k * certificate_width in
    record {
      term = word_at r o term_width;
      log = word_at r (o + certificate_log) number_width;
      mark = word_at r (o + certificate_mark) index_width;
      leader = word_at r (o + certificate_leader) byte_width;
      number = word_at r (o + certificate_number) byte_width;
      present = word_at r (o + certificate_present) byte_width;
    }

abbrev pub finding_row : Bytes → ℕ → Finding
finding_row r k =
    let o = k * finding_width in
    record {
      name = word_at r o byte_width;
      node = word_at r (o + finding_node) byte_width;
      index = word_at r (o + finding_index) index_width;
      term = word_at r (o + finding_term) term_width;
    }

-- how many bytes of content the row has: of one that breaks the storage rules no more than there is room for
abbrev pub content_size : Bytes → ℕ → ℕ
content_size r o = min (word_at r (o + prefix_size) byte_width) content_limit

abbrev pub prefix_row : Bytes → ℕ → PrefixRow
prefix_row r k =
    let o = k * prefix_width in
    record {
      parent = word_at r o number_width;
      index = word_at r (o + prefix_index) index_width;
      term = word_at r (o + prefix_term) term_width;
      mark = word_at r (o + prefix_mark) byte_width;
      size = word_at r (o + prefix_size) byte_width;
      content = bytes_at r (o + prefix_content) (content_size r o);
    }

abbrev pub leader_log_row : Bytes → ℕ → LeaderLogRow
leader_log_row r k =
    let o = k * leader_log_width in
    record {
      node = word_at r o byte_width;
      term = word_at r (o + leader_log_term) term_width;
      front = word_at r (o + leader_log_front) number_width;
      last = word_at r (o + leader_log_last) index_width;
    }

-- ---- the first n rows of a region

abbrev pub node_rows : Bytes → List NodeRow
node_rows r = tabulate (row_of_node r) 0 node_count

abbrev pub term_rows : Bytes → ℕ → List ℕ
term_rows r n = tabulate (term_row r) 0 n

abbrev pub rows_of_certificates : Bytes → ℕ → List CertificateRow
rows_of_certificates r n = tabulate (certificate_row r) 0 n

abbrev pub finding_rows : Bytes → ℕ → List Finding
finding_rows r n = tabulate (finding_row r) 0 n

abbrev pub rows_of_prefixes : Bytes → ℕ → List PrefixRow
rows_of_prefixes r n = tabulate (prefix_row r) 0 n

abbrev pub leader_log_rows : Bytes → ℕ → List LeaderLogRow
leader_log_rows r n = tabulate (leader_log_row r) 0 n

-- ---- the regions of a history, each by its place in the list of them (`regions`)

abbrev pub Contents : Type 0
Contents = ℕ → Bytes

abbrev pub regions_of : Bytes → Contents
regions_of h r = part h (start_in regions r) (length_in regions r)

abbrev pub head_part : Bytes → Bytes
head_part h = regions_of h head_region

abbrev pub nodes_part : Bytes → Bytes
nodes_part h = regions_of h nodes_region

abbrev pub terms_part : Bytes → Bytes
terms_part h = regions_of h terms_region

abbrev pub certificates_part : Bytes → Bytes
certificates_part h = regions_of h certificates_region

abbrev pub findings_part : Bytes → Bytes
findings_part h = regions_of h findings_region

abbrev pub prefixes_part : Bytes → Bytes
prefixes_part h = regions_of h prefixes_region

abbrev pub leader_logs_part : Bytes → Bytes
leader_logs_part h = regions_of h leader_logs_region

-- the tables, by the numbers of the head and what the regions hold
abbrev pub tables_by : (ℕ → ℕ) → Contents → Tables
tables_by n c =
    record {
      rows = rows_of_prefixes (c prefixes_region) (n prefixes_field);
      nodes = node_rows (c nodes_region);
      committed = n committed_field;
      owner = n owner_field;
      terms = term_rows (c terms_region) (n terms_field);
      certificates = rows_of_certificates (c certificates_region) (n certificates_field);
      findings = finding_rows (c findings_region) (n findings_field);
      leader_logs = leader_log_rows (c leader_logs_region) (n leader_logs_field);
    }

-- the numbers of the head
abbrev pub numbers_in : Contents → ℕ → ℕ
numbers_in c k = head_field k (c head_region)

unfoldable pub tables_in : Contents → Tables
unfolding word_at bytes_at
tables_in c = tables_by (numbers_in c) c

-- the tables of a history
abbrev pub tables_of : Bytes → Tables
tables_of h = tables_in (regions_of h)

-- ---- tables with one thing changed

abbrev pub with_prefix_rows : Tables → List PrefixRow → Tables
with_prefix_rows t rs =
    record {
      rows = rs;
      nodes = t.nodes;
      committed = t.committed;
      owner = t.owner;
      terms = t.terms;
      certificates = t.certificates;
      findings = t.findings;
      leader_logs = t.leader_logs;
    }

-- one more prefix
abbrev pub with_prefix_row : Tables → PrefixRow → Tables
with_prefix_row t x = with_prefix_rows t (t.rows ++ (x ∷ []))

abbrev pub with_node_rows : Tables → List NodeRow → Tables
with_node_rows t ns =
    record {
      rows = t.rows;
      nodes = ns;
      committed = t.committed;
      owner = t.owner;
      terms = t.terms;
      certificates = t.certificates;
      findings = t.findings;
      leader_logs = t.leader_logs;
    }

-- a node's row set
abbrev pub with_node_row : Tables → ℕ → NodeRow → Tables
with_node_row t k x = with_node_rows t (set t.nodes k x)

abbrev pub with_committed_number : Tables → ℕ → ℕ → Tables
with_committed_number t p n =
    record {
      rows = t.rows;
      nodes = t.nodes;
      committed = p;
      owner = n;
      terms = t.terms;
      certificates = t.certificates;
      findings = t.findings;
      leader_logs = t.leader_logs;
    }

abbrev pub with_term_rows : Tables → List ℕ → Tables
with_term_rows t ts =
    record {
      rows = t.rows;
      nodes = t.nodes;
      committed = t.committed;
      owner = t.owner;
      terms = ts;
      certificates = t.certificates;
      findings = t.findings;
      leader_logs = t.leader_logs;
    }

abbrev pub with_certificate_rows : Tables → List CertificateRow → Tables
with_certificate_rows t cs =
    record {
      rows = t.rows;
      nodes = t.nodes;
      committed = t.committed;
      owner = t.owner;
      terms = t.terms;
      certificates = cs;
      findings = t.findings;
      leader_logs = t.leader_logs;
    }

abbrev pub with_finding_rows : Tables → List Finding → Tables
with_finding_rows t fs =
    record {
      rows = t.rows;
      nodes = t.nodes;
      committed = t.committed;
      owner = t.owner;
      terms = t.terms;
      certificates = t.certificates;
      findings = fs;
      leader_logs = t.leader_logs;
    }

abbrev pub with_leader_log_rows : Tables → List LeaderLogRow → Tables
with_leader_log_rows t ls =
    record {
      rows = t.rows;
      nodes = t.nodes;
      committed = t.committed;
      owner = t.owner;
      terms = t.terms;
      certificates = t.certificates;
      findings = t.findings;
      leader_logs = ls;
    }
