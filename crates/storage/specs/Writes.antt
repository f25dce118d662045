-- The bytes of each row, as they are written: at place k of a table of rows w wide, row x is `put_bytes region (k * w) (bytes x)`.
-- A row is read back as it was written where each of its numbers fits its field.
-- Assumes nothing.
use Rattle.std.specs.Prelude.{ℕ, ◌+◌, ◌-◌, ◌*◌, ◌≤◌, ◌≡◌, ◌++◌, length, take}
use Rattle.model.specs.History.{Finding}
use Rattle.model.specs.Sizes.{Bytes, content_limit}
use Rattle.storage_bytes.specs.Layout.{terms_start, certificates_start, prefixes_start, leader_logs_start, term_width, certificate_width, prefix_width, leader_log_width, number_width, index_width, byte_width, prefixes_field, terms_field, committed_field, certificates_field, owner_field, leader_logs_field}
use Rattle.storage_bytes.specs.Words.{word_at, word_bytes, bytes_at, put_bytes, Fits}
use Rattle.storage.specs.Tables.{PrefixRow, NodeRow, CertificateRow, LeaderLogRow, certificates_part}
use Rattle.storage.specs.Fresh.{zeros}
use Rattle.storage.specs.Head.{prefixes_held, terms_held, certificates_held, leader_logs_held, put_head_field}

unfoldable pub node_bytes : NodeRow → Bytes
unfolding word_bytes
node_bytes x = word_bytes number_width x.front ++ (word_bytes index_width x.last ++ word_bytes index_width x.unseen)

unfoldable pub certificate_bytes : CertificateRow → Bytes
unfolding word_bytes
certificate_bytes x =
    word_bytes term_width x.term
    ++ (word_bytes number_width x.log
    ++ (word_bytes index_width x.mark
    ++ (word_bytes byte_width x.leader ++ (word_bytes byte_width x.number ++ word_bytes byte_width x.present))))

unfoldable pub finding_bytes : Finding → Bytes
unfolding word_bytes
finding_bytes x =
    word_bytes byte_width x.name
    ++ (word_bytes byte_width x.node ++ (word_bytes index_width x.index ++ word_bytes term_width x.term))

-- parent, index, term, mark, size, and the bytes of which the content is the first
unfoldable pub prefix_bytes : ℕ → ℕ → ℕ → ℕ → ℕ → Bytes → Bytes
unfolding word_bytes
prefix_bytes parent index term mark size padded =
    word_bytes number_width parent
    ++ (word_bytes index_width index
    ++ (word_bytes term_width term ++ (word_bytes byte_width mark ++ (word_bytes byte_width size ++ padded))))

unfoldable pub leader_log_bytes : LeaderLogRow → Bytes
unfolding word_bytes
leader_log_bytes x =
    word_bytes byte_width x.node
    ++ (word_bytes term_width x.term ++ (word_bytes number_width x.front ++ word_bytes index_width x.last))

-- ---- each number fits its field

pub record NodeFits (x : NodeRow) : Type 0 where
  pub front : Fits number_width x.front
  pub last : Fits index_width x.last
  pub unseen : Fits index_width x.unseen

pub record CertificateFits (x : CertificateRow) : Type 0 where
  pub term : Fits term_width x.term
  pub log : Fits number_width x.log
  pub mark : Fits index_width x.mark
  pub leader : Fits byte_width x.leader
  pub number : Fits byte_width x.number
  pub present : Fits byte_width x.present

pub record FindingFits (x : Finding) : Type 0 where
  pub name : Fits byte_width x.name
  pub node : Fits byte_width x.node
  pub index : Fits index_width x.index
  pub term : Fits term_width x.term

pub record LeaderLogFits (x : LeaderLogRow) : Type 0 where
  pub node : Fits byte_width x.node
  pub term : Fits term_width x.term
  pub front : Fits number_width x.front
  pub last : Fits index_width x.last

pub record PrefixFits (p i t q s : ℕ) (c : Bytes) : Type 0 where
  pub parent : Fits number_width p
  pub index : Fits index_width i
  pub term : Fits term_width t
  pub mark : q ≤ 1
  pub size : s ≤ content_limit
  pub padded : length c ≡ content_limit

-- the row that is read where those numbers were written
abbrev pub prefix_of : ℕ → ℕ → ℕ → ℕ → ℕ → Bytes → PrefixRow
prefix_of parent index term mark size padded =
    record { parent = parent; index = index; term = term; mark = mark; size = size; content = take size padded }

-- ---- the writes of a whole history that are more than one row's

-- one more prefix: its row, and the count
unfoldable pub prefix_appended : Bytes → ℕ → ℕ → ℕ → ℕ → ℕ → Bytes → Bytes
unfolding word_at put_bytes prefix_bytes
prefix_appended h p i t q s c =
    let n = prefixes_held h in
    put_head_field prefixes_field (put_bytes h (prefixes_start + n * prefix_width) (prefix_bytes p i t q s c)) (n + 1)

-- commit terms lengthened with zeros to m: their places, and the count
unfoldable pub terms_lengthened : Bytes → ℕ → Bytes
unfolding word_at put_bytes zeros
terms_lengthened h m =
    let n = terms_held h in
    put_head_field terms_field (put_bytes h (terms_start + n * term_width) (zeros ((m - n) * term_width))) m

-- the committed prefix's number and owner
unfoldable pub committed_set : Bytes → ℕ → ℕ → Bytes
unfolding put_bytes word_bytes
committed_set h p o = put_head_field owner_field (put_head_field committed_field h p) o

-- a certificate at place k of a table of n: those from k on move up by one row
unfoldable pub certificate_inserted : Bytes → ℕ → ℕ → CertificateRow → Bytes
unfolding bytes_at put_bytes certificate_bytes
certificate_inserted r n k x =
    put_bytes (put_bytes r (k * certificate_width + certificate_width) (bytes_at r (k * certificate_width) ((n - k) * certificate_width))) (k * certificate_width) (certificate_bytes x)

-- one more certificate in a whole history, at place k: the table, and the count
unfoldable pub certificate_added : Bytes → ℕ → CertificateRow → Bytes
unfolding word_at put_bytes certificate_inserted
certificate_added h k x =
    let n = certificates_held h in
    put_head_field certificates_field (put_bytes h certificates_start (certificate_inserted (certificates_part h) n k x)) (n + 1)

-- one more leader's log: its row, and the count
unfoldable pub leader_log_appended : Bytes → LeaderLogRow → Bytes
unfolding word_at put_bytes leader_log_bytes
leader_log_appended h x =
    let n = leader_logs_held h in
    put_head_field leader_logs_field (put_bytes h (leader_logs_start + n * leader_log_width) (leader_log_bytes x)) (n + 1)
