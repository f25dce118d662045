-- Where each table of a history lies in its lent bytes, how wide its rows are, and where their fields lie. docs/LAYOUT.md has the
-- same as a page. A field is as wide as the fewest whole bytes that hold its limit, high byte first, and there are no spare bytes.
-- Assumes nothing.
use Rattle.std.specs.Prelude.{ℕ, zero, suc, ◌+◌, ◌*◌, ◌≡◌, List, [], ◌∷◌, length, get_or, take, drop}
use Rattle.model.specs.Sizes.{Bytes, node_count, index_limit, content_limit, prefix_limit, certificate_limit, finding_limit, leader_log_limit}

-- ---- fields: how many bytes each sort of number takes. A count takes as many as what it counts.

-- a prefix's number, up to 512
abbrev pub number_width : ℕ
number_width = 2

-- an index, up to 256
abbrev pub index_width : ℕ
index_width = 2

abbrev pub term_width : ℕ
term_width = 4

-- a node, a count of certificates, findings or leaders' logs, the name of a finding, the length of a content, a yes or no
abbrev pub byte_width : ℕ
byte_width = 1

-- ---- things that follow one another: of a list of lengths, where the k-th starts, and how long it is

abbrev pub start_in : List ℕ → ℕ → ℕ
start_in [] k = 0
start_in (n ∷ ns) zero = 0
start_in (n ∷ ns) (suc k) = n + start_in ns k

abbrev pub length_in : List ℕ → ℕ → ℕ
length_in ns k = get_or ns k 0

-- ---- the head: its fields in their order, and the place of each among them

abbrev pub head_fields : List ℕ
head_fields = number_width ∷ index_width ∷ number_width ∷ byte_width ∷ byte_width ∷ byte_width ∷ byte_width ∷ []

abbrev pub prefixes_field : ℕ
prefixes_field = 0

abbrev pub terms_field : ℕ
terms_field = 1

abbrev pub committed_field : ℕ
committed_field = 2

abbrev pub certificates_field : ℕ
certificates_field = 3

abbrev pub findings_field : ℕ
findings_field = 4

abbrev pub owner_field : ℕ
owner_field = 5

abbrev pub leader_logs_field : ℕ
leader_logs_field = 6

-- ---- rows: where their fields lie, the first at 0, and how many bytes each row takes

-- a node: front, last, unseen
abbrev pub node_last : ℕ
node_last = number_width

abbrev pub node_unseen : ℕ
node_unseen = node_last + index_width

abbrev pub node_width : ℕ
node_width = node_unseen + index_width

-- a certificate: term, log, mark, leader, number, present
abbrev pub certificate_log : ℕ
certificate_log = term_width

abbrev pub certificate_mark : ℕ
certificate_mark = certificate_log + number_width

abbrev pub certificate_leader : ℕ
certificate_leader = certificate_mark + index_width

abbrev pub certificate_number : ℕ
certificate_number = certificate_leader + byte_width

abbrev pub certificate_present : ℕ
certificate_present = certificate_number + byte_width

abbrev pub certificate_width : ℕ
certificate_width = certificate_present + byte_width

-- a finding: name, node, index, term
abbrev pub finding_node : ℕ
finding_node = byte_width

abbrev pub finding_index : ℕ
finding_index = finding_node + byte_width

abbrev pub finding_term : ℕ
finding_term = finding_index + index_width

abbrev pub finding_width : ℕ
finding_width = finding_term + term_width

-- a prefix: parent, index, term, mark, size, content
abbrev pub prefix_index : ℕ
prefix_index = number_width

abbrev pub prefix_term : ℕ
prefix_term = prefix_index + index_width

abbrev pub prefix_mark : ℕ
prefix_mark = prefix_term + term_width

abbrev pub prefix_size : ℕ
prefix_size = prefix_mark + byte_width

abbrev pub prefix_content : ℕ
prefix_content = prefix_size + byte_width

abbrev pub prefix_width : ℕ
prefix_width = prefix_content + content_limit

-- a leader's log: node, term, front, last
abbrev pub leader_log_term : ℕ
leader_log_term = byte_width

abbrev pub leader_log_front : ℕ
leader_log_front = leader_log_term + term_width

abbrev pub leader_log_last : ℕ
leader_log_last = leader_log_front + number_width

abbrev pub leader_log_width : ℕ
leader_log_width = leader_log_last + index_width

-- ---- regions: the length of each in their order, and the place of each among them

abbrev pub regions : List ℕ
regions =
    start_in head_fields (length head_fields)
    ∷ node_count * node_width
    ∷ index_limit * term_width
    ∷ certificate_limit * certificate_width
    ∷ finding_limit * finding_width
    ∷ prefix_limit * prefix_width
    ∷ leader_log_limit * leader_log_width
    ∷ []

abbrev pub head_region : ℕ
head_region = 0

abbrev pub nodes_region : ℕ
nodes_region = 1

abbrev pub terms_region : ℕ
terms_region = 2

abbrev pub certificates_region : ℕ
certificates_region = 3

abbrev pub findings_region : ℕ
findings_region = 4

abbrev pub prefixes_region : ℕ
prefixes_region = 5

abbrev pub leader_logs_region : ℕ
leader_logs_region = 6

abbrev pub head_start : ℕ
head_start = start_in regions head_region

abbrev pub head_length : ℕ
head_length = length_in regions head_region

abbrev pub nodes_start : ℕ
nodes_start = start_in regions nodes_region

abbrev pub nodes_length : ℕ
nodes_length = length_in regions nodes_region

abbrev pub terms_start : ℕ
terms_start = start_in regions terms_region

abbrev pub terms_length : ℕ
terms_length = length_in regions terms_region

abbrev pub certificates_start : ℕ
certificates_start = start_in regions certificates_region

abbrev pub certificates_length : ℕ
certificates_length = length_in regions certificates_region

abbrev pub findings_start : ℕ
findings_start = start_in regions findings_region

abbrev pub findings_length : ℕ
findings_length = length_in regions findings_region

abbrev pub prefixes_start : ℕ
prefixes_start = start_in regions prefixes_region

abbrev pub prefixes_length : ℕ
prefixes_length = length_in regions prefixes_region

abbrev pub leader_logs_start : ℕ
leader_logs_start = start_in regions leader_logs_region

abbrev pub leader_logs_length : ℕ
leader_logs_length = length_in regions leader_logs_region

-- the length of the whole
abbrev pub history_length : ℕ
history_length = start_in regions (length regions)

-- ---- a part

-- the n bytes from a on
unfoldable pub part : Bytes → ℕ → ℕ → Bytes
part h a n = take n (drop a h)

-- what lending a part gives: the part, as long as asked
pub record Part (h : Bytes) (a n : ℕ) (p : Bytes) : Type 0 where
  pub is : p ≡ part h a n
  pub long : length p ≡ n
