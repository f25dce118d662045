-- Document 01, "Sizes of things", and T-02 of document 02.
-- Node 0 to 63, index, count and length 0 to 256, term 32 bits, content 0 to 32 bytes. A history holds 512 distinct
-- nonempty prefixes, 64 certificates, the views kept for 64 leaders of a term and 128 distinct findings. Here each is a number; the code keeps them apart as units.
-- docs/SCOPE.md, "Sizes".
-- Assumes nothing.
use Rattle.std.specs.Prelude.{ℕ, ◌+◌, List}

-- a record is any list of bytes
abbrev pub Bytes : Type 0
Bytes = List ℕ

-- the greatest node, and how many there are
abbrev pub last_node : ℕ
last_node = 63

abbrev pub node_count : ℕ
node_count = last_node + 1

-- the greatest term, and what is past it: every number of 32 bits is a term
abbrev pub term_limit : ℕ
term_limit = 4294967295

abbrev pub term_end : ℕ
term_end = term_limit + 1

abbrev pub index_limit : ℕ
index_limit = 256

abbrev pub content_limit : ℕ
content_limit = 32

abbrev pub prefix_limit : ℕ
prefix_limit = 512

abbrev pub certificate_limit : ℕ
certificate_limit = 64

abbrev pub leader_log_limit : ℕ
leader_log_limit = 64

abbrev pub finding_limit : ℕ
finding_limit = 128
