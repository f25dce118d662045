-- The head of a history: its fields, each by its place in the list of them (`head_fields`). It is the history's first bytes, so each may
-- be read of the head or of the whole history.
-- Assumes nothing.
use Rattle.std.specs.Prelude.{ℕ}
use Rattle.model.specs.Sizes.{Bytes}
use Rattle.storage_bytes.specs.Words.{Word, word_at, word_bytes, put_bytes}
use Rattle.storage_bytes.specs.Layout.{start_in, length_in, head_fields, prefixes_field, terms_field, committed_field, certificates_field, findings_field, owner_field, leader_logs_field}

-- a field read, and written
abbrev pub head_field : ℕ → Bytes → ℕ
head_field k h = word_at h (start_in head_fields k) (length_in head_fields k)

abbrev pub put_head_field : ℕ → Bytes → ℕ → Bytes
put_head_field k h v = put_bytes h (start_in head_fields k) (word_bytes (length_in head_fields k) v)

-- what reading a field gives
abbrev pub HeadField : ℕ → Bytes → ℕ → Type 0
HeadField k h r = Word h (start_in head_fields k) (length_in head_fields k) r

-- ---- each by its name

abbrev pub prefixes_held : Bytes → ℕ
prefixes_held h = head_field prefixes_field h

abbrev pub terms_held : Bytes → ℕ
terms_held h = head_field terms_field h

-- the number of the committed prefix
abbrev pub committed_number : Bytes → ℕ
committed_number h = head_field committed_field h

abbrev pub certificates_held : Bytes → ℕ
certificates_held h = head_field certificates_field h

abbrev pub findings_held : Bytes → ℕ
findings_held h = head_field findings_field h

-- the node that showed the committed prefix
abbrev pub owner_of : Bytes → ℕ
owner_of h = head_field owner_field h

abbrev pub leader_logs_held : Bytes → ℕ
leader_logs_held h = head_field leader_logs_field h
