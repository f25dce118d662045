-- Document 01, "Refused records": the storage rules, whose breach is answered 12. Each rule has a definition of its own.
--   right length: `right_length`
--   counts within limits: `within_limits`
--   each nonempty prefix extends an earlier stored one by one index: `extends`
--   none stored twice: `is_among`
--   each prefix named exists: `named`
--   a term's certificates numbered 0, 1, .. unbroken: `numbered`
--   no pair of leader and term kept twice: `kept_once`
--   every field in range: `is_node`, `is_index`, `is_term`, and the tests of a row that use them
-- "One remembered prefix per index and term" cannot be broken by any bytes: the prefix remembered for a pair is the first
-- stored one of that length and last term, so there is no table of them, and never two for a pair.
-- Nor can a term in bytes be out of range, as every number of four bytes is one, so the code does not test it. `Bytes` here are
-- lists of any numbers: for those the rule says it of a certificate's term (`is_term`), which a check copies into a finding.
-- Assumes nothing.
use Rattle.std.specs.Prelude.{ℕ, ◌+◌, Bool, true, cond, not, ◌&&◌, ◌||◌, List, [], ◌∷◌, ◌++◌, map, leb, ltb, eqb, length, get_or, drop}
use Rattle.model.specs.History.{Finding}
use Rattle.model.specs.Sizes.{Bytes, index_limit, content_limit, prefix_limit, certificate_limit, finding_limit, leader_log_limit, last_node, term_limit}
use Rattle.storage_bytes.specs.Lists.{every, some}
use Rattle.storage_bytes.specs.Words.{same_bytes}
use Rattle.storage_bytes.specs.Layout.{history_length}
use Rattle.storage.specs.Tables.{PrefixRow, NodeRow, CertificateRow, LeaderLogRow, Tables, tables_in, tables_of}

-- ---- every field in range

abbrev pub is_node : ℕ → Bool
is_node n = leb n last_node

abbrev pub is_index : ℕ → Bool
is_index i = leb i index_limit

abbrev pub is_term : ℕ → Bool
is_term t = leb t term_limit

-- ---- each prefix named exists: p is 0 or the number of one of n stored ones

abbrev pub named : ℕ → ℕ → Bool
named n p = leb p n

-- ---- the rules of one row; n prefixes are stored

unfoldable pub node_right : ℕ → NodeRow → Bool
node_right n r = named n r.front && (is_index r.last && is_index r.unseen)

unfoldable pub certificate_right : ℕ → CertificateRow → Bool
certificate_right n c = named n c.log && (is_index c.mark && (is_node c.leader && (is_term c.term && leb c.present 1)))

-- a finding's name is 1, 3, 4 or 5
abbrev pub is_name : ℕ → Bool
is_name n = eqb n 1 || (leb 3 n && leb n 5)

unfoldable pub finding_right : Finding → Bool
finding_right f = is_name f.name && (is_node f.node && is_index f.index)

unfoldable pub leader_log_right : ℕ → LeaderLogRow → Bool
leader_log_right n l = is_node l.node && (named n l.front && is_index l.last)

-- ---- a term's certificates numbered 0, 1, .. unbroken. The rows stand by term, then number.

-- d right after c: one number more in the same term, or the first of a later one
unfoldable pub follows : CertificateRow → CertificateRow → Bool
follows c d =
    cond (eqb d.term c.term) (eqb d.number (c.number + 1)) (ltb c.term d.term && eqb d.number 0)

unfoldable pub numbered_after : CertificateRow → List CertificateRow → Bool
unfolding follows
numbered_after c [] = true
numbered_after c (d ∷ ds) = follows c d && numbered_after d ds

unfoldable pub numbered : List CertificateRow → Bool
unfolding numbered_after
numbered [] = true
numbered (c ∷ cs) = eqb c.number 0 && numbered_after c cs

-- ---- no pair of leader and term kept twice

-- the row is of the pair
unfoldable pub is_pair : ℕ → ℕ → LeaderLogRow → Bool
is_pair n t l = eqb l.node n && eqb l.term t

-- one of the rows is of the pair
abbrev pub has_pair : ℕ → ℕ → List LeaderLogRow → Bool
has_pair n t rows = some (is_pair n t) rows

-- no row behind one is of its pair
unfoldable pub kept_once : List LeaderLogRow → Bool
unfolding is_pair some
kept_once [] = true
kept_once (l ∷ ls) = not (has_pair l.node l.term ls) && kept_once ls

-- ---- prefixes: a row is right by the rows before it

-- the index of a number's prefix
abbrev pub index_among : List PrefixRow → ℕ → ℕ
index_among before p = get_or (0 ∷ map (λ r. r.index) before) p 0

-- the row extends an earlier stored prefix by one index
abbrev pub extends : List PrefixRow → PrefixRow → Bool
extends before r = leb r.parent (length before) && eqb r.index (index_among before r.parent + 1)

-- the same prefix extended by the same entry
unfoldable pub same_row : PrefixRow → PrefixRow → Bool
unfolding same_bytes
same_row s r =
    eqb s.parent r.parent
    && (eqb s.term r.term && (eqb s.mark r.mark && (eqb s.size r.size && same_bytes s.content r.content)))

-- one of the rows stores the same prefix as r
abbrev pub is_among : PrefixRow → List PrefixRow → Bool
is_among r rows = some (λ s. same_row s r) rows

-- The rows that extend the same prefix come after it, so only those after the parent are looked at.
unfoldable pub prefix_right : List PrefixRow → PrefixRow → Bool
unfolding same_row some
prefix_right before r =
    extends before r
    && (is_index r.index && (leb r.mark 1 && (leb r.size content_limit && not (is_among r (drop r.parent before)))))

unfoldable pub prefixes_right_after : List PrefixRow → List PrefixRow → Bool
unfolding prefix_right
prefixes_right_after before [] = true
prefixes_right_after before (r ∷ rs) = prefix_right before r && prefixes_right_after (before ++ (r ∷ [])) rs

-- ---- the whole

abbrev pub right_length : Bytes → Bool
right_length h = eqb (length h) history_length

-- counts of prefixes, commit terms, certificates, findings and leaders' logs within the limits
unfoldable pub within_limits : ℕ → ℕ → ℕ → ℕ → ℕ → Bool
within_limits ps ts cs fs ls =
    leb ps prefix_limit && (leb ts index_limit && (leb cs certificate_limit && (leb fs finding_limit && leb ls leader_log_limit)))

-- the committed prefix exists, and its owner is a node
unfoldable pub committed_right : ℕ → ℕ → ℕ → Bool
committed_right n committed owner = named n committed && is_node owner

unfoldable pub tables_right : Tables → Bool
unfolding within_limits committed_right every node_right certificate_right numbered finding_right leader_log_right kept_once prefixes_right_after
tables_right t =
    within_limits (length t.rows) (length t.terms) (length t.certificates) (length t.findings) (length t.leader_logs)
    && (committed_right (length t.rows) t.committed t.owner
    && (every (node_right (length t.rows)) t.nodes
    && (every (certificate_right (length t.rows)) t.certificates
    && (numbered t.certificates
    && (every finding_right t.findings
    && (every (leader_log_right (length t.rows)) t.leader_logs
    && (kept_once t.leader_logs && prefixes_right_after [] t.rows)))))))

-- the bytes keep the storage rules
unfoldable pub well_formed : Bytes → Bool
unfolding tables_right tables_in
well_formed h = right_length h && tables_right (tables_of h)
