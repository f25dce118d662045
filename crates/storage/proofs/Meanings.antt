-- The writes in the bytes of a well-formed history, in the model's words: each leaves well-formed bytes, and says which
-- history they stand for. And what the accessors read, in those words.
-- Assumes nothing.
use Prim.Native.Nat.{ℕ, ◌+◌, ◌-◌, ◌*◌, ◌≤◌, ◌<◌}
use native.Mathlib.Nat.{zero-add}
use native.Mathlib.Omega.{arith}
use mathlib.Core.Path.{◌≡◌, refl, ap, sym, ◌∙◌, subst}
use mathlib.Core.Bool.{true, false}
use mathlib.Core.List.{List, [], ◌∷◌, ◌++◌, map, Memᴰ}
use lib.ListN.{length, get_or, set, take, drop, replicate, length-set, length-append, length-replicate, length-map, take-append-drop, get_or-map}
use Rattle.model.specs.Entry.{Prefix, is_in, with, with_all}
use Rattle.model.specs.History.{fresh, Certificate, Finding, LeaderLog, History, same_finding, noted, with_node, with_committed, with_terms, with_certificates, with_findings, with_leader_logs, with_prefixes}
use Rattle.model.specs.Sizes.{Bytes, last_node, node_count, index_limit, prefix_limit, certificate_limit, finding_limit, leader_log_limit, term_end}
use Rattle.model.proofs.Tests.{cond_cases}
use Rattle.storage_bytes.specs.Lists.{every}
use Rattle.storage_bytes.specs.Words.{word_bytes, put_bytes}
use Rattle.storage_bytes.specs.Layout.{nodes_start, terms_start, certificates_start, findings_start, findings_length, prefixes_start, leader_logs_start, history_length, node_width, term_width, prefix_width, leader_log_width, committed_field, findings_field, prefixes_field, terms_field, certificates_field, owner_field, leader_logs_field}
use Rattle.storage.specs.Tables.{NodeRow, CertificateRow, LeaderLogRow, Tables, row_of_node, term_row, finding_row, rows_of_prefixes, term_rows, rows_of_certificates, finding_rows, leader_log_rows, head_part, nodes_part, terms_part, certificates_part, findings_part, prefixes_part, leader_logs_part, tables_in, tables_of, with_prefix_row, with_node_row, with_committed_number, with_term_rows, with_certificate_rows, with_finding_rows, with_leader_log_rows}
use Rattle.storage.specs.Decode.{prefix_at, extended, resolve, front_in, certificate_in, leader_log_in, history_in, decode}
use Rattle.storage.specs.Rules.{certificate_right, finding_right, leader_log_right, numbered, has_pair, prefix_right, well_formed}
use Rattle.storage.specs.Values.{number_index, committed_end}
use Rattle.storage.specs.Writes.{node_bytes, prefix_bytes, leader_log_bytes, prefix_of, CertificateFits, PrefixFits, LeaderLogFits, prefix_appended, terms_lengthened, committed_set, certificate_inserted, certificate_added, leader_log_appended}
use Rattle.storage_bytes.proofs.ListLaws.{tabulate_length, tabulate_at, every_set, every_insert, map_set, map_insert, every_snoc}
use Rattle.storage_bytes.proofs.WordLaws.{put_length}
use Rattle.storage.proofs.RowFacts.{resolve_count, map_snoc}
use Rattle.storage.proofs.RuleLaws.{within, pass, SamePair, kept_once_set, kept_once_snoc}
use Rattle.storage.proofs.TableLaws.{findings_written_lem, set_node, set_term, prefix_appended_lem, terms_lengthened_lem, committed_set_lem, certificate_added_lem, set_leader_log, leader_log_appended_lem}
use Rattle.storage.specs.Fresh.{zeros, fresh_history}
use Rattle.storage.specs.Head.{prefixes_held, terms_held, committed_number, certificates_held, findings_held, owner_of, leader_logs_held, put_head_field}
use Rattle.storage.proofs.FreshLaws.{fresh_well_formed, fresh_decodes}
use Rattle.storage.proofs.WellFormed.{rows_are, terms_are, certificates_are, findings_are, leader_logs_are, rows_count, terms_count, certificates_count, findings_count, leader_logs_count, node_row, formed, formed_rows, rows_index}
use Rattle.storage.proofs.DecodeLaws.{Kept, well_formed_parts, well_formed_of, NodeNamed, CertificateNamed, certificate_test, kept_node, kept_committed, kept_terms, kept_certificates, kept_findings, kept_leader_logs, kept_row, decode_is, history_node, history_row, FindingNamed, finding_test, LeaderLogNamed, leader_log_test}
use Rattle.storage.proofs.HeadLaws.{head_read, head_kept}

-- well-formed bytes that stand for a history
pub record Represents (h : Bytes) (x : History) : Type 0 where
  pub right : well_formed h ≡ true
  pub decodes : decode h ≡ x

pub represents : (h : Bytes) (t : Tables) (x : History) → length h ≡ history_length → tables_of h ≡ t → Kept t → history_in t ≡ x → Represents h x
represents h t x l e k q =
    record { right = well_formed_of h l (subst Kept (sym e) k); decodes = decode_is h ∙ ap history_in e ∙ q }

-- bytes that keep the rules stand for what they decode to
pub represented : (h : Bytes) → well_formed h ≡ true → Represents h (decode h)
represented h w = record { right = w; decodes = refl }

-- ---- what is read

module _ (h : Bytes) where
  -- how many there are of each
  pub prefixes_read : length (decode h).prefixes ≡ prefixes_held h
  unfolding decode tables_in
  prefixes_read = resolve_count (tables_of h).rows ∙ rows_count h

  pub terms_read : length (decode h).terms ≡ terms_held h
  unfolding decode tables_in
  terms_read = terms_count h

  pub certificates_read : length (decode h).certificates ≡ certificates_held h
  unfolding decode tables_in
  certificates_read = length-map (tables_of h).certificates _ ∙ certificates_count h

  pub findings_read : length (decode h).findings ≡ findings_held h
  unfolding decode tables_in
  findings_read = findings_count h

  pub leader_logs_read : length (decode h).leader_logs ≡ leader_logs_held h
  unfolding decode tables_in
  leader_logs_read = length-map (tables_of h).leader_logs _ ∙ leader_logs_count h

  -- the committed prefix and its owner
  pub committed_read : (decode h).committed ≡ prefix_at (decode h).prefixes (committed_number h)
  unfolding decode tables_in
  committed_read = ap (prefix_at (decode h).prefixes) (head_read h committed_field)

  pub owner_read : (decode h).owner ≡ owner_of h
  unfolding decode tables_in
  owner_read = head_read h owner_field

  -- a node's front, last index and unseen mark
  abbrev no_node : NodeRow
  no_node = record { front = 0; last = 0; unseen = 0 }

  pub front_read : (k : ℕ) → k < node_count → get_or (decode h).fronts k [] ≡ prefix_at (decode h).prefixes (row_of_node (nodes_part h) k).front
  unfolding decode
  front_read k l =
      get_or-map (front_in (resolve (tables_of h).rows)) (tables_of h).nodes k no_node
      ∙ ap (front_in (resolve (tables_of h).rows)) (node_row h k no_node l)

  pub last_read : (k : ℕ) → k < node_count → get_or (decode h).lasts k 0 ≡ (row_of_node (nodes_part h) k).last
  unfolding decode
  last_read k l =
      get_or-map (λ (x : NodeRow). x.last) (tables_of h).nodes k no_node ∙ ap (λ (x : NodeRow). x.last) (node_row h k no_node l)

  pub unseen_read : (k : ℕ) → k < node_count → get_or (decode h).unseen k 0 ≡ (row_of_node (nodes_part h) k).unseen
  unfolding decode
  unseen_read k l =
      get_or-map (λ (x : NodeRow). x.unseen) (tables_of h).nodes k no_node ∙ ap (λ (x : NodeRow). x.unseen) (node_row h k no_node l)

  -- a commit term, where there is one
  pub term_read : (k d : ℕ) → k < terms_held h → get_or (decode h).terms k d ≡ term_row (terms_part h) k
  unfolding decode tables_in
  term_read k d l =
      tabulate_at (term_row (terms_part h)) 0 (terms_held (head_part h)) k d (omega (arith, head_read h terms_field))
      ∙ ap (term_row (terms_part h)) (zero-add k)

-- ---- leaders' logs of a pair

-- the log is the one of leader n in term t
abbrev pub IsPair : ℕ → ℕ → LeaderLog → Type 0
IsPair n t l = (n ≡ l.node) × (t ≡ l.term)

-- a row that stands for it is of that pair
same_pair : (ps : List Prefix) (ks : List LeaderLog) (ls : List LeaderLogRow) (k : ℕ) (l z : LeaderLogRow) → map (leader_log_in ps) ls ≡ ks
    → IsPair l.node l.term (get_or ks k (leader_log_in ps z)) → SamePair l (get_or ls k z)
same_pair ps ks ls k l z e p =
    let q : get_or (map (leader_log_in ps) ls) k (leader_log_in ps z) ≡ leader_log_in ps (get_or ls k z) = get_or-map (leader_log_in ps) ls k z in
    let r = sym (ap (λ (js : List LeaderLog). get_or js k (leader_log_in ps z)) e) ∙ q in
    (p.0 ∙ ap (λ (y : LeaderLog). y.node) r, p.1 ∙ ap (λ (y : LeaderLog). y.term) r)

-- ---- noted findings keep the rules

with_right : (fs : List Finding) (g : Finding) → every finding_right fs ≡ true → finding_right g ≡ true → every finding_right (with same_finding fs g) ≡ true
unfolding with
with_right fs g e f =
    cond_cases (λ (l : List Finding). every finding_right l ≡ true) (is_in same_finding g fs) fs (fs ++ (g ∷ [])) (λ _. e)
    (λ _. every_snoc finding_right fs g ∙ pass _ e ∙ f)

pub noted_right : (gs fs : List Finding) → every finding_right fs ≡ true → ((g : Finding) → Memᴰ g gs → FindingNamed g)
    → every finding_right (noted fs gs) ≡ true
unfolding noted with_all
noted_right [] fs e f = e
noted_right (g ∷ gs) fs e f =
    noted_right gs (with same_finding fs g) (with_right fs g e (finding_test g (f g (Memᴰ.head refl)))) (λ y m. f y (Memᴰ.tail m))

-- ---- what is written

module _ (h : Bytes) (x : History) (s : Represents h x) where
  pub long : length h ≡ history_length
  long = (well_formed_parts h s.right).0

  pub kept : Kept (tables_of h)
  kept = (well_formed_parts h s.right).1

  pub is : history_in (tables_of h) ≡ x
  is = sym (decode_is h) ∙ s.decodes

  pub prefixes_is : resolve (tables_of h).rows ≡ x.prefixes
  prefixes_is = ap (λ (y : History). y.prefixes) is

  pub certificates_is : map (certificate_in x.prefixes) (tables_of h).certificates ≡ x.certificates
  certificates_is =
      ap (λ (ps : List Prefix). map (certificate_in ps) (tables_of h).certificates) (sym prefixes_is) ∙ ap (λ (y : History). y.certificates) is

  -- the tables as the code reads them
  pub prefixes_stored : resolve (rows_of_prefixes (prefixes_part h) (prefixes_held h)) ≡ x.prefixes
  prefixes_stored = ap resolve (sym (rows_are h)) ∙ prefixes_is

  pub terms_stored : term_rows (terms_part h) (terms_held h) ≡ x.terms
  terms_stored = sym (terms_are h) ∙ ap (λ (y : History). y.terms) is

  pub certificates_stored : map (certificate_in x.prefixes) (rows_of_certificates (certificates_part h) (certificates_held h)) ≡ x.certificates
  certificates_stored = ap (map (certificate_in x.prefixes)) (sym (certificates_are h)) ∙ certificates_is

  pub findings_right : every finding_right x.findings ≡ true
  findings_right = ap (every finding_right) (sym (ap (λ (y : History). y.findings) is)) ∙ kept.findings

  pub findings_stored : finding_rows (findings_part h) (findings_held h) ≡ x.findings
  findings_stored = sym (findings_are h) ∙ ap (λ (y : History). y.findings) is

  pub leader_logs_is : map (leader_log_in x.prefixes) (tables_of h).leader_logs ≡ x.leader_logs
  leader_logs_is =
      ap (λ (ps : List Prefix). map (leader_log_in ps) (tables_of h).leader_logs) (sym prefixes_is) ∙ ap (λ (y : History). y.leader_logs) is

  pub leader_logs_stored : map (leader_log_in x.prefixes) (leader_log_rows (leader_logs_part h) (leader_logs_held h)) ≡ x.leader_logs
  leader_logs_stored = ap (map (leader_log_in x.prefixes)) (sym (leader_logs_are h)) ∙ leader_logs_is

  -- a number's index is the length of its prefix
  pub number_length : (p : ℕ) → p ≤ prefixes_held h → number_index (prefixes_part h) p ≡ length (prefix_at x.prefixes p)
  number_length p l =
      rows_index (prefixes_part h) (prefixes_held h) p (formed_rows h (formed h s.right)) l
      ∙ ap (λ (ps : List Prefix). length (prefix_at ps p)) prefixes_stored

  -- the committed prefix, and its end, which is its length
  pub committed_stored : prefix_at x.prefixes (committed_number h) ≡ x.committed
  committed_stored = sym (subst (λ (y : History). y.committed ≡ prefix_at y.prefixes (committed_number h)) s.decodes (committed_read h))

  pub end_is : committed_end h ≡ length x.committed
  unfolding committed_end
  end_is = number_length (committed_number h) (formed h s.right).committed ∙ ap length committed_stored

  certificates_change : (cs : List CertificateRow) → history_in (with_certificate_rows (tables_of h) cs) ≡ with_certificates x (map (certificate_in x.prefixes) cs)
  certificates_change cs = ap (λ (y : History). with_certificates y (map (certificate_in y.prefixes) cs)) is

  -- a node's row
  pub node_written : (k : ℕ) (n : NodeRow) → k < node_count → NodeNamed (prefixes_held h) n
      → Represents (put_bytes h (nodes_start + k * node_width) (node_bytes n)) (with_node x k (prefix_at x.prefixes n.front) n.last n.unseen)
  node_written k n l f =
      let c = within _ _ _ _ _ kept.limits in
      let r = rows_count h in
      let g : NodeNamed (length (tables_of h).rows) n = record { front = omega (arith, f.front); last = f.last; unseen = f.unseen } in
      represents (put_bytes h (nodes_start + k * node_width) (node_bytes n)) (with_node_row (tables_of h) k n) _
      (put_length h (nodes_start + k * node_width) (node_bytes n) ∙ long)
      (set_node h long k n l (record { front = omega (arith, g.front, c.prefixes); last = omega (arith, f.last); unseen = omega (arith, f.unseen) }))
      (kept_node (tables_of h) kept k n g)
      (history_node (tables_of h) k n ∙ ap (λ (y : History). with_node y k (prefix_at y.prefixes n.front) n.last n.unseen) is)

  -- the committed prefix and its owner
  pub committed_written : (p o : ℕ) → p ≤ prefixes_held h → o ≤ last_node
      → Represents (committed_set h p o) (with_committed x (prefix_at x.prefixes p) o)
  unfolding committed_set
  committed_written p o a b =
      let c = within _ _ _ _ _ kept.limits in
      let r = rows_count h in
      represents (committed_set h p o) (with_committed_number (tables_of h) p o) _
      (head_kept owner_field (put_head_field committed_field h p) o ∙ head_kept committed_field h p ∙ long)
      (committed_set_lem h long p o (omega (arith, c.prefixes)) (omega arith))
      (kept_committed (tables_of h) kept p o (omega arith) b)
      (ap (λ (y : History). with_committed y (prefix_at y.prefixes p) o) is)

  -- one more prefix
  pub prefix_written : (p i t q n : ℕ) (c : Bytes) → prefixes_held h < prefix_limit → PrefixFits p i t q n c
      → prefix_right (tables_of h).rows (prefix_of p i t q n c) ≡ true
      → Represents (prefix_appended h p i t q n c) (with_prefixes x (x.prefixes ++ (extended x.prefixes (prefix_of p i t q n c) ∷ [])))
  unfolding prefix_appended
  prefix_written p i t q n c l f e =
      let r = rows_count h in
      let m = prefixes_held h in
      represents (prefix_appended h p i t q n c) (with_prefix_row (tables_of h) (prefix_of p i t q n c)) _
      (head_kept prefixes_field (put_bytes h (prefixes_start + m * prefix_width) (prefix_bytes p i t q n c)) (m + 1) ∙ put_length h (prefixes_start + m * prefix_width) (prefix_bytes p i t q n c) ∙ long)
      (prefix_appended_lem h long p i t q n c l f)
      (kept_row (tables_of h) kept (prefix_of p i t q n c) (omega arith) e)
      (history_row (tables_of h) (prefix_of p i t q n c) kept
      ∙ ap (λ (y : History). with_prefixes y (y.prefixes ++ (extended y.prefixes (prefix_of p i t q n c) ∷ []))) is)

  -- a commit term set
  pub term_written : (k v : ℕ) → k < index_limit → v < term_end
      → Represents (put_bytes h (terms_start + k * term_width) (word_bytes term_width v)) (with_terms x (set x.terms k v))
  term_written k v l f =
      let c = within _ _ _ _ _ kept.limits in
      represents (put_bytes h (terms_start + k * term_width) (word_bytes term_width v)) (with_term_rows (tables_of h) (set (tables_of h).terms k v)) _
      (put_length h (terms_start + k * term_width) (word_bytes term_width v) ∙ long)
      (set_term h long k v l f)
      (kept_terms (tables_of h) kept (set (tables_of h).terms k v) (omega (arith, length-set (tables_of h).terms k v, c.terms)))
      (ap (λ (y : History). with_terms y (set y.terms k v)) is)

  -- the commit terms lengthened with zeros
  pub terms_added : (m : ℕ) → terms_held h ≤ m → m ≤ index_limit
      → Represents (terms_lengthened h m) (with_terms x (x.terms ++ replicate (m - terms_held h) 0))
  unfolding terms_lengthened
  terms_added m l f =
      let n = terms_held h in
      let zs : List ℕ = replicate (m - n) 0 in
      let count : length (tables_of h).terms ≡ n = sym (ap (λ (y : History). length y.terms) (decode_is h)) ∙ terms_read h in
      let more : length ((tables_of h).terms ++ zs) ≡ length (tables_of h).terms + (m - n)
      = length-append (tables_of h).terms zs ∙ ap (λ (k : ℕ). length (tables_of h).terms + k) (length-replicate (m - n) 0) in
      represents (terms_lengthened h m) (with_term_rows (tables_of h) ((tables_of h).terms ++ zs)) _
      (head_kept terms_field (put_bytes h (terms_start + n * term_width) (zeros ((m - n) * term_width))) m ∙ put_length h (terms_start + n * term_width) (zeros ((m - n) * term_width)) ∙ long)
      (terms_lengthened_lem h long m l f)
      (kept_terms (tables_of h) kept ((tables_of h).terms ++ zs) (omega arith))
      (ap (λ (y : History). with_terms y (y.terms ++ zs)) is)

  -- one more certificate at place k, where the numbers stay unbroken
  pub certificate_inserted_lem : (k : ℕ) (c : CertificateRow) → k ≤ certificates_held h → certificates_held h < certificate_limit → CertificateFits c → CertificateNamed (prefixes_held h) c
      → numbered (take k (tables_of h).certificates ++ (c ∷ drop k (tables_of h).certificates)) ≡ true
      → Represents (certificate_added h k c) (with_certificates x (take k x.certificates ++ (certificate_in x.prefixes c ∷ drop k x.certificates)))
  certificate_inserted_lem k c b l f g e =
      let r = rows_count h in
      let cs = (tables_of h).certificates in
      let n = length (tables_of h).rows in
      let count = certificates_count h in
      let named : CertificateNamed n c = record { log = omega (arith, g.log); mark = g.mark; leader = g.leader; term = g.term; present = g.present } in
      let more : length (take k cs ++ (c ∷ drop k cs)) ≡ length cs + 1
      = length-append (take k cs) (c ∷ drop k cs)
      ∙ (let a = length-append (take k cs) (drop k cs) in
      let d = ap length (take-append-drop k cs) in
      omega arith) in
      represents (certificate_added h k c) (with_certificate_rows (tables_of h) (take k cs ++ (c ∷ drop k cs))) _
      (added_length ∙ long)
      (certificate_added_lem h long k c b l f)
      (kept_certificates (tables_of h) kept (take k cs ++ (c ∷ drop k cs)) (omega arith)
      (every_insert (certificate_right n) cs k c (certificate_test n c named) kept.certificates)
      e)
      (certificates_change (take k cs ++ (c ∷ drop k cs))
      ∙ ap (with_certificates x)
      (map_insert (certificate_in x.prefixes) cs k c
      ∙ ap (λ (q : List Certificate). take k q ++ (certificate_in x.prefixes c ∷ drop k q)) certificates_is))
    where
      added_length : length (certificate_added h k c) ≡ length h
      added_length =
          unfold certificate_added in
          head_kept certificates_field (put_bytes h certificates_start (certificate_inserted (certificates_part h) (certificates_held h) k c)) (certificates_held h + 1)
          ∙ put_length h certificates_start (certificate_inserted (certificates_part h) (certificates_held h) k c)

  -- the findings' region written whole, with the count: a judged copy that is taken over
  pub findings_taken : (fs : Bytes) (m : ℕ) → length fs ≡ findings_length → m ≤ finding_limit → every finding_right (finding_rows fs m) ≡ true
      → Represents (put_head_field findings_field (put_bytes h findings_start fs) m) (with_findings x (finding_rows fs m))
  findings_taken fs m lf lm e =
      represents (put_head_field findings_field (put_bytes h findings_start fs) m) (with_finding_rows (tables_of h) (finding_rows fs m)) _
      (head_kept findings_field (put_bytes h findings_start fs) m ∙ put_length h findings_start fs ∙ long)
      (findings_written_lem h long fs m lf (omega arith))
      (kept_findings (tables_of h) kept (finding_rows fs m) (omega (arith, tabulate_length (finding_row fs) 0 m)) e)
      (ap (λ (y : History). with_findings y (finding_rows fs m)) is)

  leader_logs_change : (ls : List LeaderLogRow) → history_in (with_leader_log_rows (tables_of h) ls) ≡ with_leader_logs x (map (leader_log_in x.prefixes) ls)
  leader_logs_change ls = ap (λ (y : History). with_leader_logs y (map (leader_log_in y.prefixes) ls)) is

  -- how many prefixes and leaders' logs there are, of the history as of its tables
  prefixes_length : length x.prefixes ≡ length (tables_of h).rows
  prefixes_length = ap length (sym prefixes_is) ∙ resolve_count (tables_of h).rows

  leader_logs_length : length x.leader_logs ≡ length (tables_of h).leader_logs
  leader_logs_length = ap length (sym leader_logs_is) ∙ length-map (tables_of h).leader_logs (leader_log_in x.prefixes)

  log_named : (l : LeaderLogRow) → LeaderLogNamed (length x.prefixes) l → LeaderLogNamed (length (tables_of h).rows) l
  log_named l f = record { node = f.node; front = omega (arith, f.front, prefixes_length); last = f.last }

  -- a leader's log set where one of its pair was
  pub leader_log_written : (k : ℕ) (l z : LeaderLogRow) → k < length x.leader_logs → LeaderLogFits l → LeaderLogNamed (length x.prefixes) l
      → IsPair l.node l.term (get_or x.leader_logs k (leader_log_in x.prefixes z))
      → Represents (put_bytes h (leader_logs_start + k * leader_log_width) (leader_log_bytes l)) (with_leader_logs x (set x.leader_logs k (leader_log_in x.prefixes l)))
  leader_log_written k l z b f g p =
      let ls = (tables_of h).leader_logs in
      let c = within _ _ _ _ _ kept.limits in
      let n = length (tables_of h).rows in
      represents (put_bytes h (leader_logs_start + k * leader_log_width) (leader_log_bytes l)) (with_leader_log_rows (tables_of h) (set ls k l)) _
      (put_length h (leader_logs_start + k * leader_log_width) (leader_log_bytes l) ∙ long)
      (set_leader_log h long k l (omega (arith, c.leader_logs, leader_logs_length)) f)
      (kept_leader_logs (tables_of h) kept (set ls k l) (omega (arith, length-set ls k l, c.leader_logs))
      (every_set (leader_log_right n) ls k l (leader_log_test n l (log_named l g)) kept.leader_logs)
      (kept_once_set ls k l z (same_pair x.prefixes x.leader_logs ls k l z leader_logs_is p) ∙ kept.once))
      (leader_logs_change (set ls k l)
      ∙ ap (with_leader_logs x) (map_set (leader_log_in x.prefixes) ls k l ∙ ap (λ (ks : List LeaderLog). set ks k (leader_log_in x.prefixes l)) leader_logs_is))

  -- one more leader's log, of a pair that is not kept yet
  pub leader_log_added : (l : LeaderLogRow) → leader_logs_held h < leader_log_limit → LeaderLogFits l → LeaderLogNamed (length x.prefixes) l
      → has_pair l.node l.term (tables_of h).leader_logs ≡ false
      → Represents (leader_log_appended h l) (with_leader_logs x (x.leader_logs ++ (leader_log_in x.prefixes l ∷ [])))
  unfolding leader_log_appended
  leader_log_added l b f g p =
      let ls = (tables_of h).leader_logs in
      let n = length (tables_of h).rows in
      let m = leader_logs_held h in
      let more : length (ls ++ (l ∷ [])) ≡ length ls + 1 = length-append ls (l ∷ []) in
      represents (leader_log_appended h l) (with_leader_log_rows (tables_of h) (ls ++ (l ∷ []))) _
      (head_kept leader_logs_field (put_bytes h (leader_logs_start + m * leader_log_width) (leader_log_bytes l)) (m + 1) ∙ put_length h (leader_logs_start + m * leader_log_width) (leader_log_bytes l) ∙ long)
      (leader_log_appended_lem h long l b f)
      (kept_leader_logs (tables_of h) kept (ls ++ (l ∷ [])) (omega (arith, leader_logs_count h))
      (every_snoc (leader_log_right n) ls l ∙ pass _ kept.leader_logs ∙ leader_log_test n l (log_named l g))
      (kept_once_snoc ls l p kept.once))
      (leader_logs_change (ls ++ (l ∷ []))
      ∙ ap (with_leader_logs x)
      (map_snoc (leader_log_in x.prefixes) ls l ∙ ap (λ (ks : List LeaderLog). ks ++ (leader_log_in x.prefixes l ∷ [])) leader_logs_is))

-- the fresh history
pub fresh_represented : Represents fresh_history fresh
fresh_represented = record { right = fresh_well_formed; decodes = fresh_decodes }
