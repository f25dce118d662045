-- What a write in the bytes of a history does to its tables: a write in one region leaves the other regions as they were,
-- and each single write is one change of the tables.
-- Assumes nothing.
use Prim.Native.Nat.{ℕ, ◌+◌, ◌-◌, ◌*◌, ◌≤◌, ◌<◌}
use native.Mathlib.Nat.{zero-add}
use native.Mathlib.Omega.{arith}
use mathlib.Core.Path.{◌≡◌, refl, ap, sym, ◌∙◌}
use mathlib.Core.Bool.{cond}
use mathlib.Core.List.{[], ◌∷◌, ◌++◌}
use lib.Dec.{eqb}
use lib.ListN.{length, set, take, drop, replicate}
use Rattle.model.specs.Sizes.{Bytes, node_count, index_limit, prefix_limit, certificate_limit, leader_log_limit, term_end}
use Rattle.storage_bytes.specs.Words.{Fits, word_at, word_bytes, put_bytes}
use Rattle.storage_bytes.specs.Layout.{start_in, length_in, head_fields, regions, head_region, nodes_region, terms_region, certificates_region, findings_region, prefixes_region, leader_logs_region, head_start, head_length, nodes_start, nodes_length, terms_start, terms_length, certificates_start, certificates_length, findings_start, findings_length, prefixes_start, prefixes_length, leader_logs_start, leader_logs_length, history_length, number_width, byte_width, node_width, term_width, prefix_width, leader_log_width, prefixes_field, terms_field, committed_field, certificates_field, findings_field, owner_field, leader_logs_field}
use Rattle.storage.specs.Tables.{NodeRow, CertificateRow, LeaderLogRow, Contents, regions_of, tables_by, numbers_in, row_of_node, term_row, term_rows, rows_of_certificates, finding_rows, prefix_row, rows_of_prefixes, leader_log_row, leader_log_rows, head_part, nodes_part, terms_part, certificates_part, findings_part, prefixes_part, leader_logs_part, tables_in, tables_of, with_prefix_rows, with_prefix_row, with_node_rows, with_node_row, with_committed_number, with_term_rows, with_certificate_rows, with_finding_rows, with_leader_log_rows}
use Rattle.storage.specs.Writes.{prefix_appended, terms_lengthened, committed_set, certificate_inserted, certificate_added, leader_log_appended, node_bytes, prefix_bytes, leader_log_bytes, prefix_of, NodeFits, CertificateFits, LeaderLogFits, PrefixFits}
use Rattle.storage_bytes.proofs.ListLaws.{tabulate_append, tabulate_same, tabulate_replicate}
use Rattle.storage_bytes.proofs.PartLaws.{put_whole, part_length}
use Rattle.storage_bytes.proofs.RegionLaws.{within, put_place, put_number}
use Rattle.storage_bytes.proofs.WordLaws.{put_length, put_before, word_put, word_bytes_length}
use Rattle.storage.specs.Fresh.{zeros}
use Rattle.storage.specs.Head.{prefixes_held, terms_held, certificates_held, leader_logs_held, put_head_field}
use Rattle.storage.proofs.HeadLaws.{head_read}
use Rattle.storage.proofs.FreshLaws.{zeros_length, zeros_zero, word_zero}
use Rattle.storage.proofs.WriteLaws.{inserted_length}
use Rattle.storage.proofs.RowLaws.{certificates_inserted, rows_set, rows_append, node_own, node_length, node_back, term_own, term_back, prefix_own, prefix_length, prefix_back, leader_log_own, leader_log_length, leader_log_back}

-- ---- a write in one region, and one of a number in the head

-- what the regions hold, where the bytes vs are written in the k-th from its o-th on
abbrev pub put_region : Contents → ℕ → ℕ → Bytes → Contents
put_region c k o vs r = cond (eqb r k) (put_bytes (c r) o vs) (c r)

-- numbers, of which the k-th is set
abbrev set_number : (ℕ → ℕ) → ℕ → ℕ → ℕ → ℕ
set_number n k v f = cond (eqb f k) v (n f)

module _ (h : Bytes) (right : length h ≡ history_length) where
  whole : history_length ≤ length h
  whole = omega arith

  pub in_region : (k o : ℕ) (vs : Bytes) → o + length vs ≤ length_in regions k
      → regions_of (put_bytes h (start_in regions k + o) vs) ≡ put_region (regions_of h) k o vs
  in_region k o vs f = λ i r. put_place regions h whole k o vs f r i

  head_long : length (head_part h) ≡ head_length
  head_long = part_length h head_start head_length (omega arith)

  module _ (k v : ℕ) (fits : Fits (length_in head_fields k) v) where
    in_head : regions_of (put_head_field k h v)
        ≡ put_region (regions_of h) head_region (start_in head_fields k) (word_bytes (length_in head_fields k) v)
    in_head =
        let w = word_bytes (length_in head_fields k) v in
        let l = word_bytes_length (length_in head_fields k) v in
        ap (λ (o : ℕ). regions_of (put_bytes h o w)) (sym (zero-add (start_in head_fields k)))
        ∙ in_region head_region (start_in head_fields k) w (omega (arith, l, within head_fields k))

    numbers_set : numbers_in (regions_of (put_head_field k h v)) ≡ set_number (numbers_in (regions_of h)) k v
    numbers_set =
        ap numbers_in in_head
        ∙ (λ i f. put_number head_fields (head_part h) (omega (arith, head_long)) k v fits f i)

    -- the tables of a history with a number in its head set
    number_written : tables_of (put_head_field k h v) ≡ tables_by (set_number (numbers_in (regions_of h)) k v) (regions_of h)
    unfolding tables_in
    number_written = λ i. tables_by (numbers_set i) (in_head i)

-- the tables of a history with a write in one region, and with that and a number in its head set
module _ (h : Bytes) (right : length h ≡ history_length) (k o : ℕ) (vs : Bytes) (room : o + length vs ≤ length_in regions k) where
  pub region_written : tables_of (put_bytes h (start_in regions k + o) vs) ≡ tables_in (put_region (regions_of h) k o vs)
  region_written = ap tables_in (in_region h right k o vs room)

  rows_and_number : (f v : ℕ) → Fits (length_in head_fields f) v
      → tables_of (put_head_field f (put_bytes h (start_in regions k + o) vs) v)
      ≡ tables_by (set_number (numbers_in (put_region (regions_of h) k o vs)) f v) (put_region (regions_of h) k o vs)
  rows_and_number f v fits =
      number_written (put_bytes h (start_in regions k + o) vs) (put_length h (start_in regions k + o) vs ∙ right) f v fits
      ∙ ap (λ (c : Contents). tables_by (set_number (numbers_in c) f v) c) (in_region h right k o vs room)

-- ---- zeros behind the first n commit terms

module _ (r : Bytes) (n m : ℕ) (l : n ≤ m) (room : m * term_width ≤ length r) where
  abbrev cleared : Bytes
  cleared = put_bytes r (n * term_width) (zeros ((m - n) * term_width))

  row_kept : (k : ℕ) → k < n → term_row cleared k ≡ term_row r k
  row_kept k b = term_own cleared r k (λ i _ c. put_before r (n * term_width) (zeros ((m - n) * term_width)) i (omega arith))

  row_cleared : (k : ℕ) → n ≤ k → k < m → term_row cleared k ≡ 0
  row_cleared k a b =
      let z = zeros_length ((m - n) * term_width) in
      ap (λ (o : ℕ). word_at cleared o 4) (let e : k * term_width ≡ n * term_width + (k - n) * term_width = omega arith in e)
      ∙ word_put r (n * term_width) (zeros ((m - n) * term_width)) ((k - n) * term_width) 4 (omega arith) (omega arith)
      ∙ word_zero (zeros ((m - n) * term_width)) ((k - n) * term_width) 4 (zeros_zero ((m - n) * term_width))

  rows_lengthened : term_rows cleared m ≡ term_rows r n ++ replicate (m - n) 0
  rows_lengthened =
      ap (term_rows cleared) (let e : m ≡ n + (m - n) = omega arith in e)
      ∙ tabulate_append (term_row cleared) 0 n (m - n)
      ∙ (λ i.
      tabulate_same (term_row cleared) (term_row r) 0 n (λ k _ b. row_kept k (omega arith)) i
      ++ (tabulate_same (term_row cleared) (λ _. 0) (0 + n) (m - n) (λ k a b. row_cleared k (omega arith) (omega arith))
      ∙ tabulate_replicate (λ _. 0) 0 (0 + n) (m - n) (λ _. refl)) i)

-- ---- each single write

module _ (h : Bytes) (right : length h ≡ history_length) where
  -- a node's row
  pub set_node : (k : ℕ) (x : NodeRow) → k < node_count → NodeFits x
      → tables_of (put_bytes h (nodes_start + k * node_width) (node_bytes x)) ≡ with_node_row (tables_of h) k x
  unfolding tables_in
  set_node k x l f =
      let long : length (nodes_part h) ≡ nodes_length = part_length h nodes_start nodes_length (omega arith) in
      region_written h right nodes_region (k * node_width) (node_bytes x) (omega (arith, node_length x))
      ∙ ap (with_node_rows (tables_of h))
      (rows_set node_width row_of_node node_own (nodes_part h) (node_bytes x) node_count k x (node_length x)
      (node_back (nodes_part h) k x f (omega arith)))

  -- the committed prefix's number and owner
  pub committed_set_lem : (p n : ℕ) → Fits number_width p → Fits byte_width n
      → tables_of (committed_set h p n) ≡ with_committed_number (tables_of h) p n
  unfolding committed_set tables_in
  committed_set_lem p n lp ln =
      let u = put_head_field committed_field h p in
      number_written u (put_length h (start_in head_fields committed_field) (word_bytes number_width p) ∙ right) owner_field n ln
      ∙ (λ i. tables_by (set_number (numbers_set h right committed_field p lp i) owner_field n) (in_head h right committed_field p lp i))

  -- one more prefix
  pub prefix_appended_lem : (p i t q s : ℕ) (c : Bytes) → prefixes_held h < prefix_limit → PrefixFits p i t q s c
      → tables_of (prefix_appended h p i t q s c) ≡ with_prefix_row (tables_of h) (prefix_of p i t q s c)
  unfolding prefix_appended tables_in
  prefix_appended_lem p i t q s c l f =
      let n = prefixes_held h in
      let vs = prefix_bytes p i t q s c in
      let lv : length vs ≡ prefix_width = prefix_length p i t q s c f.padded in
      let long : length (prefixes_part h) ≡ prefixes_length = part_length h prefixes_start prefixes_length (omega arith) in
      rows_and_number h right prefixes_region (n * prefix_width) vs (omega arith) prefixes_field (n + 1) (omega arith)
      ∙ ap (with_prefix_rows (tables_of h))
      (rows_append prefix_width prefix_row prefix_own (prefixes_part h) vs n (prefix_of p i t q s c) lv
      (prefix_back (prefixes_part h) n p i t q s c f (omega arith))
      ∙ ap (λ (m : ℕ). rows_of_prefixes (prefixes_part h) m ++ (prefix_of p i t q s c ∷ [])) (sym (head_read h prefixes_field)))

  -- the commit term at a place
  pub set_term : (k v : ℕ) → k < index_limit → v < term_end
      → tables_of (put_bytes h (terms_start + k * term_width) (word_bytes term_width v)) ≡ with_term_rows (tables_of h) (set (tables_of h).terms k v)
  unfolding tables_in
  set_term k v l f =
      let vs = word_bytes term_width v in
      let lv : length vs ≡ term_width = word_bytes_length term_width v in
      let long : length (terms_part h) ≡ terms_length = part_length h terms_start terms_length (omega arith) in
      region_written h right terms_region (k * term_width) vs (omega arith)
      ∙ ap (with_term_rows (tables_of h))
      (rows_set term_width term_row term_own (terms_part h) vs (terms_held (head_part h)) k v lv (term_back (terms_part h) k v f (omega arith)))

  -- the commit terms lengthened with zeros
  pub terms_lengthened_lem : (m : ℕ) → terms_held h ≤ m → m ≤ index_limit
      → tables_of (terms_lengthened h m) ≡ with_term_rows (tables_of h) ((tables_of h).terms ++ replicate (m - terms_held h) 0)
  unfolding terms_lengthened tables_in
  terms_lengthened_lem m l f =
      let n = terms_held h in
      let vs = zeros ((m - n) * term_width) in
      let lv : length vs ≡ (m - n) * term_width = zeros_length ((m - n) * term_width) in
      let long : length (terms_part h) ≡ terms_length = part_length h terms_start terms_length (omega arith) in
      rows_and_number h right terms_region (n * term_width) vs (omega arith) terms_field m (omega arith)
      ∙ ap (with_term_rows (tables_of h))
      (rows_lengthened (terms_part h) n m l (omega arith)
      ∙ ap (λ (k : ℕ). term_rows (terms_part h) k ++ replicate (m - n) 0) (sym (head_read h terms_field)))

  -- one more certificate, at its place
  pub certificate_added_lem : (k : ℕ) (x : CertificateRow) → k ≤ certificates_held h → certificates_held h < certificate_limit → CertificateFits x
      → tables_of (certificate_added h k x)
      ≡ with_certificate_rows (tables_of h) (take k (tables_of h).certificates ++ (x ∷ drop k (tables_of h).certificates))
  unfolding certificate_added tables_in
  certificate_added_lem k x b l f =
      let n = certificates_held h in
      let r = certificates_part h in
      let q = certificate_inserted r n k x in
      let long : length r ≡ certificates_length = part_length h certificates_start certificates_length (omega arith) in
      let lq : length q ≡ certificates_length = inserted_length r n k x ∙ long in
      rows_and_number h right certificates_region 0 q (omega arith) certificates_field (n + 1) (omega arith)
      ∙ ap (with_certificate_rows (tables_of h)) (ap (λ (z : Bytes). rows_of_certificates z (n + 1)) (put_whole r q (lq ∙ sym long))
      ∙ certificates_inserted r n k x b l long f
      ∙ ap (λ (m : ℕ). take k (rows_of_certificates r m) ++ (x ∷ drop k (rows_of_certificates r m))) (sym (head_read h certificates_field)))

  -- the findings' region written whole, with the count
  pub findings_written_lem : (fs : Bytes) (m : ℕ) → length fs ≡ findings_length → Fits byte_width m
      → tables_of (put_head_field findings_field (put_bytes h findings_start fs) m) ≡ with_finding_rows (tables_of h) (finding_rows fs m)
  unfolding tables_in
  findings_written_lem fs m lf lm =
      let long : length (findings_part h) ≡ findings_length = part_length h findings_start findings_length (omega arith) in
      rows_and_number h right findings_region 0 fs (omega arith) findings_field m lm
      ∙ ap (with_finding_rows (tables_of h)) (ap (λ (z : Bytes). finding_rows z m) (put_whole (findings_part h) fs (lf ∙ sym long)))

  -- a leader's log set
  pub set_leader_log : (k : ℕ) (x : LeaderLogRow) → k < leader_log_limit → LeaderLogFits x
      → tables_of (put_bytes h (leader_logs_start + k * leader_log_width) (leader_log_bytes x))
      ≡ with_leader_log_rows (tables_of h) (set (tables_of h).leader_logs k x)
  unfolding tables_in
  set_leader_log k x l f =
      let long : length (leader_logs_part h) ≡ leader_logs_length = part_length h leader_logs_start leader_logs_length (omega arith) in
      region_written h right leader_logs_region (k * leader_log_width) (leader_log_bytes x) (omega (arith, leader_log_length x))
      ∙ ap (with_leader_log_rows (tables_of h))
      (rows_set leader_log_width leader_log_row leader_log_own (leader_logs_part h) (leader_log_bytes x) (leader_logs_held (head_part h)) k x (leader_log_length x)
      (leader_log_back (leader_logs_part h) k x f (omega arith)))

  -- one more
  pub leader_log_appended_lem : (x : LeaderLogRow) → leader_logs_held h < leader_log_limit → LeaderLogFits x
      → tables_of (leader_log_appended h x) ≡ with_leader_log_rows (tables_of h) ((tables_of h).leader_logs ++ (x ∷ []))
  unfolding leader_log_appended tables_in
  leader_log_appended_lem x l f =
      let n = leader_logs_held h in
      let vs = leader_log_bytes x in
      let lv : length vs ≡ leader_log_width = leader_log_length x in
      let long : length (leader_logs_part h) ≡ leader_logs_length = part_length h leader_logs_start leader_logs_length (omega arith) in
      rows_and_number h right leader_logs_region (n * leader_log_width) vs (omega arith) leader_logs_field (n + 1) (omega arith)
      ∙ ap (with_leader_log_rows (tables_of h))
      (rows_append leader_log_width leader_log_row leader_log_own (leader_logs_part h) vs n x lv
      (leader_log_back (leader_logs_part h) n x f (omega arith))
      ∙ ap (λ (m : ℕ). leader_log_rows (leader_logs_part h) m ++ (x ∷ [])) (sym (head_read h leader_logs_field)))
