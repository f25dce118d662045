-- Laws of the tables: a row is read back as it was written, and a write at place k sets the k-th row or, past the last one,
-- appends it. One law for every table, over the width of its rows.
-- Assumes nothing.
use Prim.Native.Nat.{ℕ, ◌+◌, ◌-◌, ◌*◌, ◌≤◌, ◌<◌, min}
use native.Mathlib.Nat.{zero-add, mul-le-mul_right, min-eq_left}
use native.Mathlib.Decide.{dec_lt}
use native.Mathlib.Omega.{arith}
use mathlib.Core.Logic.{◌≢◌}
use mathlib.Core.Path.{◌≡◌, refl, ap, sym, ◌∙◌}
use mathlib.Core.List.{[], ◌∷◌, ◌++◌}
use lib.ListN.{length, get_or, set, take, drop}
use lib.Seq.{ext_get_or, get_or-take, length-take-le, get_or-append-add}
use Rattle.model.specs.History.{Finding}
use Rattle.model.specs.Sizes.{Bytes, content_limit, certificate_limit, term_end}
use Rattle.storage_bytes.specs.Lists.{tabulate}
use Rattle.storage_bytes.specs.Words.{word_at, word_bytes, bytes_at, put_bytes}
use Rattle.storage_bytes.specs.Layout.{certificates_length, node_width, term_width, certificate_width, finding_width, prefix_width, number_width, index_width, byte_width, node_last, node_unseen, certificate_log, certificate_mark, certificate_leader, certificate_number, certificate_present, finding_node, finding_index, finding_term, prefix_index, prefix_term, prefix_mark, prefix_size, prefix_content, leader_log_term, leader_log_front, leader_log_last, leader_log_width}
use Rattle.storage.specs.Tables.{NodeRow, CertificateRow, row_of_node, term_row, certificate_row, rows_of_certificates, finding_row, prefix_row, content_size, LeaderLogRow, leader_log_row}
use Rattle.storage.specs.Writes.{certificate_inserted, node_bytes, certificate_bytes, finding_bytes, prefix_bytes, prefix_of, NodeFits, CertificateFits, FindingFits, PrefixFits, leader_log_bytes, LeaderLogFits}
use Rattle.storage_bytes.proofs.ListLaws.{tabulate_insert, tabulate_same, tabulate_snoc, tabulate_set, tabulate_length, tabulate_at}
use Rattle.storage_bytes.proofs.WordLaws.{word_shift, put_in, put_length, Agree, word_agree, bytes_agree, word_put, bytes_put, bytes_shift, put_before, put_after, word_bytes_length, word_back, word_first}

-- ---- any table: rows are w wide, and a row depends on its own bytes only

-- the rows before k end where k starts
apart : (w : ℕ) {j k : ℕ} → j < k → j * w + w ≤ k * w
apart w h = omega (arith, mul-le-mul_right w h)

module _ {A : Type 0} (w : ℕ) (row : Bytes → ℕ → A)
    (own : (t u : Bytes) (k : ℕ) → Agree t u (k * w) (k * w + w) → row t k ≡ row u k) where
  -- a row other than the one written
  pub row_other : (r vs : Bytes) (k j : ℕ) → length vs ≡ w → j ≢ k → row (put_bytes r (k * w) vs) j ≡ row r j
  row_other r vs k j l ne =
      own (put_bytes r (k * w) vs) r j
      (λ i a b. elim (dec_lt j k) [
        | yes h ↦ put_before r (k * w) vs i (omega (arith, apart w h))
        | no h ↦
            let g : k < j = omega arith in
            put_after r (k * w) vs i (omega (arith, apart w g, l))
      ])

  pub rows_set : (r vs : Bytes) (n k : ℕ) (x : A) → length vs ≡ w → row (put_bytes r (k * w) vs) k ≡ x
      → tabulate (row (put_bytes r (k * w) vs)) 0 n ≡ set (tabulate (row r) 0 n) k x
  rows_set r vs n k x l e =
      tabulate_set (row r) (row (put_bytes r (k * w) vs)) 0 n k x
      (ap (row (put_bytes r (k * w) vs)) (zero-add k) ∙ e)
      (λ j ne. row_other r vs k j l (omega arith))

  pub rows_append : (r vs : Bytes) (n : ℕ) (x : A) → length vs ≡ w → row (put_bytes r (n * w) vs) n ≡ x
      → tabulate (row (put_bytes r (n * w) vs)) 0 (n + 1) ≡ tabulate (row r) 0 n ++ (x ∷ [])
  rows_append r vs n x l e =
      tabulate_snoc (row (put_bytes r (n * w) vs)) 0 n
      ∙ (λ i.
      tabulate_same (row (put_bytes r (n * w) vs)) (row r) 0 n (λ j a b. row_other r vs n j l (omega arith)) i
      ++ ((ap (row (put_bytes r (n * w) vs)) (zero-add n) ∙ e) i ∷ []))

-- ---- rows depend on their own bytes

-- a field within a row
inside : (t u : Bytes) (o w f n : ℕ) → f + n ≤ w → Agree t u o (o + w) → Agree t u (o + f) (o + f + n)
inside t u o w f n h g i a b = g i (omega arith) (omega arith)

in_row : (t u : Bytes) (w k f n : ℕ) → f + n ≤ w → Agree t u (k * w) (k * w + w) → word_at t (k * w + f) n ≡ word_at u (k * w + f) n
in_row t u w k f n h g = word_agree t u (k * w + f) n (inside t u (k * w) w f n h g)

row_first : (t u : Bytes) (w k n : ℕ) → n ≤ w → Agree t u (k * w) (k * w + w) → word_at t (k * w) n ≡ word_at u (k * w) n
row_first t u w k n h g = word_agree t u (k * w) n (λ i a b. g i a (omega arith))

pub node_own : (t u : Bytes) (k : ℕ) → Agree t u (k * node_width) (k * node_width + node_width) → row_of_node t k ≡ row_of_node u k
node_own t u k g =
    λ i.
    record {
      front = row_first t u node_width k number_width (omega arith) g i;
      last = in_row t u node_width k node_last index_width (omega arith) g i;
      unseen = in_row t u node_width k node_unseen index_width (omega arith) g i;
    }

pub term_own : (t u : Bytes) (k : ℕ) → Agree t u (k * term_width) (k * term_width + term_width) → term_row t k ≡ term_row u k
term_own t u k g = word_agree t u (k * term_width) term_width g

pub certificate_own : (t u : Bytes) (k : ℕ) → Agree t u (k * certificate_width) (k * certificate_width + certificate_width)
    → certificate_row t k ≡ certificate_row u k
certificate_own t u k g =
    λ i.
    record {
      term = row_first t u certificate_width k term_width (omega arith) g i;
      log = in_row t u certificate_width k certificate_log number_width (omega arith) g i;
      mark = in_row t u certificate_width k certificate_mark index_width (omega arith) g i;
      leader = in_row t u certificate_width k certificate_leader byte_width (omega arith) g i;
      number = in_row t u certificate_width k certificate_number byte_width (omega arith) g i;
      present = in_row t u certificate_width k certificate_present byte_width (omega arith) g i;
    }

pub finding_own : (t u : Bytes) (k : ℕ) → Agree t u (k * finding_width) (k * finding_width + finding_width) → finding_row t k ≡ finding_row u k
finding_own t u k g =
    λ i.
    record {
      name = row_first t u finding_width k byte_width (omega arith) g i;
      node = in_row t u finding_width k finding_node byte_width (omega arith) g i;
      index = in_row t u finding_width k finding_index index_width (omega arith) g i;
      term = in_row t u finding_width k finding_term term_width (omega arith) g i;
    }

pub leader_log_own : (t u : Bytes) (k : ℕ) → Agree t u (k * leader_log_width) (k * leader_log_width + leader_log_width) → leader_log_row t k ≡ leader_log_row u k
leader_log_own t u k g =
    λ i.
    record {
      node = row_first t u leader_log_width k byte_width (omega arith) g i;
      term = in_row t u leader_log_width k leader_log_term term_width (omega arith) g i;
      front = in_row t u leader_log_width k leader_log_front number_width (omega arith) g i;
      last = in_row t u leader_log_width k leader_log_last index_width (omega arith) g i;
    }

pub prefix_own : (t u : Bytes) (k : ℕ) → Agree t u (k * prefix_width) (k * prefix_width + prefix_width) → prefix_row t k ≡ prefix_row u k
prefix_own t u k g =
    let size : word_at t (k * prefix_width + prefix_size) byte_width ≡ word_at u (k * prefix_width + prefix_size) byte_width
    = in_row t u prefix_width k prefix_size byte_width (omega arith) g in
    let o = k * prefix_width in
    let a = o + prefix_content in
    let n = content_size t o in
    let content : bytes_at t a n ≡ bytes_at u a (content_size u o)
    = bytes_agree t u a n (inside t u o prefix_width prefix_content n (omega arith) g)
    ∙ ap (λ (s : ℕ). bytes_at u a (min s content_limit)) size in
    λ i.
    record {
      parent = row_first t u prefix_width k number_width (omega arith) g i;
      index = in_row t u prefix_width k prefix_index index_width (omega arith) g i;
      term = in_row t u prefix_width k prefix_term term_width (omega arith) g i;
      mark = in_row t u prefix_width k prefix_mark byte_width (omega arith) g i;
      size = size i;
      content = content i;
    }

-- ---- a row is read back as it was written

pub node_length : (x : NodeRow) → length (node_bytes x) ≡ node_width
unfolding node_bytes
node_length x = refl

pub node_back : (r : Bytes) (k : ℕ) (x : NodeRow) → NodeFits x → k * node_width + node_width ≤ length r
    → row_of_node (put_bytes r (k * node_width) (node_bytes x)) k ≡ x
unfolding node_bytes word_at
node_back r k x f h =
    let o = k * node_width in
    let vs = node_bytes x in
    λ i.
    record {
      front = (word_first r o vs number_width h (omega arith) ∙ word_back number_width x.front f.front) i;
      last = (word_put r o vs node_last index_width h (omega arith) ∙ word_back index_width x.last f.last) i;
      unseen = (word_put r o vs node_unseen index_width h (omega arith) ∙ word_back index_width x.unseen f.unseen) i;
    }

pub term_back : (r : Bytes) (k v : ℕ) → v < term_end → k * term_width + term_width ≤ length r
    → term_row (put_bytes r (k * term_width) (word_bytes term_width v)) k ≡ v
term_back r k v f h =
    let l = word_bytes_length term_width v in
    word_first r (k * term_width) (word_bytes term_width v) term_width (omega (arith, l)) (omega (arith, l)) ∙ word_back term_width v f

pub certificate_length : (x : CertificateRow) → length (certificate_bytes x) ≡ certificate_width
unfolding certificate_bytes
certificate_length x = refl

pub certificate_back : (r : Bytes) (k : ℕ) (x : CertificateRow) → CertificateFits x → k * certificate_width + certificate_width ≤ length r
    → certificate_row (put_bytes r (k * certificate_width) (certificate_bytes x)) k ≡ x
unfolding certificate_bytes word_at
certificate_back r k x f h =
    let o = k * certificate_width in
    let vs = certificate_bytes x in
    λ i.
    record {
      term = (word_first r o vs term_width h (omega arith) ∙ word_back term_width x.term f.term) i;
      log = (word_put r o vs certificate_log number_width h (omega arith) ∙ word_back number_width x.log f.log) i;
      mark = (word_put r o vs certificate_mark index_width h (omega arith) ∙ word_back index_width x.mark f.mark) i;
      leader = (word_put r o vs certificate_leader byte_width h (omega arith) ∙ word_back byte_width x.leader f.leader) i;
      number = (word_put r o vs certificate_number byte_width h (omega arith) ∙ word_back byte_width x.number f.number) i;
      present = (word_put r o vs certificate_present byte_width h (omega arith) ∙ word_back byte_width x.present f.present) i;
    }

pub finding_length : (x : Finding) → length (finding_bytes x) ≡ finding_width
unfolding finding_bytes
finding_length x = refl

pub finding_back : (r : Bytes) (k : ℕ) (x : Finding) → FindingFits x → k * finding_width + finding_width ≤ length r
    → finding_row (put_bytes r (k * finding_width) (finding_bytes x)) k ≡ x
unfolding finding_bytes word_at
finding_back r k x f h =
    let o = k * finding_width in
    let vs = finding_bytes x in
    λ i.
    record {
      name = (word_first r o vs byte_width h (omega arith) ∙ word_back byte_width x.name f.name) i;
      node = (word_put r o vs finding_node byte_width h (omega arith) ∙ word_back byte_width x.node f.node) i;
      index = (word_put r o vs finding_index index_width h (omega arith) ∙ word_back index_width x.index f.index) i;
      term = (word_put r o vs finding_term term_width h (omega arith) ∙ word_back term_width x.term f.term) i;
    }

pub leader_log_length : (x : LeaderLogRow) → length (leader_log_bytes x) ≡ leader_log_width
unfolding leader_log_bytes
leader_log_length x = refl

pub leader_log_back : (r : Bytes) (k : ℕ) (x : LeaderLogRow) → LeaderLogFits x → k * leader_log_width + leader_log_width ≤ length r
    → leader_log_row (put_bytes r (k * leader_log_width) (leader_log_bytes x)) k ≡ x
unfolding leader_log_bytes word_at
leader_log_back r k x f h =
    let o = k * leader_log_width in
    let vs = leader_log_bytes x in
    λ i.
    record {
      node = (word_first r o vs byte_width h (omega arith) ∙ word_back byte_width x.node f.node) i;
      term = (word_put r o vs leader_log_term term_width h (omega arith) ∙ word_back term_width x.term f.term) i;
      front = (word_put r o vs leader_log_front number_width h (omega arith) ∙ word_back number_width x.front f.front) i;
      last = (word_put r o vs leader_log_last index_width h (omega arith) ∙ word_back index_width x.last f.last) i;
    }

-- the first bytes of a list, read one by one
pub bytes_take : (vs : Bytes) (n : ℕ) → n ≤ length vs → bytes_at vs 0 n ≡ take n vs
unfolding bytes_at
bytes_take vs n h =
    ext_get_or 0 _ _
    (tabulate_length (λ i. get_or vs i 0) 0 n ∙ sym (length-take-le n vs h))
    (λ i l.
    let m : i < n = omega (arith, tabulate_length (λ j. get_or vs j 0) 0 n) in
    tabulate_at (λ j. get_or vs j 0) 0 n i 0 m ∙ ap (λ (k : ℕ). get_or vs k 0) (zero-add i) ∙ sym (get_or-take n vs i 0 m))

before_content : ℕ → ℕ → ℕ → ℕ → ℕ → Bytes
before_content p i t q s =
    word_bytes number_width p
    ++ (word_bytes index_width i ++ (word_bytes term_width t ++ (word_bytes byte_width q ++ word_bytes byte_width s)))

-- where the content starts in what is written
content_written : (p i t q s : ℕ) (c : Bytes) (j : ℕ) → get_or (prefix_bytes p i t q s c) (prefix_content + j) 0 ≡ get_or c j 0
unfolding prefix_bytes before_content
content_written p i t q s c j = get_or-append-add (before_content p i t q s) c j 0

pub prefix_length : (p i t q s : ℕ) (c : Bytes) → length c ≡ content_limit → length (prefix_bytes p i t q s c) ≡ prefix_width
unfolding prefix_bytes
prefix_length p i t q s c l = omega arith

pub prefix_back : (r : Bytes) (k p i t q s : ℕ) (c : Bytes) → PrefixFits p i t q s c → k * prefix_width + prefix_width ≤ length r
    → prefix_row (put_bytes r (k * prefix_width) (prefix_bytes p i t q s c)) k ≡ prefix_of p i t q s c
prefix_back r k p i t q s c f h =
    let o = k * prefix_width in
    let vs = prefix_bytes p i t q s c in
    let u = put_bytes r o vs in
    let l : length vs ≡ prefix_width = prefix_length p i t q s c f.padded in
    let g : o + length vs ≤ length r = omega arith in
    let size : word_at u (o + prefix_size) byte_width ≡ s
    = word_put r o vs prefix_size byte_width g (omega arith) ∙ at_size p i t q s c ∙ word_back byte_width s (omega (arith, f.size)) in
    let content : bytes_at u (o + prefix_content) (content_size u o) ≡ take s c
    = ap (λ (n : ℕ). bytes_at u (o + prefix_content) (min n content_limit)) size
    ∙ ap (bytes_at u (o + prefix_content)) (min-eq_left f.size)
    ∙ bytes_put r o vs prefix_content s g (omega (arith, f.size))
    ∙ bytes_shift vs c prefix_content 0 s (λ j b. content_written p i t q s c j ∙ ap (λ (n : ℕ). get_or c n 0) (sym (zero-add j)))
    ∙ bytes_take c s (omega (arith, f.size, f.padded)) in
    λ j.
    record {
      parent = (word_first r o vs number_width g (omega arith) ∙ at_parent p i t q s c ∙ word_back number_width p f.parent) j;
      index = (word_put r o vs prefix_index index_width g (omega arith) ∙ at_index p i t q s c ∙ word_back index_width i f.index) j;
      term = (word_put r o vs prefix_term term_width g (omega arith) ∙ at_term p i t q s c ∙ word_back term_width t f.term) j;
      mark = (word_put r o vs prefix_mark byte_width g (omega arith) ∙ at_mark p i t q s c ∙ word_back byte_width q (omega (arith, f.mark))) j;
      size = size j;
      content = content j;
    }
  where
    at_parent : (p i t q s : ℕ) (c : Bytes) → word_at (prefix_bytes p i t q s c) 0 number_width ≡ word_at (word_bytes number_width p) 0 number_width
    at_parent p i t q s c = unfold prefix_bytes word_at in refl

    at_index : (p i t q s : ℕ) (c : Bytes) → word_at (prefix_bytes p i t q s c) prefix_index index_width ≡ word_at (word_bytes index_width i) 0 index_width
    at_index p i t q s c = unfold prefix_bytes word_at in refl

    at_term : (p i t q s : ℕ) (c : Bytes) → word_at (prefix_bytes p i t q s c) prefix_term term_width ≡ word_at (word_bytes term_width t) 0 term_width
    at_term p i t q s c = unfold prefix_bytes word_at in refl

    at_mark : (p i t q s : ℕ) (c : Bytes) → word_at (prefix_bytes p i t q s c) prefix_mark byte_width ≡ word_at (word_bytes byte_width q) 0 byte_width
    at_mark p i t q s c = unfold prefix_bytes word_at in refl

    at_size : (p i t q s : ℕ) (c : Bytes) → word_at (prefix_bytes p i t q s c) prefix_size byte_width ≡ word_at (word_bytes byte_width s) 0 byte_width
    at_size p i t q s c = unfold prefix_bytes word_at in refl

-- ---- a certificate put in its place, those behind it moved up

-- a row that has the bytes of another
certificate_moved : (t u : Bytes) (k j : ℕ)
    → ((i : ℕ) → i < certificate_width → get_or t (k * certificate_width + i) 0 ≡ get_or u (j * certificate_width + i) 0)
    → certificate_row t k ≡ certificate_row u j
certificate_moved t u k j h =
    λ i.
    record {
      term = word_shift t u (k * certificate_width) (j * certificate_width) term_width (λ m l. h m (omega arith)) i;
      log = field certificate_log number_width (omega arith) i;
      mark = field certificate_mark index_width (omega arith) i;
      leader = field certificate_leader byte_width (omega arith) i;
      number = field certificate_number byte_width (omega arith) i;
      present = field certificate_present byte_width (omega arith) i;
    }
  where
    at : (f m : ℕ) → f + m < certificate_width → get_or t (k * certificate_width + f + m) 0 ≡ get_or u (j * certificate_width + f + m) 0
    at f m l =
        ap (λ (n : ℕ). get_or t n 0) (let e : k * certificate_width + f + m ≡ k * certificate_width + (f + m) = omega arith in e)
        ∙ h (f + m) l
        ∙ ap (λ (n : ℕ). get_or u n 0) (let e : j * certificate_width + (f + m) ≡ j * certificate_width + f + m = omega arith in e)

    field : (f n : ℕ) → f + n ≤ certificate_width → word_at t (k * certificate_width + f) n ≡ word_at u (j * certificate_width + f) n
    field f n l = word_shift t u (k * certificate_width + f) (j * certificate_width + f) n (λ m b. at f m (omega arith))

bytes_at_lem : (t : Bytes) (o n i : ℕ) → i < n → get_or (bytes_at t o n) i 0 ≡ get_or t (o + i) 0
unfolding bytes_at
bytes_at_lem t o n i h = tabulate_at (λ j. get_or t j 0) o n i 0 h

bytes_length : (t : Bytes) (o n : ℕ) → length (bytes_at t o n) ≡ n
unfolding bytes_at
bytes_length t o n = tabulate_length (λ j. get_or t j 0) o n

pub certificates_inserted : (r : Bytes) (n k : ℕ) (x : CertificateRow) → k ≤ n → n < certificate_limit → length r ≡ certificates_length → CertificateFits x
    → rows_of_certificates (certificate_inserted r n k x) (n + 1) ≡ take k (rows_of_certificates r n) ++ (x ∷ drop k (rows_of_certificates r n))
unfolding certificate_inserted
certificates_inserted r n k x h l long f =
    tabulate_insert (certificate_row r) (certificate_row u) n k x h
    (λ j b. row_other certificate_width certificate_row certificate_own m (certificate_bytes x) k j (certificate_length x) (omega arith) ∙ low j b)
    (certificate_back m k x f (omega (arith, put_length r (k * certificate_width + certificate_width) vs)))
    (λ j a b. row_other certificate_width certificate_row certificate_own m (certificate_bytes x) k (j + 1) (certificate_length x) (omega arith) ∙ high j a b)
  where
    vs : Bytes
    vs = bytes_at r (k * certificate_width) ((n - k) * certificate_width)

    m : Bytes
    m = put_bytes r (k * certificate_width + certificate_width) vs

    u : Bytes
    u = put_bytes m (k * certificate_width) (certificate_bytes x)

    long_vs : length vs ≡ (n - k) * certificate_width
    long_vs = bytes_length r (k * certificate_width) ((n - k) * certificate_width)

    low : (j : ℕ) → j < k → certificate_row m j ≡ certificate_row r j
    low j b = certificate_own m r j (λ i a c. put_before r (k * certificate_width + certificate_width) vs i (omega arith))

    high : (j : ℕ) → k ≤ j → j < n → certificate_row m (j + 1) ≡ certificate_row r j
    high j a b =
        certificate_moved m r (j + 1) j
        (λ i c.
        let d = (j - k) * certificate_width + i in
        let e : (j + 1) * certificate_width + i ≡ k * certificate_width + certificate_width + d = omega arith in
        let g : d < (n - k) * certificate_width = omega arith in
        ap (λ (q : ℕ). get_or m q 0) e
        ∙ put_in r (k * certificate_width + certificate_width) vs d (omega (arith, long_vs)) (omega (arith, long_vs))
        ∙ bytes_at_lem r (k * certificate_width) ((n - k) * certificate_width) d g
        ∙ ap (λ (q : ℕ). get_or r q 0) (let z : k * certificate_width + d ≡ j * certificate_width + i = omega arith in z))
