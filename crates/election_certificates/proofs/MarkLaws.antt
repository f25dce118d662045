-- What lowering marks means: the model's certificates, each lowered.
-- Assumes nothing.
use Prim.Native.Nat.{ℕ, zero, suc, ◌+◌, ◌-◌, ◌*◌, ◌≤◌, ◌<◌}
use native.Mathlib.Nat.{zero-add}
use native.Mathlib.Omega.{arith}
use mathlib.Core.Path.{◌≡◌, refl, sym, ◌∙◌, ap, subst}
use mathlib.Core.Bool.{Bool, true, cond, ◌&&◌}
use mathlib.Core.Logic.{⊎_elim}
use mathlib.Core.List.{List, [], ◌∷◌, ◌++◌, map, map-append, head-eq_of_cons-eq, tail-eq_of_cons-eq}
use lib.Dec.{leb, ltb, eqb}
use lib.ListN.{length, get_or, set, length-append, length-set, get_or-map}
use lib.Seq.{get_or_at, set_at, append_snoc}
use borrow.Author.Tests.{ltb-true, ltb-false, lt-ltb, le-ltb, leb-true, leb-false}
use Rattle.model.specs.Entry.{Prefix}
use Rattle.model.specs.History.{Certificate, History, with_certificates}
use Rattle.model.specs.Terms.{with_mark, lowered}
use Rattle.model.specs.Sizes.{Bytes, index_limit, certificate_limit}
use Rattle.model.proofs.Tests.{either, cond_true, cond_false}
use Rattle.storage_bytes.specs.Words.{word_bytes, put_bytes, Fits}
use Rattle.storage_bytes.specs.Layout.{certificates_start, certificates_length, history_length, certificate_width, number_width, index_width, term_width, byte_width, certificate_log, certificate_mark, certificate_leader, certificate_number, certificate_present, certificates_region}
use Rattle.storage.specs.Tables.{CertificateRow, certificate_row, rows_of_certificates, certificates_part, head_part, tables_in, tables_of, with_certificate_rows}
use Rattle.storage.specs.Decode.{certificate_in}
use Rattle.storage.specs.Rules.{certificate_right, follows, numbered_after, numbered}
use Rattle.storage.specs.Head.{certificates_held}
use Rattle.storage_bytes.proofs.ListLaws.{both, tabulate_set, every_set, map_set}
use Rattle.storage_bytes.proofs.PartLaws.{part_length}
use Rattle.storage_bytes.proofs.WordLaws.{put_before, put_after, word_bytes_length, word_set, word_before, word_after}
use Rattle.storage.proofs.RowLaws.{certificate_own}
use Rattle.storage.proofs.RuleLaws.{pass, stop, within, numbered_set}
use Rattle.storage.proofs.OrderLaws.{follows_rise}
use Rattle.storage.proofs.DecodeLaws.{CertificateNamed, certificate_test, kept_certificates, Kept}
use Rattle.storage.proofs.Meanings.{Represents, represents, certificates_read, long, kept, is, certificates_is}
use Rattle.storage.proofs.WellFormed.{rows_count, certificates_count, certificate_row_lem, formed}
use Rattle.storage.proofs.TableLaws.{region_written}
use Rattle.election_certificates.specs.WithMark.{marked_row}
use Rattle.election_certificates.specs.Marks.{mark_set, certificate_of, lower_bytes, lower_back}
use Rattle.election_certificates.proofs.MarkTurns.{mark_length}

-- ---- a mark written

module _ (r : Bytes) (k m : ℕ) (size : length r ≡ certificates_length) (here : k < certificate_limit) (fits : Fits index_width m) where
  abbrev put : Bytes
  put = put_bytes r (k * certificate_width + certificate_mark) (word_bytes index_width m)

  row_marked : certificate_row put k ≡ marked_row (certificate_row r k) m
  row_marked =
      let o = k * certificate_width + certificate_mark in
      let w = word_bytes index_width m in
      let l = word_bytes_length index_width m in
      λ i.
      record {
        term = word_before r o w (k * certificate_width) term_width (omega arith) i;
        log = word_before r o w (k * certificate_width + certificate_log) number_width (omega arith) i;
        mark = word_set r o index_width m fits (omega arith) i;
        leader = word_after r o w (k * certificate_width + certificate_leader) byte_width (omega arith) i;
        number = word_after r o w (k * certificate_width + certificate_number) byte_width (omega arith) i;
        present = word_after r o w (k * certificate_width + certificate_present) byte_width (omega arith) i;
      }

  row_other : (j : ℕ) → (j ≡ k → ⊥) → certificate_row put j ≡ certificate_row r j
  row_other j n =
      certificate_own put r j
      (⊎_elim (λ t i a b. let z = ltb-true j k t in put_before r (k * certificate_width + certificate_mark) (word_bytes index_width m) i (omega arith))
      (λ t i a b.
      let z = ltb-false j k t in
      let l = word_bytes_length index_width m in
      put_after r (k * certificate_width + certificate_mark) (word_bytes index_width m) i (omega arith))
      (either (ltb j k)))

  rows_marked : (n : ℕ) → rows_of_certificates put n ≡ set (rows_of_certificates r n) k (marked_row (certificate_row r k) m)
  rows_marked n =
      tabulate_set (certificate_row r) (certificate_row put) 0 n k (marked_row (certificate_row r k) m)
      (ap (certificate_row put) (zero-add k) ∙ row_marked) (λ j ne. row_other j (λ e. ne (e ∙ sym (zero-add k))))

tables_marked : (h : Bytes) (k m : ℕ) → length h ≡ history_length → k < certificate_limit → Fits index_width m
    → tables_of (mark_set h k m) ≡ with_certificate_rows (tables_of h) (set (tables_of h).certificates k (marked_row (certificate_of h k) m))
unfolding mark_set tables_in
tables_marked h k m right l f =
    let b = word_bytes_length index_width m in
    let size : length (certificates_part h) ≡ certificates_length = part_length h certificates_start certificates_length (omega arith) in
    region_written h right certificates_region (k * certificate_width + certificate_mark) (word_bytes index_width m) (omega arith)
    ∙ ap (with_certificate_rows (tables_of h)) (rows_marked (certificates_part h) k m size l f (certificates_held (head_part h)))

module _ (h : Bytes) (x : History) (s : Represents h x) where
  -- the certificate of the model at that place
  pub certificate_at : (k : ℕ) → k < certificates_held h → get_or x.certificates k (certificate_in x.prefixes (certificate_of h k)) ≡ certificate_in x.prefixes (certificate_of h k)
  certificate_at k l =
      ap (λ (cs : List Certificate). get_or cs k (certificate_in x.prefixes (certificate_of h k))) (sym (certificates_is h x s))
      ∙ get_or-map (certificate_in x.prefixes) (tables_of h).certificates k (certificate_of h k)
      ∙ ap (certificate_in x.prefixes) (certificate_row_lem h k (certificate_of h k) l)

  pub mark_written : (k m : ℕ) → k < certificates_held h → m ≤ index_limit
      → Represents (mark_set h k m) (with_certificates x (set x.certificates k (with_mark (certificate_in x.prefixes (certificate_of h k)) m)))
  mark_written k m l f =
      let lim = within _ _ _ _ _ (kept h x s).limits in
      let n = length (tables_of h).rows in
      let cs = (tables_of h).certificates in
      let c = marked_row (certificate_of h k) m in
      let g = (formed h s.right).certificate k l in
      let named : CertificateNamed n c = record { log = omega (arith, g.log, rows_count h); mark = f; leader = g.leader; term = g.term; present = g.present } in
      let count = certificates_count h in
      let e = tables_marked h k m (long h x s) (let y = lim.certificates in omega arith) (omega arith) in
      let keeps : Kept (with_certificate_rows (tables_of h) (set cs k c)) =
      kept_certificates (tables_of h) (kept h x s) (set cs k c) (omega (arith, length-set cs k c, lim.certificates))
      (every_set (certificate_right n) cs k c (certificate_test n c named) (kept h x s).certificates)
      (numbered_set cs k c c (subst (λ (y : CertificateRow). (c.term ≡ y.term) × (c.number ≡ y.number)) (sym (certificate_row_lem h k c l)) (refl, refl)) ∙ (kept h x s).numbered) in
      represents (mark_set h k m) (with_certificate_rows (tables_of h) (set cs k c)) _ (mark_length h k m ∙ long h x s) e keeps
      (ap (λ (y : History). with_certificates y (map (certificate_in y.prefixes) (set cs k c))) (is h x s)
      ∙ ap (with_certificates x)
      (map_set (certificate_in x.prefixes) cs k c
      ∙ ap (λ (q : List Certificate). set q k (certificate_in x.prefixes c)) (certificates_is h x s)))

-- ---- marks lowered

-- the last of some certificates, and those before it
record Last (A : List Certificate) : Type 0 where
  pub before : List Certificate
  pub last : Certificate
  pub are : A ≡ before ++ (last ∷ [])

last_of : (a : Certificate) (A : List Certificate) → Last (a ∷ A)
last_of a [] = record { before = []; last = a; are = refl }
last_of a (b ∷ A) =
    let r = last_of b A in
    record { before = a ∷ r.before; last = r.last; are = ap (λ (l : List Certificate). a ∷ l) r.are }

module _ (t first : ℕ) (some : 0 < first) where
  -- the code's tests of the row are the model's of the certificate
  lowered_test : (c : Certificate) → (ltb 0 first && ltb t c.term && leb first c.mark) ≡ (ltb t c.term && leb first c.mark)
  lowered_test c = ap (λ (b : Bool). b && leb first c.mark) (pass (ltb t c.term) (lt-ltb 0 first some))

  -- one of no greater term stays
  lowered_not : (c : Certificate) → c.term ≤ t → lowered t first c ≡ c
  unfolding lowered
  lowered_not c l = cond_false _ (with_mark c (first - 1)) c (lowered_test c ∙ stop _ (le-ltb t c.term l))

  -- of a greater term its mark alone decides
  lowered_by : (c : Certificate) → t < c.term → lowered t first c ≡ cond (leb first c.mark) (with_mark c (first - 1)) c
  unfolding lowered
  lowered_by c l = ap (λ (b : Bool). cond b (with_mark c (first - 1)) c) (lowered_test c ∙ pass _ (lt-ltb t c.term l))

  -- rows stand by term: where one is of no greater term, none before it is
  none_after : (ps : List Prefix) (d : CertificateRow) (rs : List CertificateRow) (A : List Certificate) (c : Certificate) (B : List Certificate)
      → numbered_after d rs ≡ true → map (certificate_in ps) rs ≡ A ++ (c ∷ B) → c.term ≤ t
      → (d.term ≤ c.term) × (map (lowered t first) A ≡ A)
  unfolding numbered_after
  none_after ps d [] A c B n e l = absurd (let z = ap length e ∙ length-append A (c ∷ B) in omega arith)
  none_after ps d (r ∷ rs) [] c B n e l =
      let p = both (follows d r) _ n in
      let q : r.term ≡ c.term = ap (λ (y : Certificate). y.term) (head-eq_of_cons-eq e) in
      (omega (arith, follows_rise d r p.0), refl)
  none_after ps d (r ∷ rs) (a ∷ A) c B n e l =
      let p = both (follows d r) _ n in
      let q : r.term ≡ a.term = ap (λ (y : Certificate). y.term) (head-eq_of_cons-eq e) in
      let ih = none_after ps r rs A c B p.1 (tail-eq_of_cons-eq e) l in
      (omega (arith, follows_rise d r p.0, ih.0), λ i. lowered_not a (omega (arith, ih.0)) i ∷ ih.1 i)

  none_before : (ps : List Prefix) (rs : List CertificateRow) (A : List Certificate) (c : Certificate) (B : List Certificate)
      → numbered rs ≡ true → map (certificate_in ps) rs ≡ A ++ (c ∷ B) → c.term ≤ t → map (lowered t first) A ≡ A
  unfolding numbered
  none_before ps [] A c B n e l = absurd (let z = ap length e ∙ length-append A (c ∷ B) in omega arith)
  none_before ps (r ∷ rs) [] c B n e l = refl
  none_before ps (r ∷ rs) (a ∷ A) c B n e l =
      let q : r.term ≡ a.term = ap (λ (y : Certificate). y.term) (head-eq_of_cons-eq e) in
      let p = none_after ps r rs A c B (both (eqb r.number 0) _ n).1 (tail-eq_of_cons-eq e) l in
      λ i. lowered_not a (omega (arith, p.0)) i ∷ p.1 i

  -- the last of k certificates
  module _ (h : Bytes) (x : History) (s : Represents h x) (A : List Certificate) (c : Certificate) (B : List Certificate) (k : ℕ)
      (e : x.certificates ≡ A ++ (c ∷ B)) (a : length A ≡ k) where
    place : k < certificates_held h
    place =
        let held : length x.certificates ≡ certificates_held h = ap (λ (y : History). length y.certificates) (sym s.decodes) ∙ certificates_read h in
        let more = ap length e ∙ length-append A (c ∷ B) in
        omega arith

    abbrev row : CertificateRow
    row = certificate_of h k

    here : c ≡ certificate_in x.prefixes row
    here =
        sym (get_or_at A c B (certificate_in x.prefixes row) k a)
        ∙ ap (λ (cs : List Certificate). get_or cs k (certificate_in x.prefixes row)) (sym e) ∙ certificate_at h x s k place

    here_term : c.term ≡ row.term
    here_term = ap (λ (y : Certificate). y.term) here

    all_stay : row.term ≤ t → map (lowered t first) (A ++ (c ∷ [])) ≡ A ++ (c ∷ [])
    all_stay l =
        let m : c.term ≤ t = omega (arith, here_term) in
        map-append (lowered t first) A (c ∷ [])
        ∙ (λ i. none_before x.prefixes (tables_of h).certificates A c B (kept h x s).numbered (certificates_is h x s ∙ e) m i ++ (lowered_not c m i ∷ []))

    one_lowered : t < row.term → Represents (lower_bytes h first k) (with_certificates x (A ++ (lowered t first c ∷ B)))
    unfolding lower_bytes
    one_lowered l =
        let C = certificate_in x.prefixes row in
        let m : t < c.term = omega (arith, here_term) in
        let to : set x.certificates k (with_mark C (first - 1)) ≡ A ++ (with_mark c (first - 1) ∷ B) =
        ap (λ (cs : List Certificate). set cs k (with_mark C (first - 1))) e ∙ set_at A c B (with_mark C (first - 1)) k a
        ∙ ap (λ (y : Certificate). A ++ (with_mark y (first - 1) ∷ B)) (sym here) in
        let by : leb first c.mark ≡ leb first row.mark = ap (λ (y : Certificate). leb first y.mark) here in
        let is-low = lowered_by c m ∙ ap (λ (b : Bool). cond b (with_mark c (first - 1)) c) by in
        subst (λ (y : Certificate). Represents (cond (leb first row.mark) (mark_set h k (first - 1)) h) (with_certificates x (A ++ (y ∷ B)))) (sym is-low)
        (⊎_elim
        (λ p.
        let low : first ≤ row.mark = leb-true _ _ p in
        let most = ((formed h s.right).certificate k place).mark in
        let w = mark_written h x s k (first - 1) place (omega arith) in
        subst (λ (b : Bool). Represents (cond b (mark_set h k (first - 1)) h) (with_certificates x (A ++ (cond b (with_mark c (first - 1)) c ∷ B)))) (sym p)
        (subst (λ (cs : List Certificate). Represents (mark_set h k (first - 1)) (with_certificates x cs)) to w))
        (λ p.
        subst (λ (b : Bool). Represents (cond b (mark_set h k (first - 1)) h) (with_certificates x (A ++ (cond b (with_mark c (first - 1)) c ∷ B)))) (sym p)
        (subst (λ (cs : List Certificate). Represents h (with_certificates x cs)) e s))
        (either (leb first row.mark)))

    abbrev Lowered : Bytes → Type 0
    Lowered u = Represents u (with_certificates x (map (lowered t first) (A ++ (c ∷ [])) ++ B))

    -- those before it are lowered by the loop's further turns, or there is no further turn
    back_step : ((u : Bytes) (y : History) → Represents u y → y.certificates ≡ A ++ (lowered t first c ∷ B)
        → Represents (lower_back u t first k) (with_certificates y (map (lowered t first) A ++ (lowered t first c ∷ B))))
        → Lowered (lower_back h t first (suc k))
    unfolding lower_back
    back_step ih =
        ⊎_elim
        (λ p.
        let to = e ∙ sym (append_snoc A c B) ∙ ap (λ (l : List Certificate). l ++ B) (sym (all_stay (leb-true _ _ p))) in
        subst Lowered (sym (cond_true (leb row.term t) h _ p)) (subst (λ (cs : List Certificate). Represents h (with_certificates x cs)) to s))
        (λ p.
        let to : map (lowered t first) A ++ (lowered t first c ∷ B) ≡ map (lowered t first) (A ++ (c ∷ [])) ++ B =
        sym (append_snoc (map (lowered t first) A) (lowered t first c) B)
        ∙ ap (λ (l : List Certificate). l ++ B) (sym (map-append (lowered t first) A (c ∷ []))) in
        let low = one_lowered (leb-false _ _ p) in
        subst Lowered (sym (cond_false (leb row.term t) h _ p))
        (subst (λ (cs : List Certificate). Represents (lower_back (lower_bytes h first k) t first k) (with_certificates x cs)) to
        (ih (lower_bytes h first k) (with_certificates x (A ++ (lowered t first c ∷ B))) low refl)))
        (either (leb row.term t))

  -- the first k certificates of a history that stands: every one of a greater term whose mark is at or past the index is lowered
  pub lower_means : (k : ℕ) (A B : List Certificate) (h : Bytes) (x : History) → Represents h x → x.certificates ≡ A ++ B → length A ≡ k
      → Represents (lower_back h t first k) (with_certificates x (map (lowered t first) A ++ B))
  unfolding lower_back
  lower_means zero [] B h x s e a = subst (λ (cs : List Certificate). Represents h (with_certificates x cs)) e s
  lower_means zero (c ∷ A) B h x s e a = absurd (omega arith)
  lower_means (suc k) [] B h x s e a = absurd (omega arith)
  lower_means (suc k) (d ∷ A) B h x s e a =
      let r = last_of d A in
      let split : x.certificates ≡ r.before ++ (r.last ∷ B) = e ∙ ap (λ (l : List Certificate). l ++ B) r.are ∙ append_snoc r.before r.last B in
      let long : length r.before ≡ k = (let z = sym a ∙ ap length r.are ∙ length-append r.before (r.last ∷ []) in omega arith) in
      subst (λ (l : List Certificate). Represents (lower_back h t first (suc k)) (with_certificates x (map (lowered t first) l ++ B))) (sym r.are)
      (back_step h x s r.before r.last B k split long
      (λ u y w q. lower_means k r.before (lowered t first r.last ∷ B) u y w q long))
