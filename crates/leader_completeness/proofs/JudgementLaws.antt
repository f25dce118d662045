-- Judging: a certificate as it is read, and the turns of the functions that judge.
-- Assumes nothing.
use Prim.Native.Nat.{ℕ, ◌+◌, ◌-◌, ◌<◌, ◌≤◌}
use native.Mathlib.Omega.{arith}
use mathlib.Core.Path.{◌≡◌, refl, sym, ◌∙◌, ap, subst}
use mathlib.Core.Bool.{Bool, true, false, cond, not, ◌||◌}
use mathlib.Core.List.{List, [], ◌∷◌}
use lib.Dec.{eqb}
use borrow.Author.Tests.{eq-eqb, ne_eqb}
use Rattle.model.specs.Sizes.{Bytes}
use Rattle.model.proofs.Tests.{cond_true, cond_false, cond_cases}
use Rattle.storage_rows.specs.Certificates.{told_row}
use Rattle.storage_bytes.specs.Lists.{tabulate}
use Rattle.storage.specs.Values.{certificates_of}
use Rattle.storage.specs.Tables.{CertificateRow, certificate_row, certificates_part}
use Rattle.storage.specs.Head.{prefixes_held, committed_number, certificates_held}
use Rattle.storage_bytes.proofs.ListLaws.{tabulate_cons, tabulate_none}
use Rattle.log_violation.specs.Violation.{held_all, bytes_all, NotedAll, note_if}
use Rattle.log_violation.proofs.ViolationLaws.{held_then, bytes_then}
use Rattle.storage.proofs.WellFormed.{Formed}
use Rattle.leader_completeness.specs.Relevance.{relevant_in}
use Rattle.commit.specs.Committed.{agree_in}
use Rattle.leader_completeness.specs.Judgement.{lacks_through, lacking_of, lacking_at, lacking_in, flag_in, JudgedAs, lackings_in, flags_in, JudgedAll}

-- a certificate as it is read, and its log, which is stored
pub row_here : (h p : Bytes) (k : ℕ) (c : CertificateRow) → p ≡ certificates_part h → c ≡ told_row (certificate_row p k)
    → c ≡ told_row (certificate_row (certificates_part h) k)
row_here h p k c a e = e ∙ ap (λ (q : Bytes). told_row (certificate_row q k)) a

told_stored : (n : ℕ) (c : CertificateRow) → c.log ≤ n → (told_row c).log ≤ n
told_stored n c l = cond_cases (λ (x : ℕ). x ≤ n) (eqb c.present 0) 0 c.log (λ _. omega arith) (λ _. l)

pub row_stored : (h p : Bytes) (k : ℕ) → Formed h → k < certificates_held h → (c : CertificateRow) → p ≡ certificates_part h
    → c ≡ told_row (certificate_row p k) → c.log ≤ prefixes_held h
row_stored h p k s l c a e =
    subst (λ (x : CertificateRow). x.log ≤ prefixes_held h) (sym (row_here h p k c a e)) (told_stored (prefixes_held h) (certificate_row (certificates_part h) k) (s.certificate k l).log)

-- a row and its certificate are judged alike: the number of an absent log is not looked at
module _ (h : Bytes) (c : CertificateRow) where
  lacks_told : (i : ℕ) → lacks_through h (told_row c) i ≡ lacks_through h c i
  unfolding lacks_through
  lacks_told i = by (eqb c.present 0)
    where
      by : (z : Bool) → cond (eqb (cond z 0 1) 0) true (not (agree_in h (cond z 0 c.log) (committed_number h) i)) ≡ cond z true (not (agree_in h c.log (committed_number h) i))
      by true = refl
      by false = refl

  lacking_told : lacking_in h (told_row c) ≡ lacking_in h c
  unfolding lacking_in lacking_at relevant_in
  lacking_told =
      let i = relevant_in h c in
      ap (λ (b : Bool). cond (eqb i 0) [] (note_if b (lacking_of c i))) (lacks_told i)

  pub judged_told : (t : Bytes) (held : ℕ) (r : Bool) (held' : ℕ) (t' : Bytes) → JudgedAs h (told_row c) t held r held' t' → JudgedAs h c t held r held' t'
  unfolding flag_in relevant_in
  judged_told t held r held' t' j =
      record { flag = j.flag; holds = j.holds ∙ ap (held_all t held) lacking_told; table = j.table ∙ ap (bytes_all t held) lacking_told }

-- ---- whether the log lacks the committed prefix

module _ (h : Bytes) (c : CertificateRow) (i : ℕ) where
  pub lacks_absent : c.present ≡ 0 → true ≡ lacks_through h c i
  unfolding lacks_through
  lacks_absent e = sym (cond_true (eqb c.present 0) true _ (eq-eqb c.present 0 e))

  pub lacks_there : (c.present ≡ 0 → ⊥) → (p : ℕ) → p ≡ committed_number h → (b : Bool) → b ≡ agree_in h c.log p i → not b ≡ lacks_through h c i
  unfolding lacks_through
  lacks_there there p ep b e =
      ap not (e ∙ ap (λ (n : ℕ). agree_in h c.log n i) ep)
      ∙ sym (cond_false (eqb c.present 0) true _ (ne_eqb c.present 0 there))

-- ---- one certificate

module _ (h : Bytes) (c : CertificateRow) where
  module _ (t : Bytes) (held r : ℕ) (e : r ≡ relevant_in h c) where
    irrelevant : r ≡ 0 → eqb (relevant_in h c) 0 ≡ true
    irrelevant z = eq-eqb (relevant_in h c) 0 (sym e ∙ z)

    pub judged_none : r ≡ 0 → JudgedAs h c t held false held t
    unfolding flag_in lacking_in held_all bytes_all
    judged_none z =
        let n : lacking_in h c ≡ [] = cond_true (eqb (relevant_in h c) 0) [] _ (irrelevant z) in
        record {
          flag = λ b. sym (cond_true (eqb (relevant_in h c) 0) b 4 (irrelevant z));
          holds = sym (ap (held_all t held) n);
          table = sym (ap (bytes_all t held) n);
        }

    -- l: its log lacks the committed prefix through r
    pub judged_some : (r ≡ 0 → ⊥) → (l : Bool) → l ≡ lacks_through h c r → (held' : ℕ) (t' : Bytes)
        → NotedAll t held (note_if l (lacking_of c r)) held' t' → JudgedAs h c t held true held' t'
    unfolding flag_in lacking_in lacking_at
    judged_some z l el held' t' w =
        let f : eqb (relevant_in h c) 0 ≡ false = ne_eqb (relevant_in h c) 0 (λ q. z (e ∙ q)) in
        let n : note_if l (lacking_of c r) ≡ lacking_in h c =
        ap (λ (x : Bool). note_if x (lacking_of c r)) el ∙ ap (lacking_at h c) e ∙ sym (cond_false (eqb (relevant_in h c) 0) [] _ f) in
        record {
          flag = λ b. sym (cond_false (eqb (relevant_in h c) 0) b 4 f);
          holds = w.0 ∙ ap (held_all t held) n;
          table = w.1 ∙ ap (bytes_all t held) n;
        }

-- ---- the walk over all of them

either_flag : (r b : Bool) → cond {A = ℕ} r 4 (cond b 4 0) ≡ cond (b || r) 4 0
either_flag true true = refl
either_flag true false = refl
either_flag false true = refl
either_flag false false = refl

-- what is left of the certificates from the k-th on gives the rest
pub record Walking (h t₀ : Bytes) (held m : ℕ) (t : Bytes) (b : Bool) (n k : ℕ) : Type 0 where
  pub flag : flags_in h 0 (certificates_of h) ≡ flags_in h (cond b 4 0) (tabulate (certificate_row (certificates_part h)) k (m - k))
  pub holds : held_all t₀ held (lackings_in h (certificates_of h)) ≡ held_all t n (lackings_in h (tabulate (certificate_row (certificates_part h)) k (m - k)))
  pub table : bytes_all t₀ held (lackings_in h (certificates_of h)) ≡ bytes_all t n (lackings_in h (tabulate (certificate_row (certificates_part h)) k (m - k)))
  pub within : k ≤ m

module _ (h t₀ : Bytes) (held m : ℕ) where
  module _ (t : Bytes) (b : Bool) (n k : ℕ) (w : Walking h t₀ held m t b n k) where
    pub walking_ends : m ≤ k → JudgedAll h t₀ held b n t
    unfolding flags_in lackings_in held_all bytes_all
    walking_ends l =
        let s : tabulate (certificate_row (certificates_part h)) k (m - k) ≡ [] = tabulate_none (certificate_row (certificates_part h)) k m l in
        record {
          flag = sym (w.flag ∙ ap (flags_in h (cond b 4 0)) s);
          holds = sym (w.holds ∙ ap (λ (cs : List CertificateRow). held_all t n (lackings_in h cs)) s);
          table = sym (w.table ∙ ap (λ (cs : List CertificateRow). bytes_all t n (lackings_in h cs)) s);
        }

    module _ (l : k < m) where
      row : CertificateRow
      row = certificate_row (certificates_part h) k

      rest : List CertificateRow
      rest = tabulate (certificate_row (certificates_part h)) (k + 1) (m - (k + 1))

      more : tabulate (certificate_row (certificates_part h)) k (m - k) ≡ row ∷ rest
      unfolding rest row
      more = tabulate_cons (certificate_row (certificates_part h)) k m l

      -- c: the certificate that row k tells of; r: it has a relevant index
      pub walking_next : (c : CertificateRow) → c ≡ told_row (certificate_row (certificates_part h) k) → (r : Bool) (n' : ℕ) (t' : Bytes)
          → JudgedAs h c t n r n' t' → (b' : Bool) → b' ≡ (b || r) → Walking h t₀ held m t' b' n' (k + 1)
      unfolding row rest flags_in lackings_in
      walking_next c e r n' t' d b' e' =
          let j = judged_told h row t n r n' t' (subst (λ (x : CertificateRow). JudgedAs h x t n r n' t') e d) in
          record {
            flag = w.flag ∙ ap (flags_in h (cond b 4 0)) more
                ∙ ap (λ (x : ℕ). flags_in h x rest) (sym (j.flag (cond b 4 0)) ∙ either_flag r b ∙ ap (λ (x : Bool). cond {A = ℕ} x 4 0) (sym e'));
            holds = w.holds ∙ ap (λ (cs : List CertificateRow). held_all t n (lackings_in h cs)) more
                ∙ held_then t n (lacking_in h row) n' t' (j.holds, j.table) (lackings_in h rest);
            table = w.table ∙ ap (λ (cs : List CertificateRow). bytes_all t n (lackings_in h cs)) more
                ∙ bytes_then t n (lacking_in h row) n' t' (j.holds, j.table) (lackings_in h rest);
            within = omega arith;
          }
