-- Judging one certificate on bytes that stand for a history is the model's judging of the certificate that it stands for, and
-- so is judging all of them.
-- Assumes nothing.
use Prim.Native.Nat.{ℕ, zero, suc, ◌<◌, ◌≤◌, min}
use native.Mathlib.Omega.{arith}
use mathlib.Core.Path.{◌≡◌, refl, sym, ◌∙◌, ap}
use mathlib.Core.Bool.{Bool, true, false, cond, not, ◌&&◌, ◌||◌}
use mathlib.Core.Logic.{⊎_elim}
use mathlib.Core.List.{List, [], ◌∷◌, ◌++◌, map, Memᴰ}
use mathlib.Core.Option.{none, some}
use lib.Dec.{ltb, eqb}
use lib.ListN.{length, take, length-take}
use lib.Seq.{length-take-le}
use borrow.Author.Tests.{ne_eqb, lt-ltb, ltb-true, ltb-false}
use Rattle.model.specs.Entry.{Prefix, same, begins}
use Rattle.model.specs.History.{History}
use Rattle.model.specs.Check.{last_below, relevant, lacks, lacking, lackings, some_relevant}
use Rattle.model.specs.Sizes.{Bytes, index_limit}
use Rattle.model.proofs.Tests.{either, no_begins}
use Rattle.storage.specs.Tables.{CertificateRow, term_row, terms_part}
use Rattle.storage.specs.Decode.{prefix_at, certificate_in}
use Rattle.storage.proofs.Meanings.{Represents, committed_stored, terms_stored, end_is}
use Rattle.commit.specs.Committed.{agree_in}
use Rattle.commit.proofs.PrefixLaws.{agree_at, agree_beyond}
use Rattle.storage.specs.Values.{committed_end}
use Rattle.storage.specs.Head.{prefixes_held, terms_held, committed_number}
use Rattle.leader_completeness.specs.Relevance.{last_relevant, recorded_end, relevant_in}
use Rattle.leader_completeness.specs.Judgement.{lacks_through, lacking_of, lacking_at, lacking_in, flag_in, lackings_in, flags_in}
use Rattle.leader_completeness.proofs.RelevanceLaws.{last_below_lem, at_most_lem}
use Rattle.storage.proofs.WellFormed.{formed}

-- ---- tests

-- a certificate's log, absent or there
lacks_log : (b : Bool) (q p : Prefix) → lacks (cond b none (some q)) p ≡ cond b true (not (begins q p))
lacks_log true q p = refl
lacks_log false q p = refl

-- "through the prefix's end" of the first i entries is through i
begins_through : (q p : Prefix) (i : ℕ) → i ≤ length p → begins q (take i p) ≡ same (take i q) (take i p)
unfolding begins
begins_through q p i h = ap (λ (n : ℕ). same (take n q) (take i p)) (length-take-le i p h)

-- a shorter one does not begin with them
begins_shorter : (q p : Prefix) (i : ℕ) → i ≤ length p → length q < i → begins q (take i p) ≡ false
begins_shorter q p i h l =
    no_begins q (take i p)
    (λ e. let a = ap length e in let b = length-take (length (take i p)) q in let c = length-take-le i p h in omega arith)

-- an index is one, or is zero
pub positive : (r : ℕ) → not (eqb r 0) ≡ ltb 0 r
positive zero = refl
positive (suc r) = ap not (ne_eqb (suc r) 0 (λ e. omega arith)) ∙ sym (lt-ltb 0 (suc r) (omega arith))

joined : {A : Type 0} (r : ℕ) (b : Bool) (xs : List A) → cond (eqb r 0) [] (cond b xs []) ≡ cond (ltb 0 r && b) xs []
joined r b xs = by (eqb r 0) ∙ ap (λ (t : Bool). cond (t && b) xs []) (positive r)
  where
    by : (z : Bool) → cond z [] (cond b xs []) ≡ cond (not z && b) xs []
    by true = refl
    by false = refl

-- flag 4 is set before, by the first, or by a later one
either_flag : (r b : ℕ) (c : Bool) → cond c 4 (cond (eqb r 0) b 4) ≡ cond (ltb 0 r || c) 4 b
either_flag r b c = by (eqb r 0) c ∙ ap (λ (t : Bool). cond (t || c) 4 b) (positive r)
  where
    by : (z d : Bool) → cond d 4 (cond z b 4) ≡ cond (not z || d) 4 b
    by true d = refl
    by false true = refl
    by false false = refl

module _ (h : Bytes) (x : History) (s : Represents h x) where
  -- ---- the relevant index

  pub relevant_means : (c : CertificateRow) → relevant_in h c ≡ relevant x.committed x.terms (certificate_in x.prefixes c)
  unfolding relevant_in recorded_end relevant
  relevant_means c =
      ap (λ (n : ℕ). last_relevant (term_row (terms_part h)) c.mark c.term (min n (terms_held h))) (end_is h x s)
      ∙ sym (last_below_lem c.mark (length x.committed) c.term (term_row (terms_part h)) (terms_held h))
      ∙ ap (last_below c.mark (length x.committed) c.term 1) (terms_stored h x s)

  pub relevant_within : (c : CertificateRow) → (relevant_in h c ≤ length x.committed) × (relevant_in h c ≤ index_limit)
  unfolding relevant_in recorded_end
  relevant_within c =
      let a = at_most_lem (term_row (terms_part h)) c.mark c.term (min (committed_end h) (terms_held h)) in
      let b = end_is h x s in
      let d = (formed h s.right).terms in
      (omega arith, omega arith)

  -- ---- the log

  module _ (c : CertificateRow) (i : ℕ) (log : c.log ≤ prefixes_held h) (within : i ≤ length x.committed) where
    compared : agree_in h c.log (committed_number h) i ≡ begins (prefix_at x.prefixes c.log) (take i x.committed)
    compared =
        let l = (formed h s.right).committed in
        let e = committed_stored h x s in
        ⊎_elim
        (λ b. let z = ltb-true _ i b in
        agree_beyond h x s c.log (committed_number h) log l i z ∙ sym (begins_shorter (prefix_at x.prefixes c.log) x.committed i within z))
        (λ b. let z = ltb-false _ i b in
        agree_at h x s c.log (committed_number h) log l i z (let n = ap length e in omega arith)
        ∙ ap (λ (p : Prefix). same (take i (prefix_at x.prefixes c.log)) (take i p)) e
        ∙ sym (begins_through (prefix_at x.prefixes c.log) x.committed i within))
        (either (ltb (length (prefix_at x.prefixes c.log)) i))

    pub lacks_means : lacks_through h c i ≡ lacks (certificate_in x.prefixes c).log (take i x.committed)
    unfolding lacks_through
    lacks_means =
        ap (λ (b : Bool). cond (eqb c.present 0) true (not b)) compared
        ∙ sym (lacks_log (eqb c.present 0) (prefix_at x.prefixes c.log) (take i x.committed))

  -- ---- what is noted of one, and of all

  pub lacking_means : (c : CertificateRow) → c.log ≤ prefixes_held h → lacking_in h c ≡ lacking x.committed x.terms (certificate_in x.prefixes c)
  unfolding lacking_in lacking_at lacking
  lacking_means c log =
      let r = relevant_in h c in
      joined r (lacks_through h c r) (lacking_of c r ∷ [])
      ∙ ap (λ (b : Bool). cond (ltb 0 r && b) (lacking_of c r ∷ []) []) (lacks_means c r log (relevant_within c).0)
      ∙ ap (λ (i : ℕ). cond (ltb 0 i && lacks (certificate_in x.prefixes c).log (take i x.committed)) (lacking_of c i ∷ []) []) (relevant_means c)

  pub lackings_mean : (cs : List CertificateRow) → ((c : CertificateRow) → Memᴰ c cs → c.log ≤ prefixes_held h)
      → lackings_in h cs ≡ lackings x.committed x.terms (map (certificate_in x.prefixes) cs)
  unfolding lackings_in lackings
  lackings_mean [] f = refl
  lackings_mean (c ∷ cs) f =
      λ i. lacking_means c (f c (Memᴰ.head refl)) i ++ lackings_mean cs (λ d m. f d (Memᴰ.tail m)) i

  -- ---- flag 4

  pub flags_mean : (cs : List CertificateRow) (b : ℕ)
      → flags_in h b cs ≡ cond (some_relevant x.committed x.terms (map (certificate_in x.prefixes) cs)) 4 b
  unfolding flags_in flag_in some_relevant
  flags_mean [] b = refl
  flags_mean (c ∷ cs) b =
      let later = some_relevant x.committed x.terms (map (certificate_in x.prefixes) cs) in
      flags_mean cs (cond (eqb (relevant_in h c) 0) b 4)
      ∙ either_flag (relevant_in h c) b later
      ∙ ap (λ (r : ℕ). cond (ltb 0 r || later) 4 b) (relevant_means c)
