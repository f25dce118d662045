-- Moving the marks in bytes that stand for a history: each certificate's mark is at the end, or where it was if that is past
-- it, and nothing else has changed.
-- Assumes nothing.
use Prim.Native.Nat.{ℕ, suc, ◌+◌, ◌<◌, ◌≤◌, max}
use native.Mathlib.Omega.{arith}
use mathlib.Core.Path.{◌≡◌, sym, ◌∙◌, ap, subst, subst₂}
use mathlib.Core.Logic.{⊎_elim}
use mathlib.Core.List.{List, [], ◌∷◌, ◌++◌, map}
use mathlib.Core.Bool.{cond}
use lib.Dec.{ltb}
use lib.ListN.{length, get_or, set, length-append}
use lib.Seq.{set-get_or, set-append_seam, get_or-append_seam, append_snoc}
use borrow.Author.Tests.{ltb-true, ltb-false}
use Rattle.model.specs.History.{Certificate, History, with_certificates}
use Rattle.model.specs.Terms.{with_mark}
use Rattle.model.specs.Sizes.{Bytes, index_limit}
use Rattle.model.proofs.Tests.{either, cond_true, cond_false}
use Rattle.storage.specs.Tables.{CertificateRow}
use Rattle.storage.specs.Decode.{certificate_in}
use Rattle.storage.specs.Head.{certificates_held}
use Rattle.storage.proofs.Meanings.{Represents, certificates_read}
use Rattle.election_certificates.specs.Marks.{mark_set, certificate_of}
use Rattle.election_certificates.proofs.MarkLaws.{certificate_at, mark_written}
use Rattle.leader_completeness.specs.Marks.{mark_moved, marks_moved}

-- a certificate's mark at the end, where that passes it
abbrev pub raised : ℕ → Certificate → Certificate
raised end c = with_mark c (max c.mark end)

-- ---- one certificate

module _ (h : Bytes) (x : History) (s : Represents h x) (end : ℕ) (small : end ≤ index_limit) (k : ℕ) (l : k < certificates_held h) where
  abbrev c : CertificateRow
  c = certificate_of h k

  -- the certificate in the model
  abbrev old : Certificate
  old = get_or x.certificates k (certificate_in x.prefixes c)

  old_is : old ≡ certificate_in x.prefixes c
  old_is = certificate_at h x s k l

  abbrev Moved : Bytes → Type 0
  Moved u = Represents u (with_certificates x (set x.certificates k (raised end old)))

  passed : c.mark < end → Moved (mark_set h k end)
  passed b =
      subst (λ (d : Certificate). Represents (mark_set h k end) (with_certificates x (set x.certificates k d)))
      (ap (λ (m : ℕ). with_mark (certificate_in x.prefixes c) m) (let e : end ≡ max c.mark end = omega arith in e) ∙ ap (raised end) (sym old_is))
      (mark_written h x s k end l small)

  stays : end ≤ c.mark → Moved h
  stays b =
      let m : old.mark ≡ c.mark = ap (λ (d : Certificate). d.mark) old_is in
      let q : raised end old ≡ old = ap (λ (n : ℕ). with_mark old n) (let e : max old.mark end ≡ old.mark = omega arith in e) in
      subst (λ (cs : List Certificate). Represents h (with_certificates x cs))
      (sym (ap (set x.certificates k) q ∙ set-get_or x.certificates k (certificate_in x.prefixes c))) s

  -- the mark of certificate k moves, and nothing else
  pub mark_means : Represents (mark_moved h k end) (with_certificates x (set x.certificates k (raised end (certificate_in x.prefixes c))))
  unfolding mark_moved
  mark_means =
      let u = mark_set h k end in
      subst (λ (d : Certificate). Represents (cond (ltb c.mark end) u h) (with_certificates x (set x.certificates k (raised end d)))) old_is
      (⊎_elim (λ t. subst Moved (sym (cond_true (ltb c.mark end) u h t)) (passed (ltb-true _ _ t)))
      (λ t. subst Moved (sym (cond_false (ltb c.mark end) u h t)) (stays (ltb-false _ _ t)))
      (either (ltb c.mark end)))

-- ---- all of them, from the k-th on

-- the history's certificates are some whose marks have moved, and the rest
pub marks_mean : (cs : List CertificateRow) (moved : List Certificate) (h : Bytes) (x : History) → Represents h x → (end : ℕ) → end ≤ index_limit
    → x.certificates ≡ moved ++ map (certificate_in x.prefixes) cs
    → Represents (marks_moved h end (length moved) (length cs)) (with_certificates x (moved ++ map (raised end) (map (certificate_in x.prefixes) cs)))
unfolding marks_moved
marks_mean [] moved h x s end small e = subst (λ (ds : List Certificate). Represents h (with_certificates x ds)) e s
marks_mean (c ∷ cs) moved h x s end small e =
    subst₂ Represents (ap (λ (n : ℕ). marks_moved (mark_moved h k end) end n (length cs)) longer)
    (ap (with_certificates x) (append_snoc moved (raised end d) (map (raised end) rest)))
    (marks_mean cs (moved ++ (raised end d ∷ [])) (mark_moved h k end) (with_certificates x after) step end small
    (sym (append_snoc moved (raised end d) rest)))
  where
    k : ℕ
    k = length moved

    d : Certificate
    d = certificate_in x.prefixes c

    rest : List Certificate
    rest = map (certificate_in x.prefixes) cs

    after : List Certificate
    after = moved ++ (raised end d ∷ rest)

    longer : length (moved ++ (raised end d ∷ [])) ≡ k + 1
    longer = length-append moved (raised end d ∷ [])

    count : certificates_held h ≡ k + suc (length rest)
    count =
        sym (certificates_read h) ∙ ap (λ (y : History). length y.certificates) s.decodes ∙ ap length e ∙ length-append moved (d ∷ rest)

    before : k < certificates_held h
    before = omega (arith, count)

    row : CertificateRow
    row = certificate_of h k

    -- the certificate at place k
    here : certificate_in x.prefixes row ≡ d
    here =
        sym (old_is h x s end small k before) ∙ ap (λ (ds : List Certificate). get_or ds k (certificate_in x.prefixes row)) e
        ∙ get_or-append_seam moved d rest (certificate_in x.prefixes row)

    step : Represents (mark_moved h k end) (with_certificates x after)
    step =
        subst (λ (ds : List Certificate). Represents (mark_moved h k end) (with_certificates x ds))
        ((λ i. set (e i) k (raised end (here i))) ∙ set-append_seam moved d rest (raised end d))
        (mark_means h x s end small k before)
