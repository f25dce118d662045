-- The model's check of a history that has nothing committed: accepted with the value 0, and the history is left as it is.
-- Assumes nothing.
use Prim.Native.Nat.{ℕ, ◌+◌, ◌<◌, ◌≤◌, max}
use native.Mathlib.Omega.{arith}
use mathlib.Core.Path.{◌≡◌, refl, ◌∙◌, ap}
use mathlib.Core.Bool.{Bool, true, false, cond, ◌&&◌, ◌||◌}
use mathlib.Core.List.{List, [], ◌∷◌, ◌++◌, map}
use mathlib.Core.Option.{none, some}
use lib.Dec.{leb, ltb, eqb}
use lib.ListN.{length, take}
use borrow.Author.Tests.{le-ltb, lt-leb}
use Rattle.model.specs.Entry.{Prefix, with_all}
use Rattle.model.specs.Refusal.{findingsFull}
use Rattle.model.specs.History.{Finding, Certificate, History, noted, with_certificates, with_findings}
use Rattle.model.specs.Terms.{with_mark}
use Rattle.model.specs.Check.{is_earlier, last_below, relevant, lacks, lacking, moved, lackings, some_relevant, check_findings, check_refusal, check_value, check_effect}
use Rattle.model.specs.Sizes.{finding_limit}
use Rattle.model.proofs.Tests.{tf, cond_false}

-- ---- one certificate

-- no index is within the empty prefix
none_below : (mark t i : ℕ) (xs : List ℕ) → 0 < i → last_below mark 0 t i xs ≡ 0
unfolding last_below
none_below mark t i [] h = refl
none_below mark t i (x ∷ xs) h =
    ap (λ (l : ℕ). cond (eqb l 0) (cond (ltb mark i && leb i 0 && is_earlier x t) i 0) l) (none_below mark t (i + 1) xs (omega arith))
    ∙ past (ltb mark i) (leb i 0) (is_earlier x t) (lt-leb i 0 h)
  where
    past : (a b c : Bool) → b ≡ false → cond (a && b && c) i 0 ≡ 0
    past true true c f = absurd (tf f)
    past true false c f = refl
    past false b c f = refl

module _ (ts : List ℕ) where
  none_relevant : (c : Certificate) → relevant [] ts c ≡ 0
  unfolding relevant
  none_relevant c = none_below c.mark c.term 1 ts (omega arith)

  none_lacking : (c : Certificate) → lacking [] ts c ≡ []
  unfolding lacking
  none_lacking c =
      ap (λ (r : ℕ). cond (ltb 0 r && lacks c.log (take r [])) (record { name = 5; node = c.leader; index = r; term = c.term } ∷ []) []) (none_relevant c)

-- its mark stays
stays : (c : Certificate) → moved [] c ≡ c
unfolding moved
stays c = ap (with_mark c) (let e : max c.mark 0 ≡ c.mark = omega arith in e)

-- ---- all of them

none_lackings : (ts : List ℕ) (cs : List Certificate) → lackings [] ts cs ≡ []
unfolding lackings
none_lackings ts [] = refl
none_lackings ts (c ∷ cs) = λ i. none_lacking ts c i ++ none_lackings ts cs i

none_flagged : (ts : List ℕ) (cs : List Certificate) → some_relevant [] ts cs ≡ false
unfolding some_relevant
none_flagged ts [] = refl
none_flagged ts (c ∷ cs) = λ i. ltb 0 (none_relevant ts c i) || none_flagged ts cs i

all_stay : (cs : List Certificate) → map (moved []) cs ≡ cs
all_stay [] = refl
all_stay (c ∷ cs) = λ i. stays c i ∷ all_stay cs i

-- ---- the check

module _ (x : History) (e : x.committed ≡ []) where
  findings_stay : check_findings x ≡ x.findings
  unfolding check_findings noted with_all
  findings_stay =
      ap (noted x.findings)
      (ap (λ (p : Prefix). lackings p x.terms x.certificates) e ∙ none_lackings x.terms x.certificates)

  pub nothing_refused : length x.findings ≤ finding_limit → check_refusal x ≡ none
  unfolding check_refusal
  nothing_refused l =
      cond_false (ltb finding_limit (length (check_findings x))) (some findingsFull) none
      (ap (λ (fs : List Finding). ltb finding_limit (length fs)) findings_stay ∙ le-ltb finding_limit (length x.findings) l)

  pub nothing_flagged : check_value x ≡ 0
  unfolding check_value
  nothing_flagged =
      ap (λ (b : Bool). cond b 4 0)
      (ap (λ (p : Prefix). some_relevant p x.terms x.certificates) e ∙ none_flagged x.terms x.certificates)

  pub nothing_changed : check_effect x ≡ x
  unfolding check_effect
  nothing_changed =
      let certificates-stay : map (moved x.committed) x.certificates ≡ x.certificates =
      ap (λ (p : Prefix). map (moved p) x.certificates) e ∙ all_stay x.certificates in
      λ i. with_findings (with_certificates x (certificates-stay i)) (findings_stay i)
