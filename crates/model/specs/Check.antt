-- Document 01, "Election and check", the completeness check: each certificate is judged against the committed prefix.
-- What is said of one certificate stands by itself: its relevant index, its finding, its mark.
-- docs/SCOPE.md, "The check".
-- Assumes nothing.
use Rattle.std.specs.Prelude.{ℕ, ◌+◌, max, Bool, true, false, cond, not, ◌&&◌, ◌||◌, List, [], ◌∷◌, ◌++◌, map, leb, ltb, eqb, length, take}
use Rattle.std.proofs.Math.Option.{Option, none, some}
use Rattle.model.specs.Sizes.{finding_limit}
use Rattle.model.specs.Entry.{Prefix, begins}
use Rattle.model.specs.Refusal.{Refusal, findingsFull}
use Rattle.model.specs.History.{Finding, Certificate, History, with_certificates, with_findings, noted}
use Rattle.model.specs.Terms.{with_mark}

-- ---- one certificate

-- "a committed index whose commit term is zero is earlier than nothing" (T-03): a recorded term x is earlier than t
abbrev pub is_earlier : ℕ → ℕ → Bool
is_earlier x t = ltb 0 x && ltb x t

-- the last index of the recorded terms, from i on, that is after the mark, within the committed prefix and has a term
-- earlier than the certificate's; 0 where none has
unfoldable pub last_below : ℕ → ℕ → ℕ → ℕ → List ℕ → ℕ
last_below mark end t i [] = 0
last_below mark end t i (x ∷ xs) =
    let later = last_below mark end t (i + 1) xs in
    cond (eqb later 0) (cond (ltb mark i && leb i end && is_earlier x t) i 0) later

-- the relevant index, 0 where there is none. If the committed prefix does not pass the mark there is none.
unfoldable pub relevant : Prefix → List ℕ → Certificate → ℕ
unfolding last_below
relevant committed ts c = last_below c.mark (length committed) c.term 1 ts

-- "a log that is absent, shorter or different" through the prefix
abbrev pub lacks : Option Prefix → Prefix → Bool
lacks none p = true
lacks (some q) p = not (begins q p)

-- LG-05 (leader, index, term)
unfoldable pub lacking : Prefix → List ℕ → Certificate → List Finding
unfolding relevant begins
lacking committed ts c =
    cond (ltb 0 (relevant committed ts c) && lacks c.log (take (relevant committed ts c) committed))
    (record { name = 5; node = c.leader; index = relevant committed ts c; term = c.term } ∷ [])
    []

-- "only that certificate's mark moves, to the committed end, with or without a relevant index"; one that is not passed
-- is left as it is
unfoldable pub moved : Prefix → Certificate → Certificate
moved committed c = with_mark c (max c.mark (length committed))

-- ---- all of them, "by term, then arrival", as they are kept

unfoldable pub lackings : Prefix → List ℕ → List Certificate → List Finding
unfolding lacking
lackings committed ts [] = []
lackings committed ts (c ∷ cs) = lacking committed ts c ++ lackings committed ts cs

unfoldable pub some_relevant : Prefix → List ℕ → List Certificate → Bool
unfolding relevant
some_relevant committed ts [] = false
some_relevant committed ts (c ∷ cs) = ltb 0 (relevant committed ts c) || some_relevant committed ts cs

unfoldable pub check_findings : History → List Finding
unfolding noted lackings
check_findings h = noted h.findings (lackings h.committed h.terms h.certificates)

-- 7 when the findings would exceed 128
unfoldable pub check_refusal : History → Option Refusal
unfolding check_findings
check_refusal h = cond (ltb finding_limit (length (check_findings h))) (some findingsFull) none

-- flag 4 where a relevant index exists
unfoldable pub check_value : History → ℕ
unfolding some_relevant
check_value h = cond (some_relevant h.committed h.terms h.certificates) 4 0

unfoldable pub check_effect : History → History
unfolding check_findings moved
check_effect h = with_findings (with_certificates h (map (moved h.committed) h.certificates)) (check_findings h)
