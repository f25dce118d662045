-- Document 01, "View": an accepted view brings the prefixes of its front, LG-03, and the node's front.
-- docs/SCOPE.md, "Views".
-- Assumes nothing.
use Rattle.std.specs.Prelude.{ℕ, ◌+◌, cond, ◌&&◌, List, [], ◌∷◌, ◌++◌, ltb, eqb, length, set}
use Rattle.std.proofs.Math.Option.{Option, none, some}
use Rattle.model.specs.Sizes.{finding_limit}
use Rattle.model.specs.Entry.{Entry, Prefix, prefixes, same, last_term, is_in, with, with_all}
use Rattle.model.specs.Refusal.{Refusal, prefixesFull, findingsFull}
use Rattle.model.specs.Record.{Shown, front_from, front, last_from, last_index}
use Rattle.model.specs.History.{Finding, History, with_prefixes, with_views, with_findings, noted}

-- the prefixes that the entries es go through, one for each, after those of p
unfoldable pub prefixes_from : Prefix → List Entry → List Prefix
prefixes_from p [] = []
prefixes_from p (e ∷ es) = (p ++ (e ∷ [])) ∷ prefixes_from (p ++ (e ∷ [])) es

-- the nonempty prefixes of a front
abbrev pub prefixes_of : Prefix → List Prefix
prefixes_of p = prefixes_from [] p

-- "the pair (index, term) remembers the first prefix seen": the first stored one of that length and last term
unfoldable pub remembered : List Prefix → ℕ → ℕ → Option Prefix
unfolding last_term
remembered [] i t = none
remembered (p ∷ ps) i t = cond (eqb (length p) i && eqb (last_term p) t) (some p) (remembered ps i t)

-- "a differing prefix adds LG-03 (node, index, term)"
abbrev pub differing : ℕ → Prefix → Option Prefix → List Finding
differing n q none = []
differing n q (some p) = cond (same p q) [] (record { name = 3; node = n; index = length q; term = last_term q } ∷ [])

unfoldable pub mismatch : List Prefix → ℕ → Prefix → List Finding
unfolding remembered prefixes
mismatch ps n q = differing n q (remembered ps (length q) (last_term q))

-- the walk along the view's own front. A view has each index once, so each prefix is held against those stored before it.
unfoldable pub mismatches : List Prefix → ℕ → List Prefix → List Finding
unfolding mismatch
mismatches ps n [] = []
mismatches ps n (q ∷ qs) = mismatch ps n q ++ mismatches ps n qs

-- the stored prefixes with those of a front, "equal prefixes are stored once"
unfoldable pub stored : List Prefix → Prefix → List Prefix
unfolding prefixes with_all prefixes_from
stored ps p = with_all prefixes ps (prefixes_of p)

-- the step that lengthens a prefix finds the result or makes it: how many of these are made, each after those before it
unfoldable pub made : List Prefix → List Prefix → ℕ
unfolding prefixes with
made ps [] = 0
made ps (q ∷ qs) = cond (is_in prefixes q ps) 0 1 + made (with prefixes ps q) qs

-- "the value printed for an accepted view becomes the number made" (T-05)
unfoldable pub view_value : History → List Shown → ℕ
unfolding front_from made
view_value h es = made h.prefixes (prefixes_of (front es))

-- the findings with those of a front
unfoldable pub view_findings : History → ℕ → Prefix → List Finding
unfolding noted mismatches prefixes_from
view_findings h n p = noted h.findings (mismatches h.prefixes n (prefixes_of p))

-- 6 when the stored prefixes would exceed `limit`, 7 when the findings would exceed 128
unfoldable pub view_refusal : ℕ → History → ℕ → List Shown → Option Refusal
unfolding front_from stored view_findings
view_refusal limit h n es =
    cond (ltb limit (length (stored h.prefixes (front es)))) (some prefixesFull)
    (cond (ltb finding_limit (length (view_findings h n (front es)))) (some findingsFull) none)

-- "an accepted view replaces the node's earlier one, also if shorter"
unfoldable pub view_effect : History → ℕ → List Shown → History
unfolding front_from last_from stored view_findings
view_effect h n es =
    with_findings
    (with_views (with_prefixes h (stored h.prefixes (front es))) (set h.fronts n (front es)) (set h.lasts n (last_index es)))
    (view_findings h n (front es))
