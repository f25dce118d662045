-- Document 01, "Commit terms": the list of commit terms, and the marks that a late term lowers.
-- docs/SCOPE.md, "Commit terms".
-- Assumes nothing.
use Rattle.std.specs.Prelude.{ℕ, ◌+◌, ◌-◌, Bool, cond, ◌&&◌, ◌||◌, List, [], ◌∷◌, ◌++◌, map, leb, ltb, eqb, length, replicate}
use Rattle.std.proofs.Math.Option.{Option, none, some}
use Rattle.model.specs.Refusal.{Refusal, old_exceeds_new}
use Rattle.model.specs.History.{Certificate, History, with_terms, with_certificates}

-- "the list is lengthened with zeros to new"
unfoldable pub lengthened : ℕ → List ℕ → List ℕ
lengthened new ts = ts ++ replicate (new - length ts) 0

-- "a nonzero term replaces each place from old+1 to new that is zero or greater": whether place i, which holds x, changes
unfoldable pub changes : ℕ → ℕ → ℕ → ℕ → ℕ → Bool
changes old new t i x = ltb old i && leb i new && ltb 0 t && (eqb x 0 || ltb t x)

-- the places from i on, each with the term or as it was
unfoldable pub replaced_from : ℕ → ℕ → ℕ → ℕ → List ℕ → List ℕ
unfolding changes
replaced_from old new t i [] = []
replaced_from old new t i (x ∷ xs) = cond (changes old new t i x) t x ∷ replaced_from old new t (i + 1) xs

unfoldable pub recorded : ℕ → ℕ → ℕ → List ℕ → List ℕ
unfolding lengthened replaced_from
recorded old new t ts = replaced_from old new t 1 (lengthened new ts)

-- the first changed index of the places from i on, 0 where none changed
unfoldable pub first_from : ℕ → ℕ → ℕ → ℕ → List ℕ → ℕ
unfolding changes
first_from old new t i [] = 0
first_from old new t i (x ∷ xs) = cond (changes old new t i x) i (first_from old new t (i + 1) xs)

unfoldable pub first_changed : ℕ → ℕ → ℕ → List ℕ → ℕ
unfolding lengthened first_from
first_changed old new t ts = first_from old new t 1 (lengthened new ts)

abbrev pub with_mark : Certificate → ℕ → Certificate
with_mark c m = record { leader = c.leader; term = c.term; number = c.number; log = c.log; mark = m }

-- "every certificate with a greater term whose checked mark is at or past the first changed index has it set to one less
-- than that index"
unfoldable pub lowered : ℕ → ℕ → Certificate → Certificate
lowered t first c = cond (ltb 0 first && ltb t c.term && leb first c.mark) (with_mark c (first - 1)) c

-- 8 when old exceeds new
abbrev pub terms_refusal : ℕ → ℕ → Option Refusal
terms_refusal old new = cond (ltb new old) (some old_exceeds_new) none

unfoldable pub terms_effect : History → ℕ → ℕ → ℕ → History
unfolding recorded first_changed lowered
terms_effect h old new t =
    with_certificates
    (with_terms h (recorded old new t h.terms))
    (map (lowered t (first_changed old new t h.terms)) h.certificates)
