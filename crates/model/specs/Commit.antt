-- Document 01, "Commit": a commit record shows a committed prefix, which is kept, compared, or unseen.
-- docs/SCOPE.md, "Commits".
-- Assumes nothing.
use Rattle.std.specs.Prelude.{ℕ, min, Bool, cond, ◌&&◌, List, [], ◌∷◌, leb, ltb, eqb, length, take, set}
use Rattle.std.proofs.Math.Option.{Option, none, some}
use Rattle.model.specs.Sizes.{finding_limit}
use Rattle.model.specs.Entry.{Prefix, agree}
use Rattle.model.specs.Refusal.{Refusal, findingsFull}
use Rattle.model.specs.History.{Finding, History, with_unseen, with_committed, with_findings, front_of, noted}

-- the committed prefix seen: the node's front through the index, where it reaches it. Empty where nothing is seen, at
-- index zero too.
abbrev pub through : Prefix → ℕ → Prefix
through p i = cond (leb i (length p)) (take i p) []

abbrev pub seen : History → ℕ → ℕ → Prefix
seen h n i = through (front_of h n) i

-- the unseen mark: cleared where the front reaches the index, which it does at index zero; else the index
abbrev pub unseen_mark : Prefix → ℕ → ℕ
unseen_mark p i = cond (leb i (length p)) 0 i

-- p is kept in place of c where the two agree through the shorter end and p is longer. So the first is kept, and nothing
-- seen changes nothing.
unfoldable pub replaces : Prefix → Prefix → Bool
unfolding agree
replaces c p = agree c p && ltb (length c) (length p)

-- "a difference adds LG-04 (node, shorter end)"
unfoldable pub differences : ℕ → Prefix → Prefix → List Finding
unfolding agree
differences n c p =
    cond (agree c p) [] (record { name = 4; node = n; index = min (length c) (length p); term = 0 } ∷ [])

unfoldable pub commit_findings : History → ℕ → ℕ → List Finding
unfolding noted differences
commit_findings h n i = noted h.findings (differences n h.committed (seen h n i))

-- 7 when the findings would exceed 128
unfoldable pub commit_refusal : History → ℕ → ℕ → Option Refusal
unfolding commit_findings
commit_refusal h n i = cond (ltb finding_limit (length (commit_findings h n i))) (some findingsFull) none

-- "agreement sets flag 1, and flag 2 if the owner is another node"; the first one kept is compared with nothing
abbrev pub agreement : ℕ → ℕ → Prefix → Prefix → ℕ
agreement n owner [] p = 0
agreement n owner (e ∷ c) [] = 0
agreement n owner (e ∷ c) (f ∷ p) = cond (agree (e ∷ c) (f ∷ p)) (cond (eqb owner n) 1 3) 0

unfoldable pub commit_value : History → ℕ → ℕ → ℕ
unfolding agree
commit_value h n i = agreement n h.owner h.committed (seen h n i)

unfoldable pub commit_effect : History → ℕ → ℕ → History
unfolding replaces commit_findings
commit_effect h n i =
    let kept = replaces h.committed (seen h n i) in
    with_findings
    (with_committed
    (with_unseen h (set h.unseen n (unseen_mark (front_of h n) i)))
    (cond kept (seen h n i) h.committed)
    (cond kept n h.owner))
    (commit_findings h n i)
