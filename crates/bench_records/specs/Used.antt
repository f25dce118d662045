-- What the functions under the benchmark answer of a record.
-- Assumes nothing.
use Rattle.std.specs.Prelude.{ℕ, ◌+◌, List, [], ◌∷◌, length}
use Rattle.model.specs.Record.{Shown, view, commit, terms, election, check, rows, leader}
use Rattle.model.specs.Reading.{Reading, readable, unreadable}

unfoldable pub sum_of : List ℕ → ℕ
sum_of [] = 0
sum_of (x ∷ xs) = x + sum_of xs

-- the sum of all content bytes
unfoldable pub contents_of : List Shown → ℕ
unfolding sum_of
contents_of [] = 0
contents_of (e ∷ es) = sum_of e.entry.content + contents_of es

-- a number of a view's entries; 0 of any other record
abbrev pub of_view : (List Shown → ℕ) → Reading → ℕ
of_view f (readable (view n es)) = f es
of_view f (readable (commit n i)) = 0
of_view f (readable (terms o n t)) = 0
of_view f (readable (election l t p n)) = 0
of_view f (readable check) = 0
of_view f (readable (rows rs)) = 0
of_view f (readable (leader n t)) = 0
of_view f (unreadable r) = 0

abbrev pub count_of : Reading → ℕ
count_of r = of_view length r

abbrev pub used_of : Reading → ℕ
used_of r = of_view contents_of r
