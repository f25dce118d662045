-- Commit terms on the bytes of a history, in the order of the code: the list lengthened, the first changed index found, each place
-- from there on replaced, marks lowered. The term of index k + 1 is in place k.
-- Assumes nothing.
use Rattle.std.specs.Prelude.{ℕ, zero, suc, ◌+◌, ◌-◌, ◌*◌, Bool, cond, ◌&&◌, ◌||◌, ltb, eqb}
use Rattle.model.specs.Sizes.{Bytes}
use Rattle.storage_bytes.specs.Words.{word_at, word_bytes, put_bytes}
use Rattle.storage_bytes.specs.Layout.{terms_start, term_width}
use Rattle.storage.specs.Tables.{term_row, terms_part}
use Rattle.storage.specs.Writes.{terms_lengthened}
use Rattle.storage.specs.Head.{terms_held, certificates_held}
use Rattle.election_certificates.specs.Marks.{lower_back}
use Rattle.answers.specs.declared.answer.Refusal.{Refusal}
use Rattle.answers.specs.Step.{Step, accepting, refusing}

-- the list with zeros to new, where it is shorter
unfoldable pub lengthened_to : Bytes → ℕ → Bytes
unfolding terms_lengthened word_at
lengthened_to h new = cond (ltb (terms_held h) new) (terms_lengthened h new) h

-- the term of index k + 1
abbrev pub term_in : Bytes → ℕ → ℕ
term_in h k = term_row (terms_part h) k

-- a nonzero term t replaces x, which is zero or greater
unfoldable pub is_replaced : ℕ → ℕ → Bool
is_replaced t x = ltb 0 t && (eqb x 0 || ltb t x)

-- the first of the n indexes after k whose place t replaces, 0 where there is none
unfoldable pub first_replaced : (ℕ → ℕ) → ℕ → ℕ → ℕ → ℕ
unfolding is_replaced
first_replaced row t k zero = 0
first_replaced row t k (suc n) = cond (is_replaced t (row k)) (k + 1) (first_replaced row t (k + 1) n)

unfoldable pub replace_bytes : Bytes → ℕ → ℕ → Bytes
unfolding is_replaced put_bytes
replace_bytes h k t = cond (is_replaced t (term_in h k)) (put_bytes h (terms_start + k * term_width) (word_bytes term_width t)) h

-- n places, from that of index k + 1 on
unfoldable pub replace_all : Bytes → ℕ → ℕ → ℕ → Bytes
unfolding replace_bytes
replace_all h t k zero = h
replace_all h t k (suc n) = replace_all (replace_bytes h k t) t (k + 1) n

-- ---- the whole

-- where there is a first changed index, the places from it to new replaced and the marks lowered
unfoldable pub changed_from : Bytes → ℕ → ℕ → ℕ → Bytes
unfolding replace_all lower_back word_at
changed_from h new t first =
    cond (eqb first 0) h (lower_back (replace_all h t (first - 1) (new + 1 - first)) t first (certificates_held h))

unfoldable pub record_bytes : Bytes → ℕ → ℕ → ℕ → Bytes
unfolding lengthened_to first_replaced changed_from
record_bytes h old new t =
    let u = lengthened_to h new in
    changed_from u new t (first_replaced (term_row (terms_part u)) t old (new - old))

-- 8 leaves every byte
unfoldable pub terms_step : Bytes → ℕ → ℕ → ℕ → Step
unfolding record_bytes
terms_step h old new t = cond (ltb new old) (refusing Refusal.OldExceedsNew h) (accepting 0 (record_bytes h old new t))
