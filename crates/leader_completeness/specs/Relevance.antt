-- A certificate's relevant index on the bytes of a history, in the order of the loop: from the end back to the mark.
-- Assumes nothing.
use Rattle.std.specs.Prelude.{ℕ, zero, suc, min, cond, ltb}
use Rattle.model.specs.Sizes.{Bytes}
use Rattle.model.specs.Check.{is_earlier}
use Rattle.storage_bytes.specs.Words.{word_at}
use Rattle.storage.specs.Tables.{CertificateRow, term_row, terms_part}
use Rattle.storage.specs.Values.{committed_end}
use Rattle.storage.specs.Head.{terms_held}

-- the last of the indexes up to the given one that is after the mark and has a term earlier than t, 0 where none has. The term of
-- index k + 1 is `row k`.
unfoldable pub last_relevant : (ℕ → ℕ) → ℕ → ℕ → ℕ → ℕ
last_relevant row mark t zero = 0
last_relevant row mark t (suc k) =
    cond (ltb mark (suc k)) (cond (is_earlier (row k) t) (suc k) (last_relevant row mark t k)) 0

-- the last committed index with a recorded term: an absent one is not relevant
unfoldable pub recorded_end : Bytes → ℕ
unfolding committed_end word_at
recorded_end h = min (committed_end h) (terms_held h)

-- the certificate's relevant index, 0 where it has none
unfoldable pub relevant_in : Bytes → CertificateRow → ℕ
unfolding last_relevant recorded_end word_at
relevant_in h c = last_relevant (term_row (terms_part h)) c.mark c.term (recorded_end h)
