-- Judging certificates on the bytes of a history, in the order of the walk: what is noted, and whether an index was relevant.
-- Assumes nothing.
use Rattle.std.specs.Prelude.{ℕ, ◌≡◌, Bool, true, cond, not, List, [], ◌∷◌, ◌++◌, eqb}
use Rattle.model.specs.Sizes.{Bytes}
use Rattle.model.specs.History.{Finding}
use Rattle.storage_bytes.specs.Words.{word_at}
use Rattle.storage.specs.Tables.{CertificateRow}
use Rattle.storage.specs.Values.{certificates_of}
use Rattle.storage.specs.Head.{committed_number}
use Rattle.commit.specs.Committed.{agree_in}
use Rattle.log_violation.specs.Violation.{held_all, bytes_all, note_if}
use Rattle.leader_completeness.specs.Relevance.{relevant_in}

-- ---- one certificate

-- "a log that is absent, shorter or different" through index i of the committed prefix
unfoldable pub lacks_through : Bytes → CertificateRow → ℕ → Bool
unfolding agree_in word_at
lacks_through h c i = cond (eqb c.present 0) true (not (agree_in h c.log (committed_number h) i))

-- LG-05 (leader, index, term)
abbrev pub lacking_of : CertificateRow → ℕ → Finding
lacking_of c i = record { name = 5; node = c.leader; index = i; term = c.term }

unfoldable pub lacking_at : Bytes → CertificateRow → ℕ → List Finding
unfolding lacks_through
lacking_at h c i = note_if (lacks_through h c i) (lacking_of c i)

-- what judging the certificate notes
unfoldable pub lacking_in : Bytes → CertificateRow → List Finding
unfolding relevant_in lacking_at
lacking_in h c = cond (eqb (relevant_in h c) 0) [] (lacking_at h c (relevant_in h c))

-- flag 4 is set before it, or by it
unfoldable pub flag_in : Bytes → CertificateRow → ℕ → ℕ
unfolding relevant_in
flag_in h c b = cond (eqb (relevant_in h c) 0) b 4

-- r: it has a relevant index
pub record JudgedAs (h : Bytes) (c : CertificateRow) (t : Bytes) (held : ℕ) (r : Bool) (held' : ℕ) (t' : Bytes) : Type 0 where
  pub flag : (b : ℕ) → cond r 4 b ≡ flag_in h c b
  pub holds : held' ≡ held_all t held (lacking_in h c)
  pub table : t' ≡ bytes_all t held (lacking_in h c)

-- ---- all of them, as they are stored

unfoldable pub lackings_in : Bytes → List CertificateRow → List Finding
unfolding lacking_in
lackings_in h [] = []
lackings_in h (c ∷ cs) = lacking_in h c ++ lackings_in h cs

unfoldable pub flags_in : Bytes → ℕ → List CertificateRow → ℕ
unfolding flag_in
flags_in h b [] = b
flags_in h b (c ∷ cs) = flags_in h (flag_in h c b) cs

-- r: one of them has a relevant index
pub record JudgedAll (h t : Bytes) (held : ℕ) (r : Bool) (held' : ℕ) (t' : Bytes) : Type 0 where
  pub flag : cond r 4 0 ≡ flags_in h 0 (certificates_of h)
  pub holds : held' ≡ held_all t held (lackings_in h (certificates_of h))
  pub table : t' ≡ bytes_all t held (lackings_in h (certificates_of h))
