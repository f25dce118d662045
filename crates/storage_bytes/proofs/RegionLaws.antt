-- Laws of what follows one another: of any list of lengths, the places of two do not meet. So a write in one leaves every other as it
-- was, and what was written is read back.
-- Assumes nothing.
use Prim.Native.Nat.{ℕ, zero, suc, ◌+◌, ◌≤◌, ◌<◌}
use native.Mathlib.Nat.{not-suc-le-zero, le_of_suc-le-suc}
use native.Mathlib.Decide.{dec_lt}
use native.Mathlib.Omega.{arith}
use mathlib.Core.Logic.{⊎_elim}
use mathlib.Core.Path.{◌≡◌, ap, sym, ◌∙◌}
use mathlib.Core.Bool.{cond}
use mathlib.Core.List.{List, [], ◌∷◌}
use lib.Dec.{eqb}
use lib.ListN.{length}
use borrow.Author.Tests.{eqb-true, eqb-false}
use Rattle.model.specs.Sizes.{Bytes}
use Rattle.model.proofs.Tests.{either, cond_true, cond_false}
use Rattle.storage_bytes.specs.Words.{Fits, word_at, word_bytes, put_bytes}
use Rattle.storage_bytes.specs.Layout.{start_in, length_in, part}
use Rattle.storage_bytes.proofs.WordLaws.{word_agree, word_bytes_length, put_before, put_after, word_set}
use Rattle.storage_bytes.proofs.PartLaws.{part_put_same, part_put_before, part_put_after}

-- one before another ends where that starts, at the latest
before : (ns : List ℕ) (j k : ℕ) → j < k → start_in ns j + length_in ns j ≤ start_in ns k
before [] j k l = omega arith
before (n ∷ ns) j zero l = absurd (not-suc-le-zero l)
before (n ∷ ns) zero (suc k) l = omega arith
before (n ∷ ns) (suc j) (suc k) l = omega (arith, before ns j k (le_of_suc-le-suc l))

-- each lies within the whole
pub within : (ns : List ℕ) (k : ℕ) → start_in ns k + length_in ns k ≤ start_in ns (length ns)
within [] k = omega arith
within (n ∷ ns) zero = omega arith
within (n ∷ ns) (suc k) = omega (arith, within ns k)

-- a number other than the one written
pub number_other : (ns : List ℕ) (h : Bytes) (k v j : ℕ) → (j ≡ k → ⊥)
    → word_at (put_bytes h (start_in ns k) (word_bytes (length_in ns k) v)) (start_in ns j) (length_in ns j)
    ≡ word_at h (start_in ns j) (length_in ns j)
number_other ns h k v j ne =
    let w = word_bytes (length_in ns k) v in
    word_agree (put_bytes h (start_in ns k) w) h (start_in ns j) (length_in ns j)
    (λ i a b. elim (dec_lt j k) [
      | yes l ↦ put_before h (start_in ns k) w i (omega (arith, before ns j k l))
      | no l ↦
          let g : k < j = omega (arith, ne) in
          put_after h (start_in ns k) w i (omega (arith, before ns k j g, word_bytes_length (length_in ns k) v))
    ])

module _ (ns : List ℕ) (h : Bytes) (long : start_in ns (length ns) ≤ length h) where
  -- ---- as bytes: the j-th part, where the bytes vs are written in the k-th from its o-th on

  abbrev pub place : ℕ → Bytes
  place j = part h (start_in ns j) (length_in ns j)

  module _ (k o : ℕ) (vs : Bytes) (fits : o + length vs ≤ length_in ns k) where
    abbrev written : Bytes
    written = put_bytes h (start_in ns k + o) vs

    other : (j : ℕ) → (j ≡ k → ⊥) → part written (start_in ns j) (length_in ns j) ≡ place j
    other j ne =
        let w = within ns j in
        elim (dec_lt j k) [
          | yes l ↦ part_put_before h (start_in ns j) (length_in ns j) (start_in ns k + o) vs (omega arith) (omega (arith, before ns j k l))
          | no l ↦
              let g : k < j = omega (arith, ne) in
              part_put_after h (start_in ns j) (length_in ns j) (start_in ns k + o) vs (omega arith) (omega (arith, before ns k j g))
        ]

    own : part written (start_in ns k) (length_in ns k) ≡ put_bytes (place k) o vs
    own = let w = within ns k in part_put_same h (start_in ns k) (length_in ns k) o vs (omega arith) fits

    pub put_place : (j : ℕ) → part written (start_in ns j) (length_in ns j) ≡ cond (eqb j k) (put_bytes (place j) o vs) (place j)
    put_place j =
        ⊎_elim
        (λ t.
        let e : j ≡ k = eqb-true j k t in
        ap (λ (i : ℕ). part written (start_in ns i) (length_in ns i)) e
        ∙ own
        ∙ ap (λ (i : ℕ). put_bytes (place i) o vs) (sym e)
        ∙ sym (cond_true (eqb j k) (put_bytes (place j) o vs) (place j) t))
        (λ f. other j (eqb-false j k f) ∙ sym (cond_false (eqb j k) (put_bytes (place j) o vs) (place j) f))
        (either (eqb j k))

  -- ---- as numbers: the j-th, where the k-th is written

  module _ (k v : ℕ) (fits : Fits (length_in ns k) v) where
    abbrev numbered : Bytes
    numbered = put_bytes h (start_in ns k) (word_bytes (length_in ns k) v)

    number_own : word_at numbered (start_in ns k) (length_in ns k) ≡ v
    number_own =
        let w = within ns k in
        let l = word_bytes_length (length_in ns k) v in
        word_set h (start_in ns k) (length_in ns k) v fits (omega arith)

    pub put_number : (j : ℕ) → word_at numbered (start_in ns j) (length_in ns j) ≡ cond (eqb j k) v (word_at h (start_in ns j) (length_in ns j))
    put_number j =
        ⊎_elim
        (λ t.
        ap (λ (i : ℕ). word_at numbered (start_in ns i) (length_in ns i)) (eqb-true j k t)
        ∙ number_own
        ∙ sym (cond_true (eqb j k) v (word_at h (start_in ns j) (length_in ns j)) t))
        (λ f. number_other ns h k v j (eqb-false j k f) ∙ sym (cond_false (eqb j k) v (word_at h (start_in ns j) (length_in ns j)) f))
        (either (eqb j k))
