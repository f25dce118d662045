-- The head of a history is its first bytes: a number of it is read alike in the head and in the whole, and what a write leaves.
-- Assumes nothing.
use Prim.Native.Nat.{ℕ, ◌≤◌}
use native.Mathlib.Nat.{zero-add}
use native.Mathlib.Omega.{arith}
use mathlib.Core.Path.{◌≡◌, ap, ◌∙◌}
use lib.ListN.{length}
use Rattle.model.specs.Sizes.{Bytes}
use Rattle.storage_bytes.specs.Words.{word_at, word_bytes, put_bytes}
use Rattle.storage_bytes.specs.Layout.{start_in, length_in, head_fields, head_start, head_length}
use Rattle.storage.specs.Tables.{head_part}
use Rattle.storage.specs.Head.{head_field, put_head_field}
use Rattle.storage_bytes.proofs.WordLaws.{put_length, word_before}
use Rattle.storage_bytes.proofs.PartLaws.{word_part}
use Rattle.storage_bytes.proofs.RegionLaws.{within, number_other}

-- a number of the head is read alike in the head and in the whole
pub head_read : (h : Bytes) (k : ℕ) → head_field k (head_part h) ≡ head_field k h
head_read h k =
    word_part h head_start head_length (start_in head_fields k) (length_in head_fields k) (within head_fields k)
    ∙ ap (λ (o : ℕ). word_at h o (length_in head_fields k)) (zero-add (start_in head_fields k))

-- what a write leaves: the length, every other number of the head, and all of them where it is behind the head
pub head_kept : (k : ℕ) (h : Bytes) (v : ℕ) → length (put_head_field k h v) ≡ length h
head_kept k h v = put_length h (start_in head_fields k) (word_bytes (length_in head_fields k) v)

pub head_other : (h : Bytes) (k v j : ℕ) → (j ≡ k → ⊥) → head_field j (put_head_field k h v) ≡ head_field j h
head_other h k v j ne = number_other head_fields h k v j ne

pub head_before : (h : Bytes) (o : ℕ) (vs : Bytes) (j : ℕ) → head_length ≤ o → head_field j (put_bytes h o vs) ≡ head_field j h
head_before h o vs j l = word_before h o vs (start_in head_fields j) (length_in head_fields j) (omega (arith, within head_fields j))
