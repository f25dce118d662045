-- The ends of two stored prefixes: the lesser one and which prefix is longer, as they are read and as the model has them.
-- Assumes nothing.
use Prim.Native.Nat.{ℕ, ◌≤◌, min}
use native.Mathlib.Omega.{arith}
use mathlib.Core.Path.{◌≡◌, ◌∙◌, ap}
use lib.Dec.{ltb}
use lib.ListN.{length, take}
use Rattle.model.specs.Entry.{same, agree}
use Rattle.model.specs.History.{History}
use Rattle.model.specs.Sizes.{Bytes, index_limit}
use Rattle.storage.specs.Values.{number_index}
use Rattle.storage.specs.Tables.{prefixes_part}
use Rattle.storage.specs.Head.{prefixes_held}
use Rattle.storage.proofs.Meanings.{Represents, number_length}
use Rattle.storage.proofs.WellFormed.{formed, formed_index}
use Rattle.commit.specs.Committed.{agree_in}
use Rattle.commit.proofs.PrefixLaws.{at, agree_at}
use Rattle.commit.specs.Prefix.{longer_in, end_in}

-- ---- read

module _ (h : Bytes) (a b : ℕ) (q : Bytes) (eq : q ≡ prefixes_part h) (i : ℕ) (ei : i ≡ number_index q a) (j : ℕ) (ej : j ≡ number_index q b) where
  pub longer_is : ltb i j ≡ longer_in h a b
  unfolding longer_in number_index
  longer_is = (λ z. ltb (ei z) (ej z)) ∙ ap (λ (u : Bytes). ltb (number_index u a) (number_index u b)) eq

  pub end_is : min i j ≡ end_in h a b
  unfolding end_in number_index
  end_is = (λ z. min (ei z) (ej z)) ∙ ap (λ (u : Bytes). min (number_index u a) (number_index u b)) eq

-- ---- of bytes that stand for a history

module _ (h : Bytes) (x : History) (s : Represents h x) (c p : ℕ) (lc : c ≤ prefixes_held h) (lp : p ≤ prefixes_held h) where
  pub longer_means : longer_in h c p ≡ ltb (length (at h x s c)) (length (at h x s p))
  unfolding longer_in number_index
  longer_means = λ j. ltb (number_length h x s c lc j) (number_length h x s p lp j)

  pub end_means : end_in h c p ≡ min (length (at h x s c)) (length (at h x s p))
  unfolding end_in number_index
  end_means = λ j. min (number_length h x s c lc j) (number_length h x s p lp j)

  pub agree_means : agree_in h c p (end_in h c p) ≡ agree (at h x s c) (at h x s p)
  unfolding agree
  agree_means =
      let e = end_means in
      agree_at h x s c p lc lp (end_in h c p) (omega arith) (omega arith) ∙ ap (λ (k : ℕ). same (take k (at h x s c)) (take k (at h x s p))) e

  -- an end is an index
  pub end_limit : end_in h c p ≤ index_limit
  end_limit = (let e = end_means in let b = number_length h x s c lc in let d = formed_index h (formed h s.right) c lc in omega arith)
