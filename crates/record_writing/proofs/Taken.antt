-- A reader that gave something took fields; the same reader over another source gives the same wherever that source has these
-- fields. Here: which fields a reader takes, and how those of a chain of readers follow one another.
-- Assumes nothing.
use Prim.Native.Nat.{ℕ, zero, suc, ◌+◌}
use mathlib.Core.Path.{◌≡◌, refl, ap, sym, ◌∙◌}
use mathlib.Core.Bool.{Bool, true, false, cond}
use mathlib.Core.List.{List, [], ◌∷◌, ◌++◌}
use lib.ListN.{length}
use Rattle.std.proofs.lemmas.List.{append-nil}
use Rattle.model.specs.Sizes.{Bytes}
use Rattle.model.specs.Refusal.{Refusal}
use Rattle.model.specs.Reading.{Part, got, Reader, onward, ◌>>=◌, return, require, many}
use Rattle.record_entries.proofs.Given.{fault≢got, got_same, went}
use Rattle.record_writing.specs.Spans.{Span, all_spans}

-- a source of fields: how it reads a field of w bits
abbrev pub Source : Type 0
Source = ℕ → Reader ℕ

-- the source has a field at a place, and then the rest
pub record First (p : Source) (s : Bytes) (x : Span) (k : ℕ) (rest : ℕ → Type 0) : Type 0 where
  pub place : ℕ
  pub read : p x.width s k ≡ got x.value place
  pub then : rest place

-- the source has these fields, one after the other, from place k up to place j
abbrev pub Takes : Source → Bytes → List Span → ℕ → ℕ → Type 0
Takes p s [] k j = k ≡ j
Takes p s (x ∷ xs) k j = First p s x k (λ i. Takes p s xs i j)

-- two runs of fields that follow one another
pub record Both (p : Source) (s : Bytes) (xs ys : List Span) (k j : ℕ) : Type 0 where
  pub place : ℕ
  pub before : Takes p s xs k place
  pub after : Takes p s ys place j

pub takes_append : (p : Source) (s : Bytes) (xs ys : List Span) (k i j : ℕ) → Takes p s xs k i → Takes p s ys i j
    → Takes p s (xs ++ ys) k j
takes_append p s [] ys k i j a b = rw a b
takes_append p s (x ∷ xs) ys k i j a b =
    record { place = a.place; read = a.read; then = takes_append p s xs ys a.place i j a.then b }

pub takes_both : (p : Source) (s : Bytes) (xs ys : List Span) (k j : ℕ) → Takes p s (xs ++ ys) k j → Both p s xs ys k j
takes_both p s [] ys k j a = record { place = k; before = refl; after = a }
takes_both p s (x ∷ xs) ys k j a =
    let b = takes_both p s xs ys a.place j a.then in
    record { place = b.place; before = record { place = a.place; read = a.read; then = b.before }; after = b.after }

-- ---- a reader over the source p, and the same over q

module _ (p q : Source) where
  -- what the reader over p took, what holds of it, and that the one over q gives the same where q has these fields
  pub record Taken {A : Type 0} (P : A → List Span → Type 0) (other : Reader A) (s : Bytes) (k : ℕ) (a : A) (j : ℕ) : Type 0 where
    pub spans : List Span
    pub took : Takes p s spans k j
    pub holds : P a spans
    pub again : (u : Bytes) (i l : ℕ) → Takes q u spans i l → other u i ≡ got a l

  abbrev pub Same : {A : Type 0} → (A → List Span → Type 0) → Reader A → Reader A → Type 0
  Same {A = A} P reader other = (s : Bytes) (k : ℕ) (a : A) (j : ℕ) → reader s k ≡ got a j → Taken P other s k a j

  pub same_bind : {A B : Type 0} {P : A → List Span → Type 0} {Q : B → List Span → Type 0} {m n : Reader A} {f g : A → Reader B}
      → Same P m n → ((a : A) (xs : List Span) → P a xs → Same (λ b ys. Q b (xs ++ ys)) (f a) (g a))
      → Same Q (m >>= f) (n >>= g)
  same_bind {m = m} {n = n} {f = f} {g = g} h l s k b j e =
      let w = went s (m s k) f e in
      let a = h s k w.value w.place w.first in
      let c = l w.value a.spans a.holds s w.place b j w.rest in
      record {
        spans = a.spans ++ c.spans;
        took = takes_append p s a.spans c.spans k w.place j a.took c.took;
        holds = c.holds;
        again = λ u i o t.
            let d = takes_both q u a.spans c.spans i o t in
            ap (λ (r : Part _). onward u r g) (a.again u i d.place d.before) ∙ c.again u d.place o d.after;
      }

  pub same_return : {A : Type 0} {P : A → List Span → Type 0} {a : A} → P a [] → Same P (return a) (return a)
  same_return {P = P} {a = a} h s k b j e =
      let v = got_same e in
      record { spans = []; took = sym v.1; holds = rw v.0 h; again = λ u i l t. λ d. got (sym v.0 d) (t d) }

  pub same_require : {A : Type 0} {P : A → List Span → Type 0} (b : Bool) (r : Refusal) (a : A) → (b ≡ true → P a [])
      → Same P (require b r a) (require b r a)
  same_require true r a h = same_return (h refl)
  same_require false r a h = λ s k b j e. absurd (fault≢got e)

  pub same_cond : {A : Type 0} {P : A → List Span → Type 0} (b : Bool) {m n f g : Reader A} → (b ≡ true → Same P m n)
      → (b ≡ false → Same P f g)
      → Same P (cond b m f) (cond b n g)
  same_cond true h l = h refl
  same_cond false h l = l refl

  pub same_weaker : {A : Type 0} {P Q : A → List Span → Type 0} {m n : Reader A} → Same P m n
      → ((a : A) (xs : List Span) → P a xs → Q a xs) → Same Q m n
  same_weaker h l s k a j e = let t = h s k a j e in record { spans = t.spans; took = t.took; holds = l a t.spans t.holds; again = t.again }

  -- items that follow one another, each with its own fields
  pub same_many : {A : Type 0} (f : A → List Span) (item other : ℕ → Reader A) (key : A → ℕ)
      → ((least : ℕ) → Same (λ x xs. xs ≡ f x) (item least) (other least))
      → (least n : ℕ) → Same (λ as' xs. (xs ≡ all_spans f as') × (length as' ≡ n)) (many item key least n) (many other key least n)
  unfolding many all_spans
  same_many f item other key h least zero = same_return (refl, refl)
  same_many f item other key h least (suc n) =
      same_bind (h least) (λ x xs e.
      same_bind (same_many f item other key h (key x + 1) n) (λ l ys g.
      same_return ((λ d. e d ++ (append-nil ys ∙ g.0) d), ap suc g.1)))
