-- Laws of lists of items, said once for entries and rows: the three laws of a scanning loop, what a list that was read is,
-- and the step of a walk.
-- Assumes nothing.
use Prim.Native.Nat.{ℕ, zero, suc, ◌+◌, ◌-◌, ◌*◌, ◌^◌, ◌≤◌, ◌<◌}
use mathlib.Core.Path.{◌≡◌, refl, ap, sym, ◌∙◌, subst}
use Rattle.std.specs.Prelude.{Result, Err}
use mathlib.Core.List.{List, [], ◌∷◌}
use native.Mathlib.Omega.{arith}
use lib.ListN.{length}
use Rattle.model.specs.Sizes.{Bytes}
use Rattle.model.specs.Refusal.{Refusal}
use Rattle.model.specs.Reading.{Part, got, fault, Reader, onward, return, many}
use Rattle.record_bits.specs.declared.bits.Fault.{Fault}
use Rattle.record_bits.specs.Answers.{refusal_of}
use Rattle.record_entries.specs.Scans.{keyed, ended, end_part}
use Rattle.record_entries.specs.BitLayout.{items_at, end_at, Listed}
use Rattle.record_entries.proofs.Given.{fault≢got, got_same, went}

-- a part of which the key and the end are known
pub record Keyed {A : Type 0} (key : A → ℕ) (p : Part A) (i j : ℕ) : Type 0 where
  pub value : A
  pub part : p ≡ got value j
  pub same : key value ≡ i

pub keyed_is : {A : Type 0} (key : A → ℕ) (p : Part A) {i j : ℕ} → keyed key p ≡ got i j → Keyed key p i j
keyed_is key (got x k) e =
    let q = got_same e in
    record { value = x; part = ap (got x) (sym q.1); same = sym q.0 }
keyed_is key (fault r) e = absurd (fault≢got e)

pub keyed_fault : {A : Type 0} (key : A → ℕ) (p : Part A) {r : Refusal} → keyed key p ≡ fault r → p ≡ fault r
keyed_fault key (got x k) e = absurd (fault≢got (sym e))
keyed_fault key (fault q) e = ap fault (cc)

-- the fault of a list that was scanned
pub end_not : {A : Type 0} (p : Part A) {r : Result ℕ Fault} {f : Fault} → ended p ≡ end_part r → r ≡ Err f
    → p ≡ fault (refusal_of f)
end_not p e q = keyed_fault (λ x. 0) p (e ∙ ap end_part q)

-- the end of a list does not depend on its first item
ended_cons : {A : Type 0} (s : Bytes) (x : A) (p : Part (List A)) → ended (onward s p (λ xs. return (x ∷ xs))) ≡ ended p
ended_cons s x (got xs k) = refl
ended_cons s x (fault r) = refl

-- ---- a loop that scans n items

module _ {A : Type 0} (item : ℕ → Reader A) (key : A → ℕ) (s : Bytes) where
  many_more : (least k i j : ℕ) (n : ℕ) → keyed key (item least s k) ≡ got i j
      → ended (many item key least (suc n) s k) ≡ ended (many item key (i + 1) n s j)
  unfolding many
  many_more least k i j n e =
      let q = keyed_is key (item least s k) e in
      rw q.part (ended_cons s q.value (many item key (key q.value + 1) n s j) ∙ ap (λ (m : ℕ). ended (many item key (m + 1) n s j)) q.same)

  -- none is left
  pub scan_end : {t : Part ℕ} (least k n : ℕ) → t ≡ ended (many item key least n s k) → n ≡ 0 → t ≡ got 0 k
  unfolding many
  scan_end {t = t} least k n e h = subst (λ (n : ℕ). t ≡ ended (many item key least n s k)) h e

  -- the next item is whole, and m are left
  pub scan_next : {t : Part ℕ} (least k n m i j : ℕ) → t ≡ ended (many item key least n s k) → n ≡ suc m
      → keyed key (item least s k) ≡ got i j
      → t ≡ ended (many item key (i + 1) m s j)
  scan_next least k n m i j e h q = rw h at e ∙ many_more least k i j m q

  -- the next item has a fault
  pub scan_stop : {t : Part ℕ} {r : Refusal} (least k n m : ℕ) → t ≡ ended (many item key least n s k) → n ≡ suc m
      → keyed key (item least s k) ≡ fault r
      → t ≡ fault r
  unfolding many
  scan_stop least k n m e h q = rw h at e ∙ rw (keyed_fault key (item least s k) q)

-- ---- what a list that was read is

-- what an item that was read is, and where it ends
pub record ListedAt {A : Type 0} (at : Bytes → ℕ → A) (next : Bytes → ℕ → ℕ) (size : ℕ) (s : Bytes) (k : ℕ) (x : A) (j : ℕ) : Type 0 where
  pub value : x ≡ at s k
  pub end : j ≡ next s k
  pub within : next s k ≤ k + size

module _ {A : Type 0} (item : ℕ → Reader A) (key : A → ℕ) (at : Bytes → ℕ → A) (next : Bytes → ℕ → ℕ) (size : ℕ) (s : Bytes)
    (is : (least k : ℕ) (x : A) (j : ℕ) → item least s k ≡ got x j → ListedAt at next size s k x j) where
  pub record Read (k n : ℕ) (xs : List A) (e : ℕ) : Type 0 where
    pub values : xs ≡ items_at at next s k n
    pub end : e ≡ end_at next s k n

  -- one more item: what was read of it, and of the rest
  pub record More (least k n : ℕ) (xs : List A) (e : ℕ) : Type 0 where
    pub first : item least s k ≡ got (at s k) (next s k)
    pub rest : List A
    pub reads : many item key (key (at s k) + 1) n s (next s k) ≡ got rest e
    pub list : xs ≡ at s k ∷ rest

  more : (least k n : ℕ) {xs : List A} {e : ℕ} → many item key least (suc n) s k ≡ got xs e → More least k n xs e
  unfolding many
  more least k n {e = e} q =
      let g = went s (item least s k) _ q in
      let h = went s (many item key (key g.value + 1) n s g.place) _ g.rest in
      let i = is least k g.value g.place g.first in
      let l = got_same h.rest in
      let v = i.value in
      let p = i.end in
      record {
        first = g.first ∙ (λ d. got (v d) (p d));
        rest = h.value;
        reads = sym (λ d. many item key (key (v d) + 1) n s (p d)) ∙ h.first ∙ ap (got h.value) (sym l.1);
        list = l.0 ∙ ap (λ (x : A). x ∷ h.value) v;
      }

  pub many_is : (least k n : ℕ) {xs : List A} {e : ℕ} → many item key least n s k ≡ got xs e → Read k n xs e
  unfolding many items_at end_at
  many_is least k zero q = let l = got_same q in record { values = l.0; end = l.1 }
  many_is least k (suc n) q =
      let m = more least k n q in
      let r = many_is (key (at s k) + 1) (next s k) n m.reads in
      record { values = m.list ∙ ap (λ (l : List A). at s k ∷ l) r.values; end = r.end }

  -- ---- walks

  -- a list that was read is a walk
  pub walk_read : (least k n : ℕ) {xs : List A} {e : ℕ} → k + size * n ≤ 2 ^ 32
      → many item key least n s k ≡ got xs e → Listed item key at next size s k n
  walk_read least k n h q =
      let r = many_is least k n q in
      let v = r.values in
      let p = r.end in
      record { least = least; near = h; reads = q ∙ (λ d. got (v d) (p d)) }

  -- the first item of a walk
  pub walk_item : (k n : ℕ) (w : Listed item key at next size s k n) → 0 < n
      → item w.least s k ≡ got (at s k) (next s k)
  walk_item k zero w h = absurd (omega arith)
  walk_item k (suc n) w h = (more w.least k n w.reads).first

  -- the walk after it
  pub walk_next : (k n : ℕ) → Listed item key at next size s k n → 0 < n
      → Listed item key at next size s (next s k) (n - 1)
  walk_next k zero w h = absurd (omega arith)
  walk_next k (suc n) w h =
      let m = more w.least k n w.reads in
      let i = is w.least k (at s k) (next s k) m.first in
      let d : suc n - 1 ≡ n = omega arith in
      rw d (walk_read (key (at s k) + 1) (next s k) n (omega (arith, i.within, w.near)) m.reads)

-- ---- the items of a list, with no reader

module _ {A : Type 0} (at : Bytes → ℕ → A) (next : Bytes → ℕ → ℕ) (s : Bytes) where
  pub items_none : (k n : ℕ) → n ≤ 0 → items_at at next s k n ≡ []
  unfolding items_at
  items_none k zero h = refl
  items_none k (suc n) h = absurd (omega arith)

  pub items_next : (k n : ℕ) → 0 < n → items_at at next s k n ≡ at s k ∷ items_at at next s (next s k) (n - 1)
  unfolding items_at
  items_next k zero h = absurd (omega arith)
  items_next k (suc n) h = let d : suc n - 1 ≡ n = omega arith in rw d

  pub items_length : (k n : ℕ) → length (items_at at next s k n) ≡ n
  unfolding items_at
  items_length k zero = refl
  items_length k (suc n) = ap suc (items_length (next s k) n)
