-- From what the model's readers gave to what stands in the bytes: each field that was read is within the record, is the
-- number of its bits, and is within its limit.
-- Assumes nothing.
use Prim.Native.Nat.{ℕ, ◌+◌, ◌-◌, ◌*◌, ◌^◌, ◌≤◌, ◌<◌}
use mathlib.Core.Path.{◌≡◌, refl, ap, sym, ◌∙◌, subst}
use mathlib.Core.Bool.{Bool, true, false, cond}
use mathlib.Core.List.{List}
use native.Mathlib.Nat.{add_assoc, add-zero}
use native.Mathlib.Omega.{arith}
use borrow.Author.Tests.{leb-true, ltb-true}
use lib.ListN.{length}
use lib.Dec.{leb, ltb, eqb}
use Rattle.model.specs.Sizes.{Bytes}
use Rattle.model.specs.Refusal.{Refusal, bitsMissing, outOfLimit, notAbove}
use Rattle.model.specs.Record.{Shown, Configuration, Row}
use Rattle.model.specs.Reading.{field_at, bytes_at, Part, got, fault, Reader, onward, require, return, field, limited, governed, yes_no, content, entry_index, row_node, mark, shown, configuration, row}
use Rattle.record_bits.proofs.Widths.{field_lt}
use Rattle.record_entries.specs.BitLayout.{ViewBits, bits_of, mark_width, length_place, content_place, index_at, term_at, mark_at, length_at, content_at, next_at, shown_at, configuration_at, row_at, after_row}

-- ---- chains

pub fault≢got : {A : Type 0} {r : Refusal} {a : A} {k : ℕ} → ◌≡◌ {A = Part A} (fault r) (got a k) → ⊥
fault≢got e = let z : ◌≡◌ {A = ℕ} 0 1 = cc in omega arith

pub got_same : {A : Type 0} {a b : A} {k j : ℕ} → ◌≡◌ {A = Part A} (got a k) (got b j) → (b ≡ a) × (j ≡ k)
got_same e = (cc, cc)

-- a chain that gave something: what its first reader gave, and its rest from there
pub record Went {A B : Type 0} (s : Bytes) (p : Part A) (f : A → Reader B) (b : B) (j : ℕ) : Type 0 where
  pub value : A
  pub place : ℕ
  pub first : p ≡ got value place
  pub rest : f value s place ≡ got b j

pub went : {A B : Type 0} (s : Bytes) (p : Part A) (f : A → Reader B) {b : B} {j : ℕ} → onward s p f ≡ got b j
    → Went s p f b j
went s (got a k) f e = record { value = a; place = k; first = refl; rest = e }
went s (fault r) f e = absurd (fault≢got e)

-- the same, for a chain of many readers: what each gave stands as a variable for the rest
after : {A B : Type 0} {G : Type 0} (s : Bytes) (p : Part A) (f : A → Reader B) {b : B} {j : ℕ} → onward s p f ≡ got b j
    → ((a : A) (k : ℕ) → p ≡ got a k → f a s k ≡ got b j → G) → G
after s (got a k) f e g = g a k refl e
after s (fault r) f e g = absurd (fault≢got e)

pub record Required {A : Type 0} (t : Bool) (a b : A) (k j : ℕ) : Type 0 where
  pub test : t ≡ true
  pub same : a ≡ b
  pub next : k ≡ j

pub required : {A : Type 0} (t : Bool) (r : Refusal) (a : A) (k : ℕ) {b : A} {j : ℕ}
    → cond {A = Part A} t (got a k) (fault r) ≡ got b j → Required t a b k j
required true r a k e = record { test = refl; same = cc; next = cc }
required false r a k e = absurd (fault≢got e)

-- ---- fields

pub record Field (s : Bytes) (k w v j : ℕ) : Type 0 where
  pub whole : k + w ≤ 8 * length s
  pub value : v ≡ field_at s k w
  pub next : j ≡ k + w

pub record Limited (s : Bytes) (k w m v j : ℕ) : Type 0 where
  pub field : Field s k w v j
  pub within : v ≤ m

same_field : {s : Bytes} {k w a b i j : ℕ} → Field s k w a i → a ≡ b → i ≡ j → Field s k w b j
same_field f p q = record { whole = f.whole; value = sym p ∙ f.value; next = sym q ∙ f.next }

-- a place b bits after one that is a bits after k
further : (k : ℕ) {i j : ℕ} (a b : ℕ) → j ≡ i + b → i ≡ k + a → j ≡ k + (a + b)
further k a b p q = p ∙ ap (λ (i : ℕ). i + b) q ∙ add_assoc k a b

module _ (s : Bytes) (k : ℕ) where
  pub field_is : (w : ℕ) {v j : ℕ} → field w s k ≡ got v j → Field s k w v j
  unfolding field
  field_is w e =
      let q = required (leb (k + w) (8 * length s)) bitsMissing (field_at s k w) (k + w) e in
      record { whole = leb-true _ _ q.test; value = sym q.same; next = sym q.next }

  pub field_below : (w : ℕ) {v j : ℕ} → field w s k ≡ got v j → v < 2 ^ w
  field_below w e = rw (field_is w e).value (field_lt s k w)

  pub limited_is : (w m : ℕ) {v j : ℕ} → limited w m s k ≡ got v j → Limited s k w m v j
  unfolding limited
  limited_is w m e =
      let g = went s (field w s k) (λ v. require (leb v m) outOfLimit v) e in
      let q = required (leb g.value m) outOfLimit g.value g.place g.rest in
      record {
        field = same_field (field_is w g.first) q.same q.next;
        within = omega (arith, leb-true g.value m q.test, q.same);
      }

  pub governed_is : (p : Bool) (w m : ℕ) {v j : ℕ} → governed p w m s k ≡ got v j → Field s k w v j
  unfolding governed
  governed_is p w m e = (limited_is w (cond p m 0) e).field

  pub governed_within : (p : Bool) (w m : ℕ) {v j : ℕ} → governed p w m s k ≡ got v j → v ≤ m
  unfolding governed
  governed_within true w m e = (limited_is w m e).within
  governed_within false w m e = omega (arith, (limited_is w 0 e).within)

  -- zero where absent
  pub governed_bare : (p : Bool) (w m : ℕ) {v j : ℕ} → governed p w m s k ≡ got v j → p ≡ false → v ≡ 0
  unfolding governed
  governed_bare true w m e z = absurd (let y : ◌≡◌ {A = ℕ} 0 1 = cc in omega arith)
  governed_bare false w m e z = omega (arith, (limited_is w 0 e).within)

  -- a yes/no
  pub record Flagged (p : Bool) (j : ℕ) : Type 0 where
    pub whole : k + 1 ≤ 8 * length s
    pub value : p ≡ eqb (field_at s k 1) 1
    pub next : j ≡ k + 1

  pub yes_no_is : {p : Bool} {j : ℕ} → yes_no s k ≡ got p j → Flagged p j
  unfolding yes_no
  yes_no_is e =
      let g = went s (field 1 s k) (λ v. return (eqb v 1)) e in
      let f = field_is 1 g.first in
      let p = ap (λ (v : ℕ). eqb v 1) f.value in
      record { whole = f.whole; value = (got_same g.rest).0 ∙ p; next = (got_same g.rest).1 ∙ f.next }

  -- an entry's index
  pub record EntryIndex (least v j : ℕ) : Type 0 where
    pub limited : Limited s k 10 256 v j
    pub positive : 0 < v
    pub above : least ≤ v

  pub entry_index_is : (least : ℕ) {v j : ℕ} → entry_index least s k ≡ got v j → EntryIndex least v j
  unfolding entry_index
  entry_index_is least e =
      let g = went s (limited 10 256 s k) (λ i s k. onward s (require (ltb 0 i) outOfLimit i s k) (λ i. require (leb least i) notAbove i)) e in
      let h = went s (require (ltb 0 g.value) outOfLimit g.value s g.place) (λ i. require (leb least i) notAbove i) g.rest in
      let p = required (ltb 0 g.value) outOfLimit g.value g.place h.first in
      let q = required (leb least h.value) notAbove h.value h.place h.rest in
      let l = limited_is 10 256 g.first in
      record {
        limited = record { field = same_field l.field (p.same ∙ q.same) (p.next ∙ q.next); within = omega (arith, l.within, p.same, q.same) };
        positive = omega (arith, ltb-true 0 g.value p.test, p.same, q.same);
        above = omega (arith, leb-true least h.value q.test, q.same);
      }

  -- a row's node
  pub record RowNode (least v j : ℕ) : Type 0 where
    pub field : Field s k 6 v j
    pub above : least ≤ v

  pub row_node_is : (least : ℕ) {v j : ℕ} → row_node least s k ≡ got v j → RowNode least v j
  unfolding row_node
  row_node_is least e =
      let g = went s (field 6 s k) (λ n. require (leb least n) notAbove n) e in
      let q = required (leb least g.value) notAbove g.value g.place g.rest in
      record {
        field = same_field (field_is 6 g.first) q.same q.next;
        above = omega (arith, leb-true least g.value q.test, q.same);
      }

  -- content
  pub record Content (n : ℕ) (bs : List ℕ) (j : ℕ) : Type 0 where
    pub whole : k + 8 * n ≤ 8 * length s
    pub value : bs ≡ bytes_at s k n
    pub next : j ≡ k + 8 * n

  pub content_is : (n : ℕ) {bs : List ℕ} {j : ℕ} → content n s k ≡ got bs j → Content n bs j
  unfolding content
  content_is n e =
      let q = required (leb (k + 8 * n) (8 * length s)) bitsMissing (bytes_at s k n) (k + 8 * n) e in
      record { whole = leb-true _ _ q.test; value = sym q.same; next = sym q.next }

-- ---- an entry

-- a mark, and where it ends
pub record Marked (m : Bool) (s : Bytes) (k : ℕ) (b : Bool) (j : ℕ) : Type 0 where
  pub value : b ≡ cond m (eqb (field_at s k 1) 1) false
  pub next : j ≡ k + mark_width m

pub mark_is : (m : Bool) (s : Bytes) (k : ℕ) {b : Bool} {j : ℕ} → mark m s k ≡ got b j → Marked m s k b j
unfolding mark
mark_is true s k e = let f = yes_no_is s k e in record { value = f.value; next = f.next }
mark_is false s k e = let q = got_same e in record { value = q.0; next = q.1 ∙ sym (add-zero k) }

pub mark_small : (m : Bool) → mark_width m ≤ 1
mark_small true = omega arith
mark_small false = omega arith

-- an entry that was read, with all that is known of it
pub record Entered (v : ViewBits) (least k : ℕ) (x : Shown) (j : ℕ) : Type 0 where
  pub value : x ≡ shown_at v k
  pub next : j ≡ next_at v k
  pub positive : 0 < index_at v k
  pub within : index_at v k ≤ 256
  pub above : least ≤ index_at v k
  pub short : length_at v k ≤ 32
  pub whole : next_at v k ≤ 8 * length v.bytes

pub shown_is : (m : Bool) (s : Bytes) (least k : ℕ) {x : Shown} {j : ℕ} → shown m least s k ≡ got x j
    → Entered (bits_of s m) least k x j
unfolding shown
shown_is m s least k e =
    after s (entry_index least s k) _ e (λ a₁ k₁ r₁ e₁.
    after s (field 32 s k₁) _ e₁ (λ a₂ k₂ r₂ e₂.
    after s (mark m s k₂) _ e₂ (λ a₃ k₃ r₃ e₃.
    after s (limited 6 32 s k₃) _ e₃ (λ a₄ k₄ r₄ e₄.
    after s (content a₄ s k₄) _ e₄ (λ a₅ k₅ r₅ e₅.
    let v = bits_of s m in
    let i = entry_index_is s k least r₁ in
    let t = field_is s k₁ 32 r₂ in
    let y = mark_is m s k₂ r₃ in
    let n = limited_is s k₃ 6 32 r₄ in
    let c = content_is s k₄ a₄ r₅ in
    let p₁ = i.limited.field.next in
    let p₂ : k₂ ≡ k + 42 = further k 10 32 t.next p₁ in
    let p₃ : k₃ ≡ k + length_place m = further k 42 (mark_width m) y.next p₂ in
    let w : length_place m + 6 ≡ content_place m = omega arith in
    let p₄ : k₄ ≡ k + content_place m = further k (length_place m) 6 n.field.next p₃ ∙ ap (λ (a : ℕ). k + a) w in
    let v₁ = i.limited.field.value in
    let v₂ : a₂ ≡ term_at v k = t.value ∙ ap (λ (a : ℕ). field_at s a 32) p₁ in
    let v₃ : a₃ ≡ mark_at v k = y.value ∙ ap (λ (a : ℕ). cond m (eqb (field_at s a 1) 1) false) p₂ in
    let v₄ : a₄ ≡ length_at v k = n.field.value ∙ ap (λ (a : ℕ). field_at s a 6) p₃ in
    let v₅ : a₅ ≡ content_at v k = c.value ∙ (λ i. bytes_at s (p₄ i) (v₄ i)) in
    let p₅ : k₅ ≡ next_at v k = c.next ∙ (λ i. p₄ i + 8 * v₄ i) in
    record {
      value =
          (got_same e₅).0
          ∙ (λ i. record { index = v₁ i; entry = record { term = v₂ i; configuration = v₃ i; content = v₅ i } });
      next = (got_same e₅).1 ∙ p₅;
      positive = subst (λ (a : ℕ). 0 < a) v₁ i.positive;
      within = subst (λ (a : ℕ). a ≤ 256) v₁ i.limited.within;
      above = subst (λ (a : ℕ). least ≤ a) v₁ i.above;
      short = subst (λ (a : ℕ). a ≤ 32) v₄ n.within;
      whole = subst (λ (j : ℕ). j ≤ 8 * length s) (λ i. p₄ i + 8 * v₄ i) c.whole;
    })))))

-- ---- a row

-- an absent configuration has zeros
abbrev pub Bare : Configuration → Type 0
Bare c = c.present ≡ false → (c.index ≡ 0) × (c.identity ≡ 0)

pub record Configured (s : Bytes) (k : ℕ) (x : Configuration) (j : ℕ) : Type 0 where
  pub value : x ≡ configuration_at s k
  pub bare : Bare (configuration_at s k)
  pub next : j ≡ k + 43
  pub whole : k + 43 ≤ 8 * length s

pub configuration_is : (s : Bytes) (k : ℕ) {x : Configuration} {j : ℕ} → configuration s k ≡ got x j
    → Configured s k x j
unfolding configuration
configuration_is s k e =
    after s (yes_no s k) _ e (λ a₁ k₁ r₁ e₁.
    after s (governed a₁ 10 256 s k₁) _ e₁ (λ a₂ k₂ r₂ e₂.
    after s (governed a₁ 32 (2 ^ 32 - 1) s k₂) _ e₂ (λ a₃ k₃ r₃ e₃.
    let p = yes_no_is s k r₁ in
    let i = governed_is s k₁ a₁ 10 256 r₂ in
    let d = governed_is s k₂ a₁ 32 (2 ^ 32 - 1) r₃ in
    let p₁ = p.next in
    let p₂ : k₂ ≡ k + 11 = further k 1 10 i.next p₁ in
    let p₃ : k₃ ≡ k + 43 = further k 11 32 d.next p₂ in
    let v₁ = p.value in
    let v₂ = i.value ∙ ap (λ (a : ℕ). field_at s a 10) p₁ in
    let v₃ = d.value ∙ ap (λ (a : ℕ). field_at s a 32) p₂ in
    let v : record { present = a₁; index = a₂; identity = a₃ } ≡ configuration_at s k = λ i. record { present = v₁ i; index = v₂ i; identity = v₃ i } in
    record {
      value = (got_same e₃).0 ∙ v;
      bare = subst Bare v (λ z. (governed_bare s k₁ a₁ 10 256 r₂ z, governed_bare s k₂ a₁ 32 (2 ^ 32 - 1) r₃ z));
      next = (got_same e₃).1 ∙ p₃;
      whole = subst (λ (j : ℕ). j ≤ 8 * length s) (sym d.next ∙ p₃) d.whole;
    })))

-- a row that was read
pub record Rowed (s : Bytes) (least k : ℕ) (x : Row) (j : ℕ) : Type 0 where
  pub value : x ≡ row_at s k
  pub next : j ≡ after_row s k
  pub above : least ≤ field_at s k 6
  pub floor : Bare (configuration_at s (k + 36))
  pub actual : Bare (configuration_at s (k + 79))
  pub whole : after_row s k ≤ 8 * length s

pub row_is : (s : Bytes) (least k : ℕ) {x : Row} {j : ℕ} → row least s k ≡ got x j → Rowed s least k x j
unfolding row
row_is s least k e =
    after s (row_node least s k) _ e (λ a₁ k₁ r₁ e₁.
    after s (limited 10 256 s k₁) _ e₁ (λ a₂ k₂ r₂ e₂.
    after s (limited 10 256 s k₂) _ e₂ (λ a₃ k₃ r₃ e₃.
    after s (limited 10 256 s k₃) _ e₃ (λ a₄ k₄ r₄ e₄.
    after s (configuration s k₄) _ e₄ (λ a₅ k₅ r₅ e₅.
    after s (configuration s k₅) _ e₅ (λ a₆ k₆ r₆ e₆.
    let n = row_node_is s k least r₁ in
    let f = (limited_is s k₁ 10 256 r₂).field in
    let c = (limited_is s k₂ 10 256 r₃).field in
    let l = (limited_is s k₃ 10 256 r₄).field in
    let fc = configuration_is s k₄ r₅ in
    let ac = configuration_is s k₅ r₆ in
    let p₁ = n.field.next in
    let p₂ : k₂ ≡ k + 16 = further k 6 10 f.next p₁ in
    let p₃ : k₃ ≡ k + 26 = further k 16 10 c.next p₂ in
    let p₄ : k₄ ≡ k + 36 = further k 26 10 l.next p₃ in
    let p₅ : k₅ ≡ k + 79 = further k 36 43 fc.next p₄ in
    let p₆ : k₆ ≡ after_row s k = further k 79 43 ac.next p₅ in
    let v₁ = n.field.value in
    let v₂ = f.value ∙ ap (λ (a : ℕ). field_at s a 10) p₁ in
    let v₃ = c.value ∙ ap (λ (a : ℕ). field_at s a 10) p₂ in
    let v₄ = l.value ∙ ap (λ (a : ℕ). field_at s a 10) p₃ in
    let v₅ = fc.value ∙ ap (configuration_at s) p₄ in
    let v₆ = ac.value ∙ ap (configuration_at s) p₅ in
    record {
      value =
          (got_same e₆).0
          ∙ (λ i. record { node = v₁ i; floor = v₂ i; commit = v₃ i; last = v₄ i; floor_configuration = v₅ i; actual_configuration = v₆ i });
      next = (got_same e₆).1 ∙ p₆;
      above = subst (λ (a : ℕ). least ≤ a) v₁ n.above;
      floor = subst (λ (a : ℕ). Bare (configuration_at s a)) p₄ fc.bare;
      actual = subst (λ (a : ℕ). Bare (configuration_at s a)) p₅ ac.bare;
      whole = subst (λ (j : ℕ). j ≤ 8 * length s) (sym ac.next ∙ p₆) ac.whole;
    }))))))
