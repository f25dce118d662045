-- An extension found or made: its number, how many prefixes are stored, and the bytes; and what `extend` answers.
-- Assumes nothing.
use Prim.Native.Nat.{ℕ, ◌+◌, ◌≤◌}
use native.Mathlib.Omega.{arith}
use mathlib.Core.Path.{◌≡◌, refl, sym, ◌∙◌, ap, subst}
use mathlib.Core.Bool.{true, false, cond}
use mathlib.Core.List.{List, [], ◌∷◌}
use lib.Dec.{eqb}
use lib.ListN.{length}
use borrow.Author.Tests.{eq-eqb, ne_eqb, eqb-true, eqb-false}
use Rattle.model.specs.Sizes.{Bytes}
use Rattle.model.specs.Entry.{Entry}
use Rattle.model.proofs.Tests.{cond_cases, cond_true, cond_false}
use Rattle.record_entries.specs.declared.walk.ShownEntry.{ShownEntry}
use Rattle.storage_bytes.specs.Words.{bytes_at}
use Rattle.storage.specs.Tables.{prefix_row, prefixes_part}
use Rattle.storage.specs.Values.{number_index}
use Rattle.storage.specs.Writes.{prefix_appended}
use Rattle.storage_bytes.proofs.ListLaws.{tabulate_length}
use Rattle.log_prefix.specs.Table.{entry_value}
use Rattle.log_prefix.specs.Prefix.{witness, stored_of, row_of, find}
use Rattle.log_prefix.proofs.StoredLaws.{stored_number, stored_nothing}
use Rattle.units.specs.declared.LogPrefixWitness.{LogPrefixWitness}
use Rattle.log_prefix.specs.Extension.{extension_in, appended, extended_bytes, extended_count, extended_number, extended, next_index, extension, extension_bytes, Making, Extending, written_bytes, written_count, written_number}
use Rattle.log_prefix.specs.declared.prefix.Extended.{Extended}
use Rattle.std.specs.Prelude.{Option, Some, None}

pub value_length : (e : ShownEntry) → length (entry_value e).content ≡ e.length
unfolding bytes_at
value_length e = tabulate_length _ 0 e.length

-- ---- found or made

module _ (h : Bytes) (n p : ℕ) (e : Entry) where
  pub number_found : eqb (extension_in h n p e) 0 ≡ false → extended_number h n p e ≡ extension_in h n p e
  unfolding extended_number
  number_found f = cond_false (eqb (extension_in h n p e) 0) (n + 1) (extension_in h n p e) f

  pub number_made : eqb (extension_in h n p e) 0 ≡ true → extended_number h n p e ≡ n + 1
  unfolding extended_number
  number_made t = cond_true (eqb (extension_in h n p e) 0) (n + 1) (extension_in h n p e) t

  pub count_found : eqb (extension_in h n p e) 0 ≡ false → extended_count h n p e ≡ n
  unfolding extended_count
  count_found f = cond_false (eqb (extension_in h n p e) 0) (n + 1) n f

  pub count_made : eqb (extension_in h n p e) 0 ≡ true → extended_count h n p e ≡ n + 1
  unfolding extended_count
  count_made t = cond_true (eqb (extension_in h n p e) 0) (n + 1) n t

pub bytes_found : (h : Bytes) (n p i : ℕ) (e : Entry) → eqb (extension_in h n p e) 0 ≡ false → extended_bytes h n p i e ≡ h
unfolding extended_bytes
bytes_found h n p i e f = cond_false (eqb (extension_in h n p e) 0) (appended h p i e) h f

pub bytes_made : (h : Bytes) (n p i : ℕ) (e : Entry) → eqb (extension_in h n p e) 0 ≡ true → extended_bytes h n p i e ≡ appended h p i e
unfolding extended_bytes
bytes_made h n p i e t = cond_true (eqb (extension_in h n p e) 0) (appended h p i e) h t

-- the row that is written is the entry's
pub row_made : (h h' : Bytes) (n p : ℕ) (e : ShownEntry) → Making h n e → h' ≡ prefix_appended h p e.index.0 e.term.0 (cond e.configuration 1 0) e.length e.content
    → h' ≡ appended h p e.index.0 (entry_value e)
row_made h h' n p e g w =
    let a = sym (value_length e) in
    let b = g.padded in
    w ∙ (λ j. prefix_appended h p e.index.0 e.term.0 (cond e.configuration 1 0) (a j) (b j))

-- what the extension of p by e comes to
abbrev Lengthened : Bytes → ℕ → ℕ → ShownEntry → Extended → Bytes → Type 0
Lengthened h n p e y h' = (y ≡ extended h n p (entry_value e)) × (h' ≡ extended_bytes h n p e.index.0 (entry_value e))

module _ (h : Bytes) (n p : ℕ) (e : ShownEntry) (q : Bytes) (eq : q ≡ prefixes_part h) (r : Option LogPrefixWitness) (er : r ≡ stored_of (find (prefix_row q) n (row_of p 0 (entry_value e)))) where
  extension_is : r ≡ stored_of (extension_in h n p (entry_value e))
  unfolding extension_in
  extension_is = er ∙ ap (λ (t : Bytes). stored_of (find (prefix_row t) n (row_of p 0 (entry_value e)))) eq

  pub extend_found : (w : LogPrefixWitness) → r ≡ Some w → Lengthened h n p e (Extended.Found w) h
  extend_found w z =
      let s = stored_number (extension_in h n p (entry_value e)) r extension_is w z in
      let f = ne_eqb (extension_in h n p (entry_value e)) 0 s.1 in (
        ap (λ (k : ℕ). Extended.Found (witness k)) s.0 ∙ sym (cond_false (eqb (extension_in h n p (entry_value e)) 0) (Extended.Made (witness (n + 1))) _ f),
        sym (bytes_found h n p e.index.0 (entry_value e) f),
      )

  module _ (z : r ≡ None) where
    nowhere : eqb (extension_in h n p (entry_value e)) 0 ≡ true
    nowhere = eq-eqb (extension_in h n p (entry_value e)) 0 (stored_nothing (extension_in h n p (entry_value e)) r extension_is z)

    pub extend_making : Extending h n p e → e.index.0 ≡ next_index h p → Making h n e
    extend_making g i =
        let m = g.room i in
        let c = count_made h n p (entry_value e) nowhere in
        record { count = g.count; room = omega arith; padded = g.padded }

    pub extend_made : (w : LogPrefixWitness) (h' : Bytes) → (w ≡ witness (n + 1)) × (h' ≡ appended h p e.index.0 (entry_value e))
        → Lengthened h n p e (Extended.Made w) h'
    extend_made w h' a = (
      ap (λ (x : LogPrefixWitness). Extended.Made x) a.0 ∙ sym (cond_true (eqb (extension_in h n p (entry_value e)) 0) _ (Extended.Found (witness (extension_in h n p (entry_value e)))) nowhere),
      a.1 ∙ sym (bytes_made h n p e.index.0 (entry_value e) nowhere),
    )

-- ---- an entry of the next index, and any other

-- the end that was read, and the index after it
pub next_read : (h q : Bytes) (p i : ℕ) → q ≡ prefixes_part h → i ≡ number_index q p → i + 1 ≡ next_index h p
next_read h q p i eq ei = ap (λ (m : ℕ). m + 1) (ei ∙ ap (λ (t : Bytes). number_index t p) eq)

module _ (h : Bytes) (n p : ℕ) (e : ShownEntry) where
  abbrev Answered : Extended → Bytes → Type 0
  Answered r h' = (r ≡ extension h n p e) × (h' ≡ extension_bytes h n p e)

  pub extends_next : e.index.0 ≡ next_index h p → (x : Extended) (h' : Bytes) → Lengthened h n p e x h' → Answered x h'
  unfolding extension extension_bytes
  extends_next i x h' a =
      let t = eq-eqb e.index.0 (next_index h p) i in (
        a.0 ∙ sym (cond_true (eqb e.index.0 (next_index h p)) (extended h n p (entry_value e)) Extended.NotNext t),
        a.1 ∙ sym (cond_true (eqb e.index.0 (next_index h p)) (extended_bytes h n p e.index.0 (entry_value e)) h t),
      )

  pub extends_none : (e.index.0 ≡ next_index h p → ⊥) → Answered Extended.NotNext h
  unfolding extension extension_bytes
  extends_none o =
      let f = ne_eqb e.index.0 (next_index h p) o in (
        sym (cond_false (eqb e.index.0 (next_index h p)) (extended h n p (entry_value e)) Extended.NotNext f),
        sym (cond_false (eqb e.index.0 (next_index h p)) (extended_bytes h n p e.index.0 (entry_value e)) h f),
      )

  -- ---- what an answer tells

  -- the prefix w is the extension, c prefixes are stored with it, and the history is h'
  pub record Longer (w : LogPrefixWitness) (c : ℕ) (h' : Bytes) : Type 0 where
    pub index : e.index.0 ≡ next_index h p
    pub number : w.0 ≡ extended_number h n p (entry_value e)
    pub count : c ≡ extended_count h n p (entry_value e)
    pub bytes : h' ≡ extended_bytes h n p e.index.0 (entry_value e)

  abbrev Tells : Bytes → Extended → Type 0
  Tells h' (Extended.Found w) = Longer w n h'
  Tells h' (Extended.Made w) = Longer w (n + 1) h'
  Tells h' Extended.NotNext = (e.index.0 ≡ next_index h p → ⊥) × (h' ≡ h)

  longer_tells : e.index.0 ≡ next_index h p → (h' : Bytes) → h' ≡ extended_bytes h n p e.index.0 (entry_value e) → Tells h' (extended h n p (entry_value e))
  longer_tells i h' b =
      cond_cases (Tells h') (eqb (extension_in h n p (entry_value e)) 0) (Extended.Made (witness (n + 1))) (Extended.Found (witness (extension_in h n p (entry_value e))))
      (λ t. record { index = i; number = sym (number_made h n p (entry_value e) t); count = sym (count_made h n p (entry_value e) t); bytes = b })
      (λ f. record { index = i; number = sym (number_found h n p (entry_value e) f); count = sym (count_found h n p (entry_value e) f); bytes = b })

  pub answer_tells : (r : Extended) (h' : Bytes) → Answered r h' → Tells h' r
  unfolding extension extension_bytes
  answer_tells r h' a =
      subst (Tells h') (sym a.0)
      (cond_cases (Tells h') (eqb e.index.0 (next_index h p)) (extended h n p (entry_value e)) Extended.NotNext
      (λ t.
      longer_tells (eqb-true e.index.0 (next_index h p) t) h'
      (a.1 ∙ cond_true (eqb e.index.0 (next_index h p)) (extended_bytes h n p e.index.0 (entry_value e)) h t))
      (λ f.
      (eqb-false e.index.0 (next_index h p) f, a.1 ∙ cond_false (eqb e.index.0 (next_index h p)) (extended_bytes h n p e.index.0 (entry_value e)) h f)))

count_grows_one : (h : Bytes) (n p : ℕ) (e : Entry) → n ≤ extended_count h n p e
unfolding extended_count
count_grows_one h n p e = cond_cases (λ (m : ℕ). n ≤ m) (eqb (extension_in h n p e) 0) (n + 1) n (λ _. omega arith) (λ _. omega arith)

pub count_grows : (es : List Entry) (h : Bytes) (n p i : ℕ) → n ≤ written_count h n p i es
unfolding written_count
count_grows [] h n p i = omega arith
count_grows (e ∷ es) h n p i =
    let a = count_grows_one h n p e in
    let b = count_grows es (extended_bytes h n p i e) (extended_count h n p e) (extended_number h n p e) (i + 1) in
    omega arith

pub written_cons : (h : Bytes) (n p i : ℕ) (e : Entry) (es : List Entry)
    → (written_bytes h n p i (e ∷ es) ≡ written_bytes (extended_bytes h n p i e) (extended_count h n p e) (extended_number h n p e) (i + 1) es)
    × (written_count h n p i (e ∷ es) ≡ written_count (extended_bytes h n p i e) (extended_count h n p e) (extended_number h n p e) (i + 1) es)
    × (written_number h n p i (e ∷ es) ≡ written_number (extended_bytes h n p i e) (extended_count h n p e) (extended_number h n p e) (i + 1) es)
unfolding written_bytes written_count written_number
written_cons h n p i e es = (refl, refl, refl)
