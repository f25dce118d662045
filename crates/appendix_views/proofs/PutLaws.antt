-- A record is put entry by entry: none yet, one more, all.
-- Assumes nothing.
use Prim.Native.Nat.{ℕ, zero, suc, ◌+◌, ◌-◌, ◌*◌, ◌≤◌, ◌<◌}
use native.Mathlib.Omega.{arith}
use mathlib.Core.Path.{◌≡◌, refl, sym, ◌∙◌, ap, subst}
use mathlib.Core.Bool.{Bool, true, false}
use mathlib.Core.List.{[], ◌∷◌, ◌++◌, append-nil, append_assoc}
use lib.Dec.{ltb}
use lib.ListN.{length}
use Rattle.model.specs.Sizes.{Bytes}
use Rattle.model.specs.Entry.{Entry}
use Rattle.model.proofs.Tests.{cond_cases}
use Rattle.sheet_lines.specs.Filled.{Filled}
use Rattle.sheet_lines.specs.declared.decimal.Sheet.{Sheet}
use Rattle.sheet_lines.proofs.PutLaws.{filled_then, filled_as}
use Rattle.appendix_views.specs.Views.{content_of, entry_of}
use Rattle.appendix_views.specs.Counted.{place_of, digit, choice, counted, view_at}
use Rattle.appendix_views.specs.Recorded.{entry_bytes, entries_bytes, record_bytes, record_room}
use Rattle.appendix_views.specs.declared.views.Listed.{Listed}
use Rattle.appendix_views.specs.declared.views.View.{View as Place}

-- ---- an entry

-- its index and term, and its content length and content
abbrev front : ℕ → ℕ → Bytes
front i t = 4 * i ∷ 0 ∷ 0 ∷ 0 ∷ 4 * t ∷ []

abbrev rest : Bool → Bytes
rest b = 16 * length (content_of b) ∷ content_of b

abbrev whole : ℕ → ℕ → Bool → Bytes
whole i t b = entry_bytes (record { index = i; entry = record { term = t; configuration = false; content = content_of b } })

module _ {s s' s'' : Sheet} (i t : ℕ) (b : Bool) where
  pub entry_filled : b ≡ true → Filled 5 s (front i t) s' → Filled 2 s' (16 ∷ 0 ∷ []) s'' → Filled 7 s (whole i t b) s''
  entry_filled e p q = filled_as (filled_then p q) (whole i t b) (ap (λ (x : Bool). front i t ++ rest x) (sym e)) (omega arith)

  pub entry_empty : b ≡ false → Filled 5 s (front i t) s' → Filled 1 s' (0 ∷ []) s'' → Filled 7 s (whole i t b) s''
  entry_empty e p q = filled_as (filled_then p q) (whole i t b) (ap (λ (x : Bool). front i t ++ rest x) (sym e)) (omega arith)

-- ---- a view

-- of the node's view, so far its first i entries are put into a sheet, and those left make the record whole
pub record Entered (s : Sheet) (node : ℕ) (v : Place) (i : ℕ) (s' : Sheet) : Type 0 where
  pub bytes : Bytes
  pub filled : Filled (3 + 7 * i) s bytes s'
  pub whole : bytes ++ entries_bytes (counted (i + 1) v.number (v.count - i)) ≡ record_bytes node (counted 1 v.number v.count)
  pub within : (i ≤ v.count) × (v.count ≤ 3)

counted_length : (i k n : ℕ) → length (counted i k n) ≡ n
unfolding counted
counted_length i k zero = refl
counted_length i k (suc n) = ap suc (counted_length (i + 1) k n)

pub three_at_most : (n : ℕ) → (place_of n).count ≤ 3
three_at_most n =
    cond_cases (λ (p : Place). p.count ≤ 3) (ltb n 1) _ _ (λ _. omega arith)
    (λ _. cond_cases (λ (p : Place). p.count ≤ 3) (ltb n 5) _ _ (λ _. omega arith)
    (λ _. cond_cases (λ (p : Place). p.count ≤ 3) (ltb n 21) _ _ (λ _. omega arith) (λ _. omega arith)))

pub term_small : (e : Listed) (d : ℕ) → entry_of e ≡ choice d → e.term ≤ 2
term_small e d q =
    subst (λ (x : Entry). x.term ≤ 2) (sym q) (cond_cases (λ (t : ℕ). t ≤ 2) (ltb d 2) 1 2 (λ _. omega arith) (λ _. omega arith))

module _ {s : Sheet} (node : ℕ) where
  pub entered_none : {s' : Sheet} (v : Place) → v.count ≤ 3 → Filled 3 s (16 ∷ 64 * node ∷ 16 * v.count ∷ []) s'
      → Entered s node v 0 s'
  entered_none v small p =
      let l = sym (counted_length 1 v.number v.count) in
      let all : v.count - 0 ≡ v.count = omega arith in
      record {
        bytes = 16 ∷ 64 * node ∷ 16 * v.count ∷ [];
        filled = filled_as p _ refl (omega arith);
        whole =
            ap (λ (k : ℕ). 16 ∷ 64 * node ∷ 16 * v.count ∷ entries_bytes (counted 1 v.number k)) all
            ∙ ap (λ (c : ℕ). 16 ∷ 64 * node ∷ 16 * c ∷ entries_bytes (counted 1 v.number v.count)) l;
        within = (omega arith, small);
      }

  pub entered_room : {s' : Sheet} (v : Place) (i : ℕ) → Entered s node v i s' → i < v.count
      → s.end + record_room ≤ length s.out.now → s'.end + 7 ≤ length s'.out.now
  entered_room v i e h room =
      let f = e.filled in let w = e.within in
      let a = f.put.next in let b = f.put.within in let c = f.kept in omega arith

  pub entered_next : {s' s'' : Sheet} (v : Place) (i : ℕ) (e : Listed) → Entered s node v i s' → i < v.count
      → entry_of e ≡ choice (digit v.number (v.count - (i + 1)))
      → Filled 7 s' (entry_bytes (record { index = i + 1; entry = entry_of e })) s'' → Entered s node v (i + 1) s''
  unfolding counted entries_bytes
  entered_next v i e before h is p =
      let more = entry_bytes (record { index = i + 1; entry = entry_of e }) in
      let left = v.count - (i + 1) in
      let behind = entries_bytes (counted (i + 1 + 1) v.number left) in
      let one : v.count - i ≡ suc left = omega arith in
      record {
        bytes = before.bytes ++ more;
        filled = filled_as (filled_then before.filled p) _ refl (omega arith);
        whole =
            append_assoc before.bytes more behind
            ∙ ap (λ (x : Entry). before.bytes ++ (entry_bytes (record { index = i + 1; entry = x }) ++ behind)) is
            ∙ ap (λ (k : ℕ). before.bytes ++ entries_bytes (counted (i + 1) v.number k)) (sym one)
            ∙ before.whole;
        within = (omega arith, before.within.1);
      }

  pub entered_all : {s' : Sheet} (v : Place) (i n : ℕ) → v ≡ place_of n → Entered s node v i s' → v.count ≤ i
      → Filled record_room s (record_bytes node (view_at n)) s'
  unfolding counted entries_bytes
  entered_all v i n is e h =
      let w = e.within in
      let none : v.count - i ≡ 0 = omega arith in
      filled_as e.filled _
      (sym (append-nil e.bytes)
      ∙ ap (λ (k : ℕ). e.bytes ++ entries_bytes (counted (i + 1) v.number k)) (sym none)
      ∙ e.whole
      ∙ ap (λ (p : Place). record_bytes node (counted 1 p.number p.count)) is)
      (omega arith)
