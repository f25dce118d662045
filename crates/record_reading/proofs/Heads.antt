-- Laws of the whole record: its last test, and the way back from an answer to the model's.
-- Assumes nothing.
use Prim.Native.Nat.{ℕ, ◌+◌, ◌≤◌}
use Rattle.std.specs.Prelude.{Option, Some, None, is_some, unwrap_or, Result, Ok, Err, IsErrAnd}
use Rattle.std.specs.Bool.{then_some}
use native.Mathlib.Omega.{arith}
use mathlib.Core.Path.{◌≡◌, refl, ap, sym, ◌∙◌}
use mathlib.Core.Bool.{Bool, true, false, cond}
use Rattle.model.specs.Sizes.{Bytes, index_limit}
use Rattle.model.specs.Refusal.{filling}
use Rattle.model.specs.Record.{Record, election}
use Rattle.model.specs.Reading.{Reader, Part, field, limited, governed, yes_no, readable, unreadable, got, filled, finish}
use Rattle.units.specs.declared.NodeId.{NodeId}
use Rattle.units.specs.declared.LogIndex.{LogIndex}
use Rattle.units.specs.declared.Term.{Term}
use Rattle.record_bits.specs.declared.bits.Fault.{Fault}
use Rattle.record_reading.specs.declared.head.Head.{Head}
use Rattle.record_bits.specs.Answers.{refusal_of, part_of, unit_part}
use Rattle.record_entries.specs.BitLayout.{is_marked, shown_in, next_in, row_at, after_row, first_entry, first_row}
use Rattle.record_reading.specs.Heads.{reading_of, finished, head_of, fault_of}
use Rattle.record_entries.proofs.Listed.{items_length}

-- the last test of a record is the code's
pub finish_head : (s : Bytes) (r : Record) (k : ℕ) (h : Head) → readable r ≡ reading_of s (Ok h)
    → finish s (got r k) ≡ reading_of s (finished s k h)
finish_head s r k h e = go (filled s k)
  where
    go : (b : Bool) → cond b (readable r) (unreadable filling) ≡ reading_of s (cond b (Ok h) (Err Fault.Filling))
    go true = e
    go false = refl

fault_back : (f : Fault) → f ≡ fault_of (refusal_of f)
fault_back Fault.UnknownKind = refl
fault_back Fault.BitsMissing = refl
fault_back Fault.Filling = refl
fault_back Fault.OutOfLimit = refl
fault_back Fault.NotAbove = refl

option_back : (o : Option ℕ) → o ≡ then_some (is_some o) (unwrap_or o 0)
option_back None = refl
option_back (Some n) = refl

-- an answer that stands for what the model reads is the model's
pub head_back : (s : Bytes) (r : Result Head Fault) → r ≡ head_of (reading_of s r)
head_back s (Ok (Head.View n c)) = ap (λ (c : ℕ). Ok (Head.View n c)) (sym (items_length (shown_in (is_marked s)) (next_in (is_marked s)) s first_entry c))
head_back s (Ok (Head.Commit n i)) = refl
head_back s (Ok (Head.Terms x)) = refl
head_back s (Ok (Head.Election x)) = ap (λ (n : Option ℕ). Ok (Head.Election (record { leader = x.leader; term = x.term; length = n }))) (option_back x.length)
head_back s (Ok Head.Check) = refl
head_back s (Ok (Head.Rows c)) = ap (λ (c : ℕ). Ok (Head.Rows c)) (sym (items_length row_at after_row s first_row c))
head_back s (Ok (Head.Leader x)) = refl
head_back s (Err f) = ap (λ (f : Fault). Err f) (fault_back f)

-- what a reader took at bit j of b, said of bit k of s
module _ (s : Bytes) (k : ℕ) {b : Bytes} {j : ℕ} where
  taken : {A X : Type 0} (read : Reader X) (part : Result A Fault → ℕ → Part X) (w : ℕ) {r q : Result A Fault}
      → read b j ≡ part r (j + w) → r ≡ q → b ≡ s → j ≡ k → read s k ≡ part q (k + w)
  taken read part w h e f g = rw (← e, ← f, ← g) h

  pub node_taken : {r q : Result NodeId Fault} → field 6 b j ≡ unit_part (λ n. n.0) r (j + 6) → r ≡ q → b ≡ s → j ≡ k
      → field 6 s k ≡ unit_part (λ n. n.0) q (k + 6)
  node_taken = taken (field 6) (unit_part (λ n. n.0)) 6

  pub index_taken : {r q : Result LogIndex Fault} → limited 10 index_limit b j ≡ unit_part (λ i. i.0) r (j + 10) → r ≡ q → b ≡ s → j ≡ k
      → limited 10 index_limit s k ≡ unit_part (λ i. i.0) q (k + 10)
  index_taken = taken (limited 10 index_limit) (unit_part (λ i. i.0)) 10

  pub term_taken : {r q : Result Term Fault} → field 32 b j ≡ unit_part (λ t. t.0) r (j + 32) → r ≡ q → b ≡ s → j ≡ k
      → field 32 s k ≡ unit_part (λ t. t.0) q (k + 32)
  term_taken = taken (field 32) (unit_part (λ t. t.0)) 32

  pub count_taken : {r q : Result ℕ Fault} → limited 10 index_limit b j ≡ part_of r (j + 10) → r ≡ q → b ≡ s → j ≡ k → limited 10 index_limit s k ≡ part_of q (k + 10)
  count_taken = taken (limited 10 index_limit) part_of 10

  pub yes_no_taken : {r q : Result Bool Fault} → yes_no b j ≡ part_of r (j + 1) → r ≡ q → b ≡ s → j ≡ k → yes_no s k ≡ part_of q (k + 1)
  yes_no_taken = taken yes_no part_of 1

  pub length_taken : (p : Bool) {r q : Result ℕ Fault} → governed p 10 index_limit b j ≡ part_of r (j + 10) → r ≡ q → b ≡ s → j ≡ k
      → governed p 10 index_limit s k ≡ part_of q (k + 10)
  length_taken p = taken (governed p 10 index_limit) part_of 10

-- an absent log has length zero, so an Option keeps both
pub kept_length : (l t : ℕ) (p : Bool) (n : ℕ) → n ≤ cond p index_limit 0 → (o : Option ℕ) → o ≡ then_some p n
    → readable (election l t p n) ≡ readable (election l t (is_some o) (unwrap_or o 0))
kept_length l t true n h o e = sym (ap (λ (x : Option ℕ). readable (election l t (is_some x) (unwrap_or x 0))) e)
kept_length l t false n h o e =
    ap (λ (m : ℕ). readable (election l t false m)) (let z : n ≡ 0 = omega arith in z)
    ∙ sym (ap (λ (x : Option ℕ). readable (election l t (is_some x) (unwrap_or x 0))) e)

-- a fault that a reader's answer hands on
pub fault_read : (s : Bytes) (f : Fault) (r : Result Head Fault) → IsErrAnd r (λ g. g ≡ f) → unreadable (refusal_of f) ≡ reading_of s r
fault_read s f (Ok h) e = absurd e
fault_read s f (Err g) e = ap (λ (f : Fault). unreadable (refusal_of f)) (sym e)
