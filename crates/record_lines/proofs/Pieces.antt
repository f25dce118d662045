-- What a line brings to the recording, from what the writer answered to its numbers.
-- Assumes nothing.
use Prim.Native.Nat.{ℕ}
use mathlib.Core.Path.{◌≡◌, refl, ap, sym, ◌∙◌}
use mathlib.Core.Bool.{false, cond}
use mathlib.Core.List.{List, [], ◌++◌}
use lib.Dec.{eqb}
use lib.ListN.{take, replicate}
use Rattle.std.specs.Prelude.{Option, Result, Ok, Err, OnOk}
use Rattle.std.specs.Io.KnownBytes.{Appends}
use Rattle.std.proofs.KnownBytes.{Appends-nil, Appends-trans}
use Rattle.model.specs.Sizes.{Bytes}
use Rattle.record_bits.specs.declared.bits.Fault.{Fault}
use Rattle.record_writing.specs.Given.{given, record_numbers, kind_number}
use Rattle.record_writing.specs.Writing.{Written, Writes, written, number_of, refusal_in, length_in}
use Rattle.record_writing.specs.declared.write.Refusal.{Refusal}
use Rattle.record_lines.specs.Lines.{piece, piece_of, numbers_piece, line_piece}
use Rattle.record_lines.specs.declared.Line.{Line}

-- two writes, of which the second may fail
pub both_written : {T E : Type 0} (r : Result T E) (a b c : Option (List ℕ)) (xs ys : Bytes) → Appends a b xs
    → OnOk r (Appends b c ys) → OnOk r (Appends a c (xs ++ ys))
both_written (Ok v) a b c xs ys p q = Appends-trans a b c xs ys p q
both_written (Err e) a b c xs ys p q = q

-- nothing written
pub none_written : {T E : Type 0} (r : Result T E) (a : Option (List ℕ)) (xs : Bytes) → xs ≡ [] → OnOk r (Appends a a xs)
none_written (Ok v) a xs e = rw e (Appends-nil a)
none_written (Err f) a xs e = tt

none_kept : numbers_piece [] ≡ []
unfolding numbers_piece written given record_numbers kind_number
none_kept = refl

-- a line without a number
pub empty_line : (l : Line) (fs : List ℕ) → l.unreadable ≡ false → l.count ≡ 0 → line_piece l fs ≡ []
empty_line l fs u e = rw (u, e) none_kept

piece_is : (z : Written) (n : ℕ) (new : Bytes) → z.refusal ≡ 0 → z.length ≡ n → new ≡ z.bytes → piece (take n new) ≡ piece_of z
piece_is z n new e l b = sym (λ i. cond (eqb (e i) 0) (piece (take (l i) (sym b i))) [])

piece_none : (z : Written) → eqb z.refusal 0 ≡ false → piece_of z ≡ []
piece_none z e = rw e

-- a line whose record was written
pub written_line : (l : Line) (fs : List ℕ) (n : ℕ) (new : Bytes) (r : Result ℕ Refusal) → l.unreadable ≡ false
    → Writes (take l.count fs) (replicate 9731 0) r new → r ≡ Ok n → piece (take n new) ≡ line_piece l fs
unfolding numbers_piece
written_line l fs n new r u w e =
    rw u
    (piece_is (written (take l.count fs) (replicate 9731 0)) n new (sym w.refusal ∙ ap (refusal_in number_of) e) (sym w.length ∙ ap length_in e) w.bytes)

some_number : (f : Refusal) → eqb (number_of f) 0 ≡ false
some_number (Refusal.Unreadable Fault.UnknownKind) = refl
some_number (Refusal.Unreadable Fault.BitsMissing) = refl
some_number (Refusal.Unreadable Fault.Filling) = refl
some_number (Refusal.Unreadable Fault.OutOfLimit) = refl
some_number (Refusal.Unreadable Fault.NotAbove) = refl
some_number Refusal.BufferTooShort = refl

-- a line that was refused
pub refused_line : (l : Line) (fs : List ℕ) (f : Refusal) (new : Bytes) (r : Result ℕ Refusal) → l.unreadable ≡ false
    → Writes (take l.count fs) (replicate 9731 0) r new → r ≡ Err f → line_piece l fs ≡ []
unfolding numbers_piece
refused_line l fs f new r u w e =
    rw u
    (piece_none (written (take l.count fs) (replicate 9731 0))
    (ap (λ (k : ℕ). eqb k 0) (sym w.refusal ∙ ap (refusal_in number_of) e) ∙ some_number f))
