-- A line is the digits of its record and its end; the lines of the views so far are none yet, one more, all.
-- Assumes nothing.
use Prim.Native.Nat.{ℕ, ◌+◌, ◌*◌, ◌≤◌}
use native.Mathlib.Omega.{arith}
use mathlib.Core.Path.{◌≡◌, sym, ◌∙◌, ap, subst}
use mathlib.Core.List.{List, [], ◌∷◌, ◌++◌, map, append-nil, append_assoc}
use mathlib.Core.Logic.{◌↔◌}
use lib.ListN.{length, take}
use lib.Seq.{take-append-le, take_all}
use Rattle.std.specs.Prelude.{Option, Result, Ok, Err, IsOk, OnOk}
use Rattle.std.specs.List.{range_with_len}
use Rattle.std.specs.Io.KnownBytes.{Appends}
use Rattle.std.proofs.KnownBytes.{Appends-nil, Appends-trans}
use Rattle.std.proofs.lemmas.List.FromFn.{map-range_with_len_more}
use Rattle.std.proofs.lemmas.Result.{on_ok_weaker}
use Rattle.hex.specs.Hex.{encode_lower, lower_digits}
use Rattle.hex.specs.declared.error.FromHexError.{FromHexError}
use Rattle.hex.proofs.HexLemmas.{length-encode_with}
use Rattle.model.specs.Sizes.{Bytes}
use Rattle.model.proofs.Tests.{tf}
use Rattle.sheet_lines.specs.Filled.{Filled}
use Rattle.sheet_lines.specs.declared.decimal.Sheet.{Sheet}
use Rattle.sheet_lines.proofs.PutLaws.{sheet_holds}
use Rattle.appendix_views.specs.Views.{View, view_count}
use Rattle.appendix_views.specs.Counted.{view_at}
use Rattle.appendix_views.proofs.CountLaws.{all_counted}
use Rattle.appendix.specs.Text.{line_of, lines_of, appendix_text}

-- ---- a line

-- what is said of a success, where there is one
succeeds : {T E P : Type 0} (r : Result T E) → IsOk r → OnOk r P → P
succeeds (Ok x) k p = p
succeeds (Err e) k p = absurd (tf (sym k))

module _ {m : ℕ} {s s' : Sheet} {vs : Bytes} (f : Filled m s vs s') (z : s.end ≡ 0) (room : m ≤ length s.out.now) where
  -- the digits fit just where they are put
  pub digits_are : (input before after more : Bytes) (r : Result (Unit {0}) FromHexError) → input ≡ take s'.end s'.out.now
      → (IsOk r ↔ (length before ≡ 2 * length input)) → length before ≡ 2 * s'.end → OnOk r (after ≡ encode_lower input)
      → take (2 * s'.end) (after ++ more) ≡ encode_lower vs
  digits_are input before after more r e fits l written =
      let is : input ≡ vs = e ∙ sheet_holds f z room in
      let long = ap length is in
      let next = f.put.next in
      let digits : after ≡ encode_lower vs = succeeds r (fits.1 (omega arith)) written ∙ ap encode_lower is in
      let all = ap length digits ∙ length-encode_with lower_digits vs in
      let end : 2 * s'.end ≡ length after = omega arith in
      ap (λ (k : ℕ). take k (after ++ more)) end
      ∙ take-append-le (length after) after more (omega arith)
      ∙ take_all (length after) after (omega arith)
      ∙ digits

  pub line_is : {E : Type 0} (w : Result (Unit {0}) E) (old mid new : Option (List ℕ)) (digits : Bytes) → digits ≡ encode_lower vs
      → Appends old mid digits → OnOk w (Appends mid new (10 ∷ [])) → OnOk w (Appends old new (encode_lower vs ++ (10 ∷ [])))
  line_is w old mid new digits e a b =
      on_ok_weaker w (λ k. Appends-trans old mid new (encode_lower vs) (10 ∷ []) (subst (Appends old mid) e a) k) b

-- ---- all lines

lines_append : (vs : List View) (v : View) → lines_of (vs ++ (v ∷ [])) ≡ lines_of vs ++ line_of v
unfolding lines_of
lines_append [] v = append-nil (line_of v)
lines_append (w ∷ vs) v =
    ap (λ (t : Bytes). line_of w ++ t) (lines_append vs v) ∙ sym (append_assoc (line_of w) (lines_of vs) (line_of v))

abbrev so_far : ℕ → Bytes
so_far n = lines_of (map view_at (range_with_len 0 n))

pub lines_none : (old : Option (List ℕ)) → Appends old old (so_far 0)
unfolding lines_of
lines_none old = Appends-nil old

module _ (old new : Option (List ℕ)) where
  pub lines_next : (newer : Option (List ℕ)) (n : ℕ) → Appends old new (so_far n) → Appends new newer (line_of (view_at n))
      → Appends old newer (so_far (n + 1))
  lines_next newer n a b =
      subst (Appends old newer)
      (sym
      (ap lines_of (map-range_with_len_more view_at 0 n n (omega arith)) ∙ lines_append (map view_at (range_with_len 0 n)) (view_at n)))
      (Appends-trans old new newer (so_far n) (line_of (view_at n)) a b)

  pub lines_all : (n : ℕ) → n ≡ view_count → Appends old new (so_far n) → Appends old new appendix_text
  lines_all n e a =
      subst (λ (vs : List View). Appends old new (lines_of vs)) all_counted (subst (λ (k : ℕ). Appends old new (so_far k)) e a)
