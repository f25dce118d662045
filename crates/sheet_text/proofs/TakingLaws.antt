-- Laws of pieces taken in turn: one more piece, and where taking ends.
-- Assumes nothing.
use Prim.Native.Nat.{ℕ, zero, suc, ◌+◌, ◌*◌, ◌≤◌, ◌<◌}
use native.Mathlib.Numerals.{add-one}
use native.Mathlib.Omega.{arith}
use mathlib.Core.Path.{◌≡◌, refl, ap, sym, ◌∙◌}
use mathlib.Core.List.{List, [], ◌∷◌, ◌++◌, append_assoc, append-nil}
use lib.ListN.{length, take, drop, length-append}
use Rattle.model.specs.Sizes.{Bytes}
use Rattle.storage_bytes.specs.Layout.{part}
use Rattle.sheet_text.specs.declared.split.Piece as code
use Rattle.sheet_lines.specs.declared.decimal.Sheet.{Sheet}
use Rattle.sheet_lines.specs.Filled.{Filled}
use Rattle.sheet_text.specs.Pieces.{Piece, whole, cut, pieces, piece_at, pieces_by, Split}
use Rattle.sheet_text.specs.Sheet.{cut_line, line_for, bytes_after, record_lines, bytes_through, HandedOver, Taken, taken_most}
use Rattle.sheet_lines.proofs.PutLaws.{filled_none, filled_then, filled_as}
use Rattle.sheet_text.proofs.SplitLaws.{whole_within, piece_joined}
use Rattle.sheet_lines.specs.Lines.{record_room}

-- ---- more pieces behind others

pub lines_join : (n : ℕ) (h : Bytes) (ps qs : List Piece)
    → record_lines n h (ps ++ qs) ≡ record_lines n h ps ++ record_lines (n + length ps) (bytes_through h ps) qs
unfolding record_lines bytes_through
lines_join n h [] qs = ap (λ (k : ℕ). record_lines k h qs) (let e : n ≡ n + 0 = omega arith in e)
lines_join n h (whole r ∷ ps) qs =
    ap (λ (l : Bytes). line_for n h r ++ l)
    (lines_join (n + 1) (bytes_after h r) ps qs
    ∙ ap (λ (k : ℕ). record_lines (n + 1) (bytes_after h r) ps ++ record_lines k (bytes_through (bytes_after h r) ps) qs)
    (let e : n + 1 + length ps ≡ n + suc (length ps) = omega arith in e))
    ∙ sym (append_assoc (line_for n h r) _ _)
lines_join n h (cut ∷ ps) qs =
    ap (λ (l : Bytes). cut_line n ++ l)
    (lines_join (n + 1) h ps qs
    ∙ ap (λ (k : ℕ). record_lines (n + 1) h ps ++ record_lines k (bytes_through h ps) qs)
    (let e : n + 1 + length ps ≡ n + suc (length ps) = omega arith in e))
    ∙ sym (append_assoc (cut_line n) _ _)

pub bytes_join : (h : Bytes) (ps qs : List Piece) → bytes_through h (ps ++ qs) ≡ bytes_through (bytes_through h ps) qs
unfolding bytes_through
bytes_join h [] qs = refl
bytes_join h (whole r ∷ ps) qs = bytes_join (bytes_after h r) ps qs
bytes_join h (cut ∷ ps) qs = bytes_join h ps qs

one_line : (n : ℕ) (h s : Bytes) → record_lines n h (whole s ∷ []) ≡ line_for n h s
unfolding record_lines
one_line n h s = append-nil _

one_after : (h s : Bytes) → bytes_through h (whole s ∷ []) ≡ bytes_after h s
unfolding bytes_through
one_after h s = refl

-- a list whose k-th element is x
record Next (ps : List Piece) (k : ℕ) (x : Piece) (rest : List Piece) : Type 0 where
  through : take (suc k) ps ≡ take k ps ++ (x ∷ [])
  after : drop (suc k) ps ≡ rest
  long : length (take k ps) ≡ k

next_at_lem : (ps : List Piece) (k : ℕ) (x : Piece) (rest : List Piece) → drop k ps ≡ x ∷ rest → Next ps k x rest
next_at_lem [] zero x rest e = absurd (let z : ◌≡◌ {A = ℕ} 0 1 = cc in omega arith)
next_at_lem [] (suc k) x rest e = absurd (let z : ◌≡◌ {A = ℕ} 0 1 = cc in omega arith)
next_at_lem (p ∷ ps) zero x rest e =
    let a : p ≡ x = cc in
    let b : ps ≡ rest = cc in
    record { through = ap (λ (y : Piece). y ∷ []) a; after = b; long = refl }
next_at_lem (p ∷ ps) (suc k) x rest e =
    let n = next_at_lem ps k x rest e in
    record { through = ap (λ (l : List Piece). p ∷ l) n.through; after = n.after; long = ap suc n.long }

-- ---- the loop

-- k of the pieces from `start` on are taken
pub record Taking (h block : Bytes) (t : Sheet) (first start k from : ℕ) (h' : Bytes) (t' : Sheet) : Type 0 where
  pub lines : Filled (k * record_room) t (record_lines first h (take k (pieces (drop start block)))) t'
  pub history : h' ≡ bytes_through h (take k (pieces (drop start block)))
  pub rest : pieces (drop from block) ≡ drop k (pieces (drop start block))
  pub joined : (more : Bytes) → pieces (drop start block ++ more) ≡ take k (pieces (drop start block)) ++ pieces (drop from block ++ more)
  pub long : length (take k (pieces (drop start block))) ≡ k
  pub within : from ≤ length block
  pub on : start + k ≤ from

module _ (h block : Bytes) (t : Sheet) (first start : ℕ) where
  pub taking_none : start ≤ length block → Taking h block t first start 0 start h t
  unfolding record_lines bytes_through
  taking_none l =
      record {
        lines = filled_as (filled_none t) _ refl (omega arith);
        history = refl;
        rest = refl;
        joined = λ more. refl;
        long = refl;
        within = l;
        on = omega arith;
      }

  pub taking_next : (k from body size : ℕ) (h' h'' s : Bytes) (t' t'' : Sheet) (p : code.Piece)
      → Taking h block t first start k from h' t' → Split block from p → p ≡ code.Piece.Whole body size → s ≡ part block body size
      → HandedOver h' s t' (first + k) h'' t'' → Taking h block t first start (k + 1) (body + size) h'' t''
  taking_next k from body size h' h'' s t' t'' p g split is sp o =
      let ps = pieces (drop start block) in
      let w = whole_within block from body size p split is in
      let d : drop k ps ≡ whole (part block body size) ∷ pieces (drop (body + size) block)
      = sym g.rest ∙ split.rest ∙ ap (pieces_by block) is in
      let n = next_at_lem ps k (whole (part block body size)) (pieces (drop (body + size) block)) d in
      let more : take (k + 1) ps ≡ take k ps ++ (whole s ∷ [])
      = ap (λ (j : ℕ). take j ps) (add-one k) ∙ n.through ∙ ap (λ (b : Bytes). take k ps ++ (whole b ∷ [])) (sym sp) in
      let count : first + length (take k ps) ≡ first + k = ap (λ (j : ℕ). first + j) n.long in
      record {
        lines =
            filled_as (filled_then g.lines o.line) _
            (sym
            (ap (record_lines first h) more
            ∙ lines_join first h (take k ps) (whole s ∷ [])
            ∙ ap (λ (l : Bytes). record_lines first h (take k ps) ++ l) (one_line _ _ s)
            ∙ (λ i. record_lines first h (take k ps) ++ line_for (count i) (sym g.history i) s)))
            (omega arith);
        history = o.history ∙ ap (λ (b : Bytes). bytes_after b s) g.history ∙ sym (ap (bytes_through h) more ∙ bytes_join h (take k ps) (whole s ∷ []) ∙ one_after _ s);
        rest = sym (ap (λ (j : ℕ). drop j ps) (add-one k) ∙ n.after);
        joined = λ more.
            g.joined more
            ∙ ap (λ (l : List Piece). take k ps ++ l) (piece_joined block more from body size w)
            ∙ sym (append_assoc (take k ps) (whole (part block body size) ∷ []) _)
            ∙ ap (λ (l : List Piece). l ++ pieces (drop (body + size) block ++ more)) (sym (ap (λ (j : ℕ). take j ps) (add-one k) ∙ n.through));
        long = ap length more ∙ length-append (take k ps) (whole s ∷ []) ∙ ap (λ (j : ℕ). j + 1) n.long;
        within = w.ends;
        on = omega (arith, g.on, w.begins);
      }

  pub taking_ends : (k from : ℕ) (h' : Bytes) (t' : Sheet) → Taking h block t first start k from h' t' → k ≤ taken_most
      → (k < taken_most → (body size : ℕ) → piece_at block from ≡ code.Piece.Whole body size → ⊥)
      → Taken h block t first start (record { count = k; from = from }) h' t'
  taking_ends k from h' t' g l stop =
      record {
        lines = filled_as g.lines _ refl (omega arith);
        history = g.history;
        rest = g.rest;
        joined = g.joined;
        long = g.long;
        within = g.within;
        on = g.on;
        most = l;
        stopped = stop;
      }
