-- A block taken some pieces at a time: none yet, and some more.
-- Assumes nothing.
use Prim.Native.Nat.{ℕ, ◌+◌, ◌-◌, ◌≤◌}
use native.Mathlib.Omega.{arith}
use mathlib.Core.Path.{◌≡◌, ap, sym, subst, ◌∙◌}
use mathlib.Core.List.{List, [], ◌++◌, append_assoc}
use lib.ListN.{length, take, drop, length-append}
use lib.Seq.{take-add}
use Rattle.std.specs.Prelude.{Option}
use Rattle.std.specs.Io.KnownBytes.{Appends}
use Rattle.std.proofs.KnownBytes.{Appends-nil, Appends-trans}
use Rattle.std.proofs.lemmas.List.{drop-drop}
use Rattle.model.specs.Sizes.{Bytes}
use Rattle.sheet_lines.specs.declared.decimal.Sheet.{Sheet}
use Rattle.sheet_lines.proofs.PutLaws.{sheet_holds}
use Rattle.sheet_text.specs.Pieces.{Piece, pieces}
use Rattle.sheet_text.specs.declared.taking.Progress.{Progress}
use Rattle.sheet_text.specs.Sheet.{record_lines, bytes_through, Taken}
use Rattle.sheet_text.proofs.TakingLaws.{lines_join, bytes_join}
use Rattle.sheet.specs.Input.{BlockTaken}

module _ (h block : Bytes) (first : ℕ) (old : Option (List ℕ)) where
  pub block_begins : BlockTaken h block first old old first 0 h
  unfolding record_lines bytes_through
  block_begins =
      let z : first - first ≡ 0 = omega arith in
      let none : take (first - first) (pieces block) ≡ [] = ap (λ (k : ℕ). take k (pieces block)) z in
      record {
        lines = subst (λ (ps : List Piece). Appends old old (record_lines first h ps)) (sym none) (Appends-nil old);
        history = sym (ap (bytes_through h) none);
        rest = sym (ap (λ (k : ℕ). drop k (pieces block)) z);
        joined = λ more. ap (λ (ps : List Piece). ps ++ pieces (block ++ more)) (sym none);
        long = ap length none ∙ sym z;
        on = omega arith;
        within = omega arith;
      }

  module _ (w w' : Option (List ℕ)) (number from : ℕ) (h' h'' : Bytes) (t t' : Sheet) (p : Progress) where
    pub block_goes_on : BlockTaken h block first old w number from h' → t.end ≡ 0 → 63000 ≤ length t.out.now
        → Taken h' block t number from p h'' t' → Appends w w' (take t'.end t'.out.now)
        → BlockTaken h block first old w' (number + p.count) p.from h''
    block_goes_on b z room g a =
        record {
          lines = subst (Appends old w') (sym lines) (Appends-trans old w w' _ _ b.lines a);
          history = g.history ∙ (λ i. bytes_through (b.history i) (some i)) ∙ sym (ap (bytes_through h) more ∙ bytes_join h done _);
          rest = g.rest ∙ ap (drop p.count) b.rest ∙ drop-drop p.count k ps ∙ ap (λ (j : ℕ). drop j ps) (sym sum);
          joined = λ bs.
              b.joined bs
              ∙ ap (λ (l : List Piece). done ++ l) (g.joined bs ∙ ap (λ (l : List Piece). l ++ pieces (drop p.from block ++ bs)) some)
              ∙ sym (append_assoc done (take p.count (drop k ps)) _)
              ∙ ap (λ (l : List Piece). l ++ pieces (drop p.from block ++ bs)) (sym more);
          long = ap length more ∙ length-append done _ ∙ (λ i. b.long i + (ap length (sym some) ∙ g.long) i) ∙ sym sum;
          on = omega (arith, b.on);
          within = g.within;
        }
      where
        k : ℕ
        k = number - first

        ps : List Piece
        ps = pieces block

        done : List Piece
        done = take k ps

        sum : number + p.count - first ≡ k + p.count
        sum = omega (arith, b.on)

        some : take p.count (pieces (drop from block)) ≡ take p.count (drop k ps)
        some = ap (take p.count) b.rest

        more : take (number + p.count - first) ps ≡ done ++ take p.count (drop k ps)
        more = ap (λ (j : ℕ). take j ps) sum ∙ take-add k p.count ps

        at : first + length done ≡ number
        at = omega (arith, b.long, b.on)

        lines : record_lines first h (take (number + p.count - first) ps) ≡ record_lines first h done ++ take t'.end t'.out.now
        lines =
            ap (record_lines first h) more
            ∙ lines_join first h done _
            ∙ ap (λ (l : Bytes). record_lines first h done ++ l)
            ((λ i. record_lines (at i) (sym b.history i) (sym some i)) ∙ sym (sheet_holds g.lines z room))
