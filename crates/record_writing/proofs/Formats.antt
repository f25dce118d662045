-- Each field and each kind takes, from whatever source, the fields that its value is spelled with.
-- Assumes nothing.
use Prim.Native.Nat.{ℕ, zero, suc, ◌-◌, ◌^◌, ◌<◌}
use mathlib.Core.Path.{◌≡◌, refl, ap, sym, ◌∙◌}
use mathlib.Core.Bool.{Bool, true, false, cond}
use mathlib.Core.List.{List, [], ◌∷◌, ◌++◌}
use native.Mathlib.Omega.{arith}
use borrow.Author.Tests.{eqb-true}
use lib.Dec.{leb, ltb, eqb}
use lib.ListN.{length}
use Rattle.std.proofs.lemmas.List.{append-nil}
use Rattle.model.specs.Sizes.{Bytes, index_limit, content_limit}
use Rattle.model.specs.Refusal.{outOfLimit, notAbove}
use Rattle.model.specs.Record.{Record, check}
use Rattle.model.specs.Reading.{got, Reader, return}
use Rattle.record_entries.specs.BitLayout.{index_of, node_of}
use Rattle.record_entries.proofs.Given.{fault≢got}
use Rattle.record_writing.specs.Spans.{Span, span, bit, content_spans, mark_spans, entry_spans, configuration_spans, row_spans, all_spans, spans}
use Rattle.record_writing.specs.Format.{view_kind, no_key, content_byte, content, limited, yes_no, governed, entry_index, row_node, mark, shown, configuration, row, view_fields, commit_fields, terms_fields, election_fields, rows_fields, leader_fields, fields_of}
use Rattle.record_writing.proofs.Taken.{Source, Same, same_bind, same_return, same_require, same_cond, same_many, same_weaker}

-- one field of w bits
abbrev pub One : ℕ → ℕ → List Span → Type 0
One w v xs = xs ≡ span w v ∷ []

eights : (bs : List ℕ) → all_spans (λ v. span 8 v ∷ []) bs ≡ content_spans bs
unfolding all_spans
eights [] = refl
eights (b ∷ bs) = ap (λ (l : List Span). span 8 b ∷ l) (eights bs)

-- a mark, and the fields behind it
pub mark_then : (marked m : Bool) (xs : List Span) → mark_spans marked m [] ++ xs ≡ mark_spans marked m xs
mark_then true m xs = refl
mark_then false m xs = refl

-- whether a kind's views show marks
abbrev pub kind_marked : ℕ → Bool
kind_marked kind = eqb kind (view_kind true)

module _ (p q : Source) (below : (w : ℕ) (s : Bytes) (k v j : ℕ) → p w s k ≡ got v j → v < 2 ^ w) where
  -- ---- fields

  pub same_field : (w : ℕ) → Same p q (λ v xs. One w v xs × (v < 2 ^ w)) (p w) (q w)
  same_field w s k v j e =
      record {
        spans = span w v ∷ [];
        took = record { place = j; read = e; then = refl };
        holds = (refl, below w s k v j e);
        again = λ u i l t. t.read ∙ ap (got v) t.then;
      }

  pub same_limited : (w m : ℕ) → Same p q (λ v xs. One w v xs) (limited p w m) (limited q w m)
  unfolding limited
  same_limited w m =
      same_bind p q (same_field w) (λ v xs e.
      same_require p q (leb v m) outOfLimit v (λ t. append-nil xs ∙ e.0))

  pub same_yes_no : Same p q (λ b xs. xs ≡ bit b ∷ []) (yes_no p) (yes_no q)
  unfolding yes_no
  same_yes_no =
      same_bind p q (same_field 1) (λ v xs e.
      same_return p q (append-nil xs ∙ e.0 ∙ ap (λ (v : ℕ). span 1 v ∷ []) (one v e.1)))
    where
      one : (v : ℕ) → v < 2 → v ≡ cond (eqb v 1) 1 0
      one zero h = refl
      one (suc zero) h = refl
      one (suc (suc v)) h = absurd (omega arith)

  pub same_governed : (b : Bool) (w m : ℕ) → Same p q (λ v xs. One w v xs) (governed p b w m) (governed q b w m)
  unfolding governed
  same_governed b w m = same_limited w (cond b m 0)

  pub same_entry_index : (least : ℕ) → Same p q (λ v xs. One 10 v xs) (entry_index p least) (entry_index q least)
  unfolding entry_index
  same_entry_index least =
      same_bind p q (same_limited 10 index_limit) (λ i xs e.
      same_bind p q {P = λ a ys. (a ≡ i) × (ys ≡ [])} (same_require p q (ltb 0 i) outOfLimit i (λ t. (refl, refl))) (λ a ys f.
      same_require p q (leb least a) notAbove a (λ t. (λ d. e d ++ (f.1 d ++ [])) ∙ ap (λ (v : ℕ). span 10 v ∷ []) (sym f.0))))

  pub same_row_node : (least : ℕ) → Same p q (λ v xs. One 6 v xs) (row_node p least) (row_node q least)
  unfolding row_node
  same_row_node least =
      same_bind p q (same_field 6) (λ n xs e.
      same_require p q (leb least n) notAbove n (λ t. append-nil xs ∙ e.0))

  -- the bytes of a content
  pub same_content : (n : ℕ) → Same p q (λ bs xs. (xs ≡ content_spans bs) × (length bs ≡ n)) (content p n) (content q n)
  same_content n =
      same_weaker p q
      (same_many p q (λ v. span 8 v ∷ []) (content_byte p) (content_byte q) no_key
      (λ least. same_weaker p q (same_field 8) (λ v xs e. e.0)) 0 n)
      (λ bs xs e. (e.0 ∙ eights bs, e.1))

  -- a mark, where it is shown
  pub same_mark : (marked : Bool) → Same p q (λ m xs. xs ≡ mark_spans marked m []) (mark p marked) (mark q marked)
  unfolding mark
  same_mark true = same_yes_no
  same_mark false = same_return p q refl

  -- ---- items

  pub same_shown : (marked : Bool) (least : ℕ)
      → Same p q (λ x xs. xs ≡ entry_spans marked x) (shown p marked least) (shown q marked least)
  unfolding shown
  same_shown marked least =
      same_bind p q (same_entry_index least) (λ i xs e.
      same_bind p q (same_field 32) (λ t ys f.
      same_bind p q (same_mark marked) (λ m vs o.
      same_bind p q (same_limited 6 content_limit) (λ n zs g.
      same_bind p q (same_content n) (λ c ws h.
      same_return p q (
      (λ d. e d ++ (f.0 d ++ (o d ++ (g d ++ (append-nil ws ∙ h.0) d))))
      ∙ (λ d. span 10 i ∷ span 32 t ∷ mark_then marked m (span 6 (sym h.1 d) ∷ content_spans c) d)
      ))))))

  pub same_configuration : Same p q (λ x xs. xs ≡ configuration_spans x []) (configuration p) (configuration q)
  unfolding configuration
  same_configuration =
      same_bind p q same_yes_no (λ b xs e.
      same_bind p q (same_governed b 10 index_limit) (λ i ys f.
      same_bind p q (same_governed b 32 (2 ^ 32 - 1)) (λ d zs g.
      same_return p q (λ o. e o ++ (f o ++ (g o ++ []))))))

  pub same_row : (least : ℕ) → Same p q (λ x xs. xs ≡ row_spans x) (row p least) (row q least)
  unfolding row
  same_row least =
      same_bind p q (same_row_node least) (λ n as' e.
      same_bind p q (same_limited 10 index_limit) (λ f bs g.
      same_bind p q (same_limited 10 index_limit) (λ c cs h.
      same_bind p q (same_limited 10 index_limit) (λ l ds m.
      same_bind p q same_configuration (λ fc es o.
      same_bind p q same_configuration (λ ac fs r.
      same_return p q (λ d. e d ++ (g d ++ (h d ++ (m d ++ (o d ++ (r d ++ []))))))))))))

  -- ---- kinds: the fields behind the kind

  abbrev pub Behind : ℕ → Record → List Span → Type 0
  Behind kind r xs = span 4 kind ∷ xs ≡ spans (kind_marked kind) r

  same_view : (marked : Bool)
      → Same p q (λ r xs. span 4 (view_kind marked) ∷ xs ≡ spans marked r) (view_fields p marked) (view_fields q marked)
  unfolding view_fields spans
  same_view marked =
      same_bind p q (same_field 6) (λ n xs e.
      same_bind p q (same_limited 10 index_limit) (λ c ys f.
      same_bind p q (same_many p q (entry_spans marked) (shown p marked) (shown q marked) index_of (same_shown marked) 0 c) (λ es zs g.
      same_return p q (
      (λ d. span 4 (view_kind marked) ∷ (e.0 d ++ (f d ++ (append-nil zs ∙ g.0) d)))
      ∙ ap (λ (c : ℕ). span 4 (view_kind marked) ∷ span 6 n ∷ span 10 c ∷ all_spans (entry_spans marked) es) (sym g.1)
      ))))

  same_commit : Same p q (Behind 2) (commit_fields p) (commit_fields q)
  unfolding commit_fields spans
  same_commit =
      same_bind p q (same_field 6) (λ n xs e.
      same_bind p q (same_limited 10 index_limit) (λ i ys f.
      same_return p q (λ d. span 4 2 ∷ (e.0 d ++ (f d ++ [])))))

  same_terms : Same p q (Behind 3) (terms_fields p) (terms_fields q)
  unfolding terms_fields spans
  same_terms =
      same_bind p q (same_limited 10 index_limit) (λ o xs e.
      same_bind p q (same_limited 10 index_limit) (λ n ys f.
      same_bind p q (same_field 32) (λ t zs g.
      same_return p q (λ d. span 4 3 ∷ (e d ++ (f d ++ (g.0 d ++ [])))))))

  same_election : Same p q (Behind 4) (election_fields p) (election_fields q)
  unfolding election_fields spans
  same_election =
      same_bind p q (same_field 6) (λ l xs e.
      same_bind p q (same_field 32) (λ t ys f.
      same_bind p q same_yes_no (λ b zs g.
      same_bind p q (same_governed b 10 index_limit) (λ n ws h.
      same_return p q (λ d. span 4 4 ∷ (e.0 d ++ (f.0 d ++ (g d ++ (h d ++ [])))))))))

  same_check : Same p q (Behind 5) (return check) (return check)
  unfolding spans
  same_check = same_return p q refl

  same_rows : Same p q (Behind 6) (rows_fields p) (rows_fields q)
  unfolding rows_fields spans
  same_rows =
      same_bind p q (same_limited 10 index_limit) (λ c ys f.
      same_bind p q (same_many p q row_spans (row p) (row q) node_of same_row 0 c) (λ rs zs g.
      same_return p q (
      (λ d. span 4 6 ∷ (f d ++ (append-nil zs ∙ g.0) d))
      ∙ ap (λ (c : ℕ). span 4 6 ∷ span 10 c ∷ all_spans row_spans rs) (sym g.1)
      )))

  same_leader : Same p q (Behind 7) (leader_fields p) (leader_fields q)
  unfolding leader_fields spans
  same_leader =
      same_bind p q (same_field 6) (λ n xs e.
      same_bind p q (same_field 32) (λ t ys f.
      same_return p q (λ d. span 4 7 ∷ (e.0 d ++ (f.0 d ++ [])))))

  -- of any kind
  pub same_fields : (kind : ℕ) → Same p q (Behind kind) (fields_of p kind) (fields_of q kind)
  unfolding fields_of
  same_fields kind =
      at 1 (same_view false) (at 2 same_commit (at 3 same_terms (at 4 same_election (at 5 same_check (at 6 same_rows
      (at 7 same_leader (at 9 (same_view true) (λ s k r j e. absurd (fault≢got e)))))))))
    where
      at : (n : ℕ) {m f g h : Reader Record} → Same p q (Behind n) m f → Same p q (Behind kind) g h
          → Same p q (Behind kind) (cond (eqb kind n) m g) (cond (eqb kind n) f h)
      at n a b =
          same_cond p q (eqb kind n)
          (λ t. same_weaker p q a (λ r xs e. let z = eqb-true kind n t in ap (λ (k : ℕ). span 4 k ∷ xs) z ∙ e ∙ ap (λ (k : ℕ). spans (kind_marked k) r) (sym z)))
          (λ t. b)
