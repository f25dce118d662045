-- One entry of a front stored in bytes that stand for a history: its row is found or made.
-- Assumes nothing.
use Prim.Native.Nat.{ℕ, zero, suc, ◌+◌, ◌-◌, ◌<◌, ◌≤◌}
use native.Mathlib.Omega.{arith}
use mathlib.Core.Path.{◌≡◌, refl, sym, ◌∙◌, ap, subst}
use mathlib.Core.Bool.{true, false}
use mathlib.Core.List.{List, [], ◌∷◌, ◌++◌}
use lib.Dec.{eqb}
use lib.ListN.{length, replicate, length-append, length-replicate}
use lib.Seq.{take_at}
use borrow.Author.Tests.{eq-eqb, ne_eqb}
use Rattle.model.specs.Entry.{Entry, Prefix, prefixes, with}
use Rattle.model.specs.History.{History, with_prefixes}
use Rattle.model.specs.Sizes.{Bytes, index_limit, content_limit, prefix_limit, term_end}
use Rattle.model.proofs.Tests.{cond_true, cond_false}
use Rattle.storage.specs.Tables.{prefix_row, prefixes_part, head_part, tables_in, tables_of}
use Rattle.storage.specs.Writes.{prefix_appended, PrefixFits, prefix_of}
use Rattle.storage.specs.Rules.{prefix_right}
use Rattle.storage.specs.Decode.{prefix_at, extended, resolve, mark_of}
use Rattle.storage.specs.Head.{prefixes_held}
use Rattle.storage.proofs.RowFacts.{row_at, resolve_snoc, resolve_count}
use Rattle.storage.proofs.DecodeLaws.{row_facts}
use Rattle.storage.proofs.WellFormed.{rows_count}
use Rattle.storage.proofs.Meanings.{Represents, prefix_written, prefixes_read, prefixes_is, kept}
use Rattle.log_prefix.specs.Prefix.{row_of, find}
use Rattle.log_prefix.specs.Extension.{extension_in, stored_content, extended_bytes, extended_count, extended_number}
use Rattle.log_prefix.proofs.PrefixLaws.{Rows, mark_small}
use Rattle.log_prefix.proofs.TableLaws.{rows_at}
use Rattle.log_prefix.proofs.Extend.{Good, Extended, extend_rows, extend_number, extends_rows, right_row}
use Rattle.logical_log.proofs.Judge.{find_ext, find_index}
use Rattle.log_prefix.proofs.Written.{number_found, number_made, count_found, count_made, bytes_found, bytes_made}

-- ---- the rows of bytes that stand for a history

module _ (h : Bytes) (x : History) (s : Represents h x) where
  pub rows_good : Good (tables_of h).rows
  rows_good = record { right = (kept h x s).rows; known = row_facts h (kept h x s) }

  pub rows_by_place : Rows (prefix_row (prefixes_part h)) (tables_of h).rows
  unfolding tables_in
  rows_by_place = rows_at (prefixes_part h) (prefixes_held (head_part h))

-- ---- one extension

-- what the extension of p by e leads to
pub record Step (h : Bytes) (x : History) (n p : ℕ) (e : Entry) (h' : Bytes) (n' p' : ℕ) : Type 0 where
  pub represents : Represents h' (with_prefixes x (with prefixes x.prefixes (prefix_at x.prefixes p ++ (e ∷ []))))
  pub holds : n' ≡ prefixes_held h'
  pub within : p' ≤ n'
  pub is : prefix_at (with prefixes x.prefixes (prefix_at x.prefixes p ++ (e ∷ []))) p' ≡ prefix_at x.prefixes p ++ (e ∷ [])

module _ (h : Bytes) (x : History) (s : Represents h x) (n p i : ℕ) (e : Entry) (en : n ≡ prefixes_held h) (hp : p ≤ n)
    (next : length (prefix_at x.prefixes p) + 1 ≡ i) (small : i ≤ index_limit) (short : length e.content ≤ content_limit) (term : e.term < term_end)
    (room : extended_count h n p e ≤ prefix_limit) where
  same_prefixes : resolve (tables_of h).rows ≡ x.prefixes
  same_prefixes = prefixes_is h x s

  count : length (tables_of h).rows ≡ n
  count = rows_count h ∙ sym en

  abbrev Q : Prefix
  Q = prefix_at x.prefixes p ++ (e ∷ [])

  -- the search in the bytes is the search in the rows
  same_search : extension_in h n p e ≡ find (row_at (tables_of h).rows) (length (tables_of h).rows) (row_of p i e)
  unfolding extension_in
  same_search =
      ap (λ (m : ℕ). find (prefix_row (prefixes_part h)) m (row_of p 0 e)) (sym count)
      ∙ find_ext (prefix_row (prefixes_part h)) (tables_of h).rows (rows_by_place h x s) (row_of p 0 e)
      ∙ find_index (row_at (tables_of h).rows) (length (tables_of h).rows) p 0 i e

  extended_rows : Extended (tables_of h).rows (extend_rows (tables_of h).rows p i e) p (extend_number (tables_of h).rows p i e) e
  extended_rows =
      extends_rows (tables_of h).rows (rows_good h x s) p i e (subst (λ (m : ℕ). p ≤ m) (sym count) hp)
      (ap (λ (ps : List Prefix). length (prefix_at ps p) + 1) same_prefixes ∙ next) small short

  stores : resolve (extend_rows (tables_of h).rows p i e) ≡ with prefixes x.prefixes Q
  stores = extended_rows.stores ∙ (λ j. with prefixes (same_prefixes j) (prefix_at (same_prefixes j) p ++ (e ∷ [])))

  number_is : prefix_at (with prefixes x.prefixes Q) (extend_number (tables_of h).rows p i e) ≡ Q
  number_is =
      ap (λ (ps : List Prefix). prefix_at ps (extend_number (tables_of h).rows p i e)) (sym stores)
      ∙ extended_rows.is ∙ ap (λ (ps : List Prefix). prefix_at ps p ++ (e ∷ [])) same_prefixes

  -- found
  found_step : (k : ℕ) → extension_in h n p e ≡ suc k → Step h x n p e (extended_bytes h n p i e) (extended_count h n p e) (extended_number h n p e)
  unfolding extend_rows extend_number
  found_step k z =
      let f : eqb (extension_in h n p e) 0 ≡ false = ne_eqb (extension_in h n p e) 0 (λ w. let v = z in omega arith) in
      let g : eqb (find (row_at (tables_of h).rows) (length (tables_of h).rows) (row_of p i e)) 0 ≡ false = ap (λ (y : ℕ). eqb y 0) (sym same_search) ∙ f in
      let same_rows : extend_rows (tables_of h).rows p i e ≡ (tables_of h).rows = cond_false _ _ (tables_of h).rows g in
      let list : x.prefixes ≡ with prefixes x.prefixes Q = sym same_prefixes ∙ sym (ap resolve same_rows) ∙ stores in
      let number : extended_number h n p e ≡ extend_number (tables_of h).rows p i e =
      number_found h n p e f ∙ same_search ∙ sym (cond_false _ (length (tables_of h).rows + 1) _ g) in
      record {
        represents = subst (λ (u : Bytes). Represents u (with_prefixes x (with prefixes x.prefixes Q))) (sym (bytes_found h n p i e f))
            (subst (λ (ps : List Prefix). Represents h (with_prefixes x ps)) list s);
        holds = count_found h n p e f ∙ en ∙ sym (ap (λ (u : Bytes). prefixes_held u) (bytes_found h n p i e f));
        within =
            (let a = extended_rows.within in let b = ap length same_rows in let c = count in let d = number in let m = count_found h n p e f in omega arith);
        is = ap (prefix_at (with prefixes x.prefixes Q)) number ∙ number_is;
      }

  -- made
  row_fits : n < prefix_limit → PrefixFits p i e.term (mark_of e) (length e.content) (stored_content e)
  row_fits l =
      record {
        parent = omega arith;
        index = omega arith;
        term = term;
        mark = mark_small e;
        size = short;
        padded =
            (let a = length-append e.content (replicate (content_limit - length e.content) 0) in
            let b = length-replicate {A = ℕ} (content_limit - length e.content) 0 in omega arith);
      }

  row_is : prefix_of p i e.term (mark_of e) (length e.content) (stored_content e) ≡ row_of p i e
  row_is =
      let c = take_at e.content (replicate (content_limit - length e.content) 0) (length e.content) refl in
      λ j. record { parent = p; index = i; term = e.term; mark = mark_of e; size = length e.content; content = c j }

  made_step : extension_in h n p e ≡ 0 → Step h x n p e (extended_bytes h n p i e) (extended_count h n p e) (extended_number h n p e)
  unfolding extend_rows extend_number
  made_step z =
      let t : eqb (extension_in h n p e) 0 ≡ true = eq-eqb (extension_in h n p e) 0 z in
      let g : eqb (find (row_at (tables_of h).rows) (length (tables_of h).rows) (row_of p i e)) 0 ≡ true = ap (λ (y : ℕ). eqb y 0) (sym same_search) ∙ t in
      let counts : extended_count h n p e ≡ n + 1 = count_made h n p e t in
      let l : n < prefix_limit = (let r = room in omega arith) in
      let row = prefix_of p i e.term (mark_of e) (length e.content) (stored_content e) in
      let same_rows : extend_rows (tables_of h).rows p i e ≡ (tables_of h).rows ++ (row_of p i e ∷ []) = cond_true _ _ (tables_of h).rows g in
      let list : x.prefixes ++ (extended x.prefixes row ∷ []) ≡ with prefixes x.prefixes Q =
      (λ j. sym same_prefixes j ++ (extended (sym same_prefixes j) (row_is j) ∷ []))
      ∙ sym (resolve_snoc [] (tables_of h).rows (row_of p i e)) ∙ sym (ap resolve same_rows) ∙ stores in
      let right = ap (prefix_right (tables_of h).rows) row_is
      ∙ right_row (tables_of h).rows (rows_good h x s) p i e (subst (λ (m : ℕ). p ≤ m) (sym count) hp)
      (ap (λ (ps : List Prefix). length (prefix_at ps p) + 1) same_prefixes ∙ next) small short (sym same_search ∙ z) in
      let after : Represents (extended_bytes h n p i e) (with_prefixes x (with prefixes x.prefixes Q)) =
      subst (λ (u : Bytes). Represents u (with_prefixes x (with prefixes x.prefixes Q))) (sym (bytes_made h n p i e t))
      (subst (λ (ps : List Prefix). Represents (prefix_appended h p i e.term (mark_of e) (length e.content) (stored_content e)) (with_prefixes x ps)) list
      (prefix_written h x s p i e.term (mark_of e) (length e.content) (stored_content e) (subst (λ (m : ℕ). m < prefix_limit) en l) (row_fits l) right)) in
      let number : extended_number h n p e ≡ extend_number (tables_of h).rows p i e =
      number_made h n p e t ∙ ap (λ (m : ℕ). m + 1) (sym count) ∙ sym (cond_true _ (length (tables_of h).rows + 1) _ g) in
      let size : length (with prefixes x.prefixes Q) ≡ n + 1 =
      ap length (sym list) ∙ length-append x.prefixes (extended x.prefixes row ∷ [])
      ∙ ap (λ (m : ℕ). m + 1) (ap length (sym same_prefixes) ∙ resolve_count (tables_of h).rows ∙ count) in
      record {
        represents = after;
        holds = counts ∙ sym size ∙ sym (ap (λ (y : History). length y.prefixes) after.decodes) ∙ prefixes_read (extended_bytes h n p i e);
        within = (let a = number_made h n p e t in omega arith);
        is = ap (prefix_at (with prefixes x.prefixes Q)) number ∙ number_is;
      }

  pub extension_step : Step h x n p e (extended_bytes h n p i e) (extended_count h n p e) (extended_number h n p e)
  extension_step = go (extension_in h n p e) refl
    where
      go : (k : ℕ) → extension_in h n p e ≡ k → Step h x n p e (extended_bytes h n p i e) (extended_count h n p e) (extended_number h n p e)
      go zero z = made_step z
      go (suc k) z = found_step k z
