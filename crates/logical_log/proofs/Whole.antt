-- A view as a whole: how its parts come together.
-- Assumes nothing.
use Prim.Native.Nat.{ℕ, suc, ◌+◌, ◌-◌, ◌<◌, ◌≤◌}
use native.Mathlib.Omega.{arith}
use mathlib.Core.Path.{◌≡◌, refl, sym, ◌∙◌, ap, subst, subst₂}
use mathlib.Core.Bool.{true, false, cond}
use mathlib.Core.Logic.{inl, inr}
use mathlib.Core.List.{List, [], ◌∷◌}
use lib.Dec.{ltb, eqb}
use lib.ListN.{length}
use borrow.Author.Tests.{lt-ltb, le-ltb, eq-eqb}
use Rattle.std.specs.Prelude.{Result, Err}
use Rattle.model.specs.Sizes.{Bytes, prefix_limit, finding_limit}
use Rattle.model.specs.Entry.{Entry}
use Rattle.model.specs.Record.{front}
use Rattle.model.proofs.Tests.{cond_true, cond_false}
use Rattle.record_entries.specs.BitLayout.{ViewBits, Walk, first_entry, entries_at}
use Rattle.storage_bytes.specs.Layout.{findings_length}
use Rattle.storage.specs.Tables.{prefix_row, prefixes_part, findings_part}
use Rattle.storage.specs.Rules.{well_formed}
use Rattle.storage.specs.Head.{prefixes_held, findings_held}
use Rattle.storage.proofs.WellFormed.{formed}
use Rattle.log_prefix.specs.Prefix.{search_from, find}
use Rattle.log_violation.specs.Violation.{findings_kept}
use Rattle.logical_log.specs.Writing.{Storing, view_replaced, rest_made, rest_written}
use Rattle.logical_log.specs.Observation.{view_written, made_in, view_step}
use Rattle.logical_log.specs.Judging.{next_number, front_at, Walkable, cursor_in, missing_in, notes_in, held_in, table_in, ViewJudged}
use Rattle.log_prefix.specs.Extension.{next_index, extension_in, extended_bytes, extended_count, extended_number, written_count}
use Rattle.record_entries.proofs.Views.{walked}
use Rattle.logical_log.proofs.Cursors.{Ended}
use Rattle.logical_log.proofs.Rest.{Rest, rest_of}
use Rattle.logical_log.proofs.Judged.{cursor_in_ended, cursor_in_walkable, missing_most}
use Rattle.log_prefix.proofs.Written.{number_made, count_made}
use Rattle.log_violation.proofs.ViolationLaws.{all_length, findings_long}
use Rattle.answers.specs.declared.answer.Accepted.{Accepted}
use Rattle.answers.specs.declared.answer.Refusal.{Refusal}
use Rattle.answers.specs.Numbers.{accepted_with}
use Rattle.answers.specs.Step.{accepting, refusing, Gives}
use Rattle.answers.proofs.StepLaws.{ends, accepts_with, refuses_with}
use Rattle.logical_log.specs.declared.judging.FrontCursor.{FrontCursor}

-- ---- room: as many are made as are missing

-- after one that was made each is made
all_made : (es : List Entry) (h : Bytes) (n i : ℕ) → written_count h n n i es ≡ n + length es
unfolding written_count extended_count extended_number extension_in find
all_made [] h n i = omega arith
all_made (e ∷ es) h n i =
    let zero-found : extension_in h n n e ≡ 0 =
    ap (search_from _ n) (let z : n - n ≡ 0 = omega arith in z) ∙ (unfold search_from in refl) in
    let t : eqb (extension_in h n n e) 0 ≡ true = eq-eqb _ 0 zero-found in
    (λ j. written_count (extended_bytes h n n i e) (count_made h n n e t j) (number_made h n n e t j) (i + 1) es)
    ∙ all_made es (extended_bytes h n n i e) (n + 1) (i + 1)
    ∙ (let z : n + 1 + length es ≡ n + suc (length es) = omega arith in z)

cons_count : (h : Bytes) (n p i : ℕ) (e : Entry) (es : List Entry)
    → written_count h n p i (e ∷ es) ≡ written_count (extended_bytes h n p i e) (extended_count h n p e) (extended_number h n p e) (i + 1) es
unfolding written_count
cons_count h n p i e es = refl

extension_is : (h : Bytes) (n p : ℕ) (e : Entry) → extension_in h n p e ≡ next_number (prefix_row (prefixes_part h)) n p e
unfolding extension_in
extension_is h n p e = refl

no_count : (h : Bytes) (n p i : ℕ) → written_count h n p i [] ≡ n + 0
unfolding written_count
no_count h n p i = omega arith

-- from a place on where no prefix is stored any more
rest_count : (h : Bytes) (n : ℕ) (s : ViewBits) (r : FrontCursor) → Ended (prefix_row (prefixes_part h)) n s r
    → written_count h n r.prefix.0 r.index.0 (front_at s r) ≡ n + length (front_at s r)
rest_count h n s r (inl e) =
    ap (written_count h n r.prefix.0 r.index.0) e ∙ no_count h n r.prefix.0 r.index.0 ∙ sym (ap (λ (es : List Entry). n + length es) e)
rest_count h n s r (inr (e, es, q, z)) =
    let t : eqb (extension_in h n r.prefix.0 e) 0 ≡ true = eq-eqb _ 0 (extension_is h n r.prefix.0 e ∙ z) in
    let i = r.index.0 in
    let h' = extended_bytes h n r.prefix.0 i e in
    ap (written_count h n r.prefix.0 i) q
    ∙ cons_count h n r.prefix.0 i e es
    ∙ (λ j. written_count h' (count_made h n r.prefix.0 e t j) (number_made h n r.prefix.0 e t j) (i + 1) es)
    ∙ all_made es h' (n + 1) (i + 1)
    ∙ (let y : n + 1 + length es ≡ n + suc (length es) = omega arith in y)
    ∙ sym (ap (λ (xs : List Entry). n + length xs) q)

missing_count : (h : Bytes) (s : ViewBits) (m : ℕ)
    → written_count h (prefixes_held h) (cursor_in h s m).prefix.0 (cursor_in h s m).index.0 (front_at s (cursor_in h s m)) ≡ prefixes_held h + missing_in h s m
unfolding missing_in
missing_count h s m = rest_count h (prefixes_held h) s (cursor_in h s m) (cursor_in_ended h s m)

pub front_count : (h : Bytes) (s : ViewBits) (m : ℕ) → well_formed h ≡ true → Walk s first_entry m
    → written_count h (prefixes_held h) 0 1 (front (entries_at s first_entry m)) ≡ prefixes_held h + missing_in h s m
front_count h s m right w = (rest_of h (formed h right) s m w).counts ∙ missing_count h s m

-- ---- written

-- from the first prefix that is not stored on as from the first entry
rest_written_lem : (h : Bytes) (s : ViewBits) (m node : ℕ) (t : Bytes) (held : ℕ)
    → Rest h s m (cursor_in h s m) → rest_written h (prefixes_held h) s (cursor_in h s m) node t held ≡ view_written h (prefixes_held h) s m node t held
unfolding rest_written view_written
rest_written_lem h s m node t held w = sym (λ i. findings_kept (view_replaced (w.bytes i) node (w.number i) (w.last i)) t held)

-- and so many are made
rest_made_lem : (h : Bytes) (s : ViewBits) (m : ℕ) → Rest h s m (cursor_in h s m) → rest_made h (prefixes_held h) s (cursor_in h s m) ≡ made_in h s m
unfolding rest_made made_in
rest_made_lem h s m w = sym (ap (λ (k : ℕ). k - prefixes_held h) w.counts)

-- as many are made as judging found missing
pub made_is_missing : (h : Bytes) (s : ViewBits) (m : ℕ) → well_formed h ≡ true → Walk s first_entry m → made_in h s m ≡ missing_in h s m
unfolding made_in
made_is_missing h s m right w = let a = front_count h s m right w in omega arith

-- ---- the answer

module _ {h : Bytes} {s : ViewBits} {m node missing held count : ℕ} {r : FrontCursor} {t : Bytes} (right : well_formed h ≡ true) (walk : ∥ Walk s first_entry m ∥₁)
    (j : ViewJudged h s m node missing held r t) (e : count ≡ prefixes_held h) where
  total : count + missing ≡ prefixes_held h + missing_in h s m
  total = λ i. e i + j.lack i

  rest : Rest h s m (cursor_in h s m)
  rest = rest_of h (formed h right) s m (walked s first_entry m walk)

  pub total_small : count + missing ≤ 768
  total_small = (let a = total in let b = (formed h right).prefixes in let c = missing_most h s m (walked s first_entry m walk) in omega arith)

  -- told the limit as it was read
  module _ {most limit : ℕ} (em : most ≡ limit) where
    pub observed_six : most < count + missing → Gives (view_step limit h s m node) (Err Refusal.PrefixesFull) h
    unfolding view_step
    observed_six l =
        let b : ltb limit (prefixes_held h + missing_in h s m) ≡ true = lt-ltb limit _ (subst₂ (λ (x y : ℕ). x < y) em total l) in
        ends _ (refusing Refusal.PrefixesFull h) (cond_true (ltb limit (prefixes_held h + missing_in h s m)) _ _ b)

    module _ (l : count + missing ≤ most) where
      no_six : view_step limit h s m node
          ≡ cond (ltb finding_limit (held_in h s m node)) (refusing Refusal.FindingsFull h) (accepting (made_in h s m) (view_written h (prefixes_held h) s m node (table_in h s m node) (held_in h s m node)))
      unfolding view_step
      no_six = cond_false (ltb limit (prefixes_held h + missing_in h s m)) _ _ (le-ltb limit _ (subst₂ (λ (x y : ℕ). x ≤ y) total em l))

      pub observed_seven : finding_limit < held → (q : Result Accepted Refusal) → q ≡ Err Refusal.FindingsFull → Gives (view_step limit h s m node) q h
      observed_seven g q eq =
          let b : ltb finding_limit (held_in h s m node) ≡ true = lt-ltb finding_limit _ (subst (λ (x : ℕ). finding_limit < x) j.holds g) in
          refuses_with _ h Refusal.FindingsFull (no_six ∙ cond_true (ltb finding_limit (held_in h s m node)) _ _ b) q eq h refl

      pub observed_ok : held ≤ finding_limit → (v : ℕ) (u : Bytes) → (v ≡ rest_made h count s r) × (u ≡ rest_written h count s r node t held)
          → (q : Result Accepted Refusal) → q ≡ accepted_with v → Gives (view_step limit h s m node) q u
      observed_ok g v u w q eq =
          let b : ltb finding_limit (held_in h s m node) ≡ false = le-ltb finding_limit _ (subst (λ (x : ℕ). x ≤ finding_limit) j.holds g) in
          accepts_with _ _ (made_in h s m) (no_six ∙ cond_false (ltb finding_limit (held_in h s m node)) _ _ b) q
          (eq ∙ ap accepted_with (w.0 ∙ (λ i. rest_made h (e i) s (j.cursor i)) ∙ rest_made_lem h s m rest)) u
          (w.1 ∙ (λ i. rest_written h (e i) s (j.cursor i) node (j.table i) (j.holds i)) ∙ rest_written_lem h s m node _ _ rest)

      -- there is room for what is missing
      pub observed_room : limit ≤ prefix_limit → Storing h count s r
      observed_room g =
          record {
            right = right;
            count = e;
            walkable = subst₂ (Walkable s) (sym e) (sym j.cursor) (cursor_in_walkable h s m (walked s first_entry m walk));
            next = ap (λ (x : FrontCursor). x.index.0) j.cursor ∙ rest.next ∙ sym (ap (λ (x : FrontCursor). next_index h x.prefix.0) j.cursor);
            room = subst (λ (x : ℕ). x ≤ prefix_limit)
                (sym ((λ i. written_count h (e i) (j.cursor i).prefix.0 (j.cursor i).index.0 (front_at s (j.cursor i))) ∙ missing_count h s m))
                (let a = total in let b = em in omega arith);
          }

-- the table with its LG-03 is as long as the history's
pub table_length : (h : Bytes) (s : ViewBits) (m node : ℕ) → well_formed h ≡ true → length (table_in h s m node) ≡ findings_length
unfolding table_in
table_length h s m node right = all_length (notes_in h s m node) (findings_part h) (findings_held h) ∙ findings_long h right
