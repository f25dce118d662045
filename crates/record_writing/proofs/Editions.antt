-- A view that was read in one edition is read from its fields in the other, where that one can show it.
-- Assumes nothing.
use Prim.Native.Nat.{ℕ, zero, suc, ◌+◌, ◌^◌, ◌<◌}
use mathlib.Core.Path.{◌≡◌, refl, ap, sym, subst, ◌∙◌}
use mathlib.Core.Bool.{Bool, true, false, not, ◌&&◌, ◌||◌}
use mathlib.Core.List.{List, [], ◌∷◌}
use native.Mathlib.Omega.{arith}
use lib.ListN.{length}
use Rattle.model.specs.Sizes.{Bytes, index_limit, content_limit}
use Rattle.model.specs.Record.{Shown, Record, view, commit, terms, election, check, rows, leader}
use Rattle.model.specs.Reading.{got, Reader, many}
use Rattle.storage_bytes.specs.Lists.{every}
use Rattle.storage_bytes.proofs.ListLaws.{both}
use Rattle.record_entries.specs.BitLayout.{index_of}
use Rattle.record_entries.proofs.Given.{got_same, went}
use Rattle.record_writing.specs.Spans.{Span, span, bit, content_spans, mark_spans, entry_spans, all_spans, spans, unmarked, shows}
use Rattle.record_writing.specs.Format.{view_kind, content, limited, yes_no, entry_index, mark, shown, view_fields, fields_of}
use Rattle.record_writing.specs.Puts.{fits}
use Rattle.record_writing.proofs.Puts.{every_append}
use Rattle.record_writing.proofs.Listed.{every_join}
use Rattle.record_writing.proofs.Taken.{Source, Takes, takes_both, same_many}
use Rattle.record_writing.proofs.Formats.{kind_marked, same_entry_index, same_limited, same_content, same_shown}
use Rattle.record_writing.proofs.Sources.{Whole, record_of}

-- an edition shows an entry's mark, or there is none to show
abbrev Kept : Bool → Bool → Type 0
Kept marked m = marked || not m ≡ true

kept_cons : (marked m b : Bool) → marked || (not m && b) ≡ true → Kept marked m × (marked || b ≡ true)
kept_cons true m b e = (refl, refl)
kept_cons false m b e = both (not m) b e

-- ---- the fields of the other edition fit too

mark_fits : (from to m : Bool) (xs : List Span) → every fits (mark_spans from m xs) ≡ true → every fits (mark_spans to m xs) ≡ true
unfolding every
mark_fits true true m xs e = e
mark_fits true false m xs e = (both (fits (bit m)) (every fits xs) e).1
mark_fits false true true xs e = e
mark_fits false true false xs e = e
mark_fits false false m xs e = e

module _ (from to : Bool) where
  entry_fits : (x : Shown) → every fits (entry_spans from x) ≡ true → every fits (entry_spans to x) ≡ true
  unfolding every
  entry_fits x e =
      let rest : Bool → List Span = λ b. mark_spans b x.entry.configuration (span 6 (length x.entry.content) ∷ content_spans x.entry.content) in
      let a = both (fits (span 10 x.index)) (every fits (span 32 x.entry.term ∷ rest from)) e in
      let b = both (fits (span 32 x.entry.term)) (every fits (rest from)) a.1 in
      let c = mark_fits from to x.entry.configuration _ b.1 in
      λ i. a.0 i && (b.0 i && c i)

  entries_fit : (es : List Shown) → every fits (all_spans (entry_spans from) es) ≡ true → every fits (all_spans (entry_spans to) es) ≡ true
  unfolding all_spans
  entries_fit [] e = e
  entries_fit (x ∷ xs) e =
      let a = every_append (entry_spans from x) (all_spans (entry_spans from) xs) e in
      every_join fits (entry_spans to x) (all_spans (entry_spans to) xs) (entry_fits x a.0) (entries_fit xs a.1)

  kind_fits : (marked : Bool) → fits (span 4 (view_kind marked)) ≡ true
  kind_fits true = refl
  kind_fits false = refl

  pub other_fits : (r : Record) → every fits (spans from r) ≡ true → every fits (spans to r) ≡ true
  unfolding spans every
  other_fits (view n es) e =
      let es' : List Span = all_spans (entry_spans from) es in
      let a = both (fits (span 4 (view_kind from))) (every fits (span 6 n ∷ span 10 (length es) ∷ es')) e in
      let b = both (fits (span 6 n)) (every fits (span 10 (length es) ∷ es')) a.1 in
      let c = both (fits (span 10 (length es))) (every fits es') b.1 in
      let d = entries_fit es c.1 in
      λ i. kind_fits to i && (b.0 i && (c.0 i && d i))
  other_fits (commit n i) e = e
  other_fits (terms o n t) e = e
  other_fits (election l t p n) e = e
  other_fits check e = e
  other_fits (rows rs) e = e
  other_fits (leader n t) e = e

-- ---- reading them

kind_view : (p : Source) (marked : Bool) → fields_of p (view_kind marked) ≡ view_fields p marked
unfolding fields_of
kind_view p true = refl
kind_view p false = refl

module _ (p q : Source) (below : (w : ℕ) (s : Bytes) (k v j : ℕ) → p w s k ≡ got v j → v < 2 ^ w) (from to : Bool) where
  -- a mark, and what stands behind it
  record Mark (m : Bool) (xs : List Span) (u : Bytes) (i l : ℕ) : Type 0 where
    pub place : ℕ
    pub read : mark q to u i ≡ got m place
    pub then : Takes q u xs place l

  one_mark : (b m : Bool) (xs : List Span) (u : Bytes) (i l : ℕ) → b ≡ to → Kept b m → Takes q u (mark_spans b m xs) i l → Mark m xs u i l
  unfolding mark yes_no
  one_mark true true xs u i l z h t = record { place = t.place; read = rw (sym z, t.read) refl; then = t.then }
  one_mark true false xs u i l z h t = record { place = t.place; read = rw (sym z, t.read) refl; then = t.then }
  one_mark false true xs u i l z h t = absurd (let y : ◌≡◌ {A = ℕ} 0 1 = cc in omega arith)
  one_mark false false xs u i l z h t = record { place = i; read = rw (sym z) refl; then = t }

  -- an entry
  shown_other : (s u : Bytes) (least k : ℕ) (x : Shown) (j : ℕ) → shown p from least s k ≡ got x j → Kept to x.entry.configuration
      → (i l : ℕ) → Takes q u (entry_spans to x) i l → shown q to least u i ≡ got x l
  unfolding shown
  shown_other s u least k x j r h i l t =
      let g₁ = went s (entry_index p least s k) _ r in
      let g₂ = went s (p 32 s g₁.place) _ g₁.rest in
      let g₃ = went s (mark p from s g₂.place) _ g₂.rest in
      let g₄ = went s (limited p 6 content_limit s g₃.place) _ g₃.rest in
      let g₅ = went s (content p g₄.value s g₄.place) _ g₄.rest in
      let v = (got_same g₅.rest).0 in
      let a = same_entry_index p q below least s k g₁.value g₁.place g₁.first in
      let b = same_limited p q below 6 content_limit s g₃.place g₄.value g₄.place g₄.first in
      let c = same_content p q below g₄.value s g₄.place g₅.value g₅.place g₅.first in
      let kept : Kept to g₃.value = rw v at h in
      let t' = subst (λ (y : Shown). Takes q u (entry_spans to y) i l) v t in
      let m = one_mark to g₃.value _ u t'.then.place l refl kept t'.then.then in
      let index = a.again u i t'.place (rw a.holds (record { place = t'.place; read = t'.read; then = refl })) in
      let count = m.then in
      let length_is : length g₅.value ≡ g₄.value = c.holds.1 in
      let small : limited q 6 content_limit u m.place ≡ got g₄.value count.place
      = b.again u m.place count.place (rw b.holds (record { place = count.place; read = count.read ∙ ap (λ (n : ℕ). got n count.place) length_is; then = refl })) in
      let bytes : content q g₄.value u count.place ≡ got g₅.value l = c.again u count.place l (rw c.holds.0 count.then) in
      rw (v, index, t'.then.read, m.read, small, bytes) refl

  -- a view's entries
  entries_other : (s u : Bytes) (n least k : ℕ) (es : List Shown) (j : ℕ) → many (shown p from) index_of least n s k ≡ got es j
      → to || unmarked es ≡ true
      → (i l : ℕ) → Takes q u (all_spans (entry_spans to) es) i l → many (shown q to) index_of least n u i ≡ got es l
  unfolding many all_spans unmarked
  entries_other s u zero least k es j r h i l t =
      let v = (got_same r).0 in
      let t' : i ≡ l = subst (λ (ys : List Shown). Takes q u (all_spans (entry_spans to) ys) i l) v t in
      λ d. got (sym v d) (t' d)
  entries_other s u (suc n) least k es j r h i l t =
      let g = went s (shown p from least s k) _ r in
      let f = went s (many (shown p from) index_of (index_of g.value + 1) n s g.place) _ g.rest in
      let v = (got_same f.rest).0 in
      let c = kept_cons to g.value.entry.configuration (unmarked f.value) (subst (λ (ys : List Shown). to || unmarked ys ≡ true) v h) in
      let d = takes_both q u (entry_spans to g.value) (all_spans (entry_spans to) f.value) i l (subst (λ (ys : List Shown). Takes q u (all_spans (entry_spans to) ys) i l) v t) in
      rw (v, shown_other s u least k g.value g.place g.first c.0 i d.place d.before, entries_other s u n (index_of g.value + 1) g.place f.value f.place f.first c.1 d.place l d.after) refl

  -- a view
  view_other : (s u : Bytes) (k : ℕ) (r : Record) (j : ℕ) → view_fields p from s k ≡ got r j → shows to r ≡ true
      → (i l : ℕ) → Takes q u (spans to r) i l → record_of q u i ≡ got r l
  unfolding view_fields spans
  view_other s u k r j e h i l t =
      let g₁ = went s (p 6 s k) _ e in
      let g₂ = went s (limited p 10 index_limit s g₁.place) _ g₁.rest in
      let g₃ = went s (many (shown p from) index_of 0 g₂.value s g₂.place) _ g₂.rest in
      let v = (got_same g₃.rest).0 in
      let t' = subst (λ (y : Record). Takes q u (spans to y) i l) v t in
      let rest = t'.then.then in
      let b = same_limited p q below 10 index_limit s g₁.place g₂.value g₂.place g₂.first in
      let c = same_many p q (entry_spans from) (shown p from) (shown q from) index_of (same_shown p q below from) 0 g₂.value s g₂.place g₃.value g₃.place g₃.first in
      let count : limited q 10 index_limit u t'.then.place ≡ got g₂.value rest.place
      = b.again u t'.then.place rest.place (rw b.holds (record { place = rest.place; read = rest.read ∙ ap (λ (n : ℕ). got n rest.place) c.holds.1; then = refl })) in
      let items = entries_other s u g₂.value 0 g₂.place g₃.value g₃.place g₃.first (subst (λ (y : Record). shows to y ≡ true) v h) rest.place l rest.then in
      rw (v, t'.read, kind_view q to, t'.then.read, count, items) refl

-- a record
module _ (p q : Source) (below : (w : ℕ) (s : Bytes) (k v j : ℕ) → p w s k ≡ got v j → v < 2 ^ w) (s u : Bytes) (k j : ℕ) (to : Bool) (i l : ℕ) where
  -- the kind of a view is that of its edition
  kind_of_view : (n : ℕ) (es : List Shown) (kind : ℕ) (xs : List Span) → span 4 kind ∷ xs ≡ spans (kind_marked kind) (view n es)
      → kind ≡ view_kind (kind_marked kind)
  unfolding spans
  kind_of_view n es kind xs e = ap first e
    where
      first : List Span → ℕ
      first [] = 0
      first (x ∷ xs) = x.value

  pub read_other : (r : Record) → Whole p q s k r j → shows to r ≡ true → Takes q u (spans to r) i l → record_of q u i ≡ got r l
  unfolding spans
  read_other (view n es) w h t =
      let z = kind_of_view n es w.kind w.behind w.spelled in
      let e = sym (ap (λ (kind : ℕ). fields_of p kind s w.place) z ∙ ap (λ (f : Reader Record). f s w.place) (kind_view p (kind_marked w.kind))) ∙ w.fields in
      view_other p q below (kind_marked w.kind) to s u w.place (view n es) j e h i l t
  read_other (commit n c) w h t = w.again u i l t
  read_other (terms o n c) w h t = w.again u i l t
  read_other (election a b c d) w h t = w.again u i l t
  read_other check w h t = w.again u i l t
  read_other (rows rs) w h t = w.again u i l t
  read_other (leader n c) w h t = w.again u i l t
