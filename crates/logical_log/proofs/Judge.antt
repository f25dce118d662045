-- What the judging walks along a front mean: how many of its prefixes are not stored, and its LG-03.
-- Assumes nothing.
use Prim.Native.Nat.{ℕ, zero, suc, ◌+◌, ◌-◌, ◌<◌, ◌≤◌}
use native.Mathlib.Omega.{arith}
use mathlib.Core.Path.{◌≡◌, refl, sym, ◌∙◌, ap, subst}
use mathlib.Core.Bool.{Bool, true, false, cond, not, ◌&&◌}
use mathlib.Core.List.{List, [], ◌∷◌, ◌++◌}
use lib.Dec.{eqb}
use lib.ListN.{length, length-append}
use borrow.Author.Tests.{ne_eqb}
use Rattle.model.specs.Entry.{Entry, Prefix, same, last_term}
use Rattle.model.specs.Record.{front_from}
use Rattle.model.specs.History.{Finding}
use Rattle.model.specs.View.{prefixes_from, remembered, differing, mismatch, mismatches}
use Rattle.model.specs.Sizes.{content_limit}
use Rattle.model.proofs.Tests.{no_same}
use Rattle.record_entries.specs.BitLayout.{ViewBits, Walk, next_at, shown_at, entries_at, items_at}
use Rattle.storage.specs.Tables.{PrefixRow}
use Rattle.storage.specs.Decode.{prefix_at, resolve}
use Rattle.storage.specs.Rules.{same_row}
use Rattle.storage.proofs.RowFacts.{Facts, row_at, entry_after, nil≢snoc, snoc_injective}
use Rattle.log_prefix.specs.Prefix.{row_of, search_from, find, first}
use Rattle.log_prefix.specs.Comparison.{same_from}
use Rattle.logical_log.specs.Judging.{differs, other, is_remembered, note_of, lack_notes, next_number, front_at, ends_at, cursor_from, stored_notes, notes_from}
use Rattle.logical_log.specs.declared.judging.FrontCursor.{FrontCursor}
use Rattle.log_prefix.specs.Extension.{or_next}
use Rattle.log_prefix.proofs.PrefixLaws.{Rows, found, missing, first_some, first_none, last_term_snoc}
use Rattle.log_prefix.proofs.ComparisonLaws.{same_prefix}
use Rattle.log_prefix.proofs.Extend.{extend_rows, extend_number, extend_all}
use Rattle.logical_log.proofs.Cursors.{Turn, gap, lost, more, turn, next, ends_gap, ends_lost, goes_on, cursor_stays, cursor_goes, notes_stay, notes_go, front_suc, front_cut, front_zero, walk_more, content_short}

-- ---- searches that see the same rows find the same

search_ext : (f g : ℕ → Bool) (k n : ℕ) → ((j : ℕ) → k ≤ j → j < k + n → f j ≡ g j) → search_from f k n ≡ search_from g k n
unfolding search_from
search_ext f g k zero e = refl
search_ext f g k (suc n) e =
    let a = e k (omega arith) (omega arith) in
    let b = search_ext f g (k + 1) n (λ j l m. e j (omega arith) (omega arith)) in
    λ i. cond (a i) (k + 1) (b i)

pub find_ext : (row : ℕ → PrefixRow) (rs : List PrefixRow) → Rows row rs → (r : PrefixRow)
    → find row (length rs) r ≡ find (row_at rs) (length rs) r
unfolding find
find_ext row rs at r =
    search_ext (λ k. same_row (row k) r) (λ k. same_row (row_at rs k) r) r.parent (length rs - r.parent)
    (λ j l m. ap (λ (x : PrefixRow). same_row x r) (at j (omega arith)))

-- the search does not look at the index
pub find_index : (row : ℕ → PrefixRow) (n p i j : ℕ) (e : Entry) → find row n (row_of p i e) ≡ find row n (row_of p j e)
unfolding find same_row
find_index row n p i j e = refl

-- ---- how many are not stored: as many as are made when the front is written

-- each is made after the last row
made : (es : List Entry) (rs : List PrefixRow) (i : ℕ) → length (extend_all rs (length rs) i es) ≡ length rs + length es
unfolding extend_all extend_rows extend_number find
made [] rs i = omega arith
made (e ∷ es) rs i =
    let r = row_of (length rs) i e in
    let k : search_from (λ j. same_row (row_at rs j) r) (length rs) (length rs - length rs) ≡ 0 =
    ap (search_from (λ j. same_row (row_at rs j) r) (length rs)) (let z : length rs - length rs ≡ 0 = omega arith in z) ∙ (unfold search_from in refl) in
    let more : length (rs ++ (r ∷ [])) ≡ length rs + 1 = length-append rs (r ∷ []) in
    ap (λ (x : ℕ). length (extend_all (cond (eqb x 0) (rs ++ (r ∷ [])) rs) (or_next x (length rs)) (i + 1) es)) k
    ∙ ap (λ (x : ℕ). length (extend_all (rs ++ (r ∷ [])) x (i + 1) es)) (sym more)
    ∙ made es (rs ++ (r ∷ [])) (i + 1)
    ∙ (let z : length (rs ++ (r ∷ [])) + length es ≡ length rs + suc (length es) = omega arith in z)

module _ (row : ℕ → PrefixRow) (rs : List PrefixRow) (rows : Rows row rs) where
  -- the search by place finds what the one by row finds
  found_same : (p i : ℕ) (e : Entry) → find (row_at rs) (length rs) (row_of p i e) ≡ next_number row (length rs) p e
  found_same p i e = sym (find_ext row rs rows (row_of p 0 e) ∙ find_index (row_at rs) (length rs) p 0 i e)

  -- one that is not stored is made, and each after it
  all_made : (p i : ℕ) (e : Entry) (es : List Entry) → next_number row (length rs) p e ≡ 0 → length rs + length (e ∷ es) ≡ length (extend_all rs p i (e ∷ es))
  unfolding extend_all extend_rows extend_number
  all_made p i e es z =
      let k = found_same p i e ∙ z in
      let more : length (rs ++ (row_of p i e ∷ [])) ≡ length rs + 1 = length-append rs (row_of p i e ∷ []) in
      let a = ap (λ (x : ℕ). length (extend_all (cond (eqb x 0) (rs ++ (row_of p i e ∷ [])) rs) (or_next x (length rs)) (i + 1) es)) k
      ∙ ap (λ (x : ℕ). length (extend_all (rs ++ (row_of p i e ∷ [])) x (i + 1) es)) (sym more)
      ∙ made es (rs ++ (row_of p i e ∷ [])) (i + 1) in
      omega arith

  -- one that is stored is not
  not_made : (p i : ℕ) (e : Entry) (es : List Entry) → (next_number row (length rs) p e ≡ 0 → ⊥)
      → extend_all rs p i (e ∷ es) ≡ extend_all rs (next_number row (length rs) p e) (i + 1) es
  unfolding extend_all extend_rows extend_number
  not_made p i e es z =
      let k = next_number row (length rs) p e in
      let d : eqb k 0 ≡ false = ne_eqb k 0 z in
      ap (λ (x : ℕ). extend_all (cond (eqb x 0) (rs ++ (row_of p i e ∷ [])) rs) (or_next x (length rs)) (i + 1) es) (found_same p i e)
      ∙ (λ j. extend_all (cond (d j) (rs ++ (row_of p i e ∷ [])) rs) (cond (d j) (length rs + 1) k) (i + 1) es)

  pub missing_made : (s : ViewBits) (n at i p : ℕ) → length rs + length (front_at s (cursor_from row (length rs) s at n i p)) ≡ length (extend_all rs p i (front_from i (entries_at s at n)))
  unfolding cursor_from extend_all
  missing_made s zero at i p = (let a = front_zero s at i in ap (λ (es : List Entry). length rs + length es) a ∙ (let z : length rs + 0 ≡ length rs = omega arith in z) ∙ sym (ap (λ (es : List Entry). length (extend_all rs p i es)) a))
  missing_made s (suc n) at i p = go (turn row (length rs) s at i p) (missing_made s n (next_at s at) (i + 1) (next row (length rs) s at i p))
    where
      ended : ends_at row (length rs) s at i p ≡ true
          → length rs + length (front_from i (entries_at s at (suc n))) ≡ length (extend_all rs p i (front_from i (entries_at s at (suc n))))
          → length rs + length (front_at s (cursor_from row (length rs) s at (suc n) i p)) ≡ length (extend_all rs p i (front_from i (entries_at s at (suc n))))
      ended e z = ap (λ (r : FrontCursor). length rs + length (front_at s r)) (cursor_stays row (length rs) s at i p n e) ∙ z

      go : Turn row (length rs) s at i p
          → length rs + length (front_at s (cursor_from row (length rs) s (next_at s at) n (i + 1) (next row (length rs) s at i p)))
          ≡ length (extend_all rs (next row (length rs) s at i p) (i + 1) (front_from (i + 1) (entries_at s (next_at s at) n)))
          → length rs + length (front_at s (cursor_from row (length rs) s at (suc n) i p)) ≡ length (extend_all rs p i (front_from i (entries_at s at (suc n))))
      go (gap g) ih =
          ended (ends_gap row (length rs) s at i p g)
          (subst (λ (es : List Entry). length rs + length es ≡ length (extend_all rs p i es)) (sym (front_cut s at n i g)) (let z : length rs + 0 ≡ length rs = omega arith in z))
      go (lost g z) ih =
          ended (ends_lost row (length rs) s at i p g z)
          (subst (λ (es : List Entry). length rs + length es ≡ length (extend_all rs p i es)) (sym (front_suc s at n i g)) (all_made p i (shown_at s at).entry (front_from (i + 1) (entries_at s (next_at s at) n)) z))
      go (more g z) ih =
          ap (λ (r : FrontCursor). length rs + length (front_at s r)) (cursor_goes row (length rs) s at i p n (goes_on row (length rs) s at i p g z))
          ∙ ih
          ∙ sym (ap length (ap (extend_all rs p i) (front_suc s at n i g) ∙ not_made p i (shown_at s at).entry (front_from (i + 1) (entries_at s (next_at s at) n)) z))

-- ---- its LG-03

module _ (row : ℕ → PrefixRow) (rs : List PrefixRow) (f : Facts rs) (at : Rows row rs) where
  -- no number stands for q
  abbrev Unstored : Prefix → Type 0
  Unstored q = (x : ℕ) → x ≤ length rs → prefix_at (resolve rs) x ≡ q → ⊥

  -- k is the number of q
  abbrev Numbers : ℕ → Prefix → Type 0
  Numbers k q = (k ≤ length rs) × (prefix_at (resolve rs) k ≡ q)

  -- what extends a prefix that is not stored is not stored
  unstored_next : (q : Prefix) (e : Entry) → Unstored q → Unstored (q ++ (e ∷ []))
  unstored_next q e u zero l w = nil≢snoc q e w
  unstored_next q e u (suc k) l w =
      let s = entry_after rs f k l in
      let par = f.parent k l in
      u (row_at rs k).parent (omega arith)
      (snoc_injective (prefix_at (resolve rs) (row_at rs k).parent) q (sym s ∙ w)).0

  -- the next number is that of the next prefix, which is not stored where there is none
  module _ (q : Prefix) (p : ℕ) (e : Entry) (short : length e.content ≤ content_limit) (s : Numbers p q) where
    next_none : next_number row (length rs) p e ≡ 0 → Unstored (q ++ (e ∷ []))
    next_none z y l w = missing row rs f at p 0 e s.0 short z y l (w ∙ ap (λ (t : Prefix). t ++ (e ∷ [])) (sym s.1))

    next_some : (next_number row (length rs) p e ≡ 0 → ⊥) → Numbers (next_number row (length rs) p e) (q ++ (e ∷ []))
    next_some o = go (next_number row (length rs) p e) refl
      where
        go : (k : ℕ) → next_number row (length rs) p e ≡ k → Numbers (next_number row (length rs) p e) (q ++ (e ∷ []))
        go zero z = absurd (o z)
        go (suc x) z =
            let y = found row rs f at p 0 e s.0 short x z in
            subst (λ (k : ℕ). Numbers k (q ++ (e ∷ []))) (sym z) (y.0, y.1 ∙ ap (λ (t : Prefix). t ++ (e ∷ [])) s.1)

  -- ---- one entry

  module _ (n : ℕ) (q : Prefix) (i t : ℕ) (long : length q ≡ i) (term : last_term q ≡ t) where
    same_lg3 : (b : Bool) → cond b [] (record { name = 3; node = n; index = length q; term = last_term q } ∷ []) ≡ note_of (not b) n i t
    same_lg3 true = refl
    same_lg3 false = λ j. record { name = 3; node = n; index = long j; term = term j } ∷ []

    -- a remembered prefix, of number suc x, and whether it differs from q
    by_same : (x : ℕ) (b : Bool) → first row (length rs) i t ≡ suc x → not (same (prefix_at (resolve rs) (suc x)) q) ≡ b
        → note_of b n i t ≡ differing n q (remembered (resolve rs) i t)
    by_same x b z d =
        ap (λ (y : Bool). note_of y n i t) (sym d)
        ∙ sym (same_lg3 (same (prefix_at (resolve rs) (suc x)) q))
        ∙ sym (ap (differing n q) (first_some rs f row at i t x z).1)

    by_none : first row (length rs) i t ≡ 0 → (b : Bool) → b ≡ false → note_of b n i t ≡ differing n q (remembered (resolve rs) i t)
    by_none z b w = ap (λ (y : Bool). note_of y n i t) w ∙ sym (ap (differing n q) (first_none rs f row at i t z))

    is_mismatch : differing n q (remembered (resolve rs) i t) ≡ mismatch (resolve rs) n q
    unfolding mismatch
    is_mismatch = (let a = sym long in let b = sym term in λ j. differing n q (remembered (resolve rs) (a j) (b j)))

    -- its prefix is stored
    noted_entry : (k : ℕ) → Numbers k q → note_of (other row (length rs) i t k) n i t ≡ mismatch (resolve rs) n q
    unfolding other differs
    noted_entry k m = go (first row (length rs) i t) refl ∙ is_mismatch
      where
        go : (x : ℕ) → first row (length rs) i t ≡ x
            → note_of (not (eqb (first row (length rs) i t) 0) && not (same_from row (first row (length rs) i t) (first row (length rs) i t) k)) n i t ≡ differing n q (remembered (resolve rs) i t)
        go zero z =
            by_none z _ (ap (λ (x : ℕ). not (eqb x 0) && not (same_from row x x k)) z)
        go (suc x) z =
            let a : eqb (suc x) 0 ≡ false = ne_eqb (suc x) 0 (λ w. omega arith) in
            let r = first_some rs f row at i t x z in
            by_same x _ z
            (sym (ap (λ (y : ℕ). not (eqb y 0) && not (same_from row y y k)) z
            ∙ ap (λ (y : Bool). not y && not (same_from row (suc x) (suc x) k)) a
            ∙ ap not (same_prefix row rs f at (suc x) k r.0 m.0 ∙ ap (same (prefix_at (resolve rs) (suc x))) m.1)))

    -- it is not
    lacking_entry : Unstored q → note_of (is_remembered row (length rs) i t) n i t ≡ mismatch (resolve rs) n q
    unfolding is_remembered
    lacking_entry u = go (first row (length rs) i t) refl ∙ is_mismatch
      where
        go : (x : ℕ) → first row (length rs) i t ≡ x → note_of (not (eqb (first row (length rs) i t) 0)) n i t ≡ differing n q (remembered (resolve rs) i t)
        go zero z = by_none z _ (ap (λ (x : ℕ). not (eqb x 0)) z)
        go (suc x) z =
            let a : eqb (suc x) 0 ≡ false = ne_eqb (suc x) 0 (λ w. omega arith) in
            let r = first_some rs f row at i t x z in
            by_same x _ z
            (ap not (no_same (prefix_at (resolve rs) (suc x)) q (λ w. u (suc x) r.0 w))
            ∙ sym (ap (λ (y : ℕ). not (eqb y 0)) z ∙ ap not a))

  -- ---- the whole front

  next_length : (q : Prefix) (e : Entry) (i : ℕ) → length q + 1 ≡ i → length (q ++ (e ∷ [])) ≡ i
  next_length q e i long = length-append q (e ∷ []) ∙ long

  -- after a prefix that is not stored
  lack_are : (n : ℕ) (es : List Entry) (q : Prefix) (i : ℕ) → length q + 1 ≡ i → Unstored q
      → lack_notes row (length rs) n i es ≡ mismatches (resolve rs) n (prefixes_from q es)
  unfolding lack_notes mismatches prefixes_from
  lack_are n [] q i long u = refl
  lack_are n (e ∷ es) q i long u =
      let next = q ++ (e ∷ []) in
      let len = next_length q e i long in
      let a = lacking_entry n next i e.term len (last_term_snoc q e) (unstored_next q e u) in
      let b = lack_are n es next (i + 1) (ap (λ (x : ℕ). x + 1) len) (unstored_next q e u) in
      λ j. a j ++ b j

  -- from an entry on whose prefix is not stored
  lost_are : (n : ℕ) (e : Entry) (es : List Entry) (q : Prefix) (i : ℕ) → length q + 1 ≡ i → Unstored (q ++ (e ∷ []))
      → lack_notes row (length rs) n i (e ∷ es) ≡ mismatches (resolve rs) n (prefixes_from q (e ∷ es))
  unfolding lack_notes mismatches prefixes_from
  lost_are n e es q i long u =
      let len = next_length q e i long in
      let a = lacking_entry n (q ++ (e ∷ [])) i e.term len (last_term_snoc q e) u in
      let b = lack_are n es (q ++ (e ∷ [])) (i + 1) (ap (λ (x : ℕ). x + 1) len) u in
      λ j. a j ++ b j

  -- from an entry on whose prefix is stored
  stored_are : (n : ℕ) (e : Entry) (es : List Entry) (q : Prefix) (i k : ℕ) → length q + 1 ≡ i → Numbers k (q ++ (e ∷ [])) → (fs : List Finding)
      → fs ≡ mismatches (resolve rs) n (prefixes_from (q ++ (e ∷ [])) es)
      → note_of (other row (length rs) i e.term k) n i e.term ++ fs ≡ mismatches (resolve rs) n (prefixes_from q (e ∷ es))
  unfolding mismatches prefixes_from
  stored_are n e es q i k long m fs b =
      let a = noted_entry n (q ++ (e ∷ [])) i e.term (next_length q e i long) (last_term_snoc q e) k m in
      λ j. a j ++ b j

  pub notes_are : (n : ℕ) (s : ViewBits) (m k i p : ℕ) (q : Prefix) → Walk s k m → length q + 1 ≡ i → Numbers p q
      → notes_from row (length rs) n s k m i p ≡ mismatches (resolve rs) n (prefixes_from q (front_from i (entries_at s k m)))
  unfolding stored_notes cursor_from mismatches prefixes_from lack_notes front_from items_at
  notes_are n s zero k i p q w long y = refl
  notes_are n s (suc m) k i p q w long y =
      go (turn row (length rs) s k i p)
      (λ z. notes_are n s m (next_at s k) (i + 1) (next row (length rs) s k i p) (q ++ (e ∷ [])) (walk_more s k m w) (ap (λ (x : ℕ). x + 1) (next_length q e i long)) (next_some q p e short y z))
    where
      e : Entry
      e = (shown_at s k).entry

      es : List Entry
      es = front_from (i + 1) (entries_at s (next_at s k) m)

      short : length e.content ≤ content_limit
      short = content_short s k m w

      go : Turn row (length rs) s k i p
          → ((next row (length rs) s k i p ≡ 0 → ⊥)
          → notes_from row (length rs) n s (next_at s k) m (i + 1) (next row (length rs) s k i p)
          ≡ mismatches (resolve rs) n (prefixes_from (q ++ (e ∷ [])) es))
          → notes_from row (length rs) n s k (suc m) i p ≡ mismatches (resolve rs) n (prefixes_from q (front_from i (entries_at s k (suc m))))
      go (gap g) ih =
          notes_stay row (length rs) s k i p m n (ends_gap row (length rs) s k i p g)
          ∙ subst (λ (xs : List Entry). lack_notes row (length rs) n i xs ≡ mismatches (resolve rs) n (prefixes_from q xs)) (sym (front_cut s k m i g)) refl
      go (lost g z) ih =
          notes_stay row (length rs) s k i p m n (ends_lost row (length rs) s k i p g z)
          ∙ subst (λ (xs : List Entry). lack_notes row (length rs) n i xs ≡ mismatches (resolve rs) n (prefixes_from q xs)) (sym (front_suc s k m i g))
          (lost_are n e es q i long (next_none q p e short y z))
      go (more g z) ih =
          notes_go row (length rs) s k i p m n (goes_on row (length rs) s k i p g z)
          ∙ stored_are n e es q i (next row (length rs) s k i p) long (next_some q p e short y z) (notes_from row (length rs) n s (next_at s k) m (i + 1) (next row (length rs) s k i p)) (ih z)
          ∙ sym (ap (λ (xs : List Entry). mismatches (resolve rs) n (prefixes_from q xs)) (front_suc s k m i g))
