-- Reading gives no refusal but the five faults of reading. So of any bytes the head of what the model reads is told.
-- Assumes nothing.
use Prim.Native.Nat.{ℕ, zero, suc, ◌+◌, ◌*◌}
use mathlib.Core.Path.{◌≡◌, refl, ap, sym, subst}
use native.Mathlib.Omega.{arith}
use mathlib.Core.Bool.{Bool, true, false, cond}
use mathlib.Core.List.{List}
use lib.Dec.{eqb, leb, ltb}
use lib.ListN.{length}
use Rattle.model.specs.Sizes.{Bytes, index_limit}
use Rattle.model.specs.Refusal.{Refusal, bitsMissing, filling, outOfLimit, notAbove}
use Rattle.model.specs.Record.{Shown, Row, Record, view, commit, terms, election, check, rows, leader}
use Rattle.model.specs.Reading.{Reading, readable, unreadable, Part, got, fault, Reader, onward, field_at, bytes_at, field, limited, yes_no, content, governed, entry_index, row_node, many, mark, shown, configuration, row, view_fields, commit_fields, terms_fields, election_fields, rows_fields, fields_of, filled, finish, record_fields, read, leader_fields}
use Rattle.record_bits.specs.Answers.{refusal_of}
use Rattle.record_reading.specs.Heads.{fault_of, reading_of, head_of, Told}
use Rattle.record_reading.proofs.Readable.{view_read, rows_read, told, election_read}
use Rattle.record_reading.proofs.Heads.{kept_length}
use Rattle.std.specs.Bool.{then_some}

-- ---- a part is a value, or a fault of reading

abbrev IsFault : Refusal → Type 0
IsFault r = refusal_of (fault_of r) ≡ r

unfoldable Plain : {A : Type 0} → Part A → Type 0
Plain (got a k) = Unit {0}
Plain (fault r) = IsFault r

got_plain : {A : Type 0} (a : A) (k : ℕ) → Plain (got a k)
unfolding Plain
got_plain a k = tt

fault_plain : (A : Type 0) (r : Refusal) → IsFault r → Plain {A = A} (fault r)
unfolding Plain
fault_plain A r e = e

onward_plain : {A B : Type 0} (s : Bytes) (p : Part A) (f : A → Reader B) → Plain p → ((a : A) (k : ℕ) → Plain (f a s k)) → Plain (onward s p f)
unfolding Plain
onward_plain s (got a k) f e g = g a k
onward_plain s (fault r) f e g = e

-- a value, or a fault where a test fails
test_plain : {A : Type 0} (b : Bool) (a : A) (k : ℕ) (r : Refusal) → IsFault r → Plain (cond b (got a k) (fault r))
test_plain true a k r e = got_plain a k
test_plain false a k r e = fault_plain _ r e

-- ---- fields

module _ (s : Bytes) where
  field_plain : (w k : ℕ) → Plain (field w s k)
  unfolding field
  field_plain w k = test_plain (leb (k + w) (8 * length s)) (field_at s k w) (k + w) bitsMissing refl

  limited_plain : (w m k : ℕ) → Plain (limited w m s k)
  unfolding limited
  limited_plain w m k = onward_plain s (field w s k) _ (field_plain w k) (λ v j. test_plain (leb v m) v j outOfLimit refl)

  yes_no_plain : (k : ℕ) → Plain (yes_no s k)
  unfolding yes_no
  yes_no_plain k = onward_plain s (field 1 s k) _ (field_plain 1 k) (λ v j. got_plain _ _)

  content_plain : (n k : ℕ) → Plain (content n s k)
  unfolding content
  content_plain n k = test_plain (leb (k + 8 * n) (8 * length s)) (bytes_at s k n) (k + 8 * n) bitsMissing refl

  governed_plain : (b : Bool) (w m k : ℕ) → Plain (governed b w m s k)
  unfolding governed
  governed_plain b w m k = limited_plain w (cond b m 0) k

  entry_index_plain : (least k : ℕ) → Plain (entry_index least s k)
  unfolding entry_index
  entry_index_plain least k =
      onward_plain s (limited 10 index_limit s k) _ (limited_plain 10 index_limit k) (λ i j.
      onward_plain s (cond (ltb 0 i) (got i j) (fault outOfLimit)) _ (test_plain (ltb 0 i) i j outOfLimit refl) (λ a l. test_plain (leb least a) a l notAbove refl))

  row_node_plain : (least k : ℕ) → Plain (row_node least s k)
  unfolding row_node
  row_node_plain least k = onward_plain s (field 6 s k) _ (field_plain 6 k) (λ n j. test_plain (leb least n) n j notAbove refl)

  -- ---- entries and rows

  many_plain : {A : Type 0} (item : ℕ → Reader A) (key : A → ℕ) → ((least k : ℕ) → Plain (item least s k)) → (n least k : ℕ)
      → Plain (many item key least n s k)
  unfolding many
  many_plain item key f zero least k = got_plain _ _
  many_plain item key f (suc n) least k =
      onward_plain s (item least s k) _ (f least k) (λ x j.
      onward_plain s (many item key (key x + 1) n s j) _ (many_plain item key f n (key x + 1) j) (λ xs l. got_plain _ _))

  mark_plain : (m : Bool) (k : ℕ) → Plain (mark m s k)
  unfolding mark
  mark_plain true k = yes_no_plain k
  mark_plain false k = got_plain _ _

  shown_plain : (m : Bool) (least k : ℕ) → Plain (shown m least s k)
  unfolding shown
  shown_plain m least k =
      onward_plain s (entry_index least s k) _ (entry_index_plain least k) (λ i k₁.
      onward_plain s (field 32 s k₁) _ (field_plain 32 k₁) (λ t k₂.
      onward_plain s (mark m s k₂) _ (mark_plain m k₂) (λ b k₃.
      onward_plain s (limited 6 32 s k₃) _ (limited_plain 6 32 k₃) (λ n k₄.
      onward_plain s (content n s k₄) _ (content_plain n k₄) (λ c k₅. got_plain _ _)))))

  configuration_plain : (k : ℕ) → Plain (configuration s k)
  unfolding configuration
  configuration_plain k =
      onward_plain s (yes_no s k) _ (yes_no_plain k) (λ p k₁.
      onward_plain s (governed p 10 index_limit s k₁) _ (governed_plain p 10 index_limit k₁) (λ i k₂.
      onward_plain s (governed p 32 _ s k₂) _ (governed_plain p 32 _ k₂) (λ d k₃. got_plain _ _)))

  row_plain : (least k : ℕ) → Plain (row least s k)
  unfolding row
  row_plain least k =
      onward_plain s (row_node least s k) _ (row_node_plain least k) (λ n k₁.
      onward_plain s (limited 10 index_limit s k₁) _ (limited_plain 10 index_limit k₁) (λ f k₂.
      onward_plain s (limited 10 index_limit s k₂) _ (limited_plain 10 index_limit k₂) (λ c k₃.
      onward_plain s (limited 10 index_limit s k₃) _ (limited_plain 10 index_limit k₃) (λ l k₄.
      onward_plain s (configuration s k₄) _ (configuration_plain k₄) (λ fc k₅.
      onward_plain s (configuration s k₅) _ (configuration_plain k₅) (λ ac k₆. got_plain _ _))))))

  -- ---- kinds

  view_plain : (m : Bool) (k : ℕ) → Plain (view_fields m s k)
  unfolding view_fields
  view_plain m k =
      onward_plain s (field 6 s k) _ (field_plain 6 k) (λ n k₁.
      onward_plain s (limited 10 index_limit s k₁) _ (limited_plain 10 index_limit k₁) (λ c k₂.
      onward_plain s (many (shown m) _ 0 c s k₂) _ (many_plain (shown m) _ (shown_plain m) c 0 k₂) (λ es k₃. got_plain _ _)))

  commit_plain : (k : ℕ) → Plain (commit_fields s k)
  unfolding commit_fields
  commit_plain k =
      onward_plain s (field 6 s k) _ (field_plain 6 k) (λ n k₁.
      onward_plain s (limited 10 index_limit s k₁) _ (limited_plain 10 index_limit k₁) (λ i k₂. got_plain _ _))

  terms_plain : (k : ℕ) → Plain (terms_fields s k)
  unfolding terms_fields
  terms_plain k =
      onward_plain s (limited 10 index_limit s k) _ (limited_plain 10 index_limit k) (λ o k₁.
      onward_plain s (limited 10 index_limit s k₁) _ (limited_plain 10 index_limit k₁) (λ n k₂.
      onward_plain s (field 32 s k₂) _ (field_plain 32 k₂) (λ t k₃. got_plain _ _)))

  election_plain : (k : ℕ) → Plain (election_fields s k)
  unfolding election_fields
  election_plain k =
      onward_plain s (field 6 s k) _ (field_plain 6 k) (λ l k₁.
      onward_plain s (field 32 s k₁) _ (field_plain 32 k₁) (λ t k₂.
      onward_plain s (yes_no s k₂) _ (yes_no_plain k₂) (λ p k₃.
      onward_plain s (governed p 10 index_limit s k₃) _ (governed_plain p 10 index_limit k₃) (λ n k₄. got_plain _ _))))

  rows_plain : (k : ℕ) → Plain (rows_fields s k)
  unfolding rows_fields
  rows_plain k =
      onward_plain s (limited 10 index_limit s k) _ (limited_plain 10 index_limit k) (λ c k₁.
      onward_plain s (many row _ 0 c s k₁) _ (many_plain row _ row_plain c 0 k₁) (λ rs k₂. got_plain _ _))

  leader_plain : (k : ℕ) → Plain (leader_fields s k)
  unfolding leader_fields
  leader_plain k =
      onward_plain s (field 6 s k) _ (field_plain 6 k) (λ n k₁.
      onward_plain s (field 32 s k₁) _ (field_plain 32 k₁) (λ t k₂. got_plain _ _))

  pick_plain : (b : Bool) (f g : Reader Record) (k : ℕ) → Plain (f s k) → Plain (g s k) → Plain (cond b f g s k)
  pick_plain true f g k e d = e
  pick_plain false f g k e d = d

  kind_plain : (kind k : ℕ) → Plain (fields_of kind s k)
  unfolding fields_of
  kind_plain kind k =
      pick_plain (eqb kind 1) _ _ k (view_plain false k)
      (pick_plain (eqb kind 2) _ _ k (commit_plain k)
      (pick_plain (eqb kind 3) _ _ k (terms_plain k)
      (pick_plain (eqb kind 4) _ _ k (election_plain k)
      (pick_plain (eqb kind 5) _ _ k (got_plain check k)
      (pick_plain (eqb kind 6) _ _ k (rows_plain k)
      (pick_plain (eqb kind 7) _ _ k (leader_plain k)
      (pick_plain (eqb kind 9) _ _ k (view_plain true k) (fault_plain Record _ refl))))))))

  -- ---- the whole record

  record_plain : Plain (record_fields s 0)
  unfolding record_fields
  record_plain = onward_plain s (field 4 s 0) fields_of (field_plain 4 0) (λ kind k. kind_plain kind k)

  finish_plain : (p : Part Record) (r : Refusal) → Plain p → finish s p ≡ unreadable r → IsFault r
  unfolding Plain
  finish_plain (got q k) r e f = go (filled s k) f
    where
      go : (b : Bool) → cond b (readable q) (unreadable filling) ≡ unreadable r → IsFault r
      go true f = absurd (let z : ◌≡◌ {A = ℕ} 0 1 = cc in omega arith)
      go false f = (let z : filling ≡ r = cc in subst IsFault z refl)
  finish_plain (fault q) r e f = (let z : q ≡ r = cc in subst IsFault z e)

  -- what the model reads is what its head stands for
  back : (d : Reading) → read s ≡ d → d ≡ reading_of s (head_of d)
  unfolding read
  back (readable (view n es)) e = ap (λ (l : List Shown). readable (view n l)) (view_read s n es e).entries
  back (readable (commit n i)) e = refl
  back (readable (terms o n t)) e = refl
  back (readable (election l t p n)) e = kept_length l t p n (election_read s l t p n e) (then_some p n) refl
  back (readable check) e = refl
  back (readable (rows rs)) e = ap (λ (l : List Row). readable (rows l)) (rows_read s rs e).values
  back (readable (leader n t)) e = refl
  back (unreadable r) e = ap unreadable (sym (finish_plain (record_fields s 0) r record_plain e))

  pub told_always : Told s (head_of (read s))
  told_always = told s (head_of (read s)) (back (read s) refl)
