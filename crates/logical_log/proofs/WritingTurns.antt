-- The writing walk along a front, turn by turn. The bytes stay well formed, so the index after the prefix in hand is the next one
-- of the front.
-- Assumes nothing.
use Prim.Native.Nat.{ℕ, ◌+◌, ◌-◌, ◌<◌, ◌≤◌}
use native.Mathlib.Omega.{arith}
use mathlib.Core.Path.{◌≡◌, refl, sym, ◌∙◌, ap, subst, subst₂}
use mathlib.Core.Bool.{true}
use mathlib.Core.List.{[], ◌∷◌, ◌++◌}
use lib.ListN.{length, replicate, length-append}
use Rattle.model.specs.Entry.{Entry}
use Rattle.model.specs.Sizes.{Bytes, index_limit, content_limit, prefix_limit, term_end}
use Rattle.record_bits.proofs.Widths.{field_lt, bytes_length}
use Rattle.record_entries.specs.declared.walk.ShownEntry.{ShownEntry}
use Rattle.record_entries.specs.BitLayout.{ViewBits, length_at, content_at, content_place}
use Rattle.record_entries.specs.Values.{shown_entry}
use Rattle.record_entries.proofs.Walks.{here}
use Rattle.storage.specs.Decode.{prefix_at, decode}
use Rattle.storage.specs.Rules.{well_formed}
use Rattle.storage.specs.Head.{prefixes_held}
use Rattle.storage.proofs.Meanings.{Represents, number_length}
use Rattle.log_prefix.specs.Table.{entry_value}
use Rattle.logical_log.specs.Writing.{Storing, rest_made, StoredAs}
use Rattle.log_prefix.specs.Extension.{stored_content, next_index, extended_bytes, extended_count, extended_number, Extending, written_bytes, written_count, written_number}
use Rattle.logical_log.specs.declared.judging.FrontCursor.{FrontCursor}
use Rattle.units.specs.declared.LogPrefixWitness.{LogPrefixWitness}
use Rattle.logical_log.specs.Judging.{cursor_at, front_at}
use Rattle.logical_log.proofs.Turns.{entry_read, entry_short, walk_next, index_within, front_shown, front_gap, front_none}
use Rattle.log_prefix.proofs.Written.{value_length, Longer, count_grows, written_cons}
use Rattle.logical_log.proofs.StoredRows.{Step, extension_step}

-- an entry as it is read has zeros after its content
entry_padded : (s : ViewBits) (k : ℕ) (e : ShownEntry) → e ≡ shown_entry s k → length_at s k ≤ content_limit → e.content ≡ stored_content (entry_value e)
entry_padded s k e q h =
    ap (λ (x : ShownEntry). x.content) q
    ∙ ap (λ (m : ℕ). content_at s k ++ replicate (content_limit - m) 0) (sym (bytes_length s.bytes (k + content_place s.marked) (length_at s k)))
    ∙ ap stored_content (sym (entry_read s k e q h))

-- the index after an extension is one more
extended_index : (h : Bytes) (n p : ℕ) (e : Entry) (right : well_formed h ≡ true) → n ≡ prefixes_held h → p ≤ n → (h' : Bytes) (n' p' : ℕ)
    → Step h (decode h) n p e h' n' p' → next_index h' p' ≡ next_index h p + 1
extended_index h n p e right en hp h' n' p' a =
    let here = number_length h (decode h) (record { right = right; decodes = refl }) p (subst (λ (m : ℕ). p ≤ m) en hp) in
    let there = number_length h' _ a.represents p' (subst (λ (m : ℕ). p' ≤ m) a.holds a.within) in
    ap (λ (m : ℕ). m + 1)
    (there ∙ ap length a.is ∙ length-append (prefix_at (decode h).prefixes p) (e ∷ []) ∙ ap (λ (m : ℕ). m + 1) (sym here))

-- ---- storing goes on with an entry

module _ (h : Bytes) (n : ℕ) (s : ViewBits) (x : FrontCursor) (g : Storing h n s x) (l : 0 < x.left) (e : ShownEntry) (q : e ≡ shown_entry s x.at) where
  abbrev p : ℕ
  p = x.prefix.0

  abbrev i : ℕ
  i = x.index.0

  abbrev E : Entry
  E = entry_value e

  -- the place behind it, after the prefix of number k
  abbrev Behind : ℕ → FrontCursor
  Behind k = cursor_at e.next (x.left - 1) (i + 1) k

  index_is : e.index.0 ≡ next_index h p → e.index.0 ≡ i
  index_is o = o ∙ sym g.next

  steps : e.index.0 ≡ next_index h p → front_at s x ≡ E ∷ front_at s (Behind 0)
  steps o = front_shown s x.at x.left i e g.walkable.walk l q (index_is o)

  after : e.index.0 ≡ next_index h p
      → written_count h n p i (front_at s x) ≡ written_count (extended_bytes h n p i E) (extended_count h n p E) (extended_number h n p E) (i + 1) (front_at s (Behind 0))
  after o = ap (written_count h n p i) (steps o) ∙ (written_cons h n p i E (front_at s (Behind 0))).1

  room : e.index.0 ≡ next_index h p → extended_count h n p E ≤ prefix_limit
  room o =
      (let a = g.room in
      let b = after o in
      let c = count_grows (front_at s (Behind 0)) (extended_bytes h n p i E) (extended_count h n p E) (extended_number h n p E) (i + 1) in
      omega arith)

  pub writing_asks : Extending h n p e
  writing_asks =
      record {
        count = g.count;
        number = g.walkable.number;
        fits = (let a = g.room in let c = count_grows (front_at s x) h n p i in omega arith);
        room = room;
        short = entry_short s x.at x.left i g.walkable.walk l e q;
        padded = entry_padded s x.at e q (here s x.at x.left g.walkable.walk l).short;
      }

  module _ (o : e.index.0 ≡ next_index h p) where
    small : i ≤ index_limit
    small = index_within s x.at x.left i g.walkable.walk l e q (index_is o)

    extends : Step h (decode h) n p E (extended_bytes h n p i E) (extended_count h n p E) (extended_number h n p E)
    extends =
        let st : Represents h (decode h) = record { right = g.right; decodes = refl } in
        extension_step h (decode h) st n p i E g.count g.walkable.number
        (ap (λ (m : ℕ). m + 1) (sym (number_length h (decode h) st p (subst (λ (m : ℕ). p ≤ m) g.count g.walkable.number))) ∙ sym g.next) small
        (subst (λ (m : ℕ). m ≤ content_limit) (sym (value_length e)) writing_asks.short)
        (subst (λ (z : ShownEntry). z.term.0 < term_end) (sym q) (field_lt s.bytes (x.at + 10) 32))
        (room o)

    storing_next : Storing (extended_bytes h n p i E) (extended_count h n p E) s (Behind (extended_number h n p E))
    storing_next =
        record {
          right = extends.represents.right;
          count = extends.holds;
          walkable = record {
            walk = walk_next s x.at x.left i g.walkable.walk l e q;
            number = extends.within;
            positive = omega arith;
            small = (let a = small in omega arith);
          };
          next = ap (λ (m : ℕ). m + 1) g.next ∙ sym (extended_index h n p E g.right g.count g.walkable.number _ _ _ extends);
          room = subst (λ (m : ℕ). m ≤ prefix_limit) (after o) g.room;
        }

-- ---- turn by turn

-- what is left to write, to bytes that are well formed
pub record Written (h₀ : Bytes) (n₀ : ℕ) (s : ViewBits) (r : FrontCursor) (h : Bytes) (x : FrontCursor) (n : ℕ) : Type 0 where
  pub bytes : written_bytes h₀ n₀ r.prefix.0 r.index.0 (front_at s r) ≡ written_bytes h n x.prefix.0 x.index.0 (front_at s x)
  pub number : written_number h₀ n₀ r.prefix.0 r.index.0 (front_at s r) ≡ written_number h n x.prefix.0 x.index.0 (front_at s x)
  pub count : written_count h₀ n₀ r.prefix.0 r.index.0 (front_at s r) ≡ written_count h n x.prefix.0 x.index.0 (front_at s x)
  pub storing : Storing h n s x

module _ (h₀ : Bytes) (n₀ : ℕ) (s : ViewBits) (r : FrontCursor) where
  pub writing_starts : Storing h₀ n₀ s r → Written h₀ n₀ s r h₀ r (n₀ + 0)
  writing_starts g = subst (Written h₀ n₀ s r h₀ r) (let z : n₀ ≡ n₀ + 0 = omega arith in z) (record { bytes = refl; number = refl; count = refl; storing = g })

  module _ (h : Bytes) (x : FrontCursor) (made : ℕ) (w : Written h₀ n₀ s r h x (n₀ + made)) where
    abbrev n : ℕ
    n = n₀ + made

    done : front_at s x ≡ [] → (h' : Bytes) → h' ≡ h → StoredAs h₀ n₀ s r x.prefix.0 made h'
    unfolding written_bytes written_number written_count rest_made
    done e h' eh =
        record {
          is = sym (w.number ∙ ap (written_number h n x.prefix.0 x.index.0) e);
          made = (let c : written_count h₀ n₀ r.prefix.0 r.index.0 (front_at s r) ≡ n₀ + made = w.count ∙ ap (written_count h n x.prefix.0 x.index.0) e in omega arith);
          bytes = eh ∙ sym (w.bytes ∙ ap (written_bytes h n x.prefix.0 x.index.0) e);
        }

    pub writing_ends : x.left ≤ 0 → (h' : Bytes) → h' ≡ h → StoredAs h₀ n₀ s r x.prefix.0 made h'
    writing_ends l = done (front_none s x.at x.left x.index.0 l)

    module _ (l : 0 < x.left) (e : ShownEntry) (q : e ≡ shown_entry s x.at) where
      pub writing_gap : (e.index.0 ≡ next_index h x.prefix.0 → ⊥) → (h' : Bytes) → h' ≡ h → StoredAs h₀ n₀ s r x.prefix.0 made h'
      writing_gap o = done (front_gap s x.at x.left x.index.0 w.storing.walkable.walk l e q (λ y. o (y ∙ w.storing.next)))

      -- the entry's prefix is found or made, and c prefixes are stored with it: m of them were made
      pub writing_next : (y : LogPrefixWitness) (c : ℕ) (h' : Bytes) → Longer h n x.prefix.0 e y c h' → (m : ℕ) → c ≡ n₀ + m
          → (z : FrontCursor) → z ≡ cursor_at e.next (x.left - 1) (x.index.0 + 1) y.0
          → Written h₀ n₀ s r h' z (n₀ + m)
      writing_next y c h' a m ec z ez =
          let p = x.prefix.0 in
          let i = x.index.0 in
          let E = entry_value e in
          let u = written_cons h n p i E (front_at s (cursor_at e.next (x.left - 1) (i + 1) 0)) in
          let front = steps h n s x w.storing l e q a.index in
          let wrote : extended_bytes h n p i E ≡ h' = ap (λ (k : ℕ). extended_bytes h n p k E) (sym (index_is h n s x w.storing l e q a.index)) ∙ sym a.bytes in
          subst₂ (λ (b : Bytes) (v : FrontCursor). Written h₀ n₀ s r b v (n₀ + m)) wrote (sym ez)
          (subst₂ (λ (k j : ℕ). Written h₀ n₀ s r (extended_bytes h n p i E) (cursor_at e.next (x.left - 1) (i + 1) k) j) (sym a.number) (sym a.count ∙ ec)
          (record {
            bytes = w.bytes ∙ ap (written_bytes h n p i) front ∙ u.0;
            number = w.number ∙ ap (written_number h n p i) front ∙ u.2;
            count = w.count ∙ ap (written_count h n p i) front ∙ u.1;
            storing = storing_next h n s x w.storing l e q a.index;
          }))
