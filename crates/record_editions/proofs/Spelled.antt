-- Laws of the converter's definition: what is copied, and what it gives.
-- Assumes nothing.
use Prim.Native.Nat.{ℕ, ◌<◌}
use mathlib.Core.Path.{◌≡◌, refl, ap, sym, subst, ◌∙◌}
use mathlib.Core.Bool.{Bool, true, false, cond, not, beq, ◌||◌}
use native.Mathlib.Omega.{arith}
use borrow.Author.Tests.{le-leb}
use lib.Dec.{leb}
use lib.ListN.{length, take}
use Rattle.std.specs.Prelude.{Option, Some, None, Result, Ok}
use Rattle.model.specs.Sizes.{Bytes}
use Rattle.model.specs.Record.{Record, view, commit, terms, election, check, rows, leader}
use Rattle.model.specs.Reading.{Reading, readable, unreadable, read}
use Rattle.model.proofs.Tests.{tf}
use Rattle.record_entries.specs.BitLayout.{is_marked, bits_of, entries_at, first_entry}
use Rattle.record_entries.proofs.Given.{field_is}
use Rattle.record_writing.proofs.Sources.{read_is}
use Rattle.record_reading.specs.Heads.{Told}
use Rattle.record_reading.specs.declared.head.Head.{Head}
use Rattle.record_reading.proofs.Readable.{view_read}
use Rattle.record_writing.specs.Format.{view_kind}
use Rattle.record_writing.specs.Spans.{spans, spell, shows, unmarked}
use Rattle.record_writing.specs.Laws.{AreBytes}
use Rattle.record_writing.specs.Writing.{Written, put_record, reply_of}
use Rattle.record_writing.specs.declared.reply.WriteReply.{WriteReply}
use Rattle.record_writing.proofs.Back.{spelled_as_read, read_in_either, read_put, written_first, put_kept, number_some, replied}
use Rattle.record_editions.specs.Editions.{edition_of, put_edition, put_wanted, converted, Converts, ConvertReplies}
use Rattle.record_editions.specs.Numbers.{number_of}
use Rattle.record_editions.specs.declared.refusal.Refusal.{Refusal}
use Rattle.record_editions.specs.Laws.{result, SameRecord, ThereAndBack, Unchanged, is_view, OthersUnchanged}
use Rattle.record_editions.proofs.Entries.{plain_unmarked}

module _ (s : Bytes) where
  -- an edition can show what was read in it
  own_shown : (r : Record) → read s ≡ readable r → shows (is_marked s) r ≡ true
  own_shown (view n es) e = by (is_marked s) refl
    where
      by : (m : Bool) → is_marked s ≡ m → m || unmarked es ≡ true
      by true z = refl
      by false z =
          ap unmarked (view_read s n es e).entries
          ∙ subst (λ (m : Bool). unmarked (entries_at (bits_of s m) first_entry (length es)) ≡ true) (sym z) (plain_unmarked s first_entry (length es))
  own_shown (commit n i) e = refl
  own_shown (terms o n t) e = refl
  own_shown (election l t p n) e = refl
  own_shown check e = refl
  own_shown (rows rs) e = refl
  own_shown (leader n t) e = refl

  -- a record that is no view has one spelling
  one_spelled : (r : Record) (marked other : Bool) → is_view r ≡ false → spell marked r ≡ spell other r
  unfolding spell spans
  one_spelled (view n es) marked other e = absurd (let z : ◌≡◌ {A = ℕ} 0 1 = cc in omega arith)
  one_spelled (commit n i) marked other e = refl
  one_spelled (terms o n t) marked other e = refl
  one_spelled (election l t p n) marked other e = refl
  one_spelled check marked other e = refl
  one_spelled (rows rs) marked other e = refl
  one_spelled (leader n t) marked other e = refl

  other_shown : (r : Record) (marked : Bool) → is_view r ≡ false → shows marked r ≡ true
  other_shown (view n es) marked e = absurd (let z : ◌≡◌ {A = ℕ} 0 1 = cc in omega arith)
  other_shown (commit n i) marked e = refl
  other_shown (terms o n t) marked e = refl
  other_shown (election l t p n) marked e = refl
  other_shown check marked e = refl
  other_shown (rows rs) marked e = refl
  other_shown (leader n t) marked e = refl

  module _ (r : Record) (b : Bytes) (below : AreBytes s) (e : read s ≡ readable r) where
    put_same : (marked : Bool) → shows marked r ≡ true → spell marked r ≡ s → put_edition marked b (read s) ≡ put_record b s
    put_same marked h q = rw (e, h) (ap (put_record b) q)

    pub own_put : put_edition (is_marked s) b (read s) ≡ put_record b s
    own_put = put_same (is_marked s) (own_shown r e) (spelled_as_read s r below e)

    pub other_put : (marked : Bool) → is_view r ≡ false → put_edition marked b (read s) ≡ put_record b s
    other_put marked v =
        put_same marked (other_shown r marked v) (one_spelled r marked (is_marked s) v ∙ spelled_as_read s r below e)

-- a head that is no view's is copied
pub head_put : (s b : Bytes) (h : Head) (marked : Bool) → AreBytes s → Told s (Ok h) → ((n : _) (c : ℕ) → h ≡ Head.View n c → ⊥)
    → put_edition marked b (read s) ≡ put_record b s
head_put s b (Head.View n c) marked below t f = absurd (f n c refl)
head_put s b (Head.Commit n i) marked below t f = other_put s _ b below t.reading marked refl
head_put s b (Head.Terms x) marked below t f = other_put s _ b below t.reading marked refl
head_put s b (Head.Election x) marked below t f = other_put s _ b below t.reading marked refl
head_put s b Head.Check marked below t f = other_put s _ b below t.reading marked refl
head_put s b (Head.Rows c) marked below t f = other_put s _ b below t.reading marked refl
head_put s b (Head.Leader x) marked below t f = other_put s _ b below t.reading marked refl

-- ---- the laws

wanted : (marked : Bool) → edition_of (view_kind marked) ≡ Some marked
wanted true = refl
wanted false = refl

of_edition : (marked : Bool) (s b : Bytes) → converted (view_kind marked) s b ≡ put_edition marked b (read s)
unfolding converted
of_edition marked s b = ap (λ (o : Option Bool). put_wanted o s b) (wanted marked)

pub unchanged : Unchanged
unchanged s r b below e = of_edition (is_marked s) s b ∙ own_put s r b below e

pub others_unchanged : OthersUnchanged
others_unchanged s r marked b below e v = of_edition marked s b ∙ other_put s r b below e marked v

-- what is put reads as the record
reads_put : (marked : Bool) (s b : Bytes) (g : Reading) → read s ≡ g → (put_edition marked b g).refusal ≡ 0
    → read (take (put_edition marked b g).length (put_edition marked b g).bytes) ≡ g
reads_put marked s b (readable r) p e = by (shows marked r) refl e
  where
    put_if : Bool → Written
    put_if c = cond c (put_record b (spell marked r)) (record { refusal = 16; length = 0; bytes = b })

    by : (c : Bool) → shows marked r ≡ c → (put_if c).refusal ≡ 0 → read (take (put_if c).length (put_if c).bytes) ≡ readable r
    by true q e = read_put b (spell marked r) (readable r) (read_in_either s r marked p q) e
    by false q e = absurd (omega (arith, e))
reads_put marked s b (unreadable f) p e = absurd (number_some f e)

pub same_record : SameRecord
unfolding converted
same_record edition s b e = by (edition_of edition) e
  where
    by : (o : Option Bool) → (put_wanted o s b).refusal ≡ 0 → read (take (put_wanted o s b).length (put_wanted o s b).bytes) ≡ read s
    by (Some marked) e = reads_put marked s b (read s) refl e
    by None e = absurd (omega (arith, e))

-- a refused call leaves every byte
kept_put : (marked : Bool) (b : Bytes) (g : Reading) → ((put_edition marked b g).refusal ≡ 0 → ⊥) → (put_edition marked b g).bytes ≡ b
kept_put marked b (readable r) h = by (shows marked r) h
  where
    put_if : Bool → Written
    put_if c = cond c (put_record b (spell marked r)) (record { refusal = 16; length = 0; bytes = b })

    by : (c : Bool) → ((put_if c).refusal ≡ 0 → ⊥) → (put_if c).bytes ≡ b
    by true h = put_kept b (spell marked r) h
    by false h = refl
kept_put marked b (unreadable f) h = refl

pub kept : (edition : ℕ) (s b : Bytes) → ((converted edition s b).refusal ≡ 0 → ⊥) → (converted edition s b).bytes ≡ b
unfolding converted
kept edition s b h = by (edition_of edition) h
  where
    by : (o : Option Bool) → ((put_wanted o s b).refusal ≡ 0 → ⊥) → (put_wanted o s b).bytes ≡ b
    by (Some marked) h = kept_put marked b (read s) h
    by None h = refl

pub there_and_back : ThereAndBack
there_and_back s r marked b c below e h room =
    let l : leb (length (spell marked r)) (length b) ≡ true = le-leb _ _ room in
    let there : converted (view_kind marked) s b ≡ put_record b (spell marked r) = of_edition marked s b ∙ rw (e, h) refl in
    let given : result (view_kind marked) s b ≡ spell marked r
    = ap (λ (w : Written). take w.length w.bytes) there ∙ rw l (written_first b (spell marked r) room) in
    let reads : read (spell marked r) ≡ readable r = read_in_either s r marked e h in
    ap (λ (x : Bytes). converted (view_kind (is_marked s)) x c) given
    ∙ of_edition (is_marked s) (spell marked r) c
    ∙ rw (reads, own_shown s r e) (ap (put_record c) (spelled_as_read s r below e))

-- ---- what a record that was read has

pub some_byte : (s : Bytes) (r : Record) → read s ≡ readable r → 0 < length s
some_byte s r e = omega (arith, (field_is s 0 4 (read_is s r e).whole.first).whole)

-- of two editions
pub same_edition : (a b : Bool) → beq a b ≡ true → a ≡ b
same_edition true true e = refl
same_edition true false e = absurd (tf (sym e))
same_edition false true e = absurd (tf (sym e))
same_edition false false e = refl

pub other_edition : (a b : Bool) → beq a b ≡ false → not a ≡ b
other_edition true true e = absurd (tf e)
other_edition true false e = refl
other_edition false true e = refl
other_edition false false e = absurd (tf e)

-- the numbers of the converter's answer
pub replies : (edition : ℕ) (s old new : Bytes) (a : Result ℕ Refusal) (r : WriteReply) → Converts edition s old a new
    → r ≡ reply_of number_of a → ConvertReplies edition s old r new
replies edition s old new a r g e =
    replied number_of (converted edition s old) (read s) old new a r g e (same_record edition s old) (kept edition s old)
