-- A view in the other edition: its fields, how many bits they take, and what is answered of it.
-- Assumes nothing.
use Prim.Native.Nat.{ℕ, zero, suc, ◌+◌, ◌-◌, ◌*◌, ◌/◌, ◌^◌, ◌≤◌, ◌<◌}
use mathlib.Core.Path.{◌≡◌, refl, ap, sym, subst, ◌∙◌}
use mathlib.Core.Bool.{Bool, true, false, cond, not, ◌&&◌, ◌||◌}
use mathlib.Core.List.{◌++◌}
use native.Mathlib.Omega.{arith}
use native.Mathlib.Nat.{zero-add}
use borrow.Author.Tests.{le-leb, lt-leb, lt-ltb}
use lib.Dec.{leb, eqb}
use lib.ListN.{length, get_or, drop}
use Rattle.std.specs.Prelude.{Some, Ok, Err}
use Rattle.model.specs.Sizes.{Bytes, index_limit, node_count}
use Rattle.model.specs.Reading.{field_at, readable}
use Rattle.record_bits.proofs.Widths.{field_lt}
use Rattle.record_entries.specs.BitLayout.{ViewBits, bits_of, mark_width, mark_at, next_at, end_at, entries_at, first_entry, Walk}
use Rattle.record_entries.proofs.Given.{mark_small}
use Rattle.record_entries.proofs.Walks.{here, next_walk, entries_length}
use Rattle.storage_bytes.specs.Lists.{every}
use Rattle.storage_bytes.specs.Words.{put_bytes}
use Rattle.storage_bytes.proofs.PartLaws.{part_back}
use Rattle.record_writing.specs.Format.{view_kind}
use Rattle.record_writing.specs.Spans.{spans, spell, total, bytes_for, shows, unmarked}
use Rattle.record_writing.specs.Puts.{put_field, put_spans, fits}
use Rattle.record_writing.specs.Writing.{Gives, put_record}
use Rattle.record_writing.proofs.Packed.{spans_put, pack_length}
use Rattle.record_editions.specs.Numbers.{number_of}
use Rattle.record_editions.specs.Editions.{put_edition}
use Rattle.record_editions.specs.Turned.{other, portions_end, entries_turned, view_of, view_turned}
use Rattle.record_editions.specs.declared.refusal.Refusal.{Refusal}
use Rattle.record_editions.proofs.Entries.{last, portions_some, entries_width, entries_fit, plain_unmarked}

-- a portion record by its mark's bit
pub portion_is : (v : ViewBits) (k b : ℕ) → v.marked ≡ true → b ≡ field_at v.bytes (k + 42) 1 → eqb b 0 ≡ not (mark_at v k)
portion_is v k b m e =
    bit b (rw e (field_lt v.bytes (k + 42) 1))
    ∙ ap (λ (x : ℕ). not (eqb x 1)) e
    ∙ ap (λ (c : Bool). not (cond c (eqb (field_at v.bytes (k + 42) 1) 1) false)) (sym m)
  where
    bit : (b : ℕ) → b < 2 → eqb b 0 ≡ not (eqb b 1)
    bit zero h = refl
    bit (suc zero) h = refl
    bit (suc (suc b)) h = absurd (omega arith)

-- entries that can be walked end not far from where they begin
pub last_near : (v : ViewBits) (k n : ℕ) → Walk v k n → last v k n ≤ k + 305 * n
unfolding end_at
last_near v k zero w = omega arith
last_near v k (suc n) w =
    let h : 0 < suc n = omega arith in
    let d : suc n - 1 ≡ n = omega arith in
    let ih = last_near v (next_at v k) n (rw d at (next_walk v k (suc n) w h)) in
    omega (arith, ih, (here v k (suc n) w h).short, mark_small v.marked)

pub kind_small : (marked : Bool) → view_kind marked < 16
kind_small true = omega arith
kind_small false = omega arith

module _ (v : ViewBits) (node n : ℕ) where
  pub view_width : total (view_turned v node n) ≡ first_entry + total (entries_turned v first_entry n)
  unfolding total spans
  view_width = omega arith

  -- one bit more or less for each entry
  module _ {end : ℕ} (p : portions_end v first_entry n ≡ Some end) where
    ends : last v first_entry n ≡ end
    ends = (portions_some v first_entry n p).1

    pub fewer : v.marked ≡ true → end ≡ total (view_turned v node n) + n
    fewer e =
        let a : mark_width v.marked * n ≡ 1 * n = ap (λ (m : Bool). mark_width m * n) e in
        let b : mark_width (other v) * n ≡ 0 * n = ap (λ (m : Bool). mark_width (not m) * n) e in
        omega (arith, a, b, entries_width v (other v) first_entry n, view_width, ends)

    pub more : v.marked ≡ false → end + n ≡ total (view_turned v node n)
    more e =
        let a : mark_width v.marked * n ≡ 0 * n = ap (λ (m : Bool). mark_width m * n) e in
        let b : mark_width (other v) * n ≡ 1 * n = ap (λ (m : Bool). mark_width (not m) * n) e in
        omega (arith, a, b, entries_width v (other v) first_entry n, view_width, ends)

    pub end_near : Walk v first_entry n → end ≤ first_entry + 305 * n
    end_near w = omega (arith, ends, last_near v first_entry n w)

  -- its first fields, and then the entries'
  pub view_put : (t p q r u : Bytes) → p ≡ put_field t 0 4 (view_kind (other v)) → q ≡ put_field p 4 6 node
      → r ≡ put_field q 10 10 n
      → u ≡ put_spans r first_entry (entries_turned v first_entry n) → u ≡ put_spans t 0 (view_turned v node n)
  unfolding put_spans spans
  view_put t p q r u e f g h =
      h
      ∙ ap (λ (x : Bytes). put_spans x first_entry (entries_turned v first_entry n))
      (g ∙ (λ i. put_field ((f ∙ ap (λ (x : Bytes). put_field x 4 6 node) e) i) 10 10 (sym (entries_length v first_entry n) i)))

  view_fits : node < node_count → n ≤ index_limit → every fits (view_turned v node n) ≡ true
  unfolding every spans
  view_fits h l =
      let c = entries_length v first_entry n in
      let a = lt-ltb (view_kind (other v)) (2 ^ 4) (kind_small (other v)) in
      let b = lt-ltb node (2 ^ 6) h in
      let d = lt-ltb (length (entries_at v first_entry n)) (2 ^ 10) (omega (arith, c, l)) in
      λ i. a i && (b i && (d i && entries_fit v (other v) first_entry n i))

  -- ---- the answers

  spelled_length : length (spell (other v) (view_of v node n)) ≡ bytes_for (total (view_turned v node n))
  unfolding spell
  spelled_length = pack_length (view_turned v node n)

  can_show : unmarked (entries_at v first_entry n) ≡ true → shows (other v) (view_of v node n) ≡ true
  can_show e = by (other v)
    where
      by : (m : Bool) → m || unmarked (entries_at v first_entry n) ≡ true
      by true = refl
      by false = e

  -- only a view with marks has configuration entries
  cannot_show : unmarked (entries_at v first_entry n) ≡ false → shows (other v) (view_of v node n) ≡ false
  cannot_show e = by v.marked refl
    where
      by : (m : Bool) → v.marked ≡ m → not m || unmarked (entries_at v first_entry n) ≡ false
      by true z = e
      by false z = absurd (let y : ◌≡◌ {A = ℕ} 0 1 = (let x = sym (subst (λ (m : Bool). unmarked (entries_at (bits_of v.bytes m) first_entry n) ≡ true) (sym z) (plain_unmarked v.bytes first_entry n)) ∙ e in cc) in omega arith)

  pub gives_configured : (old : Bytes) → unmarked (entries_at v first_entry n) ≡ false
      → Gives number_of (put_edition (other v) old (readable (view_of v node n))) (Err Refusal.Configured) old
  gives_configured old e =
      let s = cannot_show e in
      record { refusal = rw s refl; length = rw s refl; bytes = rw s refl }

  pub gives_short : (old : Bytes) (bits : ℕ) → unmarked (entries_at v first_entry n) ≡ true → bits ≡ total (view_turned v node n)
      → length old < (bits + 7) / 8
      → Gives number_of (put_edition (other v) old (readable (view_of v node n))) (Err Refusal.BufferTooShort) old
  gives_short old bits e w h =
      let s = can_show e in
      let l : leb (length (spell (other v) (view_of v node n))) (length old) ≡ false = lt-leb _ _ (omega (arith, spelled_length, w, h)) in
      record { refusal = rw (s, l) refl; length = rw (s, l) refl; bytes = rw (s, l) refl }

  pub gives_whole : (old new : Bytes) (bits : ℕ) → ((i : ℕ) → get_or old i 0 < 256) → node < node_count → n ≤ index_limit
      → unmarked (entries_at v first_entry n) ≡ true → bits ≡ total (view_turned v node n)
      → (bits + 7) / 8 ≤ length old → new ≡ put_spans old 0 (view_turned v node n)
      → Gives number_of (put_edition (other v) old (readable (view_of v node n))) (Ok ((bits + 7) / 8)) new
  unfolding spell
  gives_whole old new bits below i m e w h p =
      let s = can_show e in
      let l : leb (length (spell (other v) (view_of v node n))) (length old) ≡ true = le-leb _ _ (omega (arith, spelled_length, w, h)) in
      let b : put_spans old 0 (view_turned v node n) ≡ put_bytes old 0 (spell (other v) (view_of v node n))
      = spans_put old below (view_turned v node n) (view_fits i m) (omega (arith, w, h)) in
      record { refusal = rw (s, l) refl; length = rw (s, l) (omega (arith, spelled_length, w)); bytes = rw (s, l) (p ∙ b) }

-- ---- a copy

pub copied : (b s : Bytes) → length s ≤ length b → Gives {E = Refusal} number_of (put_record b s) (Ok (length s)) (s ++ drop (length s) b)
copied b s h =
    let l : leb (length s) (length b) ≡ true = le-leb _ _ h in
    record { refusal = rw l refl; length = rw l refl; bytes = rw l (ap (λ (n : ℕ). s ++ drop n b) (sym (zero-add (length s))) ∙ part_back b 0 s (omega (arith, h))) }

pub copied_short : (b s : Bytes) → length b < length s → Gives number_of (put_record b s) (Err Refusal.BufferTooShort) b
copied_short b s h =
    let l : leb (length s) (length b) ≡ false = lt-leb _ _ h in
    record { refusal = rw l refl; length = rw l refl; bytes = rw l refl }
