-- Findings are noted once: what the tests of the code say of a row, what noting means of the list of findings, and the history's
-- findings copied and noted in place.
-- Assumes nothing.
use Prim.Native.Nat.{ℕ, zero, suc, ◌+◌, ◌*◌, ◌<◌, ◌≤◌}
use native.Mathlib.Omega.{arith}
use mathlib.Core.Path.{◌≡◌, refl, sym, ◌∙◌, ap, subst}
use mathlib.Core.Bool.{Bool, true, false, ◌||◌}
use mathlib.Core.Logic.{◌⊎◌, inl, inr, ⊎_elim}
use mathlib.Core.List.Memᴰ
use mathlib.Core.List.{List, [], ◌∷◌, ◌++◌, Memᴰ}
use lib.Dec.{leb, ltb, eqb}
use lib.ListN.{length, take, drop, length-append, take-append-drop}
use borrow.Author.Tests.{eq-eqb, eqb-true, lt-ltb, le-ltb, le-leb, lt-leb, leb-true, leb-false, ltb-true, ltb-false}
use Rattle.std.specs.Prelude.{⊤, Result, Ok, Err, is_ok}
use Rattle.model.specs.Entry.{with, with_all}
use Rattle.model.specs.History.{Finding, same_finding, noted}
use Rattle.model.specs.Sizes.{Bytes, finding_limit}
use Rattle.model.proofs.Tests.{tf, either, cond_cases, cond_true, cond_false, and_left, and_right, and_both}
use Rattle.model.proofs.Members.{with_there, with_fresh, with_longer}
use Rattle.storage_bytes.specs.Lists.{tabulate, some}
use Rattle.storage_bytes.specs.Words.{put_bytes}
use Rattle.storage_bytes.specs.Layout.{findings_start, findings_length, history_length, finding_width, findings_field}
use Rattle.storage.specs.Tables.{finding_row, finding_rows, findings_part}
use Rattle.storage.specs.Rules.{well_formed}
use Rattle.storage.specs.Writes.{finding_bytes, FindingFits}
use Rattle.storage.specs.Head.{findings_held, put_head_field}
use Rattle.storage_bytes.proofs.ListLaws.{tabulate_length}
use Rattle.storage_bytes.proofs.WordLaws.{put_length}
use Rattle.storage_bytes.proofs.PartLaws.{part_length, part_lent, put_whole}
use Rattle.storage.proofs.WellFormed.{formed}
use Rattle.storage.proofs.WriteLaws.{part_written}
use Rattle.storage.proofs.RowLaws.{rows_append, finding_own, finding_length, finding_back}
use Rattle.storage.proofs.HeadLaws.{head_kept}
use Rattle.log_violation.specs.declared.violation.FindingsFull.{FindingsFull}
use Rattle.log_violation.specs.Violation.{same_numbers, is_noted, note_held, note_bytes, held_all, bytes_all, NotedAll, note_if, findings_written, fits_answer, room_for, room_answer, noted_in, too_many}

-- ---- whether the findings fit

pub over_limit : (n : ℕ) (r : Result ⊤ FindingsFull) → r ≡ fits_answer n → (e : FindingsFull) → r ≡ Err e → finding_limit < n
unfolding fits_answer
over_limit n r w e z =
    ⊎_elim (λ t. ltb-true finding_limit n t) (λ f. absurd (tf (sym (ap is_ok (sym z ∙ w ∙ cond_false (ltb finding_limit n) _ _ f))))) (either (ltb finding_limit n))

pub in_limit : (n : ℕ) (r : Result ⊤ FindingsFull) → r ≡ fits_answer n → (v : ⊤) → r ≡ Ok v → n ≤ finding_limit
unfolding fits_answer
in_limit n r w v z =
    ⊎_elim (λ t. absurd (tf (ap is_ok (sym z ∙ w ∙ cond_true (ltb finding_limit n) _ _ t)))) (λ f. ltb-false finding_limit n f) (either (ltb finding_limit n))

-- ---- noting means one finding more, once

pub same_finding_lem : (f g : Finding) → same_numbers f g ≡ true → f ≡ g
unfolding same_numbers
same_finding_lem f g e =
    let c = eqb-true f.index g.index (and_left _ _ e) in
    let x = and_right (eqb f.index g.index) _ e in
    let d = eqb-true f.term g.term (and_left _ _ x) in
    let y = and_right (eqb f.term g.term) _ x in
    let b = eqb-true f.node g.node (and_left _ _ y) in
    let a = eqb-true f.name g.name (and_right (eqb f.node g.node) _ y) in
    λ i. record { name = a i; node = b i; index = c i; term = d i }

finding_same : (f g : Finding) → f ≡ g → same_numbers f g ≡ true
unfolding same_numbers
finding_same f g e =
    and_both _ _ (eq-eqb _ _ (ap (λ (x : Finding). x.index) e))
    (and_both _ _ (eq-eqb _ _ (ap (λ (x : Finding). x.term) e))
    (and_both _ _ (eq-eqb _ _ (ap (λ (x : Finding). x.node) e)) (eq-eqb _ _ (ap (λ (x : Finding). x.name) e))))

module _ (t : Bytes) (f : Finding) where
  abbrev Listed : ℕ → ℕ → Bool
  Listed n k = some (λ g. same_numbers g f) (tabulate (finding_row t) k n)

  -- the row at place k is the finding, or the rest decides
  noted_first : (n k : ℕ) (b : Bool) → same_numbers (finding_row t k) f ≡ b → Listed (suc n) k ≡ (b || Listed n (k + 1))
  unfolding some tabulate
  noted_first n k b e = ap (λ (v : Bool). v || Listed n (k + 1)) e

  noted_in_lem : (n k : ℕ) → Listed n k ≡ true → Memᴰ f (tabulate (finding_row t) k n)
  unfolding tabulate
  noted_in_lem zero k e = absurd (tf (sym e ∙ (unfold some in refl)))
  noted_in_lem (suc n) k e =
      ⊎_elim (λ a. Memᴰ.head (sym (same_finding_lem (finding_row t k) f a))) (λ a. Memᴰ.tail (noted_in_lem n (k + 1) (sym (noted_first n k false a) ∙ e)))
      (either (same_numbers (finding_row t k) f))

  noted_out : (n k : ℕ) → Listed n k ≡ false → Memᴰ f (tabulate (finding_row t) k n) → ⊥
  unfolding tabulate
  noted_out zero k e m = Memᴰ.not-nil m
  noted_out (suc n) k e m =
      ⊎_elim (λ a. tf (sym (noted_first n k true a) ∙ e))
      (λ a.
      ⊎_elim (λ q. tf (sym (finding_same (finding_row t k) f (sym q)) ∙ a)) (λ q. noted_out n (k + 1) (sym (noted_first n k false a) ∙ e) q)
      (Memᴰ.cases_cons m))
      (either (same_numbers (finding_row t k) f))

-- the table stands for the findings fs, or there are too many of them
abbrev pub Holds : Bytes → ℕ → List Finding → Type 0
Holds t n fs = ((n ≤ finding_limit) × (finding_rows t n ≡ fs)) ⊎ ((n ≡ too_many) × (finding_limit < length fs))

module _ (t : Bytes) (n : ℕ) (f : Finding) (fs : List Finding) (long : length t ≡ findings_length) (fits : FindingFits f) where
  abbrev After : ℕ → Bytes → Type 0
  After m u = Holds u m (with same_finding fs f)

  -- too many already
  over : n ≡ too_many → finding_limit < length fs → After (note_held t n f) (note_bytes t n f)
  unfolding note_held note_bytes
  over e h =
      inr (cond_true (ltb finding_limit n) n _ (lt-ltb finding_limit n (omega arith)) ∙ e, (let z = with_longer same_finding fs f in omega arith))

  -- noted before
  again : n ≤ finding_limit → finding_rows t n ≡ fs → is_noted t n f ≡ true → After (note_held t n f) (note_bytes t n f)
  unfolding note_held note_bytes
  again h e w =
      let held : note_held t n f ≡ n = cond_false (ltb finding_limit n) n _ (le-ltb finding_limit n h) ∙ cond_true (is_noted t n f) n (n + 1) w in
      let bytes : note_bytes t n f ≡ t =
      ⊎_elim (λ b. cond_true (leb finding_limit n) t _ b)
      (λ b. cond_false (leb finding_limit n) t _ b ∙ cond_true (is_noted t n f) t (put_bytes t (n * finding_width) (finding_bytes f)) w)
      (either (leb finding_limit n)) in
      subst (λ (m : ℕ). After m (note_bytes t n f)) (sym held)
      (subst (After n) (sym bytes)
      (inl (h, e ∙ sym (with_there same_finding fs f (subst (Memᴰ f) e (noted_in_lem t f n 0 w))))))

  -- new
  new : n ≤ finding_limit → finding_rows t n ≡ fs → is_noted t n f ≡ false → After (note_held t n f) (note_bytes t n f)
  unfolding note_held note_bytes
  new h e w =
      let held : note_held t n f ≡ n + 1 = cond_false (ltb finding_limit n) n _ (le-ltb finding_limit n h) ∙ cond_false (is_noted t n f) n (n + 1) w in
      let fresh : with same_finding fs f ≡ fs ++ (f ∷ []) =
      with_fresh same_finding fs f (λ m. noted_out t f n 0 w (subst (Memᴰ f) (sym e) m)) in
      let size : length fs ≡ n = sym (ap length e) ∙ tabulate_length (finding_row t) 0 n in
      subst (λ (m : ℕ). After m (note_bytes t n f)) (sym held)
      (⊎_elim
      (λ b.
      let full : n ≡ finding_limit = (let z = leb-true finding_limit n b in omega arith) in
      inr (omega arith, (let z = ap length fresh ∙ length-append fs (f ∷ []) in omega arith)))
      (λ b.
      let room = leb-false finding_limit n b in
      let bytes : note_bytes t n f ≡ put_bytes t (n * finding_width) (finding_bytes f) =
      cond_false (leb finding_limit n) t _ b ∙ cond_false (is_noted t n f) t (put_bytes t (n * finding_width) (finding_bytes f)) w in
      subst (After (n + 1)) (sym bytes)
      (inl (
        omega arith,
        rows_append finding_width finding_row finding_own t (finding_bytes f) n f (finding_length f) (finding_back t n f fits (omega arith))
            ∙ ap (λ (l : List Finding). l ++ (f ∷ [])) e ∙ sym fresh,
      )))
      (either (leb finding_limit n)))

  pub note_holds : Holds t n fs → After (note_held t n f) (note_bytes t n f)
  note_holds (inr o) = over o.0 o.1
  note_holds (inl i) = ⊎_elim (again i.0 i.1) (new i.0 i.1) (either (is_noted t n f))

pub note_length : (t : Bytes) (n : ℕ) (f : Finding) → length (note_bytes t n f) ≡ length t
unfolding note_bytes
note_length t n f =
    cond_cases (λ (u : Bytes). length u ≡ length t) (leb finding_limit n) t _ (λ _. refl)
    (λ _. cond_cases (λ (u : Bytes). length u ≡ length t) (is_noted t n f) t (put_bytes t (n * finding_width) (finding_bytes f))
    (λ _. refl) (λ _. put_length t (n * finding_width) (finding_bytes f)))

-- several, one after the other
pub all_hold : (gs : List Finding) (t : Bytes) (n : ℕ) (fs : List Finding) → length t ≡ findings_length → ((g : Finding) → Memᴰ g gs → FindingFits g)
    → Holds t n fs → Holds (bytes_all t n gs) (held_all t n gs) (noted fs gs)
unfolding bytes_all held_all noted with_all
all_hold [] t n fs long fit h = h
all_hold (g ∷ gs) t n fs long fit h =
    all_hold gs (note_bytes t n g) (note_held t n g) (with same_finding fs g) (note_length t n g ∙ long) (λ x m. fit x (Memᴰ.tail m))
    (note_holds t n g fs long (fit g (Memᴰ.head refl)) h)

pub all_length : (gs : List Finding) (t : Bytes) (n : ℕ) → length (bytes_all t n gs) ≡ length t
unfolding bytes_all
all_length [] t n = refl
all_length (g ∷ gs) t n = all_length gs (note_bytes t n g) (note_held t n g) ∙ note_length t n g

-- ---- several notes in two steps as in one

pub held_append : (xs ys : List Finding) (t : Bytes) (n : ℕ) → held_all t n (xs ++ ys) ≡ held_all (bytes_all t n xs) (held_all t n xs) ys
unfolding held_all bytes_all
held_append [] ys t n = refl
held_append (x ∷ xs) ys t n = held_append xs ys (note_bytes t n x) (note_held t n x)

pub bytes_append : (xs ys : List Finding) (t : Bytes) (n : ℕ) → bytes_all t n (xs ++ ys) ≡ bytes_all (bytes_all t n xs) (held_all t n xs) ys
unfolding held_all bytes_all
bytes_append [] ys t n = refl
bytes_append (x ∷ xs) ys t n = bytes_append xs ys (note_bytes t n x) (note_held t n x)

-- some notes are taken, with what they leave; the rest go on from there
module _ (t : Bytes) (n : ℕ) (xs : List Finding) (n' : ℕ) (t' : Bytes) (e : NotedAll t n xs n' t') where
  pub held_then : (ys : List Finding) → held_all t n (xs ++ ys) ≡ held_all t' n' ys
  held_then ys = held_append xs ys t n ∙ (λ i. held_all (sym e.1 i) (sym e.0 i) ys)

  pub bytes_then : (ys : List Finding) → bytes_all t n (xs ++ ys) ≡ bytes_all t' n' ys
  bytes_then ys = bytes_append xs ys t n ∙ (λ i. bytes_all (sym e.1 i) (sym e.0 i) ys)

-- ---- the turns of `note`

abbrev pub Noted : Bytes → ℕ → Finding → ℕ → Bytes → Type 0
Noted t n f r u = (r ≡ note_held t n f) × (u ≡ note_bytes t n f)

module _ (t : Bytes) (n : ℕ) (f : Finding) where
  pub note_over : finding_limit < n → Noted t n f n t
  unfolding note_held note_bytes
  note_over h = (sym (cond_true (ltb finding_limit n) n _ (lt-ltb finding_limit n h)), sym (cond_true (leb finding_limit n) t _ (le-leb finding_limit n (omega arith))))

  module _ (h : n ≤ finding_limit) (b : Bool) (e : b ≡ is_noted t n f) where
    pub note_again : b ≡ true → Noted t n f n t
    unfolding note_held note_bytes
    note_again z =
        let w : is_noted t n f ≡ true = sym e ∙ z in (
          sym (cond_false (ltb finding_limit n) n _ (le-ltb finding_limit n h) ∙ cond_true (is_noted t n f) n (n + 1) w),
          sym (⊎_elim (λ x. cond_true (leb finding_limit n) t _ x)
              (λ x. cond_false (leb finding_limit n) t _ x ∙ cond_true (is_noted t n f) t (put_bytes t (n * finding_width) (finding_bytes f)) w)
              (either (leb finding_limit n))),
        )

    module _ (z : b ≡ false) where
      nowhere : is_noted t n f ≡ false
      nowhere = sym e ∙ z

      held_more : n + 1 ≡ note_held t n f
      unfolding note_held
      held_more = sym (cond_false (ltb finding_limit n) n _ (le-ltb finding_limit n h) ∙ cond_false (is_noted t n f) n (n + 1) nowhere)

      pub note_full : finding_limit ≤ n → Noted t n f (n + 1) t
      unfolding note_bytes
      note_full q = (held_more, sym (cond_true (leb finding_limit n) t _ (le-leb finding_limit n q)))

      pub note_new : n < finding_limit → (u : Bytes) → u ≡ put_bytes t (n * finding_width) (finding_bytes f) → Noted t n f (n + 1) u
      unfolding note_bytes
      note_new q u w = (
        held_more,
        w ∙ sym (cond_false (leb finding_limit n) t _ (lt-leb finding_limit n q)
            ∙ cond_false (is_noted t n f) t (put_bytes t (n * finding_width) (finding_bytes f)) nowhere),
      )

-- ---- a finding that is noted where b is true

module _ (b : Bool) (f : Finding) (t : Bytes) (n : ℕ) where
  pub if_not : b ≡ false → NotedAll t n (note_if b f) n t
  unfolding held_all bytes_all
  if_not e = let z : note_if b f ≡ [] = cond_false b (f ∷ []) [] e in (sym (ap (held_all t n) z), sym (ap (bytes_all t n) z))

  pub if_noted : b ≡ true → (r : ℕ) (u : Bytes) → NotedAll t n (f ∷ []) r u → NotedAll t n (note_if b f) r u
  if_noted e r u w = subst (λ (fs : List Finding). NotedAll t n fs r u) (sym (cond_true b (f ∷ []) [] e)) w

-- ---- the history's findings, copied and written

pub findings_long : (h : Bytes) → well_formed h ≡ true → length (findings_part h) ≡ findings_length
findings_long h right = part_length h findings_start findings_length (omega (arith, (formed h right).long))

pub written_length : (h : Bytes) (t : Bytes) (n : ℕ) → length (findings_written h t n) ≡ length h
unfolding findings_written
written_length h t n = head_kept findings_field (put_bytes h findings_start t) n ∙ put_length h findings_start t

-- ---- a finding noted in the history itself

module _ (h : Bytes) (f : Finding) (long : length h ≡ history_length) (held : ℕ) (eh : held ≡ findings_held h)
    (n : ℕ) (t : Bytes) (en : Noted (take findings_length (drop findings_start h)) held f n t) where
  abbrev Table : Bytes
  Table = findings_part h

  lent : take findings_length (drop findings_start h) ≡ Table
  lent = (part_lent h findings_start findings_length (omega arith)).is

  in_held : n ≡ note_held Table (findings_held h) f
  in_held = en.0 ∙ (λ i. note_held (lent i) (eh i) f)

  in_table : t ≡ note_bytes Table (findings_held h) f
  in_table = en.1 ∙ (λ i. note_bytes (lent i) (eh i) f)

  whole : take findings_start h ++ (t ++ drop findings_length (drop findings_start h)) ≡ put_bytes h findings_start t
  whole =
      let l : length t ≡ length (take findings_length (drop findings_start h)) = ap length en.1 ∙ note_length (take findings_length (drop findings_start h)) held f in
      let k : length t ≡ findings_length = l ∙ ap length lent ∙ part_length h findings_start findings_length (omega arith) in
      part_written h t findings_start findings_length 0 t (sym (put_whole (take findings_length (drop findings_start h)) t l)) (omega arith) (omega arith)

  -- counted
  pub in_room : n ≤ finding_limit → (v : Bytes) → v ≡ put_head_field findings_field (take findings_start h ++ (t ++ drop findings_length (drop findings_start h))) n → (Ok tt ≡ room_answer h f) × (v ≡ noted_in h f)
  unfolding room_for room_answer noted_in findings_written
  in_room r v ev =
      let room = le-leb (note_held Table (findings_held h) f) finding_limit (subst (λ (x : ℕ). x ≤ finding_limit) in_held r) in (
        sym (cond_true _ _ _ room),
        ev ∙ ap (λ (u : Bytes). put_head_field findings_field u n) whole ∙ (λ i. findings_written h (in_table i) (in_held i)) ∙ sym (cond_true _ _ h room),
      )

  -- there are too many: the table was full and is as it was
  pub in_full : finding_limit < n → (Err (record {}) ≡ room_answer h f) × (take findings_start h ++ (t ++ drop findings_length (drop findings_start h)) ≡ noted_in h f)
  unfolding room_for room_answer noted_in note_bytes note_held
  in_full r =
      let room = lt-leb (note_held Table (findings_held h) f) finding_limit (subst (λ (x : ℕ). finding_limit < x) in_held r) in (
        sym (cond_false _ _ _ room),
        ap (λ (u : Bytes). take findings_start h ++ (u ++ drop findings_length (drop findings_start h))) same
            ∙ ap (λ (u : Bytes). take findings_start h ++ u) (take-append-drop findings_length (drop findings_start h))
            ∙ take-append-drop findings_start h
            ∙ sym (cond_false _ _ h room),
      )
    where
      full : finding_limit ≤ held
      full =
          cond_cases (λ (m : ℕ). n ≡ m → finding_limit ≤ held) (ltb finding_limit held) held _ (λ _ e. omega arith)
          (λ _. cond_cases (λ (m : ℕ). n ≡ m → finding_limit ≤ held) (is_noted (take findings_length (drop findings_start h)) held f) held (held + 1) (λ _ e. omega arith) (λ _ e. omega arith)) en.0

      same : t ≡ take findings_length (drop findings_start h)
      same = en.1 ∙ cond_true (leb finding_limit held) _ _ (le-leb finding_limit held full)
