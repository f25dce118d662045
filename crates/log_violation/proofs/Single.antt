-- A single finding noted in place: what `note_in` answers and leaves, and what the bytes stand for then.
-- Assumes nothing.
use Prim.Native.Nat.{ℕ, ◌≤◌, ◌<◌}
use native.Mathlib.Omega.{arith}
use mathlib.Core.Path.{◌≡◌, sym, ◌∙◌, ap, subst}
use mathlib.Core.Bool.{true, false}
use mathlib.Core.Logic.{◌⊎◌, inl, inr, ⊎_elim}
use mathlib.Core.List.Memᴰ
use mathlib.Core.List.{List, [], ◌∷◌}
use lib.ListN.{length}
use borrow.Author.Tests.{le-leb, lt-leb}
use Rattle.std.specs.Prelude.{Result, Ok, Err, is_ok, ⊤}
use Rattle.model.specs.Entry.{with_all}
use Rattle.model.specs.History.{Finding, History, noted, with_findings}
use Rattle.model.specs.Sizes.{Bytes, finding_limit}
use Rattle.model.proofs.Tests.{tf, either, cond_true, cond_false}
use Rattle.storage_bytes.specs.Lists.{every}
use Rattle.storage.specs.Tables.{finding_row, finding_rows, findings_part}
use Rattle.storage.specs.Rules.{finding_right}
use Rattle.storage.specs.Writes.{FindingFits}
use Rattle.storage.specs.Head.{findings_held}
use Rattle.storage_bytes.proofs.ListLaws.{tabulate_length}
use Rattle.storage.proofs.DecodeLaws.{FindingNamed}
use Rattle.storage.proofs.Meanings.{Represents, findings_stored, findings_taken, findings_right, noted_right}
use Rattle.storage.proofs.WellFormed.{formed}
use Rattle.log_violation.specs.Violation.{note_held, note_bytes, findings_written, room_for, room_answer, noted_in}
use Rattle.log_violation.proofs.ViolationLaws.{Holds, note_holds, note_length, findings_long}
use Rattle.log_violation.specs.declared.violation.FindingsFull.{FindingsFull}

-- ---- by what was answered

module _ (h : Bytes) (f : Finding) (r : Result ⊤ FindingsFull) (u : Bytes) (em : (r ≡ room_answer h f) × (u ≡ noted_in h f)) where
  pub some_room : (v : ⊤) → r ≡ Ok v → room_for h f ≡ true
  unfolding room_answer
  some_room v z = ⊎_elim (λ t. t) (λ e. absurd (tf (ap is_ok (sym z ∙ em.0 ∙ cond_false _ _ _ e)))) (either (room_for h f))

  -- then every byte is left
  pub no_room : (e : FindingsFull) → r ≡ Err e → (room_for h f ≡ false) × (u ≡ h)
  unfolding room_answer noted_in
  no_room e z =
      ⊎_elim (λ t. absurd (tf (sym (ap is_ok (sym z ∙ em.0 ∙ cond_true _ _ _ t)))))
      (λ g. (g, em.1 ∙ cond_false (room_for h f) _ h g)) (either (room_for h f))

-- ---- of bytes that stand for a history

-- there is room for it, and it is among the findings then
pub record Taken (h : Bytes) (x : History) (f : Finding) : Type 0 where
  pub room : room_for h f ≡ true
  pub few : length (noted x.findings (f ∷ [])) ≤ finding_limit
  pub represents : Represents (noted_in h f) (with_findings x (noted x.findings (f ∷ [])))

module _ (h : Bytes) (x : History) (s : Represents h x) (f : Finding) (fits : FindingFits f) (named : FindingNamed f) where
  -- the findings with this one; how many are held with it, and their table
  abbrev fs : List Finding
  fs = noted x.findings (f ∷ [])

  abbrev held : ℕ
  held = note_held (findings_part h) (findings_held h) f

  abbrev table : Bytes
  table = note_bytes (findings_part h) (findings_held h) f

  -- the table stands for the findings with this one, or there are too many
  holds : Holds table held fs
  unfolding noted with_all
  holds =
      note_holds (findings_part h) (findings_held h) f x.findings (findings_long h s.right) fits
      (inl ((formed h s.right).findings, findings_stored h x s))

  noted_fit : every finding_right fs ≡ true
  noted_fit = noted_right (f ∷ []) x.findings (findings_right h x s) (λ g m. subst FindingNamed (sym (Memᴰ.eq_of_singleton m)) named)

  in_room : held ≤ finding_limit → finding_rows table held ≡ fs → Taken h x f
  unfolding room_for noted_in findings_written
  in_room l e =
      let r = le-leb held finding_limit l in
      let long = note_length (findings_part h) (findings_held h) f ∙ findings_long h s.right in
      record {
        room = r;
        few = (let count = sym (ap length e) ∙ tabulate_length (finding_row table) 0 held in omega arith);
        represents =
            subst (λ (u : Bytes). Represents u (with_findings x fs)) (sym (cond_true (room_for h f) _ h r))
            (subst (λ (gs : List Finding). Represents (findings_written h table held) (with_findings x gs)) e
            (findings_taken h x s table held long l (ap (every finding_right) e ∙ noted_fit)));
      }

  -- or there are too many
  pub one_noted : Taken h x f ⊎ ((room_for h f ≡ false) × (finding_limit < length fs))
  unfolding room_for
  one_noted = ⊎_elim (λ y. inl (in_room y.0 y.1)) (λ y. inr (lt-leb held finding_limit (let a = y.0 in omega arith), y.1)) holds
