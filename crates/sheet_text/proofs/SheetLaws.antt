-- Laws of a record handed over and its line.
-- Assumes nothing.
use Prim.Native.Nat.{ℕ}
use mathlib.Core.Path.{◌≡◌}
use lib.ListN.{length}
use borrow.Author.Tests.{eq-eqb, ne_eqb}
use Rattle.model.specs.Sizes.{Bytes}
use Rattle.answers.specs.declared.numbers.Reply.{Reply}
use Rattle.answers.specs.Numbers.{reply_of}
use Rattle.submission.specs.Replies.{submit_answer, submit_bytes}
use Rattle.sheet_lines.specs.Filled.{Filled}
use Rattle.sheet_lines.specs.declared.decimal.Sheet.{Sheet}
use Rattle.sheet_lines.specs.Lines.{record_line, record_room}
use Rattle.sheet_text.specs.Sheet.{kind_of, cut_line, line_for, bytes_after, HandedOver}

module _ (h s : Bytes) (t t' : Sheet) (number : ℕ) where
  pub over_none : length s ≡ 0 → Filled record_room t (cut_line number) t' → HandedOver h s t number h t'
  unfolding line_for bytes_after
  over_none e p = let b = eq-eqb (length s) 0 e in record { line = rw b p; history = rw b }

  pub over_some : (length s ≡ 0 → ⊥) → (q : Reply) → q ≡ reply_of (submit_answer h s) → (h' : Bytes) → h' ≡ submit_bytes h s
      → Filled record_room t (record_line number (kind_of s) q) t' → HandedOver h s t number h' t'
  unfolding line_for bytes_after
  over_some n q e h' f p =
      let b = ne_eqb (length s) 0 n in
      record { line = rw (b, ← e) p; history = rw b f }
