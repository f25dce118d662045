-- `sheet_text::taking::hand_over` meets its contract.
-- Assumes nothing.
use mathlib.Core.Path.{◌≡◌, ◌∙◌, ap}
use borrow.Author.Rules.{rules}
use lib.ListN.{length, get_or}
use Rattle.answers.specs.Numbers.{reply_of}
use Rattle.sheet_text.proofs.SheetLaws.{over_none, over_some}
use Rattle.sheet_text.proofs.taking.hand_over.Goals as goal

pub returns-in_default : goal.returns-in_default
returns-in_default c =
    let none : length c.args.s.now ≡ 0 = search rules in
    over_none _ _ _ _ _ none c.put_cut.ensures

pub returns : goal.returns
returns c =
    let some : length c.args.s.now ≡ 0 → ⊥ = search rules in
    let kind : c.in-Some.first.now ≡ get_or c.args.s.now 0 0 = search rules in
    over_some _ _ _ _ _ some _
    (c.from-r.ensures ∙ ap reply_of c.submit.ensures.answer) _
    c.submit.ensures.bytes (rw kind at c.put_record.ensures)
