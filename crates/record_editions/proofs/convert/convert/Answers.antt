-- `record_editions::convert::convert` meets its contract: the edition that is wanted, or none.
-- Assumes nothing.
use mathlib.Core.Path.{refl, sym, ◌∙◌}
use Rattle.record_editions.specs.Editions.{converted}
use Rattle.record_editions.proofs.convert.convert.Goals as goal

pub returns-in_default : goal.returns-in_default
unfolding converted
returns-in_default c =
    let a = c.args in
    let e = sym c.wanted.ensures ∙ c.in_default.is in
    rw e (record { refusal = refl; length = refl; bytes = refl })

pub returns : goal.returns
unfolding converted
returns c =
    let a = c.args in
    let e = sym c.wanted.ensures ∙ c.in-Some.is in
    rw e c.put_edition.ensures
