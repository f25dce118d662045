-- `lists::committed::committed_prefix` meets its contract.
-- Assumes nothing.
use native.Mathlib.Omega.{arith}
use mathlib.Core.Path.{◌≡◌, sym, ◌∙◌}
use lib.Dec.{eqb}
use borrow.Author.Tests.{eq-eqb, ne_eqb}
use Rattle.std.specs.Prelude.{Some}
use Rattle.model.proofs.Tests.{cond_true, cond_false}
use Rattle.storage.specs.Values.{number_index, committed_end}
use Rattle.storage.proofs.WellFormed.{formed}
use Rattle.log_prefix.proofs.StoredLaws.{stored_number, stored_nothing}
use Rattle.lists.specs.Committed.{committed_answer}
use Rattle.lists.proofs.IndexWhole.{end_none, end_some}
use Rattle.lists.proofs.committed.committed_prefix.Goals as goal

pub returns-in_default : goal.returns-in_default
unfolding committed_answer
returns-in_default c =
    let h = c.args.history.bytes.now in
    let none = end_none h (stored_nothing _ _ c.committed_prefix.ensures c.in_default.is) in
    sym (cond_true (eqb (committed_end h) 0) _ _ (eq-eqb (committed_end h) 0 none))

pub through-requires : goal.through-requires
through-requires c =
    let f = formed c.args.history.bytes.now c.args.history.formed in
    let number = stored_number _ _ c.committed_prefix.ensures _ c.in-Some.is in
    omega (arith, number.0, f.committed, f.prefixes)

pub returns : goal.returns
unfolding committed_answer committed_end
returns c =
    let h = c.args.history.bytes.now in
    let number = stored_number _ _ c.committed_prefix.ensures _ c.in-Some.is in
    let end : c.through.result.0 ≡ committed_end h = c.through.ensures.is ∙ (λ i. number_index (c.array.ensures.is i) (number.0 i)) in
    (λ i. Some (record { length = record { 0 = end i }; owner = record { 0 = c.owner.ensures.is i } }))
    ∙ sym (cond_false (eqb (committed_end h) 0) _ _ (ne_eqb (committed_end h) 0 (end_some h c.args.history.formed number.1)))
