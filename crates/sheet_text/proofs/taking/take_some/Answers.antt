-- `sheet_text::taking::take_some` meets its contract.
-- Assumes nothing.
use borrow.Enum.Refused.{opened}
use mathlib.Core.Path.{◌≡◌, refl, ap, ◌∙◌}
use mathlib.Core.Logic.{⊎_elim}
use native.Mathlib.Omega.{arith}
use Rattle.sheet_text.specs.contracts.split.Piece.{the_type}
use denote.Enum.Declared.{tag_of}
use Rattle.sheet_text.proofs.SplitLaws.{whole_within}
use Rattle.sheet_text.proofs.TakingLaws.{taking_none, taking_next, taking_ends}
use Rattle.sheet_text.specs.Sheet.{taken_most}
use Rattle.sheet_text.proofs.taking.take_some.Goals as goal

pub loop-count-init : goal.loop-count-init
loop-count-init c = (taking_none _ _ _ _ _ c.requires.0, omega arith, refl)

pub piece_at-requires : goal.piece_at-requires
piece_at-requires c = c.loop-count.invariant.0.within

pub returns-in_default : goal.returns-in_default
returns-in_default c = taking_ends _ _ _ _ _ _ _ _ _ c.loop-count.invariant.0 c.loop-count.invariant.1 (λ l body size e.
    let tag = ap (tag_of the_type) (c.piece_at.ensures.answer ∙ e) in
    ⊎_elim (λ one. omega arith) (λ two. omega arith) (opened c.in_default.in_default-own.keys2))

pub part-s-requires : goal.part-s-requires
part-s-requires c = (whole_within _ _ _ _ _ c.piece_at.ensures c.in-Whole.is).ends

pub overflow_add-from : goal.overflow_add-from
overflow_add-from c = let w = whole_within _ _ _ _ _ c.piece_at.ensures c.in-Whole.is in omega (arith, w.ends)

pub loop-count-preserved : goal.loop-count-preserved
loop-count-preserved c = (
  taking_next _ _ _ _ _ _ _ _ _ _ _ _ _ _ _
      c.loop-count.invariant.0
      c.piece_at.ensures
      c.in-Whole.is
      c.part-s.ensures.is
      c.hand_over.ensures,
  omega arith,
  c.hand_over.auto.history ∙ c.loop-count.invariant.2,
)

pub returns : goal.returns
returns c =
    let full : c.loop-count.count ≡ taken_most = omega (arith, c.loop-count.invariant.1) in
    let t = taking_ends _ _ _ _ _ _ _ _ _ c.loop-count.invariant.0 c.loop-count.invariant.1 (λ l. absurd (omega arith)) in
    rw full at t
