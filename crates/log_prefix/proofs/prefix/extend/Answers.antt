-- `log_prefix::prefix::extend` meets its contract.
-- Assumes nothing.
use mathlib.Core.Path.{sym, ◌∙◌}
use Rattle.log_prefix.proofs.Written.{extend_found, extend_making, extend_made, next_read, extends_next, extends_none}
use Rattle.log_prefix.proofs.prefix.extend.Goals as goal

pub returns-then-e-through : goal.returns-then-e-through
returns-then-e-through c =
    let i = next_read _ _ _ _ c.array-rows.ensures.is c.through.ensures.is in
    extends_none _ _ _ _ (λ x. c.if-e-through.true (x ∙ sym i))

pub make-requires : goal.make-requires
make-requires c =
    let i = c.if-e-through.false ∙ next_read _ _ _ _ c.array-rows.ensures.is c.through.ensures.is in
    extend_making _ _ _ _ _ c.array-rows.ensures.is _ c.find_extension.ensures c.in_default.is c.requires i

pub returns-in_default : goal.returns-in_default
returns-in_default c =
    let i = c.if-e-through.false ∙ next_read _ _ _ _ c.array-rows.ensures.is c.through.ensures.is in
    extends_next _ _ _ c.args.e i _ _
    (extend_made _ _ _ c.args.e _ c.array-rows.ensures.is _ c.find_extension.ensures c.in_default.is _ _ c.make.ensures)

pub returns : goal.returns
returns c =
    let i = c.if-e-through.false ∙ next_read _ _ _ _ c.array-rows.ensures.is c.through.ensures.is in
    extends_next _ _ _ c.args.e i _ _
    (extend_found _ _ _ c.args.e _ c.array-rows.ensures.is _ c.find_extension.ensures _ c.in-Some.is)
