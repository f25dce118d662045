-- `logical_log::observation::observe_prefixes` meets its contract.
-- Assumes nothing.
use Prim.Native.Nat.{min}
use borrow.Author.Rules.{rules}
use mathlib.Core.Path.{◌≡◌, ap, ◌∙◌}
use native.Mathlib.Omega.{arith}
use Rattle.std.specs.Prelude.{Err}
use Rattle.std.proofs.lemmas.Result.{err_from_is_err_and}
use Rattle.log_violation.proofs.ViolationLaws.{over_limit, in_limit}
use Rattle.logical_log.proofs.Whole.{total_small, observed_six, observed_seven, observed_ok, observed_room}
use Rattle.model.specs.Sizes.{prefix_limit}
use Rattle.logical_log.proofs.observation.observe_prefixes.Goals as goal

pub overflow_add-total : goal.overflow_add-total
overflow_add-total c =
    let x = total_small c.requires c.args.view.walk c.judge_view-judged.ensures c.prefix_count-count.ensures.is in
    omega arith

pub returns-then-most-total : goal.returns-then-most-total
returns-then-most-total c =
    let m : c.min-most.result ≡ min c.args.limit prefix_limit = search rules in
    observed_six c.requires c.args.view.walk c.judge_view-judged.ensures c.prefix_count-count.ensures.is m c.if-most-total.true

pub returns-in_err-fits : goal.returns-in_err-fits
returns-in_err-fits c =
    let m : c.min-most.result ≡ min c.args.limit prefix_limit = search rules in
    let p = err_from_is_err_and c.from_residual.result c.from_residual.ensures.1 in
    observed_seven c.requires c.args.view.walk c.judge_view-judged.ensures c.prefix_count-count.ensures.is m c.if-most-total.false
    (over_limit _ _ c.fits.ensures _ c.in_err-fits.was) _ (p.1 ∙ ap Err p.2)

pub write_view-made-requires : goal.write_view-made-requires
write_view-made-requires c =
    let m : c.min-most.result ≡ min c.args.limit prefix_limit = search rules in (
      observed_room c.requires c.args.view.walk c.judge_view-judged.ensures c.prefix_count-count.ensures.is m c.if-most-total.false (omega arith),
      c.args.view.is_node,
    )

pub returns : goal.returns
returns c =
    let m : c.min-most.result ≡ min c.args.limit prefix_limit = search rules in
    observed_ok c.requires c.args.view.walk c.judge_view-judged.ensures c.prefix_count-count.ensures.is m c.if-most-total.false
    (in_limit _ _ c.fits.ensures _ c.in_ok-fits.was) _ _ c.write_view-made.ensures _ c.with.ensures
