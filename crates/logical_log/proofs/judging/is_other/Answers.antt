-- `logical_log::judging::is_other` meets its contract.
-- Assumes nothing.
use Prim.Native.Nat.{ℕ, ◌≤◌}
use mathlib.Core.Path.{sym, subst}
use Rattle.log_prefix.proofs.StoredLaws.{stored_number}
use Rattle.logical_log.proofs.Cursors.{first_within}
use Rattle.logical_log.proofs.Turns.{other_none, other_same}
use Rattle.logical_log.proofs.judging.is_other.Goals as goal

pub same_prefix-requires : goal.same_prefix-requires
same_prefix-requires c =
    let x = stored_number _ _ c.first_of.ensures _ c.in-Some.is in
    (c.args.prefixes.count, c.requires.0, subst (λ (k : ℕ). k ≤ c.args.prefixes.count) (sym x.0) (first_within _ _ _ _), c.requires.2)

pub returns : goal.returns
returns c = other_same _ _ _ _ _ c.first_of.ensures _ c.in-Some.is _ _ c.same_prefix.ensures

pub returns-in_default : goal.returns-in_default
returns-in_default c = other_none _ _ _ _ _ c.first_of.ensures _ c.in_default.is
