-- `leader_completeness::judgement::lacks_through` meets its contract.
-- Assumes nothing.
use native.Mathlib.Omega.{arith}
use mathlib.Core.Path.{◌∙◌, ap, sym}
use Rattle.std.specs.Prelude.{ℕ, Option, cond, is_some}
use Rattle.units.specs.declared.LogPrefixWitness.{LogPrefixWitness}
use Rattle.storage_rows.specs.Certificates.{log_number}
use Rattle.leader_completeness.proofs.JudgementLaws.{lacks_absent, lacks_there}
use Rattle.leader_completeness.proofs.judgement.lacks_through.Goals as goal

pub returns-in_default : goal.returns-in_default
returns-in_default c =
    lacks_absent _ _ _ (ap (λ (o : Option LogPrefixWitness). cond {A = ℕ} (is_some o) 1 0) c.in_default.is)

pub returns : goal.returns
returns c =
    let there = ap (λ (o : Option LogPrefixWitness). cond {A = ℕ} (is_some o) 1 0) c.in-Some.is in
    let log = sym (ap log_number c.in-Some.is) in
    lacks_there _ _ _ (λ z. omega (arith, sym there ∙ z)) _ c.requires.0 _ (rw log at c.agree_through.ensures)
