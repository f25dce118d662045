-- What a told head gives each kind, and the exits of `submit`.
-- Assumes nothing.
use Prim.Native.Nat.{ℕ, ◌<◌}
use mathlib.Core.Path.{◌≡◌, sym, ◌∙◌, ap, subst}
use mathlib.Core.Bool.{true, false}
use Rattle.model.specs.Sizes.{Bytes, node_count}
use Rattle.model.proofs.Tests.{cond_true, cond_false}
use Rattle.units.specs.declared.NodeId.{NodeId}
use Rattle.record_bits.specs.declared.bits.Fault.{Fault}
use Rattle.record_reading.specs.declared.head.Head.{Head}
use Rattle.record_reading.specs.Heads.{Told, Within}
use Rattle.storage.specs.Rules.{well_formed}
use Rattle.std.specs.Prelude.{Result, Ok, Err}
use Rattle.answers.specs.declared.answer.Accepted.{Accepted}
use Rattle.answers.specs.declared.answer.Refusal.{Refusal}
use Rattle.answers.specs.Step.{refusing, Gives}
use Rattle.answers.proofs.StepLaws.{ends, goes_on, refuses_with}
use Rattle.submission.specs.Replies.{step_to, submit_step}

pub view_node : (s : Bytes) (d : Result Head Fault) → Told s d → (n : NodeId) (c : ℕ) → d ≡ Ok (Head.View n c) → n.0 < node_count
view_node s d t n c e = (subst Within e t.within).0

-- ---- the whole

module _ (h s : Bytes) where
  pub broken : well_formed h ≡ false → Gives (submit_step h s) (Err Refusal.StorageBroken) h
  unfolding submit_step
  broken e = ends _ (refusing Refusal.StorageBroken h) (cond_false (well_formed h) _ _ e)

  module _ (w : well_formed h ≡ true) (d : Result Head Fault) (t : Told s d) (r : Result Accepted Refusal) (h' : Bytes) where
    pub taken : Gives (step_to h s d) r h' → Gives (submit_step h s) r h'
    unfolding submit_step
    taken = goes_on _ _ (cond_true (well_formed h) _ _ w ∙ ap (step_to h s) (sym t.head)) r h'

    pub unreadable : (f : Fault) → d ≡ Err f → r ≡ Err (Refusal.Unreadable f) → h' ≡ h → Gives (submit_step h s) r h'
    unreadable f e er eh = taken (refuses_with _ h (Refusal.Unreadable f) (ap (step_to h s) e) r er h' eh)
