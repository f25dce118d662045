-- What an accepted view writes, put together.
-- Assumes nothing.
use Prim.Native.Nat.{ℕ}
use mathlib.Core.Path.{◌≡◌, ◌∙◌, ap}
use Rattle.record_entries.specs.BitLayout.{ViewBits}
use Rattle.model.specs.Sizes.{Bytes}
use Rattle.log_violation.specs.Violation.{findings_kept}
use Rattle.logical_log.specs.Writing.{StoredAs, view_replaced, rest_made, rest_written}
use Rattle.logical_log.specs.Judging.{last_at}
use Rattle.logical_log.specs.declared.judging.FrontCursor.{FrontCursor}

pub view_written_lem : (h : Bytes) (n : ℕ) (s : ViewBits) (r : FrontCursor) (node number made last : ℕ) (t : Bytes) (held : ℕ) (h₁ h₂ h₃ : Bytes)
    → StoredAs h n s r number made h₁ → last ≡ last_at s r → h₂ ≡ view_replaced h₁ node number last → h₃ ≡ findings_kept h₂ t held
    → (made ≡ rest_made h n s r) × (h₃ ≡ rest_written h n s r node t held)
unfolding rest_written
view_written_lem h n s r node number made last t held h₁ h₂ h₃ a b c d =
    (a.made, d ∙ ap (λ (x : Bytes). findings_kept x t held) (c ∙ (λ i. view_replaced (a.bytes i) node (a.is i) (b i))))
