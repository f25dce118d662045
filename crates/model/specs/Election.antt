-- Document 01, "Election and check", the election: it keeps a certificate.
-- docs/SCOPE.md, "Elections".
-- Assumes nothing.
use Rattle.std.specs.Prelude.{ℕ, ◌+◌, Bool, true, false, cond, List, [], ◌∷◌, leb, ltb, eqb, length, take}
use Rattle.std.proofs.Math.Option.{Option, none, some}
use Rattle.model.specs.Sizes.{certificate_limit}
use Rattle.model.specs.Entry.{Prefix}
use Rattle.model.specs.Refusal.{Refusal, lengthExceedsFront, certificatesFull}
use Rattle.model.specs.History.{Certificate, History, with_certificates, front_of}

-- "the first `length` entries of the leader's front, or none"
abbrev pub log_of : Bool → ℕ → Prefix → Option Prefix
log_of true n p = some (take n p)
log_of false n p = none

-- its number within its term: how many that term holds
unfoldable pub held : ℕ → List Certificate → ℕ
held t [] = 0
held t (c ∷ cs) = held t cs + cond (eqb c.term t) 1 0

-- by term, then arrival
unfoldable pub in_order : Certificate → List Certificate → List Certificate
in_order c [] = c ∷ []
in_order c (d ∷ ds) = cond (ltb c.term d.term) (c ∷ d ∷ ds) (d ∷ in_order c ds)

-- 9 when length exceeds the leader's front, 10 when 64 are held
unfoldable pub election_refusal : History → ℕ → ℕ → Option Refusal
election_refusal h l n =
    cond (ltb (length (front_of h l)) n) (some lengthExceedsFront)
    (cond (leb certificate_limit (length h.certificates)) (some certificatesFull) none)

-- "a certificate whose checked mark is zero"
unfoldable pub certificate : History → ℕ → ℕ → Bool → ℕ → Certificate
unfolding held
certificate h l t p n =
    record { leader = l; term = t; number = held t h.certificates; log = log_of p n (front_of h l); mark = 0 }

unfoldable pub election_effect : History → ℕ → ℕ → Bool → ℕ → History
unfolding in_order certificate
election_effect h l t p n = with_certificates h (in_order (certificate h l t p n) h.certificates)
