-- The value of an accepted view: as many prefixes as it made, and as many as the distinct ones grew by.
-- Assumes nothing.
use Prim.Native.Nat.{◌+◌}
use native.Mathlib.Omega.{arith}
use mathlib.Core.Path.{◌≡◌, sym, ◌∙◌, ap}
use mathlib.Core.Bool.{cond}
use mathlib.Core.List.{List, [], ◌∷◌, ◌++◌}
use lib.ListN.{length, length-append}
use Rattle.model.specs.Entry.{Prefix, prefixes, is_in, with, with_all}
use Rattle.model.specs.Record.{view, front}
use Rattle.model.specs.History.{History}
use Rattle.model.specs.View.{prefixes_of, stored, made, view_value, view_effect}
use Rattle.model.specs.Run.{history_of}
use Rattle.model.specs.Statements.{accepted_fronts, PrefixIn, ValueIsStored, ValueIsGrowth}
use Rattle.model.proofs.Tests.{cond_cases}
use Rattle.model.proofs.Stored.{counted, stored_once, stored_exactly}
use Rattle.model.proofs.Last.{history_last}

with_one : (ps : List Prefix) (q : Prefix) → length ps + cond (is_in prefixes q ps) 0 1 ≡ length (with prefixes ps q)
unfolding with
with_one ps q =
    cond_cases (λ (l : List Prefix). length ps + cond (is_in prefixes q ps) 0 1 ≡ length l) (is_in prefixes q ps) ps (ps ++ (q ∷ []))
    (λ t. ap (λ b. length ps + cond b 0 1) t ∙ (let z : length ps + 0 ≡ length ps = omega arith in z))
    (λ f. ap (λ b. length ps + cond b 0 1) f ∙ sym (length-append ps (q ∷ [])))

-- each that is made is one more stored
all_made : (ps qs : List Prefix) → length ps + made ps qs ≡ length (with_all prefixes ps qs)
unfolding made with_all
all_made ps [] = omega arith
all_made ps (q ∷ qs) = omega (arith, with_one ps q, all_made (with prefixes ps q) qs)

pub made_stored : (ps : List Prefix) (p : Prefix) → length ps + made ps (prefixes_of p) ≡ length (stored ps p)
unfolding stored
made_stored ps p = all_made ps (prefixes_of p)

pub value_is_stored : ValueIsStored
unfolding view_value view_effect
value_is_stored h n xs = made_stored h.prefixes (front xs)

pub value_is_growth : ValueIsGrowth
value_is_growth ss s n xs before with_it e a b w =
    let r = ss ++ (s ∷ []) in
    let held = counted prefixes (PrefixIn (accepted_fronts ss)) (history_of ss).prefixes (stored_once ss) (stored_exactly ss) before b in
    let then = counted prefixes (PrefixIn (accepted_fronts r)) (history_of r).prefixes (stored_once r) (stored_exactly r) with_it w in
    let last = ap (λ (h : History). length h.prefixes) (history_last ss s (view n xs) e a) in
    omega (arith, held, then, last, value_is_stored (history_of ss) n xs)
