-- What the loops pick, as the n-th of a printed list: marks, unknown indexes, leaders.
-- Assumes nothing.
use Prim.Native.Nat.{ℕ, zero, suc, ◌+◌, ◌-◌, ◌<◌, ◌≤◌}
use native.Mathlib.Omega.{arith}
use mathlib.Core.Path.{◌≡◌, refl, sym, ◌∙◌, ap, subst}
use native.Mathlib.Decide.{dec_le}
use mathlib.Core.Bool.{Bool, true, false, cond, not}
use mathlib.Core.List.{List, [], ◌∷◌, ◌++◌, map}
use lib.Dec.{leb, eqb}
use lib.ListN.{length, get_or, length-map, get_or-eq_default}
use borrow.Author.Tests.{le-leb, lt-leb, ne_eqb}
use Rattle.model.specs.Sizes.{Bytes}
use Rattle.model.specs.History.{Finding}
use Rattle.model.specs.Lists.{leaders_of, marks_from, unknown_from}
use Rattle.model.proofs.Tests.{cond_true, cond_false}
use Rattle.storage_bytes.specs.Lists.{tabulate}
use Rattle.storage.specs.Tables.{NodeRow, row_of_node, term_row, terms_part}
use Rattle.storage.specs.Decode.{decode}
use Rattle.storage.specs.Head.{terms_held}
use Rattle.storage.proofs.Meanings.{terms_read, term_read}
use Rattle.units.specs.declared.LogIndex.{LogIndex}
use Rattle.lists.specs.Picked.{nth, pick_from}
use Rattle.std.specs.Prelude.{Option, None}
use Rattle.lists.specs.Leaders.{leader_as, leader_in}
use Rattle.lists.specs.Unseen.{told_unseen, unmarked, mark_at}
use Rattle.lists.specs.Unknown.{is_known, index_of}
use Rattle.lists.proofs.Ascents.{leaders_picked, leaders_few}
use Rattle.model.specs.Leaders.{ascending}

-- one place more in front, which b tells to pass over
turn : {A B : Type 0} (answer : A → B) (none : B) (x : A) (xs : List A) (later : ℕ → B) → ((n : ℕ) → later n ≡ nth answer none xs n)
    → (b : Bool) (n : ℕ) → cond b (later n) (cond (eqb n 0) (answer x) (later (n - 1))) ≡ nth answer none (cond b [] (x ∷ []) ++ xs) n
turn answer none x xs later h true n = h n
turn answer none x xs later h false zero = refl
turn answer none x xs later h false (suc n) =
    cond_false (eqb (suc n) 0) (answer x) _ (ne_eqb (suc n) 0 (λ e. omega arith)) ∙ ap later (let e : suc n - 1 ≡ n = omega arith in e) ∙ h n

-- ---- unseen marks

pub marks_picked : (t : Bytes) (k m n : ℕ)
    → pick_from (unmarked t) (mark_at t) None k m n
    ≡ nth told_unseen None (marks_from k (map (λ (r : NodeRow). r.unseen) (tabulate (row_of_node t) k m))) n
unfolding pick_from marks_from tabulate
marks_picked t k zero n = refl
marks_picked t k (suc m) n =
    turn told_unseen None (record { node = k; index = (row_of_node t k).unseen }) _ _ (marks_picked t (k + 1) m) (eqb (row_of_node t k).unseen 0) n

-- ---- unknown indexes

-- what the storage has past its count is absent
pub known_read : (h : Bytes) (i : ℕ) → is_known (terms_part h) (terms_held h) i ≡ not (eqb (get_or (decode h).terms i 0) 0)
unfolding is_known
known_read h i = go (dec_le (terms_held h) i)
  where
    go : Dec (terms_held h ≤ i) → cond (leb (terms_held h) i) false (not (eqb (term_row (terms_part h) i) 0)) ≡ not (eqb (get_or (decode h).terms i 0) 0)
    go (yes l) =
        cond_true (leb (terms_held h) i) false _ (le-leb _ _ l)
        ∙ ap (λ (v : ℕ). not (eqb v 0)) (sym (get_or-eq_default (decode h).terms 0 (subst (λ (c : ℕ). c ≤ i) (sym (terms_read h)) l)))
    go (no f) =
        let l : i < terms_held h = omega arith in
        cond_false (leb (terms_held h) i) false _ (lt-leb _ _ l) ∙ ap (λ (v : ℕ). not (eqb v 0)) (sym (term_read h i 0 l))

unknown_turn : (b : Bool) (i n : ℕ) (xs : List ℕ) (later : ℕ → Option LogIndex) → ((n : ℕ) → later n ≡ nth index_of None xs n)
    → cond (not b) (later n) (cond (eqb n 0) (index_of i) (later (n - 1))) ≡ nth index_of None (cond b (i ∷ []) [] ++ xs) n
unknown_turn true i n xs later h = turn index_of None i xs later h false n
unknown_turn false i n xs later h = turn index_of None i xs later h true n

pub indexes_picked : (known : ℕ → Bool) (ts : List ℕ) → ((i : ℕ) → known i ≡ not (eqb (get_or ts i 0) 0)) → (i m n : ℕ)
    → pick_from known (λ j. index_of (j + 1)) None i m n ≡ nth index_of None (unknown_from ts i m) n
unfolding pick_from unknown_from
indexes_picked known ts e i zero n = refl
indexes_picked known ts e i (suc m) n =
    let later = pick_from known (λ j. index_of (j + 1)) None (i + 1) m in
    ap (λ (b : Bool). cond b (later n) (cond (eqb n 0) (index_of (i + 1)) (later (n - 1)))) (e i)
    ∙ unknown_turn (eqb (get_or ts i 0) 0) (i + 1) n (unknown_from ts (i + 1) m) _ (indexes_picked known ts e (i + 1) m)

-- ---- leaders

-- however many are asked for: there are no more leaders than findings
pub leaders_all : (fs : List Finding) (m n : ℕ) → length fs ≡ m
    → cond (leb m n) None (leader_in fs n) ≡ nth leader_as None (ascending (leaders_of fs)) n
leaders_all fs m n e = go (dec_le m n)
  where
    go : Dec (m ≤ n) → cond (leb m n) None (leader_in fs n) ≡ nth leader_as None (ascending (leaders_of fs)) n
    go (yes l) =
        cond_true (leb m n) _ _ (le-leb _ _ l)
        ∙ sym (get_or-eq_default (map leader_as (ascending (leaders_of fs))) None
        (let a = length-map (ascending (leaders_of fs)) leader_as in let b = leaders_few fs in omega arith))
    go (no f) = cond_false (leb m n) _ _ (lt-leb m n (omega arith)) ∙ leaders_picked fs n
