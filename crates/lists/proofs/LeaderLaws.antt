-- The turns of the search for the n-th leader.
-- Assumes nothing.
use Prim.Native.Nat.{ℕ, suc, ◌+◌, ◌-◌, ◌<◌, ◌≤◌}
use native.Mathlib.Omega.{arith}
use mathlib.Core.Path.{◌≡◌, sym, ◌∙◌, ap}
use mathlib.Core.Bool.{true, false}
use mathlib.Core.List.{List}
use lib.Dec.{leb, eqb}
use borrow.Author.Tests.{eq-eqb, ne_eqb, le-leb, lt-leb}
use Rattle.model.specs.Sizes.{Bytes}
use Rattle.model.specs.History.{Finding}
use Rattle.model.specs.Leaders.{Leader as Ranked}
use Rattle.model.proofs.Tests.{cond_true, cond_false}
use Rattle.storage_bytes.specs.Lists.{tabulate}
use Rattle.storage.specs.Tables.{finding_rows, findings_part}
use Rattle.storage.specs.Head.{findings_held}
use Rattle.storage_bytes.proofs.ListLaws.{tabulate_cons, tabulate_none}
use Rattle.lists.specs.declared.leaders.Leader.{Leader}
use Rattle.std.specs.Prelude.{Option, None}
use Rattle.lists.specs.Leaders.{pair, leader_as, is_below, lesser, lesser_of, better_of, least_in, next_of, rounds_of, leader_in, leader_answer}

-- ---- the best so far

pub lesser_first : (a : Ranked) (best : Option Leader) → best ≡ None → leader_as a ≡ lesser a best
unfolding lesser
lesser_first a best e = sym (ap (lesser a) e)

module _ (bound : Ranked) (f : Finding) (best : Option Leader) where
  pub better_other : (f.name ≡ 5 → ⊥) → best ≡ better_of bound f best
  unfolding better_of
  better_other d = sym (cond_false (eqb f.name 5) _ best (ne_eqb f.name 5 d))

  pub better_low : f.name ≡ 5 → is_below (pair f.term f.node) bound ≡ true → best ≡ better_of bound f best
  unfolding better_of
  better_low e q = sym (cond_true (eqb f.name 5) _ best (eq-eqb f.name 5 e) ∙ cond_true _ best (lesser_of f best) q)

  pub better_taken : f.name ≡ 5 → is_below (pair f.term f.node) bound ≡ false → lesser_of f best ≡ better_of bound f best
  unfolding better_of
  better_taken e q = sym (cond_true (eqb f.name 5) _ best (eq-eqb f.name 5 e) ∙ cond_false _ best (lesser_of f best) q)

-- ---- the least of the rows, the last one first

module _ (bound : Ranked) (row : ℕ → Finding) (m : ℕ) where
  pub least_start : None ≡ least_in bound (tabulate row m (m - m))
  unfolding least_in
  least_start = sym (ap (least_in bound) (tabulate_none row m m (omega arith)))

  pub least_next : {best r : Option Leader} {f : Finding} (k : ℕ) → best ≡ least_in bound (tabulate row k (m - k)) → 0 < k → k ≤ m
      → f ≡ row (k - 1) → r ≡ better_of bound f best → r ≡ least_in bound (tabulate row (k - 1) (m - (k - 1)))
  unfolding least_in
  least_next k inv h l ef er =
      let e : k ≡ k - 1 + 1 = omega arith in
      er
      ∙ (λ i. better_of bound (ef i) ((inv ∙ ap (λ (j : ℕ). least_in bound (tabulate row j (m - j))) e) i))
      ∙ sym (ap (least_in bound) (tabulate_cons row (k - 1) m (omega arith)))

  pub least_done : {best : Option Leader} (k : ℕ) → best ≡ least_in bound (tabulate row k (m - k)) → k ≤ 0 → best ≡ least_in bound (tabulate row 0 m)
  least_done k inv h =
      inv ∙ (λ i. least_in bound (tabulate row (let e : k ≡ 0 = omega arith in e i) (let e : m - k ≡ m = omega arith in e i)))

-- ---- from one to the next

module _ (fs : List Finding) (found : Option Leader) where
  pub rounds_next : {r after : Option Leader} (n : ℕ) → r ≡ rounds_of fs found n → 0 < n → after ≡ next_of fs found
      → {l : ℕ} → l ≡ n - 1 → r ≡ rounds_of fs after l
  unfolding rounds_of
  rounds_next n inv h e d =
      inv ∙ ap (rounds_of fs found) (let q : n ≡ suc (n - 1) = omega arith in q) ∙ (λ i. rounds_of fs (sym e i) (sym d i))

  pub rounds_done : {r : Option Leader} (n : ℕ) → r ≡ rounds_of fs found n → n ≤ 0 → r ≡ found
  unfolding rounds_of
  rounds_done n inv h = inv ∙ ap (rounds_of fs found) (let q : n ≡ 0 = omega arith in q)

pub rounds_start : (fs : List Finding) (n : ℕ) {found : Option Leader} → found ≡ least_in (pair 0 0) fs → {l : ℕ} → l ≡ n → leader_in fs n ≡ rounds_of fs found l
unfolding leader_in
rounds_start fs n e d = λ i. rounds_of fs (sym e i) (sym d i)

-- ---- the answer of the lent table is that of the whole

module _ (h : Bytes) (m n : ℕ) (em : m ≡ findings_held h) where
  pub leaders_past : m ≤ n → None ≡ leader_answer h n
  unfolding leader_answer
  leaders_past l = sym (cond_true (leb (findings_held h) n) _ _ (le-leb (findings_held h) n (omega arith)))

  pub leaders_lent : n < m → (t : Bytes) {r : Option Leader} → t ≡ findings_part h → r ≡ leader_in (finding_rows t m) n → r ≡ leader_answer h n
  unfolding leader_answer
  leaders_lent l t et q =
      q
      ∙ (λ i. leader_in (finding_rows (et i) (em i)) n)
      ∙ sym (cond_false (leb (findings_held h) n) None _ (lt-leb (findings_held h) n (omega arith)))
