-- What the numbers of prefixes mean where bytes stand for a history, and what each write of this kind means.
-- Assumes nothing.
use Prim.Native.Nat.{ℕ, ◌≤◌, ◌<◌}
use native.Mathlib.Omega.{arith}
use mathlib.Core.Path.{◌≡◌, sym, ◌∙◌, ap, subst}
use mathlib.Core.Bool.{false}
use mathlib.Core.Logic.{⊎_elim}
use mathlib.Core.List.{List, []}
use lib.ListN.{length, get_or, set, take}
use lib.Seq.{set-get_or}
use Rattle.model.specs.Entry.{Prefix, same}
use Rattle.model.specs.History.{Finding, History, with_views, with_unseen, with_committed, with_findings}
use Rattle.model.specs.Sizes.{Bytes, node_count, index_limit}
use Rattle.storage.specs.Tables.{PrefixRow, NodeRow, rows_of_prefixes, prefixes_part}
use Rattle.storage.specs.Decode.{prefix_at, resolve}
use Rattle.storage.specs.Head.{prefixes_held, committed_number, owner_of}
use Rattle.storage.proofs.RowFacts.{Facts}
use Rattle.storage.proofs.Meanings.{Represents, prefixes_read, owner_read, last_read, node_written, committed_written, prefixes_stored, committed_stored}
use Rattle.log_prefix.specs.Prefix.{slice_of}
use Rattle.log_prefix.proofs.TableLaws.{rows_length}
use Rattle.log_prefix.proofs.Fronts.{Part, slice_is, stored_same, front_is}
use Rattle.commit.specs.Committed.{rows_of, node_of, same_slices, agree_in, unseen_set, keep_bytes}
use Rattle.commit.proofs.CommittedTurns.{none_first}
use Rattle.storage.proofs.WellFormed.{Formed, formed, formed_rows}
use Rattle.std.specs.Prelude.{Option}
use Rattle.units.specs.declared.LogPrefixWitness.{LogPrefixWitness}

-- the history with a node's unseen mark, the committed prefix with its owner, and the findings anew
abbrev pub changed : History → ℕ → ℕ → Prefix → ℕ → List Finding → History
changed x n m c o fs = with_findings (with_committed (with_unseen x (set x.unseen n m)) c o) fs

module _ (h : Bytes) (x : History) (s : Represents h x) where
  -- the prefix of a number
  abbrev pub at : ℕ → Prefix
  at p = prefix_at x.prefixes p

  facts : Formed h
  facts = formed h s.right

  abbrev rows : List PrefixRow
  rows = rows_of_prefixes (prefixes_part h) (prefixes_held h)

  count : length rows ≡ prefixes_held h
  count = rows_length (prefixes_part h) (prefixes_held h)

  known : Facts rows
  known = formed_rows h facts

  resolves : resolve rows ≡ x.prefixes
  resolves = prefixes_stored h x s

  number : (p : ℕ) → p ≤ prefixes_held h → p ≤ length rows
  number p l = subst (λ (m : ℕ). p ≤ m) (sym count) l

  -- ---- what is read

  pub committed_is : x.committed ≡ at (committed_number h)
  committed_is = sym (committed_stored h x s)

  pub owner_is : x.owner ≡ owner_of h
  owner_is = ap (λ (y : History). y.owner) (sym s.decodes) ∙ owner_read h

  last_is : (n : ℕ) → n < node_count → get_or x.lasts n 0 ≡ (node_of h n).last
  last_is n l = ap (λ (y : History). get_or y.lasts n 0) (sym s.decodes) ∙ last_read h n l

  pub prefixes_counted : length x.prefixes ≡ prefixes_held h
  prefixes_counted = ap (λ (y : History). length y.prefixes) (sym s.decodes) ∙ prefixes_read h

  pub empty_is : (p : ℕ) → p ≤ prefixes_held h → at p ≡ [] → p ≡ 0
  empty_is p l e =
      known.distinct p 0 (number p l) (omega arith) (ap (λ (ps : List Prefix). prefix_at ps p) resolves ∙ e)

  part_of : (p i : ℕ) → p ≤ prefixes_held h → i ≤ length (at p) → Part h x (slice_of (rows_of h) p i) (at p) i
  part_of p i l r = ⊎_elim (λ b. absurd (let z = b.1 in omega arith)) (λ b. b) (slice_is h x s p i l)

  -- ---- two stored prefixes compared

  module _ (c p : ℕ) (lc : c ≤ prefixes_held h) (lp : p ≤ prefixes_held h) where
    -- through an index that both reach, and through one that the first does not
    pub agree_at : (i : ℕ) → i ≤ length (at c) → i ≤ length (at p) → agree_in h c p i ≡ same (take i (at c)) (take i (at p))
    unfolding agree_in
    agree_at i rc rp =
        let a = part_of c i lc rc in
        let b = part_of p i lp rp in
        (λ j. same_slices (rows_of h) (a.told j) (b.told j))
        ∙ stored_same h x s a.part b.part a.within b.within
        ∙ (λ j. same (a.first j) (b.first j))

    pub agree_beyond : (i : ℕ) → length (at c) < i → agree_in h c p i ≡ false
    unfolding agree_in
    agree_beyond i l =
        ⊎_elim (λ b. ap (λ (y : Option LogPrefixWitness). same_slices (rows_of h) y (slice_of (rows_of h) p i)) b.0 ∙ none_first (rows_of h) (slice_of (rows_of h) p i))
        (λ b. absurd (let z = b.reaches in omega arith)) (slice_is h x s c i lc)

  -- ---- what is written

  -- a node's unseen mark
  pub unseen_written : (n m : ℕ) → n < node_count → m ≤ index_limit → Represents (unseen_set h n m) (changed x n m x.committed x.owner x.findings)
  unfolding unseen_set
  unseen_written n m l b =
      let r = facts.node n l in
      let row : NodeRow = record { front = (node_of h n).front; last = (node_of h n).last; unseen = m } in
      let fronts : set x.fronts n (at (node_of h n).front) ≡ x.fronts =
      ap (λ (p : Prefix). set x.fronts n p) (sym (front_is h x s n l)) ∙ set-get_or x.fronts n [] in
      let lasts : set x.lasts n (node_of h n).last ≡ x.lasts =
      ap (λ (k : ℕ). set x.lasts n k) (sym (last_is n l)) ∙ set-get_or x.lasts n 0 in
      subst (Represents (unseen_set h n m))
      (λ j. with_unseen (with_views x (fronts j) (lasts j)) (set x.unseen n m))
      (node_written h x s n row l (record { front = r.front; last = r.last; unseen = b }))

-- the committed prefix and its owner, with the mark cleared
pub keep_written : (h : Bytes) (x : History) (s : Represents h x) (n p : ℕ) → n < node_count → p ≤ prefixes_held h
    → Represents (keep_bytes h n p) (changed x n 0 (prefix_at x.prefixes p) n x.findings)
unfolding keep_bytes
keep_written h x s n p l b =
    let y = changed x n 0 x.committed x.owner x.findings in
    let w = unseen_written h x s n 0 l (omega arith) in
    let here = prefixes_counted h x s in
    let there = prefixes_counted (unseen_set h n 0) y w in
    committed_written (unseen_set h n 0) y w p n (omega arith) (omega arith)
