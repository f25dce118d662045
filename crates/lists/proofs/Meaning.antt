-- What the readers answer, in the model's words: the n-th element of the printed list, counted from 0, or that there are not
-- so many. `Represents h x`: the bytes h keep the storage rules and stand for the history x.
-- Assumes nothing.
use Prim.Native.Nat.{ℕ}
use mathlib.Core.Path.{◌≡◌, sym, ◌∙◌, ap}
use mathlib.Core.Bool.{cond}
use mathlib.Core.List.{List}
use lib.Dec.{eqb}
use Rattle.model.specs.History.{Finding, History}
use Rattle.model.specs.Lists.{ordered, finding_list, leaders_of, leader_list, marks_from, unseen_list, unknown_from, unknown_list, committed_owner}
use Rattle.storage.specs.Tables.{nodes_part, terms_part, finding_rows, findings_part, tables_in}
use Rattle.storage.specs.Decode.{decode}
use Rattle.storage.specs.Values.{committed_end}
use Rattle.storage.specs.Head.{terms_held, findings_held, owner_of}
use Rattle.storage.proofs.Meanings.{Represents, owner_read, end_is, findings_stored}
use Rattle.lists.specs.Picked.{nth}
use Rattle.lists.specs.Committed.{owner_in}
use Rattle.lists.specs.Findings.{finding_of, finding_answer}
use Rattle.std.specs.Prelude.{None}
use Rattle.lists.specs.Leaders.{leader_as, leader_answer}
use Rattle.lists.specs.Unseen.{told_unseen, mark_in, unseen_answer}
use Rattle.lists.specs.Unknown.{is_known, index_of, index_in, unknown_answer}
use Rattle.lists.proofs.Ordered.{ordered_picked}
use Rattle.storage_bytes.proofs.ListLaws.{tabulate_length}
use Rattle.model.specs.Leaders.{ascending}
use Rattle.model.specs.Sizes.{Bytes, node_count}
use Rattle.lists.proofs.Printed.{marks_picked, known_read, indexes_picked, leaders_all}

-- ---- the committed prefix: its length is `end_is` of `storage`

pub owner_told : (h : Bytes) (x : History) → Represents h x → owner_in h ≡ committed_owner x
unfolding owner_in
owner_told h x s =
    let o : owner_of h ≡ x.owner = sym (owner_read h) ∙ ap (λ (y : History). y.owner) s.decodes in
    λ i. cond (eqb (end_is h x s i) 0) 0 (o i)

-- ---- unseen marks

pub unseen_told : (h : Bytes) (x : History) (n : ℕ) → Represents h x → unseen_answer h n ≡ nth told_unseen None (unseen_list x) n
unfolding unseen_answer mark_in unseen_list decode tables_in
unseen_told h x n s =
    marks_picked (nodes_part h) 0 node_count n ∙ ap (λ (y : History). nth told_unseen None (marks_from 0 y.unseen) n) s.decodes

-- ---- unknown indexes

pub unknown_told : (h : Bytes) (x : History) (n : ℕ) → Represents h x → unknown_answer h n ≡ nth index_of None (unknown_list x) n
unfolding unknown_answer index_in unknown_list
unknown_told h x n s =
    indexes_picked (is_known (terms_part h) (terms_held h)) (decode h).terms (known_read h) 0 (committed_end h) n
    ∙ (λ i. nth index_of None (unknown_from (s.decodes i).terms 0 (end_is h x s i)) n)

-- ---- findings

pub findings_told : (h : Bytes) (x : History) (n : ℕ) → Represents h x → finding_answer h n ≡ nth finding_of None (finding_list x) n
unfolding finding_answer finding_list
findings_told h x n s =
    ordered_picked (finding_rows (findings_part h) (findings_held h)) n
    ∙ ap (λ (l : List Finding). nth finding_of None (ordered l) n) (findings_stored h x s)

-- ---- leaders

pub leaders_told : (h : Bytes) (x : History) (n : ℕ) → Represents h x → leader_answer h n ≡ nth leader_as None (leader_list x) n
unfolding leader_answer leader_list
leaders_told h x n s =
    leaders_all (finding_rows (findings_part h) (findings_held h)) (findings_held h) n (tabulate_length _ 0 _)
    ∙ ap (λ (l : List Finding). nth leader_as None (ascending (leaders_of l)) n)
    (findings_stored h x s)
