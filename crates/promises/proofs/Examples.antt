-- Demand 3 on four lists, with commit terms that come late or are recorded as zero; commit terms in any order, and views in any
-- order, on two lists each, with the same terms and other findings, or the same pair and another node; a leader that wrote its
-- entry again. Computed on the model and carried to what the readers give.
-- Assumes nothing.
use Prim.Native.Nat.{ℕ}
use mathlib.Core.Path.{◌≡◌, sym, ◌∙◌, ap}
use mathlib.Core.List.{List, [], ◌∷◌, ◌++◌}
use Rattle.model.specs.Sizes.{Bytes}
use Rattle.model.specs.History.{Finding, History}
use Rattle.model.specs.Leaders.{Leader}
use Rattle.model.specs.Ledger.{empty, ledger_leaders}
use Rattle.model.specs.Lists.{finding_list, leader_list}
use Rattle.model.specs.Run.{history_of}
use Rattle.model.specs.Run as run
use Rattle.model.proofs.Tests.{cond_true}
use Rattle.model.specs.AppendOnly.{lg01}
use Rattle.model.proofs.AppendOnly.{one, other, two, leads, rewritten}
use Rattle.model.proofs.Arrival.{without_content, with_content, clash_of, nodes_differ}
use Rattle.model.proofs.Bridge as bridge
use Rattle.model.proofs.TermOrder.{elected, between, five, three, Leaves, lg05, five_first, three_first, accepted_both}
use Rattle.model.proofs.Completeness.{leader_in, checked, LeadersAfter, late, late_leaders, zero_term, zero_leaders, told_later, later_leaders, told_early, early_leaders}
use Rattle.storage.specs.Rules.{well_formed}
use Rattle.storage.specs.Fresh.{fresh_history}
use Rattle.lists.specs.Picked.{nth}
use Rattle.history.specs.Exports.{a_finding, no_finding, finding_out, a_leader, no_leader, leader_out}
use Rattle.history.specs.declared.exports.FindingReply.{FindingReply}
use Rattle.promises.specs.Run.{bytes_of, ledger_of}
use Rattle.promises.specs.Demands.{recorded_terms}
use Rattle.promises.proofs.Machine.{submitting, ledgers_are}
use Rattle.promises.proofs.Demands.{never_broken, read_out}
use Rattle.promises.proofs.TermOrder.{terms_alike, accepted_alike, terms_swapped}

-- ---- from the model

-- after every list the reader gives the leaders of the model's history, and the ledger is the model's
given : (ss : List Bytes) (n : ℕ) → leader_out (bytes_of ss) n ≡ nth a_leader (no_leader 1) (leader_list (history_of ss)) n
given ss n =
    cond_true (well_formed (bytes_of ss)) _ (no_leader 12) (never_broken ss).0
    ∙ ap (λ (x : History). nth a_leader (no_leader 1) (leader_list x) n) (never_broken ss).1

same_ledger : (ss : List Bytes) → ledger_of ss ≡ run.ledger_of ss
same_ledger ss = sym (ledgers_are ss fresh_history empty) ∙ (bridge.represents_always submitting ss).2

-- ---- the lists of model/proofs/Completeness.antt, each with a check behind it

-- P12 with its late term: the reader gives leader 1 of term 4, and then no more
pub late_given : let ss = late ++ (checked ∷ []) in
    (leader_out (bytes_of ss) 0 ≡ a_leader (leader_in 4 1)) × (leader_out (bytes_of ss) 1 ≡ no_leader 1)
late_given = (
  given (late ++ (checked ∷ [])) 0 ∙ ap (λ (ls : List Leader). nth a_leader (no_leader 1) ls 0) late_leaders.0,
  given (late ++ (checked ∷ [])) 1 ∙ ap (λ (ls : List Leader). nth a_leader (no_leader 1) ls 1) late_leaders.0,
)

-- the reader gives no leader, and the ledger has none
abbrev pub NoLeader : List Bytes → Type 0
NoLeader ss = (leader_out (bytes_of (ss ++ (checked ∷ []))) 0 ≡ no_leader 1) × (ledger_leaders (ledger_of (ss ++ (checked ∷ []))) ≡ [])

none_given : (ss : List Bytes) → LeadersAfter ss [] [] → NoLeader ss
none_given ss e = (
  given (ss ++ (checked ∷ [])) 0 ∙ ap (λ (ls : List Leader). nth a_leader (no_leader 1) ls 0) e.0,
  ap ledger_leaders (same_ledger (ss ++ (checked ∷ []))) ∙ e.1,
)

-- a commit term that is recorded as zero
pub zero_given : NoLeader zero_term
zero_given = none_given zero_term zero_leaders

-- one that comes between two checks, and is not before the election's
pub later_given : NoLeader told_later
later_given = none_given told_later later_leaders

-- one that comes between two checks, and is before it: the reader gives leader 2 of term 4, and then no more
pub early_given : let ss = told_early ++ (checked ∷ []) in
    (leader_out (bytes_of ss) 0 ≡ a_leader (leader_in 4 2)) × (leader_out (bytes_of ss) 1 ≡ no_leader 1)
early_given = (
  given (told_early ++ (checked ∷ [])) 0 ∙ ap (λ (ls : List Leader). nth a_leader (no_leader 1) ls 0) early_leaders.0,
  given (told_early ++ (checked ∷ [])) 1 ∙ ap (λ (ls : List Leader). nth a_leader (no_leader 1) ls 1) early_leaders.0,
)

-- ---- the lists of model/proofs/TermOrder.antt: two commit terms of one entry, a check between them

-- after a list: the commit terms in the bytes, and the first that the reader of findings gives
abbrev pub Printed : List Bytes → List ℕ → FindingReply → Type 0
Printed ss ts r = (recorded_terms (bytes_of ss) ≡ ts) × (finding_out (bytes_of ss) 0 ≡ r)

printed : (ss : List Bytes) (ts : List ℕ) (fs : List Finding) (ms : List ℕ) → Leaves ss ts fs ms
    → Printed ss ts (nth a_finding (no_finding 1) fs 0)
printed ss ts fs ms e = (
  terms_alike ss ∙ e.0,
  cond_true (well_formed (bytes_of ss)) _ (no_finding 12) (never_broken ss).0
      ∙ ap (λ (x : History). nth a_finding (no_finding 1) (finding_list x) 0) (never_broken ss).1
      ∙ ap (λ (l : List Finding). nth a_finding (no_finding 1) l 0) e.1,
)

-- the greater term first: the terms are the same, and there is no finding
pub five_first_printed : Printed (between five three) (3 ∷ []) (no_finding 1)
five_first_printed = printed (between five three) (3 ∷ []) [] (0 ∷ []) five_first

-- the smaller first: an LG-05
pub three_first_printed : Printed (between three five) (3 ∷ []) (a_finding lg05)
three_first_printed = printed (between three five) (3 ∷ []) (lg05 ∷ []) (1 ∷ []) three_first

-- that the terms are the same is the law, whose premises hold
swapped_same : recorded_terms (bytes_of (between five three)) ≡ recorded_terms (bytes_of (between three five))
swapped_same =
    terms_swapped elected five ((0x50 ∷ []) ∷ []) three []
    ((accepted_alike (between five three)).1 accepted_both.0)
    ((accepted_alike (between three five)).1 accepted_both.1)

-- ---- the two views of model/proofs/Arrival.antt, in two orders: one pair, of another node each time

found : (ss : List Bytes) (f : Finding) → finding_list (history_of ss) ≡ f ∷ [] → finding_out (bytes_of ss) 0 ≡ a_finding f
found ss f e =
    read_out ss 0 ∙ ap (λ (fs : List Finding). nth a_finding (no_finding 1) fs 0) e

pub nodes_given :
    (finding_out (bytes_of (without_content ∷ with_content ∷ [])) 0 ≡ a_finding (clash_of 2))
    × (finding_out (bytes_of (with_content ∷ without_content ∷ [])) 0 ≡ a_finding (clash_of 1))
nodes_given = (found _ (clash_of 2) nodes_differ.0, found _ (clash_of 1) nodes_differ.1)

-- ---- the first list of model/proofs/AppendOnly.antt: a leader wrote its entry again

pub rewritten_given : finding_out (bytes_of (one ∷ leads ∷ other ∷ leads ∷ two ∷ leads ∷ [])) 0 ≡ a_finding (lg01 0 1)
rewritten_given = found _ (lg01 0 1) rewritten.1
