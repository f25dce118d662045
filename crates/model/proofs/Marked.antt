-- Document 01, "Marked checks": P1 to P12 as one table, and one test over the whole table, by computation. One more case is
-- for the mistake near at hand that none of the twelve would show.
-- A case has the records in bytes, and what document 01 says of the answers and of the history after them.
-- Assumes nothing.
use Prim.Native.Nat.{ℕ, suc}
use mathlib.Core.Path.{◌≡◌, refl}
use mathlib.Core.List.{List, [], ◌∷◌, ◌++◌, map}
use lib.ListN.{length}
use Rattle.model.specs.Sizes.{Bytes}
use Rattle.model.specs.Entry.{Entry, Prefix}
use Rattle.model.specs.Refusal.{number}
use Rattle.model.specs.History.{numbers}
use Rattle.model.specs.Answer.{Answer, accepted, refused}
use Rattle.model.specs.Leaders.{Leader}
use Rattle.model.specs.Lists.{Unseen, marks_from, finding_list, leader_list, unseen_list, unknown_list, committed_length, committed_owner}
use Rattle.model.specs.Run.{history_from, history_of, answers_from, answers_of}

-- what a list of records leads to, in numbers
pub record Sheet : Type 0 where
  -- refusal or 0, value, node
  pub answers : List (List ℕ)
  -- each front that is not empty: the node, then of each entry its term, the length of its content, and the content
  pub fronts : List (List ℕ)
  pub terms : List ℕ
  -- name, node, index, term
  pub findings : List (List ℕ)
  -- term, leader
  pub leaders : List (List ℕ)
  -- node, index
  pub unseen : List (List ℕ)
  pub unknown : List ℕ
  -- length, owner
  pub committed : List ℕ

of_answer : Answer → List ℕ
of_answer (accepted v n) = 0 ∷ v ∷ n ∷ []
of_answer (refused r) = number r ∷ 0 ∷ 0 ∷ []

of_leader : Leader → List ℕ
of_leader l = l.term ∷ l.leader ∷ []

of_mark : Unseen → List ℕ
of_mark u = u.node ∷ u.index ∷ []

of_entries : List Entry → List ℕ
of_entries [] = []
of_entries (e ∷ es) = e.term ∷ length e.content ∷ (e.content ++ of_entries es)

-- those of the nodes from n on
of_fronts : ℕ → List Prefix → List (List ℕ)
of_fronts n [] = []
of_fronts n ([] ∷ ps) = of_fronts (suc n) ps
of_fronts n ((e ∷ es) ∷ ps) = (n ∷ of_entries (e ∷ es)) ∷ of_fronts (suc n) ps

unfoldable pub sheet_of : List Bytes → Sheet
unfolding of_answer of_leader of_mark of_entries of_fronts answers_from history_from marks_from finding_list leader_list unseen_list unknown_list
sheet_of ss =
    let h = history_of ss in
    record {
      answers = map of_answer (answers_of ss);
      fronts = of_fronts 0 h.fronts;
      terms = h.terms;
      findings = map numbers (finding_list h);
      leaders = map of_leader (leader_list h);
      unseen = map of_mark (unseen_list h);
      unknown = unknown_list h;
      committed = committed_length h ∷ committed_owner h ∷ [];
    }

-- these answers, and nothing to show
abbrev quiet : List (List ℕ) → Sheet
quiet as' =
    record {
      answers = as';
      fronts = [];
      terms = [];
      findings = [];
      leaders = [];
      unseen = [];
      unknown = [];
      committed = 0 ∷ 0 ∷ [];
    }

pub record Case : Type 0 where
  pub records : List Bytes
  pub expected : Sheet

-- P1 fresh, check: no flag
P1 : Case
P1 =
    record {
      records = (0x50 ∷ []) ∷ [];
      expected = quiet ((0 ∷ 0 ∷ 0 ∷ []) ∷ []);
    }

-- P2 the nine bytes of the printed sheet: node 1 has front 1, its entry of term 1 with no content
P2 : Case
P2 =
    record {
      records = (0x10 ∷ 0x40 ∷ 0x10 ∷ 0x04 ∷ 0x00 ∷ 0x00 ∷ 0x00 ∷ 0x04 ∷ 0x00 ∷ []) ∷ [];
      expected =
          record {
            answers = (0 ∷ 1 ∷ 0 ∷ []) ∷ [];
            fronts = (1 ∷ 1 ∷ 0 ∷ []) ∷ [];
            terms = [];
            findings = [];
            leaders = [];
            unseen = [];
            unknown = [];
            committed = 0 ∷ 0 ∷ [];
          };
    }

-- P3 their last byte 01: 3
P3 : Case
P3 =
    record {
      records = (0x10 ∷ 0x40 ∷ 0x10 ∷ 0x04 ∷ 0x00 ∷ 0x00 ∷ 0x00 ∷ 0x04 ∷ 0x01 ∷ []) ∷ [];
      expected = quiet ((3 ∷ 0 ∷ 0 ∷ []) ∷ []);
    }

-- P4 that byte gone: 2
P4 : Case
P4 =
    record {
      records = (0x10 ∷ 0x40 ∷ 0x10 ∷ 0x04 ∷ 0x00 ∷ 0x00 ∷ 0x00 ∷ 0x04 ∷ []) ∷ [];
      expected = quiet ((2 ∷ 0 ∷ 0 ∷ []) ∷ []);
    }

-- P5 empty: 2
P5 : Case
P5 =
    record {
      records = [] ∷ [];
      expected = quiet ((2 ∷ 0 ∷ 0 ∷ []) ∷ []);
    }

-- P6 byte 00: 1
P6 : Case
P6 =
    record {
      records = (0x00 ∷ []) ∷ [];
      expected = quiet ((1 ∷ 0 ∷ 0 ∷ []) ∷ []);
    }

-- P7 entry index 256 is accepted, and is past the front; 257: 4
P7 : Case
P7 =
    record {
      records = (0x10 ∷ 0x40 ∷ 0x14 ∷ 0x00 ∷ 0x00 ∷ 0x00 ∷ 0x00 ∷ 0x04 ∷ 0x00 ∷ []) ∷ (0x10 ∷ 0x40 ∷ 0x14 ∷ 0x04 ∷ 0x00 ∷ 0x00 ∷ 0x00 ∷ 0x04 ∷ 0x00 ∷ []) ∷ [];
      expected = quiet ((0 ∷ 0 ∷ 0 ∷ []) ∷ (4 ∷ 0 ∷ 0 ∷ []) ∷ []);
    }

-- P8 entries 1 and 3, commit 2: unseen
P8 : Case
P8 =
    record {
      records = (0x10 ∷ 0x00 ∷ 0x20 ∷ 0x04 ∷ 0x00 ∷ 0x00 ∷ 0x00 ∷ 0x04 ∷ 0x00 ∷ 0x0c ∷ 0x00 ∷ 0x00 ∷ 0x00 ∷ 0x04 ∷ 0x00 ∷ []) ∷ (0x20 ∷ 0x00 ∷ 0x20 ∷ []) ∷ [];
      expected =
          record {
            answers = (0 ∷ 1 ∷ 0 ∷ []) ∷ (0 ∷ 0 ∷ 0 ∷ []) ∷ [];
            fronts = (0 ∷ 1 ∷ 0 ∷ []) ∷ [];
            terms = [];
            findings = [];
            leaders = [];
            unseen = (0 ∷ 2 ∷ []) ∷ [];
            unknown = [];
            committed = 0 ∷ 0 ∷ [];
          };
    }

-- P9 terms (2,1,5): 8; (1,1,5): place 1 zero
P9 : Case
P9 =
    record {
      records = (0x30 ∷ 0x08 ∷ 0x01 ∷ 0x00 ∷ 0x00 ∷ 0x00 ∷ 0x05 ∷ []) ∷ (0x30 ∷ 0x04 ∷ 0x01 ∷ 0x00 ∷ 0x00 ∷ 0x00 ∷ 0x05 ∷ []) ∷ [];
      expected =
          record {
            answers = (8 ∷ 0 ∷ 0 ∷ []) ∷ (0 ∷ 0 ∷ 0 ∷ []) ∷ [];
            fronts = [];
            terms = 0 ∷ [];
            findings = [];
            leaders = [];
            unseen = [];
            unknown = [];
            committed = 0 ∷ 0 ∷ [];
          };
    }

-- P10 terms (0,2,7), (1,2,4), (0,2,0), (0,2,5) give 5, 4
P10 : Case
P10 =
    record {
      records = (0x30 ∷ 0x00 ∷ 0x02 ∷ 0x00 ∷ 0x00 ∷ 0x00 ∷ 0x07 ∷ []) ∷ (0x30 ∷ 0x04 ∷ 0x02 ∷ 0x00 ∷ 0x00 ∷ 0x00 ∷ 0x04 ∷ []) ∷ (0x30 ∷ 0x00 ∷ 0x02 ∷ 0x00 ∷ 0x00 ∷ 0x00 ∷ 0x00 ∷ []) ∷ (0x30 ∷ 0x00 ∷ 0x02 ∷ 0x00 ∷ 0x00 ∷ 0x00 ∷ 0x05 ∷ []) ∷ [];
      expected =
          record {
            answers = (0 ∷ 0 ∷ 0 ∷ []) ∷ (0 ∷ 0 ∷ 0 ∷ []) ∷ (0 ∷ 0 ∷ 0 ∷ []) ∷ (0 ∷ 0 ∷ 0 ∷ []) ∷ [];
            fronts = [];
            terms = 5 ∷ 4 ∷ [];
            findings = [];
            leaders = [];
            unseen = [];
            unknown = [];
            committed = 0 ∷ 0 ∷ [];
          };
    }

-- P11 nodes 1 and 2 differ in content at 1 and share both terms through 2: LG-03 at 1 and 2
P11 : Case
P11 =
    record {
      records = (0x10 ∷ 0x40 ∷ 0x20 ∷ 0x04 ∷ 0x00 ∷ 0x00 ∷ 0x00 ∷ 0x04 ∷ 0x16 ∷ 0x10 ∷ 0x08 ∷ 0x00 ∷ 0x00 ∷ 0x00 ∷ 0x08 ∷ 0x00 ∷ []) ∷ (0x10 ∷ 0x80 ∷ 0x20 ∷ 0x04 ∷ 0x00 ∷ 0x00 ∷ 0x00 ∷ 0x04 ∷ 0x16 ∷ 0x20 ∷ 0x08 ∷ 0x00 ∷ 0x00 ∷ 0x00 ∷ 0x08 ∷ 0x00 ∷ []) ∷ [];
      expected =
          record {
            answers = (0 ∷ 2 ∷ 0 ∷ []) ∷ (0 ∷ 2 ∷ 0 ∷ []) ∷ [];
            fronts = (1 ∷ 1 ∷ 1 ∷ 97 ∷ 2 ∷ 0 ∷ []) ∷ (2 ∷ 1 ∷ 1 ∷ 98 ∷ 2 ∷ 0 ∷ []) ∷ [];
            terms = [];
            findings = (3 ∷ 2 ∷ 1 ∷ 1 ∷ []) ∷ (3 ∷ 2 ∷ 2 ∷ 2 ∷ []) ∷ [];
            leaders = [];
            unseen = [];
            unknown = [];
            committed = 0 ∷ 0 ∷ [];
          };
    }

-- P12 one committed entry of commit term 5, election of term 4 with length 0, check: none
P12 : Case
P12 =
    record {
      records = (0x10 ∷ 0x00 ∷ 0x10 ∷ 0x04 ∷ 0x00 ∷ 0x00 ∷ 0x00 ∷ 0x04 ∷ 0x00 ∷ []) ∷ (0x20 ∷ 0x00 ∷ 0x10 ∷ []) ∷ (0x30 ∷ 0x00 ∷ 0x01 ∷ 0x00 ∷ 0x00 ∷ 0x00 ∷ 0x05 ∷ []) ∷ (0x40 ∷ 0x40 ∷ 0x00 ∷ 0x00 ∷ 0x01 ∷ 0x20 ∷ 0x00 ∷ []) ∷ (0x50 ∷ []) ∷ [];
      expected =
          record {
            answers = (0 ∷ 1 ∷ 0 ∷ []) ∷ (0 ∷ 0 ∷ 0 ∷ []) ∷ (0 ∷ 0 ∷ 0 ∷ []) ∷ (0 ∷ 0 ∷ 0 ∷ []) ∷ (0 ∷ 0 ∷ 0 ∷ []) ∷ [];
            fronts = (0 ∷ 1 ∷ 0 ∷ []) ∷ [];
            terms = 5 ∷ [];
            findings = [];
            leaders = [];
            unseen = [];
            unknown = [];
            committed = 1 ∷ 0 ∷ [];
          };
    }

-- P12 then (0,1,3), check: LG-05 at 1
P12_late : Case
P12_late =
    record {
      records = (0x10 ∷ 0x00 ∷ 0x10 ∷ 0x04 ∷ 0x00 ∷ 0x00 ∷ 0x00 ∷ 0x04 ∷ 0x00 ∷ []) ∷ (0x20 ∷ 0x00 ∷ 0x10 ∷ []) ∷ (0x30 ∷ 0x00 ∷ 0x01 ∷ 0x00 ∷ 0x00 ∷ 0x00 ∷ 0x05 ∷ []) ∷ (0x40 ∷ 0x40 ∷ 0x00 ∷ 0x00 ∷ 0x01 ∷ 0x20 ∷ 0x00 ∷ []) ∷ (0x50 ∷ []) ∷ (0x30 ∷ 0x00 ∷ 0x01 ∷ 0x00 ∷ 0x00 ∷ 0x00 ∷ 0x03 ∷ []) ∷ (0x50 ∷ []) ∷ [];
      expected =
          record {
            answers = (0 ∷ 1 ∷ 0 ∷ []) ∷ (0 ∷ 0 ∷ 0 ∷ []) ∷ (0 ∷ 0 ∷ 0 ∷ []) ∷ (0 ∷ 0 ∷ 0 ∷ []) ∷ (0 ∷ 0 ∷ 0 ∷ []) ∷ (0 ∷ 0 ∷ 0 ∷ []) ∷ (0 ∷ 4 ∷ 0 ∷ []) ∷ [];
            fronts = (0 ∷ 1 ∷ 0 ∷ []) ∷ [];
            terms = 3 ∷ [];
            findings = (5 ∷ 1 ∷ 1 ∷ 4 ∷ []) ∷ [];
            leaders = (4 ∷ 1 ∷ []) ∷ [];
            unseen = [];
            unknown = [];
            committed = 1 ∷ 0 ∷ [];
          };
    }

-- "letting a mismatch replace the committed prefix": node 1's longer prefix differs at 1, so LG-04 at 1 and nothing else
mismatch_not_kept : Case
mismatch_not_kept =
    record {
      records = (0x10 ∷ 0x00 ∷ 0x10 ∷ 0x04 ∷ 0x00 ∷ 0x00 ∷ 0x00 ∷ 0x04 ∷ 0x00 ∷ []) ∷ (0x20 ∷ 0x00 ∷ 0x10 ∷ []) ∷ (0x10 ∷ 0x40 ∷ 0x20 ∷ 0x04 ∷ 0x00 ∷ 0x00 ∷ 0x00 ∷ 0x08 ∷ 0x00 ∷ 0x08 ∷ 0x00 ∷ 0x00 ∷ 0x00 ∷ 0x08 ∷ 0x00 ∷ []) ∷ (0x20 ∷ 0x40 ∷ 0x20 ∷ []) ∷ [];
      expected =
          record {
            answers = (0 ∷ 1 ∷ 0 ∷ []) ∷ (0 ∷ 0 ∷ 0 ∷ []) ∷ (0 ∷ 2 ∷ 0 ∷ []) ∷ (0 ∷ 0 ∷ 0 ∷ []) ∷ [];
            fronts = (0 ∷ 1 ∷ 0 ∷ []) ∷ (1 ∷ 2 ∷ 0 ∷ 2 ∷ 0 ∷ []) ∷ [];
            terms = [];
            findings = (4 ∷ 1 ∷ 1 ∷ 0 ∷ []) ∷ [];
            leaders = [];
            unseen = [];
            unknown = 1 ∷ [];
            committed = 1 ∷ 0 ∷ [];
          };
    }

unfoldable pub cases : List Case
unfolding P1 P2 P3 P4 P5 P6 P7 P8 P9 P10 P11 P12 P12_late mismatch_not_kept
cases = P1 ∷ P2 ∷ P3 ∷ P4 ∷ P5 ∷ P6 ∷ P7 ∷ P8 ∷ P9 ∷ P10 ∷ P11 ∷ P12 ∷ P12_late ∷ mismatch_not_kept ∷ []

-- each case's records lead to what is expected of it
pub marked_checks : map (λ c. sheet_of c.records) cases ≡ map (λ c. c.expected) cases
unfolding cases sheet_of
marked_checks = refl
