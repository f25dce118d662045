-- Document 01, "Refused records", and T-02 of document 02: each refusal and its number. 12 belongs to the storage of a history
-- in bytes, 13 to the writer.
-- docs/SCOPE.md, "Refusals".
-- Assumes nothing.
use Rattle.std.specs.Prelude.{ℕ}

pub data Refusal : Type 0 where
  -- reading: an unknown kind; a field's bits are missing; a bit set in the filling or a further byte; a field out of its
  -- limit, an entry index of zero, or a nonzero field where absent; an entry index or row node not above the one before it
  unknownKind bitsMissing filling outOfLimit notAbove : Refusal
  -- view: the stored prefixes would exceed their limit. View, commit, check and leader: the findings would exceed theirs
  prefixesFull findingsFull : Refusal
  -- commit terms: old exceeds new
  old_exceeds_new : Refusal
  -- election: length exceeds the leader's front; 64 are held. 11 is the number of none
  lengthExceedsFront certificatesFull : Refusal
  -- leader: the pairs of leader and term for which a view is kept would exceed their limit
  leaderLogsFull : Refusal

abbrev pub number : Refusal → ℕ
number unknownKind = 1
number bitsMissing = 2
number filling = 3
number outOfLimit = 4
number notAbove = 5
number prefixesFull = 6
number findingsFull = 7
number old_exceeds_new = 8
number lengthExceedsFront = 9
number certificatesFull = 10
number leaderLogsFull = 14
