-- A list of byte strings handed in turn to one fresh history in bytes, by `gamiwhoru_submit`: its own definitions, and no
-- other. Each record is handed the bytes as the one before it left them, and only these records write them.
-- Assumes nothing.
use Rattle.std.specs.Prelude.{◌≡◌, Bool, true, List, [], ◌∷◌, ◌++◌, eqb}
use Rattle.model.specs.Sizes.{Bytes}
use Rattle.model.specs.Ledger.{Ledger, empty, fed}
use Rattle.model.specs.TermOrder.{IsTerms}
use Rattle.storage.specs.Fresh.{fresh_history}
use Rattle.answers.specs.declared.numbers.Reply.{Reply}
use Rattle.answers.specs.Numbers.{reply_of}
use Rattle.submission.specs.Replies.{submit_answer, submit_bytes}

-- the bytes after a list of records
unfoldable pub bytes_from : Bytes → List Bytes → Bytes
bytes_from h [] = h
bytes_from h (s ∷ ss) = bytes_from (submit_bytes h s) ss

abbrev pub bytes_of : List Bytes → Bytes
bytes_of ss = bytes_from fresh_history ss

-- what the record s is answered by the history in the bytes h, and after the list
abbrev pub submit_reply : Bytes → Bytes → Reply
submit_reply h s = reply_of (submit_answer h s)

abbrev pub reply_to : List Bytes → Bytes → Reply
reply_to ss s = submit_reply (bytes_of ss) s

abbrev pub accepts : Bytes → Bytes → Bool
accepts h s = eqb (reply_of (submit_answer h s)).refusal 0

-- the plain ledger, fed the same records in the same order, and told of each only whether it was accepted
unfoldable pub ledger_from : Bytes → Ledger → List Bytes → Ledger
ledger_from h g [] = g
ledger_from h g (s ∷ ss) = ledger_from (submit_bytes h s) (fed g s (accepts h s)) ss

abbrev pub ledger_of : List Bytes → Ledger
ledger_of ss = ledger_from fresh_history empty ss

-- each byte string of a sort is accepted where it stands
abbrev pub EachAccepted : (Bytes → Type 0) → List Bytes → Type 0
EachAccepted P ss =
    (before : List Bytes) (s : Bytes) (later : List Bytes) → ss ≡ before ++ (s ∷ later)
    → P s → accepts (bytes_of before) s ≡ true

-- each kind 3 record of the list is accepted when it comes
abbrev pub TermsAccepted : List Bytes → Type 0
TermsAccepted ss = EachAccepted IsTerms ss
