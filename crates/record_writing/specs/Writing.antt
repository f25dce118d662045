-- What the writer answers and leaves: document 01's number of the refusal, how many bytes it wrote, and the buffer.
-- Assumes nothing.
use Rattle.std.specs.Prelude.{ℕ, false, cond, List, leb, length, take, Result, Ok, Err, ◌≡◌}
use Rattle.model.specs.Sizes.{Bytes}
use Rattle.model.specs.Refusal.{number}
use Rattle.model.specs.Reading.{Reading, readable, unreadable, read}
use Rattle.storage_bytes.specs.Words.{put_bytes}
use Rattle.record_bits.specs.Answers.{refusal_of}
use Rattle.record_writing.specs.Spans.{spell}
use Rattle.record_writing.specs.Given.{given}
use Rattle.record_writing.specs.declared.write.Refusal.{Refusal}
use Rattle.record_writing.specs.declared.reply.WriteReply.{WriteReply}

-- 13: the buffer is too short
abbrev pub too_short : ℕ
too_short = 13

pub record Written : Type 0 where
  pub refusal : ℕ
  pub length : ℕ
  pub bytes : Bytes

-- nothing is written
abbrev pub refused : ℕ → Bytes → Written
refused n b = record { refusal = n; length = 0; bytes = b }

-- a record's bytes, from the buffer's start, where it is long enough
abbrev pub put_record : Bytes → Bytes → Written
put_record b s =
    cond (leb (length s) (length b))
    (record { refusal = 0; length = length s; bytes = put_bytes b 0 s })
    (refused too_short b)

abbrev pub put_reading : Bytes → Reading → Written
put_reading b (readable r) = put_record b (spell false r)
put_reading b (unreadable f) = refused (number f) b

unfoldable pub written : List ℕ → Bytes → Written
unfolding given spell put_bytes
written fs b = put_reading b (given fs)

-- ---- the code's answer

-- document 01's number of a refusal
abbrev pub number_of : Refusal → ℕ
number_of (Refusal.Unreadable f) = number (refusal_of f)
number_of Refusal.BufferTooShort = too_short

abbrev pub refusal_in : {E : Type 0} → (E → ℕ) → Result ℕ E → ℕ
refusal_in number (Ok n) = 0
refusal_in number (Err f) = number f

abbrev pub length_in : {E : Type 0} → Result ℕ E → ℕ
length_in (Ok n) = n
length_in (Err f) = 0

abbrev pub reply_of : {E : Type 0} → (E → ℕ) → Result ℕ E → WriteReply
reply_of number a = record { refusal = refusal_in number a; length = length_in a }

-- an answer, whose refusals have these numbers, and the buffer after it are as a definition gives them
pub record Gives {E : Type 0} (number : E → ℕ) (w : Written) (r : Result ℕ E) (new : Bytes) : Type 0 where
  pub refusal : refusal_in number r ≡ w.refusal
  pub length : length_in r ≡ w.length
  pub bytes : new ≡ w.bytes

-- what a call of the writer gives and leaves
abbrev pub Writes : List ℕ → Bytes → Result ℕ Refusal → Bytes → Type 0
Writes fs old r new = Gives number_of (written fs old) r new

-- what a caller is told and left with: r is the reply, the buffer was `old`, and the record to be written was `meant`
pub record Replied (w : Written) (meant : Reading) (old : Bytes) (r : WriteReply) (new : Bytes) : Type 0 where
  -- for any input and any buffer, as the definition gives them
  pub refusal : r.refusal ≡ w.refusal
  pub length : r.length ≡ w.length
  pub bytes : new ≡ w.bytes
  -- the bytes that were written read as the record
  pub reads : r.refusal ≡ 0 → read (take r.length new) ≡ meant
  -- a refused call leaves every byte
  pub refused : (r.refusal ≡ 0 → ⊥) → new ≡ old

-- of the writer the record is the list
abbrev pub Replies : List ℕ → Bytes → WriteReply → Bytes → Type 0
Replies fs old r new = Replied (written fs old) (given fs) old r new
