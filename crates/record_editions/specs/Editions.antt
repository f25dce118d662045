-- What the converter gives and leaves: a record in the edition of views that is wanted. The editions are told by the kinds of their
-- views: 1, and 9 with each entry's mark.
-- Assumes nothing.
use Rattle.std.specs.Prelude.{ℕ, cond, true, false, Bool, eqb, Option, Some, None, Result}
use Rattle.model.specs.Sizes.{Bytes}
use Rattle.model.specs.Refusal.{number, outOfLimit}
use Rattle.model.specs.Reading.{Reading, readable, unreadable, read}
use Rattle.storage_bytes.specs.Words.{put_bytes}
use Rattle.record_writing.specs.Format.{view_kind}
use Rattle.record_writing.specs.Spans.{unmarked, shows, spell}
use Rattle.record_writing.specs.Writing.{Written, put_record, refused, Gives, Replied}
use Rattle.record_writing.specs.declared.reply.WriteReply.{WriteReply}
use Rattle.record_editions.specs.Numbers.{configured, number_of}
use Rattle.record_editions.specs.declared.refusal.Refusal.{Refusal}

-- whether the views that are wanted show marks, where the number is an edition's
abbrev pub edition_of : ℕ → Option Bool
edition_of edition = cond (eqb edition (view_kind false)) (Some false) (cond (eqb edition (view_kind true)) (Some true) None)

-- a record spelled in an edition, where that can show it. Only a view has two spellings: each other record, and a view of that
-- edition already, is so copied unchanged (Laws.antt).
abbrev pub put_edition : Bool → Bytes → Reading → Written
put_edition marked b (readable r) = cond (shows marked r) (put_record b (spell marked r)) (refused configured b)
put_edition marked b (unreadable f) = refused (number f) b

-- of a number that is no edition's nothing is read
abbrev pub put_wanted : Option Bool → Bytes → Bytes → Written
put_wanted (Some marked) s b = put_edition marked b (read s)
put_wanted None s b = refused (number outOfLimit) b

unfoldable pub converted : ℕ → Bytes → Bytes → Written
unfolding read spell unmarked put_bytes
converted edition s b = put_wanted (edition_of edition) s b

-- what a call gives and leaves
abbrev pub Converts : ℕ → Bytes → Bytes → Result ℕ Refusal → Bytes → Type 0
Converts edition s old r new = Gives number_of (converted edition s old) r new

-- what a caller is told and left with
abbrev pub ConvertReplies : ℕ → Bytes → Bytes → WriteReply → Bytes → Type 0
ConvertReplies edition s old r new = Replied (converted edition s old) (read s) old r new
