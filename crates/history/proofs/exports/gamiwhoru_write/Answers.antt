-- `history::exports::gamiwhoru_write` meets its contract: the numbers of what `write` answers.
-- Assumes nothing.
use Rattle.record_writing.proofs.Back.{replies}
use Rattle.history.proofs.exports.gamiwhoru_write.Goals as goal

pub returns : goal.returns
returns c = replies c.args.fields.now c.args.buffer.now c.write.new.buffer c.write.result c.from.result c.write.ensures.writes c.from.ensures
