-- `history::exports::gamiwhoru_convert` meets its contract: the numbers of what `convert` answers.
-- Assumes nothing.
use Rattle.record_editions.proofs.Spelled.{replies}
use Rattle.history.proofs.exports.gamiwhoru_convert.Goals as goal

pub returns : goal.returns
returns c =
    replies c.args.edition c.args.s.now c.args.buffer.now c.convert.new.buffer c.convert.result c.write_reply.result c.convert.ensures c.write_reply.ensures
