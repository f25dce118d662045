-- `history::exports::gamiwhoru_unseen` meets its contract.
-- Assumes nothing. The law is of the form of `gamiwhoru_finding`'s, which the search does not find.
use Rattle.std.proofs.Common.{rules}
use Rattle.history.proofs.Printed.{mark_here}
use Rattle.history.proofs.exports.gamiwhoru_unseen.Goals as goal

pub returns : goal.returns
returns c = mark_here _ _ (λ l. l.bytes.now) _ _ c.reply.ensures.broken c.reply.ensures.given (λ l x e q. search rules)
