-- `history::exports::gamiwhoru_leader` meets its contract.
-- Assumes nothing. The law is of the form of `gamiwhoru_finding`'s, which the search does not find.
use Rattle.std.proofs.Common.{rules}
use Rattle.history.proofs.Printed.{leader_here}
use Rattle.history.proofs.exports.gamiwhoru_leader.Goals as goal

pub returns : goal.returns
returns c = leader_here _ _ (λ l. l.bytes.now) _ _ c.reply.ensures.broken c.reply.ensures.given (λ l x e q. search rules)
