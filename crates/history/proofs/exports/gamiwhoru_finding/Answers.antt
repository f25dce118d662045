-- `history::exports::gamiwhoru_finding` meets its contract.
-- Assumes nothing. With the law named on the function the search was tried, and it did not find the answer.
use Rattle.std.proofs.Common.{rules}
use Rattle.history.proofs.Printed.{finding_here}
use Rattle.history.proofs.exports.gamiwhoru_finding.Goals as goal

pub returns : goal.returns
returns c = finding_here _ _ (λ l. l.bytes.now) _ _ c.reply.ensures.broken c.reply.ensures.given (λ l x e q. search rules)
