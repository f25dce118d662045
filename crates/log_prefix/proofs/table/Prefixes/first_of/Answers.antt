-- `log_prefix::table::Prefixes::first_of` meets its contract.
-- Assumes nothing.
use mathlib.Core.Path.{sym, ◌∙◌}
use Rattle.storage.specs.Tables.{prefix_row}
use Rattle.log_prefix.specs.Prefix.{is_of}
use Rattle.log_prefix.proofs.Loops.{search_next, search_stop, search_none}
use Rattle.log_prefix.proofs.StoredLaws.{stored_some, stored_none}
use Rattle.log_prefix.proofs.table.Prefixes.first_of.Goals as goal

pub returns-then-is_of : goal.returns-then-is_of
returns-then-is_of c =
    let s = c.args in
    stored_some _ _ (search_stop (λ j. is_of s.index.0 s.term.0 (prefix_row s.self.rows.now j)) c.loop-k.k s.self.count c.loop-k.invariant c.loop-k-test.true (sym c.is_of.ensures ∙ c.if-is_of.true))

pub loop-k-preserved : goal.loop-k-preserved
loop-k-preserved c =
    let s = c.args in
    search_next (λ j. is_of s.index.0 s.term.0 (prefix_row s.self.rows.now j)) c.loop-k.k s.self.count c.loop-k.invariant c.loop-k-test.true (sym c.is_of.ensures ∙ c.if-is_of.false)

pub returns : goal.returns
returns c =
    let s = c.args in
    stored_none _ (search_none (λ j. is_of s.index.0 s.term.0 (prefix_row s.self.rows.now j)) c.loop-k.k s.self.count c.loop-k.invariant c.loop-k-test.false)
