-- `log_prefix::table::Prefixes::find_extension` meets its contract.
-- Assumes nothing.
use mathlib.Core.Path.{sym, ◌∙◌}
use native.Mathlib.Omega.{arith}
use Rattle.storage.specs.Tables.{prefix_row}
use Rattle.storage.specs.Rules.{same_row}
use Rattle.log_prefix.specs.Table.{entry_value}
use Rattle.log_prefix.specs.Prefix.{row_of}
use Rattle.log_prefix.proofs.Loops.{search_next, search_stop, search_none}
use Rattle.log_prefix.proofs.StoredLaws.{stored_some, stored_none}
use Rattle.log_prefix.proofs.table.Prefixes.find_extension.Goals as goal

pub returns-then-matches_extension : goal.returns-then-matches_extension
returns-then-matches_extension c =
    let s = c.args in
    stored_some _ _
    (search_stop (λ j. same_row (prefix_row s.self.rows.now j) (row_of s.p.0 0 (entry_value s.e))) c.loop-k.k s.self.count c.loop-k.invariant.1
    c.loop-k-test.true (sym c.matches_extension.ensures ∙ c.if-matches_extension.true))

pub loop-k-preserved : goal.loop-k-preserved
loop-k-preserved c =
    let s = c.args in (
      omega arith,
      search_next (λ j. same_row (prefix_row s.self.rows.now j) (row_of s.p.0 0 (entry_value s.e))) c.loop-k.k s.self.count c.loop-k.invariant.1
          c.loop-k-test.true (sym c.matches_extension.ensures ∙ c.if-matches_extension.false),
    )

pub returns : goal.returns
returns c =
    let s = c.args in
    stored_none _
    (search_none (λ j. same_row (prefix_row s.self.rows.now j) (row_of s.p.0 0 (entry_value s.e))) c.loop-k.k s.self.count c.loop-k.invariant.1
    c.loop-k-test.false)
