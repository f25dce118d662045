-- `lists::findings::count_first` meets its contract.
-- Assumes nothing.
use Prim.Native.Nat.{◌-◌}
use mathlib.Core.Bool.{not}
use mathlib.Core.Path.{refl, ◌∙◌}
use Rattle.std.proofs.Common.{rules, tests}
use Rattle.std.proofs.lemmas.Iterator.{YieldsList-from_range}
use Rattle.std.proofs.lemmas.Iterator.Consumers.{YieldsList-from_filter, count_from_yields_List}
use Rattle.storage.specs.Tables.{finding_row}
use Rattle.storage_rows.specs.Rows.{finding_value}
use Rattle.lists.specs.Findings.{comes_before}
use Rattle.lists.proofs.OrderLaws.{count_range}
use Rattle.lists.proofs.findings.count_first.Goals as goal

pub returns : goal.returns
returns c =
    let s = c.args in
    let row = finding_row s.findings.now in
    let f = finding_value s.f in
    count_from_yields_List c.filter.result c.count.result c.count.ensures.ran
    (YieldsList-from_filter _ (λ j. not (comes_before f (row j))) (YieldsList-from_range s.k s.m (s.m - s.k) c.filter.ensures.source refl) c.filter.ensures.closure (λ x r q k. search (rules, tests)))
    ∙ count_range f row s.k (s.m - s.k)
