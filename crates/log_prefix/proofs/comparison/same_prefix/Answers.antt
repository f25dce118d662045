-- `log_prefix::comparison::same_prefix` meets its contract.
-- Assumes nothing.
use Prim.Native.Nat.{◌-◌}
use native.Mathlib.Omega.{arith}
use mathlib.Core.Path.{sym, ◌∙◌, ap}
use lib.ListN.{length}
use borrow.Author.Tests.{eqb-true, eqb-false, eq-eqb, ne_eqb}
use Rattle.storage.specs.Tables.{prefix_row}
use Rattle.log_prefix.proofs.TableLaws.{table_parent, table_size}
use Rattle.log_prefix.proofs.Loops.{are_same, are_other, place_before, parent_within, parent_below}
use Rattle.log_prefix.proofs.Turns.{compare_equal, compare_first_empty, compare_second_empty, compare_differs, compare_next, content_sized, entry_terms, entry_marks, entry_sizes, entry_by_bytes, bytes_next, bytes_differ, bytes_end}
use Rattle.log_prefix.proofs.comparison.same_prefix.Goals as goal
use Rattle.log_prefix.proofs.comparison.same_prefix.Goals.{else-entries-test, then-entries-test+then-eq, then-eq-via-then-eq, then-eq-via-else-eq+then-eq-2, then-entries-test+else-eq+else-eq-2+then-ne, then-ne-via-then-ne, then-ne-via-else-ne+then-size-size_at, then-entries-test+else-eq+else-eq-2+else-ne+else-size-size_at+then-mark_at, then-entries-test+else-eq+else-eq-2+else-ne+else-size-size_at+else-mark_at+then-loop-k-test+then-x-at}

pub loop-k-init : goal.loop-k-init
loop-k-init c =
    let t = c.args.prefixes.now in
    let i = c.entries.invariant in
    let some = eqb-false _ _ (sym c.if-eq.ensures) in
    let some-2 = eqb-false _ _ (sym c.if-eq-2.ensures) in
    let sa = c.size_at-size.ensures.is in
    let sb = c.size_at.ensures.is in
    let same = c.if-size-size_at.false in (
      ap length c.content_at-x.ensures ∙ content_sized t _ _ (table_size t i.0 _ i.1 (place_before i.2 some)) sa,
      ap length c.content_at-y.ensures ∙ content_sized t _ _ (table_size t i.0 _ i.1 (place_before i.3 some-2)) sb ∙ sym same,
      rw (c.content_at-x.ensures, c.content_at-y.ensures)
          (entry_by_bytes t _ _ _ _ sa sb same _ _ c.term_at.ensures c.term_at-in-entries.ensures (are_same c.if-ne.ensures)
          _ _ c.mark_at.ensures.is c.mark_at-in-entries.ensures.is c.if-mark_at.false),
    )

pub loop-k-preserved : goal.loop-k-preserved
loop-k-preserved c =
    let i = c.loop-k.invariant in
    let x = c.content_at-x.result.now in
    let y = c.content_at-y.result.now in
    (i.0, i.1, bytes_next x y c.loop-k.k i.2 (omega arith) (omega arith) (rw c.from-at.ensures at c.if-x-at.false))

pub entries-smaller : goal.entries-smaller
entries-smaller c =
    let i = c.entries.invariant in
    let some = eqb-false _ _ (sym c.if-eq.ensures) in
    parent_below _ c.parent_at-p.ensures.is (table_parent c.args.prefixes.now i.0 (c.entries.p.0 - 1) i.1 (place_before i.2 some)) some

pub entries-preserved : goal.entries-preserved
entries-preserved c =
    let t = c.args.prefixes.now in
    let i = c.entries.invariant in
    let some = eqb-false _ _ (sym c.if-eq.ensures) in
    let some-2 = eqb-false _ _ (sym c.if-eq-2.ensures) in
    let pa = table_parent t i.0 (c.entries.p.0 - 1) i.1 (place_before i.2 some) in
    let qa = table_parent t i.0 (c.entries.q.0 - 1) i.1 (place_before i.3 some-2) in
    let ea = c.parent_at-p.ensures.is in
    let eb = c.parent_at-q.ensures.is in
    let x = c.content_at-x.result.now in
    let y = c.content_at-y.result.now in
    let k = c.loop-k.invariant in (
      i.0,
      i.1,
      parent_within _ ea pa i.2,
      parent_within _ eb qa i.3,
      compare_next (prefix_row t) _ _ i.4 (are_other c.entries-test.ensures) some some-2
          (bytes_end x y c.loop-k.k k.2 (omega arith) (omega arith)) _ _ ea eb (parent_below _ ea pa some),
    )

-- the two have met; or one is empty, or they differ in a term, a size, a mark or a byte
pub returns : goal.returns
returns c =
    let t = c.args.prefixes.now in
    let row = prefix_row t in
    let v = c.entries.invariant.4 in
    c.eq-2.ensures
    ∙ elim c.entries-test.branch [
      | else-entries-test w ↦ eq-eqb _ _ (are_same w.entries-test.ensures) ∙ sym (compare_equal row _ _ v (are_same w.entries-test.ensures))
      | then-entries-test+then-eq w ↦
          let apart = are_other w.entries-test.ensures in
          ne_eqb _ _ apart
          ∙ sym
          (elim w.then-eq.branch [
            | then-eq-via-then-eq x ↦ compare_first_empty row _ _ v apart (eqb-true _ _ (sym x.if-eq.ensures))
            | then-eq-via-else-eq+then-eq-2 x ↦
                compare_second_empty row _ _ v apart (eqb-false _ _ (sym x.if-eq.ensures)) (eqb-true _ _ (sym x.if-eq-2.ensures))
          ])
      | then-entries-test+else-eq+else-eq-2+then-ne w ↦
          let apart = are_other w.entries-test.ensures in
          ne_eqb _ _ apart
          ∙ sym
          (compare_differs row _ _ v apart (eqb-false _ _ (sym w.if-eq.ensures)) (eqb-false _ _ (sym w.if-eq-2.ensures))
          (elim w.then-ne.branch [
            | then-ne-via-then-ne x ↦ entry_terms t _ _ _ _ w.term_at.ensures w.term_at-in-entries.ensures (are_other x.if-ne.ensures)
            | then-ne-via-else-ne+then-size-size_at x ↦ entry_sizes t _ _ _ _ w.size_at-size.ensures.is x.size_at.ensures.is x.if-size-size_at.true
          ]))
      | then-entries-test+else-eq+else-eq-2+else-ne+else-size-size_at+then-mark_at w ↦
          let apart = are_other w.entries-test.ensures in
          ne_eqb _ _ apart
          ∙ sym
          (compare_differs row _ _ v apart (eqb-false _ _ (sym w.if-eq.ensures)) (eqb-false _ _ (sym w.if-eq-2.ensures))
          (entry_marks t _ _ _ _ w.mark_at.ensures.is w.mark_at-in-entries.ensures.is w.if-mark_at.true))
      | then-entries-test+else-eq+else-eq-2+else-ne+else-size-size_at+else-mark_at+then-loop-k-test+then-x-at w ↦
          let apart = are_other w.entries-test.ensures in
          let x = w.content_at-x.result.now in
          let y = w.content_at-y.result.now in
          let k = w.loop-k.invariant in
          ne_eqb _ _ apart
          ∙ sym
          (compare_differs row _ _ v apart (eqb-false _ _ (sym w.if-eq.ensures)) (eqb-false _ _ (sym w.if-eq-2.ensures))
          (bytes_differ x y w.loop-k.k k.2 (omega arith) (omega arith) (rw w.from-at.ensures at w.if-x-at.true)))
    ]
