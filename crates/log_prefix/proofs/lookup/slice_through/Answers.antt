-- `log_prefix::lookup::slice_through` meets its contract. The invariant: at k, q goes through index end - (k - index).
-- Assumes nothing.
use Prim.Native.Nat.{◌+◌, ◌-◌, ◌<◌, ◌≤◌}
use borrow.Author.Rules.{rules}
use mathlib.Core.Path.{◌≡◌, refl, ◌∙◌}
use native.Mathlib.Omega.{arith}
use native.Mathlib.Nat.{le_refl}
use Rattle.storage.specs.Tables.{prefix_row}
use Rattle.log_prefix.proofs.TableLaws.{table_parent, table_index}
use Rattle.log_prefix.proofs.Loops.{index_is, passes_some, slice_done, slice_next, slice_beyond, slice_found, place_before, parent_within, parent_below}
use Rattle.log_prefix.proofs.lookup.slice_through.Goals as goal

pub returns-then-lt : goal.returns-then-lt
returns-then-lt c =
    let s = c.args in
    slice_beyond s.prefixes.now s.p.0 s.index.0 _ (index_is _ _ _ c.through-end.ensures.is) (let z : c.through-end.result.0 < s.index.0 = search rules in z)

pub loop-k-init : goal.loop-k-init
loop-k-init c = (
  c.requires.0,
  c.requires.1,
  c.requires.2,
  (let e : c.through-end.result.0 + c.args.index.0 - c.args.index.0 ≡ c.through-end.result.0 = omega arith in e) ∙ index_is _ _ _ c.through-end.ensures.is,
  record { fuel = c.args.p.0; enough = le_refl c.args.p.0; is = refl },
)

pub loop-k-preserved : goal.loop-k-preserved
loop-k-preserved c =
    let t = c.args.prefixes.now in
    let i = c.loop-k.invariant in
    let before = c.loop-k-test.true in
    let past : c.args.index.0 < c.through-end.result.0 + c.args.index.0 - c.loop-k.k = omega arith in
    let z = passes_some (prefix_row t) c.loop-k.q.0 _ _ i.3 past in
    let a = c.parent_at-q.ensures.is in
    let pa = table_parent t i.0 (c.loop-k.q.0 - 1) i.1 (place_before i.2 z) in (
      i.0,
      i.1,
      parent_within _ a pa i.2,
      (let e : c.through-end.result.0 + c.args.index.0 - (c.loop-k.k + 1) ≡ c.through-end.result.0 + c.args.index.0 - c.loop-k.k - 1 = omega arith in e)
          ∙ table_index t i.0 c.loop-k.q.0 i.1 i.2 z _ a _ i.3,
      slice_next (prefix_row t) _ _ _ i.4 i.3 past _ a (parent_below _ a pa z),
    )

pub returns : goal.returns
returns c =
    let s = c.args in
    let after = c.loop-k-test.false in
    slice_found s.prefixes.now s.p.0 s.index.0 _ (index_is _ _ _ c.through-end.ensures.is) (let z : s.index.0 ≤ c.through-end.result.0 = search rules in z) _
    (slice_done (prefix_row s.prefixes.now) _ _ _ c.loop-k.invariant.4 c.loop-k.invariant.3 (omega arith))
