-- What is read of a record is the view: by computation over all of them.
-- Assumes nothing.
use Prim.Native.Nat.{ℕ, zero, suc, ◌<◌}
use native.Mathlib.Omega.{arith}
use mathlib.Core.Path.{◌≡◌, refl, sym, ◌∙◌, ap, subst}
use mathlib.Core.List.{List, [], map}
use lib.ListN.{get_or}
use Rattle.std.specs.List.{range_with_len}
use Rattle.std.proofs.lemmas.List.FromFn.{get_or-map-range_with_len}
use Rattle.model.specs.Record.{view}
use Rattle.model.specs.Reading.{Reading, readable, read}
use Rattle.appendix_views.specs.Views.{View, views, view_count}
use Rattle.appendix_views.specs.Counted.{counted, view_at}
use Rattle.appendix_views.specs.Recorded.{entries_bytes, record_bytes, ReadBack}
use Rattle.appendix_views.proofs.CountLaws.{nth_view}

-- what is read of the n-th record of a node, and what it is to be
said : ℕ → ℕ → Reading
said node n = read (record_bytes node (view_at n))

meant : ℕ → ℕ → Reading
meant node n = readable (view node (view_at n))

AllRead : ℕ → Type 0
AllRead node = map (said node) (range_with_len 0 view_count) ≡ map (meant node) (range_with_len 0 view_count)

read_zero : AllRead 0
unfolding AllRead said meant counted entries_bytes read
read_zero = refl

read_one : AllRead 1
unfolding AllRead said meant counted entries_bytes read
read_one = refl

one_read : (node : ℕ) → AllRead node → (n : ℕ) → n < view_count
    → read (record_bytes node (get_or views n [])) ≡ readable (view node (get_or views n []))
unfolding AllRead said meant
one_read node a n h =
    subst (λ (v : View). read (record_bytes node v) ≡ readable (view node v)) (nth_view n h)
    (sym (get_or-map-range_with_len (said node) 0 view_count n n (said node 0) h (omega arith))
    ∙ ap (λ (rs : List Reading). get_or rs n (said node 0)) a
    ∙ get_or-map-range_with_len (meant node) 0 view_count n n (said node 0) h (omega arith))

pub read_back : ReadBack
read_back zero n k h = one_read 0 read_zero n h
read_back (suc zero) n k h = one_read 1 read_one n h
read_back (suc (suc node)) n k h = absurd (omega (arith, k))
