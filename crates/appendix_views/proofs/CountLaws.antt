-- The n-th view by its number is the n-th of the list: by computation over all of them.
-- Assumes nothing.
use native.Mathlib.Omega.{arith}
use mathlib.Core.Path.{◌≡◌, refl, sym, ◌∙◌, ap}
use mathlib.Core.List.{List, [], map}
use lib.ListN.{get_or}
use Rattle.std.specs.List.{range_with_len}
use Rattle.std.proofs.lemmas.List.FromFn.{get_or-map-range_with_len}
use Rattle.appendix_views.specs.Views.{View, before_each, views_of, views_to, views, view_count}
use Rattle.appendix_views.specs.Counted.{counted, view_at, NthView}

pub all_counted : map view_at (range_with_len 0 view_count) ≡ views
unfolding views views_to views_of before_each counted
all_counted = refl

pub nth_view : NthView
nth_view n h =
    sym (get_or-map-range_with_len view_at 0 view_count n n [] h (omega arith)) ∙ ap (λ (vs : List View). get_or vs n []) all_counted
