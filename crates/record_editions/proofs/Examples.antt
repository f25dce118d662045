-- A view of one entry, the bytes `rice`, in both editions; and one with a configuration entry, which kind 1 cannot show.
-- Assumes nothing.
use mathlib.Core.Path.{◌≡◌, refl}
use mathlib.Core.List.{[], ◌∷◌}
use Rattle.model.specs.Sizes.{Bytes}
use Rattle.record_editions.specs.Editions.{converted}

abbrev pub plain : Bytes
plain = 16 ∷ 64 ∷ 16 ∷ 4 ∷ 0 ∷ 0 ∷ 0 ∷ 4 ∷ 71 ∷ 38 ∷ 150 ∷ 54 ∷ 80 ∷ []

-- the mark 0 behind the term moves the bits after it by one
abbrev pub marked : Bytes
marked = 144 ∷ 64 ∷ 16 ∷ 4 ∷ 0 ∷ 0 ∷ 0 ∷ 4 ∷ 35 ∷ 147 ∷ 75 ∷ 27 ∷ 40 ∷ []

-- the same with the mark 1
abbrev pub configuration : Bytes
configuration = 144 ∷ 64 ∷ 16 ∷ 4 ∷ 0 ∷ 0 ∷ 0 ∷ 6 ∷ 35 ∷ 147 ∷ 75 ∷ 27 ∷ 40 ∷ []

pub there : (converted 9 plain plain).bytes ≡ marked
unfolding converted
there = refl

pub back : (converted 1 marked plain).bytes ≡ plain
unfolding converted
back = refl

-- 16, also where the buffer is too short
pub not_shown : (converted 1 configuration []).refusal ≡ 16
unfolding converted
not_shown = refl
