-- `sheet_text::split::piece_at` meets its contract.
-- Assumes nothing.
use native.Mathlib.Omega.{arith}
use Rattle.sheet_text.proofs.SplitLaws.{piece_nothing, piece_short, piece_cut, piece_whole, split_told}
use Rattle.sheet_text.proofs.split.piece_at.Goals as goal

pub returns-then-left-eq0 : goal.returns-then-left-eq0
returns-then-left-eq0 c = split_told _ _ _ (piece_nothing _ _ c.if-left-eq0.true)

pub returns-then-left-lt2 : goal.returns-then-left-lt2
returns-then-left-lt2 c = split_told _ _ _ (piece_short _ _ c.if-left-eq0.false c.if-left-lt2.true)

pub returns-then-left-size : goal.returns-then-left-size
returns-then-left-size c = split_told _ _ _ (piece_cut _ _ _ c.get16-size.ensures.is (omega (arith, c.if-left-lt2.false)) c.if-left-size.true)

pub returns : goal.returns
returns c = split_told _ _ _ (piece_whole _ _ _ c.get16-size.ensures.is (omega (arith, c.if-left-lt2.false)) (omega (arith, c.if-left-size.false)))
