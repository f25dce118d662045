-- `record_lines::end_line` meets its contract: what the writer answered says what the line brings.
-- Assumes nothing.
use mathlib.Core.Path.{subst}
use Rattle.model.specs.Sizes.{Bytes}
use Rattle.record_lines.proofs.Pieces.{none_written, empty_line, written_line, refused_line}
use Rattle.std.specs.Io.KnownBytes.{Appends}
use Rattle.std.specs.Prelude.{OnOk}
use Rattle.std.proofs.KnownBytes.{Appends-nil}
use Rattle.record_lines.proofs.end_line.Goals as goal

pub returns-then-line-eq0 : goal.returns-then-line-eq0
returns-then-line-eq0 g c = rw (empty_line c.args.line c.args.fields.now c.if-line.false c.if-line-eq0.true) (Appends-nil _)

pub returns-in-Ok : goal.returns-in-Ok
returns-in-Ok g c =
    let old = g.W.Write.contents c.args.writer.now in
    let new = g.W.Write.contents c.put_piece.new.writer in
    subst (λ (bs : Bytes). OnOk c.put_piece.result (Appends old new bs))
    (written_line c.args.line c.args.fields.now c.in-Ok.n _ _ c.if-line.false c.write.ensures.writes c.in-Ok.is)
    c.put_piece.ensures

pub returns-in-Err : goal.returns-in-Err
returns-in-Err g c = none_written _ _ _ (refused_line c.args.line c.args.fields.now _ _ _ c.if-line.false c.write.ensures.writes c.in-Err.is)
