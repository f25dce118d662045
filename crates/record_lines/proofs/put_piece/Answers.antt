-- `record_lines::put_piece` meets its contract: the two bytes of the length, and then the record.
-- Assumes nothing.
use mathlib.Core.Path.{◌∙◌, subst}
use Rattle.std.specs.Io.KnownBytes.{Appends}
use Rattle.model.specs.Sizes.{Bytes}
use Rattle.storage_bytes.proofs.ByteTurns.{bytes_two}
use Rattle.record_lines.proofs.Pieces.{both_written}
use Rattle.record_lines.proofs.put_piece.Goals as goal

pub returns : goal.returns
returns g c =
    let old = g.W.Write.contents c.args.writer.now in
    let mid = g.W.Write.contents c.write_all.new.self in
    let first = subst (λ (bs : Bytes). Appends old mid bs) (c.to_be_bytes.ensures ∙ bytes_two _) c.in_ok-write_all.ensures.bytes in
    both_written _ old mid _ _ _ first c.write_all-2.ensures.bytes
