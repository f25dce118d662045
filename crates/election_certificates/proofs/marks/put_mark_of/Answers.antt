-- `election_certificates::marks::put_mark_of` meets its contract: a write in the lent table is that write in the whole.
-- Assumes nothing.
use Prim.Native.Nat.{◌+◌, ◌*◌}
use native.Mathlib.Omega.{arith}
use Rattle.storage_bytes.specs.Words.{word_bytes}
use Rattle.storage_bytes.specs.Layout.{certificates_start, certificates_length, certificate_width, index_width, certificate_mark}
use Rattle.storage_bytes.proofs.WordLaws.{word_bytes_length}
use Rattle.storage.proofs.WriteLaws.{part_written}
use Rattle.election_certificates.specs.Marks.{mark_set}
use Rattle.election_certificates.proofs.marks.put_mark_of.Goals as goal

pub returns : goal.returns
unfolding mark_set
returns c =
    let p = c.put_mark in
    let s = c.args in
    let f = c.requires in
    part_written s.history.now p.new.certificates certificates_start certificates_length (s.k * certificate_width + certificate_mark) (word_bytes index_width s.mark.0) p.ensures (omega arith) (omega (arith, word_bytes_length 2 s.mark.0))
