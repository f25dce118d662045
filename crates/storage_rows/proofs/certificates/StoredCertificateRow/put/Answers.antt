-- `put` of `storage_rows::certificates::StoredCertificate` meets its contract: its fields side by side are the row.
-- Assumes nothing.
-- Search finds the rows of three and of four fields by `put_join` alone; for these six it was tried, and gave up.
use Rattle.storage.proofs.WriteLaws.{field_next}
use Rattle.storage.specs.Writes.{certificate_bytes}
use Rattle.storage_bytes.specs.Words.{word_bytes}
use Rattle.storage_bytes.specs.Layout.{certificate_width, term_width, number_width, index_width, byte_width}
use Rattle.std.proofs.Common.{◌++◌, ◌*◌, refl, ◌∙◌}
use Rattle.storage_rows.proofs.certificates.StoredCertificateRow.put.Goals as goal

pub returns : goal.returns
unfolding certificate_bytes
returns c =
    let t = c.args.certificates.now in
    let x = c.args.self in
    let o = c.args.k * certificate_width in
    let A = word_bytes term_width x.term.0 in
    let B = A ++ word_bytes number_width x.log.0 in
    let C = B ++ word_bytes index_width x.mark.0 in
    let D = C ++ word_bytes byte_width x.leader.0 in
    let E = D ++ word_bytes byte_width x.number in
    let b = c.write-2.ensures ∙ field_next t o A _ _ c.write.ensures refl in
    let m = c.write-3.ensures ∙ field_next t o B _ _ b refl in
    let l = c.write-4.ensures ∙ field_next t o C _ _ m refl in
    let n = c.put8.ensures ∙ field_next t o D _ _ l refl in
    c.put8-2.ensures ∙ field_next t o E _ _ n refl
