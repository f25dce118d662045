-- `bench_records::records_bench_walk` meets its contract: by the record that `read` told.
-- Assumes nothing.
use mathlib.Core.Path.{refl}
use Rattle.record_reading.proofs.Readable.{view_some, view_walk}
use Rattle.bench_records.proofs.records_bench_walk.Goals as goal

pub walk-requires : goal.walk-requires
walk-requires c =
    let t = rw c.in-Ok-View.field-0-is at c.in-Ok-View.ensures in
    (t.within.1, view_some _ _ _ _ t refl, view_walk _ _ _ _ t refl)
