-- `record_writing::put::put_bits` meets its contract: the first bytes of the word are those that the field reaches.
-- Assumes nothing.
use Prim.Native.Nat.{ℕ, ◌+◌, ◌-◌, ◌*◌, ◌/◌, ◌%◌, ◌^◌, ◌<◌}
use mathlib.Core.Path.{ap, ◌∙◌}
use native.Mathlib.Omega.{arith}
use lib.ListN.{take}
use Rattle.storage_bytes.proofs.ByteTurns.{slice_written}
use Rattle.storage_bytes.proofs.WordLaws.{word_bytes_length}
use Rattle.storage_bytes.specs.Words.{word_bytes}
use Rattle.record_writing.specs.Puts.{put_field}
use Rattle.record_writing.proofs.Words.{head_bytes, bytes_eight, behind, behind_lt, behind_fits}
use Rattle.record_writing.proofs.put.put_bits.Goals as goal

pub overflow_add-word : goal.overflow_add-word
overflow_add-word c =
    let a = c.args in
    let byte : c.from.result < 256 = omega (arith, c.from.type_inv) in
    record { fits = behind_fits c.from.result (a.at % 8) a.w a.v byte (omega arith) (omega arith) (omega arith) }

pub returns : goal.returns
unfolding put_field
returns c =
    let a = c.args in
    let o = a.at % 8 in
    let n = (o + a.w + 7) / 8 in
    let byte : c.from.result < 256 = omega (arith, c.from.type_inv) in
    let x = c.from.result / 2 ^ (8 - o) * 2 ^ a.w + a.v in
    let same = behind c.from.result o a.w a.v byte (omega arith) (omega arith) (omega arith) in
    let word = c.copy_from_slice.ensures.after
    ∙ ap (take n) (c.to_be_bytes.ensures ∙ bytes_eight _)
    ∙ ap (λ (k : ℕ). take n (word_bytes 8 ((k * 2 ^ (64 - (o + a.w))) % 2 ^ 64))) same
    ∙ head_bytes x (o + a.w) n (behind_lt c.from.result o a.w a.v byte (omega arith) (omega arith) (omega arith)) (omega arith) (omega arith)
    ∙ ap (λ (k : ℕ). word_bytes n ((k / 2 ^ (8 - o) * 2 ^ a.w + a.v) * 2 ^ (8 * n - (o + a.w)))) c.from.ensures in
    slice_written a.t.now (a.at / 8) n _ word (word_bytes_length _ _) (omega arith)
