-- A row's fields written side by side are the row's bytes written at once; and a table lent as a part and given back is that
-- write in the whole.
-- Assumes nothing.
use Prim.Native.Nat.{ℕ, ◌+◌, ◌-◌, ◌*◌, ◌≤◌, ◌<◌}
use Rattle.std.proofs.Math.Nat.{mul-le-mul_right}
use native.Mathlib.Omega.{arith}
use mathlib.Core.Path.{◌≡◌, ap, sym, ◌∙◌}
use mathlib.Core.List.{◌++◌, append_assoc}
use lib.Seq.{drop-drop}
use lib.ListN.{length, take, drop}
use Rattle.model.specs.Sizes.{Bytes}
use Rattle.storage_bytes.specs.Words.{word_bytes, bytes_at, put_bytes}
use Rattle.storage_bytes.specs.Layout.{part, certificates_start, certificates_length, history_length, certificate_width, certificates_field}
use Rattle.storage.specs.Tables.{CertificateRow, certificates_part}
use Rattle.storage.specs.Writes.{certificate_bytes, certificate_inserted, certificate_added}
use Rattle.storage.specs.Head.{certificates_held, put_head_field}
use Rattle.storage_bytes.proofs.WordLaws.{put_join, put_length}
use Rattle.storage_bytes.proofs.PartLaws.{part_length, part_back, put_part}
pub use Rattle.storage_bytes.proofs.PartLaws.{region_back}

-- one more field after those written
pub field_next : {u : Bytes} (t : Bytes) (o : ℕ) (vs ws : Bytes) (p : ℕ) → u ≡ put_bytes t o vs → p ≡ o + length vs
    → put_bytes u p ws ≡ put_bytes t o (vs ++ ws)
field_next t o vs ws p e q = (λ i. put_bytes (e i) (q i) ws) ∙ put_join t o vs ws

-- the k bytes from a on lent, written in at o and given back
pub part_written : (h ys : Bytes) (a k o : ℕ) (vs : Bytes) → ys ≡ put_bytes (take k (drop a h)) o vs → a + k ≤ length h → o + length vs ≤ k
    → take a h ++ (ys ++ drop k (drop a h)) ≡ put_bytes h (a + o) vs
unfolding part
part_written h ys a k o vs e r w =
    let q = put_bytes (part h a k) o vs in
    let l : length q ≡ k = put_length (part h a k) o vs ∙ part_length h a k r in
    (λ i. take a h ++ (e i ++ (drop-drop k a h ∙ ap (λ (n : ℕ). drop (a + n) h) (sym l)) i))
    ∙ sym (append_assoc (take a h) q (drop (a + length q) h))
    ∙ part_back h a q (omega arith)
    ∙ put_part h a k o vs r w

-- row k of a table of m rows w wide, of which only the n bytes from a on are lent
pub row_written : {ys : Bytes} (h : Bytes) (a n w k m : ℕ) (vs : Bytes) → ys ≡ put_bytes (take (a + n - a) (drop a h)) (k * w) vs
    → a + n ≤ length h → n ≡ m * w → k < m → length vs ≡ w
    → take a h ++ (ys ++ drop (a + n - a) (drop a h)) ≡ put_bytes h (a + k * w) vs
row_written h a n w k m vs e r f l q =
    let z : (k + 1) * w ≤ m * w = mul-le-mul_right w (omega arith) in
    part_written h _ a (a + n - a) (k * w) vs e (omega arith) (omega arith)

-- a row and then a count, by the count that was read
pub then_count : {u : Bytes} (h : Bytes) (m n b w : ℕ) (vs : Bytes) → n ≡ m → u ≡ put_bytes h (b + n * w) vs
    → (c d : ℕ) → put_bytes u c (word_bytes d (n + 1)) ≡ put_bytes (put_bytes h (b + m * w) vs) c (word_bytes d (m + 1))
then_count h m n b w vs e q c d =
    (λ i. put_bytes (q i) c (word_bytes d (n + 1)))
    ∙ (λ i. put_bytes (put_bytes h (b + e i * w) vs) c (word_bytes d (e i + 1)))

-- ---- a region written anew

pub inserted_length : (r : Bytes) (n k : ℕ) (x : CertificateRow) → length (certificate_inserted r n k x) ≡ length r
unfolding certificate_inserted
inserted_length r n k x =
    put_length (put_bytes r (k * certificate_width + certificate_width) (bytes_at r (k * certificate_width) ((n - k) * certificate_width))) (k * certificate_width) (certificate_bytes x)
    ∙ put_length r (k * certificate_width + certificate_width) (bytes_at r (k * certificate_width) ((n - k) * certificate_width))

pub certificate_added_lem : (h ys : Bytes) (n k : ℕ) (x : CertificateRow) → length h ≡ history_length → n ≡ certificates_held h
    → ys ≡ certificate_inserted (take certificates_length (drop certificates_start h)) n k x
    → put_head_field certificates_field (take certificates_start h ++ (ys ++ drop certificates_length (drop certificates_start h))) (n + 1) ≡ certificate_added h k x
unfolding certificate_added part
certificate_added_lem h ys n k x r e q =
    let l : length ys ≡ certificates_length = ap length q ∙ inserted_length (certificates_part h) n k x ∙ part_length h certificates_start certificates_length (omega arith) in
    ap (λ (u : Bytes). put_head_field certificates_field u (n + 1)) (region_back h ys certificates_start certificates_length l (omega arith) ∙ ap (put_bytes h certificates_start) q)
    ∙ (λ i. put_head_field certificates_field (put_bytes h certificates_start (certificate_inserted (certificates_part h) (e i) k x)) (e i + 1))
