-- What the storage rules say of a lent table of prefixes: its rows by place, and the facts about them.
-- Assumes nothing.
use Prim.Native.Nat.{ℕ, suc, ◌+◌, ◌-◌, ◌*◌, ◌<◌, ◌≤◌}
use native.Mathlib.Omega.{arith}
use mathlib.Core.Path.{◌≡◌, refl, sym, ◌∙◌, ap, subst, subst₂}
use mathlib.Core.Bool.{true}
use mathlib.Core.Logic.{⊎_elim}
use lib.ListN.{length}
use Rattle.model.specs.Sizes.{Bytes, content_limit}
use Rattle.storage_bytes.specs.Words.{word_at}
use Rattle.storage_bytes.specs.Layout.{prefixes_start, prefixes_length, prefix_width, number_width, byte_width, prefix_size}
use Rattle.storage.specs.Tables.{PrefixRow, prefix_row, rows_of_prefixes, prefixes_part}
use Rattle.storage.specs.Values.{index_of}
use Rattle.storage_bytes.proofs.ListLaws.{tabulate_length, tabulate_at}
use Rattle.storage_bytes.proofs.PartLaws.{part_length}
use Rattle.storage.specs.Rules.{well_formed}
use Rattle.storage.specs.Head.{prefixes_held}
use Rattle.storage.proofs.WellFormed.{Formed, formed}
use Rattle.storage.proofs.RowFacts.{Facts, empty_row, rows_sized, facts_of}
use Rattle.log_prefix.specs.Table.{Table}
use Rattle.units.specs.declared.LogPrefixWitness.{LogPrefixWitness}
use Rattle.log_prefix.specs.Prefix.{witness, slice_of}
use Rattle.log_prefix.proofs.PrefixLaws.{Rows}
use Rattle.log_prefix.proofs.SliceLaws.{row_parent, index_after, slice_cases}
use Rattle.std.specs.Prelude.{Some}

pub rows_length : (t : Bytes) (n : ℕ) → length (rows_of_prefixes t n) ≡ n
rows_length t n = tabulate_length (prefix_row t) 0 n

-- the rows by place are those of the table
pub rows_at : (t : Bytes) (n : ℕ) → Rows (prefix_row t) (rows_of_prefixes t n)
rows_at t n k l =
    ap (prefix_row t) (let e : k ≡ 0 + k = omega arith in e)
    ∙ sym (tabulate_at (prefix_row t) 0 n k empty_row (subst (λ (m : ℕ). k < m) (rows_length t n) l))

pub table_facts : (t : Bytes) (n : ℕ) → Table t n → Facts (rows_of_prefixes t n)
table_facts t n h = facts_of (rows_of_prefixes t n) (rows_sized t n) h.right

-- the table of a well-formed history, and as it is lent
pub whole_table : (h : Bytes) → Formed h → Table (prefixes_part h) (prefixes_held h)
whole_table h f = record { long = part_length h prefixes_start prefixes_length (omega (arith, f.long)); fits = f.prefixes; right = f.rows }

pub table_lent : (h q : Bytes) (n : ℕ) → Formed h → q ≡ prefixes_part h → n ≡ prefixes_held h → Table q n
table_lent h q n f e m = subst₂ Table (sym e) (sym m) (whole_table h f)

-- of a stored history, a cut asks only that its prefix is stored
pub lent_asks : (h : Bytes) → well_formed h ≡ true → (q : Bytes) → q ≡ prefixes_part h → (p : ℕ) → p ≤ prefixes_held h → (n : ℕ) × Table q n × (p ≤ n)
lent_asks h w q e p l = (prefixes_held h, table_lent h q _ (formed h w) e refl, l)

-- a slice of a stored prefix is stored
pub slice_within : (t : Bytes) (n p i : ℕ) (q : LogPrefixWitness) → Table t n → p ≤ n → slice_of (prefix_row t) p i ≡ Some q → q.0 ≤ n
slice_within t n p i q w l e =
    let size = rows_length t n in
    ⊎_elim (λ b. absurd (let b0 = b.0 in let z : ◌≡◌ {A = ℕ} 0 1 = cc in omega arith))
    (λ b.
    let b1 = b.1 in
    let same : q.0 ≡ b.0 = ap (λ (x : LogPrefixWitness). x.0) (let w : q ≡ witness b.0 = cc in w) in
    let d = b.3 in
    omega arith)
    (slice_cases (prefix_row t) (rows_of_prefixes t n) (table_facts t n w) (rows_at t n) p i (omega arith))

-- a row's parent is a smaller number than its own
pub table_parent : (t : Bytes) (n k : ℕ) → Table t n → k < n → word_at t (k * prefix_width) number_width ≤ k
table_parent t n k h l =
    row_parent (prefix_row t) (rows_of_prefixes t n) (table_facts t n h) (rows_at t n) k (subst (λ (j : ℕ). k < j) (sym (rows_length t n)) l)

pub table_size : (t : Bytes) (n k : ℕ) → Table t n → k < n → word_at t (k * prefix_width + prefix_size) byte_width ≤ content_limit
table_size t n k h l =
    let m : k < length (rows_of_prefixes t n) = subst (λ (j : ℕ). k < j) (sym (rows_length t n)) l in
    subst (λ (r : PrefixRow). r.size ≤ content_limit) (sym (rows_at t n k m)) ((table_facts t n h).small k m).1

-- where number p goes through index x, its parent a goes through one less
pub table_index : (t : Bytes) (n p : ℕ) → Table t n → p ≤ n → (p ≡ 0 → ⊥) → (a : ℕ) → a ≡ word_at t ((p - 1) * prefix_width) number_width
    → (x : ℕ) → x ≡ index_of (prefix_row t) p → x - 1 ≡ index_of (prefix_row t) a
table_index t n p h l z a e x ex =
    let m : suc (p - 1) ≤ length (rows_of_prefixes t n) = omega (arith, rows_length t n) in
    let y : x ≡ index_of (prefix_row t) a + 1 =
    ex ∙ ap (index_of (prefix_row t)) (let q : p ≡ suc (p - 1) = omega arith in q)
    ∙ index_after (prefix_row t) (rows_of_prefixes t n) (table_facts t n h) (rows_at t n) (p - 1) m
    ∙ ap (λ (w : ℕ). index_of (prefix_row t) w + 1) (sym e) in
    omega arith
