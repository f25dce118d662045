-- The entries and rows that a walk gives, as the code's values.
-- Assumes nothing.
use Rattle.std.specs.Prelude.{ℕ, ◌+◌, ◌-◌, ◌*◌, ◌^◌, ◌≤◌, List, ◌++◌, eqb, length, replicate, suc, ◌≡◌, Option, Some, None}
use Rattle.std.specs.Bool.{then_some}
use Rattle.model.specs.Sizes.{Bytes, content_limit}
use Rattle.model.specs.Reading.{field_at}
use Rattle.record_entries.specs.declared.walk.ShownEntry.{ShownEntry}
use Rattle.record_entries.specs.declared.walk.Configuration.{Configuration}
use Rattle.record_entries.specs.declared.walk.Row.{Row}
use Rattle.record_entries.specs.BitLayout.{ViewBits, index_at, term_at, mark_at, length_at, content_at, next_at, after_row}

-- n bytes, and zeros up to the most that an entry has
abbrev pub padded : List ℕ → ℕ → List ℕ
padded bs n = bs ++ replicate (content_limit - n) 0

-- the entry at bit k
abbrev pub shown_entry : ViewBits → ℕ → ShownEntry
shown_entry v k =
    record {
      index = record { 0 = index_at v k };
      term = record { 0 = term_at v k };
      configuration = mark_at v k;
      length = length_at v k;
      content = padded (content_at v k) (length_at v k);
      next = next_at v k;
    }

-- an entry stands at bit k: what a walk knows of each of its entries
pub record Here (v : ViewBits) (k : ℕ) : Type 0 where
  pub near : k ≤ 2 ^ 32
  pub short : length_at v k ≤ content_limit
  pub whole : next_at v k ≤ 8 * length v.bytes

-- the configuration at bit k, where one is present
abbrev pub configuration_value : Bytes → ℕ → Option Configuration
configuration_value s k =
    then_some (eqb (field_at s k 1) 1) (record { index = record { 0 = field_at s (k + 1) 10 }; identity = field_at s (k + 11) 32 })

-- the row at bit k
abbrev pub row_value : Bytes → ℕ → Row
row_value s k =
    record {
      node = record { 0 = field_at s k 6 };
      floor = record { 0 = field_at s (k + 6) 10 };
      commit = record { 0 = field_at s (k + 16) 10 };
      last = record { 0 = field_at s (k + 26) 10 };
      floor_configuration = configuration_value s (k + 36);
      actual_configuration = configuration_value s (k + 79);
      next = after_row s k;
    }

-- a row stands at bit k
pub record RowHere (s : Bytes) (k : ℕ) : Type 0 where
  pub near : k ≤ 2 ^ 32
  pub whole : after_row s k ≤ 8 * length s

-- a step of a walk: with none left there is none to give, and else the entry at bit k, with the walk moved past it
abbrev pub EntryTaken : ViewBits → ℕ → ℕ → Option ShownEntry → ViewBits → ℕ → ℕ → Type 0
EntryTaken v k n None t j m = (n ≡ 0) × (t ≡ v) × (j ≡ k) × (m ≡ n)
EntryTaken v k n (Some e) t j m = (e ≡ shown_entry v k) × (t ≡ v) × (j ≡ next_at v k) × (n ≡ suc m)
