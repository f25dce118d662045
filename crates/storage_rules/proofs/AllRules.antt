-- The storage rules as a whole, in the order in which the code tests them.
-- Assumes nothing.
use Prim.Native.Nat.{ℕ}
use mathlib.Core.Path.{◌≡◌, sym, ◌∙◌}
use mathlib.Core.Bool.{false, ◌&&◌}
use mathlib.Core.List.{[]}
use lib.ListN.{length}
use borrow.Author.Tests.{eq-eqb, ne_eqb}
use Rattle.model.specs.Sizes.{Bytes}
use Rattle.storage_bytes.specs.Lists.{every}
use Rattle.storage_bytes.specs.Layout.{history_length}
use Rattle.storage.specs.Tables.{prefix_row, rows_of_prefixes, node_rows, term_row, certificate_row, rows_of_certificates, finding_row, finding_rows, leader_log_row, leader_log_rows, head_part, nodes_part, terms_part, certificates_part, findings_part, prefixes_part, leader_logs_part, tables_in, term_rows}
use Rattle.storage.specs.Rules.{numbered, kept_once, prefixes_right_after, node_right, certificate_right, finding_right, leader_log_right, within_limits, committed_right, tables_right, well_formed}
use Rattle.storage.specs.Head.{prefixes_held, terms_held, committed_number, certificates_held, findings_held, owner_of, leader_logs_held}
use Rattle.storage_bytes.proofs.ListLaws.{tabulate_length}
use Rattle.storage.proofs.RuleLaws.{stop, pass}

-- bytes of another length break the rules
pub wrong_length : (h : Bytes) → (length h ≡ history_length → ⊥) → well_formed h ≡ false
unfolding well_formed
wrong_length h ne = stop _ (ne_eqb (length h) history_length ne)

-- the rules in the order in which the code tests them, by the regions and counts that it reads
pub rules_in_turn : (h head ns cs fs ls ps : Bytes) (n m f k : ℕ) → length h ≡ history_length
    → head ≡ head_part h → ns ≡ nodes_part h → cs ≡ certificates_part h → fs ≡ findings_part h → ls ≡ leader_logs_part h → ps ≡ prefixes_part h
    → n ≡ prefixes_held head → m ≡ certificates_held head → f ≡ findings_held head → k ≡ leader_logs_held head
    → well_formed h
    ≡ (within_limits (prefixes_held head) (terms_held head) (certificates_held head) (findings_held head) (leader_logs_held head)
    && (committed_right (prefixes_held head) (committed_number head) (owner_of head)
    && (every (node_right n) (node_rows ns)
    && (every (certificate_right n) (rows_of_certificates cs m)
    && (numbered (rows_of_certificates cs m)
    && (every finding_right (finding_rows fs f)
    && (every (leader_log_right n) (leader_log_rows ls k)
    && (kept_once (leader_log_rows ls k) && prefixes_right_after [] (rows_of_prefixes ps n)))))))))
unfolding well_formed tables_right tables_in
rules_in_turn h head ns cs fs ls ps n m f k e eh en ec ef el ep n' m' f' k' =
    let r = tabulate_length (prefix_row ps) 0 (prefixes_held head) in
    let t = tabulate_length (term_row (terms_part h)) 0 (terms_held head) in
    let c = tabulate_length (certificate_row cs) 0 (certificates_held head) in
    let d = tabulate_length (finding_row fs) 0 (findings_held head) in
    let g = tabulate_length (leader_log_row ls) 0 (leader_logs_held head) in
    pass _ (eq-eqb (length h) history_length e)
    ∙ (λ i.
    tables_right
    (record {
      rows = rows_of_prefixes (sym ep i) (prefixes_held (sym eh i));
      nodes = node_rows (sym en i);
      committed = committed_number (sym eh i);
      owner = owner_of (sym eh i);
      terms = term_rows (terms_part h) (terms_held (sym eh i));
      certificates = rows_of_certificates (sym ec i) (certificates_held (sym eh i));
      findings = finding_rows (sym ef i) (findings_held (sym eh i));
      leader_logs = leader_log_rows (sym el i) (leader_logs_held (sym eh i));
    }))
    ∙ (λ i. within_limits (r i) (t i) (c i) (d i) (g i)
    && (committed_right (r i) (committed_number head) (owner_of head)
    && (every (node_right ((r ∙ sym n') i)) (node_rows ns)
    && (every (certificate_right ((r ∙ sym n') i)) (rows_of_certificates cs (sym m' i))
    && (numbered (rows_of_certificates cs (sym m' i))
    && (every finding_right (finding_rows fs (sym f' i))
    && (every (leader_log_right ((r ∙ sym n') i)) (leader_log_rows ls (sym k' i))
    && (kept_once (leader_log_rows ls (sym k' i)) && prefixes_right_after [] (rows_of_prefixes ps (sym n' i))))))))))
