-- What observing a view means: on bytes that stand for a history the answer is the model's, accepted bytes stand for the model's
-- effect, and refused ones are as they were.
-- Assumes nothing.
use Prim.Native.Nat.{ℕ, zero, suc, ◌+◌, ◌<◌, ◌≤◌, min}
use native.Mathlib.Omega.{arith}
use mathlib.Core.Path.{◌≡◌, refl, sym, ◌∙◌, ap, subst}
use mathlib.Core.Bool.{Bool, true, false, cond}
use mathlib.Core.Logic.{inl, ⊎_elim}
use mathlib.Core.List.Memᴰ
use mathlib.Core.List.{List, [], ◌∷◌, Memᴰ}
use mathlib.Core.Option.{none, some}
use lib.Dec.{ltb}
use lib.ListN.{length, get_or, set}
use lib.Seq.{set-get_or}
use borrow.Author.Tests.{lt-ltb, ltb-false}
use Rattle.model.specs.Sizes.{Bytes, node_count, index_limit, prefix_limit, finding_limit, term_end}
use Rattle.model.specs.Entry.{Entry, Prefix, prefixes, with_all}
use Rattle.model.specs.Refusal.{prefixesFull, findingsFull}
use Rattle.model.specs.Record.{Shown, view, front, last_from, last_index}
use Rattle.model.specs.History.{Finding, History, noted, with_node, with_findings, with_prefixes, with_views, with_unseen}
use Rattle.model.proofs.Tests.{cond_cases, cond_true, cond_false}
use Rattle.model.specs.View.{prefixes_of, mismatches, stored, view_value, view_findings, view_refusal, view_effect}
use Rattle.model.specs.Answer as model
use Rattle.model.proofs.Growth.{made_stored}
use Rattle.record_entries.specs.BitLayout.{ViewBits, Walk, first_entry, index_at, term_at, next_at, entries_at, items_at}
use Rattle.record_bits.proofs.Widths.{field_lt}
use Rattle.record_entries.proofs.Walks.{walk_entered}
use Rattle.storage_bytes.specs.Lists.{every}
use Rattle.storage.specs.Tables.{PrefixRow, NodeRow, prefix_row, prefixes_part, row_of_node, nodes_part, finding_row, finding_rows, findings_part, tables_in, tables_of}
use Rattle.storage.specs.Decode.{prefix_at}
use Rattle.storage.specs.Rules.{node_right, is_name, finding_right}
use Rattle.storage.specs.Head.{prefixes_held, findings_held}
use Rattle.storage_bytes.proofs.ListLaws.{tabulate_length, tabulate_at, every_at}
use Rattle.storage.proofs.DecodeLaws.{NodeNamed, node_named, FindingNamed}
use Rattle.storage.proofs.RowFacts.{resolve_count}
use Rattle.storage.proofs.WellFormed.{rows_count, formed}
use Rattle.storage.proofs.Meanings.{Represents, prefixes_is, findings_stored, findings_right, noted_right, kept, unseen_read, node_written}
use Rattle.answers.proofs.Meaning.{MeansUnder, accepts, refuses}
use Rattle.answers.specs.declared.answer.Refusal as own-refusal
use Rattle.answers.specs.Step.{Step, accepting, refusing}
use Rattle.logical_log.specs.Writing.{view_replaced}
use Rattle.logical_log.specs.Observation.{view_written, made_in, view_step}
use Rattle.logical_log.specs.Judging.{other, is_remembered, note_of, lack_notes, front_at, ends_at, cursor_from, stored_notes, notes_from, cursor_in, missing_in, notes_in, held_in, table_in}
use Rattle.log_prefix.specs.Extension.{written_bytes, written_count, written_number}
use Rattle.log_violation.specs.Violation.{held_all, bytes_all}
use Rattle.log_prefix.proofs.Extend.{Fits, extend_all, extends_all}
use Rattle.logical_log.proofs.Cursors.{Turn, gap, lost, more, turn, next, ends_gap, ends_lost, goes_on, stored_stays, stored_goes, walk_more}
use Rattle.logical_log.proofs.Judge.{missing_made, notes_are}
use Rattle.logical_log.proofs.Judged.{cursor_in_walkable}
use Rattle.log_violation.proofs.ViolationLaws.{Holds, all_hold, findings_long}
use Rattle.log_violation.proofs.Kept.{findings_kept_lem}
use Rattle.logical_log.proofs.Whole.{front_count, made_is_missing, table_length}
use Rattle.logical_log.proofs.StoredRows.{rows_good, rows_by_place}
use Rattle.logical_log.proofs.Stored.{Sound, front_sound, Whole, front_represented}

-- ---- lists

sound_fits : (es : List Entry) (i : ℕ) → Sound i es → Fits i es
sound_fits [] i s = tt
sound_fits (e ∷ es) i s = (s.0, s.1, sound_fits es (i + 1) s.3)

-- ---- a view's LG-03 are within the limits

pub record Noted (node : ℕ) (f : Finding) : Type 0 where
  pub name : f.name ≡ 3
  pub is_node : f.node ≡ node
  pub index : f.index ≤ index_limit
  pub term : f.term < term_end

note_noted : (node i t : ℕ) (f : Finding) → i ≤ index_limit → t < term_end → (b : Bool) → Memᴰ f (note_of b node i t) → Noted node f
note_noted node i t f hi ht false a = absurd (Memᴰ.not-nil a)
note_noted node i t f hi ht true a =
    let x = Memᴰ.eq_of_singleton a in
    record {
      name = ap (λ (y : Finding). y.name) x;
      is_node = ap (λ (y : Finding). y.node) x;
      index = subst (λ (y : Finding). y.index ≤ index_limit) (sym x) hi;
      term = subst (λ (y : Finding). y.term < term_end) (sym x) ht;
    }

lack_noted : (row : ℕ → PrefixRow) (n node : ℕ) (es : List Entry) (i : ℕ) → Sound i es
    → (f : Finding) → Memᴰ f (lack_notes row n node i es) → Noted node f
unfolding lack_notes
lack_noted row n node [] i s f m = absurd (Memᴰ.not-nil m)
lack_noted row n node (e ∷ es) i s f m =
    ⊎_elim (note_noted node i e.term f s.0 s.2 (is_remembered row n i e.term)) (lack_noted row n node es (i + 1) s.3 f)
    (Memᴰ.append_cases (note_of (is_remembered row n i e.term) node i e.term) m)

stored_noted : (row : ℕ → PrefixRow) (n node : ℕ) (s : ViewBits) (m k i p : ℕ) → Walk s k m
    → (f : Finding) → Memᴰ f (stored_notes row n node s k m i p) → Noted node f
unfolding stored_notes
stored_noted row n node s zero k i p w f a = absurd (Memᴰ.not-nil a)
stored_noted row n node s (suc m) k i p w f a = go (turn row n s k i p) (stored_noted row n node s m (next_at s k) (i + 1) (next row n s k i p) (walk_more s k m w) f)
  where
    none_noted : ends_at row n s k i p ≡ true → Noted node f
    none_noted e = absurd (Memᴰ.not-nil (subst (Memᴰ f) (stored_stays row n s k i p m node e) a))

    go : Turn row n s k i p → (Memᴰ f (stored_notes row n node s (next_at s k) m (i + 1) (next row n s k i p)) → Noted node f) → Noted node f
    go (gap g) ih = none_noted (ends_gap row n s k i p g)
    go (lost g z) ih = none_noted (ends_lost row n s k i p g z)
    go (more g z) ih =
        ⊎_elim
        (note_noted node i (term_at s k) f (subst (λ (j : ℕ). j ≤ index_limit) g (walk_entered s k (suc m) w (omega arith)).within) (field_lt s.bytes (k + 10) 32) (other row n i (term_at s k) (next row n s k i p)))
        ih
        (Memᴰ.append_cases (note_of (other row n i (term_at s k) (next row n s k i p)) node i (term_at s k)) (subst (Memᴰ f) (stored_goes row n s k i p m node (goes_on row n s k i p g z)) a))

-- ---- a view's last index and a node's mark are within the limits

last_small : (n : ℕ) (s : ViewBits) (k d : ℕ) → Walk s k n → d ≤ index_limit → last_from d (entries_at s k n) ≤ index_limit
unfolding last_from items_at
last_small zero s k d w h = h
last_small (suc n) s k d w h = last_small n s (next_at s k) (index_at s k) (walk_more s k n w) (walk_entered s k (suc n) w (omega arith)).within

unseen_small : (h : Bytes) (x : History) → Represents h x → (k : ℕ) → k < node_count → (row_of_node (nodes_part h) k).unseen ≤ index_limit
unfolding tables_in
unseen_small h x st k l =
    let row = row_of_node (nodes_part h) k in
    let there : get_or (tables_of h).nodes k row ≡ row = tabulate_at (row_of_node (nodes_part h)) 0 node_count k row l ∙ ap (row_of_node (nodes_part h)) (let z : 0 + k ≡ k = omega arith in z) in
    (node_named _ row (subst (λ (r : NodeRow). node_right (length (tables_of h).rows) r ≡ true) there
    (every_at (node_right (length (tables_of h).rows)) (tables_of h).nodes k row (kept h x st).nodes (subst (λ (j : ℕ). k < j) (sym (tabulate_length (row_of_node (nodes_part h)) 0 node_count)) l)))).unseen

module _ (limit : ℕ) (h : Bytes) (x : History) (s : ViewBits) (m node : ℕ) (st : Represents h x) (w : Walk s first_entry m) (hn : node < node_count) (hl : limit ≤ prefix_limit) where
  abbrev E : List Shown
  E = entries_at s first_entry m

  abbrev F : Prefix
  F = front E

  sound : Sound 1 F
  sound = front_sound m s first_entry 1 w

  -- ---- 6

  total : prefixes_held h + missing_in h s m ≡ length (stored x.prefixes F)
  unfolding missing_in cursor_in stored
  total =
      let rs = (tables_of h).rows in
      let a = extends_all F rs (rows_good h x st) 0 1 (omega arith) refl (sound_fits F 1 sound) in
      (λ j. sym (rows_count h) j + length (front_at s (cursor_from (prefix_row (prefixes_part h)) (sym (rows_count h) j) s first_entry m 1 0)))
      ∙ missing_made (prefix_row (prefixes_part h)) rs (rows_by_place h x st) s m first_entry 1 0
      ∙ sym (resolve_count (extend_all rs 0 1 F))
      ∙ ap length a.stores
      ∙ ap (λ (ps : List Prefix). length (with_all prefixes ps (prefixes_of F))) (prefixes_is h x st)

  -- ---- LG-03 and 7

  notes : notes_in h s m node ≡ mismatches x.prefixes node (prefixes_of F)
  unfolding notes_in
  notes =
      let rs = (tables_of h).rows in
      ap (λ (n : ℕ). notes_from (prefix_row (prefixes_part h)) n node s first_entry m 1 0) (sym (rows_count h))
      ∙ notes_are (prefix_row (prefixes_part h)) rs (rows_good h x st).known (rows_by_place h x st) node s m first_entry 1 0 [] w refl (omega arith, refl)
      ∙ ap (λ (ps : List Prefix). mismatches ps node (prefixes_of F)) (prefixes_is h x st)

  noted_in_lem : (f : Finding) → Memᴰ f (notes_in h s m node) → Noted node f
  unfolding notes_in cursor_in
  noted_in_lem f a =
      let r = cursor_in h s m in
      ⊎_elim (stored_noted (prefix_row (prefixes_part h)) (prefixes_held h) node s m first_entry 1 0 w f)
      (lack_noted (prefix_row (prefixes_part h)) (prefixes_held h) node (front_at s r) r.index.0 (front_sound r.left s r.at r.index.0 (cursor_in_walkable h s m w).walk) f)
      (Memᴰ.append_cases (stored_notes (prefix_row (prefixes_part h)) (prefixes_held h) node s first_entry m 1 0) a)

  holds : Holds (table_in h s m node) (held_in h s m node) (view_findings x node F)
  unfolding table_in held_in view_findings
  holds =
      subst (λ (gs : List Finding). Holds (bytes_all (findings_part h) (findings_held h) (notes_in h s m node)) (held_all (findings_part h) (findings_held h) (notes_in h s m node)) (noted x.findings gs)) notes
      (all_hold (notes_in h s m node) (findings_part h) (findings_held h) x.findings (findings_long h st.right)
      (λ g k. let n = noted_in_lem g k in
      record { name = (let a = n.name in omega arith); node = (let a = n.is_node in omega arith); index = (let a = n.index in omega arith); term = n.term })
      (inl ((formed h st.right).findings, findings_stored h x st)))

  same_seven : ltb finding_limit (held_in h s m node) ≡ ltb finding_limit (length (view_findings x node F))
  same_seven =
      ⊎_elim
      (λ a.
      let l : length (view_findings x node F) ≡ held_in h s m node = sym (ap length a.1) ∙ tabulate_length (finding_row (table_in h s m node)) 0 (held_in h s m node) in
      ap (ltb finding_limit) (sym l))
      (λ b. lt-ltb finding_limit (held_in h s m node) (let c = b.0 in omega arith) ∙ sym (lt-ltb finding_limit (length (view_findings x node F)) b.1))
      holds

  -- ---- the tests, as the model makes them

  abbrev many : Bool
  many = ltb limit (length (stored x.prefixes F))

  abbrev many_findings : Bool
  many_findings = ltb finding_limit (length (view_findings x node F))

  abbrev written : Bytes
  written = view_written h (prefixes_held h) s m node (table_in h s m node) (held_in h s m node)

  -- as many are made as the model says
  value_is : made_in h s m ≡ view_value x E
  unfolding view_value
  value_is =
      let a = made_is_missing h s m st.right w in
      let b = total in
      let c = made_stored x.prefixes F in
      let d : prefixes_held h ≡ length x.prefixes = sym (rows_count h) ∙ sym (resolve_count (tables_of h).rows) ∙ ap length (prefixes_is h x st) in
      omega arith

  step_is : view_step limit h s m node
      ≡ cond many (refusing own-refusal.Refusal.PrefixesFull h) (cond many_findings (refusing own-refusal.Refusal.FindingsFull h) (accepting (made_in h s m) written))
  unfolding view_step
  step_is = λ j.
      cond (ltb limit (total j)) (refusing own-refusal.Refusal.PrefixesFull h) (cond (same_seven j) (refusing own-refusal.Refusal.FindingsFull h) (accepting (made_in h s m) written))

  refusal_is : view_refusal limit x node E ≡ cond many (some prefixesFull) (cond many_findings (some findingsFull) none)
  unfolding view_refusal
  refusal_is = refl

  pub record Fine : Type 0 where
    pub few : length (stored x.prefixes F) ≤ limit
    pub few_findings : length (view_findings x node F) ≤ finding_limit

  -- ---- the bytes

  module _ (ok : Fine) where
    held_few : (held_in h s m node ≤ finding_limit) × (finding_rows (table_in h s m node) (held_in h s m node) ≡ view_findings x node F)
    held_few = ⊎_elim (λ a. a) (λ b. absurd (let c = b.1 in let d = ok.few_findings in omega arith)) holds

    all_right : every finding_right (finding_rows (table_in h s m node) (held_in h s m node)) ≡ true
    unfolding view_findings
    all_right =
        subst (λ (fs : List Finding). every finding_right fs ≡ true) (sym held_few.1)
        (noted_right (mismatches x.prefixes node (prefixes_of F)) x.findings (findings_right h x st) (λ f b. named f (subst (Memᴰ f) (sym notes) b)))
      where
        named : (f : Finding) → Memᴰ f (notes_in h s m node) → FindingNamed f
        named f b =
            let n = noted_in_lem f b in
            record {
              name = ap is_name n.name;
              node = (let a = n.is_node in omega arith);
              index = n.index;
            }

    room : written_count h (prefixes_held h) 0 1 F ≤ prefix_limit
    room = (let a = front_count h s m st.right w in let b = total in let c = ok.few in omega arith)

    abbrev h₁ : Bytes
    h₁ = written_bytes h (prefixes_held h) 0 1 F

    abbrev p₁ : ℕ
    p₁ = written_number h (prefixes_held h) 0 1 F

    whole : Whole h x 0 F h₁ (written_count h (prefixes_held h) 0 1 F) p₁
    whole = front_represented F h x st (prefixes_held h) 0 1 refl (omega arith) refl sound room

    abbrev x₁ : History
    x₁ = with_prefixes x (with_all prefixes x.prefixes (prefixes_of F))

    abbrev row : NodeRow
    row = record { front = p₁; last = last_index E; unseen = (row_of_node (nodes_part h₁) node).unseen }

    unseen_same : (row_of_node (nodes_part h₁) node).unseen ≡ get_or x.unseen node 0
    unseen_same = sym (unseen_read h₁ node hn) ∙ ap (λ (y : History). get_or y.unseen node 0) whole.represents.decodes

    named : NodeNamed (prefixes_held h₁) row
    named =
        record {
          front = subst (λ (n : ℕ). p₁ ≤ n) whole.holds whole.within;
          last = last_small m s first_entry 0 w (omega arith);
          unseen = unseen_small h₁ x₁ whole.represents node hn;
        }

    second : Represents (view_replaced h₁ node p₁ (last_index E)) (with_node x₁ node (prefix_at x₁.prefixes p₁) (last_index E) (row_of_node (nodes_part h₁) node).unseen)
    unfolding view_replaced
    second = node_written h₁ x₁ whole.represents node row hn named

    third : Represents (view_written h (prefixes_held h) s m node (table_in h s m node) (held_in h s m node))
        (with_findings (with_node x₁ node (prefix_at x₁.prefixes p₁) (last_index E) (row_of_node (nodes_part h₁) node).unseen) (finding_rows (table_in h s m node) (held_in h s m node)))
    unfolding view_written view_findings
    third =
        findings_kept_lem (view_replaced h₁ node p₁ (last_index E)) _ second (table_in h s m node) (held_in h s m node)
        (mismatches x.prefixes node (prefixes_of F)) (table_length h s m node st.right) held_few.0 all_right held_few.1

    same_history : with_findings (with_node x₁ node (prefix_at x₁.prefixes p₁) (last_index E) (row_of_node (nodes_part h₁) node).unseen) (finding_rows (table_in h s m node) (held_in h s m node))
        ≡ view_effect x node E
    unfolding view_effect stored
    same_history =
        let fr = whole.is in
        let un = ap (set x.unseen node) unseen_same ∙ set-get_or x.unseen node 0 in
        let fi = held_few.1 in
        λ j.
        with_findings
        (with_unseen
        (with_views (with_prefixes x (with_all prefixes x.prefixes (prefixes_of F))) (set x.fronts node (fr j)) (set x.lasts node (last_index E)))
        (un j))
        (fi j)

    accepted_bytes : Represents written (view_effect x node E)
    accepted_bytes = subst (Represents _) same_history third

  -- ---- the whole

  abbrev Meant : Step → Type 0
  Meant t = MeansUnder (view_refusal limit x node E) h x (view node E) t

  room_means : many ≡ false → Meant (cond many_findings (refusing own-refusal.Refusal.FindingsFull h) (accepting (made_in h s m) written))
  room_means a =
      let e = refusal_is ∙ cond_false many (some prefixesFull) _ a in
      cond_cases Meant many_findings _ _
      (λ b. refuses h x (view node E) own-refusal.Refusal.FindingsFull findingsFull refl st (e ∙ cond_true many_findings (some findingsFull) none b))
      (λ b.
      accepts h x (view node E) _ written (e ∙ cond_false many_findings (some findingsFull) none b) (ap (λ (v : ℕ). model.accepted v 0) value_is)
      (accepted_bytes (record { few = ltb-false limit (length (stored x.prefixes F)) a; few_findings = ltb-false 128 (length (view_findings x node F)) b })))

  pub step_means : Meant (view_step limit h s m node)
  step_means =
      subst Meant (sym step_is)
      (cond_cases Meant many _ _
      (λ a. refuses h x (view node E) own-refusal.Refusal.PrefixesFull prefixesFull refl st (refusal_is ∙ cond_true many (some prefixesFull) _ a))
      room_means)

-- For every well-formed history and every readable view, at every limit; one past what the table holds counts as that.
pub view_means : (limit : ℕ) (h : Bytes) (x : History) (s : ViewBits) (m node : ℕ) → Represents h x → Walk s first_entry m → node < node_count
    → (let es = entries_at s first_entry m in
    MeansUnder (view_refusal (min limit prefix_limit) x node es) h x (view node es) (view_step (min limit prefix_limit) h s m node))
view_means limit h x s m node st w l = step_means (min limit prefix_limit) h x s m node st w l (omega arith)
