-- What `observe_leader` means: of bytes that stand for a history, its answer is the model's, and the bytes after it stand for the model's
-- history after it: a pair's first record, a gap, a rewriting, or growth.
-- Assumes nothing.
use Prim.Native.Nat.{ℕ, ◌+◌, ◌-◌, ◌≤◌, ◌<◌}
use native.Mathlib.Omega.{arith}
use native.Mathlib.Nat.{zero-add}
use mathlib.Core.Path.{◌≡◌, refl, sym, ◌∙◌, ap, subst}
use mathlib.Core.Bool.{Bool, true, false, cond}
use mathlib.Core.Logic.{⊎_elim}
use mathlib.Core.List.{List, [], ◌∷◌, ◌++◌, map}
use mathlib.Core.Option as option
use lib.Dec.{leb, ltb, eqb}
use lib.ListN.{length, get_or, set, length-set, length-append, get_or-map}
use borrow.Author.Tests.{leb-true, leb-false, lt-ltb, le-ltb, eqb-true}
use Rattle.std.specs.Prelude.{Option, Some, None}
use Rattle.model.specs.Entry.{with_all}
use Rattle.model.specs.Refusal.{findingsFull, leaderLogsFull}
use Rattle.model.specs.Record.{leader}
use Rattle.model.specs.History.{Finding, LeaderLog, History, last_of, noted, with_leader_logs, with_findings}
use Rattle.model.specs.LeaderLog.{kept_of, kept_with, present, rewrites, grows, rewritings, growth, leader_kept, leader_findings, leader_refusal, leader_value, leader_effect}
use Rattle.model.specs.Answer.{accepted}
use Rattle.model.specs.Sizes.{Bytes, node_count, leader_log_limit, finding_limit, term_end}
use Rattle.model.proofs.Tests.{either, cond_true, cond_false, and_left, and_right}
use Rattle.storage.specs.Tables.{LeaderLogRow, row_of_node, nodes_part, leader_log_row, leader_log_rows, leader_logs_part}
use Rattle.storage.specs.Decode.{leader_log_in}
use Rattle.storage.specs.Rules.{is_pair, has_pair}
use Rattle.storage.specs.Writes.{LeaderLogFits, leader_log_appended}
use Rattle.storage.specs.Head.{prefixes_held, leader_logs_held}
use Rattle.storage_bytes.proofs.ListLaws.{tabulate_at}
use Rattle.storage.proofs.DecodeLaws.{LeaderLogNamed}
use Rattle.storage.proofs.WellFormed.{Formed, formed, leader_logs_are}
use Rattle.storage.proofs.Meanings.{Represents, IsPair, prefixes_read, findings_read, leader_logs_read, last_read, leader_logs_stored, leader_log_written, leader_log_added}
use Rattle.log_prefix.proofs.Fronts.{front_is}
use Rattle.log_violation.specs.Violation.{room_for, noted_in}
use Rattle.log_violation.proofs.Single.{one_noted}
use Rattle.answers.specs.declared.answer.Refusal.{Refusal}
use Rattle.answers.specs.Step.{Step, accepting, refusing}
use Rattle.answers.proofs.Meaning.{Means, accepts, refuses}
use Rattle.leader_log.specs.Comparison.{extends_in}
use Rattle.leader_log.specs.Observation.{present_in, place_in, rewriting, kept_in, first_step, rewritten_step, held_step, next_step, placed_step, leader_step}
use Rattle.leader_log.proofs.Places.{found}
use Rattle.leader_log.proofs.Kept.{kept_found, kept_missing}
use Rattle.leader_log.proofs.ComparisonMeaning.{Says, unjudged, differs, agrees, extends_means}

-- ---- of the model alone

module _ (x : History) (n t : ℕ) where
  -- by what is kept for the pair
  module _ (o : option.Option LeaderLog) (e : kept_of x.leader_logs n t ≡ o) where
    value_by : leader_value x n t ≡ growth o (present x n t)
    unfolding leader_value
    value_by = ap (λ (k : option.Option LeaderLog). growth k (present x n t)) e

    findings_by : leader_findings x n t ≡ noted x.findings (rewritings o (present x n t))
    unfolding leader_findings
    findings_by = ap (λ (k : option.Option LeaderLog). noted x.findings (rewritings k (present x n t))) e

  module _ (k : LeaderLog) (e : kept_of x.leader_logs n t ≡ option.some k) where
    value_some : (b : Bool) → grows k (present x n t) ≡ b → leader_value x n t ≡ cond b 8 0
    unfolding growth
    value_some b g = value_by (option.some k) e ∙ ap (λ (c : Bool). cond c 8 0) g

    findings_some : (b : Bool) → rewrites k (present x n t) ≡ b
        → leader_findings x n t ≡ noted x.findings (cond b (record { name = 1; node = n; index = 0; term = t } ∷ []) [])
    unfolding rewritings
    findings_some b g =
        findings_by (option.some k) e ∙ ap (λ (c : Bool). noted x.findings (cond c (record { name = 1; node = n; index = 0; term = t } ∷ []) [])) g

  value_none : kept_of x.leader_logs n t ≡ option.none → leader_value x n t ≡ 0
  unfolding growth
  value_none e = value_by option.none e

  findings_none : kept_of x.leader_logs n t ≡ option.none → leader_findings x n t ≡ x.findings
  unfolding rewritings noted with_all
  findings_none e = findings_by option.none e

  no_more : noted x.findings [] ≡ x.findings
  unfolding noted with_all
  no_more = refl

  -- the refusals, by how many there are
  module _ (ks : List LeaderLog) (ek : leader_kept x n t ≡ ks) where
    fourteen : leader_log_limit < length ks → leader_refusal x n t ≡ option.some leaderLogsFull
    unfolding leader_refusal
    fourteen l =
        cond_true (ltb leader_log_limit (length (leader_kept x n t))) _ _ (ap (λ (js : List LeaderLog). ltb leader_log_limit (length js)) ek ∙ lt-ltb leader_log_limit (length ks) l)

    module _ (l : length ks ≤ leader_log_limit) (fs : List Finding) (ef : leader_findings x n t ≡ fs) where
      then_findings : leader_refusal x n t ≡ cond (ltb finding_limit (length fs)) (option.some findingsFull) option.none
      unfolding leader_refusal
      then_findings =
          cond_false (ltb leader_log_limit (length (leader_kept x n t))) _ _ (ap (λ (js : List LeaderLog). ltb leader_log_limit (length js)) ek ∙ le-ltb leader_log_limit (length ks) l)
          ∙ ap (λ (gs : List Finding). cond (ltb finding_limit (length gs)) (option.some findingsFull) option.none) ef

      few : length fs ≤ finding_limit → leader_refusal x n t ≡ option.none
      few m = then_findings ∙ cond_false (ltb finding_limit (length fs)) _ _ (le-ltb finding_limit (length fs) m)

      many : finding_limit < length fs → leader_refusal x n t ≡ option.some findingsFull
      many m = then_findings ∙ cond_true (ltb finding_limit (length fs)) _ _ (lt-ltb finding_limit (length fs) m)

    effect_by : (fs : List Finding) → leader_findings x n t ≡ fs → leader_effect x n t ≡ with_findings (with_leader_logs x ks) fs
    unfolding leader_effect
    effect_by fs ef = λ i. with_findings (with_leader_logs x (ek i)) (ef i)

-- ---- of bytes that stand for a history

module _ (h : Bytes) (x : History) (s : Represents h x) (n t : ℕ) (here : n < node_count) (fits : t < term_end) where
  abbrev Meant : Step → Type 0
  Meant = Means h x (leader n t)

  abbrev row : ℕ → LeaderLogRow
  row = leader_log_row (leader_logs_part h)

  -- the present view, as it is kept
  abbrev new : LeaderLogRow
  new = present_in h n t

  facts : Formed h
  facts = formed h s.right

  prefixes_count : length x.prefixes ≡ prefixes_held h
  prefixes_count = ap (λ (y : History). length y.prefixes) (sym s.decodes) ∙ prefixes_read h

  logs_count : length x.leader_logs ≡ leader_logs_held h
  logs_count = ap (λ (y : History). length y.leader_logs) (sym s.decodes) ∙ leader_logs_read h

  findings_count : length x.findings ≤ finding_limit
  findings_count = (let a = ap (λ (y : History). length y.findings) (sym s.decodes) ∙ findings_read h in let b = facts.findings in omega arith)

  new_named : LeaderLogNamed (length x.prefixes) new
  new_named =
      let f = facts.node n here in
      record { node = omega (arith, here); front = omega (arith, f.front, prefixes_count); last = f.last }

  new_fits : LeaderLogFits new
  new_fits =
      let f = facts.node n here in
      record { node = omega (arith, here); term = omega (arith, fits); front = omega (arith, f.front, facts.prefixes); last = omega (arith, f.last) }

  new_is : leader_log_in x.prefixes new ≡ present x n t
  new_is =
      let front = front_is h x s n here in
      let last : last_of x n ≡ (row_of_node (nodes_part h) n).last = ap (λ (y : History). last_of y n) (sym s.decodes) ∙ last_read h n here in
      λ i. record { node = n; term = t; front = sym front i; last = sym last i }

  taken : (v : ℕ) (h' : Bytes) → leader_refusal x n t ≡ option.none → v ≡ leader_value x n t → Represents h' (leader_effect x n t) → Meant (accepting v h')
  taken v h' e q r = accepts h x (leader n t) _ h' e (ap (λ (m : ℕ). accepted m 0) q) r

  -- ---- what is kept

  abbrev v : LeaderLog
  v = present x n t

  kept_by : (f : List LeaderLog → List LeaderLog)
      → kept_with (map (leader_log_in x.prefixes) (leader_log_rows (leader_logs_part h) (leader_logs_held h))) v
      ≡ f (map (leader_log_in x.prefixes) (leader_log_rows (leader_logs_part h) (leader_logs_held h)))
      → leader_kept x n t ≡ f x.leader_logs
  unfolding leader_kept
  kept_by f q = subst (λ (ks : List LeaderLog). kept_with ks v ≡ f ks) (leader_logs_stored h x s) q

  -- ---- a pair's first record

  first_means : place_in h n t ≡ None → Meant (first_step h new)
  unfolding first_step
  first_means e =
      let p = kept_missing row x.prefixes n t v.last v.front 0 (leader_logs_held h) e in
      let none : kept_of x.leader_logs n t ≡ option.none = ap (λ (ks : List LeaderLog). kept_of ks n t) (sym (leader_logs_stored h x s)) ∙ p.kept in
      let ks : List LeaderLog = x.leader_logs ++ (v ∷ []) in
      let ek : leader_kept x n t ≡ ks = kept_by (λ js. js ++ (v ∷ [])) p.after in
      let more : length ks ≡ length x.leader_logs + 1 = length-append x.leader_logs (v ∷ []) in
      let fs = findings_none x n t none in
      ⊎_elim
      (λ b.
      let l = leb-true leader_log_limit (leader_logs_held h) b in
      subst Meant (sym (cond_true (leb leader_log_limit (leader_logs_held h)) _ (accepting 0 (leader_log_appended h new)) b))
      (refuses h x (leader n t) Refusal.LeaderLogsFull leaderLogsFull refl s (fourteen x n t ks ek (omega (arith, l, more, logs_count)))))
      (λ b.
      let l = leb-false leader_log_limit (leader_logs_held h) b in
      subst Meant (sym (cond_false (leb leader_log_limit (leader_logs_held h)) (refusing Refusal.LeaderLogsFull h) _ b))
      (taken 0 (leader_log_appended h new)
      (few x n t ks ek (omega (arith, l, more, logs_count)) x.findings fs findings_count)
      (sym (value_none x n t none))
      (subst (Represents (leader_log_appended h new)) (ap (λ (y : LeaderLog). with_leader_logs x (x.leader_logs ++ (y ∷ []))) new_is ∙ sym (effect_by x n t ks ek x.findings fs))
      (leader_log_added h x s new (omega (arith, l)) new_fits new_named (ap (has_pair n t) (leader_logs_are h) ∙ p.none)))))
      (either (leb leader_log_limit (leader_logs_held h)))

  -- ---- held against the one kept in place k

  module _ (k : ℕ) (e : place_in h n t ≡ Some k) where
    abbrev old : LeaderLogRow
    old = row k

    held_here : k < leader_logs_held h
    held_here = let f = found row n t 0 (leader_logs_held h) k e in let a = f.is in let b = f.before in omega arith

    kept : kept_of x.leader_logs n t ≡ option.some (leader_log_in x.prefixes old)
    kept =
        ap (λ (ks : List LeaderLog). kept_of ks n t) (sym (leader_logs_stored h x s))
        ∙ (kept_found row x.prefixes n t v.last v.front 0 (leader_logs_held h) k e).kept

    abbrev ks : List LeaderLog
    ks = set x.leader_logs k v

    kept_is : leader_kept x n t ≡ ks
    kept_is =
        kept_by (λ js. set js k v)
        ((kept_found row x.prefixes n t v.last v.front 0 (leader_logs_held h) k e).after
        ∙ ap (λ (i : ℕ). set (map (leader_log_in x.prefixes) (leader_log_rows (leader_logs_part h) (leader_logs_held h))) i v) (let z : k - 0 ≡ k = omega arith in z))

    in_limit : length ks ≤ leader_log_limit
    in_limit = omega (arith, length-set x.leader_logs k v, logs_count, facts.leader_logs)

    -- the one kept is of the pair
    of_pair : IsPair n t (get_or x.leader_logs k (leader_log_in x.prefixes old))
    unfolding is_pair
    of_pair =
        let f = (found row n t 0 (leader_logs_held h) k e).pair in
        let at : get_or x.leader_logs k (leader_log_in x.prefixes old) ≡ leader_log_in x.prefixes old =
        ap (λ (js : List LeaderLog). get_or js k (leader_log_in x.prefixes old)) (sym (leader_logs_stored h x s))
        ∙ get_or-map (leader_log_in x.prefixes) (leader_log_rows (leader_logs_part h) (leader_logs_held h)) k old
        ∙ ap (leader_log_in x.prefixes) (tabulate_at row 0 (leader_logs_held h) k old held_here ∙ ap row (zero-add k)) in (
          sym (eqb-true old.node n (and_left _ _ f)) ∙ ap (λ (y : LeaderLog). y.node) (sym at),
          sym (eqb-true old.term t (and_right (eqb old.node n) _ f)) ∙ ap (λ (y : LeaderLog). y.term) (sym at),
        )

    -- the present view written in the place, whatever the findings are
    written : (h' : Bytes) (fs : List Finding) → Represents h' (with_findings x fs) → Represents (kept_in h' k new) (with_findings (with_leader_logs x ks) fs)
    unfolding kept_in
    written h' fs s' =
        subst (λ (y : LeaderLog). Represents (kept_in h' k new) (with_findings (with_leader_logs x (set x.leader_logs k y)) fs)) new_is
        (leader_log_written h' (with_findings x fs) s' k new old (omega (arith, held_here, logs_count)) new_fits new_named of_pair)

    -- no finding more
    module _ (rw : rewrites (leader_log_in x.prefixes old) v ≡ false) where
      same_findings : leader_findings x n t ≡ x.findings
      same_findings = findings_some x n t (leader_log_in x.prefixes old) kept false rw ∙ no_more x n t

      quiet : (b : Bool) → grows (leader_log_in x.prefixes old) v ≡ b → Meant (accepting (cond b 8 0) (kept_in h k new))
      quiet b g =
          taken (cond b 8 0) (kept_in h k new) (few x n t ks kept_is in_limit x.findings same_findings findings_count)
          (sym (value_some x n t (leader_log_in x.prefixes old) kept b g))
          (subst (Represents (kept_in h k new)) (sym (effect_by x n t ks kept_is x.findings same_findings)) (written h x.findings s))

    -- LG-01, or too many findings
    rewritten : rewrites (leader_log_in x.prefixes old) v ≡ true → grows (leader_log_in x.prefixes old) v ≡ false → Meant (rewritten_step h k new)
    unfolding rewritten_step
    rewritten rw g =
        let f = rewriting new in
        let fs : List Finding = noted x.findings (f ∷ []) in
        let ef : leader_findings x n t ≡ fs = findings_some x n t (leader_log_in x.prefixes old) kept true rw in
        ⊎_elim
        (λ y.
        subst Meant (sym (cond_true (room_for h f) _ (refusing Refusal.FindingsFull h) y.room))
        (taken 0 (kept_in (noted_in h f) k new) (few x n t ks kept_is in_limit fs ef y.few)
        (sym (value_some x n t (leader_log_in x.prefixes old) kept false g))
        (subst (Represents (kept_in (noted_in h f) k new)) (sym (effect_by x n t ks kept_is fs ef)) (written (noted_in h f) fs y.represents))))
        (λ y.
        subst Meant (sym (cond_false (room_for h f) (accepting 0 (kept_in (noted_in h f) k new)) _ y.0))
        (refuses h x (leader n t) Refusal.FindingsFull findingsFull refl s (many x n t ks kept_is in_limit fs ef y.1)))
        (one_noted h x s f
        (record { name = omega arith; node = omega (arith, here); index = omega arith; term = omega (arith, fits) })
        (record { name = refl; node = omega (arith, here); index = omega arith }))

    by_answer : Says h old new (leader_log_in x.prefixes old) (leader_log_in x.prefixes new) → Meant (held_step h k old new (extends_in h old new))
    by_answer (unjudged a r g) =
        subst (λ (o : Option Bool). Meant (held_step h k old new o)) (sym a) (quiet (ap (rewrites (leader_log_in x.prefixes old)) (sym new_is) ∙ r) false (ap (grows (leader_log_in x.prefixes old)) (sym new_is) ∙ g))
    by_answer (differs a r g) =
        subst (λ (o : Option Bool). Meant (held_step h k old new o)) (sym a) (rewritten (ap (rewrites (leader_log_in x.prefixes old)) (sym new_is) ∙ r) (ap (grows (leader_log_in x.prefixes old)) (sym new_is) ∙ g))
    by_answer (agrees a r g) =
        subst (λ (o : Option Bool). Meant (held_step h k old new o)) (sym a) (quiet (ap (rewrites (leader_log_in x.prefixes old)) (sym new_is) ∙ r) (ltb old.last new.last) (ap (grows (leader_log_in x.prefixes old)) (sym new_is) ∙ g))

    next_means : Meant (next_step h k new)
    unfolding next_step
    next_means =
        by_answer (extends_means h x s old new (facts.leader_log k held_here).front (let f = (facts.node n here).front in f))

  pub leader_means : Meant (leader_step h n t)
  unfolding leader_step
  leader_means = by (place_in h n t) refl
    where
      by : (o : Option ℕ) → place_in h n t ≡ o → Meant (placed_step h new o)
      by None e = first_means e
      by (Some k) e = next_means k e
