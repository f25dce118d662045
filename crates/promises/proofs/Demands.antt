-- The three demands, log matching for any arrival and leaders' logs, about what `history` exports, by the model's bridge.
-- Assumes nothing.
use Prim.Native.Nat.{ℕ, zero, suc, ◌+◌}
use native.Mathlib.Omega.{arith}
use mathlib.Core.Path.{◌≡◌, refl, sym, ◌∙◌, ap, subst}
use mathlib.Core.Bool.{true}
use mathlib.Core.List.Memᴰ
use mathlib.Core.List.{List, [], ◌∷◌, ◌++◌, Memᴰ}
use mathlib.Core.Logic.{◌⊎◌, ◌↔◌, ⊎_elim}
use Rattle.model.specs.Sizes.{Bytes}
use Rattle.model.specs.History.{Finding, History}
use Rattle.model.specs.Record.{Record, view, leader}
use Rattle.model.specs.Reading.{readable, read}
use Rattle.model.specs.Answer.{is_accepted, value, answer}
use Rattle.model.specs.Leaders.{Leader}
use Rattle.model.specs.Ledger.{empty, ledger_leaders}
use Rattle.model.specs.Lists.{finding_list, leader_list}
use Rattle.model.specs.Run.{history_of}
use Rattle.model.specs.Run as run
use Rattle.model.proofs.Growth as growth
use Rattle.model.proofs.AppendOnly as logs
use Rattle.model.proofs.Last.{accepted_answer}
use Rattle.model.specs.AppendOnly.{shown_of, met_views, lg01, GrownSince}
use Rattle.model.specs.Statements.{Tells}
use Rattle.model.specs.Statements as statements
use Rattle.model.proofs.Tests.{cond_true, either}
use Rattle.model.proofs.Bridge as bridge
use Rattle.model.proofs.Matching as matching
use Rattle.model.proofs.Arrival as arrival
use Rattle.storage.specs.Rules.{well_formed}
use Rattle.storage.specs.Decode.{decode}
use Rattle.storage.specs.Fresh.{fresh_history}
use Rattle.storage.proofs.Meanings.{Represents, represented}
use Rattle.answers.specs.Step.{Step}
use Rattle.answers.specs.Numbers.{reply_of, model_reply}
use Rattle.submission.proofs.Meaning.{submit_broken}
use Rattle.model.specs.Answer as model
use Rattle.model.specs.Refusal.{Refusal, number, unknownKind, bitsMissing, filling, outOfLimit, notAbove, prefixesFull, findingsFull, old_exceeds_new, lengthExceedsFront, certificatesFull, leaderLogsFull}
use Rattle.lists.specs.Picked.{nth}
use Rattle.answers.specs.declared.numbers.Reply.{Reply}
use Rattle.history.specs.declared.exports.FindingReply.{FindingReply}
use Rattle.submission.specs.Replies.{submit_answer}
use Rattle.history.specs.Exports.{a_finding, no_finding, finding_out, a_leader, no_leader}
use Rattle.history.proofs.Handed.{reply_alike, number_refused}
use Rattle.promises.specs.Run.{bytes_of, reply_to, accepts, ledger_of}
use Rattle.promises.specs.Demands.{ValueIsGrowth, NeverEleven, ModelNeverEleven, NeverBroken, Demand1, PrintsNone, Demand2Matching, Demand2Committed, Demand3, Gives, WhichPairs, SamePairs, PairsByFronts, ViewsAccepted, AnyArrival, GivesLg01, WhenRewritten, AlwaysIndexZero, WhenGrown}
use Rattle.promises.proofs.Machine.{said, submitting, means, accepts_is, accepts_alike, states_are, ledgers_are}

-- ---- demand 1

-- the bytes after every list stand for the model's history
pub represents : (ss : List Bytes) → Represents (bytes_of ss) (history_of ss)
represents ss = subst (λ (h : Bytes). Represents h (history_of ss)) (states_are ss fresh_history) (bridge.represents_always submitting ss).0

pub never_broken : NeverBroken
never_broken ss = ((represents ss).right, (represents ss).decodes)

pub demand1 : Demand1
demand1 ss s =
    let m = means (bytes_of ss) (history_of ss) (represents ss) s in
    let e = reply_alike (submit_answer (bytes_of ss) s) (answer (history_of ss) s) m.answers in
    (e, λ f. m.keeps (number_refused (answer (history_of ss) s) (λ z. f (ap (λ (r : Reply). r.refusal) e ∙ z))))

-- ---- values

-- an accepted record is answered with its value
accepted_value : (ss : List Bytes) (s : Bytes) (r : Record) → read s ≡ readable r → accepts (bytes_of ss) s ≡ true
    → (is_accepted (answer (history_of ss) s) ≡ true) × ((reply_to ss s).value ≡ value (history_of ss) r)
accepted_value ss s r e a =
    let h = history_of ss in
    let taken : is_accepted (answer h s) ≡ true = sym (accepts_alike (bytes_of ss) h (represents ss) s) ∙ a in (
      taken,
      ap (λ (x : Reply). x.value) (demand1 ss s).0
          ∙ ap (λ (x : model.Answer). (model_reply x).value) (accepted_answer h (run.ledger_of ss) s r e taken),
    )

pub value_is_growth : ValueIsGrowth
value_is_growth ss s n xs before with_it e a b w =
    let v = accepted_value ss s (view n xs) e a in
    ap (λ (k : ℕ). before + k) v.1 ∙ growth.value_is_growth ss s n xs before with_it e v.0 b w

pub when_grown : WhenGrown
when_grown ss s n t e a =
    subst (λ (k : ℕ). ((k ≡ 8) ⊎ (k ≡ 0)) × ((k ≡ 8) ↔ GrownSince (met_views n t ss) (shown_of n ss)))
    (sym (accepted_value ss s (leader n t) e a).1) (logs.when_grown ss n t)

-- ---- 11 is never given: no refusal has the number

model_none : (a : model.Answer) → (model_reply a).refusal ≡ 11 → ⊥
model_none (model.accepted v n) z = omega (arith, z)
model_none (model.refused r) z = by r z
  where
    by : (w : Refusal) → number w ≡ 11 → ⊥
    by unknownKind e = omega (arith, e)
    by bitsMissing e = omega (arith, e)
    by filling e = omega (arith, e)
    by outOfLimit e = omega (arith, e)
    by notAbove e = omega (arith, e)
    by prefixesFull e = omega (arith, e)
    by findingsFull e = omega (arith, e)
    by old_exceeds_new e = omega (arith, e)
    by lengthExceedsFront e = omega (arith, e)
    by certificatesFull e = omega (arith, e)
    by leaderLogsFull e = omega (arith, e)

pub model_never_eleven : ModelNeverEleven
model_never_eleven ss s = model_none (answer (history_of ss) s)

pub never_eleven : NeverEleven
never_eleven h s z =
    ⊎_elim
    (λ w.
    let m = means h (decode h) (represented h w) s in
    model_none (answer (decode h) s) (ap (λ (r : Reply). r.refusal) (sym (reply_alike (submit_answer h s) (answer (decode h) s) m.answers)) ∙ z))
    (λ w. let e = ap (λ (t : Step). (reply_of t.answer).refusal) (submit_broken h s w) in omega (arith, sym e ∙ z))
    (either (well_formed h))

-- ---- what the reader of findings gives

-- after every list, the n-th of the model's history
pub read_out : (ss : List Bytes) (n : ℕ)
    → finding_out (bytes_of ss) n ≡ nth a_finding (no_finding 1) (finding_list (history_of ss)) n
read_out ss n =
    cond_true (well_formed (bytes_of ss)) _ (no_finding 12) (never_broken ss).0
    ∙ ap (λ (h : History). nth a_finding (no_finding 1) (finding_list h) n) (never_broken ss).1

-- a list has one that Q holds of, by its members and by its places
module _ (Q : FindingReply → Type 0) where
  record Among (fs : List Finding) : Type 0 where
    pub finding : Finding
    pub among : Memᴰ finding fs
    pub holds : Q (a_finding finding)

  record At (r : ℕ → FindingReply) : Type 0 where
    pub position : ℕ
    pub given : (r position).state ≡ 0
    pub holds : Q (r position)

  by_member : (fs : List Finding) (f : Finding) → Memᴰ f fs → Q (a_finding f) → At (nth a_finding (no_finding 1) fs)
  by_member [] f m q = absurd (Memᴰ.not-nil m)
  by_member (g ∷ fs) f m q =
      ⊎_elim
      (λ e. record { position = 0; given = refl; holds = subst (λ (x : Finding). Q (a_finding x)) e q })
      (λ t. let a = by_member fs f t q in record { position = suc a.position; given = a.given; holds = a.holds }) (Memᴰ.cases_cons m)

  by_place : (fs : List Finding) (n : ℕ) → (nth a_finding (no_finding 1) fs n).state ≡ 0 → Q (nth a_finding (no_finding 1) fs n)
      → Among fs
  by_place [] n e q = absurd (omega (arith, e))
  by_place (g ∷ fs) zero e q = record { finding = g; among = Memᴰ.head refl; holds = q }
  by_place (g ∷ fs) (suc n) e q =
      let a = by_place fs n e q in record { finding = a.finding; among = Memᴰ.tail a.among; holds = a.holds }

  -- the reader gives one exactly if the model's list has one
  read_found : (ss : List Bytes) → At (finding_out (bytes_of ss)) ↔ Among (finding_list (history_of ss))
  read_found ss =
      let fs = finding_list (history_of ss) in (
        λ a. by_place fs a.position (sym (ap (λ (r : FindingReply). r.state) (read_out ss a.position)) ∙ a.given)
            (subst Q (read_out ss a.position) a.holds),
        λ a.
            let b = by_member fs a.finding a.among a.holds in
            record {
              position = b.position;
              given = ap (λ (r : FindingReply). r.state) (read_out ss b.position) ∙ b.given;
              holds = subst Q (sym (read_out ss b.position)) b.holds;
            },
      )

-- ---- demand 2

-- the reader gives none of the name exactly if the machine's list has none
printed : (name : ℕ) (ss : List Bytes) → PrintsNone name ss ↔ bridge.PrintsNone submitting name ss
printed name ss =
    let both = read_found (λ r. r.name ≡ name) ss in
    let same = submitting.findings_alike _ _ (bridge.represents_always submitting ss).0 in (
      λ k f m e. let a = both.1 (record { finding = f; among = subst (Memᴰ f) same m; holds = e }) in k a.position a.given a.holds,
      λ k n s e.
          let a = both.0 (record { position = n; given = s; holds = e }) in
          k a.finding (subst (Memᴰ a.finding) (sym same) a.among) a.holds,
    )

pub demand2_matching : Demand2Matching
demand2_matching ss =
    let a = printed 3 ss in
    let b = bridge.machine_matching submitting ss in
    (λ k. b.0 (a.0 k), λ k. a.1 (b.1 k))

pub demand2_committed : Demand2Committed
demand2_committed ss =
    let a = printed 4 ss in
    let b = bridge.machine_committed submitting ss in
    (λ k. b.0 (a.0 k), λ k. a.1 (b.1 k))

-- ---- log matching for any arrival

-- an LG-03 of the index and term
abbrev Pair : ℕ → ℕ → FindingReply → Type 0
Pair i t r = (r.name ≡ 3) × (r.index ≡ i) × (r.term ≡ t)

read_tells : (ss : List Bytes) (i t : ℕ) → Gives ss i t ↔ Tells (finding_list (history_of ss)) i t
read_tells ss i t =
    let both = read_found (Pair i t) ss in (
      λ g.
          let a = both.0 (record { position = g.position; given = g.given; holds = (g.lg03, g.index, g.term) }) in
          record { finding = a.finding; among = a.among; lg03 = a.holds.0; index = a.holds.1; term = a.holds.2 },
      λ w.
          let a = both.1 (record { finding = w.finding; among = w.among; holds = (w.lg03, w.index, w.term) }) in
          record { position = a.position; given = a.given; lg03 = a.holds.0; index = a.holds.1; term = a.holds.2 },
    )

pub which_pairs : WhichPairs
which_pairs ss i t =
    let a = read_tells ss i t in
    let b = matching.which_pairs ss i t in
    (λ g. b.0 (a.0 g), λ c. a.1 (b.1 c))

-- what the model's lists have in common, the reader's have
read_alike : (ss rs : List Bytes) → statements.SamePairs ss rs → SamePairs ss rs
read_alike ss rs k i t =
    let a = read_tells ss i t in
    let b = read_tells rs i t in
    (λ g. b.1 ((k i t).0 (a.0 g)), λ g. a.1 ((k i t).1 (b.0 g)))

pub pairs_by_fronts : PairsByFronts
pairs_by_fronts ss rs same = read_alike ss rs (arrival.pairs_by_fronts ss rs same)

views_accepted : (ss : List Bytes) → ViewsAccepted ss → statements.ViewsAccepted ss
views_accepted ss a before s later e v =
    sym (accepts_alike (bytes_of before) (history_of before) (represents before) s) ∙ a before s later e v

pub any_arrival : AnyArrival
any_arrival ss rs same a b = read_alike ss rs (arrival.any_arrival ss rs same (views_accepted ss a) (views_accepted rs b))

-- ---- leaders' logs

-- two findings that are given alike are the same
same_given : (f g : Finding) → a_finding f ≡ a_finding g → f ≡ g
same_given f g e =
    λ i. record { name = (e i).name; node = (e i).node; index = (e i).index; term = (e i).term }

read_lg01 : (ss : List Bytes) (n t : ℕ) → GivesLg01 ss n t ↔ Memᴰ (lg01 n t) (finding_list (history_of ss))
read_lg01 ss n t =
    let both = read_found (λ r. r ≡ a_finding (lg01 n t)) ss in (
      λ g.
          let a = both.0 (record {
            position = g.position;
            given = ap (λ (r : FindingReply). r.state) g.given;
            holds = g.given;
          }) in
          subst (λ (f : Finding). Memᴰ f (finding_list (history_of ss))) (same_given a.finding (lg01 n t) a.holds) a.among,
      λ m.
          let a = both.1 (record { finding = lg01 n t; among = m; holds = refl }) in
          record { position = a.position; given = a.holds },
    )

pub when_rewritten : WhenRewritten
when_rewritten ss n t =
    let a = read_lg01 ss n t in
    let b = logs.when_rewritten ss n t in
    (λ g. b.0 (a.0 g), λ w. a.1 (b.1 w))

pub always_index_zero : AlwaysIndexZero
always_index_zero ss position s e =
    let a = (read_found (λ r. (r.name ≡ 1) × (r.index ≡ (finding_out (bytes_of ss) position).index)) ss).0
    (record { position = position; given = s; holds = (e, refl) }) in
    sym a.holds.1 ∙ logs.always_index_zero ss a.finding a.among a.holds.0

-- ---- demand 3

pub demand3 : Demand3
demand3 ss s c a n =
    let whole = ss ++ (s ∷ []) in
    let taken = ap (λ (h : Bytes). is_accepted (said (submit_answer h s))) (states_are ss fresh_history) ∙ sym (accepts_is (bytes_of ss) s) ∙ a in
    let same : leader_list (decode (bytes_of whole)) ≡ ledger_leaders (ledger_of whole) =
    ap (λ (h : Bytes). leader_list (decode h)) (sym (states_are whole fresh_history))
    ∙ bridge.machine_completeness submitting ss s c taken
    ∙ ap ledger_leaders (ledgers_are whole fresh_history empty) in
    cond_true (well_formed (bytes_of whole)) _ (no_leader 12) (never_broken whole).0
    ∙ ap (λ (ls : List Leader). nth a_leader (no_leader 1) ls n) same
