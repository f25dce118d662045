-- The pairs of index and term that the LG-03 list names do not rest on the order in which the views arrive: they follow from the
-- accepted fronts as a set. Only the node of a finding tells which view came last (`nodes_differ`).
-- Assumes nothing.
use Prim.Native.Nat.{ℕ}
use mathlib.Core.Path.{◌≡◌, refl, sym, ◌∙◌, ap, subst}
use mathlib.Core.Bool.{true}
use mathlib.Core.Logic.{◌↔◌, ⊎_elim}
use mathlib.Core.List.Memᴰ
use mathlib.Core.List.{List, [], ◌∷◌, ◌++◌, Memᴰ}
use mathlib.Core.Option.{Option, none, some}
use Rattle.model.specs.Sizes.{Bytes}
use Rattle.model.specs.Entry.{Prefix}
use Rattle.model.specs.Refusal.{Refusal}
use Rattle.model.specs.Record.{Shown, Record, view, commit, terms, election, check, rows, leader, front}
use Rattle.model.specs.Reading.{Reading, readable, unreadable, read}
use Rattle.model.specs.History.{Finding, History, fresh}
use Rattle.model.specs.Answer.{is_accepted, refusal, answer_unless, answer_read, answer, after}
use Rattle.model.specs.Ledger.{Ledger, empty}
use Rattle.model.specs.Lists.{finding_list}
use Rattle.model.specs.Run.{history_from, history_of, told, event_unless, event_read, events_from, gathered}
use Rattle.model.specs.Statements.{front_in, fronts_in, accepted_fronts, Clashing, PairsByFronts, IsView, ViewsAccepted, AnyArrival}
use Rattle.model.proofs.Tests.{tf}
use Rattle.model.proofs.Run.{gathered_append}
use Rattle.model.proofs.Matching.{which_pairs}

-- ---- the same fronts name the same pairs

carried : (ps qs : List Prefix) → ((p : Prefix) → Memᴰ p ps → Memᴰ p qs) → (i t : ℕ) → Clashing ps i t → Clashing qs i t
carried ps qs f i t c =
    record {
      one = c.one;
      other = c.other;
      one_among = f c.one c.one_among;
      other_among = f c.other c.other_among;
      one_reaches = c.one_reaches;
      other_reaches = c.other_reaches;
      one_term = c.one_term;
      other_term = c.other_term;
      differ = c.differ;
    }

pub pairs_by_fronts : PairsByFronts
pairs_by_fronts ss rs same i t = (
  λ w. (which_pairs rs i t).1 (carried (accepted_fronts ss) _ (λ p. (same p).0) i t ((which_pairs ss i t).0 w)),
  λ w. (which_pairs ss i t).1 (carried (accepted_fronts rs) _ (λ p. (same p).1) i t ((which_pairs rs i t).0 w)),
)

-- ---- where each view is accepted, the accepted fronts are those of the views

-- the front of one of the list's views
record ShownIn (ss : List Bytes) (p : Prefix) : Type 0 where
  pub one : Bytes
  pub among : Memᴰ one ss
  pub is : IsView one
  pub front_is : p ≡ front is.shown

-- one record's: what it adds is its front if it is a view
record ShownBy (s : Bytes) (p : Prefix) : Type 0 where
  pub is : IsView s
  pub front_is : p ≡ front is.shown

module _ (h : History) (g : Ledger) (s : Bytes) where
  added_unless : (r : Record) (o : Option Refusal) → read s ≡ readable r → (p : Prefix) → Memᴰ p (fronts_in (event_unless h g r o))
      → ShownBy s p
  unfolding gathered
  added_unless r (some e) q p m = absurd (Memᴰ.not-nil m)
  added_unless (view n xs) none q p m =
      record { is = record { node = n; shown = xs; reads = q }; front_is = Memᴰ.eq_of_singleton m }
  added_unless (commit n i) none q p m = absurd (Memᴰ.not-nil m)
  added_unless (terms old new t) none q p m = absurd (Memᴰ.not-nil m)
  added_unless (election l t b n) none q p m = absurd (Memᴰ.not-nil m)
  added_unless check none q p m = absurd (Memᴰ.not-nil m)
  added_unless (rows rs) none q p m = absurd (Memᴰ.not-nil m)
  added_unless (leader n t) none q p m = absurd (Memᴰ.not-nil m)

  added : (x : Reading) → read s ≡ x → (p : Prefix) → Memᴰ p (fronts_in (event_read h g x)) → ShownBy s p
  unfolding gathered
  added (readable r) q p m = added_unless r (refusal h r) q p m
  added (unreadable e) q p m = absurd (Memᴰ.not-nil m)

  adds_unless : (n : ℕ) (xs : List Shown) (o : Option Refusal) → is_accepted (answer_unless h (view n xs) o) ≡ true
      → Memᴰ (front xs) (fronts_in (event_unless h g (view n xs) o))
  unfolding gathered
  adds_unless n xs none a = Memᴰ.head refl
  adds_unless n xs (some e) a = absurd (tf (sym a))

  adds : (v : IsView s) → is_accepted (answer h s) ≡ true → Memᴰ (front v.shown) (fronts_in (event_read h g (read s)))
  unfolding answer
  adds v a =
      subst (λ (x : Reading). Memᴰ (front v.shown) (fronts_in (event_read h g x))) (sym v.reads)
      (adds_unless v.node v.shown (refusal h (view v.node v.shown))
      (sym (ap (λ (x : Reading). is_accepted (answer_read h x)) v.reads) ∙ a))

AcceptedFrom : History → List Bytes → Type 0
AcceptedFrom h ss =
    (before : List Bytes) (s : Bytes) (later : List Bytes) → ss ≡ before ++ (s ∷ later)
    → IsView s → is_accepted (answer (history_from h before) s) ≡ true

fronts_shown : (ss : List Bytes) (h : History) (g : Ledger) → AcceptedFrom h ss → (p : Prefix)
    → Memᴰ p (fronts_in (events_from h g ss)) ↔ ShownIn ss p
unfolding events_from gathered AcceptedFrom history_from
fronts_shown [] h g a p = (λ m. absurd (Memᴰ.not-nil m), λ w. absurd (Memᴰ.not-nil w.among))
fronts_shown (s ∷ ss) h g a p =
    let rest = events_from (after h s) (told h g s) ss in
    let both = gathered_append (λ e. front_in e.event) (event_read h g (read s)) rest in
    let accepted : AcceptedFrom (after h s) ss = λ b x l e v. a (s ∷ b) x l (ap (λ (k : List Bytes). s ∷ k) e) v in
    let later = fronts_shown ss (after h s) (told h g s) accepted p in (
      λ m. ⊎_elim
          (λ k. let w = added h g s (read s) refl p k in record { one = s; among = Memᴰ.head refl; is = w.is; front_is = w.front_is })
          (λ k. let w = later.0 k in record { one = w.one; among = Memᴰ.tail w.among; is = w.is; front_is = w.front_is })
          (Memᴰ.append_cases (fronts_in (event_read h g (read s))) (subst (λ (l : List Prefix). Memᴰ p l) both m)),
      λ w. subst (λ (l : List Prefix). Memᴰ p l) (sym both)
          (⊎_elim (λ e. Memᴰ.append_left (fronts_in rest) (here w e))
          (λ k. Memᴰ.append_right (fronts_in (event_read h g (read s)))
          (later.1 (record { one = w.one; among = k; is = w.is; front_is = w.front_is })))
          (Memᴰ.cases_cons w.among)),
    )
  where
    here : (w : ShownIn (s ∷ ss) p) → w.one ≡ s → Memᴰ p (fronts_in (event_read h g (read s)))
    here w e =
        let v : IsView s = record { node = w.is.node; shown = w.is.shown; reads = sym (ap read e) ∙ w.is.reads } in
        Memᴰ.cast w.front_is (adds h g s v (a [] s ss refl v))

pub any_arrival : AnyArrival
unfolding AcceptedFrom
any_arrival ss rs same a b = pairs_by_fronts ss rs (λ p. (
  λ m. (shown rs b p).1 (across ss rs (λ s v. (same s v).0) p ((shown ss a p).0 m)),
  λ m. (shown ss a p).1 (across rs ss (λ s v. (same s v).1) p ((shown rs b p).0 m)),
))
  where
    shown : (l : List Bytes) → ViewsAccepted l → (p : Prefix) → Memᴰ p (accepted_fronts l) ↔ ShownIn l p
    shown l c p = fronts_shown l fresh empty c p

    across : (l k : List Bytes) → ((s : Bytes) → IsView s → Memᴰ s l → Memᴰ s k) → (p : Prefix) → ShownIn l p → ShownIn k p
    across l k f p w = record { one = w.one; among = f w.one w.is w.among; is = w.is; front_is = w.front_is }

-- ---- the nodes can differ

-- node 1 shows entry 1 of term 1 with no content, node 2 with the byte 00
pub without_content : Bytes
without_content = 0x10 ∷ 0x40 ∷ 0x10 ∷ 0x04 ∷ 0x00 ∷ 0x00 ∷ 0x00 ∷ 0x04 ∷ 0x00 ∷ []

pub with_content : Bytes
with_content = 0x10 ∷ 0x80 ∷ 0x10 ∷ 0x04 ∷ 0x00 ∷ 0x00 ∷ 0x00 ∷ 0x04 ∷ 0x10 ∷ 0x00 ∷ []

abbrev pub clash_of : ℕ → Finding
clash_of node = record { name = 3; node = node; index = 1; term = 1 }

-- in either order the list has index 1 and term 1 alone, of the node whose view came last
pub nodes_differ :
    (finding_list (history_of (without_content ∷ with_content ∷ [])) ≡ clash_of 2 ∷ [])
    × (finding_list (history_of (with_content ∷ without_content ∷ [])) ≡ clash_of 1 ∷ [])
unfolding history_from finding_list without_content with_content
nodes_differ = (refl, refl)
