-- What the readers of the lists give is the model's list: of bytes that keep the storage rules by the laws of `lists`, of
-- others 12.
-- Assumes nothing.
use Prim.Native.Nat.{ℕ, zero, suc}
use mathlib.Core.Path.{◌≡◌, refl, sym, ◌∙◌, ap}
use mathlib.Core.Bool.{true, false, cond}
use mathlib.Core.List.{List, [], ◌∷◌}
use Rattle.std.specs.Prelude.{Option, Some, None, IfSome, IfNone, Ok, Err}
use Rattle.model.specs.Sizes.{Bytes}
use Rattle.model.specs.History.{History}
use Rattle.model.specs.Lists.{finding_list, leader_list, unseen_list, unknown_list}
use mathlib.Core.Logic.{⊎_elim}
use Rattle.model.proofs.Tests.{cond_true, cond_false, either}
use Rattle.storage.specs.Rules.{well_formed}
use Rattle.storage.specs.Decode.{decode}
use Rattle.storage.specs.Fresh.{FreshMade, made_number}
use Rattle.storage.specs.declared.fresh.WrongLength.{WrongLength}
use Rattle.storage.proofs.Meanings.{represented, end_is}
use Rattle.lists.specs.Picked.{nth}
use Rattle.storage.specs.Values.{committed_end}
use Rattle.lists.specs.Committed.{owner_in}
use Rattle.storage_rows.specs.declared.findings.Found.{Found}
use Rattle.lists.specs.Findings.{finding_of, finding_answer}
use Rattle.lists.specs.declared.leaders.Leader.{Leader as Printed}
use Rattle.lists.specs.Leaders.{leader_as, leader_answer}
use Rattle.lists.specs.declared.unseen.Unseen.{Unseen as Mark}
use Rattle.lists.specs.Unseen.{told_unseen, unseen_answer}
use Rattle.units.specs.declared.LogIndex.{LogIndex}
use Rattle.lists.specs.Unknown.{index_of, unknown_answer}
use Rattle.lists.proofs.Meaning.{owner_told, findings_told, leaders_told, unseen_told, unknown_told}
use Rattle.history.specs.declared.exports.FindingReply.{FindingReply}
use Rattle.history.specs.declared.exports.LeaderReply.{LeaderReply}
use Rattle.history.specs.declared.exports.UnseenReply.{UnseenReply}
use Rattle.history.specs.declared.exports.UnknownReply.{UnknownReply}
use Rattle.history.specs.declared.exports.CommittedReply.{CommittedReply}
use Rattle.history.specs.Exports.{MadeFresh, no_finding, finding_reply, finding_out, no_leader, leader_reply, leader_out, no_mark, unseen_reply, unseen_out, no_index, unknown_reply, unknown_out, committed_out}

-- the n-th answer, taken for another
nth_as : {A B C : Type 0} (f : A → B) (d : B) (g : B → C) (xs : List A) (n : ℕ) → g (nth f d xs n) ≡ nth (λ x. g (f x)) (g d) xs n
nth_as f d g [] n = refl
nth_as f d g (x ∷ xs) zero = refl
nth_as f d g (x ∷ xs) (suc n) = nth_as f d g xs n

-- `reply`'s answer is `out`, by what it ensures: `post` tells what the closure gives of the history lent to it, which is `answer`, and
-- `said` is the reply for that, `broken` the one where the rules are broken.
abbrev pub Replied : {L A R : Type 0} (h : Bytes) (bytes : L → Bytes) (answer : Option A) (said : Option A → R) (broken out : R)
    → (L → Option A → Type 0) → R → Type 0
Replied {L = L} {A = A} h bytes answer said broken out post r =
    (well_formed h ≡ false → r ≡ broken)
    → (well_formed h ≡ true → (lent : L) × (bytes lent ≡ h) × (x : Option A) × post lent x × IfSome x (λ v. r ≡ said (Some v)) × IfNone x (r ≡ said None))
    → ((lent : L) (x : Option A) → bytes lent ≡ h → post lent x → x ≡ answer)
    → r ≡ out

-- One law for the readers: `list` is the model's.
module _ {X A R : Type 0} (h : Bytes) (n : ℕ) (list : History → List X) (of : X → Option A) (answer : Option A) (said : Option A → R) (broken : R)
    (told : well_formed h ≡ true → answer ≡ nth of None (list (decode h)) n) where
  out : R
  out = cond (well_formed h) (nth (λ x. said (of x)) (said None) (list (decode h)) n) broken

  said_as : (r : R) (x : Option A) → IfSome x (λ v. r ≡ said (Some v)) → IfNone x (r ≡ said None) → r ≡ said x
  said_as r (Some v) e f = e
  said_as r None e f = f

  here : well_formed h ≡ true → said answer ≡ out
  unfolding out
  here w = ap said (told w) ∙ nth_as of None said (list (decode h)) n ∙ sym (cond_true (well_formed h) _ broken w)

  replied : {L : Type 0} (bytes : L → Bytes) (post : L → Option A → Type 0) (r : R) → Replied h bytes answer said broken out post r
  unfolding out
  replied bytes post r b g p =
      ⊎_elim (λ w. let x = g w in said_as r x.2 x.4 x.5 ∙ ap said (p x.0 x.2 x.1 x.3) ∙ here w)
      (λ w. b w ∙ sym (cond_false (well_formed h) _ broken w)) (either (well_formed h))

module _ (h : Bytes) (n : ℕ) {L : Type 0} (bytes : L → Bytes) where
  pub finding_here : (post : L → Option Found → Type 0) (r : FindingReply) → Replied h bytes (finding_answer h n) finding_reply (no_finding 12) (finding_out h n) post r
  unfolding out
  finding_here = replied h n finding_list finding_of (finding_answer h n) finding_reply (no_finding 12) (λ w. findings_told h (decode h) n (represented h w)) bytes

  pub leader_here : (post : L → Option Printed → Type 0) (r : LeaderReply) → Replied h bytes (leader_answer h n) leader_reply (no_leader 12) (leader_out h n) post r
  unfolding out
  leader_here = replied h n leader_list leader_as (leader_answer h n) leader_reply (no_leader 12) (λ w. leaders_told h (decode h) n (represented h w)) bytes

  pub mark_here : (post : L → Option Mark → Type 0) (r : UnseenReply) → Replied h bytes (unseen_answer h n) unseen_reply (no_mark 12) (unseen_out h n) post r
  unfolding out
  mark_here = replied h n unseen_list told_unseen (unseen_answer h n) unseen_reply (no_mark 12) (λ w. unseen_told h (decode h) n (represented h w)) bytes

  pub index_here : (post : L → Option LogIndex → Type 0) (r : UnknownReply) → Replied h bytes (unknown_answer h n) unknown_reply (no_index 12) (unknown_out h n) post r
  unfolding out
  index_here = replied h n unknown_list index_of (unknown_answer h n) unknown_reply (no_index 12) (λ w. unknown_told h (decode h) n (represented h w)) bytes

-- the committed prefix, of the bytes lent
pub committed_here : (b h : Bytes) (l o : ℕ) → b ≡ h → well_formed b ≡ true → l ≡ committed_end b → o ≡ owner_in b
    → ◌≡◌ {A = CommittedReply} (record { state = 0; length = l; owner = o }) (committed_out h)
committed_here b h l o e w el eo =
    (λ i. record { state = 0; length = (el ∙ end_is b (decode b) (represented b w)) i; owner = (eo ∙ owner_told b (decode b) (represented b w)) i })
    ∙ sym (cond_true (well_formed b) _ _ w) ∙ ap committed_out e

pub committed_broken : (h : Bytes) → well_formed h ≡ false
    → ◌≡◌ {A = CommittedReply} (record { state = 12; length = 0; owner = 0 }) (committed_out h)
committed_broken h w = sym (cond_false (well_formed h) _ _ w)

-- a fresh history, by the number of the answer
pub made_fresh : (h h' : Bytes) → FreshMade h (Ok tt) h' → MadeFresh h 0 h'
made_fresh h h' m = record { answer = ap made_number m.answers; bytes = m.leaves }

pub made_broken : (h h' : Bytes) (w : WrongLength) → FreshMade h (Err w) h' → MadeFresh h 12 h'
made_broken h h' w m = record { answer = ap made_number m.answers; bytes = m.leaves }
