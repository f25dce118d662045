-- Laws of the closing lists: the lines of a list, one after another, and the parts of the closing.
-- Assumes nothing.
use Prim.Native.Nat.{ℕ, zero, suc, ◌+◌, ◌*◌, ◌≤◌, ◌<◌}
use native.Mathlib.Nat.{mul-le-mul_right}
use native.Mathlib.Numerals.{add-one}
use native.Mathlib.Omega.{arith}
use mathlib.Core.Path.{◌≡◌, refl, ap, sym, ◌∙◌}
use mathlib.Core.Bool.{true, false}
use mathlib.Core.List.{List, [], ◌∷◌, ◌++◌, append_assoc, append-nil, map}
use lib.ListN.{length, take, length-map}
use lib.Seq.{take_all}
use Rattle.std.specs.Prelude.{Option, Some, None, slice_get}
use Rattle.std.specs.Option.{option_map}
use Rattle.std.proofs.lemmas.Option.{none-some, same_Some}
use Rattle.model.specs.Sizes.{Bytes}
use Rattle.model.specs.Lists.{finding_list, leader_list, unseen_list, unknown_list}
use Rattle.model.proofs.Tests.{cond_true, cond_false}
use Rattle.storage.specs.Rules.{well_formed}
use Rattle.storage.specs.Decode.{decode}
use Rattle.storage.specs.Values.{committed_end}
use Rattle.storage.proofs.Meanings.{end_is, represented}
use Rattle.lists.specs.Committed.{owner_in}
use Rattle.lists.proofs.Meaning.{owner_told, findings_told, leaders_told, unseen_told, unknown_told}
use Rattle.lists.specs.Picked.{nth}
use Rattle.storage_rows.specs.declared.findings.Found.{Found}
use Rattle.lists.specs.Findings.{finding_answer}
use Rattle.lists.specs.declared.leaders.Leader.{Leader as Printed}
use Rattle.lists.specs.Leaders.{leader_answer}
use Rattle.lists.specs.declared.unseen.Unseen.{Unseen as Mark}
use Rattle.lists.specs.Unseen.{unseen_answer}
use Rattle.units.specs.declared.LogIndex.{LogIndex}
use Rattle.lists.specs.Unknown.{unknown_answer}
use Rattle.sheet_lines.specs.Filled.{Filled}
use Rattle.sheet_lines.specs.declared.decimal.Sheet.{Sheet}
use Rattle.sheet_lines.specs.Lines.{finding_line, leader_line, unseen_line, unknown_line, committed_line, committed_room}
use Rattle.sheet_text.specs.Closing.{lines_of, joined, of_finding, of_leader, of_unseen, closing, closing_of, longest_list, closing_room}
use Rattle.sheet_text.proofs.ListBounds.{findings_bound, leaders_bound, unseen_bound, unknown_bound}
use Rattle.sheet_lines.proofs.PutLaws.{filled_none, filled_then, filled_as}

-- ---- the lists

joined_map : {A : Type 0} (line : A → Bytes) (xs : List A) → joined (map line xs) ≡ lines_of line xs
unfolding lines_of
joined_map line [] = refl
joined_map line (x ∷ xs) = ap (λ (l : Bytes). line x ++ l) (joined_map line xs)

-- the five parts of the closing, put one after another
pub closed_right : (b h : Bytes) (s p q r u s' : Sheet) → b ≡ h → well_formed b ≡ true
    → Filled 22528 s (joined (map of_finding (finding_list (decode b)))) p
    → Filled 12544 p (joined (map of_leader (leader_list (decode b)))) q
    → Filled 12544 q (joined (map of_unseen (unseen_list (decode b)))) r
    → Filled 7424 r (joined (map unknown_line (unknown_list (decode b)))) u
    → (n o : ℕ) → n ≡ committed_end b → o ≡ owner_in b → Filled committed_room u (committed_line n o) s' → Filled closing_room s (closing_of h) s'
unfolding closing
closed_right b h s p q r u s' e w fp fq fr fu n o en eo fc =
    let x = decode b in
    let st = represented b w in
    filled_as (filled_then (filled_then (filled_then (filled_then fp fq) fr) fu) fc) _
    ((λ i.
    joined_map of_finding (finding_list x) i ++ joined_map of_leader (leader_list x) i ++ joined_map of_unseen (unseen_list x) i
    ++ joined_map unknown_line (unknown_list x) i ++ committed_line ((en ∙ end_is b x st) i) ((eo ∙ owner_told b x st) i))
    ∙ sym (cond_true (well_formed b) _ [] w) ∙ ap closing_of e)
    (omega arith)

pub closed_broken : (h : Bytes) (s : Sheet) → well_formed h ≡ false → Filled closing_room s (closing_of h) s
closed_broken h s w = filled_as (filled_none s) _ (sym (cond_false (well_formed h) (closing (decode h)) [] w)) (omega arith)

-- ---- the lines of a list

-- the first k lines are put
abbrev pub Filled_to : ℕ → List Bytes → Sheet → ℕ → Sheet → Type 0
Filled_to w ls s k s' = Filled (k * w) s (joined (take k ls)) s'

lines_more : (ls : List Bytes) (k : ℕ) (v : Bytes) → Some v ≡ slice_get ls k → joined (take (suc k) ls) ≡ joined (take k ls) ++ v
unfolding lines_of
lines_more [] k v e = absurd (none-some v (sym e))
lines_more (x ∷ ls) zero v e = append-nil x ∙ sym (same_Some v x e)
lines_more (x ∷ ls) (suc k) v e = ap (λ (l : Bytes). x ++ l) (lines_more ls k v e) ∙ sym (append_assoc x _ _)

past_last : (ls : List Bytes) (k : ℕ) → None ≡ slice_get ls k → length ls ≤ k
past_last [] k e = omega arith
past_last (x ∷ ls) zero e = absurd (none-some x e)
past_last (x ∷ ls) (suc k) e = let l = past_last ls k e in omega arith

module _ (w : ℕ) (ls : List Bytes) (s : Sheet) where
  pub put_none : Filled_to w ls s 0 s
  unfolding lines_of
  put_none = filled_as (filled_none s) _ refl (omega arith)

  pub put_next : (k : ℕ) (a b : Sheet) (v : Bytes) → Filled_to w ls s k a → Some v ≡ slice_get ls k → Filled w a v b → Filled_to w ls s (k + 1) b
  put_next k a b v p q n =
      filled_as (filled_then p n) _ (sym (lines_more ls k v q) ∙ ap (λ (j : ℕ). joined (take j ls)) (sym (add-one k))) (omega arith)

  -- a line more has room
  pub put_room : (k : ℕ) (a : Sheet) → Filled_to w ls s k a → k < longest_list → s.end + longest_list * w ≤ length s.out.now → a.end + w ≤ length a.out.now
  put_room k a p l h =
      let m : (k + 1) * w ≤ longest_list * w = mul-le-mul_right w (let q : k + 1 ≤ longest_list = omega arith in q) in
      omega (arith, p.put.next, p.put.within, p.kept, m)

  pub put_all : (k : ℕ) (a : Sheet) → Filled_to w ls s k a → k ≤ longest_list → length ls ≤ k → Filled (longest_list * w) s (joined ls) a
  put_all k a p l h = filled_as p _ (ap joined (take_all k ls h)) (mul-le-mul_right w l)

  pub put_end : (k : ℕ) (a : Sheet) → Filled_to w ls s k a → k ≤ longest_list → None ≡ slice_get ls k → Filled (longest_list * w) s (joined ls) a
  put_end k a p l e = put_all k a p l (past_last ls k e)

-- the line of the n-th element is the n-th line
nth_line : {A B : Type 0} (of : A → B) (line : B → Bytes) (xs : List A) (n : ℕ)
    → option_map line (nth (λ x. Some (of x)) None xs n) ≡ slice_get (map (λ x. line (of x)) xs) n
nth_line of line [] n = refl
nth_line of line (x ∷ xs) zero = refl
nth_line of line (x ∷ xs) (suc n) = nth_line of line xs n

pub finding_nth : (h : Bytes) (n : ℕ) → well_formed h ≡ true → {r : Option Found} → r ≡ finding_answer h n
    → option_map (λ f. finding_line f.name f.node.0 f.index.0 f.term.0) r ≡ slice_get (map of_finding (finding_list (decode h))) n
finding_nth h n w e = ap (option_map _) (e ∙ findings_told h (decode h) n (represented h w)) ∙ nth_line _ _ (finding_list (decode h)) n

pub leader_nth : (h : Bytes) (n : ℕ) → well_formed h ≡ true → {r : Option Printed} → r ≡ leader_answer h n
    → option_map (λ l. leader_line l.term.0 l.leader.0) r ≡ slice_get (map of_leader (leader_list (decode h))) n
leader_nth h n w e = ap (option_map _) (e ∙ leaders_told h (decode h) n (represented h w)) ∙ nth_line _ _ (leader_list (decode h)) n

pub unseen_nth : (h : Bytes) (n : ℕ) → well_formed h ≡ true → {r : Option Mark} → r ≡ unseen_answer h n
    → option_map (λ u. unseen_line u.node.0 u.index.0) r ≡ slice_get (map of_unseen (unseen_list (decode h))) n
unseen_nth h n w e = ap (option_map _) (e ∙ unseen_told h (decode h) n (represented h w)) ∙ nth_line _ _ (unseen_list (decode h)) n

pub unknown_nth : (h : Bytes) (n : ℕ) → well_formed h ≡ true → {r : Option LogIndex} → r ≡ unknown_answer h n
    → option_map (λ i. unknown_line i.0) r ≡ slice_get (map unknown_line (unknown_list (decode h))) n
unknown_nth h n w e = ap (option_map _) (e ∙ unknown_told h (decode h) n (represented h w)) ∙ nth_line _ _ (unknown_list (decode h)) n

pub findings_short : (h : Bytes) → well_formed h ≡ true → length (map of_finding (finding_list (decode h))) ≤ longest_list
findings_short h w = let b = findings_bound h w in omega (arith, length-map (finding_list (decode h)) of_finding)

pub leaders_short : (h : Bytes) → well_formed h ≡ true → length (map of_leader (leader_list (decode h))) ≤ longest_list
leaders_short h w = let b = leaders_bound h w in omega (arith, length-map (leader_list (decode h)) of_leader)

pub unseen_short : (h : Bytes) → well_formed h ≡ true → length (map of_unseen (unseen_list (decode h))) ≤ longest_list
unseen_short h w = let b = unseen_bound h w in omega (arith, length-map (unseen_list (decode h)) of_unseen)

pub unknown_short : (h : Bytes) → well_formed h ≡ true → length (map unknown_line (unknown_list (decode h))) ≤ longest_list
unknown_short h w = let b = unknown_bound h w in omega (arith, length-map (unknown_list (decode h)) unknown_line)
