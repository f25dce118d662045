-- Laws of the storage rules: an index by a number, tests in a row, the limits, numbering.
-- Assumes nothing.
use Prim.Native.Nat.{ℕ, zero, suc, ◌+◌, ◌-◌, ◌≤◌}
use native.Mathlib.Nat.{zero-add}
use native.Mathlib.Omega.{arith}
use mathlib.Core.Path.{◌≡◌, refl, ap, sym, ◌∙◌}
use mathlib.Core.Bool.{Bool, true, false, cond, not, ◌&&◌, ◌||◌}
use mathlib.Core.List.{List, [], ◌∷◌, ◌++◌}
use lib.Dec.{leb, ltb, eqb}
use lib.ListN.{get_or, set, get_or-map}
use borrow.Author.Tests.{leb-true, eqb-true, eq-eqb, ne_eqb, not-true}
use Rattle.model.specs.Sizes.{Bytes, index_limit, prefix_limit, certificate_limit, finding_limit, leader_log_limit}
use Rattle.model.proofs.Tests.{test_ext, or_false_left, or_false_right}
use Rattle.storage_bytes.specs.Lists.{some}
use Rattle.storage.specs.Tables.{PrefixRow, CertificateRow, LeaderLogRow, prefix_row, rows_of_prefixes}
use Rattle.storage.specs.Rules.{follows, numbered_after, numbered, is_pair, has_pair, kept_once, index_among, within_limits}
use Rattle.storage.specs.Values.{number_index}
use Rattle.storage_bytes.proofs.ListLaws.{both, tabulate_at}

-- ---- an index by a number

-- the index of a number among the rows before row k
pub index_among_lem : (t : Bytes) (k p : ℕ) → p ≤ k → index_among (rows_of_prefixes t k) p ≡ number_index t p
unfolding number_index
index_among_lem t k zero h = refl
index_among_lem t k (suc p) h =
    let e : suc p - 1 ≡ p = omega arith in
    get_or-map (λ (r : PrefixRow). r.index) (rows_of_prefixes t k) p none
    ∙ ap (λ (r : PrefixRow). r.index) (tabulate_at (prefix_row t) 0 k p none h ∙ ap (prefix_row t) (zero-add p))
    ∙ sym (ap (λ (b : Bool). cond b 0 (prefix_row t (suc p - 1)).index) (ne_eqb (suc p) 0 (λ q. omega arith))
    ∙ ap (λ (q : ℕ). (prefix_row t q).index) e)
  where
    none : PrefixRow
    none = record { parent = 0; index = 0; term = 0; mark = 0; size = 0; content = [] }

-- ---- tests in a row, and the limits

-- a test that failed decides, one that passed hands on
pub stop : {a : Bool} (b : Bool) → a ≡ false → (a && b) ≡ false
stop b e = ap (λ (v : Bool). v && b) e

pub pass : {a : Bool} (b : Bool) → a ≡ true → (a && b) ≡ b
pass b e = ap (λ (v : Bool). v && b) e

-- tests in a row, the last one apart; and such a row with one test changed
abbrev pub all_of : List Bool → Bool → Bool
all_of [] last = last
all_of (b ∷ bs) last = b && all_of bs last

pub all_set : (bs : List Bool) (last : Bool) (k : ℕ) (b : Bool) → all_of bs last ≡ true → b ≡ true → all_of (set bs k b) last ≡ true
all_set [] last k b e q = e
all_set (a ∷ bs) last zero b e q = pass (all_of bs last) q ∙ (both a (all_of bs last) e).1
all_set (a ∷ bs) last (suc k) b e q =
    let h = both a (all_of bs last) e in
    pass (all_of (set bs k b) last) h.0 ∙ all_set bs last k b h.1 q

pub all_last : (bs : List Bool) (last b : Bool) → all_of bs last ≡ true → b ≡ true → all_of bs b ≡ true
all_last [] last b e q = q
all_last (a ∷ bs) last b e q =
    let h = both a (all_of bs last) e in
    pass (all_of bs b) h.0 ∙ all_last bs last b h.1 q

pub record Limited (ps ts cs fs ls : ℕ) : Type 0 where
  pub prefixes : ps ≤ prefix_limit
  pub terms : ts ≤ index_limit
  pub certificates : cs ≤ certificate_limit
  pub findings : fs ≤ finding_limit
  pub leader_logs : ls ≤ leader_log_limit

pub within : (ps ts cs fs ls : ℕ) → within_limits ps ts cs fs ls ≡ true → Limited ps ts cs fs ls
unfolding within_limits
within ps ts cs fs ls e =
    let a = both (leb ps prefix_limit) _ e in
    let b = both (leb ts index_limit) _ a.1 in
    let d = both (leb cs certificate_limit) _ b.1 in
    let f = both (leb fs finding_limit) _ d.1 in
    record {
      prefixes = leb-true ps prefix_limit a.0;
      terms = leb-true ts index_limit b.0;
      certificates = leb-true cs certificate_limit d.0;
      findings = leb-true fs finding_limit f.0;
      leader_logs = leb-true ls leader_log_limit f.1;
    }

-- ---- numbering looks at terms and numbers only

abbrev pub SameKey : CertificateRow → CertificateRow → Type 0
SameKey c d = (c.term ≡ d.term) × (c.number ≡ d.number)

follows_same : (c c' d d' : CertificateRow) → SameKey c c' → SameKey d d' → follows c d ≡ follows c' d'
unfolding follows
follows_same c c' d d' p q =
    λ i. cond (eqb (q.0 i) (p.0 i)) (eqb (q.1 i) (p.1 i + 1)) (ltb (p.0 i) (q.0 i) && eqb (q.1 i) 0)

after_same : (c c' : CertificateRow) (ds : List CertificateRow) → SameKey c c' → numbered_after c ds ≡ numbered_after c' ds
unfolding numbered_after
after_same c c' [] p = refl
after_same c c' (d ∷ ds) p = ap (λ (b : Bool). b && numbered_after d ds) (follows_same c c' d d p (refl, refl))

after_set : (c : CertificateRow) (ds : List CertificateRow) (k : ℕ) (x z : CertificateRow) → SameKey x (get_or ds k z)
    → numbered_after c (set ds k x) ≡ numbered_after c ds
unfolding numbered_after
after_set c [] k x z p = refl
after_set c (d ∷ ds) zero x z p = (λ i. follows_same c c x d (refl, refl) p i && after_same x d ds p i)
after_set c (d ∷ ds) (suc k) x z p = ap (λ (b : Bool). follows c d && b) (after_set d ds k x z p)

-- a row set to one of the same term and number
pub numbered_set : (cs : List CertificateRow) (k : ℕ) (x z : CertificateRow) → SameKey x (get_or cs k z) → numbered (set cs k x) ≡ numbered cs
unfolding numbered
numbered_set [] k x z p = refl
numbered_set (c ∷ cs) zero x z p = (λ i. eqb (p.1 i) 0 && after_same x c cs p i)
numbered_set (c ∷ cs) (suc k) x z p = ap (λ (b : Bool). eqb c.number 0 && b) (after_set c cs k x z p)

-- ---- kept once looks at pairs only

abbrev pub SamePair : LeaderLogRow → LeaderLogRow → Type 0
SamePair x y = (x.node ≡ y.node) × (x.term ≡ y.term)

-- a row set to one of the same pair
has_pair_set : (n t : ℕ) (ls : List LeaderLogRow) (k : ℕ) (x z : LeaderLogRow) → SamePair x (get_or ls k z) → has_pair n t (set ls k x) ≡ has_pair n t ls
unfolding some is_pair
has_pair_set n t [] k x z p = refl
has_pair_set n t (l ∷ ls) zero x z p = λ i. (eqb (p.0 i) n && eqb (p.1 i) t) || has_pair n t ls
has_pair_set n t (l ∷ ls) (suc k) x z p = ap (λ (b : Bool). is_pair n t l || b) (has_pair_set n t ls k x z p)

pub kept_once_set : (ls : List LeaderLogRow) (k : ℕ) (x z : LeaderLogRow) → SamePair x (get_or ls k z) → kept_once (set ls k x) ≡ kept_once ls
unfolding kept_once
kept_once_set [] k x z p = refl
kept_once_set (l ∷ ls) zero x z p = λ i. not (has_pair (p.0 i) (p.1 i) ls) && kept_once ls
kept_once_set (l ∷ ls) (suc k) x z p =
    λ i. not (has_pair_set l.node l.term ls k x z p i) && kept_once_set ls k x z p i

-- one more row, of a pair that none of the others has
other_pair : (l x : LeaderLogRow) → is_pair x.node x.term l ≡ false → is_pair l.node l.term x ≡ false
unfolding is_pair
other_pair l x e = (λ i. turned x.node l.node i && turned x.term l.term i) ∙ e
  where
    turned : (a b : ℕ) → eqb a b ≡ eqb b a
    turned a b = test_ext _ _ (λ q. eq-eqb b a (sym (eqb-true a b q))) (λ q. eq-eqb a b (sym (eqb-true b a q)))

has_pair_snoc : (n t : ℕ) (ls : List LeaderLogRow) (x : LeaderLogRow) → has_pair n t ls ≡ false → is_pair n t x ≡ false → has_pair n t (ls ++ (x ∷ [])) ≡ false
unfolding some
has_pair_snoc n t [] x h e = ap (λ (b : Bool). b || false) e
has_pair_snoc n t (l ∷ ls) x h e =
    ap (λ (b : Bool). b || has_pair n t (ls ++ (x ∷ []))) (or_false_left _ _ h) ∙ has_pair_snoc n t ls x (or_false_right (is_pair n t l) _ h) e

pub kept_once_snoc : (ls : List LeaderLogRow) (x : LeaderLogRow) → has_pair x.node x.term ls ≡ false → kept_once ls ≡ true → kept_once (ls ++ (x ∷ [])) ≡ true
unfolding kept_once some
kept_once_snoc [] x h e = refl
kept_once_snoc (l ∷ ls) x h e =
    let r = both (not (has_pair l.node l.term ls)) (kept_once ls) e in
    ap (λ (b : Bool). not b && kept_once (ls ++ (x ∷ [])))
    (has_pair_snoc l.node l.term ls x (not-true _ r.0) (other_pair l x (or_false_left _ _ h)))
    ∙ kept_once_snoc ls x (or_false_right (is_pair x.node x.term l) _ h) r.1
