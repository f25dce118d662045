-- An election on bytes that stand for a history, in the model's words: the certificates held, the refusals, and the certificate that
-- is kept.
-- Assumes nothing.
use Prim.Native.Nat.{ℕ, suc, ◌+◌, ◌≤◌, ◌<◌}
use native.Mathlib.Omega.{arith}
use mathlib.Core.Path.{◌≡◌, refl, ap, sym, ◌∙◌, subst}
use mathlib.Core.Bool.{Bool, true, false, cond}
use mathlib.Core.List.{List, [], ◌∷◌}
use mathlib.Core.Option.{none, some}
use lib.Dec.{leb, ltb, eqb}
use lib.ListN.{length, take, length-map}
use Rattle.model.specs.Sizes.{Bytes, node_count, certificate_limit, term_end}
use borrow.Author.Tests.{lt-ltb, le-ltb}
use Rattle.model.specs.Entry.{Prefix}
use Rattle.model.specs.Refusal.{lengthExceedsFront, certificatesFull}
use Rattle.model.specs.History.{Certificate, History, front_of, with_certificates}
use Rattle.model.specs.Election as model
use Rattle.model.specs.Election.{held, in_order, election_refusal, certificate, election_effect}
use Rattle.model.proofs.Tests.{cond_true, cond_false}
use Rattle.storage.specs.Values.{certificates_of}
use Rattle.storage.specs.Tables.{CertificateRow, certificate_row, certificates_part}
use Rattle.storage.specs.Decode.{prefix_at, log_in, certificate_in}
use Rattle.storage.specs.Order.{place_of, held_of}
use Rattle.storage.specs.Rules.{numbered}
use Rattle.storage.specs.Writes.{CertificateFits, certificate_added}
use Rattle.storage.specs.Head.{prefixes_held, certificates_held}
use Rattle.storage_bytes.proofs.ListLaws.{tabulate_length}
use Rattle.storage.proofs.DecodeLaws.{CertificateNamed}
use Rattle.storage.proofs.WellFormed.{certificates_are, formed}
use Rattle.storage.proofs.Meanings as meanings
use Rattle.storage.proofs.Meanings.{Represents, certificates_stored}
use Rattle.storage.proofs.OrderLaws.{held_is, election_written}
use Rattle.election.specs.Numbering.{numbering_in}
use Rattle.election.proofs.Ordered.{numbering_is}
use Rattle.election.specs.Certify.{full_in, kept}

-- ---- rows

-- no more are of a term than there are
held_within : (t : ℕ) (cs : List CertificateRow) → held_of t cs ≤ length cs
unfolding held_of
held_within t [] = omega arith
held_within t (c ∷ cs) = go (eqb c.term t) (held_within t cs)
  where
    go : (b : Bool) → held_of t cs ≤ length cs → held_of t cs + cond {A = ℕ} b 1 0 ≤ suc (length cs)
    go true e = omega arith
    go false e = omega arith

-- a row's log is the model's
log_is : (ps : List Prefix) (l t m : ℕ) (p : Bool) (q n : ℕ) (f : Prefix) → prefix_at ps q ≡ take n f
    → log_in ps (kept l t m p q) ≡ model.log_of p n f
log_is ps l t m true q n f e = ap some e
log_is ps l t m false q n f e = refl

-- ---- bytes that stand for a history

module _ (h : Bytes) (x : History) (s : Represents h x) where
  abbrev pub cs : List CertificateRow
  cs = certificates_of h

  -- the place and the number of a new certificate, among all that are held
  abbrev pub place : ℕ → ℕ
  place t = place_of t cs

  abbrev pub number : ℕ → ℕ
  number t = held_of t cs

  count_is : certificates_held h ≡ length x.certificates
  count_is =
      sym (tabulate_length (certificate_row (certificates_part h)) 0 (certificates_held h))
      ∙ sym (length-map cs (certificate_in x.prefixes))
      ∙ ap length (certificates_stored h x s)

  held_same : (t : ℕ) → number t ≡ held t x.certificates
  held_same t = sym (held_is x.prefixes t cs) ∙ ap (held t) (certificates_stored h x s)

  numbered_here : numbered cs ≡ true
  numbered_here = subst (λ (rs : List CertificateRow). numbered rs ≡ true) (certificates_are h) (meanings.kept h x s).numbered

  -- the certificates are in order, so the searches find these
  pub numbering_same : (t : ℕ) → numbering_in h t ≡ record { place = place t; number = number t }
  numbering_same t =
      numbering_is (certificate_row (certificates_part h)) t (certificates_held h) numbered_here

  -- ---- the refusals

  module _ (l n : ℕ) where
    pub model_beyond : length (front_of x l) < n → election_refusal x l n ≡ some lengthExceedsFront
    unfolding election_refusal
    model_beyond b = cond_true (ltb (length (front_of x l)) n) _ _ (lt-ltb (length (front_of x l)) n b)

    pub model_within : n ≤ length (front_of x l) → (a : Bool) → full_in h ≡ a → election_refusal x l n ≡ cond a (some certificatesFull) none
    unfolding election_refusal
    model_within w a f =
        let many = ap (leb certificate_limit) (sym count_is) ∙ f in
        cond_false (ltb (length (front_of x l)) n) _ _ (le-ltb (length (front_of x l)) n w)
        ∙ (λ i. cond (many i) (some certificatesFull) none)

  -- ---- the certificate

  -- the leader's front through n is the stored prefix q, and there is room
  module _ (l t : ℕ) (p : Bool) (n : ℕ) (leads : l < node_count) (fits : t < term_end)
      (q : ℕ) (stored : q ≤ prefixes_held h) (log : prefix_at x.prefixes q ≡ take n (front_of x l)) (room : certificates_held h < certificate_limit) where
    abbrev new : CertificateRow
    new = kept l t (number t) p q

    flag_small : (b : Bool) → cond {A = ℕ} b 1 0 ≤ 1
    flag_small true = omega arith
    flag_small false = omega arith

    log_stored : (b : Bool) → cond b q 0 ≤ prefixes_held h
    log_stored true = stored
    log_stored false = omega arith

    new_fits : CertificateFits new
    new_fits =
        let a = held_within t cs in
        let c = tabulate_length (certificate_row (certificates_part h)) 0 (certificates_held h) in
        let r = (formed h s.right).prefixes in
        record {
          term = fits;
          log = omega (arith, log_stored p);
          mark = omega arith;
          leader = omega arith;
          number = omega arith;
          present = omega (arith, flag_small p);
        }

    new_named : CertificateNamed (prefixes_held h) new
    new_named = record { log = log_stored p; mark = omega arith; leader = omega arith; term = omega arith; present = flag_small p }

    certificate_is : certificate_in x.prefixes new ≡ certificate x l t p n
    unfolding certificate
    certificate_is =
        let m = held_same t in
        let g = log_is x.prefixes l t (number t) p q n (front_of x l) log in
        λ i. record { leader = l; term = t; number = m i; log = g i; mark = 0 }

    effect_is : with_certificates x (in_order (certificate_in x.prefixes new) x.certificates) ≡ election_effect x l t p n
    unfolding election_effect
    effect_is = ap (λ (c : Certificate). with_certificates x (in_order c x.certificates)) certificate_is

    pub kept_stands : Represents (certificate_added h (place t) new) (election_effect x l t p n)
    kept_stands =
        let e = certificates_are h in
        let w = election_written h x s new room new_fits new_named (ap (held_of t) (sym e)) in
        subst (λ (y : History). Represents (certificate_added h (place t) new) y) effect_is
        (subst (λ (rs : List CertificateRow). Represents (certificate_added h (place_of t rs) new) (with_certificates x (in_order (certificate_in x.prefixes new) x.certificates))) e w)
