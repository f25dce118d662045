-- Commit terms in any order, about what `history` exports: the list that the bytes hold is the model's.
-- Assumes nothing.
use mathlib.Core.Path.{◌≡◌, sym, ◌∙◌, subst}
use mathlib.Core.Logic.{◌↔◌, ⊎_elim}
use mathlib.Core.List.Memᴰ
use mathlib.Core.List.{List, ◌∷◌, ◌++◌, Memᴰ}
use Rattle.model.specs.Sizes.{Bytes}
use Rattle.model.specs.Answer.{is_accepted, answer}
use Rattle.model.specs.Run.{history_of}
use Rattle.model.specs.TermOrder.{accepted_terms, TermsBy}
use Rattle.model.specs.TermOrder as model
use Rattle.model.proofs.TermOrder as order
use Rattle.storage.proofs.Meanings.{terms_stored}
use Rattle.promises.specs.Run.{bytes_of, accepts, TermsAccepted}
use Rattle.promises.specs.Demands.{recorded_terms, TermsGiven, TermsInAnyOrder, TermsSentInAnyOrder, TermsSwapped, TermsRepeated}
use Rattle.promises.proofs.Machine.{accepts_alike}
use Rattle.promises.proofs.Demands.{represents}

-- the list in the bytes is the model's
pub terms_alike : (ss : List Bytes) → recorded_terms (bytes_of ss) ≡ (history_of ss).terms
terms_alike ss = terms_stored (bytes_of ss) (history_of ss) (represents ss)

pub terms_given : TermsGiven
terms_given ss = subst (TermsBy (accepted_terms ss)) (sym (terms_alike ss)) (order.terms_given ss)

pub terms_in_any_order : TermsInAnyOrder
terms_in_any_order ss us f = terms_alike ss ∙ order.terms_in_any_order ss us f ∙ sym (terms_alike us)

-- what the bytes accept the model accepts, and the other way round
pub accepted_alike : (ss : List Bytes) → TermsAccepted ss ↔ model.TermsAccepted ss
accepted_alike ss = (
  λ a before s later e t. sym (same before s) ∙ a before s later e t,
  λ a before s later e t. same before s ∙ a before s later e t,
)
  where
    same : (before : List Bytes) (s : Bytes) → accepts (bytes_of before) s ≡ is_accepted (answer (history_of before) s)
    same before s = accepts_alike (bytes_of before) (history_of before) (represents before) s

pub terms_sent_in_any_order : TermsSentInAnyOrder
terms_sent_in_any_order ss us f a b =
    terms_in_any_order ss us (order.sent_are_accepted ss us f ((accepted_alike ss).0 a) ((accepted_alike us).0 b))

-- a swap keeps what is in the list
module _ (xs : List Bytes) (a : Bytes) (ys : List Bytes) (b : Bytes) (zs : List Bytes) (s : Bytes) where
  swapped : Memᴰ s (xs ++ (a ∷ (ys ++ (b ∷ zs)))) → Memᴰ s (xs ++ (b ∷ (ys ++ (a ∷ zs))))
  swapped m =
      ⊎_elim (λ k. Memᴰ.append_left _ k)
      (λ k. Memᴰ.append_right xs (⊎_elim (λ e. Memᴰ.tail (Memᴰ.append_right ys (Memᴰ.head e))) between (Memᴰ.cases_cons k)))
      (Memᴰ.append_cases xs m)
    where
      last : Memᴰ s (b ∷ zs) → Memᴰ s (b ∷ (ys ++ (a ∷ zs)))
      last k = ⊎_elim (λ e. Memᴰ.head e) (λ j. Memᴰ.tail (Memᴰ.append_right ys (Memᴰ.tail j))) (Memᴰ.cases_cons k)

      between : Memᴰ s (ys ++ (b ∷ zs)) → Memᴰ s (b ∷ (ys ++ (a ∷ zs)))
      between k = ⊎_elim (λ j. Memᴰ.tail (Memᴰ.append_left _ j)) last (Memᴰ.append_cases ys k)

pub terms_swapped : TermsSwapped
terms_swapped xs a ys b zs p q =
    terms_sent_in_any_order (xs ++ (a ∷ (ys ++ (b ∷ zs)))) (xs ++ (b ∷ (ys ++ (a ∷ zs))))
    (λ s _. (swapped xs a ys b zs s, swapped xs b ys a zs s)) p q

-- so does putting in once more one that is there
module _ (xs : List Bytes) (a : Bytes) (ys : List Bytes) (s : Bytes) where
  put_in : Memᴰ s (xs ++ ys) → Memᴰ s (xs ++ (a ∷ ys))
  put_in m = ⊎_elim (λ k. Memᴰ.append_left _ k) (λ k. Memᴰ.append_right xs (Memᴰ.tail k)) (Memᴰ.append_cases xs m)

  taken_out : Memᴰ a (xs ++ ys) → Memᴰ s (xs ++ (a ∷ ys)) → Memᴰ s (xs ++ ys)
  taken_out t m =
      ⊎_elim (λ k. Memᴰ.append_left ys k)
      (λ k. ⊎_elim (λ e. Memᴰ.cast e t) (λ j. Memᴰ.append_right xs j) (Memᴰ.cases_cons k))
      (Memᴰ.append_cases xs m)

pub terms_repeated : TermsRepeated
terms_repeated xs a ys t p q =
    terms_sent_in_any_order (xs ++ ys) (xs ++ (a ∷ ys)) (λ s _. (put_in xs a ys s, taken_out xs a ys s t)) p q
