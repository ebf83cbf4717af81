-- The lanes that leave a node, link by link.
use Rattle.std.proofs.Common.{◌≡◌, ℕ, zero, suc, ◌+◌, ◌<◌, ◌≤◌, ◌&&◌, Bool, true, false, cond, [], ◌∷◌, ◌++◌, map, Option, Some, None, add-one, refl, sym, ap, ◌∙◌, inl, inr, arith, nat_lt, filter}
use Rattle.std.proofs.lemmas.Bool.{cases_lt, lt-ltb}
use Rattle.std.proofs.lemmas.Bool.Decides.{nat_tests}
use Rattle.std.proofs.lemmas.List.{append-nil, map-append}
use Rattle.std.proofs.lemmas.List.Elements.{filter-append}
use Rattle.std.specs.Prelude.{option_to_list, if◌then◌else◌}
use Rattle.net_model.specs.Site.{count_up}

-- Two tests that agree on the numbers below n select the same numbers.
same_below : (p q : ℕ → Bool) (n : ℕ) → ((x : ℕ) → x < n → q x ≡ p x) → filter q (count_up n) ≡ filter p (count_up n)
same_below p q zero same = refl
same_below p q (suc n) same =
    filter-append q (count_up n) (n ∷ [])
    ∙ ap (λ zs. zs ++ filter q (n ∷ [])) (same_below p q n (λ x below. same x (omega (arith, below))))
    ∙ ap (λ b. filter p (count_up n) ++ cond b (n ∷ []) []) (same n (omega arith))
    ∙ sym (filter-append p (count_up n) (n ∷ []))

-- Past the last link there are no more links.
pub counted_up : (p : ℕ → Bool) (links n : ℕ) → links ≤ n → filter (λ x. nat_lt x links && p x) (count_up n) ≡ filter p (count_up links)
counted_up p links zero h = ap (λ k. filter p (count_up k)) none
  where
    none : zero ≡ links
    none = omega (arith, h)
counted_up p links (suc n) h =
    elim (cases_lt n links) [
      | inl last ↦
          let all : suc n ≡ links = omega (arith, h, last) in
          same_below p (λ x. nat_lt x links && p x) (suc n) (λ x below. ap (λ b. b && p x) (lt-ltb x links (omega (arith, below, last))))
          ∙ ap (λ k. filter p (count_up k)) all
      | inr past ↦
          filter-append (λ x. nat_lt x links && p x) (count_up n) (n ∷ [])
          ∙ ap (λ b. filter (λ x. nat_lt x links && p x) (count_up n) ++ cond (b && p n) (n ∷ []) []) (not_below n links past)
          ∙ append-nil (filter (λ x. nat_lt x links && p x) (count_up n))
          ∙ counted_up p links n (omega (arith, past))
    ]
  where
    not_below : (n links : ℕ) → links ≤ n → nat_lt n links ≡ false
    not_below n links past = grind (arith, nat_tests)

-- filtering the numbers below n + 1: those below n, and then n
pub one_up : {A : Type 0} (f : ℕ → A) (p : ℕ → Bool) (n : ℕ) → map f (filter p (count_up (n + 1))) ≡ map f (filter p (count_up n)) ++ cond (p n) (f n ∷ []) []
one_up f p n =
    ap (λ k. map f (filter p (count_up k))) (add-one n)
    ∙ ap (map f) (filter-append p (count_up n) (n ∷ []))
    ∙ map-append f (filter p (count_up n)) (filter p (n ∷ []))
    ∙ ap (λ zs. map f (filter p (count_up n)) ++ zs) (single (p n))
  where
    single : (b : Bool) → map f (cond b (n ∷ []) []) ≡ cond b (f n ∷ []) []
    single true = refl
    single false = refl

-- what a test gives, as a list
pub gave : {A : Type 0} (o : Option A) (b : Bool) (x : A) → o ≡ (if b then Some x else None) → cond b (x ∷ []) [] ≡ option_to_list o
gave o true x is = sym (ap option_to_list is)
gave o false x is = sym (ap option_to_list is)
