-- Claims that are named by their places in a log can be named by their numbers too.
use Rattle.std.proofs.Common.{◌≡◌, ℕ, suc, ◌+◌, ◌&&◌, List, [], ◌∷◌, ◌++◌, length, map, take, refl, sym, ◌∙◌, ap, append_assoc, arith}
use Rattle.std.specs.Prelude.{Bool, count_by}
use Rattle.std.specs.List.{list_all}
use Rattle.std.proofs.lemmas.List.{length-append, take_at}
use Rattle.net_model.specs.declared.order.Order.{Order}
use Rattle.net_model.specs.Site.{count_up}
use Rattle.net_model.specs.Tick.{Emission, Again, New}
use Rattle.net_model.specs.BlockOrder.{is_wire_answer}
use Rattle.law_locality.proofs.Counting.{one_if, count_more}
use Rattle.law_parallel.proofs.Counting.{count-map}
use Rattle.law_parallel.specs.Logs.{Deed, Claims, Puts, Repeats, claims_in, claims_put, done_for_plans, is_answered, HaveTheSame}
use Rattle.law_parallel.specs.Places.{claimed_at, claims_before, with_number, numbered, IsNumbered}
use Rattle.law_parallel.proofs.Counted.{count_first}

module _ (all : List Deed) where
  abbrev as_numbered : List Deed → List Deed
  as_numbered log = map (with_number all) log

  puts_numbered : (log : List Deed) → claims_put (as_numbered log) ≡ map (claims_before all) (claims_put log)
  puts_numbered [] = refl
  puts_numbered (Claims place o ∷ log) = puts_numbered log
  puts_numbered (Puts place answer ∷ log) = ap (λ (ns : List ℕ). claims_before all place ∷ ns) (puts_numbered log)
  puts_numbered (Repeats place r answer ∷ log) = puts_numbered log

  pub claims_same : (log : List Deed) → claims_in (as_numbered log) ≡ claims_in log
  claims_same [] = refl
  claims_same (Claims place o ∷ log) = ap (λ (xs : List (ℕ × Order)). (place, o) ∷ xs) (claims_same log)
  claims_same (Puts place answer ∷ log) = claims_same log
  claims_same (Repeats place r answer ∷ log) = claims_same log

  pub wanted_same : (log : List Deed) → done_for_plans (as_numbered log) ≡ done_for_plans log
  wanted_same [] = refl
  wanted_same (Claims place o ∷ log) = ap (λ (xs : List (ℕ × Emission)). (place, New o) ∷ xs) (wanted_same log)
  wanted_same (Puts place answer ∷ log) = wanted_same log
  wanted_same (Repeats place r answer ∷ log) = ap (λ (xs : List (ℕ × Emission)). (place, Again r) ∷ xs) (wanted_same log)

  answered_same : (log : List Deed) → list_all is_answered (as_numbered log) ≡ list_all is_answered log
  answered_same [] = refl
  answered_same (Claims place o ∷ log) = answered_same log
  answered_same (Puts place answer ∷ log) = ap (λ b. is_wire_answer answer && b) (answered_same log)
  answered_same (Repeats place r answer ∷ log) = ap (λ b. is_wire_answer answer && b) (answered_same log)

-- The claims after a prefix of the log are numbered from the prefix's count on.

claims-append : (xs ys : List Deed) → length (claims_in (xs ++ ys)) ≡ length (claims_in xs) + length (claims_in ys)
claims-append [] ys = omega arith
claims-append (Claims place o ∷ xs) ys = let rest = claims-append xs ys in omega (arith, rest)
claims-append (Puts place answer ∷ xs) ys = claims-append xs ys
claims-append (Repeats place r answer ∷ xs) ys = claims-append xs ys

module _ (q : ℕ → Bool) (all : List Deed) where
  abbrev number : ℕ → Bool
  number place = q (claims_before all place)

  abbrev IsCounted : (front rest : List Deed) → Type 0
  IsCounted front rest = count_by number (claimed_at (length front) rest) ≡ count_by (λ k. q (length (claims_in front) + k)) (count_up (length (claims_in rest)))

  one_further : (front : List Deed) (d : Deed) (rest : List Deed) → length (claims_in (front ++ d ∷ [])) ≡ length (claims_in front) → IsCounted (front ++ d ∷ []) rest →
      count_by number (claimed_at (length front + 1) rest) ≡ count_by (λ k. q (length (claims_in front) + k)) (count_up (length (claims_in rest)))
  one_further front d rest none h =
      ap (λ (n : ℕ). count_by number (claimed_at n rest)) (sym (length-append front (d ∷ []))) ∙ h
      ∙ ap (λ (n : ℕ). count_by (λ k. q (n + k)) (count_up (length (claims_in rest)))) none

  counted : (rest front : List Deed) → all ≡ front ++ rest → IsCounted front rest
  counted [] front is = refl
  counted (Claims place o ∷ rest) front is =
      let d : Deed = Claims place o in
      let n : ℕ = length (claims_in front) in
      let more : length (claims_in (front ++ d ∷ [])) ≡ n + 1 = claims-append front (d ∷ []) in
      let rest' = counted rest (front ++ d ∷ []) (is ∙ sym (append_assoc front (d ∷ []) rest)) in
      let here : claims_before all (length front) ≡ n =
      ap (λ (log : List Deed). length (claims_in (take (length front) log))) is ∙ ap (λ (log : List Deed). length (claims_in log)) (take_at front (d ∷ rest) (length front) refl) in
      let first : one_if (number (length front)) ≡ one_if (q (n + 0)) = ap (λ (k : ℕ). one_if (q k)) (here ∙ none_more n) in
      let one = count_more number (length front) (claimed_at (length front + 1) rest) in
      let later : count_by number (claimed_at (length front + 1) rest) ≡ count_by (λ k. q (n + suc k)) (count_up (length (claims_in rest))) =
      ap (λ (m : ℕ). count_by number (claimed_at m rest)) (sym (length-append front (d ∷ []))) ∙ rest'
      ∙ ap (λ (m : ℕ). count_by (λ k. q (m + k)) (count_up (length (claims_in rest)))) more
      ∙ ap (λ (f : ℕ → ℕ). count_by (λ k. q (f k)) (count_up (length (claims_in rest)))) (λ i k. moved n k i) in
      let two = count_first (λ k. q (n + k)) (length (claims_in rest)) in
      omega (arith, first, one, later, two)
    where
      none_more : (n : ℕ) → n ≡ n + 0
      none_more n = omega arith

      moved : (n k : ℕ) → n + 1 + k ≡ n + suc k
      moved n k = omega arith
  counted (Puts place answer ∷ rest) front is =
      let d : Deed = Puts place answer in
      one_further front d rest (claims-append front (d ∷ []) ∙ none (length (claims_in front))) (counted rest (front ++ d ∷ []) (is ∙ sym (append_assoc front (d ∷ []) rest)))
    where
      none : (n : ℕ) → n + 0 ≡ n
      none n = omega arith
  counted (Repeats place r answer ∷ rest) front is =
      let d : Deed = Repeats place r answer in
      one_further front d rest (claims-append front (d ∷ []) ∙ none (length (claims_in front))) (counted rest (front ++ d ∷ []) (is ∙ sym (append_assoc front (d ∷ []) rest)))
    where
      none : (n : ℕ) → n + 0 ≡ n
      none n = omega arith

put_by_number : (log : List Deed) → HaveTheSame (claims_put log) (claimed_at 0 log) → HaveTheSame (claims_put (numbered log)) (count_up (length (claims_in log)))
put_by_number log same q =
    ap (count_by q) (puts_numbered log log) ∙ count-map q (claims_before log) (claims_put log) ∙ same (λ place. q (claims_before log place)) ∙ counted q log log [] refl
    ∙ ap (λ (f : ℕ → ℕ). count_by (λ k. q (f k)) (count_up (length (claims_in log)))) (λ i k. none k i)
  where
    none : (k : ℕ) → 0 + k ≡ k
    none k = omega arith

pub is_numbered : (log : List Deed) → HaveTheSame (claims_put log) (claimed_at 0 log) → IsNumbered log
is_numbered log same = record {
  put = λ q. put_by_number log same q ∙ ap (λ (n : ℕ). count_by q (count_up n)) (ap length (sym (claims_same log log)));
  claims = claims_same log log;
  wanted = wanted_same log log;
  answered = answered_same log log;
}
