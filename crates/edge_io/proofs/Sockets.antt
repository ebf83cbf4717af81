-- The first item of a list that passes a test, and the list without it.
use Rattle.std.proofs.Common.{◌≡◌, ℕ, suc, ◌+◌, ◌≤◌, ◌<◌, Bool, true, false, cond, not, List, [], ◌∷◌, length, remove, find, position, slice_get, slice_index_or, Some, None, Option, refl, sym, subst, ap, ap₂, ◌++◌, ◌∙◌, arith, take_all, drop_of_length-le, append-nil}
use Rattle.std.specs.List.{position_or_len}
use Rattle.std.proofs.Math.Numerals.{one-add}
use Rattle.std.proofs.lemmas.List.Folds.{find_at}
use Rattle.std.proofs.lemmas.List.Quantifiers.{position-Some}
use Rattle.std.proofs.lemmas.Option.{slice_get-get_or, slice_get_past}
use Rattle.std.proofs.lemmas.Grind.{common_steps}

module _ {X : Type 0} where
  found_place : (p : X → Bool) (xs : List X) (i : ℕ) → position p xs ≡ Some i → position_or_len p xs ≡ i
  found_place p xs i e = grind (arith, common_steps)

  gets : (xs : List X) (i : ℕ) (x : X) → i < length xs → x ≡ slice_index_or xs i x → slice_get xs i ≡ Some x
  gets xs i x lt at = slice_get-get_or xs i x lt ∙ ap (λ (v : X). Some v) (sym at)

  missed_place : (p : X → Bool) (xs : List X) → position p xs ≡ None → length xs ≤ position_or_len p xs
  missed_place p xs e = grind (arith, common_steps)

  pub found : (p : X → Bool) (xs : List X) (i : ℕ) (x : X) → position p xs ≡ Some i → x ≡ slice_index_or xs i x → find p xs ≡ Some x
  found p xs i x e at =
      let place = found_place p xs i e in
      let lt : i < length xs = (position-Some p xs i x e).0 in
      find_at p xs ∙ ap (slice_get xs) place ∙ gets xs i x lt at

  pub found_rest : (p : X → Bool) (xs : List X) (i : ℕ) → position p xs ≡ Some i → remove xs i ≡ remove xs (position_or_len p xs)
  found_rest p xs i e = ap (remove xs) (sym (found_place p xs i e))

  pub missed : (p : X → Bool) (xs : List X) → position p xs ≡ None → find p xs ≡ None
  missed p xs e = let past = missed_place p xs e in find_at p xs ∙ slice_get_past xs (position_or_len p xs) past

  pub missed_rest : (p : X → Bool) (xs : List X) → position p xs ≡ None → remove xs (position_or_len p xs) ≡ xs
  missed_rest p xs e =
      let past = missed_place p xs e in
      let n = position_or_len p xs in
      ap₂ (λ (a b : List X). a ++ b) (take_all n xs past) (drop_of_length-le xs {i = suc n} (omega (arith, past))) ∙ append-nil xs

  -- the item that was found passes the test
  pub found_passes : (p : X → Bool) (xs : List X) (i : ℕ) (x : X) → position p xs ≡ Some i → x ≡ slice_index_or xs i x → p x ≡ true
  found_passes p xs i x e at = ap p at ∙ (position-Some p xs i x e).1

  without_more : (p q : X → Bool) (x : X) (xs : List X) → (p x ≡ true → q x ≡ false) → find q (remove xs (position_or_len p xs)) ≡ find q xs → (b : Bool) → p x ≡ b → find q (remove (x ∷ xs) (cond (not b) (1 + position_or_len p xs) 0)) ≡ find q (x ∷ xs)
  without_more p q x xs apart same true e = subst (λ (b : Bool). find q xs ≡ cond b (Some x) (find q xs)) (sym (apart e)) refl
  without_more p q x xs apart same false e = rw one-add (ap (λ (o : Option X). cond (q x) (Some x) o) same)

  -- What another test finds is found with or without the first item that passes this one, where no item passes both.
  pub found_without : (p q : X → Bool) (xs : List X) → ((x : X) → p x ≡ true → q x ≡ false) → find q (remove xs (position_or_len p xs)) ≡ find q xs
  found_without p q [] apart = refl
  found_without p q (x ∷ xs) apart = without_more p q x xs (apart x) (found_without p q xs apart) (p x) refl
