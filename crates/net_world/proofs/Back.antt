-- The lists of parts that are put back, item by item.
use Rattle.std.proofs.Common.{◌≡◌, ◌⊎◌, inl, inr, ℕ, zero, suc, ◌+◌, ◌<◌, ◌≤◌, List, [], ◌∷◌, ◌++◌, length, drop, map, refl, sym, ap, ◌∙◌, arith, Option, Some, None}
use Rattle.std.specs.Prelude.{slice_get}
use Rattle.std.specs.Option.{option_map}
use Rattle.law_base.proofs.Base.{split}
use Rattle.net_world.proofs.Lists.{some_is, mapped, at_map, in_front, behind}

pub below_or_past : (a b : ℕ) → (a < b) ⊎ (b ≤ a)
below_or_past a b = by (split a b)
  where
    by : (a < b) ⊎ ((k : ℕ) × (a ≡ b + k)) → (a < b) ⊎ (b ≤ a)
    by (inl h) = inl h
    by (inr h) = let is = h.1 in inr (omega (arith, is))

map_drop : {A B : Type 0} (f : A → B) (n : ℕ) (xs : List A) → map f (drop n xs) ≡ drop n (map f xs)
map_drop f zero xs = refl
map_drop f (suc n) [] = refl
map_drop f (suc n) (x ∷ xs) = map_drop f n xs

map_length : {A B : Type 0} (f : A → B) (xs : List A) → length (map f xs) ≡ length xs
map_length f [] = refl
map_length f (x ∷ xs) = ap suc (map_length f xs)

some_same : {A : Type 0} (a b : Option A) → option_map Some a ≡ option_map Some b → a ≡ b
some_same None None h = refl
some_same None (Some y) h = absurd (cc h)
some_same (Some x) None h = absurd (cc h)
some_same (Some x) (Some y) h = some_is h

-- parts that may give an item back: each of the first ones does

module _ {P A : Type 0} (f : P → Option A) (ps : List P) (old stayed new : List A) (n : ℕ) (count : length ps ≡ n) (left : stayed ≡ drop n old) (is : map Some new ≡ map f ps ++ map Some stayed) where
  all_are : map Some new ≡ map f ps ++ drop n (map Some old)
  all_are = is ∙ ap (λ (xs : List A). map f ps ++ map Some xs) left ∙ ap (λ (xs : List (Option A)). map f ps ++ xs) (map_drop Some n old)

  pub given_back : (i : ℕ) (p : P) → i < n → slice_get ps i ≡ Some p → (a : A) × (slice_get new i ≡ Some a) × (f p ≡ Some a)
  given_back i p below at =
      mapped Some (slice_get new i) (f p)
      (sym (at_map Some new i) ∙ in_front (map f ps) (map Some old) (map Some new) n (map_length f ps ∙ count) all_are i below ∙ at_map f ps i ∙ ap (option_map f) at)

  pub stayed_there : (i : ℕ) → n ≤ i → slice_get new i ≡ slice_get old i
  stayed_there i past =
      some_same (slice_get new i) (slice_get old i)
      (sym (at_map Some new i) ∙ behind (map f ps) (map Some old) (map Some new) n (map_length f ps ∙ count) all_are i past ∙ at_map Some old i)

-- each of the first parts gives its item back

module _ {P A : Type 0} (f : P → A) (ps : List P) (old stayed new : List A) (n : ℕ) (count : length ps ≡ n) (left : stayed ≡ drop n old) (is : new ≡ map f ps ++ stayed) where
  each_is : new ≡ map f ps ++ drop n old
  each_is = is ∙ ap (λ (xs : List A). map f ps ++ xs) left

  pub gives_back : (i : ℕ) (p : P) → i < n → slice_get ps i ≡ Some p → slice_get new i ≡ Some (f p)
  gives_back i p below at = in_front (map f ps) old new n (map_length f ps ∙ count) each_is i below ∙ at_map f ps i ∙ ap (option_map f) at

  pub stays_there : (i : ℕ) → n ≤ i → slice_get new i ≡ slice_get old i
  stays_there i past = behind (map f ps) old new n (map_length f ps ∙ count) each_is i past
