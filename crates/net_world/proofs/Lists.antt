-- Lists, item by item.
use Rattle.std.proofs.Common.{◌≡◌, ℕ, zero, suc, ◌+◌, ◌-◌, ◌<◌, ◌≤◌, List, [], ◌∷◌, ◌++◌, length, take, drop, map, refl, sym, ap, subst, ◌∙◌, arith, add-one, Option, Some, None}
use Rattle.std.specs.Prelude.{slice_get, slice_index_or}
use Rattle.std.specs.List.{All}
use Rattle.std.specs.Option.{option_map}
use Rattle.law_base.proofs.Base.{slice_get-append_left, slice_get-append_right}

pub some_is : {A : Type 0} {a b : A} → ◌≡◌ {A = Option A} (Some a) (Some b) → a ≡ b
some_is h = cc

pub at_map : {A B : Type 0} (f : A → B) (xs : List A) (i : ℕ) → slice_get (map f xs) i ≡ option_map f (slice_get xs i)
at_map f [] i = refl
at_map f (x ∷ xs) zero = refl
at_map f (x ∷ xs) (suc i) = at_map f xs i

pub mapped : {A B : Type 0} (f : A → B) (o : Option A) (b : B) → option_map f o ≡ Some b → (a : A) × (o ≡ Some a) × (b ≡ f a)
mapped f None b h = absurd (cc h)
mapped f (Some a) b h = (a, refl, sym (some_is h))

pub at_take : {A : Type 0} (n : ℕ) (xs : List A) (i : ℕ) → i < n → slice_get (take n xs) i ≡ slice_get xs i
at_take zero xs i below = absurd (omega (arith, below))
at_take (suc n) [] i below = refl
at_take (suc n) (x ∷ xs) zero below = refl
at_take (suc n) (x ∷ xs) (suc i) below = at_take n xs i (omega (arith, below))

pub at_drop : {A : Type 0} (n : ℕ) (xs : List A) (i : ℕ) → slice_get (drop n xs) i ≡ slice_get xs (n + i)
at_drop zero xs i = ap (slice_get xs) (omega arith)
at_drop (suc n) [] i = refl
at_drop (suc n) (x ∷ xs) i = at_drop n xs i ∙ ap (slice_get (x ∷ xs)) {x = suc (n + i)} {y = suc n + i} (omega arith)

pub there : {A : Type 0} (xs : List A) (i : ℕ) → i < length xs → (x : A) × (slice_get xs i ≡ Some x)
there [] i below = absurd (omega (arith, below))
there (x ∷ xs) zero below = (x, refl)
there (x ∷ xs) (suc i) below = there xs i (omega (arith, below))

pub within : {A : Type 0} (xs : List A) (i : ℕ) (x : A) → slice_get xs i ≡ Some x → i < length xs
within [] i x at = absurd (cc at)
within (y ∷ xs) zero x at = omega arith
within (y ∷ xs) (suc i) x at = let rest = within xs i x at in omega (arith, rest)

-- one more item is taken

more_taken : {A : Type 0} (n : ℕ) (xs : List A) (x : A) (rest : List A) → drop n xs ≡ x ∷ rest → take (suc n) xs ≡ take n xs ++ x ∷ []
more_taken zero [] x rest is = cc
more_taken zero (y ∷ xs) x rest is = cc
more_taken (suc n) [] x rest is = cc
more_taken (suc n) (y ∷ xs) x rest is = ap (λ zs. y ∷ zs) (more_taken n xs x rest is)

fewer_left : {A : Type 0} (n : ℕ) (xs : List A) (x : A) (rest : List A) → drop n xs ≡ x ∷ rest → drop (suc n) xs ≡ rest
fewer_left zero [] x rest is = cc
fewer_left zero (y ∷ xs) x rest is = cc
fewer_left (suc n) [] x rest is = cc
fewer_left (suc n) (y ∷ xs) x rest is = fewer_left n xs x rest is

pub take_next : {A : Type 0} (n : ℕ) (xs : List A) (x : A) (rest : List A) → drop n xs ≡ x ∷ rest → take (n + 1) xs ≡ take n xs ++ x ∷ []
take_next n xs x rest is = ap (λ (k : ℕ). take k xs) (add-one n) ∙ more_taken n xs x rest is

pub drop_next : {A : Type 0} (n : ℕ) (xs : List A) (x : A) (rest : List A) → drop n xs ≡ x ∷ rest → drop (n + 1) xs ≡ rest
drop_next n xs x rest is = ap (λ (k : ℕ). drop k xs) (add-one n) ∙ fewer_left n xs x rest is

-- the last of some items is moved to the front of another list

pub put_last : {A B : Type 0} (f : A → B) (ps rest : List A) (p : A) (q : B) (qs : List B) → ps ≡ rest ++ p ∷ [] → q ≡ f p → map f rest ++ q ∷ qs ≡ map f ps ++ qs
put_last f ps rest p q qs is same = ap (λ x. map f rest ++ x ∷ qs) same ∙ moved rest ∙ sym (ap (λ xs. map f xs ++ qs) is)
  where
    moved : (xs : List _) → map f xs ++ f p ∷ qs ≡ map f (xs ++ p ∷ []) ++ qs
    moved [] = refl
    moved (x ∷ xs) = ap (λ ys. f x ∷ ys) (moved xs)

pub none_left : {A : Type 0} (xs : List A) → length xs ≡ 0 → xs ≡ []
none_left [] h = refl
none_left (x ∷ xs) h = absurd (omega (arith, h))

-- an item at an index

item_is : {A : Type 0} (xs : List A) (i : ℕ) (x d : A) → slice_get xs i ≡ Some x → slice_index_or xs i d ≡ x
item_is [] i x d at = absurd (cc at)
item_is (y ∷ xs) zero x d at = some_is at
item_is (y ∷ xs) (suc i) x d at = item_is xs i x d at

pub all_at : {A : Type 0} (P : A → Type 0) (xs : List A) (i : ℕ) (x : A) → All P xs → slice_get xs i ≡ Some x → P x
all_at P xs i x all at = subst P (item_is xs i x x at) (all i x (within xs i x at))

-- a list whose first `n` items are replaced by others

module _ {A : Type 0} (front old new : List A) (n : ℕ) (count : length front ≡ n) (is : new ≡ front ++ drop n old) where
  pub in_front : (i : ℕ) → i < n → slice_get new i ≡ slice_get front i
  in_front i below = ap (λ (xs : List A). slice_get xs i) is ∙ slice_get-append_left front (drop n old) i (omega (arith, count, below))

  pub behind : (i : ℕ) → n ≤ i → slice_get new i ≡ slice_get old i
  behind i past =
      ap (λ (xs : List A). slice_get xs i) is ∙ ap (slice_get (front ++ drop n old)) {x = i} {y = length front + (i - n)} (omega (arith, count, past))
      ∙ slice_get-append_right front (drop n old) (i - n) ∙ at_drop n old (i - n) ∙ ap (slice_get old) {x = n + (i - n)} {y = i} (omega (arith, past))
