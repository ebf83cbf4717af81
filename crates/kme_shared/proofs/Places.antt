-- Lists of machines of two kinds, those of the first kind in front.
use Rattle.std.proofs.Common.{◌≡◌, ℕ, zero, suc, ◌+◌, ◌<◌, List, [], ◌∷◌, ◌++◌, length, map, refl, sym, ap, ap₂, ◌∙◌, arith, Option, Some}
use Rattle.std.specs.Prelude.{slice_get}
use Rattle.shared_objects.specs.declared.either.Either.{Either}
use Rattle.shared_objects.specs.declared.either.Either.TheVariants.{Left, Right}
use Rattle.kme_shared.specs.Seats.{lefts, rights}

some_is : {A : Type 0} {a b : A} → ◌≡◌ {A = Option A} (Some a) (Some b) → a ≡ b
some_is h = cc

-- an item of a mapped list, with the item from which it was made
pub record MadeOf {A B : Type 0} (f : A → B) (xs : List A) (i : ℕ) (b : B) : Type 0 where
  pub x : A
  pub at : slice_get xs i ≡ Some x
  pub is : f x ≡ b

pub made_of : {A B : Type 0} (f : A → B) (xs : List A) (i : ℕ) (b : B) → slice_get (map f xs) i ≡ Some b → MadeOf f xs i b
made_of f [] i b at = cc
made_of f (x ∷ xs) zero b at = record { x = x; at = refl; is = some_is at }
made_of f (x ∷ xs) (suc i) b at = let r = made_of f xs i b at in record { x = r.x; at = r.at; is = r.is }

pub makes : {A B : Type 0} (f : A → B) (xs : List A) (i : ℕ) (x : A) → slice_get xs i ≡ Some x → slice_get (map f xs) i ≡ Some (f x)
makes f [] i x at = cc
makes f (y ∷ xs) zero x at = ap (λ y. Some (f y)) (some_is at)
makes f (y ∷ xs) (suc i) x at = makes f xs i x at

next : (n i : ℕ) → suc n + i ≡ suc (n + i)
next n i = omega arith

module _ {M N : Type 0} where
  pub left_at : (ms : List M) (ns : List N) (i : ℕ) (m : M) → slice_get ms i ≡ Some m → slice_get (map Left ms ++ map Right ns) i ≡ Some (Left m)
  left_at [] ns i m at = cc
  left_at (x ∷ ms) ns zero m at = ap (λ y. Some (Left y)) (some_is at)
  left_at (x ∷ ms) ns (suc i) m at = left_at ms ns i m at

  pub behind : (ms : List M) (ns : List N) (i : ℕ) → slice_get (map Left ms ++ map Right ns) (length ms + i) ≡ slice_get (map Right ns) i
  behind [] ns i = ap (slice_get (map Right ns)) (none i)
    where
      none : (i : ℕ) → 0 + i ≡ i
      none i = omega arith
  behind (x ∷ ms) ns i = ap (slice_get (map Left (x ∷ ms) ++ map Right ns)) (next (length ms) i) ∙ behind ms ns i

  pub right_at : (ms : List M) (ns : List N) (i : ℕ) (n : N) → slice_get ns i ≡ Some n → slice_get (map Left ms ++ map Right ns) (length ms + i) ≡ Some (Right n)
  right_at ms ns i n at = behind ms ns i ∙ makes Right ns i n at

  right_is : {a b : N} → ◌≡◌ {A = Either M N} (Right a) (Right b) → a ≡ b
  right_is h = cc

  pub right_back : (ms : List M) (ns : List N) (i : ℕ) (n : N) → slice_get (map Left ms ++ map Right ns) (length ms + i) ≡ Some (Right n) → slice_get ns i ≡ Some n
  right_back ms ns i n at = let r = made_of Right ns i (Right n) (sym (behind ms ns i) ∙ at) in r.at ∙ ap (λ (x : N). Some x) (right_is r.is)

  pub lefts_of : (ms : List M) (ns : List N) → lefts (map Left ms ++ map Right ns) ≡ ms
  lefts_of [] ns = none ns
    where
      none : (ns : List N) → lefts {A = M} (map Right ns) ≡ []
      none [] = refl
      none (n ∷ ns) = none ns
  lefts_of (m ∷ ms) ns = ap (λ (xs : List M). m ∷ xs) (lefts_of ms ns)

  pub rights_of : (ms : List M) (ns : List N) → rights (map Left ms ++ map Right ns) ≡ ns
  rights_of [] ns = all ns
    where
      all : (ns : List N) → rights {A = M} (map Right ns) ≡ ns
      all [] = refl
      all (n ∷ ns) = ap (λ (xs : List N). n ∷ xs) (all ns)
  rights_of (m ∷ ms) ns = rights_of ms ns

  -- `n` machines of the first kind, and then `k` of the second
  pub record AreSplit (n k : ℕ) (xs : List (Either M N)) : Type 0 where
    pub first : List M
    pub second : List N
    pub are : xs ≡ map Left first ++ map Right second
    pub many : length first ≡ n
    pub others : length second ≡ k

  all_right : (k : ℕ) (xs : List (Either M N)) → length xs ≡ k → ((i : ℕ) → i < k → (b : N) × (slice_get xs i ≡ Some (Right b))) → AreSplit 0 k xs
  all_right zero [] long h = record { first = []; second = []; are = refl; many = refl; others = refl }
  all_right (suc k) [] long h = absurd (omega (arith, long))
  all_right zero (x ∷ xs) long h = absurd (omega (arith, long))
  all_right (suc k) (x ∷ xs) long h =
      let here = h 0 (omega arith) in
      let rest = all_right k xs (omega (arith, long)) (λ i below. h (suc i) (omega (arith, below))) in
      let none : rest.first ≡ [] = empty rest.first rest.many in
      record {
        first = [];
        second = here.0 ∷ rest.second;
        are = ap₂ (λ (y : Either M N) (ys : List (Either M N)). y ∷ ys) (some_is here.1) (rest.are ∙ ap (λ (ms : List M). map Left ms ++ map Right rest.second) none);
        many = refl;
        others = ap suc rest.others;
      }
    where
      empty : (ms : List M) → length ms ≡ 0 → ms ≡ []
      empty [] e = refl
      empty (m ∷ ms) e = absurd (omega (arith, e))

  pub split_at : (n k : ℕ) (xs : List (Either M N)) → length xs ≡ n + k → ((v : ℕ) → v < n → (a : M) × (slice_get xs v ≡ Some (Left a))) → ((i : ℕ) → i < k → (b : N) × (slice_get xs (n + i) ≡ Some (Right b))) → AreSplit n k xs
  split_at zero k xs long h g = all_right k xs (omega (arith, long)) (λ i below. let b = g i below in (b.0, ap (slice_get xs) (none i) ∙ b.1))
    where
      none : (i : ℕ) → i ≡ 0 + i
      none i = omega arith
  split_at (suc n) k [] long h g = absurd (omega (arith, long))
  split_at (suc n) k (x ∷ xs) long h g =
      let here = h 0 (omega arith) in
      let rest = split_at n k xs (omega (arith, long)) (λ v below. h (suc v) (omega (arith, below))) (λ i below. let b = g i below in (b.0, ap (slice_get (x ∷ xs)) (sym (next n i)) ∙ b.1)) in
      record {
        first = here.0 ∷ rest.first;
        second = rest.second;
        are = ap₂ (λ (y : Either M N) (ys : List (Either M N)). y ∷ ys) (some_is here.1) rest.are;
        many = ap suc rest.many;
        others = rest.others;
      }
