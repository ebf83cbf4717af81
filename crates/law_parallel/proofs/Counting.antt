-- How often an item is in a list: a sublist has it at most as often.
use Rattle.std.proofs.Common.{◌≡◌, ℕ, zero, suc, ◌+◌, ◌≤◌, Bool, true, false, List, [], ◌∷◌, ◌++◌, map, take, refl, sym, ◌∙◌, ap, arith, Some}
use Rattle.std.specs.Prelude.{filter, count_by, slice_get, if◌then◌else◌}
use Rattle.std.specs.List.{list_all, list_any}
use Rattle.law_base.proofs.Base.{and_both, or_first, or_second}
use Rattle.law_locality.proofs.Counting.{one_if, count_more}

pub count-append : {A : Type 0} (p : A → Bool) (xs ys : List A) → count_by p (xs ++ ys) ≡ count_by p xs + count_by p ys
count-append p [] ys = omega arith
count-append p (x ∷ xs) ys =
    let rest = count-append p xs ys in
    let one = count_more p x (xs ++ ys) in
    let two = count_more p x xs in
    omega (arith, rest, one, two)

pub count-map : {A B : Type 0} (p : B → Bool) (f : A → B) (xs : List A) → count_by p (map f xs) ≡ count_by (λ x. p (f x)) xs
count-map p f [] = refl
count-map p f (x ∷ xs) =
    let rest = count-map p f xs in
    let one = count_more p (f x) (map f xs) in
    let two = count_more (λ y. p (f y)) x xs in
    omega (arith, rest, one, two)

pub one_true : (b : Bool) → b ≡ true → one_if b ≡ 1
one_true b h = ap one_if h

pub one_false : (b : Bool) → b ≡ false → one_if b ≡ 0
one_false b h = ap one_if h

pub at_most_one : (b : Bool) → one_if b ≤ 1
at_most_one true = omega arith
at_most_one false = omega arith

one_less : (a b : Bool) → (a ≡ true → b ≡ true) → one_if a ≤ one_if b
one_less true b h = let e : one_if b ≡ 1 = ap one_if (h refl) in omega (arith, e)
one_less false b h = omega arith

-- If one test implies another, then a filtered list has at most as many items that pass the first test as the whole
-- list has items that pass the second.
pub count_part : {A : Type 0} (keep p q : A → Bool) → ((x : A) → keep x ≡ true → p x ≡ true → q x ≡ true) → (xs : List A) → count_by p (filter keep xs) ≤ count_by q xs
count_part keep p q h [] = omega arith
count_part {A} keep p q h (x ∷ xs) =
    let rest = count_part keep p q h xs in
    let more = count_more q x xs in
    elim (keep x) as (λ t. keep x ≡ t → count_by p (if t then x ∷ filter keep xs else filter keep xs) ≤ count_by q (x ∷ xs)) [
      | true ↦ λ e. let one = count_more p x (filter keep xs) in let less = one_less (p x) (q x) (h x e) in omega (arith, rest, more, one, less)
      | false ↦ λ e. omega (arith, rest, more)
    ] refl

pub count_fewer : {A : Type 0} (keep p : A → Bool) (xs : List A) → count_by p (filter keep xs) ≤ count_by p xs
count_fewer keep p xs = count_part keep p p (λ x e h. h) xs

pub count_same : {A : Type 0} (p q : A → Bool) → ((x : A) → p x ≡ q x) → (xs : List A) → count_by p xs ≡ count_by q xs
count_same p q h [] = refl
count_same p q h (x ∷ xs) =
    let rest = count_same p q h xs in
    let one = count_more p x xs in
    let two = count_more q x xs in
    let both : one_if (p x) ≡ one_if (q x) = ap one_if (h x) in
    omega (arith, rest, one, two, both)

-- If a filter keeps all items that pass a test, it leaves their number unchanged.
pub count_kept : {A : Type 0} (keep p : A → Bool) → ((x : A) → p x ≡ true → keep x ≡ true) → (xs : List A) → count_by p (filter keep xs) ≡ count_by p xs
count_kept keep p h [] = refl
count_kept {A} keep p h (x ∷ xs) =
    let rest = count_kept keep p h xs in
    let more = count_more p x xs in
    elim (keep x) as (λ t. keep x ≡ t → count_by p (if t then x ∷ filter keep xs else filter keep xs) ≡ count_by p (x ∷ xs)) [
      | true ↦ λ e. let one = count_more p x (filter keep xs) in omega (arith, rest, more, one)
      | false ↦ λ e. let none = one_false (p x) (not_kept (p x) (keep x) (h x) e) in omega (arith, rest, more, none)
    ] refl
  where
    not_kept : (a b : Bool) → (a ≡ true → b ≡ true) → b ≡ false → a ≡ false
    not_kept true b h e = sym (h refl) ∙ e
    not_kept false b h e = refl

pub count_taken : {A : Type 0} (p : A → Bool) (n : ℕ) (xs : List A) → count_by p (take n xs) ≤ count_by p xs
count_taken p zero xs = omega arith
count_taken p (suc n) [] = omega arith
count_taken p (suc n) (x ∷ xs) =
    let rest = count_taken p n xs in
    let one = count_more p x (take n xs) in
    let two = count_more p x xs in
    omega (arith, rest, one, two)

-- If no item passes the test, the count is zero.
pub none_found : {A : Type 0} (p : A → Bool) (xs : List A) → list_any p xs ≡ false → count_by p xs ≡ 0
none_found p [] h = refl
none_found p (x ∷ xs) h =
    let rest = none_found p xs (or_second (p x) (list_any p xs) h) in
    let none = one_false (p x) (or_first (p x) (list_any p xs) h) in
    let more = count_more p x xs in
    omega (arith, rest, none, more)

pub counted_none : {A : Type 0} (p : A → Bool) → ((x : A) → p x ≡ false) → (xs : List A) → count_by p xs ≡ 0
counted_none p h [] = refl
counted_none p h (x ∷ xs) =
    let rest = counted_none p h xs in
    let none = one_false (p x) (h x) in
    let more = count_more p x xs in
    omega (arith, rest, none, more)

-- If an item of the list passes the test, the count is at least one.
pub found_there : {A : Type 0} (p : A → Bool) (xs : List A) (i : ℕ) (x : A) → slice_get xs i ≡ Some x → p x ≡ true → 1 ≤ count_by p xs
found_there p [] i x at h = cc
found_there p (y ∷ ys) zero x at h =
    let is : y ≡ x = cc in
    let one = one_true (p y) (ap p is ∙ h) in
    let more = count_more p y ys in
    omega (arith, one, more)
found_there p (y ∷ ys) (suc i) x at h =
    let rest = found_there p ys i x at h in
    let more = count_more p y ys in
    omega (arith, rest, more)

pub all_found : {A : Type 0} (p : A → Bool) (xs : List A) → ((i : ℕ) (x : A) → slice_get xs i ≡ Some x → p x ≡ true) → list_all p xs ≡ true
all_found p [] h = refl
all_found p (x ∷ xs) h = and_both (p x) (list_all p xs) (h zero x refl) (all_found p xs (λ i y at. h (suc i) y at))
