-- Lists with empty slots, whose items are removed and changed in place.
use Rattle.std.proofs.Common.{◌≡◌, ℕ, zero, suc, ◌+◌, ◌<◌, ◌≤◌, Bool, true, false, ◌||◌, List, [], ◌∷◌, ◌++◌, length, take, refl, sym, ◌∙◌, ap, arith, Option, Some, None, ◌⊎◌, inl, inr}
use Rattle.std.specs.Prelude.{slice_get, slice_set, map, filter, drop, not, if◌then◌else◌}
use Rattle.std.specs.List.{list_any}
use Rattle.relay_core.specs.Firsts.{IsFirstFrom, IsNoneFrom}
use Rattle.resend_window.specs.Kept.{somes}
use Rattle.resend_window.specs.Slots.{passes}

pub any_somes : {A : Type 0} (t : A → Bool) (xs : List (Option A)) → list_any (passes t) xs ≡ list_any t (somes xs)
any_somes t [] = refl
any_somes t (None ∷ xs) = any_somes t xs
any_somes t (Some x ∷ xs) = ap (λ (b : Bool). t x || b) (any_somes t xs)

-- if a change has no further effect the second time, changing one item first doesn't alter the result of changing all

pub map_set : {A : Type 0} (f : A → A) (xs : List A) (p : ℕ) (x : A) → slice_get xs p ≡ Some x → f (f x) ≡ f x → map f (slice_set xs p (f x)) ≡ map f xs
map_set f [] p x h e = cc
map_set f (y ∷ ys) zero x h e = let same : y ≡ x = cc in ap (λ z. z ∷ map f ys) (e ∙ ap f (sym same))
map_set f (y ∷ ys) (suc p) x h e = ap (λ zs. f y ∷ zs) (map_set f ys p x h e)

pub map_fixed : {A : Type 0} (f : A → A) (xs : List A) → ((p : ℕ) (x : A) → slice_get xs p ≡ Some x → f x ≡ x) → map f xs ≡ xs
map_fixed f [] h = refl
map_fixed f (x ∷ xs) h =
    let tail = map_fixed f xs (λ p y g. h (suc p) y g) in
    let head : f x ≡ x = h 0 x refl in
    ap (λ z. z ∷ map f xs) head ∙ ap (λ zs. x ∷ zs) tail

pub get_set_same : {A : Type 0} (xs : List A) (p : ℕ) (x y : A) → slice_get xs p ≡ Some x → slice_get (slice_set xs p y) p ≡ Some y
get_set_same [] p x y h = cc
get_set_same (z ∷ zs) zero x y h = refl
get_set_same (z ∷ zs) (suc p) x y h = get_set_same zs p x y h

pub get_set_other : {A : Type 0} (xs : List A) (p q : ℕ) (y : A) → (p ≡ q → ⊥) → slice_get (slice_set xs p y) q ≡ slice_get xs q
get_set_other [] p q y h = refl
get_set_other (z ∷ zs) zero zero y h = absurd (h refl)
get_set_other (z ∷ zs) zero (suc q) y h = refl
get_set_other (z ∷ zs) (suc p) zero y h = refl
get_set_other (z ∷ zs) (suc p) (suc q) y h = get_set_other zs p q y (λ e. h (ap suc e))

-- one turn of a loop that changes, from place to place, the items that pass a test

pub turn_done : {A : Type 0} (f : A → A) (t : A → Bool) (xs ys : List A) (from place : ℕ) → ((x : A) → f (f x) ≡ f x) → ((x : A) → t x ≡ false → f x ≡ x) →
    ((p : ℕ) (x : A) → p < from → slice_get xs p ≡ Some x → f x ≡ x) → (first : IsFirstFrom t xs from place) → ys ≡ slice_set xs place (f first.item) →
    (p : ℕ) (x : A) → p < place + 1 → slice_get ys p ≡ Some x → f x ≡ x
turn_done {A} f t xs ys from place again kept done first e p x lt got = by (split p place (omega arith))
  where
    split : (p c : ℕ) → p ≤ c → (p < c) ⊎ (p ≡ c)
    split zero zero le = inr refl
    split zero (suc c) le = inl (omega arith)
    split (suc p) zero le = absurd (omega arith)
    split (suc p) (suc c) le = elim (split p c (omega arith)) [ inl h ↦ inl (omega arith) | inr h ↦ inr (omega arith) ]

    before : (p : ℕ) (x : A) → p < place → slice_get xs p ≡ Some x → (p < from) ⊎ (from ≤ p) → f x ≡ x
    before p x lt g (inl h) = done p x h g
    before p x lt g (inr h) = kept x (first.before p x h lt g)

    order : (a b : ℕ) → (a < b) ⊎ (b ≤ a)
    order a zero = inr (omega arith)
    order zero (suc b) = inl (omega arith)
    order (suc a) (suc b) = elim (order a b) [ inl h ↦ inl (omega arith) | inr h ↦ inr (omega arith) ]

    by : (p < place) ⊎ (p ≡ place) → f x ≡ x
    by (inl h) = let other : place ≡ p → ⊥ = (λ s. omega arith) in
        before p x h (sym (get_set_other xs place p (f first.item) other) ∙ sym (ap (λ zs. slice_get zs p) e) ∙ got) (order p from)
    by (inr h) =
        let here : Some x ≡ Some (f first.item) = sym got ∙ ap (λ zs. slice_get zs p) e ∙ ap (slice_get (slice_set xs place (f first.item))) h ∙ get_set_same xs place first.item (f first.item) first.there in
        let same : x ≡ f first.item = cc in
        ap f same ∙ again first.item ∙ sym same

pub all_done : {A : Type 0} (f : A → A) (t : A → Bool) (xs : List A) (from : ℕ) → ((x : A) → t x ≡ false → f x ≡ x) →
    ((p : ℕ) (x : A) → p < from → slice_get xs p ≡ Some x → f x ≡ x) → IsNoneFrom t xs from → map f xs ≡ xs
all_done {A} f t xs from kept done none = map_fixed f xs (λ p x g. by p x g (order p from))
  where
    order : (a b : ℕ) → (a < b) ⊎ (b ≤ a)
    order a zero = inr (omega arith)
    order zero (suc b) = inl (omega arith)
    order (suc a) (suc b) = elim (order a b) [ inl h ↦ inl (omega arith) | inr h ↦ inr (omega arith) ]

    by : (p : ℕ) (x : A) → slice_get xs p ≡ Some x → (p < from) ⊎ (from ≤ p) → f x ≡ x
    by p x g (inl h) = done p x h g
    by p x g (inr h) = kept x (none.none p x h g)

-- the items that aren't empty after a change of all slots

pub somes_changed : {A : Type 0} (t : A → Bool) (g : A → A) (f : Option A → Option A) → f None ≡ None → ((x : A) → f (Some x) ≡ (if t x then Some (g x) else Some x)) →
    (xs : List (Option A)) → somes (map f xs) ≡ map (λ x. if t x then g x else x) (somes xs)
somes_changed t g f none some [] = refl
somes_changed t g f none some (None ∷ xs) = ap (λ o. somes (o ∷ map f xs)) none ∙ somes_changed t g f none some xs
somes_changed {A} t g f none some (Some x ∷ xs) =
    ap (λ o. somes (o ∷ map f xs)) (some x) ∙ by (t x) ∙ ap (λ ys. (if t x then g x else x) ∷ ys) (somes_changed t g f none some xs)
  where
    by : (b : Bool) → somes ((if b then Some (g x) else Some x) ∷ map f xs) ≡ (if b then g x else x) ∷ somes (map f xs)
    by true = refl
    by false = refl

pub somes_removed : {A : Type 0} (t : A → Bool) (f : Option A → Option A) → f None ≡ None → ((x : A) → f (Some x) ≡ (if t x then None else Some x)) →
    (xs : List (Option A)) → somes (map f xs) ≡ filter (λ x. not (t x)) (somes xs)
somes_removed t f none some [] = refl
somes_removed t f none some (None ∷ xs) = ap (λ o. somes (o ∷ map f xs)) none ∙ somes_removed t f none some xs
somes_removed {A} t f none some (Some x ∷ xs) =
    ap (λ o. somes (o ∷ map f xs)) (some x) ∙ by (t x) (somes_removed t f none some xs)
  where
    by : (b : Bool) → somes (map f xs) ≡ filter (λ x. not (t x)) (somes xs) →
        somes ((if b then None else Some x) ∷ map f xs) ≡ (if not b then x ∷ filter (λ x. not (t x)) (somes xs) else filter (λ x. not (t x)) (somes xs))
    by true h = h
    by false h = ap (λ ys. x ∷ ys) h

pub somes_push : {A : Type 0} (xs : List (Option A)) (x : A) → somes (xs ++ Some x ∷ []) ≡ somes xs ++ x ∷ []
somes_push [] x = refl
somes_push (None ∷ xs) x = somes_push xs x
somes_push (Some y ∷ xs) x = ap (λ ys. y ∷ ys) (somes_push xs x)

pub somes_filtered : {A : Type 0} (t : Option A → Bool) → t None ≡ false → ((x : A) → t (Some x) ≡ true) → (xs : List (Option A)) → somes (filter t xs) ≡ somes xs
somes_filtered t none some [] = refl
somes_filtered t none some (None ∷ xs) = ap (λ (b : Bool). somes (if b then None ∷ filter t xs else filter t xs)) none ∙ somes_filtered t none some xs
somes_filtered t none some (Some x ∷ xs) = ap (λ (b : Bool). somes (if b then Some x ∷ filter t xs else filter t xs)) (some x) ∙ ap (λ ys. x ∷ ys) (somes_filtered t none some xs)

pub map_filter : {A B : Type 0} (f : A → B) (t : B → Bool) (xs : List A) → filter t (map f xs) ≡ map f (filter (λ x. t (f x)) xs)
map_filter f t [] = refl
map_filter {A} {B} f t (x ∷ xs) =
    elim (t (f x)) as (λ b. (if b then f x ∷ filter t (map f xs) else filter t (map f xs)) ≡ map f (if b then x ∷ filter (λ x. t (f x)) xs else filter (λ x. t (f x)) xs)) [
      | true ↦ ap (λ ys. f x ∷ ys) (map_filter f t xs)
      | false ↦ map_filter f t xs
    ]

pub map_append : {A B : Type 0} (f : A → B) (xs : List A) (x : A) → map f (xs ++ x ∷ []) ≡ map f xs ++ f x ∷ []
map_append f [] x = refl
map_append f (y ∷ ys) x = ap (λ zs. f y ∷ zs) (map_append f ys x)

pub map_map : {A B C : Type 0} (f : A → B) (g : B → C) (xs : List A) → map g (map f xs) ≡ map (λ x. g (f x)) xs
map_map f g [] = refl
map_map f g (x ∷ xs) = ap (λ ys. g (f x) ∷ ys) (map_map f g xs)

pub map_same : {A B : Type 0} (f g : A → B) → ((x : A) → f x ≡ g x) → (xs : List A) → map f xs ≡ map g xs
map_same f g h [] = refl
map_same f g h (x ∷ xs) = ap (λ y. y ∷ map f xs) (h x) ∙ ap (λ ys. g x ∷ ys) (map_same f g h xs)

pub filter_same : {A : Type 0} (t u : A → Bool) → ((x : A) → t x ≡ u x) → (xs : List A) → filter t xs ≡ filter u xs
filter_same t u h [] = refl
filter_same {A} t u h (x ∷ xs) =
    ap (λ (b : Bool). if b then x ∷ filter t xs else filter t xs) (h x) ∙ ap (λ ys. if u x then x ∷ ys else ys) (filter_same t u h xs)

pub any_map : {A B : Type 0} (f : A → B) (t : B → Bool) (xs : List A) → list_any t (map f xs) ≡ list_any (λ x. t (f x)) xs
any_map f t [] = refl
any_map f t (x ∷ xs) = ap (λ (b : Bool). t (f x) || b) (any_map f t xs)

pub any_same : {A : Type 0} (t u : A → Bool) → ((x : A) → t x ≡ u x) → (xs : List A) → list_any t xs ≡ list_any u xs
any_same t u h [] = refl
any_same t u h (x ∷ xs) = ap (λ (b : Bool). b || list_any t xs) (h x) ∙ ap (λ (b : Bool). u x || b) (any_same t u h xs)

-- a list whose items were changed in place

pub length_map : {A B : Type 0} (f : A → B) (xs : List A) → length (map f xs) ≡ length xs
length_map f [] = refl
length_map f (x ∷ xs) = let r = length_map f xs in omega arith

take_all : {A : Type 0} (xs : List A) → take (length xs) xs ≡ xs
take_all [] = refl
take_all (x ∷ xs) = ap (λ ys. x ∷ ys) (take_all xs)

drop_all : {A : Type 0} (xs : List A) → drop (length xs) xs ≡ []
drop_all [] = refl
drop_all (x ∷ xs) = drop_all xs

append_none : {A : Type 0} (xs : List A) → xs ++ [] ≡ xs
append_none [] = refl
append_none (x ∷ xs) = ap (λ ys. x ∷ ys) (append_none xs)

pub written_back : {A : Type 0} (n : ℕ) (xs ys : List A) (f : A → A) → length xs ≡ n → ys ≡ map f xs → take n (ys ++ drop (length ys) xs) ≡ map f xs
written_back {A} n xs ys f size e =
    let long : length ys ≡ length xs = ap (λ zs. length zs) e ∙ length_map f xs in
    ap (λ k. take n (ys ++ drop k xs)) long
    ∙ ap (λ zs. take n (ys ++ zs)) (drop_all xs)
    ∙ ap (take n) (append_none ys)
    ∙ (let same : n ≡ length ys = omega arith in ap (λ k. take k ys) same)
    ∙ take_all ys ∙ e

pub length_somes : {A : Type 0} (xs : List (Option A)) → length (somes xs) ≤ length xs
length_somes [] = omega arith
length_somes (None ∷ xs) = let r = length_somes xs in omega arith
length_somes (Some x ∷ xs) = let r = length_somes xs in omega arith

pub length_more : {A : Type 0} (xs : List (Option A)) (o : Option A) → length (somes (xs ++ o ∷ [])) ≡ length (somes xs) + length (somes (o ∷ []))
length_more [] o = omega arith
length_more (None ∷ xs) o = length_more xs o
length_more (Some x ∷ xs) o = let r = length_more xs o in omega arith
