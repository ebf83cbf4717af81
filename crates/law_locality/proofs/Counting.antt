-- How often an item is in a list.
use Rattle.std.proofs.Common.{◌≡◌, ℕ, ◌+◌, ◌≤◌, Bool, true, false, cond, ◌||◌, List, [], ◌∷◌, length, refl, sym, ◌∙◌, ap, arith}
use Rattle.std.specs.Prelude.{count_by, filter, if◌then◌else◌}
use Rattle.std.specs.List.{list_any}
use Rattle.std.proofs.lemmas.List.Sums.{length-filter}

-- One if the test holds, else zero.
abbrev pub one_if : Bool → ℕ
one_if t = if t then 1 else 0

filter_more : {A : Type 0} (p : A → Bool) (x : A) (xs : List A) → length (filter p (x ∷ xs)) ≡ one_if (p x) + length (filter p xs)
filter_more p x xs = elim (p x) as (λ t. length (cond t (x ∷ filter p xs) (filter p xs)) ≡ one_if t + length (filter p xs)) [ true ↦ omega arith | false ↦ omega arith ]

pub count_more : {A : Type 0} (p : A → Bool) (x : A) (xs : List A) → count_by p (x ∷ xs) ≡ one_if (p x) + count_by p xs
count_more p x xs = sym (length-filter p (x ∷ xs)) ∙ filter_more p x xs ∙ ap (λ (n : ℕ). one_if (p x) + n) (length-filter p xs)

-- An item that is counted is in the list.
pub counted_is_there : {A : Type 0} (p : A → Bool) (xs : List A) → 1 ≤ count_by p xs → list_any p xs ≡ true
counted_is_there p [] h = absurd (omega (arith, h))
counted_is_there p (x ∷ xs) h = elim (p x) as (λ t. p x ≡ t → (t || list_any p xs) ≡ true) [
  | true ↦ λ e. refl
  | false ↦ λ e. counted_is_there p xs (let more = count_more p x xs in let none : one_if (p x) ≡ 0 = ap one_if e in omega (arith, h, more, none))
] refl

-- A list in which no item is ever counted is empty.
pub none_counted : {A : Type 0} (same : A → A → Bool) → ((x : A) → same x x ≡ true) → (xs : List A) → ((x : A) → count_by (same x) xs ≡ 0) → xs ≡ []
none_counted same self [] h = refl
none_counted same self (x ∷ xs) h =
    let more = count_more (same x) x xs in
    let one : one_if (same x x) ≡ 1 = ap one_if (self x) in
    absurd (omega (arith, h x, more, one))
