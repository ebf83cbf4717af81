-- The number of items of a list that pass a test.
use Rattle.std.proofs.Common.{◌≡◌, ℕ, zero, suc, ◌+◌, ◌<◌, ◌≤◌, ◌≢◌, Bool, true, false, cond, not, ◌&&◌, List, [], ◌∷◌, ◌++◌, length, refl, ◌∙◌, ap, arith, take, Some}
use Rattle.std.specs.Prelude.{slice_get}
use Rattle.end_store.proofs.Counted.{number_of}

pub one_of : (b : Bool) → b ≡ true → ◌≡◌ {A = ℕ} (cond b 1 0) 1
one_of true h = refl
one_of false h = cc

pub none_of : (b : Bool) → b ≡ false → ◌≡◌ {A = ℕ} (cond b 1 0) 0
none_of true h = cc
none_of false h = refl

at_most_one : (b : Bool) → cond b 1 0 ≤ 1
at_most_one true = omega arith
at_most_one false = omega arith

-- the number after one more item at the end
pub number-push : {A : Type 0} (t : A → Bool) (xs : List A) (x : A) → number_of t (xs ++ x ∷ []) ≡ number_of t xs + cond (t x) 1 0
number-push t [] x = omega arith
number-push t (y ∷ ys) x = let r = number-push t ys x in omega arith

pub number_within : {A : Type 0} (t : A → Bool) (xs : List A) → number_of t xs ≤ length xs
number_within t [] = omega arith
number_within t (y ∷ ys) = let r = number_within t ys in let b = at_most_one (t y) in omega arith

-- the number up to a place, if no item before it passes from `from` on
pub number_upto : {A : Type 0} (t : A → Bool) (xs : List A) (from place : ℕ) (x : A) → from ≤ place → ((d : ℕ) (z : A) → from ≤ d → d < place → slice_get xs d ≡ Some z → t z ≡ false) →
    slice_get xs place ≡ Some x → number_of t (take (suc place) xs) ≡ number_of t (take from xs) + cond (t x) 1 0
number_upto t [] from place x le none g = cc
number_upto {A} t (y ∷ ys) zero zero x le none g = let same : y ≡ x = cc in let e : ◌≡◌ {A = ℕ} (cond (t y) 1 0) (cond (t x) 1 0) = ap (λ (z : A). cond (t z) 1 0) same in omega arith
number_upto t (y ∷ ys) zero (suc p) x le none g =
    let first = none_of (t y) (none 0 y (omega arith) (omega arith) refl) in
    let r = number_upto t ys 0 p x (omega arith) (λ d z low high k. none (suc d) z (omega arith) (omega arith) k) g in
    omega arith
number_upto t (y ∷ ys) (suc f) zero x le none g = absurd (omega arith)
number_upto t (y ∷ ys) (suc f) (suc p) x le none g =
    let r = number_upto t ys f p x (omega arith) (λ d z low high k. none (suc d) z (omega arith) (omega arith) k) g in
    omega arith

-- if no item passes from a place on, the number up to this place is that of all
pub number_rest : {A : Type 0} (t : A → Bool) (xs : List A) (from : ℕ) → ((d : ℕ) (z : A) → from ≤ d → slice_get xs d ≡ Some z → t z ≡ false) → number_of t (take from xs) ≡ number_of t xs
number_rest t [] zero none = refl
number_rest t [] (suc f) none = refl
number_rest t (y ∷ ys) zero none =
    let first = none_of (t y) (none 0 y (omega arith) refl) in
    let r = number_rest t ys 0 (λ d z low k. none (suc d) z (omega arith) k) in
    omega arith
number_rest t (y ∷ ys) (suc f) none =
    let r = number_rest t ys f (λ d z low k. none (suc d) z (omega arith) k) in
    omega arith

-- two tests that agree on all items have the same number
pub number_same : {A : Type 0} (t s : A → Bool) (xs : List A) → ((i : ℕ) (x : A) → slice_get xs i ≡ Some x → t x ≡ s x) → number_of t xs ≡ number_of s xs
number_same t s [] h = refl
number_same t s (x ∷ xs) h =
    let e : ◌≡◌ {A = ℕ} (cond (t x) 1 0) (cond (s x) 1 0) = ap (λ (b : Bool). cond b 1 0) (h 0 x refl) in
    let r = number_same t s xs (λ i y g. h (suc i) y g) in
    omega arith

-- if two tests agree on all items but one, the numbers of items that pass them differ by one
pub number_one : {A : Type 0} (t s : A → Bool) (xs : List A) (i : ℕ) (x : A) → slice_get xs i ≡ Some x → t x ≡ false → s x ≡ true →
    ((j : ℕ) (y : A) → slice_get xs j ≡ Some y → j ≢ i → s y ≡ t y) → number_of s xs ≡ number_of t xs + 1
number_one t s [] i x g miss hit others = cc
number_one t s (y ∷ ys) zero x g miss hit others =
    let same : y ≡ x = cc in
    let a = none_of (t y) (ap t same ∙ miss) in
    let b = one_of (s y) (ap s same ∙ hit) in
    let r = number_same s t ys (λ j z k. others (suc j) z k (omega arith)) in
    omega arith
number_one t s (y ∷ ys) (suc i) x g miss hit others =
    let e : ◌≡◌ {A = ℕ} (cond (s y) 1 0) (cond (t y) 1 0) = ap (λ (b : Bool). cond b 1 0) (others 0 y refl (omega arith)) in
    let r = number_one t s ys i x g miss hit (λ j z k apart. others (suc j) z k (omega arith)) in
    omega arith

-- the number of items that pass a test is the sum of those that also pass a second one and those that don't
both : (a b : Bool) → cond (a && not b) 1 0 + cond (a && b) 1 0 ≡ cond a 1 0
both true true = refl
both true false = refl
both false b = refl

pub number_split : {A : Type 0} (t s : A → Bool) (xs : List A) → number_of (λ x. t x && not (s x)) xs + number_of (λ x. t x && s x) xs ≡ number_of t xs
number_split t s [] = refl
number_split t s (x ∷ xs) = let b = both (t x) (s x) in let r = number_split t s xs in omega arith

-- a list is all its items but the last one, followed by the last one
pub last_at : {A : Type 0} (xs : List A) (x : A) (k : ℕ) → suc k ≡ length xs → slice_get xs k ≡ Some x → xs ≡ take k xs ++ x ∷ []
last_at [] x k e h = cc
last_at (y ∷ []) x zero e h = let same : y ≡ x = cc in ap (λ (z : _). z ∷ []) same
last_at (y ∷ z ∷ zs) x zero e h = absurd (omega arith)
last_at (y ∷ ys) x (suc k) e h = ap (λ (zs : _). y ∷ zs) (last_at ys x k (omega arith) h)
