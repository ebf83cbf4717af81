-- Lemmas on the tests and look-ups of numbers, lanes, names and lists.
use Rattle.std.proofs.Common.{not, ◌≡◌, ℕ, zero, suc, ◌+◌, ◌-◌, ◌<◌, ◌≤◌, Bool, true, false, ◌&&◌, ◌||◌, List, [], ◌∷◌, ◌++◌, length, refl, sym, ◌∙◌, ap, subst, arith, Some, ◌⊎◌, inl, inr, replicate}
use Rattle.std.specs.Prelude.{◌==◌, nat_lt, slice_get, if◌then◌else◌}
use Rattle.std.proofs.lemmas.Bool.Decides.{nat_tests}
use Rattle.qkd_base.specs.Name.{Name, kind_number, name_eq}
use Rattle.qkd_base.specs.Lane.{way_eq, lane_eq}
use Rattle.qkd_base.specs.Family.{number_set}
use Rattle.qkd_base.specs.declared.lane.Way.{Way}
use Rattle.qkd_base.specs.declared.lane.Way.TheVariants.{Up, Down}
use Rattle.qkd_base.specs.declared.lane.Lane.{Lane}
use Rattle.qkd_base.specs.declared.key_name.NameKind.{NameKind}
use Rattle.qkd_base.specs.declared.key_name.NameKind.TheVariants.{Key, Stream, Note}

-- Lemmas on tests of numbers.

pub eq_same : (a : ℕ) → (a == a) ≡ true
eq_same a = grind (arith, nat_tests)

pub eq_from : (a b : ℕ) → (a == b) ≡ true → a ≡ b
eq_from a b h = grind (arith, nat_tests)

pub below_from : (a b : ℕ) → a ≤ b → (a == b) ≡ false → a < b
below_from a b h ne = grind (arith, nat_tests)

pub number_set_same : {A : Type 0} (f : ℕ → A) (k : ℕ) (a : A) → number_set f k a k ≡ a
number_set_same f k a = rw (eq_same k) refl

-- Lemmas on tests of lanes.

pub way_eq_from : (a b : Way) → way_eq a b ≡ true → a ≡ b
way_eq_from Up Up h = refl
way_eq_from Up Down h = cc
way_eq_from Down Up h = cc
way_eq_from Down Down h = refl

pub and_left : (a b : Bool) → (a && b) ≡ true → a ≡ true
and_left true b h = refl
and_left false b h = h

pub and_right : (a b : Bool) → (a && b) ≡ true → b ≡ true
and_right true b h = h
and_right false b h = cc

pub lane_eq_from : (a b : Lane) → lane_eq a b ≡ true → a ≡ b
lane_eq_from a b h =
    let link = eq_from a.link b.link (and_left (a.link == b.link) (way_eq a.way b.way) h) in
    let way = way_eq_from a.way b.way (and_right (a.link == b.link) (way_eq a.way b.way) h) in
    λ i. record { link = link i; way = way i }

pub lane_same : (l : Lane) → lane_eq l l ≡ true
lane_same l = elim l.way as (λ w. ((l.link == l.link) && way_eq w w) ≡ true) [ Up ↦ ap (λ (t : Bool). t && true) (eq_same l.link) | Down ↦ ap (λ (t : Bool). t && true) (eq_same l.link) ]

-- Lemmas on tests of names.

pub kind_from : (a b : NameKind) → kind_number a ≡ kind_number b → a ≡ b
kind_from Key Key h = refl
kind_from Key Stream h = absurd (omega arith)
kind_from Key Note h = absurd (omega arith)
kind_from Stream Key h = absurd (omega arith)
kind_from Stream Stream h = refl
kind_from Stream Note h = absurd (omega arith)
kind_from Note Key h = absurd (omega arith)
kind_from Note Stream h = absurd (omega arith)
kind_from Note Note h = refl

pub name_eq_from : (a b : Name) → name_eq a b ≡ true → a ≡ b
name_eq_from a b h =
    let prefix = and_left ((a.node == b.node) && (kind_number a.kind == kind_number b.kind)) (a.count == b.count) h in
    let node = eq_from a.node b.node (and_left (a.node == b.node) (kind_number a.kind == kind_number b.kind) prefix) in
    let kind = kind_from a.kind b.kind (eq_from (kind_number a.kind) (kind_number b.kind) (and_right (a.node == b.node) (kind_number a.kind == kind_number b.kind) prefix)) in
    let count = eq_from a.count b.count (and_right ((a.node == b.node) && (kind_number a.kind == kind_number b.kind)) (a.count == b.count) h) in
    λ i. record { node = node i; kind = kind i; count = count i }

pub name_eq_same : (a : Name) → name_eq a a ≡ true
name_eq_same a = simp eq_same

-- Lemmas on lists.

pub split : (a b : ℕ) → (a < b) ⊎ ((k : ℕ) × (a ≡ b + k))
split a b = elim (nat_lt a b) as (λ t. nat_lt a b ≡ t → (a < b) ⊎ ((k : ℕ) × (a ≡ b + k))) [
  | true ↦ λ e. inl (grind (arith, nat_tests))
  | false ↦ λ e. let le : b ≤ a = grind (arith, nat_tests) in inr (a - b, omega arith)
] refl

pub slice_get-append_left : {A : Type 0} (xs ys : List A) (i : ℕ) → i < length xs → slice_get (xs ++ ys) i ≡ slice_get xs i
slice_get-append_left [] ys i h = absurd (omega arith)
slice_get-append_left (x ∷ xs) ys zero h = refl
slice_get-append_left (x ∷ xs) ys (suc i) h = slice_get-append_left xs ys i (omega arith)

pub slice_get-append_right : {A : Type 0} (xs ys : List A) (i : ℕ) → slice_get (xs ++ ys) (length xs + i) ≡ slice_get ys i
slice_get-append_right [] ys i = let e : 0 + i ≡ i = omega arith in ap (slice_get ys) e
slice_get-append_right {A} (x ∷ xs) ys i =
    let e : suc (length xs) + i ≡ suc (length xs + i) = omega arith in
    ap (slice_get {X = A} (x ∷ (xs ++ ys))) e ∙ slice_get-append_right xs ys i

-- An item of a concatenation stands in the first list or in the second.
pub get_cases : {A : Type 0} (xs ys : List A) (i : ℕ) →
    ((i < length xs) × (slice_get (xs ++ ys) i ≡ slice_get xs i)) ⊎
    ((k : ℕ) × (i ≡ length xs + k) × (slice_get (xs ++ ys) i ≡ slice_get ys k))
get_cases xs ys i = elim (split i (length xs)) [
  | inl h ↦ inl (h, slice_get-append_left xs ys i h)
  | inr (k, e) ↦ inr (k, e, ap (slice_get (xs ++ ys)) e ∙ slice_get-append_right xs ys k)
]

pub slice_get-replicate : {A : Type 0} (n : ℕ) (x : A) (i : ℕ) → i < n → slice_get (replicate n x) i ≡ Some x
slice_get-replicate zero x i h = absurd (omega arith)
slice_get-replicate (suc n) x zero h = refl
slice_get-replicate (suc n) x (suc i) h = slice_get-replicate n x i (omega arith)

-- What holds at one lane and at each other lane holds at every lane.
pub by_lane : (P : Lane → Bool → Type 0) (l : Lane) → P l true → ((k : Lane) → P k false) → (k : Lane) → P k (lane_eq k l)
by_lane P l here there k = elim (lane_eq k l) as (λ t. lane_eq k l ≡ t → P k t) [
  | true ↦ λ e. subst (λ (x : Lane). P x true) (sym (lane_eq_from k l e)) here
  | false ↦ λ e. there k
] refl

pub by_number : (P : ℕ → Bool → Type 0) (l : ℕ) → P l true → ((k : ℕ) → (k ≡ l → ⊥) → P k false) → (k : ℕ) → P k (k == l)
by_number P l here there k = elim (k == l) as (λ t. (k == l) ≡ t → P k t) [
  | true ↦ λ e. subst (λ (x : ℕ). P x true) (sym (eq_from k l e)) here
  | false ↦ λ e. there k (λ p. grind (arith, nat_tests))
] refl

pub by_other_lane : (P : Lane → Bool → Type 0) (l : Lane) → P l true → ((k : Lane) → lane_eq k l ≡ false → P k false) → (k : Lane) → P k (lane_eq k l)
by_other_lane P l here there k = elim (lane_eq k l) as (λ t. lane_eq k l ≡ t → P k t) [
  | true ↦ λ e. subst (λ (x : Lane). P x true) (sym (lane_eq_from k l e)) here
  | false ↦ λ e. there k e
] refl

pub and_true : (b : Bool) → (b && true) ≡ false → b ≡ false
and_true true h = h
and_true false h = refl

-- Lemmas on boolean tests.

pub or_cases : (a b : Bool) → (a || b) ≡ true → (a ≡ true) ⊎ (b ≡ true)
or_cases true b h = inl refl
or_cases false b h = inr h

pub or_left : (a b : Bool) → a ≡ true → (a || b) ≡ true
or_left true b h = refl
or_left false b h = cc

pub or_right : (a b : Bool) → b ≡ true → (a || b) ≡ true
or_right true b h = refl
or_right false b h = h

pub or_first : (a b : Bool) → (a || b) ≡ false → a ≡ false
or_first true b h = h
or_first false b h = refl

pub or_second : (a b : Bool) → (a || b) ≡ false → b ≡ false
or_second true b h = cc
or_second false b h = h

pub or_both : (a b : Bool) → a ≡ false → b ≡ false → (a || b) ≡ false
or_both true b h k = cc
or_both false b h k = k

pub or_same : (b c : Bool) → c ≡ false → (b || c) ≡ b
or_same true c h = refl
or_same false c h = h

pub and_both : (a b : Bool) → a ≡ true → b ≡ true → (a && b) ≡ true
and_both true b h k = k
and_both false b h k = cc

pub not_false : (b : Bool) → (b ≡ true → ⊥) → b ≡ false
not_false true h = absurd (h refl)
not_false false h = refl

pub not_both : (b : Bool) → b ≡ true → b ≡ false → ⊥
not_both true h k = cc
not_both false h k = cc

pub not_true : (b : Bool) → not b ≡ false → b ≡ true
not_true true h = refl
not_true false h = cc

pub was_not : (b : Bool) → not b ≡ true → b ≡ false
was_not true h = cc
was_not false h = refl

-- An if-expression has the value of the branch that its test chooses.
pub when_true : {A : Type 0} (b : Bool) (x y : A) → b ≡ true → (if b then x else y) ≡ x
when_true true x y h = refl
when_true false x y h = cc

pub when_false : {A : Type 0} (b : Bool) (x y : A) → b ≡ false → (if b then x else y) ≡ y
when_false true x y h = cc
when_false false x y h = refl

-- What holds of both branches holds of the if-expression.
pub by_test : {A : Type 0} (P : A → Type 0) (b : Bool) (x y : A) → (b ≡ true → P x) → (b ≡ false → P y) → P (if b then x else y)
by_test P true x y h k = h refl
by_test P false x y h k = k refl
