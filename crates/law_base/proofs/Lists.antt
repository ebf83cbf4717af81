-- Lemmas on lists that gain or lose an item, and on transmissions that compare equal.
use Rattle.std.proofs.Common.{◌≡◌, ℕ, zero, suc, ◌+◌, ◌-◌, ◌≤◌, replicate, length-append, Bool, true, false, ◌&&◌, ◌||◌, List, [], ◌∷◌, ◌++◌, length, refl, sym, ◌∙◌, ap, subst, arith, Option, Some, None, ◌⊎◌, inl, inr}
use Rattle.std.specs.Prelude.{◌==◌, slice_get, find, filter, map, if◌then◌else◌}
use Rattle.std.specs.List.{list_any, AllByRecursion}
use Rattle.std.proofs.lemmas.Option.{slice_get_within}
use Rattle.std.proofs.lemmas.List.{length-replicate}
use Rattle.qkd_base.specs.Lane.{lane_eq, way_eq, reverse_lane, reverse_way}
use Rattle.qkd_base.specs.Family.{lane_set}
use Rattle.qkd_base.specs.declared.lane.Way.{Way}
use Rattle.qkd_base.specs.declared.lane.Way.TheVariants.{Up, Down}
use Rattle.qkd_base.specs.declared.lane.Lane.{Lane}
use Rattle.net_model.specs.declared.fact.Fact.{Fact}
use Rattle.net_model.specs.Item.{Item, DataItem, AckItem, item_eq, need}
use Rattle.net_model.specs.World.{Transmission, Owner, Burnt, needs}
use Rattle.net_model.specs.Window.{offset_eq, transmission_eq}
use Rattle.net_model.specs.Frames.{without}
use Rattle.net_model.specs.Start.{burnt_to}
use Rattle.law_base.proofs.Base.{slice_get-append_left, slice_get-append_right, get_cases, eq_from, eq_same, name_eq_from, name_eq_same, lane_eq_from, and_left, and_right, and_both, or_cases, or_left, or_right, lane_same}

pub get_prefix : {A : Type 0} (xs ys : List A) (i : ℕ) (a : A) → slice_get xs i ≡ Some a → slice_get (xs ++ ys) i ≡ Some a
get_prefix xs ys i a h = slice_get-append_left xs ys i (slice_get_within xs i a h) ∙ h

pub get_last : {A : Type 0} (xs : List A) (y : A) → slice_get (xs ++ y ∷ []) (length xs) ≡ Some y
get_last {A} xs y = let e : length xs ≡ length xs + 0 = omega arith in ap (slice_get {X = A} (xs ++ y ∷ [])) e ∙ slice_get-append_right xs (y ∷ []) 0

-- An item of a list with one more at its end is an older item or the new one.
pub last_cases : {A : Type 0} (xs : List A) (y : A) (i : ℕ) (a : A) → slice_get (xs ++ y ∷ []) i ≡ Some a →
    (slice_get xs i ≡ Some a) ⊎ ((i ≡ length xs) × (y ≡ a))
last_cases {A} xs y i a h = elim (get_cases xs (y ∷ []) i) [
  | inl (within, same) ↦ inl (sym same ∙ h)
  | inr (zero, at, same) ↦ let e : ◌≡◌ {A = Option A} (Some y) (Some a) = sym same ∙ h in inr (omega arith, cc)
  | inr (suc k, at, same) ↦ let e : ◌≡◌ {A = Option A} None (Some a) = sym same ∙ h in absurd (cc)
]

-- An item of a concatenation is one of the first list or of the second.
pub both_cases : {A : Type 0} (xs ys : List A) (i : ℕ) (a : A) → slice_get (xs ++ ys) i ≡ Some a →
    (slice_get xs i ≡ Some a) ⊎ ((k : ℕ) × (slice_get ys k ≡ Some a))
both_cases xs ys i a h = elim (get_cases xs ys i) [
  | inl (within, same) ↦ inl (sym same ∙ h)
  | inr (k, at, same) ↦ inr (k, sym same ∙ h)
]

pub found_at : {A : Type 0} (p : A → Bool) (xs : List A) (a : A) → find p xs ≡ Some a → (k : ℕ) × (slice_get xs k ≡ Some a)
found_at p [] a h = cc
found_at {A} p (x ∷ xs) a h =
    elim (p x) as (λ t. (if t then Some x else find p xs) ≡ Some a → (k : ℕ) × (slice_get (x ∷ xs) k ≡ Some a)) [
      | true ↦ λ e. (zero, e)
      | false ↦ λ e. let r = found_at p xs a e in (suc r.0, r.1)
    ] h

pub any_at : {A : Type 0} (p : A → Bool) (xs : List A) → list_any p xs ≡ true → (k : ℕ) × (a : A) × (slice_get xs k ≡ Some a) × (p a ≡ true)
any_at p [] h = cc
any_at {A} p (x ∷ xs) h =
    elim (or_cases (p x) (list_any p xs) h) [
      | inl e ↦ (zero, x, refl, e)
      | inr e ↦ let r = any_at p xs e in (suc r.0, r.1, r.2, r.3)
    ]

abbrev IsIn : {A : Type 0} → (A → Bool) → List A → A → Type 0
IsIn p xs a = (k : ℕ) × (slice_get xs k ≡ Some a) × (p a ≡ true)

kept_first : {A : Type 0} (p : A → Bool) (x : A) (xs ys : List A) (a : A) → p x ≡ true → ((n : ℕ) → slice_get ys n ≡ Some a → IsIn p xs a) →
    (i : ℕ) → slice_get (x ∷ ys) i ≡ Some a → IsIn p (x ∷ xs) a
kept_first p x xs ys a e rest zero h = let is : x ≡ a = cc in (zero, h, ap p (sym is) ∙ e)
kept_first p x xs ys a e rest (suc n) h = let r = rest n h in (suc r.0, r.1, r.2)

-- An item that a filter keeps was in the list and passes the test.
pub kept_at : {A : Type 0} (p : A → Bool) (xs : List A) (a : A) (i : ℕ) → slice_get (filter p xs) i ≡ Some a → (k : ℕ) × (slice_get xs k ≡ Some a) × (p a ≡ true)
kept_at p [] a i h = cc
kept_at {A} p (x ∷ xs) a i h =
    elim (p x) as (λ t. p x ≡ t → slice_get (if t then x ∷ filter p xs else filter p xs) i ≡ Some a → IsIn p (x ∷ xs) a) [
      | true ↦ λ e g. kept_first p x xs (filter p xs) a e (kept_at p xs a) i g
      | false ↦ λ e g. let r = kept_at p xs a i g in (suc r.0, r.1, r.2)
    ] refl h

pub mapped_at : {A B : Type 0} (f : A → B) (xs : List A) (y : B) (i : ℕ) → slice_get (map f xs) i ≡ Some y → (x : A) × (slice_get xs i ≡ Some x) × (f x ≡ y)
mapped_at f [] y i h = cc
mapped_at f (x ∷ xs) y zero h = (x, refl, cc)
mapped_at f (x ∷ xs) y (suc i) h = mapped_at f xs y i h

-- A predicate that holds of all items of two lists holds of all items of their concatenation.

pub all_both : {A : Type 0} (P : A → Type 0) (xs ys : List A) → AllByRecursion P xs → AllByRecursion P ys → AllByRecursion P (xs ++ ys)
all_both P [] ys h k = k
all_both P (x ∷ xs) ys h k = (h.0, all_both P xs ys h.1 k)

pub all_at : {A : Type 0} (P : A → Type 0) (xs : List A) (i : ℕ) (x : A) → AllByRecursion P xs → slice_get xs i ≡ Some x → P x
all_at P [] i x h e = cc
all_at P (y ∷ ys) zero x h e = let is : y ≡ x = cc in subst P is h.0
all_at P (y ∷ ys) (suc i) x h e = all_at P ys i x h.1 e

pub all_from : {A : Type 0} (P : A → Type 0) (xs : List A) → ((i : ℕ) (x : A) → slice_get xs i ≡ Some x → P x) → AllByRecursion P xs
all_from P [] h = tt
all_from P (x ∷ xs) h = (h zero x refl, all_from P xs (λ i y e. h (suc i) y e))

pub all_kept : {A : Type 0} (P : A → Type 0) (p : A → Bool) (xs : List A) → AllByRecursion P xs → AllByRecursion P (filter p xs)
all_kept P p [] h = tt
all_kept {A} P p (x ∷ xs) h = elim (p x) as (λ t. AllByRecursion P (if t then x ∷ filter p xs else filter p xs)) [
  | true ↦ (h.0, all_kept P p xs h.1)
  | false ↦ all_kept P p xs h.1
]

pub all_made : {A B : Type 0} (P : B → Type 0) (f : A → B) (p : A → Bool) (xs : List A) → ((i : ℕ) (x : A) → slice_get xs i ≡ Some x → p x ≡ true → P (f x)) →
    AllByRecursion P (map f (filter p xs))
all_made P f p xs h = all_from P (map f (filter p xs)) (λ i y e.
    let r = mapped_at f (filter p xs) y i e in
    let k = kept_at p xs r.0 i r.1 in
    subst P r.2 (h k.0 r.0 k.1 k.2))

pub any_of : {A : Type 0} (p : A → Bool) (xs : List A) (x : A) (i : ℕ) → slice_get xs i ≡ Some x → p x ≡ true → list_any p xs ≡ true
any_of p [] x i e h = cc
any_of p (y ∷ ys) x zero e h = let is : y ≡ x = cc in or_left (p y) (list_any p ys) (ap p is ∙ h)
any_of p (y ∷ ys) x (suc i) e h = or_right (p y) (list_any p ys) (any_of p ys x i e h)

-- Lemmas on tests of lanes, items and transmissions.

pub lane_set_same : {A : Type 0} (f : Lane → A) (l : Lane) (a : A) → lane_set f l a l ≡ a
lane_set_same f l a = rw (lane_same l) refl

way_twice : (d : Way) → reverse_way (reverse_way d) ≡ d
way_twice Up = refl
way_twice Down = refl

pub reverse_twice : (l : Lane) → reverse_lane (reverse_lane l) ≡ l
reverse_twice l = λ i. record { link = l.link; way = way_twice l.way i }

pub item_from : (a b : Item) → item_eq a b ≡ true → a ≡ b
item_from (DataItem m) (DataItem n) h = ap DataItem (name_eq_from m n h)
item_from (DataItem m) (AckItem n) h = cc
item_from (AckItem m) (DataItem n) h = cc
item_from (AckItem m) (AckItem n) h = ap AckItem (name_eq_from m n h)

pub item_same : (a : Item) → item_eq a a ≡ true
item_same (DataItem n) = name_eq_same n
item_same (AckItem n) = name_eq_same n

pub offset_from : (a b : Option ℕ) → offset_eq a b ≡ true → a ≡ b
offset_from None None h = refl
offset_from None (Some b) h = cc
offset_from (Some a) None h = cc
offset_from (Some a) (Some b) h = ap Some (eq_from a b h)

pub offset_same : (a : Option ℕ) → offset_eq a a ≡ true
offset_same None = refl
offset_same (Some a) = eq_same a

pub transmission_from : (a b : Transmission) → transmission_eq a b ≡ true → a ≡ b
transmission_from a b h =
    let prefix = and_left (lane_eq a.lane b.lane && item_eq a.item b.item) (offset_eq a.received_offset b.received_offset) h in
    let lane = lane_eq_from a.lane b.lane (and_left (lane_eq a.lane b.lane) (item_eq a.item b.item) prefix) in
    let item = item_from a.item b.item (and_right (lane_eq a.lane b.lane) (item_eq a.item b.item) prefix) in
    let offset = offset_from a.received_offset b.received_offset (and_right (lane_eq a.lane b.lane && item_eq a.item b.item) (offset_eq a.received_offset b.received_offset) h) in
    λ i. record { lane = lane i; item = item i; received_offset = offset i }

pub transmission_same : (a : Transmission) → transmission_eq a a ≡ true
transmission_same a =
    and_both (lane_eq a.lane a.lane && item_eq a.item a.item) (offset_eq a.received_offset a.received_offset)
    (and_both (lane_eq a.lane a.lane) (item_eq a.item a.item) (lane_same a.lane) (item_same a.item)) (offset_same a.received_offset)

-- The remaining orders after one of them was given its bytes.

pub order_at : (t : Transmission) (ts : List Transmission) → list_any (transmission_eq t) ts ≡ true → (k : ℕ) × (slice_get ts k ≡ Some t)
order_at t ts h = let r = any_at (transmission_eq t) ts h in (r.0, r.2 ∙ ap Some (sym (transmission_from t r.1 r.3)))

pub needs-without : (facts : List Fact) (t : Transmission) (ts : List Transmission) → list_any (transmission_eq t) ts ≡ true →
    needs facts ts ≡ need facts t.item + needs facts (without t ts)
needs-without facts t [] h = cc
needs-without facts t (x ∷ xs) h =
    elim (transmission_eq t x) as (λ b. transmission_eq t x ≡ b → (b || list_any (transmission_eq t) xs) ≡ true →
    need facts x.item + needs facts xs ≡ need facts t.item + needs facts (if b then xs else x ∷ without t xs)) [
      | true ↦ λ e g. ap (λ (y : Transmission). need facts y.item + needs facts xs) (sym (transmission_from t x e))
      | false ↦ λ e g. omega (arith, needs-without facts t xs g)
    ] refl h

later_order : (y : Transmission) (ys zs : List Transmission) (x : Transmission) → ((n : ℕ) → slice_get zs n ≡ Some x → (k : ℕ) × (slice_get ys k ≡ Some x)) →
    (j : ℕ) → slice_get (y ∷ zs) j ≡ Some x → (k : ℕ) × (slice_get (y ∷ ys) k ≡ Some x)
later_order y ys zs x rest zero h = (zero, h)
later_order y ys zs x rest (suc n) h = let r = rest n h in (suc r.0, r.1)

pub order_before : (t : Transmission) (ts : List Transmission) (x : Transmission) (j : ℕ) → slice_get (without t ts) j ≡ Some x → (k : ℕ) × (slice_get ts k ≡ Some x)
order_before t [] x j h = cc
order_before t (y ∷ ys) x j h =
    elim (transmission_eq t y) as (λ b. slice_get (if b then ys else y ∷ without t ys) j ≡ Some x → (k : ℕ) × (slice_get (y ∷ ys) k ≡ Some x)) [
      | true ↦ λ g. (suc j, g)
      | false ↦ λ g. later_order y ys (without t ys) x (order_before t ys x) j g
    ] h

-- After a lane was burnt up to its lease, the number of owned bytes is the lease.
pub burnt_length : (lease : ℕ) (own : List Owner) → length own ≤ lease → length (burnt_to lease own) ≡ lease
burnt_length lease own h = omega (arith, h, length-append own (replicate (lease - length own) Burnt), length-replicate (lease - length own) Burnt)
