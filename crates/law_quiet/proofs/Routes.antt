-- What goes from each node of a route to the node after it reaches all nodes of the route.
use Rattle.std.proofs.Common.{◌≡◌, ℕ, Bool, true, false, not, ◌&&◌, List, [], ◌∷◌, ◌++◌, refl, sym, ◌∙◌, ap, subst, arith, Some, None, ◌⊎◌, inl, inr}
use Rattle.std.specs.Prelude.{◌==◌, nat_le, length, reverse, if◌then◌else◌}
use Rattle.std.specs.List.{list_any}
use Rattle.std.proofs.lemmas.List.{reverse-append}
use Rattle.qkd_base.specs.Route.{is_distinct, is_route, first_of, last_of, next_after}
use Rattle.qkd_base.proofs.Routes.{two_of}
use Rattle.net_model.specs.Knowledge.{IsOn}
use Rattle.law_base.proofs.Base.{eq_same, eq_from, and_left, and_right, or_left, or_right, or_cases, was_not, not_both}

-- A node that has a next one is on the route.
pub has_next : (route : List ℕ) (u v : ℕ) → next_after route u ≡ Some v → IsOn route u
has_next [] u v h = cc
has_next (a ∷ []) u v h = cc
has_next (a ∷ b ∷ rest) u v h = elim (a == u) as (λ t. (if t then Some b else next_after (b ∷ rest) u) ≡ Some v → (a == u) ≡ t → IsOn (a ∷ b ∷ rest) u) [
  | true ↦ λ x e. or_left (a == u) _ e
  | false ↦ λ x e. or_right (a == u) _ (has_next (b ∷ rest) u v x)
] h refl

-- A step among the later nodes is a step of the route.
steps_later : (a b : ℕ) (rest : List ℕ) (u v : ℕ) → is_distinct (a ∷ b ∷ rest) ≡ true → next_after (b ∷ rest) u ≡ Some v → next_after (a ∷ b ∷ rest) u ≡ Some v
steps_later a b rest u v d h =
    elim (a == u) as (λ t. (a == u) ≡ t → (if t then Some b else next_after (b ∷ rest) u) ≡ Some v) [
      | true ↦ λ e. absurd (not_both (list_any (λ x. x == a) (b ∷ rest)) (subst (λ (x : ℕ). IsOn (b ∷ rest) x) (sym (eq_from a u e)) (has_next (b ∷ rest) u v h))
          (was_not _ (and_left (not (list_any (λ x. x == a) (b ∷ rest))) (is_distinct (b ∷ rest)) d)))
      | false ↦ λ e. h
    ] refl

others_differ : (a b : ℕ) (rest : List ℕ) → is_distinct (a ∷ b ∷ rest) ≡ true → is_distinct (b ∷ rest) ≡ true
others_differ a b rest d = and_right (not (list_any (λ x. x == a) (b ∷ rest))) (is_distinct (b ∷ rest)) d

module _ (K : ℕ → Bool) where
  -- If a node of the route has it, so does the node after.
  abbrev GoesOn : List ℕ → Type 0
  GoesOn route = (u v : ℕ) → next_after route u ≡ Some v → K u ≡ true → K v ≡ true

  pub reaches_all : (route : List ℕ) → is_distinct route ≡ true → GoesOn route → K (first_of route) ≡ true → (v : ℕ) → IsOn route v → K v ≡ true
  reaches_all [] d g first v on = cc
  reaches_all (a ∷ []) d g first v on = elim (or_cases (a == v) false on) [
    | inl is ↦ subst (λ (x : ℕ). K x ≡ true) (eq_from a v is) first
    | inr other ↦ cc
  ]
  reaches_all (a ∷ b ∷ rest) d g first v on = elim (or_cases (a == v) (list_any (λ x. x == v) (b ∷ rest)) on) [
    | inl is ↦ subst (λ (x : ℕ). K x ≡ true) (eq_from a v is) first
    | inr later ↦
        reaches_all (b ∷ rest) (others_differ a b rest d) (λ x y h. g x y (steps_later a b rest x y d h))
        (g a b (ap (λ (t : Bool). if t then Some b else next_after (b ∷ rest) a) (eq_same a)) first) v later
  ]

-- The last node is on the route, and differs from the first.

last_in : (a : ℕ) (rest : List ℕ) → IsOn (a ∷ rest) (last_of (a ∷ rest))
last_in a [] = or_left (a == a) false (eq_same a)
last_in a (b ∷ rest) = or_right (a == last_of (b ∷ rest)) _ (last_in b rest)

pub last_on : (route : List ℕ) → is_route route ≡ true → IsOn route (last_of route)
last_on [] h = let x = two_of [] h in absurd (omega arith)
last_on (a ∷ rest) h = last_in a rest

pub ends_differ : (route : List ℕ) → is_route route ≡ true → first_of route ≡ last_of route → ⊥
ends_differ [] h e = let x = two_of [] h in absurd (omega arith)
ends_differ (a ∷ []) h e = let x = two_of (a ∷ []) h in absurd (omega arith)
ends_differ (a ∷ b ∷ rest) h e =
    let differ = and_right (nat_le 2 (length (a ∷ b ∷ rest)) && nat_le (length (a ∷ b ∷ rest)) 9) (is_distinct (a ∷ b ∷ rest)) h in
    let last : IsOn (b ∷ rest) (last_of (b ∷ rest)) = last_in b rest in
    not_both (list_any (λ x. x == a) (b ∷ rest)) (subst (λ (x : ℕ). IsOn (b ∷ rest) x) (sym e) last) (was_not _ (and_left (not (list_any (λ x. x == a) (b ∷ rest))) (is_distinct (b ∷ rest)) differ))

-- A step of the reversed route is a step of the route the other way.

pub last_push : (xs : List ℕ) (a : ℕ) → last_of (xs ++ a ∷ []) ≡ a
last_push [] a = refl
last_push (x ∷ []) a = refl
last_push (x ∷ y ∷ xs) a = last_push (y ∷ xs) a

next_push : (xs : List ℕ) (a u v : ℕ) → next_after (xs ++ a ∷ []) u ≡ Some v → (next_after xs u ≡ Some v) ⊎ ((last_of xs ≡ u) × (a ≡ v))
next_push [] a u v h = cc
next_push (x ∷ []) a u v h = elim (x == u) as (λ t. (x == u) ≡ t → (if t then Some a else None) ≡ Some v → (None ≡ Some v) ⊎ ((x ≡ u) × (a ≡ v))) [
  | true ↦ λ e k. inr (eq_from x u e, cc)
  | false ↦ λ e k. inl k
] refl h
next_push (x ∷ y ∷ xs) a u v h =
    elim (x == u) as (λ t. (if t then Some y else next_after (y ∷ (xs ++ a ∷ [])) u) ≡ Some v →
    ((if t then Some y else next_after (y ∷ xs) u) ≡ Some v) ⊎ ((last_of (y ∷ xs) ≡ u) × (a ≡ v))) [
      | true ↦ λ k. inl k
      | false ↦ λ k. next_push (y ∷ xs) a u v k
    ] h

pub next_reverse : (route : List ℕ) → is_distinct route ≡ true → (u v : ℕ) → next_after (reverse route) u ≡ Some v → next_after route v ≡ Some u
next_reverse [] d u v h = cc
next_reverse (a ∷ []) d u v h =
    let turned : reverse (a ∷ []) ≡ reverse [] ++ a ∷ [] = reverse-append (a ∷ []) [] in
    let none : next_after (a ∷ []) u ≡ Some v = ap (λ (r : List ℕ). next_after r u) (sym turned) ∙ h in
    cc
next_reverse (a ∷ b ∷ rest) d u v h =
    let turned : reverse (a ∷ b ∷ rest) ≡ reverse (b ∷ rest) ++ a ∷ [] = reverse-append (a ∷ []) (b ∷ rest) in
    let first : reverse (b ∷ rest) ≡ reverse rest ++ b ∷ [] = reverse-append (b ∷ []) rest in
    elim (next_push (reverse (b ∷ rest)) a u v (ap (λ (r : List ℕ). next_after r u) (sym turned) ∙ h)) [
      | inl early ↦ steps_later a b rest v u d (next_reverse (b ∷ rest) (others_differ a b rest d) u v early)
      | inr (last, is) ↦
          let here : b ≡ u = sym (last_push (reverse rest) b) ∙ ap last_of (sym first) ∙ last in
          ap (λ (t : Bool). if t then Some b else next_after (b ∷ rest) v) (ap (λ (x : ℕ). x == v) is ∙ eq_same v) ∙ ap Some here
    ]
