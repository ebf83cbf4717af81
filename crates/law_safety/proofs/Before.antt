-- On a route without repeated nodes, every node before one that knows a fact knows it too.
use Rattle.std.proofs.Common.{◌≡◌, ℕ, Bool, true, false, not, ◌&&◌, List, [], ◌∷◌, refl, sym, ◌∙◌, ap, subst, Some, inl, inr}
use Rattle.std.specs.Prelude.{◌==◌, if◌then◌else◌, length, nat_le}
use Rattle.std.specs.List.{list_any}
use Rattle.qkd_base.specs.Name.{Name, has}
use Rattle.qkd_base.specs.Route.{is_distinct, is_route, first_of, next_after}
use Rattle.net_model.specs.declared.fact.Fact.{Fact}
use Rattle.net_model.specs.declared.fact.Fact.TheVariants.{Key, Chunk, Stored, Open, Joined, Part}
use Rattle.net_model.specs.Table.{route_of, fact_at}
use Rattle.net_model.specs.Ranges.{IsRangedFact}
use Rattle.net_model.specs.World.{Network, World}
use Rattle.net_model.specs.Knowledge.{PredecessorKnows}
use Rattle.net_model.specs.Invariant.{Conserved}
use Rattle.law_base.proofs.Base.{eq_same, eq_from, and_left, and_right, or_left, or_right, or_cases, not_both, was_not}
use Rattle.law_safety.specs.Ends.{stands_before}

abbrev IsIn : ℕ → List ℕ → Type 0
IsIn v ns = list_any (λ x. x == v) ns ≡ true

-- The first of different numbers isn't among the others.
first_apart : (a : ℕ) (rest : List ℕ) → is_distinct (a ∷ rest) ≡ true → IsIn a rest → ⊥
first_apart a rest d h = not_both (list_any (λ x. x == a) rest) h (was_not _ (and_left (not (list_any (λ x. x == a) rest)) (is_distinct rest) d))

others_differ : (a : ℕ) (rest : List ℕ) → is_distinct (a ∷ rest) ≡ true → is_distinct rest ≡ true
others_differ a rest d = and_right (not (list_any (λ x. x == a) rest)) (is_distinct rest) d

-- Both nodes of a step are on the route, and the second isn't its first node.
step_from : (rest : List ℕ) (u v : ℕ) → next_after rest u ≡ Some v → IsIn u rest
step_from [] u v h = cc
step_from (a ∷ []) u v h = cc
step_from (a ∷ b ∷ rest) u v h = elim (a == u) as (λ t. (if t then Some b else next_after (b ∷ rest) u) ≡ Some v → (a == u) ≡ t → IsIn u (a ∷ b ∷ rest)) [
  | true ↦ λ x e. or_left (a == u) _ e
  | false ↦ λ x e. or_right (a == u) _ (step_from (b ∷ rest) u v x)
] h refl

step_to : (a : ℕ) (rest : List ℕ) (u v : ℕ) → next_after (a ∷ rest) u ≡ Some v → IsIn v rest
step_to a [] u v h = cc
step_to a (b ∷ rest) u v h = elim (a == u) as (λ t. (if t then Some b else next_after (b ∷ rest) u) ≡ Some v → IsIn v (b ∷ rest)) [
  | true ↦ λ x. let is : b ≡ v = cc in or_left (b == v) _ (ap (λ (y : ℕ). y == v) is ∙ eq_same v)
  | false ↦ λ x. or_right (b == v) _ (step_to b rest u v x)
] h

-- A step among the later nodes is a step of the route.
step_later : (a : ℕ) (rest : List ℕ) (u v : ℕ) → is_distinct (a ∷ rest) ≡ true → next_after rest u ≡ Some v → next_after (a ∷ rest) u ≡ Some v
step_later a [] u v d h = cc
step_later a (b ∷ rest) u v d h = elim (a == u) as (λ t. (a == u) ≡ t → (if t then Some b else next_after (b ∷ rest) u) ≡ Some v) [
  | true ↦ λ e. absurd (first_apart a (b ∷ rest) d (subst (λ (x : ℕ). IsIn x (b ∷ rest)) (sym (eq_from a u e)) (step_from (b ∷ rest) u v h)))
  | false ↦ λ e. h
] refl

-- At most one node comes right before a given one.
one_before : (route : List ℕ) (x u v : ℕ) → is_distinct route ≡ true → next_after route x ≡ Some v → next_after route u ≡ Some v → x ≡ u
one_before [] x u v d h k = cc
one_before (a ∷ []) x u v d h k = cc
one_before (a ∷ b ∷ rest) x u v d h k =
    elim (a == x) as (λ t. (a == x) ≡ t → (if t then Some b else next_after (b ∷ rest) x) ≡ Some v → x ≡ u) [
      | true ↦ λ e y. elim (a == u) as (λ t. (a == u) ≡ t → (if t then Some b else next_after (b ∷ rest) u) ≡ Some v → x ≡ u) [
        | true ↦ λ e2 z. sym (eq_from a x e) ∙ eq_from a u e2
        | false ↦ λ e2 z. let is : b ≡ v = cc in absurd (after_first u z is)
      ] refl k
      | false ↦ λ e y. elim (a == u) as (λ t. (a == u) ≡ t → (if t then Some b else next_after (b ∷ rest) u) ≡ Some v → x ≡ u) [
        | true ↦ λ e2 z. let is : b ≡ v = cc in absurd (after_first x y is)
        | false ↦ λ e2 z. one_before (b ∷ rest) x u v (others_differ a (b ∷ rest) d) y z
      ] refl k
    ] refl h
  where
    after_first : (y : ℕ) → next_after (b ∷ rest) y ≡ Some v → b ≡ v → ⊥
    after_first y z is = first_apart b rest (others_differ a (b ∷ rest) d) (subst (λ (w : ℕ). IsIn w rest) (sym is) (step_to b rest y v z))

first_has_none_before : (route : List ℕ) (u v : ℕ) → is_distinct route ≡ true → first_of route ≡ v → next_after route u ≡ Some v → ⊥
first_has_none_before [] u v d h k = cc
first_has_none_before (a ∷ rest) u v d h k = first_apart a rest d (subst (λ (w : ℕ). IsIn w rest) (sym h) (step_to a rest u v k))

-- The node right before one that knows the fact knows it too.
before_knows : (known : ℕ → List Name) (v : ℕ) (n : Name) (route : List ℕ) → is_distinct route ≡ true → PredecessorKnows known v n route →
    (u : ℕ) → next_after route u ≡ Some v → has (known u) n ≡ true
before_knows known v n route d (inl first) u next = absurd (first_has_none_before route u v d first next)
before_knows known v n route d (inr (y, e, k)) u next = subst (λ (z : ℕ). has (known z) n ≡ true) (one_before route y u v d e next) k

module _ (K : ℕ → Bool) where
  -- If a node knows the fact, so does the one right before it.
  abbrev GoesBack : List ℕ → Type 0
  GoesBack route = (a b : ℕ) → next_after route a ≡ Some b → K b ≡ true → K a ≡ true

  goes_later : (a : ℕ) (rest : List ℕ) → is_distinct (a ∷ rest) ≡ true → GoesBack (a ∷ rest) → GoesBack rest
  goes_later a rest d g x y e k = g x y (step_later a rest x y d e) k

  first_knows : (a : ℕ) (rest : List ℕ) → is_distinct (a ∷ rest) ≡ true → GoesBack (a ∷ rest) → (v : ℕ) → IsIn v rest → K v ≡ true → K a ≡ true
  first_knows a [] d g v i k = cc
  first_knows a (b ∷ rest) d g v i k =
      let next : next_after (a ∷ b ∷ rest) a ≡ Some b = ap (λ (t : Bool). if t then Some b else next_after (b ∷ rest) a) (eq_same a) in
      g a b next (elim (or_cases (b == v) (list_any (λ x. x == v) rest) i) [
        | inl is ↦ subst (λ (x : ℕ). K x ≡ true) (sym (eq_from b v is)) k
        | inr later ↦ first_knows b rest (others_differ a (b ∷ rest) d) (goes_later a (b ∷ rest) d g) v later k
      ])

  all_before : (route : List ℕ) → is_distinct route ≡ true → GoesBack route → (u v : ℕ) → stands_before route u v ≡ true → K v ≡ true → K u ≡ true
  all_before [] d g u v i k = cc
  all_before (a ∷ rest) d g u v i k = elim (a == u) as (λ t. (a == u) ≡ t → (if t then list_any (λ x. x == v) rest else stands_before rest u v) ≡ true → K u ≡ true) [
    | true ↦ λ e h. subst (λ (x : ℕ). K x ≡ true) (eq_from a u e) (first_knows a rest d g v h k)
    | false ↦ λ e h. all_before rest (others_differ a rest d) (goes_later a rest d g) u v h k
  ] refl i

route_ranged : (f : Fact) → IsRangedFact f → is_route (route_of f) ≡ true
route_ranged (Key name master slave route bytes) h = h.3.0
route_ranged (Chunk name stream index route bytes) h = h.3.0
route_ranged (Stored note about route) h = h.2.0
route_ranged (Open stream source peer size route) h = h.3.0
route_ranged (Joined note about route) h = h.2.0
route_ranged (Part name key master slave route bytes) h = h.4.0

pub route_differs : (f : Fact) → IsRangedFact f → is_distinct (route_of f) ≡ true
route_differs f h = and_right (nat_le 2 (length (route_of f)) && nat_le (length (route_of f)) 9) (is_distinct (route_of f)) (route_ranged f h)

pub knowers : (net : Network) (w : World) → Conserved net w → (n : Name) (f : Fact) (v : ℕ) → fact_at w.durable.facts n ≡ Some f → has (w.durable.known v) n ≡ true →
    (u : ℕ) → stands_before (route_of f) u v ≡ true → has (w.durable.known u) n ≡ true
knowers net w c n f v there k u i =
    let differ = route_differs f (c.now.table n f there).ranged in
    let back : GoesBack (λ x. has (w.durable.known x) n) (route_of f) = λ a b e kb.
    let x = c.now.knowledge.each b n kb in
    let same : x.fact ≡ f = cc in
    before_knows w.durable.known b n (route_of f) differ (subst (λ (g : Fact). PredecessorKnows w.durable.known b n (route_of g)) same x.source) a e in
    all_before (λ x. has (w.durable.known x) n) (route_of f) differ back u v i k
