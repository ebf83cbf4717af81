-- The walks that are found for routes go over links, and so do reversed routes.
use Rattle.std.proofs.Common.{◌≡◌, ℕ, zero, suc, ◌+◌, ◌<◌, Bool, true, false, ◌&&◌, ◌||◌, List, [], ◌∷◌, ◌++◌, map, refl, sym, ◌∙◌, ap, subst, arith, Option, Some, None, inl, inr}
use Rattle.std.specs.Prelude.{◌==◌, nat_lt, find, reverse, if◌then◌else◌}
use Rattle.std.specs.List.{list_any, flat_map, AllByRecursion}
use Rattle.std.proofs.lemmas.Bool.{ltb-true}
use Rattle.std.proofs.lemmas.List.{reverse-append}
use Rattle.qkd_base.specs.Route.{last_of, next_after}
use Rattle.qkd_base.specs.declared.lane.Way.TheVariants.{Up, Down}
use Rattle.net_model.specs.declared.fact.Fact.{Fact}
use Rattle.net_model.specs.Table.{route_of}
use Rattle.net_model.specs.Premises.{IsLink, IsNetwork}
use Rattle.net_model.specs.Site.{Site, count_up, lane_of}
use Rattle.net_model.specs.World.{Network, World}
use Rattle.net_model.specs.Routes.{joins, are_joined, walks, or_else, route_from, route}
use Rattle.law_base.proofs.Base.{and_left, and_right, or_cases, or_left, or_right, eq_from, by_test}
use Rattle.law_base.proofs.Lists.{all_both, all_at, any_at, found_at}
use Rattle.law_quiet.specs.Chains.{IsChain, IsAllUp}
use Rattle.law_quiet.specs.Silent.{IsJoined, IsOpen}
use Rattle.law_quiet.proofs.Quieting.{numbered}
use Rattle.law_quiet.proofs.Routes.{last_push}

module _ (s : Site) where
  abbrev pub are_linked : ℕ → ℕ → Bool
  are_linked a b = are_joined s (λ link. true) a b

  -- Lemmas on links.

  weaker : (up : ℕ → Bool) (a b : ℕ) (xs : List ℕ) → list_any (joins s up a b) xs ≡ true → list_any (joins s (λ link. true) a b) xs ≡ true
  weaker up a b [] h = h
  weaker up a b (x ∷ xs) h = elim (or_cases (joins s up a b x) _ h) [
    | inl here ↦ or_left (joins s (λ link. true) a b x) _ (and_right (up x) _ here)
    | inr later ↦ or_right (joins s (λ link. true) a b x) _ (weaker up a b xs later)
  ]

  either : (p q : Bool) → (p || q) ≡ true → (q || p) ≡ true
  either true true h = refl
  either true false h = refl
  either false true h = refl
  either false false h = h

  turned : (a b : ℕ) (xs : List ℕ) → list_any (joins s (λ link. true) a b) xs ≡ true → list_any (joins s (λ link. true) b a) xs ≡ true
  turned a b [] h = h
  turned a b (x ∷ xs) h = elim (or_cases (joins s (λ link. true) a b x) _ h) [
    | inl here ↦ or_left (joins s (λ link. true) b a x) _ (either ((s.low x == a) && (s.high x == b)) ((s.low x == b) && (s.high x == a)) here)
    | inr later ↦ or_right (joins s (λ link. true) b a x) _ (turned a b xs later)
  ]

  -- Walks.

  record IsWalkFrom (a : ℕ) (w : List ℕ) : Type 0 where
    rest : List ℕ
    is : w ≡ a ∷ rest
    chain : IsChain s w

  all_flat : {A B : Type 0} (P : B → Type 0) (f : A → List B) (xs : List A) → ((x : A) → AllByRecursion P (f x)) → AllByRecursion P (flat_map f xs)
  all_flat P f [] h = tt
  all_flat P f (x ∷ xs) h = all_both P (f x) (flat_map f xs) (h x) (all_flat P f xs h)

  longer : (a b : ℕ) → are_linked a b ≡ true → (w : List ℕ) → IsWalkFrom b w → IsWalkFrom a (a ∷ w)
  longer a b linked w h = record { rest = w; is = refl; chain = subst (λ (x : List ℕ). IsChain s (a ∷ x)) (sym h.is) (linked, subst (IsChain s) h.is h.chain) }

  all_longer : (a b : ℕ) → are_linked a b ≡ true → (ws : List (List ℕ)) → AllByRecursion (IsWalkFrom b) ws → AllByRecursion (IsWalkFrom a) (map (λ w. a ∷ w) ws)
  all_longer a b linked [] h = tt
  all_longer a b linked (w ∷ ws) h = (longer a b linked w h.0, all_longer a b linked ws h.1)

  walks_chain : (up : ℕ → Bool) (k a : ℕ) → AllByRecursion (IsWalkFrom a) (walks s up k a)
  unfolding walks
  walks_chain up zero a = (record { rest = []; is = refl; chain = tt }, tt)
  walks_chain up (suc k) a =
      all_flat (IsWalkFrom a) (λ b. if are_joined s up a b then map (λ w. a ∷ w) (walks s up k b) else []) (count_up s.nodes) (step (walks_chain up k))
    where
      step : ((b : ℕ) → AllByRecursion (IsWalkFrom b) (walks s up k b)) → (b : ℕ) → AllByRecursion (IsWalkFrom a) (if are_joined s up a b then map (λ w. a ∷ w) (walks s up k b) else [])
      step shorter b = by_test (AllByRecursion (IsWalkFrom a)) (are_joined s up a b) _ _ (λ joined. all_longer a b (weaker up a b (count_up s.links) joined) (walks s up k b) (shorter b)) (λ apart. tt)

  first_chain : (up : ℕ → Bool) (a b k : ℕ) (w : List ℕ) → find (λ x. last_of x == b) (walks s up k a) ≡ Some w → IsChain s w
  first_chain up a b k w h =
      let there = found_at (λ (x : List ℕ). last_of x == b) (walks s up k a) w h in
      (all_at (IsWalkFrom a) (walks s up k a) there.0 w (walks_chain up k a) there.1).chain

  either_chain : (o p : Option (List ℕ)) (w : List ℕ) → ((x : List ℕ) → o ≡ Some x → IsChain s x) → ((x : List ℕ) → p ≡ Some x → IsChain s x) → or_else o p ≡ Some w → IsChain s w
  either_chain None p w first later h = later w h
  either_chain (Some x) p w first later h = first w h

  from_chain : (up : ℕ → Bool) (a b k more : ℕ) (w : List ℕ) → route_from s up a b k more ≡ Some w → IsChain s w
  unfolding route_from
  from_chain up a b k zero w h = cc
  from_chain up a b k (suc more) w h =
      either_chain (find (λ x. last_of x == b) (walks s up k a)) (route_from s up a b (k + 1) more) w (first_chain up a b k) (from_chain up a b (k + 1) more) h

  pub route_chain : (up : ℕ → Bool) (a b : ℕ) (w : List ℕ) → route s up a b ≡ Some w → IsChain s w
  unfolding route
  route_chain up a b w h = elim (a == b) as (λ t. (if t then None else route_from s up a b 1 8) ≡ Some w → IsChain s w) [
    | true ↦ λ e. cc
    | false ↦ λ e. from_chain up a b 1 8 w e
  ] h

  -- Reversed routes.

  push_chain : (xs : List ℕ) (a : ℕ) → IsChain s xs → are_linked (last_of xs) a ≡ true → IsChain s (xs ++ a ∷ [])
  push_chain [] a h linked = tt
  push_chain (x ∷ []) a h linked = (linked, tt)
  push_chain (x ∷ y ∷ xs) a h linked = (h.0, push_chain (y ∷ xs) a h.1 linked)

  pub reverse_chain : (xs : List ℕ) → IsChain s xs → IsChain s (reverse xs)
  reverse_chain [] h = tt
  reverse_chain (a ∷ []) h = subst (IsChain s) (sym (reverse-append (a ∷ []) [])) tt
  reverse_chain (a ∷ b ∷ rest) h =
      let last : last_of (reverse (b ∷ rest)) ≡ b = ap last_of (reverse-append (b ∷ []) rest) ∙ last_push (reverse rest) b in
      subst (IsChain s) (sym (reverse-append (a ∷ []) (b ∷ rest)))
      (push_chain (reverse (b ∷ rest)) a (reverse_chain (b ∷ rest) h.1) (ap (λ (x : ℕ). are_linked x a) last ∙ turned a b (count_up s.links) h.0))

  -- From each node of the route to the next.
  chain_step : (xs : List ℕ) → IsChain s xs → (u v : ℕ) → next_after xs u ≡ Some v → are_linked u v ≡ true
  chain_step [] h u v next = cc
  chain_step (a ∷ []) h u v next = cc
  chain_step (a ∷ b ∷ rest) h u v next =
      elim (a == u) as (λ t. (a == u) ≡ t → (if t then Some b else next_after (b ∷ rest) u) ≡ Some v → are_linked u v ≡ true) [
        | true ↦ λ e k. let is : b ≡ v = cc in subst (λ (x : ℕ). are_linked x v ≡ true) (eq_from a u e) (subst (λ (x : ℕ). are_linked a x ≡ true) is h.0)
        | false ↦ λ e k. chain_step (b ∷ rest) h.1 u v k
      ] refl next

-- Where all is up, a route over links is open.

module _ (net : Network) (network : IsNetwork net) (w : World) (all : IsAllUp net w) where
  record IsStep (u v : ℕ) : Type 0 where
    first : u < net.site.nodes
    second : v < net.site.nodes
    joined : IsJoined net w u v

  over : (u v link : ℕ) → link < net.site.links → nat_lt link net.site.links ≡ true → joins net.site (λ link. true) u v link ≡ true → IsStep u v
  over u v link here lane h = elim (or_cases ((net.site.low link == u) && (net.site.high link == v)) ((net.site.low link == v) && (net.site.high link == u)) h) [
    | inl up ↦
        let low = eq_from (net.site.low link) u (and_left (net.site.low link == u) (net.site.high link == v) up) in
        let high = eq_from (net.site.high link) v (and_right (net.site.low link == u) (net.site.high link == v) up) in
        record {
          first = omega (arith, ends.order, ends.within, low);
          second = omega (arith, ends.within, high);
          joined = record { lane = lane_of link Up; site = lane; from = low; to = high; up = all.links link here };
        }
    | inr down ↦
        let low = eq_from (net.site.low link) v (and_left (net.site.low link == v) (net.site.high link == u) down) in
        let high = eq_from (net.site.high link) u (and_right (net.site.low link == v) (net.site.high link == u) down) in
        record {
          first = omega (arith, ends.within, high);
          second = omega (arith, ends.order, ends.within, low);
          joined = record { lane = lane_of link Down; site = lane; from = high; to = low; up = all.links link here };
        }
  ]
    where
      ends : IsLink net.site link
      ends = network.site.ends link here

  step_of : (u v : ℕ) → are_linked net.site u v ≡ true → IsStep u v
  step_of u v linked =
      let there = any_at (joins net.site (λ link. true) u v) (count_up net.site.links) linked in
      let lane = all_at (λ (x : ℕ). nat_lt x net.site.links ≡ true) (count_up net.site.links) there.0 there.1 (numbered net.site.links net.site.links (omega arith)) there.2 in
      over u v there.1 (ltb-true there.1 net.site.links lane) lane there.3

  pub all_open : (f : Fact) → IsChain net.site (route_of f) → IsOpen net w f
  all_open f chain = record {
    nodes = λ u v next. let s = step_of u v (chain_step net.site (route_of f) chain u v next) in (all.nodes u s.first, all.nodes v s.second);
    links = λ u v next. (step_of u v (chain_step net.site (route_of f) chain u v next)).joined;
  }
