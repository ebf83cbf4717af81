-- The search finds the first of the shortest walks, among the walks that the definitions list.
use Rattle.std.proofs.Common.{◌≡◌, ◌≢◌, ℕ, zero, suc, ◌+◌, ◌<◌, ◌≤◌, ◌==◌, Bool, true, false, cond, List, [], ◌∷◌, ◌++◌, map, Some, None, refl, sym, ap, ◌∙◌, subst, inl, inr, arith}
use Rattle.std.proofs.lemmas.Bool.{cases_lt, cases_eq, eq-eqb, ne_eqb, cases_Bool}
use Rattle.std.proofs.lemmas.List.{append-nil}
use Rattle.std.proofs.lemmas.List.Folds.{find-append}
use Rattle.std.proofs.lemmas.Grind.{flat_map-append}
use Rattle.std.specs.Prelude.{find, if◌then◌else◌}
use Rattle.std.specs.List.{flat_map}
use Rattle.std.specs.Option.{option_or, option_map}
use Rattle.qkd_base.specs.Route.{last_of}
use Rattle.net_model.specs.Site.{Site, count_up}
use Rattle.net_model.specs.Routes.{are_joined, walks, or_else, route_from, route}
use Rattle.route_table.specs.Table.{Table}
use Rattle.route_table.specs.Walk.{AreJoined, IsWalk, links_of, IsLeastWalk, HasRoute}
use Rattle.route_table.specs.Layer.{IsFirstWalk}
use Rattle.route_table.proofs.Walks.{not_empty, step_walk}
use Rattle.route_table.proofs.Layers.{meet}
use Rattle.kme_base.proofs.Joined.{AreAlike}

-- Nothing is found in a concatenation if nothing is found in each of its lists.

none_in : {A : Type 0} (p : A → Bool) (f : ℕ → List A) (n : ℕ) → ((x : ℕ) → x < n → find p (f x) ≡ None) → find p (flat_map f (count_up n)) ≡ None
none_in p f zero none = refl
none_in p f (suc n) none =
    ap (find p) (flat_map-append f (count_up n) (n ∷ []))
    ∙ find-append p (flat_map f (count_up n)) (f n ++ [])
    ∙ ap (λ o. option_or o (find p (f n ++ []))) (none_in p f n (λ x below. none x (omega (arith, below))))
    ∙ ap (find p) (append-nil (f n))
    ∙ none n (omega arith)

first_in : {A : Type 0} (p : A → Bool) (f : ℕ → List A) (n y : ℕ) (w : A) → y < n → ((x : ℕ) → x < y → find p (f x) ≡ None) → find p (f y) ≡ Some w → find p (flat_map f (count_up n)) ≡ Some w
first_in p f zero y w below none found = absurd (omega (arith, below))
first_in p f (suc n) y w below none found =
    ap (find p) (flat_map-append f (count_up n) (n ∷ []))
    ∙ find-append p (flat_map f (count_up n)) (f n ++ [])
    ∙ elim (cases_lt y n) [
      | inl before ↦ ap (λ o. option_or o (find p (f n ++ []))) (first_in p f n y w before none found)
      | inr not_before ↦
          let here : n ≡ y = omega (arith, below, not_before) in
          ap (λ o. option_or o (find p (f n ++ []))) (none_in p f n (λ x less. none x (omega (arith, less, here))))
          ∙ ap (find p) (append-nil (f n))
          ∙ ap (λ (m : ℕ). find p (f m)) here ∙ found
    ]

-- each walk has at least one node

IsFilled : List (List ℕ) → Type 0
IsFilled [] = Unit {0}
IsFilled ([] ∷ ws) = ⊥
IsFilled ((x ∷ xs) ∷ ws) = IsFilled ws

filled-append : (vs ws : List (List ℕ)) → IsFilled vs → IsFilled ws → IsFilled (vs ++ ws)
unfolding IsFilled
filled-append [] ws h k = k
filled-append ([] ∷ vs) ws h k = absurd h
filled-append ((x ∷ xs) ∷ vs) ws h k = filled-append vs ws h k

filled-map : (a : ℕ) (ws : List (List ℕ)) → IsFilled (map (λ w. a ∷ w) ws)
unfolding IsFilled
filled-map a [] = tt
filled-map a (w ∷ ws) = filled-map a ws

filled-cond : (b : Bool) (a : ℕ) (ws : List (List ℕ)) → IsFilled (if b then map (λ w. a ∷ w) ws else [])
unfolding IsFilled
filled-cond true a ws = filled-map a ws
filled-cond false a ws = tt

filled-flat : (f : ℕ → List (List ℕ)) (xs : List ℕ) → ((x : ℕ) → IsFilled (f x)) → IsFilled (flat_map f xs)
unfolding IsFilled
filled-flat f [] each = tt
filled-flat f (x ∷ xs) each = filled-append (f x) (flat_map f xs) (each x) (filled-flat f xs each)

filled-walks : (s : Site) (is_up : ℕ → Bool) (k a : ℕ) → IsFilled (walks s is_up k a)
unfolding IsFilled walks
filled-walks s is_up zero a = tt
filled-walks s is_up (suc k) a = filled-flat _ (count_up s.nodes) (λ b. filled-cond (are_joined s is_up a b) a (walks s is_up k b))

-- If one node is put before each walk, the search finds the same walk with that node before it.
find-map : (a b : ℕ) (ws : List (List ℕ)) → IsFilled ws → find (λ w. last_of w == b) (map (λ w. a ∷ w) ws) ≡ option_map (λ w. a ∷ w) (find (λ w. last_of w == b) ws)
unfolding IsFilled
find-map a b [] h = refl
find-map a b ([] ∷ ws) h = absurd h
find-map a b ((x ∷ xs) ∷ ws) h = step (last_of (x ∷ xs) == b) (find-map a b ws h)
  where
    step : (t : Bool) → find (λ w. last_of w == b) (map (λ w. a ∷ w) ws) ≡ option_map (λ w. a ∷ w) (find (λ w. last_of w == b) ws) →
        cond t (Some (a ∷ x ∷ xs)) (find (λ w. last_of w == b) (map (λ w. a ∷ w) ws)) ≡ option_map (λ w. a ∷ w) (cond t (Some (x ∷ xs)) (find (λ w. last_of w == b) ws))
    step true h = refl
    step false h = h

module _ (s : Site) (is_up : ℕ → Bool) (t : Table) (up : ℕ) (alike : AreAlike s is_up t up) where
  -- If no walk of k links leads from a to b, none is found.
  pub finds_none : (k a b : ℕ) → ((w : List ℕ) → IsWalk t up a b w → links_of w ≡ k → ⊥) → find (λ w. last_of w == b) (walks s is_up k a) ≡ None
  unfolding walks
  finds_none zero a b none =
      let other : a ≢ b = λ e. none (a ∷ []) (refl, e) (omega arith) in
      ap (λ t. cond t (Some (a ∷ [])) None) (ne_eqb a b other)
  finds_none (suc k) a b none =
      none_in (λ w. last_of w == b) _ s.nodes (λ x below. elim (cases_Bool (are_joined s is_up a x)) [
        | inl yes' ↦
            ap (λ j. find (λ w. last_of w == b) (if j then map (λ w. a ∷ w) (walks s is_up k x) else [])) yes'
            ∙ find-map a b (walks s is_up k x) (filled-walks s is_up k x)
            ∙ ap (option_map (λ w. a ∷ w)) (finds_none k x b (λ w walks long. none (a ∷ w) (step_walk t up a x b w (alike.back a x yes') walks) (omega (arith, long, not_empty t up x b w walks))))
        | inr no' ↦ ap (λ j. find (λ w. last_of w == b) (if j then map (λ w. a ∷ w) (walks s is_up k x) else [])) no'
      ])

  tail_first : (k a b x y : ℕ) (rest : List ℕ) → IsFirstWalk t up a b (suc k) (x ∷ y ∷ rest) → IsFirstWalk t up y b k (y ∷ rest)
  tail_first k a b x y rest h = record {
    walks = h.walks.2;
    long = omega (arith, h.long);
    first = λ other walks long.
        let whole = h.first (x ∷ other) (from_x other walks) (omega (arith, long, not_empty t up y b other walks)) in
        elim whole [ inl less ↦ absurd (omega (arith, less)) | inr same ↦ same.1 ];
  }
    where
      from_x : (other : List ℕ) → IsWalk t up y b other → IsWalk t up a b (x ∷ other)
      from_x other walks = subst (λ (z : ℕ). IsWalk t up z b (x ∷ other)) h.walks.0 (step_walk t up x y b other h.walks.1 walks)

  -- The first walk of k links from a to b is found.
  pub finds_first : (k a b : ℕ) (w : List ℕ) → IsFirstWalk t up a b k w → find (λ w. last_of w == b) (walks s is_up k a) ≡ Some w
  unfolding walks
  finds_first k a b [] h = absurd h.walks
  finds_first zero a b (x ∷ []) h =
      ap (λ t. cond t (Some (a ∷ [])) None) (eq-eqb a b (sym h.walks.0 ∙ h.walks.1)) ∙ ap (λ (v : ℕ). Some (v ∷ [])) (sym h.walks.0)
  finds_first zero a b (x ∷ y ∷ rest) h = absurd (omega (arith, h.long))
  finds_first (suc k) a b (x ∷ []) h = absurd (omega (arith, h.long))
  finds_first (suc k) a b (x ∷ y ∷ rest) h =
      let joined : AreJoined t up a y = subst (λ (z : ℕ). AreJoined t up z y) h.walks.0 h.walks.1 in
      first_in (λ w. last_of w == b) _ s.nodes y (x ∷ y ∷ rest) (alike.below a y joined)
      (λ z below. elim (cases_Bool (are_joined s is_up a z)) [
        | inl yes' ↦
            ap (λ j. find (λ w. last_of w == b) (if j then map (λ w. a ∷ w) (walks s is_up k z) else [])) yes'
            ∙ find-map a b (walks s is_up k z) (filled-walks s is_up k z)
            ∙ ap (option_map (λ w. a ∷ w)) (finds_none k z b (λ w walks long. not_before k a b x y z rest w h below (alike.back a z yes') walks long))
        | inr no' ↦ ap (λ j. find (λ w. last_of w == b) (if j then map (λ w. a ∷ w) (walks s is_up k z) else [])) no'
      ])
      (ap (λ j. find (λ w. last_of w == b) (if j then map (λ w. a ∷ w) (walks s is_up k y) else [])) (alike.there a y joined)
      ∙ find-map a b (walks s is_up k y) (filled-walks s is_up k y)
      ∙ ap (option_map (λ w. a ∷ w)) (finds_first k y b (y ∷ rest) (tail_first k a b x y rest h))
      ∙ ap (λ (v : ℕ). Some (v ∷ y ∷ rest)) (sym h.walks.0))
    where
      not_before : (k a b x y z : ℕ) (rest w : List ℕ) → IsFirstWalk t up a b (suc k) (x ∷ y ∷ rest) → z < y → AreJoined t up a z → IsWalk t up z b w → links_of w ≡ k → ⊥
      not_before k a b x y z rest [] h below joined walks long = walks
      not_before k a b x y z rest (v ∷ more) h below joined walks long =
          let whole = h.first (a ∷ v ∷ more) (step_walk t up a z b (v ∷ more) joined walks) (omega (arith, long, not_empty t up z b (v ∷ more) walks)) in
          let head : v ≡ z = head_of z b v more walks in
          elim whole [
            | inl less ↦ omega (arith, less, h.walks.0)
            | inr same ↦ elim same.1 [ inl less ↦ omega (arith, less, head, below) | inr next ↦ omega (arith, next.0, head, below) ]
          ]
        where
          head_of : (z b v : ℕ) (more : List ℕ) → IsWalk t up z b (v ∷ more) → v ≡ z
          head_of z b v [] h = h.0
          head_of z b v (n ∷ more) h = h.0

  -- the search among the walks of k, k + 1, .. links

  none_from : (a b k more : ℕ) → ((j : ℕ) → k ≤ j → j < k + more → find (λ w. last_of w == b) (walks s is_up j a) ≡ None) → route_from s is_up a b k more ≡ None
  unfolding route_from
  none_from a b k zero none = refl
  none_from a b k (suc more) none =
      ap (λ o. or_else o (route_from s is_up a b (k + 1) more)) (none k (omega arith) (omega arith))
      ∙ none_from a b (k + 1) more (λ j from to. none j (omega (arith, from)) (omega (arith, to)))

  first_from : (a b k more long : ℕ) (w : List ℕ) → k ≤ long → long < k + more → ((j : ℕ) → k ≤ j → j < long → find (λ w. last_of w == b) (walks s is_up j a) ≡ None) → find (λ w. last_of w == b) (walks s is_up long a) ≡ Some w → route_from s is_up a b k more ≡ Some w
  unfolding route_from
  first_from a b k zero long w from to none found = absurd (omega (arith, from, to))
  first_from a b k (suc more) long w from to none found =
      elim (cases_eq k long) [
        | inl here ↦ ap (λ o. or_else o (route_from s is_up a b (k + 1) more)) (ap (λ (j : ℕ). find (λ w. last_of w == b) (walks s is_up j a)) here ∙ found)
        | inr other ↦
            ap (λ o. or_else o (route_from s is_up a b (k + 1) more)) (none k (omega arith) (omega (arith, from, other)))
            ∙ first_from a b (k + 1) more long w (omega (arith, from, other)) (omega (arith, to)) (λ j after before. none j (omega (arith, after)) before) found
      ]

  pub no_route : (a b : ℕ) → (HasRoute t up a b → ⊥) → route s is_up a b ≡ None
  unfolding route
  no_route a b none =
      elim (cases_Bool (a == b)) [
        | inl same ↦ ap (λ e. if e then None else route_from s is_up a b 1 8) same
        | inr differ ↦
            ap (λ e. if e then None else route_from s is_up a b 1 8) differ
            ∙ none_from a b 1 8 (λ j from to. finds_none j a b (λ w walks long. none (record { walk = w; walks = walks; short = omega (arith, long, to) })))
      ]

  pub same_node : (a b : ℕ) → a ≡ b → route s is_up a b ≡ None
  unfolding route
  same_node a b same = ap (λ e. if e then None else route_from s is_up a b 1 8) (eq-eqb a b same)

  pub least_walk : (a b : ℕ) (w : List ℕ) → a ≢ b → IsLeastWalk t up a b w → links_of w ≤ 8 → route s is_up a b ≡ Some w
  unfolding route
  least_walk a b w differ h short =
      ap (λ e. if e then None else route_from s is_up a b 1 8) (ne_eqb a b differ)
      ∙ first_from a b 1 8 (links_of w) w (some_links (links_of w) refl) (omega (arith, short))
      (λ j after before. finds_none j a b (λ other walks long. omega (arith, h.fewest other walks, long, before)))
      (finds_first (links_of w) a b w (record { walks = h.walks; long = refl; first = h.first }))
    where
      some_links : (long : ℕ) → links_of w ≡ long → 1 ≤ long
      some_links zero none = absurd (differ (meet t up a b w h.walks none))
      some_links (suc long) is = omega arith
