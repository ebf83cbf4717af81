-- Routes: a walk with the fewest links visits no node twice.
use Rattle.std.proofs.Common.{not, ◌≡◌, ◌≢◌, ℕ, zero, suc, ◌+◌, ◌<◌, ◌≤◌, Bool, true, false, cond, ◌&&◌, ◌||◌, List, [], ◌∷◌, ◌++◌, length, refl, sym, ◌∙◌, ap, subst, arith, Some, None, inl, inr, map}
use Rattle.std.specs.Prelude.{◌==◌, nat_lt, nat_le, is_some, if◌then◌else◌}
use Rattle.std.specs.List.{find, list_any, flat_map}
use Rattle.std.proofs.lemmas.Bool.Decides.{nat_tests}
use Rattle.std.proofs.lemmas.List.Folds.{find-append, list_any-append}
use Rattle.qkd_base.specs.Route.{first_of, last_of, is_distinct, are_nodes}
use Rattle.law_base.specs.Shown.{IsRouteBetween}
use Rattle.net_model.specs.Site.{Site, count_up}
use Rattle.net_model.specs.Routes.{are_joined, walks, or_else, route_from, route}
use Rattle.net_model.specs.Ranges.{IsRoute}
use Rattle.law_base.proofs.Base.{eq_from, eq_same, and_both, or_cases, or_left, or_right, not_false, not_both, split}

-- A walk from a node over this number of links.
abbrev pub IsWalk : Site → (ℕ → Bool) → ℕ → ℕ → List ℕ → Type 0
IsWalk s up zero a w = w ≡ a ∷ []
IsWalk s up (suc k) a w = (b : ℕ) × (rest : List ℕ) × (w ≡ a ∷ rest) × (b < s.nodes) × (are_joined s up a b ≡ true) × IsWalk s up k b rest

-- Lemmas on searching lists of walks.

find_passes : (p : List ℕ → Bool) (xs : List (List ℕ)) (w : List ℕ) → find p xs ≡ Some w → p w ≡ true
find_passes p [] w h = cc
find_passes p (x ∷ xs) w h =
    elim (p x) as (λ t. p x ≡ t → cond t (Some x) (find p xs) ≡ Some w → p w ≡ true) [
      | true ↦ λ e y. let is : x ≡ w = cc in ap p (sym is) ∙ e
      | false ↦ λ e y. find_passes p xs w y
    ] refl h

find_skip : (p : List ℕ → Bool) (xs ys : List (List ℕ)) → find p xs ≡ None → find p (xs ++ ys) ≡ find p ys
find_skip p xs ys h = rw (find-append, h) refl

find_prefix : (p : List ℕ → Bool) (xs ys : List (List ℕ)) (w : List ℕ) → find p xs ≡ Some w → find p (xs ++ ys) ≡ Some w
find_prefix p xs ys w h = rw (find-append, h) refl

find_flat : (p : List ℕ → Bool) (g : ℕ → List (List ℕ)) (xs : List ℕ) (w : List ℕ) → find p (flat_map g xs) ≡ Some w →
    (b : ℕ) × (find p (g b) ≡ Some w) × (list_any (λ x. x == b) xs ≡ true)
find_flat p g [] w h = cc
find_flat p g (x ∷ xs) w h =
    elim (find p (g x)) as (λ o. find p (g x) ≡ o → (b : ℕ) × (find p (g b) ≡ Some w) × (((x == b) || list_any (λ y. y == b) xs) ≡ true)) [
      | None ↦ λ e. let r = find_flat p g xs w (sym (find_skip p (g x) (flat_map g xs) e) ∙ h) in
          (r.0, r.1, or_right (x == r.0) (list_any (λ y. y == r.0) xs) r.2)
      | Some y ↦ λ e. (x, e ∙ sym (find_prefix p (g x) (flat_map g xs) y e) ∙ h, or_left (x == x) (list_any (λ z. z == x) xs) (eq_same x))
    ] refl

some_flat : (p : List ℕ → Bool) (g : ℕ → List (List ℕ)) (xs : List ℕ) (b : ℕ) → is_some (find p (g b)) ≡ true → list_any (λ x. x == b) xs ≡ true →
    is_some (find p (flat_map g xs)) ≡ true
some_flat p g [] b h k = cc
some_flat p g (x ∷ xs) b h k =
    elim (find p (g x)) as (λ o. find p (g x) ≡ o → is_some (find p (g x ++ flat_map g xs)) ≡ true) [
      | Some y ↦ λ e. ap is_some (find_prefix p (g x) (flat_map g xs) y e)
      | None ↦ λ e. ap is_some (find_skip p (g x) (flat_map g xs) e) ∙
          (elim (or_cases (x == b) (list_any (λ y. y == b) xs) k) [
            | inl is ↦ let same : x ≡ b = eq_from x b is in let no : find p (g b) ≡ None = ap (λ (z : ℕ). find p (g z)) (sym same) ∙ e in
                let x : is_some (find p (g b)) ≡ false = ap is_some no in cc
            | inr later ↦ some_flat p g xs b h later
          ])
    ] refl

find_map : (p : List ℕ → Bool) (a : ℕ) (xs : List (List ℕ)) (w : List ℕ) → find p (map (λ x. a ∷ x) xs) ≡ Some w →
    (x : List ℕ) × (w ≡ a ∷ x) × (find (λ y. p (a ∷ y)) xs ≡ Some x)
find_map p a [] w h = cc
find_map p a (x ∷ xs) w h =
    elim (p (a ∷ x)) as (λ t. cond t (Some (a ∷ x)) (find p (map (λ y. a ∷ y) xs)) ≡ Some w →
    (y : List ℕ) × (w ≡ a ∷ y) × (cond t (Some x) (find (λ y. p (a ∷ y)) xs) ≡ Some y)) [
      | true ↦ λ e. (x, cc, refl)
      | false ↦ λ e. find_map p a xs w e
    ] h

some_map : (p : List ℕ → Bool) (a : ℕ) (xs : List (List ℕ)) → is_some (find (λ y. p (a ∷ y)) xs) ≡ true → is_some (find p (map (λ x. a ∷ x) xs)) ≡ true
some_map p a [] h = cc
some_map p a (x ∷ xs) h =
    elim (p (a ∷ x)) as (λ t. is_some (cond t (Some x) (find (λ y. p (a ∷ y)) xs)) ≡ true → is_some (cond t (Some (a ∷ x)) (find p (map (λ y. a ∷ y) xs))) ≡ true) [
      | true ↦ λ e. refl
      | false ↦ λ e. some_map p a xs e
    ] h

-- Each number in `count_up n` is less than n.

counted : (n b : ℕ) → list_any (λ x. x == b) (count_up n) ≡ true → b < n
counted zero b h = cc
counted (suc n) b h =
    elim (or_cases (list_any (λ x. x == b) (count_up n)) ((n == b) || false) (sym (list_any-append (λ x. x == b) (count_up n) (n ∷ [])) ∙ h)) [
      | inl old ↦ let r = counted n b old in omega arith
      | inr last ↦ let e = eq_from n b (and_first (n == b) last) in omega arith
    ]
  where
    and_first : (t : Bool) → (t || false) ≡ true → t ≡ true
    and_first true h = refl
    and_first false h = h

counts : (n b : ℕ) → b < n → list_any (λ x. x == b) (count_up n) ≡ true
counts zero b h = absurd (omega arith)
counts (suc n) b h =
    list_any-append (λ x. x == b) (count_up n) (n ∷ []) ∙
    (elim (n == b) as (λ t. (n == b) ≡ t → (list_any (λ x. x == b) (count_up n) || (t || false)) ≡ true) [
      | true ↦ λ e. or_right (list_any (λ x. x == b) (count_up n)) true refl
      | false ↦ λ e. let other : n ≢ b = grind (arith, nat_tests) in or_left (list_any (λ x. x == b) (count_up n)) false (counts n b (omega (arith, other, h)))
    ] refl)

-- The list of walks has exactly the walks.

abbrev steps : Site → (ℕ → Bool) → ℕ → ℕ → ℕ → List (List ℕ)
steps s up k a b = if are_joined s up a b then map (λ w. a ∷ w) (walks s up k b) else []

find_step : (s : Site) (up : ℕ → Bool) (k a b : ℕ) (p : List ℕ → Bool) (w : List ℕ) → find p (steps s up k a b) ≡ Some w →
    (x : List ℕ) × (w ≡ a ∷ x) × (find (λ y. p (a ∷ y)) (walks s up k b) ≡ Some x) × (are_joined s up a b ≡ true)
find_step s up k a b p w h =
    elim (are_joined s up a b) as (λ t. find p (if t then map (λ w. a ∷ w) (walks s up k b) else []) ≡ Some w →
    (x : List ℕ) × (w ≡ a ∷ x) × (find (λ y. p (a ∷ y)) (walks s up k b) ≡ Some x) × (t ≡ true)) [
      | true ↦ λ e. let r = find_map p a (walks s up k b) w e in (r.0, r.1, r.2, refl)
      | false ↦ λ e. cc
    ] h

some_step : (s : Site) (up : ℕ → Bool) (k a b : ℕ) (p : List ℕ → Bool) → are_joined s up a b ≡ true → is_some (find (λ y. p (a ∷ y)) (walks s up k b)) ≡ true →
    is_some (find p (steps s up k a b)) ≡ true
some_step s up k a b p joined h =
    ap (λ (t : Bool). is_some (find p (if t then map (λ w. a ∷ w) (walks s up k b) else []))) joined ∙ some_map p a (walks s up k b) h

walks_are : (s : Site) (up : ℕ → Bool) (k a : ℕ) (p : List ℕ → Bool) (w : List ℕ) → find p (walks s up k a) ≡ Some w → IsWalk s up k a w
unfolding walks
walks_are s up zero a p w h =
    elim (p (a ∷ [])) as (λ t. cond t (Some (a ∷ [])) None ≡ Some w → w ≡ a ∷ []) [ true ↦ λ e. cc | false ↦ λ e. cc ] h
walks_are s up (suc k) a p w h =
    let r = find_flat p (steps s up k a) (count_up s.nodes) w h in
    let y = find_step s up k a r.0 p w r.1 in
    (r.0, y.0, y.1, counted s.nodes r.0 r.2, y.3, walks_are s up k r.0 (λ z. p (a ∷ z)) y.0 y.2)

one_if : (t : Bool) (x : List ℕ) → t ≡ true → is_some (cond t (Some x) None) ≡ true
one_if true x h = refl
one_if false x h = cc

walks_all : (s : Site) (up : ℕ → Bool) (k a : ℕ) (p : List ℕ → Bool) (w : List ℕ) → IsWalk s up k a w → p w ≡ true → is_some (find p (walks s up k a)) ≡ true
unfolding walks
walks_all s up zero a p w h passes =
    one_if (p (a ∷ [])) (a ∷ []) (ap p (sym h) ∙ passes)
walks_all s up (suc k) a p w h passes =
    some_flat p (steps s up k a) (count_up s.nodes) h.0
    (some_step s up k a h.0 p h.4 (walks_all s up k h.0 (λ z. p (a ∷ z)) h.1 h.5 (ap p (sym h.2) ∙ passes)))
    (counts s.nodes h.0 h.3)

-- No walk of fewer links leads from a to b. A walk with this property visits no node twice.

abbrev NoShorter : Site → (ℕ → Bool) → ℕ → ℕ → ℕ → Type 0
NoShorter s up k a b = (j : ℕ) (w : List ℕ) → j < k → IsWalk s up j a w → last_of w ≡ b → ⊥

walk_some : (s : Site) (up : ℕ → Bool) (k a : ℕ) (w : List ℕ) → IsWalk s up k a w → (x : ℕ) × (rest : List ℕ) × (w ≡ x ∷ rest)
walk_some s up zero a w h = (a, [], h)
walk_some s up (suc k) a w h = (a, h.1, h.2)

last_cons : (a : ℕ) (w : List ℕ) (x : ℕ) (rest : List ℕ) → w ≡ x ∷ rest → last_of (a ∷ w) ≡ last_of w
last_cons a w x rest h = subst (λ (y : List ℕ). last_of (a ∷ y) ≡ last_of y) (sym h) refl

last_walk : (s : Site) (up : ℕ → Bool) (k a c : ℕ) (w : List ℕ) → IsWalk s up k c w → last_of (a ∷ w) ≡ last_of w
last_walk s up k a c w h = let x = walk_some s up k c w h in last_cons a w x.0 x.1 x.2

-- If a walk visits a node, its remainder from there on is a walk too.
rest_from : (s : Site) (up : ℕ → Bool) (k c a : ℕ) (w : List ℕ) → IsWalk s up k c w → list_any (λ m. m == a) w ≡ true →
    (j : ℕ) × (v : List ℕ) × (j ≤ k) × IsWalk s up j a v × (last_of v ≡ last_of w)
rest_from s up zero c a w h on =
    elim (or_cases (c == a) false (sym (ap (list_any (λ m. m == a)) h) ∙ on)) [
      | inl is ↦ let same : c ≡ a = eq_from c a is in (0, w, omega arith, h ∙ ap (λ (z : ℕ). z ∷ []) same, refl)
      | inr wrong ↦ cc
    ]
rest_from s up (suc k) c a w h on =
    elim (or_cases (c == a) (list_any (λ m. m == a) h.1) (sym (ap (list_any (λ m. m == a)) h.2) ∙ on)) [
      | inl is ↦ let same : c ≡ a = eq_from c a is in (suc k, w, omega arith, subst (λ (z : ℕ). IsWalk s up (suc k) z w) same h, refl)
      | inr later ↦
          let r = rest_from s up k h.0 a h.1 h.5 later in
          let le : r.0 ≤ suc k = omega (arith, r.2) in
          (r.0, r.1, le, r.3, r.4 ∙ sym (last_walk s up k c h.0 h.1 h.5) ∙ ap last_of (sym h.2))
    ]

distinct_walk : (s : Site) (up : ℕ → Bool) (k a b : ℕ) (w : List ℕ) → IsWalk s up k a w → last_of w ≡ b → NoShorter s up k a b → is_distinct w ≡ true
distinct_walk s up zero a b w h last least = ap is_distinct h
distinct_walk s up (suc k) a b w h last least =
    let tail : last_of h.1 ≡ b = sym (last_walk s up k a h.0 h.1 h.5) ∙ ap last_of (sym h.2) ∙ last in
    let rest : is_distinct h.1 ≡ true = distinct_walk s up k h.0 b h.1 h.5 tail (λ j v less walk end.
    least (suc j) (a ∷ v) (omega (arith, less)) (h.0, v, refl, h.3, h.4, walk) (last_walk s up j a h.0 v walk ∙ end)) in
    let apart : list_any (λ m. m == a) h.1 ≡ false = not_false (list_any (λ m. m == a) h.1) (λ on.
    let r = rest_from s up k h.0 a h.1 h.5 on in least r.0 r.1 (omega (arith, r.2)) r.3 (r.4 ∙ tail)) in
    ap is_distinct h.2 ∙ and_both (not (list_any (λ m. m == a) h.1)) (is_distinct h.1) (ap not apart) rest

-- Lemmas on the nodes of a walk.

walk_len : (s : Site) (up : ℕ → Bool) (k a : ℕ) (w : List ℕ) → IsWalk s up k a w → length w ≡ k + 1
walk_len s up zero a w h = ap length h
walk_len s up (suc k) a w h = let r = walk_len s up k h.0 h.1 h.5 in omega (arith, ap length h.2, r)

walk_nodes : (s : Site) (up : ℕ → Bool) (k a : ℕ) (w : List ℕ) → s.nodes ≤ 16 → a < s.nodes → IsWalk s up k a w → are_nodes w ≡ true
walk_nodes s up zero a w few here h =
    let below : nat_lt a 16 ≡ true = grind (arith, nat_tests) in ap are_nodes h ∙ and_both (nat_lt a 16) true below refl
walk_nodes s up (suc k) a w few here h =
    let below : nat_lt a 16 ≡ true = grind (arith, nat_tests) in
    ap are_nodes h.2 ∙ and_both (nat_lt a 16) (are_nodes h.1) below (walk_nodes s up k h.0 h.1 few h.3 h.5)

walk_first : (s : Site) (up : ℕ → Bool) (k a : ℕ) (w : List ℕ) → IsWalk s up k a w → first_of w ≡ a
walk_first s up zero a w h = ap first_of h
walk_first s up (suc k) a w h = ap first_of h.2

-- The first walk that is found has the fewest links.

pub record IsFewest (s : Site) (up : ℕ → Bool) (a b k more : ℕ) (w : List ℕ) : Type 0 where
  pub links : ℕ
  pub from : k ≤ links
  pub below : links < k + more
  pub walk : IsWalk s up links a w
  pub last : last_of w ≡ b
  pub none : (j : ℕ) (v : List ℕ) → k ≤ j → j < links → IsWalk s up j a v → last_of v ≡ b → ⊥

none_at : (s : Site) (up : ℕ → Bool) (a b k : ℕ) (v : List ℕ) → find (λ v. last_of v == b) (walks s up k a) ≡ None → IsWalk s up k a v → last_of v ≡ b → ⊥
none_at s up a b k v e walk end =
    let some : is_some (find (λ v. last_of v == b) (walks s up k a)) ≡ true = walks_all s up k a (λ v. last_of v == b) v walk (ap (λ (x : ℕ). x == b) end ∙ eq_same b) in
    not_both (is_some (find (λ v. last_of v == b) (walks s up k a))) some (ap is_some e)

fewest_from : (s : Site) (up : ℕ → Bool) (a b k more : ℕ) (w : List ℕ) → route_from s up a b k more ≡ Some w → IsFewest s up a b k more w
unfolding route_from
fewest_from s up a b k zero w h = cc
fewest_from s up a b k (suc more) w h =
    elim (find (λ v. last_of v == b) (walks s up k a)) as (λ o. find (λ v. last_of v == b) (walks s up k a) ≡ o → or_else o (route_from s up a b (k + 1) more) ≡ Some w →
    IsFewest s up a b k (suc more) w) [
      | Some v ↦ λ e y.
          let is : v ≡ w = cc in
          let found : find (λ v. last_of v == b) (walks s up k a) ≡ Some w = e ∙ ap Some is in
          record {
            links = k;
            from = omega arith;
            below = omega arith;
            walk = walks_are s up k a (λ v. last_of v == b) w found;
            last = eq_from (last_of w) b (find_passes (λ v. last_of v == b) (walks s up k a) w found);
            none = λ j v le less walk end. absurd (omega (arith, le, less));
          }
      | None ↦ λ e y.
          let r = fewest_from s up a b (k + 1) more w y in
          record {
            links = r.links;
            from = omega (arith, r.from);
            below = omega (arith, r.below);
            walk = r.walk;
            last = r.last;
            none = λ j v le less walk end. elim (split j (k + 1)) [
              | inl lower ↦
                  let same : j ≡ k = omega (arith, le, lower) in
                  none_at s up a b k v e (subst (λ (i : ℕ). IsWalk s up i a v) same walk) end
              | inr (i, past) ↦ r.none j v (omega (arith, past)) less walk end
            ];
          }
    ] refl h

pub route_is : (s : Site) (up : ℕ → Bool) (a b : ℕ) (nodes : List ℕ) → s.nodes ≤ 16 → a < s.nodes → route s up a b ≡ Some nodes → IsRouteBetween a b nodes
unfolding route
route_is s up a b nodes few here h =
    elim (a == b) as (λ t. (a == b) ≡ t → (if t then None else route_from s up a b 1 8) ≡ Some nodes → IsRouteBetween a b nodes) [
      | true ↦ λ e y. cc
      | false ↦ λ e y.
          let r = fewest_from s up a b 1 8 nodes y in
          let long = walk_len s up r.links a nodes r.walk in
          let apart : a ≢ b = grind (arith, nat_tests) in
          let least : NoShorter s up r.links a b = λ j v less walk end. shorter j v r less walk end apart in
          let distinct : is_distinct nodes ≡ true = distinct_walk s up r.links a b nodes r.walk r.last least in
          let two : nat_le 2 (length nodes) ≡ true = grind (arith, nat_tests, long, r.from) in
          let nine : nat_le (length nodes) 9 ≡ true = grind (arith, nat_tests, long, r.below) in
          record {
            starts = walk_first s up r.links a nodes r.walk;
            ends = r.last;
            route = (and_both (nat_le 2 (length nodes) && nat_le (length nodes) 9) (is_distinct nodes) (and_both (nat_le 2 (length nodes)) (nat_le (length nodes) 9) two nine) distinct, walk_nodes s up r.links a nodes few here r.walk);
          }
    ] refl h
  where
    shorter : (j : ℕ) (v : List ℕ) → (r : IsFewest s up a b 1 8 nodes) → j < r.links → IsWalk s up j a v → last_of v ≡ b → (a ≢ b) → ⊥
    shorter zero v r less walk end apart = apart (sym (ap last_of walk) ∙ end)
    shorter (suc j) v r less walk end apart = r.none (suc j) v (omega arith) less walk end
