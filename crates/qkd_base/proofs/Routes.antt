-- The first and last nodes of routes, and reversed routes.
use Rattle.std.proofs.Common.{◌≡◌, ◌≢◌, ℕ, zero, suc, ◌+◌, ◌-◌, ◌<◌, ◌≤◌, ◌==◌, ◌&&◌, ◌||◌, not, nat_lt, List, [], ◌∷◌, ◌++◌, length, take, drop, reverse, get_or, Some, None, Bool, true, refl, sym, ap, ◌∙◌, arith, length-append, replicate}
use Rattle.std.proofs.lemmas.List.{reverse-append, length-reverse, length-replicate, length-take, get_or-take, drop-replicate}
use Rattle.std.proofs.Math.Seq.{take-append_seam, drop-append_seam}
use Rattle.std.specs.List.{list_any, list_all}
use Rattle.qkd_base.specs.Route.{is_distinct, is_route, are_nodes, first_of, last_of, next_after, IsRoom}

pub last_at : (ns : List ℕ) (k d : ℕ) → k + 1 ≡ length ns → get_or ns k d ≡ last_of ns
last_at [] k d h = absurd (omega arith)
last_at (x ∷ []) k d h = let e : k ≡ 0 = omega arith in ap (λ (i : ℕ). get_or (x ∷ []) i d) e
last_at (x ∷ y ∷ ns) zero d h = absurd (omega arith)
last_at (x ∷ y ∷ ns) (suc k) d h = last_at (y ∷ ns) k d (omega arith)

any_push : (p : ℕ → Bool) (ns : List ℕ) (x : ℕ) → list_any p (ns ++ x ∷ []) ≡ (list_any p ns || p x)
any_push p [] x = grind arith
any_push p (n ∷ ns) x = let ih = any_push p ns x in grind (arith, ih)

distinct_push : (ns : List ℕ) (x : ℕ) → is_distinct (ns ++ x ∷ []) ≡ (not (list_any (λ m. m == x) ns) && is_distinct ns)
distinct_push [] x = refl
distinct_push (n ∷ ns) x =
    let ih = distinct_push ns x in
    let e = any_push (λ m. m == n) ns x in
    grind (arith, ih, e)

any_reverse : (p : ℕ → Bool) (ns : List ℕ) → list_any p (reverse ns) ≡ list_any p ns
any_reverse p [] = refl
any_reverse p (n ∷ ns) =
    let ih = any_reverse p ns in
    let e = any_push p (reverse ns) n in
    let r : reverse (n ∷ ns) ≡ reverse ns ++ n ∷ [] = reverse-append (n ∷ []) ns in
    rw r (grind (arith, ih, e))

distinct_reverse : (ns : List ℕ) → is_distinct (reverse ns) ≡ is_distinct ns
distinct_reverse [] = refl
distinct_reverse (n ∷ ns) =
    let ih = distinct_reverse ns in
    let e = distinct_push (reverse ns) n in
    let a = any_reverse (λ m. m == n) ns in
    let r : reverse (n ∷ ns) ≡ reverse ns ++ n ∷ [] = reverse-append (n ∷ []) ns in
    rw r (grind (arith, ih, e, a))

all_push : (p : ℕ → Bool) (ns : List ℕ) (x : ℕ) → list_all p (ns ++ x ∷ []) ≡ (list_all p ns && p x)
all_push p [] x = grind arith
all_push p (n ∷ ns) x = let ih = all_push p ns x in grind (arith, ih)

pub nodes_reverse : (ns : List ℕ) → are_nodes (reverse ns) ≡ are_nodes ns
nodes_reverse [] = refl
nodes_reverse (n ∷ ns) =
    let ih = nodes_reverse ns in
    let e = all_push (λ m. nat_lt m 16) (reverse ns) n in
    let r : reverse (n ∷ ns) ≡ reverse ns ++ n ∷ [] = reverse-append (n ∷ []) ns in
    rw r (grind (arith, ih, e))

pub route_reverse : (ns : List ℕ) → is_route (reverse ns) ≡ is_route ns
route_reverse ns = rw (length-reverse ns, distinct_reverse ns) refl

first_of_append : (ns ms : List ℕ) → 1 ≤ length ns → first_of (ns ++ ms) ≡ first_of ns
first_of_append [] ms h = absurd (omega (arith, h))
first_of_append (n ∷ ns) ms h = refl

pub two_of : (ns : List ℕ) → is_route ns ≡ true → 2 ≤ length ns
two_of ns h = grind arith

pub nine_of : (ns : List ℕ) → is_route ns ≡ true → length ns ≤ 9
nine_of ns h = grind arith

pub is_room : (nodes room : List ℕ) (x : ℕ) → is_route nodes ≡ true → are_nodes nodes ≡ true → x ≡ first_of nodes → room ≡ nodes ++ drop (length nodes) (replicate 9 x) → IsRoom room (length nodes)
is_room nodes room x route in_range first is =
    let two = two_of nodes route in
    let nine = nine_of nodes route in
    let rest : room ≡ nodes ++ replicate (9 - length nodes) x = is ∙ ap (λ (r : List ℕ). nodes ++ r) (drop-replicate (length nodes) 9 x) in
    let prefix : take (length nodes) room ≡ nodes = ap (take (length nodes)) rest ∙ take-append_seam nodes (replicate (9 - length nodes) x) in
    let head : first_of room ≡ first_of nodes = ap first_of rest ∙ first_of_append nodes (replicate (9 - length nodes) x) (omega (arith, two)) in
    record {
      whole = ap length rest ∙ length-append nodes (replicate (9 - length nodes) x) ∙ ap (λ (k : ℕ). length nodes + k) (length-replicate (9 - length nodes) x) ∙ omega (arith, nine);
      within = nine;
      route = ap is_route prefix ∙ route;
      nodes = ap are_nodes prefix ∙ in_range;
      rest = ap (drop (length nodes)) rest ∙ drop-append_seam nodes (replicate (9 - length nodes) x) ∙ ap (replicate (9 - length nodes)) (first ∙ sym head);
    }

pub last_in_room : (room : List ℕ) (size d : ℕ) → IsRoom room size → get_or room (size - 1) d ≡ last_of (take size room)
last_in_room room size d h =
    let two = two_of (take size room) h.route in
    let n : length (take size room) ≡ size = omega (arith, length-take size room, h.whole, h.within) in
    sym (get_or-take size room (size - 1) d (omega (arith, two, n))) ∙ last_at (take size room) (size - 1) d (omega (arith, two, n))

pub none_after : (ns : List ℕ) (v : ℕ) → length ns < 2 → next_after ns v ≡ None
none_after [] v h = refl
none_after (x ∷ []) v h = refl
none_after (x ∷ y ∷ ns) v h = absurd (omega (arith, h))

pub here_after : (ns : List ℕ) (v d e : ℕ) → 2 ≤ length ns → get_or ns 0 d ≡ v → next_after ns v ≡ Some (get_or ns 1 e)
here_after [] v d e h is = absurd (omega (arith, h))
here_after (x ∷ []) v d e h is = absurd (omega (arith, h))
here_after (x ∷ y ∷ ns) v d e h is = grind (arith, is)

pub behind_after : (ns : List ℕ) (v d : ℕ) → 2 ≤ length ns → get_or ns 0 d ≢ v → next_after ns v ≡ next_after (drop 1 ns) v
behind_after [] v d h is = absurd (omega (arith, h))
behind_after (x ∷ []) v d h is = absurd (omega (arith, h))
behind_after (x ∷ y ∷ ns) v d h is = grind (arith, is)

-- the rules for one step of a search along a route
pub ruleset after_steps = (none_after, here_after, behind_after)

pub first_at : (ns : List ℕ) (d : ℕ) → 1 ≤ length ns → d ≡ get_or ns 0 d → d ≡ first_of ns
first_at [] d h is = absurd (omega (arith, h))
first_at (n ∷ ns) d h is = is
