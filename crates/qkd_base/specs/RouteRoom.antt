-- The array that holds a route, computed from the route.
use Rattle.std.specs.Prelude.{◌≡◌, ℕ, ◌-◌, ◌≤◌, List, [], ◌∷◌, ◌++◌, length, take, replicate, true, zero, suc, refl}
use Rattle.std.proofs.Common.{arith, ap, sym, ◌∙◌}
use Rattle.std.proofs.lemmas.List.{length-take, take-append-drop}
use Rattle.qkd_base.specs.declared.route.Route.TheInside.{Inside}
use Rattle.qkd_base.specs.Route.{IsRoom, room_of, is_route, first_of}

abbrev pub inside_of : List ℕ → Inside
inside_of ns = record { room = room_of ns; size = length ns }

-- a route's two fields: its array and its size
abbrev pub inside : List ℕ → ℕ → Inside
inside room size = record { room = room; size = size }

prefix_size : (room : List ℕ) (size : ℕ) → IsRoom room size → length (take size room) ≡ size
prefix_size room size h = omega (arith, length-take size room, h.whole, h.within)

two_of : (ns : List ℕ) → is_route ns ≡ true → 2 ≤ length ns
two_of ns h = grind arith

first_of_take : (ns : List ℕ) (size : ℕ) → 1 ≤ size → first_of (take size ns) ≡ first_of ns
first_of_take [] zero h = refl
first_of_take [] (suc n) h = refl
first_of_take (x ∷ xs) zero h = absurd (omega (arith, h))
first_of_take (x ∷ xs) (suc n) h = refl

same_room : (room : List ℕ) (size : ℕ) → IsRoom room size → room_of (take size room) ≡ room
same_room room size h =
    let n : length (take size room) ≡ size = prefix_size room size h in
    let first : first_of (take size room) ≡ first_of room = first_of_take room size (omega (arith, two_of (take size room) h.route, n)) in
    ap (λ (k : ℕ). take size room ++ replicate (9 - k) (first_of (take size room))) n
    ∙ ap (λ (v : ℕ). take size room ++ replicate (9 - size) v) first
    ∙ ap (λ (rest : List ℕ). take size room ++ rest) (sym h.rest)
    ∙ take-append-drop size room

pub same_inside : (a : Inside) → IsRoom a.room a.size → inside_of (take a.size a.room) ≡ a
same_inside a h =
    ap (λ (room : List ℕ). inside room (length (take a.size a.room))) (same_room a.room a.size h)
    ∙ ap (λ (n : ℕ). inside a.room n) (prefix_size a.room a.size h)
