-- Ports that are asked for one after another, and lists that have room.
use Rattle.std.proofs.Common.{◌≡◌, ◌⊎◌, inl, inr, ℕ, zero, suc, ◌+◌, ◌<◌, ◌≤◌, List, [], ◌∷◌, ◌++◌, take, length, refl, sym, ap, subst, ◌∙◌, append_assoc, add-one, arith}
use Rattle.std.specs.Prelude.{Option, Some, None, MatchOption, IfSome, IsSome, true, false}
use Rattle.std.proofs.lemmas.List.{length-append, map-append, take-append-le, take_all, append-nil}
use Rattle.net_model.specs.Site.{count_up}
use Rattle.edge_io.specs.Writes.{Adds}
use Rattle.kme_serve.specs.Doors.{HasRoom, ports_from}

-- ---- ports

pub length-ports : (port many : ℕ) → length (ports_from port many) ≡ many
length-ports port zero = refl
length-ports port (suc many) =
    let m = map-append (λ n. port + n) (count_up many) (many ∷ []) in
    let e = length-ports port many in
    let a = length-append (ports_from port many) ((port + many) ∷ []) in
    let l = ap length m in
    omega (arith, e, a, l)

-- one more port
pub next_port : (port many : ℕ) → ports_from port (many + 1) ≡ ports_from port many ++ (port + many) ∷ []
next_port port many = ap (ports_from port) (add-one many) ∙ map-append (λ n. port + n) (count_up many) (many ∷ [])

at_most : (k many : ℕ) → k ≤ suc many → (k ≡ suc many) ⊎ (k ≤ many)
at_most zero many le = inr (omega arith)
at_most (suc k) zero le = inl (omega (arith, le))
at_most (suc k) (suc many) le = elim (at_most k many (omega (arith, le))) [ inl same ↦ inl (ap suc same) | inr below ↦ inr (omega (arith, below)) ]

pub first_ports : (port k many : ℕ) → k ≤ many → take k (ports_from port many) ≡ ports_from port k
first_ports port k zero le = let none : k ≡ zero = omega (arith, le) in ap (λ (n : ℕ). take n (ports_from port zero)) none ∙ ap (ports_from port) (sym none)
first_ports port k (suc many) le = elim (at_most k many le) [
  | inl same ↦ take_all k (ports_from port (suc many)) (omega (arith, same, length-ports port (suc many))) ∙ ap (ports_from port) (sym same)
  | inr below ↦ ap (take k) (map-append (λ n. port + n) (count_up many) (many ∷ []))
      ∙ take-append-le k (ports_from port many) ((port + many) ∷ []) (omega (arith, below, length-ports port many)) ∙ first_ports port k many below
]

-- ---- items added to a list that is told

pub adds_none : {A : Type 0} (o : Option (List A)) → Adds o o []
adds_none None = tt
adds_none (Some list) = ap (λ (l : List _). Some l) (sym (append-nil list))

pub adds_more : {A : Type 0} (old between new : Option (List A)) (xs ys all : List A) → Adds old between xs → Adds between new ys → all ≡ xs ++ ys → Adds old new all
adds_more None between new xs ys all first then is = tt
adds_more {A} (Some list) between new xs ys all first then is =
    let later : Adds (Some (list ++ xs)) new ys = subst (λ (o : Option (List A)). Adds o new ys) first then in
    later ∙ ap (λ (l : List A). Some l) (append_assoc list xs ys ∙ ap (λ (l : List A). list ++ l) (sym is))

pub adds_same : {A : Type 0} (old between new : Option (List A)) (xs : List A) → between ≡ old → Adds between new xs → Adds old new xs
adds_same {A} old between new xs same added = subst (λ (o : Option (List A)). Adds o new xs) same added

pub adds_to : {A : Type 0} (old between new : Option (List A)) (xs : List A) → Adds old between xs → new ≡ between → Adds old new xs
adds_to {A} old between new xs added same = subst (λ (o : Option (List A)). Adds old o xs) (sym same) added

-- A list that was told is still told.
pub still_told : {A : Type 0} (old new : Option (List A)) (xs : List A) → Adds old new xs → IsSome old → IsSome new
still_told None new xs added some = absurd (let wrong : false ≡ true = some in cc)
still_told {A} (Some list) new xs added some = subst (λ (o : Option (List A)). IsSome o) (sym added) refl

-- ---- lists with room

module _ {P A : Type 0} (told : P → Option (List A)) where
  Room : (o : Option (List A)) (many : ℕ) → Type 0
  Room o many = MatchOption o ((other : P) → told other ≡ None) (λ list. length list + many ≤ 65536)

  few_by : (o : Option (List A)) (many : ℕ) → Room o many → 0 < many → IfSome o (λ list. length list < 65536)
  unfolding Room
  few_by None many room some = tt
  few_by (Some list) many room some = omega (arith, room, some)

  pub few : (p : P) (many : ℕ) → HasRoom told p many → 0 < many → IfSome (told p) (λ list. length list < 65536)
  unfolding Room
  few p many room some = few_by (told p) many room some

  pub room_same : (p q : P) (many : ℕ) → told q ≡ told p → HasRoom told p many → HasRoom told q many
  unfolding Room
  room_same p q many same room = subst (λ (o : Option (List A)). Room o many) (sym same) room

  more_by : (o : Option (List A)) (q : P) (xs : List A) (many rest : ℕ) → Room o many → Adds o (told q) xs → length xs + rest ≤ many → Room (told q) rest
  unfolding Room
  more_by None q xs many rest room added fits = subst (λ (o : Option (List A)). Room o rest) (sym (room q)) room
  more_by (Some list) q xs many rest room added fits =
      let long = length-append list xs in
      let here : length (list ++ xs) + rest ≤ 65536 = omega (arith, room, fits, long) in
      subst (λ (o : Option (List A)). Room o rest) (sym added) here

  -- After some items were added, the rest of the room is left.
  pub room_more : (p q : P) (xs : List A) (many rest : ℕ) → HasRoom told p many → Adds (told p) (told q) xs → length xs + rest ≤ many → HasRoom told q rest
  unfolding Room
  room_more p q xs many rest room added fits = more_by (told p) q xs many rest room added fits

  new_by : (o : Option (List A)) (many : ℕ) → MatchOption o ((other : P) → told other ≡ None) (λ list. list ≡ []) → many ≤ 65536 → Room o many
  unfolding Room
  new_by None many new few = new
  new_by (Some list) many new few = let none = ap length new in omega (arith, none, few)

  -- An empty list has room for up to 65,536 items.
  pub room_of_new : (p : P) (many : ℕ) → MatchOption (told p) ((other : P) → told other ≡ None) (λ list. list ≡ []) → many ≤ 65536 → HasRoom told p many
  unfolding Room
  room_of_new p many new few = new_by (told p) many new few

  less_by : (o : Option (List A)) (many fewer : ℕ) → Room o many → fewer ≤ many → Room o fewer
  unfolding Room
  less_by None many fewer room le = room
  less_by (Some list) many fewer room le = omega (arith, room, le)

  pub room_less : (p : P) (many fewer : ℕ) → HasRoom told p many → fewer ≤ many → HasRoom told p fewer
  unfolding Room
  room_less p many fewer room le = less_by (told p) many fewer room le
