-- Walks, their order, and least walks.
use Rattle.std.proofs.Common.{◌≡◌, ◌≢◌, ℕ, ◌+◌, ◌<◌, ◌≤◌, ◌==◌, ◌&&◌, ◌||◌, not, Bool, true, false, List, [], ◌∷◌, length, refl, sym, ap, ◌∙◌, subst, inl, inr, arith}
use Rattle.std.proofs.lemmas.Bool.{ne_eqb}
use Rattle.std.specs.List.{list_any}
use Rattle.qkd_base.specs.Route.{is_distinct}
use Rattle.route_table.specs.Table.{Table}
use Rattle.route_table.specs.Walk.{AreJoined, IsWalk, IsNotAfter, links_of, IsLeastWalk}
use Rattle.route_table.specs.Layer.{HasWalk}

pub not_empty : (t : Table) (up a b : ℕ) (walk : List ℕ) → IsWalk t up a b walk → 1 ≤ length walk
not_empty t up a b [] h = absurd h
not_empty t up a b (v ∷ rest) h = omega arith

-- a link followed by a walk is a walk
pub step_walk : (t : Table) (up v w b : ℕ) (walk : List ℕ) → AreJoined t up v w → IsWalk t up w b walk → IsWalk t up v b (v ∷ walk)
step_walk t up v w b [] joined h = absurd h
step_walk t up v w b (x ∷ []) joined h =
    (refl, subst (λ (y : ℕ). AreJoined t up v y) (sym h.0) joined, (refl, h.1))
step_walk t up v w b (x ∷ y ∷ rest) joined h =
    (refl, subst (λ (z : ℕ). AreJoined t up v z) (sym h.0) joined, (refl, h.1, h.2))

pub from_other : (t : Table) (up v w b : ℕ) (walk : List ℕ) → v ≡ w → IsWalk t up v b walk → IsWalk t up w b walk
from_other t up v w b walk e h = subst (λ (x : ℕ). IsWalk t up x b walk) e h

-- two lists of equal length, neither of which comes after the other, are equal
same_order : (xs ys : List ℕ) → length xs ≡ length ys → IsNotAfter xs ys → IsNotAfter ys xs → xs ≡ ys
same_order [] [] n h k = refl
same_order [] (y ∷ ys) n h k = absurd (omega (arith, n))
same_order (x ∷ xs) [] n h k = absurd (omega (arith, n))
same_order (x ∷ xs) (y ∷ ys) n h k =
    elim h [
      | inl less ↦ elim k [ inl more ↦ absurd (omega (arith, less, more)) | inr more ↦ absurd (omega (arith, less, more.0)) ]
      | inr same ↦ elim k [
        | inl more ↦ absurd (omega (arith, same.0, more))
        | inr back ↦ ap (λ (z : ℕ). z ∷ xs) same.0 ∙ ap (λ (zs : List ℕ). y ∷ zs) (same_order xs ys (omega (arith, n)) same.1 back.1)
      ]
    ]

pub least_is_unique : (t : Table) (up a b : ℕ) (walk other : List ℕ) → IsLeastWalk t up a b walk → IsLeastWalk t up a b other → walk ≡ other
least_is_unique t up a b walk other h k =
    let links : links_of walk ≡ links_of other = omega (arith, h.fewest other k.walks, k.fewest walk h.walks) in
    same_order walk other (omega (arith, links, not_empty t up a b walk h.walks, not_empty t up a b other k.walks))
    (h.first other k.walks (sym links)) (k.first walk h.walks links)

-- a node that has no walk as short as this one is not on it
not_on_walk : (t : Table) (up v w b : ℕ) (walk : List ℕ) → IsWalk t up w b walk → ((links : ℕ) → links ≤ links_of walk → HasWalk t up v b links → ⊥) → list_any (λ m. m == v) walk ≡ false
not_on_walk t up v w b [] h never = absurd h
not_on_walk t up v w b (x ∷ []) h never =
    let other : x ≢ v = λ e. never 0 (omega arith) (record { walk = x ∷ []; walks = (e, h.1); long = omega arith }) in
    ap (λ (here : Bool). here || false) (ne_eqb x v other)
not_on_walk t up v w b (x ∷ y ∷ rest) h never =
    let other : x ≢ v = λ e. never (links_of (x ∷ y ∷ rest)) (omega arith) (record { walk = x ∷ y ∷ rest; walks = (e, h.1, h.2); long = refl }) in
    ap (λ (here : Bool). here || list_any (λ m. m == v) (y ∷ rest)) (ne_eqb x v other)
    ∙ not_on_walk t up v y b (y ∷ rest) h.2 (λ links less has. never links (omega (arith, less)) has)

-- a shortest walk has no node twice
pub shortest_is_distinct : (t : Table) (up a b : ℕ) (walk : List ℕ) → IsWalk t up a b walk → ((links : ℕ) → links < links_of walk → HasWalk t up a b links → ⊥) → is_distinct walk ≡ true
shortest_is_distinct t up a b [] h never = absurd h
shortest_is_distinct t up a b (v ∷ []) h never = refl
shortest_is_distinct t up a b (v ∷ w ∷ rest) h never =
    let gone : list_any (λ m. m == v) (w ∷ rest) ≡ false =
    not_on_walk t up v w b (w ∷ rest) h.2 (λ links less has. never links (omega (arith, less)) (record { walk = has.walk; walks = from_other t up v a b has.walk h.0 has.walks; long = has.long })) in
    let onward : is_distinct (w ∷ rest) ≡ true =
    shortest_is_distinct t up w b (w ∷ rest) h.2 (λ links less has. never (links + 1) (omega (arith, less)) (record {
      walk = v ∷ has.walk;
      walks = from_other t up v a b (v ∷ has.walk) h.0 (step_walk t up v w b has.walk h.1 has.walks);
      long = omega (arith, has.long, not_empty t up w b has.walk has.walks);
    })) in
    ap (λ (here : Bool). not here && is_distinct (w ∷ rest)) gone ∙ onward
