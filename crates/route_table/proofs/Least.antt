-- The first walk of the fewest links is the least walk.
use Rattle.std.proofs.Common.{◌≡◌, ◌≢◌, ℕ, zero, suc, ◌+◌, ◌<◌, ◌≤◌, ◌&&◌, Bool, true, false, nat_le, List, [], ◌∷◌, length, refl, sym, ◌∙◌, inl, inr, arith}
use Rattle.std.proofs.lemmas.Bool.{cases_lt, le-leb, and_from, false≢true}
use Rattle.qkd_base.specs.Route.{is_distinct, is_route}
use Rattle.route_table.specs.Table.{Table}
use Rattle.route_table.specs.Walk.{links_of, IsLeastWalk, HasRoute}
use Rattle.route_table.specs.Layer.{is_reached, HasWalk, AreLayers, IsFirstWalk}
use Rattle.route_table.proofs.Walks.{not_empty, shortest_is_distinct}
use Rattle.route_table.proofs.Layers.{meet}

-- from node a, no walk of at least 1 and fewer than `links` links leads to the node of these layers
abbrev pub NotBelow : List (List Bool) → ℕ → ℕ → Type 0
NotBelow layers a links = (fewer : ℕ) → 0 < fewer → fewer < links → is_reached layers fewer a ≡ false

never_shorter : (t : Table) (up a b links : ℕ) (layers : List (List Bool)) → a ≢ b → links ≤ 9 → AreLayers t up b layers → NotBelow layers a links → (k : ℕ) → k < links → HasWalk t up a b k → ⊥
never_shorter t up a b links layers differ short all below zero less has = differ (meet t up a b has.walk has.walks has.long)
never_shorter t up a b links layers differ short all below (suc k) less has =
    false≢true (sym (below (suc k) (omega arith) less) ∙ (all (suc k) (omega (arith, less, short))).all a has)

pub is_least : (t : Table) (up a b links : ℕ) (layers : List (List Bool)) (walk : List ℕ) → a ≢ b → links ≤ 8 → AreLayers t up b layers → NotBelow layers a links → IsFirstWalk t up a b links walk → IsLeastWalk t up a b walk
is_least t up a b links layers walk differ short all below h = record {
  walks = h.walks;
  fewest = λ other walks. elim (cases_lt (links_of other) links) [
    | inl less ↦ absurd (never_shorter t up a b links layers differ (omega (arith, short)) all below (links_of other) less (record { walk = other; walks = walks; long = refl }))
    | inr not_less ↦ omega (arith, not_less, h.long)
  ];
  first = λ other walks long. h.first other walks (long ∙ h.long);
}

pub makes_route : (t : Table) (up a b links : ℕ) (layers : List (List Bool)) (walk : List ℕ) → a ≢ b → 0 < links → links ≤ 8 → AreLayers t up b layers → NotBelow layers a links → IsFirstWalk t up a b links walk → is_route walk ≡ true
makes_route t up a b links layers walk differ some short all below h =
    let size : length walk ≡ links + 1 = omega (arith, h.long, not_empty t up a b walk h.walks) in
    and_from (nat_le 2 (length walk) && nat_le (length walk) 9) (is_distinct walk)
    (and_from (nat_le 2 (length walk)) (nat_le (length walk) 9) (le-leb 2 (length walk) (omega (arith, size, some))) (le-leb (length walk) 9 (omega (arith, size, short))))
    (shortest_is_distinct t up a b walk h.walks (λ k less has. never_shorter t up a b links layers differ (omega (arith, short)) all below k (omega (arith, less, h.long)) has))

pub has_none : (t : Table) (up a b : ℕ) (layers : List (List Bool)) → a ≢ b → AreLayers t up b layers → NotBelow layers a 9 → HasRoute t up a b → ⊥
has_none t up a b layers differ all below has =
    never_shorter t up a b 9 layers differ (omega arith) all below (links_of has.walk) (omega (arith, has.short)) (record { walk = has.walk; walks = has.walks; long = refl })

pub here_already : (t : Table) (up a b : ℕ) → a ≡ b → HasRoute t up a b
here_already t up a b same = record { walk = a ∷ []; walks = (refl, same); short = omega arith }
