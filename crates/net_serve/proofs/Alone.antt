-- Each of several consecutive histories, one for each node, is a run from the world before all of them.
use Rattle.std.proofs.Common.{◌≡◌, ℕ, ◌+◌, true, List, [], ◌∷◌, ◌++◌, map, refl, sym, ap, subst, ◌∙◌}
use Rattle.std.specs.List.{list_all, flat_map}
use Rattle.std.proofs.lemmas.List.{map-append}
use Rattle.net_model.specs.World.{Network, World}
use Rattle.net_model.specs.Premises.{IsNetwork}
use Rattle.net_model.specs.Invariant.{Conserved}
use Rattle.net_model.specs.Action.{Action}
use Rattle.net_model.specs.Step.{IsRun}
use Rattle.net_model.specs.BlockOrder.{is_turn_of, AreChains}
use Rattle.run_model.specs.Works.{Work, actions_in, flat}
use Rattle.law_locality.proofs.Views.{same_for}
use Rattle.law_parallel.proofs.Histories.{AreOfNodes, histories_alone}

-- an action as a work of a block, whose place is irrelevant here
abbrev work_with : Action → Work
work_with a = record { place = 0; action = a }

in_works : (h : List Action) → actions_in (map work_with h) ≡ h
in_works [] = refl
in_works (a ∷ h) = ap (λ (xs : List Action). a ∷ xs) (in_works h)

all_in_works : (hs : List (List Action)) → map actions_in (map (map work_with) hs) ≡ hs
all_in_works [] = refl
all_in_works (h ∷ hs) = let one = in_works h in let rest = all_in_works hs in λ i. one i ∷ rest i

flat_in_works : (hs : List (List Action)) → actions_in (flat (map (map work_with) hs)) ≡ flat_map (λ h. h) hs
flat_in_works [] = refl
flat_in_works (h ∷ hs) =
    map-append (λ (x : Work). x.action) (map work_with h) (flat (map (map work_with) hs))
    ∙ (let one = in_works h in let rest = flat_in_works hs in λ i. one i ++ rest i)

module _ (net : Network) where
  -- each history consists of turns of its own node; the first one is node `v`'s
  abbrev pub AreOf : ℕ → List (List Action) → Type 0
  AreOf v [] = Unit {0}
  AreOf v (h ∷ hs) = (list_all (is_turn_of net.site v) h ≡ true) × AreOf (v + 1) hs

  of_nodes : (v : ℕ) (hs : List (List Action)) → AreOf v hs → AreOfNodes net v (map (map work_with) hs)
  of_nodes v [] h = tt
  of_nodes v (x ∷ hs) h = (subst (λ (xs : List Action). list_all (is_turn_of net.site v) xs ≡ true) (sym (in_works x)) h.0, of_nodes (v + 1) hs h.1)

  pub are_chains : (w : World) → IsNetwork net → Conserved net w → (hs : List (List Action)) → AreOf 0 hs → IsRun net w (flat_map (λ h. h) hs) → AreChains net w 0 hs
  are_chains w network c hs of runs =
      let alone =
      histories_alone net network w c (map (map work_with) hs) 0 w c (λ k more. same_for net k w) (of_nodes 0 hs of)
      (subst (IsRun net w) (sym (flat_in_works hs)) runs) in
      subst (AreChains net w 0) (all_in_works hs) alone.chains
