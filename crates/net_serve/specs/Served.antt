-- What the managers of a run did for connections.
use Rattle.std.specs.Prelude.{◌≡◌, ℕ, ◌+◌, ◌%◌, ◌==◌, if◌then◌else◌, Bool, true, List, [], ◌∷◌, ◌++◌, length, slice_get, Some, Result, is_ok}
use Rattle.std.specs.List.{flat_map, list_all}
use Rattle.edge_io.specs.declared.failed.Failed.{Failed}
use Rattle.net_model.specs.World.{Network, World}
use Rattle.net_model.specs.Action.{Action, Ask, Environment, Replies}
use Rattle.net_model.specs.Step.{step, run, IsRun}
use Rattle.net_model.specs.BlockOrder.{AreChains}
use Rattle.sae_entitlements.specs.Grants.{Grants}
use Rattle.run_model.specs.Course.{is_request_of}
use Rattle.turnstile.specs.Views.{IsWhole}
use Rattle.kme_serve.specs.Door.{Door}
use Rattle.kme_serve.specs.Workers.{HasServed}
use Rattle.net_serve.specs.Serving.{Said, Call, IsNextCall, next_place}
use Rattle.world_state.specs.Stands.{Stands}
use Rattle.world_state.specs.Tallied.{Tallied}
use Rattle.world_state.specs.declared.state.State.{State}
use Rattle.world_state.specs.Outside.{Outside}

-- ---- histories

-- in these consecutive actions a node's manager is asked exactly these events, and gives these replies
abbrev pub AreSaid : Network → World → (v : ℕ) → List Action → List Said → Type 0
AreSaid net w v [] [] = Unit {0}
AreSaid net w v (a ∷ actions) (said ∷ log) =
    ((environment : Environment) × (a ≡ Ask v said.0 environment)) × ((step net w a).1 ≡ Replies said.1) × AreSaid net (step net w a).0 v actions log
AreSaid net w v _ _ = ⊥

-- the managers of the nodes from `v` on are asked these events and reply so; each node's history follows those of the nodes before it
abbrev pub AllAreSaid : Network → World → (v : ℕ) → List (List Action) → List (List Said) → Type 0
AllAreSaid net w v [] [] = Unit {0}
AllAreSaid net w v (h ∷ hs) (log ∷ logs) = AreSaid net w v h log × AllAreSaid net (run net w h) (v + 1) hs logs
AllAreSaid net w v _ _ = ⊥

-- the calls of all workers that serve a node: worker k serves node k modulo the number of nodes
abbrev pub calls_of : (v nodes k : ℕ) → List (List Call) → List Call
calls_of v nodes k [] = []
calls_of v nodes k (calls ∷ more) = if k % nodes == v then calls ++ calls_of v nodes (k + 1) more else calls_of v nodes (k + 1) more

-- ---- doors

-- For each worker, at its own door: the door's connections, the texts written to each, how each ended, and the calls that they made of the manager of the
-- worker's node. Each manager's history consists of exactly these calls, each of them once, at its place.
pub record AreConnected {D : Type 0} (tell : D → Door) (failed : D → ℕ) (names : List (List ℕ)) (g : Grants) (net : Network) (w : World) (histories : List (List Action))
    (connections : ℕ) (before after : List D) (all : Bool) : Type 0 where
  pub calls : List (List Call)
  pub workers : length calls ≡ length before
  pub doors : length after ≡ length before
  pub logs : List (List Said)
  pub said : AllAreSaid net w 0 histories logs
  pub whole : (v : ℕ) (log : List Said) → slice_get logs v ≡ Some log → IsWhole (calls_of v net.site.nodes 0 calls) log
  pub outcomes : List (Result (Unit {0}) Failed)
  pub ended : length outcomes ≡ length before
  pub served : (k : ℕ) (b a : D) (c : List Call) (outcome : Result (Unit {0}) Failed) → slice_get before k ≡ Some b → slice_get after k ≡ Some a → slice_get calls k ≡ Some c →
      slice_get outcomes k ≡ Some outcome →
      HasServed (λ p. Unit {0}) IsNextCall next_place names g (k % net.site.nodes) connections (tell b) (tell a) (failed b) (failed a) [] c outcome
  pub came : list_all is_ok outcomes ≡ all

-- ---- the run goes on

-- The managers' turns lead from a state that stands for a world to a state that stands for the world after them. There is one history for each node.
pub record Serves {K Q E X D : Type 0} (outside : Outside K Q E X)
    (tell : D → Door) (failed : D → ℕ) (old new : State K Q E X) (net : Network) (w : World) (connections : ℕ) (before after : List D) (all : Bool) : Type 0 where
  pub histories : List (List Action)
  pub nodes : length histories ≡ net.site.nodes
  pub requests : list_all (list_all is_request_of) histories ≡ true
  pub chains : AreChains net w 0 histories
  pub steps : IsRun net w (flat_map (λ h. h) histories)
  pub stands : Stands outside new net (run net w (flat_map (λ h. h) histories))
  pub tallied : Tallied outside old new net.site (flat_map (λ h. h) histories)
  pub connected : AreConnected tell failed old.site.nodes old.site.entitlements net w histories connections before after all
