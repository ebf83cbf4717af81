-- Putting a frame on one lane changes no manager and no other lane.
use Rattle.std.proofs.Common.{◌≡◌, ℕ, Bool, true, false, ◌&&◌, ◌||◌, List, length, refl, sym, ap, ◌∙◌, Option, Some, None}
use Rattle.std.specs.Prelude.{slice_get}
use Rattle.qkd_base.specs.Lane.{lane_eq}
use Rattle.qkd_base.specs.declared.lane.Lane.{Lane}
use Rattle.net_model.specs.World.{Network, World, Transmission, Outgoing}
use Rattle.net_model.specs.Events.{is_lane}
use Rattle.net_model.specs.Frames.{allocate, outgoing_of, transmit_one, transmit}
use Rattle.net_model.specs.Action.{Environment, Action, Allocate, Transmit, Outcome, is_no_memory, is_io_fault}
use Rattle.net_model.specs.Step.{step, IsStep}
use Rattle.declared_site.specs.SiteOf.{site_of}
use Rattle.route_table.specs.Layer.{bit_is_set}
use Rattle.kme_base.specs.Up.{AreUp}
use Rattle.world_nodes.specs.Passed.{Post}
use Rattle.lane_sender.specs.Lane.{LaneForm}
use Rattle.law_base.proofs.Base.{by_test}
use Rattle.law_locality.specs.Touched.{ManagerStays}
use Rattle.law_locality.proofs.ManagerSteps.{claim_unseen, transmit_unseen}
use Rattle.world_nodes.specs.LaneStands.{IsRunning, LaneStands}
use Rattle.world_nodes.specs.Stands.{PostStands}
use Rattle.world_nodes.proofs.Going.{post_on}
use Rattle.world_state.specs.Changed.{changes_lane}
use Rattle.world_state.specs.Stands.{Stands, place_of}
use Rattle.world_state.specs.declared.state.State.{State}
use Rattle.world_state.proofs.LanesGoOn.{lane_goes_on}
use Rattle.world_state.proofs.StateGoesOn.{running_on, enabled_of}
use Rattle.world_state.proofs.OneSide.{OneSide, sides_same, each_side}
use Rattle.world_state.specs.Outside.{Outside}

-- Links stay up or down.

claimed_links : (net : Network) (w : World) (t : Transmission) → (step net w (Allocate t)).0.link_up ≡ w.link_up
unfolding step allocate
claimed_links net w t = refl

one_links : (net : Network) (w : World) (l : Lane) (environment : Environment) (o : Option Outgoing) → (transmit_one net w l environment o).0.link_up ≡ w.link_up
one_links net w l environment None = refl
one_links net w l environment (Some o) = by_test (λ (r : World × Outcome). r.0.link_up ≡ w.link_up) (is_no_memory environment || is_io_fault environment) _ _ (λ e. refl) (λ e. refl)

put_links : (net : Network) (w : World) (l : Lane) (j : ℕ) (environment : Environment) → (step net w (Transmit l j environment)).0.link_up ≡ w.link_up
unfolding step transmit
put_links net w l j environment = one_links net w l environment (outgoing_of j (w.outgoing l))

module _ {K Q E X : Type 0} (outside : Outside K Q E X) (old : State K Q E X) (net : Network) (l : Lane) where
  -- All parts of the state but one lane stand for the world.
  pub record Others (w : World) : Type 0 where
    pub running : IsRunning net w
    pub posts : (v : ℕ) (p : Post K E) → slice_get old.posts.items v ≡ Some p → PostStands outside.disk outside.entropy net w v p
    pub lanes : (k : Lane) (side : LaneForm X) → lane_eq k l ≡ false → is_lane net.site k ≡ true → slice_get old.lanes.items (place_of k) ≡ Some side → LaneStands outside.wire net w k side
    pub up : AreUp old.up w.link_up

  pub others_of : (w : World) → Stands outside old net w → Others w
  others_of w s = record { running = s.running; posts = s.posts; lanes = λ k side apart. s.lanes k side; up = s.up }

  others_on : (w : World) (a : Action) → IsStep net w a → ((v : ℕ) → ManagerStays net v w (step net w a).0) → ((k : Lane) → lane_eq k l ≡ false → changes_lane net.site a k ≡ false) →
      (step net w a).0.link_up ≡ w.link_up → Others w → Others (step net w a).0
  others_on w a may managers apart links s = record {
    running = running_on net w a s.running may;
    posts = λ v p at. post_on outside.disk outside.entropy net w (step net w a).0 v (managers v) p (s.posts v p at);
    lanes = λ k side e at there. lane_goes_on net w s.running k outside.wire a side at (enabled_of net w a may) (apart k e) (s.lanes k side e at there);
    up = λ link few. ap (λ (f : ℕ → Bool). f link) links ∙ s.up link few;
  }

  pub others_claimed : (w : World) (t : Transmission) → t.lane ≡ l → IsStep net w (Allocate t) → Others w → Others (step net w (Allocate t)).0
  others_claimed w t on may s =
      others_on w (Allocate t) may (λ v. (claim_unseen net w v t (enabled_of net w (Allocate t) may)).manager)
      (λ k e. ap (λ (b : Bool). b && true) (ap (lane_eq k) on ∙ e)) (claimed_links net w t) s

  pub others_put : (w : World) (j : ℕ) (environment : Environment) → IsStep net w (Transmit l j environment) → Others w → Others (step net w (Transmit l j environment)).0
  others_put w j environment may s =
      others_on w (Transmit l j environment) may (λ v. transmit_unseen net w v l j environment) (λ k e. ap (λ (b : Bool). b && true) e) (put_links net w l j environment) s

  -- If the changed lane stands for the world too, so does the whole new state.
  pub stands_with : (w w' : World) (new : State K Q E X) (before now : LaneForm X) → OneSide old new l before now → Stands outside old net w → Others w' →
      LaneStands outside.wire net w' l now → Stands outside new net w'
  stands_with w w' new before now one s others lane = record {
    running = others.running;
    sited = s.sited ∙ sym (ap site_of one.site);
    nodes = ap length one.posts ∙ s.nodes;
    posts = λ v p at. others.posts v p (ap (λ (ps : List (Post K E)). slice_get ps v) (sym one.posts) ∙ at);
    sides = sides_same old new l before now one ∙ s.sides;
    lanes = λ k side at there.
        each_side old new l before now one (λ m x. is_lane net.site m ≡ true → LaneStands outside.wire net w' m x) (λ at. lane) (λ m x apart was at. others.lanes m x apart at was) k side there at;
    links = ap length one.devices ∙ s.links;
    devices = λ link q at. s.devices link q (ap (λ (qs : List Q). slice_get qs link) (sym one.devices) ∙ at);
    up = λ link few. others.up link few ∙ ap (λ (n : ℕ). bit_is_set n link) (sym one.up);
  }
