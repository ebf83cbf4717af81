-- If an action doesn't change a lane, the program's lane stands for it as before.
use Rattle.std.proofs.Common.{◌≡◌, ℕ, ◌≤◌, Bool, true, false, ◌&&◌, ◌||◌, List, [], ◌∷◌, ◌++◌, refl, sym, subst, arith}
use Rattle.std.specs.Prelude.{nat_lt, if◌then◌else◌}
use Rattle.std.specs.List.{flat_map, list_any}
use Rattle.qkd_base.specs.declared.lane.Lane.{Lane}
use Rattle.net_model.specs.declared.event.Event.{Event}
use Rattle.net_model.specs.declared.event.Event.TheVariants.{Plan}
use Rattle.net_model.specs.declared.record.Record.TheVariants.{Lease as Lease'}
use Rattle.net_model.specs.Site.{Site}
use Rattle.net_model.specs.World.{Network, World}
use Rattle.net_model.specs.View.{View, Port, received_of}
use Rattle.net_model.specs.Needed.{view_of}
use Rattle.net_model.specs.Plan.{end_on, raise, leases_on, plan}
use Rattle.net_model.specs.Decision.{Effect}
use Rattle.net_model.specs.Decide.{decide, random_need}
use Rattle.net_model.specs.Events.{is_lane}
use Rattle.net_model.specs.Action.{Environment, Action, Start, Crash, Arm, SetLink, TakeBlock, Ask, Allocate, Transmit, Complete, Deliver, Flip, Forge}
use Rattle.net_model.specs.Handle.{commit, stopped, perform, handle}
use Rattle.net_model.specs.Step.{step, is_enabled}
use Rattle.law_base.proofs.Walks.{perform_walk, handle_walk}
use Rattle.law_invariant.specs.May.{is_plan}
use Rattle.law_invariant.proofs.Decisions.{plan_is}
use Rattle.law_invariant.proofs.Orders.{plan_may}
use Rattle.law_base.proofs.Lasting.{step_more}
use Rattle.law_locality.specs.Touched.{touches_lane, changes_part, PartStays, Blocks, Own, Lease, Wire}
use Rattle.law_locality.proofs.LaneParts.{step_part}
use Rattle.lane_sender.specs.Lane.{LaneForm}
use Rattle.world_nodes.specs.LaneStands.{IsRunning, LaneStands}
use Rattle.world_nodes.specs.Going.{brings}
use Rattle.world_nodes.proofs.LaneGoing.{goes_on, batch_goes_on}
use Rattle.world_state.specs.Changed.{changes_lane}
use Rattle.source_devices.specs.declared.wire.Wire as Wire

-- An action that doesn't change a lane changes no part of it.
each_part : (touched part others : Bool) → (touched && (part || others)) ≡ false → (touched && part) ≡ false
each_part true true others h = h
each_part true false others h = refl
each_part false part others h = refl

next_part : (touched part others : Bool) → (touched && (part || others)) ≡ false → (touched && others) ≡ false
next_part true true others h = cc
next_part true false others h = h
next_part false part others h = refl

no_part : (b : Bool) → (b && false) ≡ false
no_part true = refl
no_part false = refl

no_plan : (p b : Bool) → p ≡ false → ((p && b) && p) ≡ false
no_plan true b h = cc
no_plan false b h = refl

-- A plan brings no block and lowers no lease.

no_block : (site s : Site) (v : ℕ) (see : View) (l : Lane) (ps : List Port) → list_any (brings site v l) (flat_map (leases_on s see) ps) ≡ false
no_block site s v see l [] = refl
no_block site s v see l (p ∷ ps) =
    elim (nat_lt p.lease (end_on s see p)) as (λ t. list_any (brings site v l) ((if t then Lease' p.lane (raise (end_on s see p) (received_of p)) ∷ [] else []) ++ flat_map (leases_on s see) ps) ≡ false) [
      | true ↦ no_block site s v see l ps
      | false ↦ no_block site s v see l ps
    ]

module _ (net : Network) (w : World) (r : IsRunning net w) (l : Lane) where
  abbrev Later : World → Type 0
  Later after = w.durable.lease l ≤ after.durable.lease l

  committed : (v octets : ℕ) → Later (commit net.site w v octets (plan net.site w.link_up (view_of net w v)))
  unfolding commit plan
  committed v octets =
      (batch_goes_on net w (commit net.site w v octets (plan net.site w.link_up (view_of net w v))) v (plan net.site w.link_up (view_of net w v)).batch l
      (record { may = plan_may net w v r.conserved; durable = refl; frames = refl; wire = refl }) (no_block net.site net.site v (view_of net w v) l _)).lease

  planned : (v octets : ℕ) (environment : Environment) → Later (perform net w v octets environment (plan net.site w.link_up (view_of net w v))).0
  unfolding stopped
  planned v octets environment =
      perform_walk net w Later (omega arith) v octets environment (plan net.site w.link_up (view_of net w v)) (λ numbered fits. omega arith) (λ numbered fits. committed v octets)

  handled : (v : ℕ) (environment : Environment) → Later (handle net w v Plan environment).0
  unfolding decide
  handled v environment =
      handle_walk net w Later (omega arith) v Plan environment (λ up e is.
      let same : plan net.site w.link_up (view_of net w v) ≡ e = cc in
      subst (λ (x : Effect). Later (perform net w v (random_need (view_of net w v) Plan) environment x).0) same (planned v (random_need (view_of net w v) Plan) environment))

  asked : (v : ℕ) (event : Event) (environment : Environment) → is_plan event ≡ true → Later (handle net w v event environment).0
  asked v event environment is = subst (λ (x : Event). Later (handle net w v x environment).0) (sym (plan_is event is)) (handled v environment)

  same_lease : (after : World) → PartStays Lease l w after → Later after
  same_lease after same = omega (arith, same)

  module _ (a : Action) (may : is_enabled net w a ≡ true) where
    unchanged : (touches_lane net.site a l && changes_part Lease a) ≡ false → Later (step net w a).0
    unchanged none = same_lease (step net w a).0 (step_part net w l r.network r.conserved Lease a may none)

  later : (a : Action) → is_enabled net w a ≡ true → changes_lane net.site a l ≡ false → Later (step net w a).0
  unfolding step
  later (Start v recovery) may none = unchanged (Start v recovery) may none
  later (Crash v) may none = unchanged (Crash v) may refl
  later (Arm v fault) may none = unchanged (Arm v fault) may refl
  later (SetLink link up) may none = unchanged (SetLink link up) may refl
  later (TakeBlock v link environment) may none = unchanged (TakeBlock v link environment) may none
  later (Ask v event environment) may none =
      elim (is_plan event) as (λ t. is_plan event ≡ t → Later (handle net w v event environment).0) [
        | true ↦ λ is. asked v event environment is
        | false ↦ λ is. unchanged (Ask v event environment) may (no_plan (is_plan event) _ is)
      ] refl
  later (Allocate t) may none = unchanged (Allocate t) may (no_part (touches_lane net.site (Allocate t) l))
  later (Transmit k j environment) may none = unchanged (Transmit k j environment) may (no_part (touches_lane net.site (Transmit k j environment) l))
  later (Complete v) may none = unchanged (Complete v) may refl
  later (Deliver k number environment) may none = unchanged (Deliver k number environment) may refl
  later (Flip k number bit environment) may none = unchanged (Flip k number bit environment) may refl
  later (Forge k octets environment) may none = unchanged (Forge k octets environment) may refl

  pub lane_goes_on : {X : Type 0} (wire_says : Wire.Ghosts X) (a : Action) (side : LaneForm X) → is_lane net.site l ≡ true →
      is_enabled net w a ≡ true → changes_lane net.site a l ≡ false → LaneStands wire_says net w l side → LaneStands wire_says net (step net w a).0 l side
  lane_goes_on wire_says a side at may none stands =
      let touched = touches_lane net.site a l in
      let blocks = changes_part Blocks a in
      let own = changes_part Own a in
      let wire = changes_part Wire a in
      let part = step_part net w l r.network r.conserved in
      let m = step_more net w a in
      goes_on wire_says net w (step net w a).0 l side r at (record {
        facts = m.facts;
        blocks = part Blocks a may (each_part touched blocks own (each_part touched (blocks || own) wire none));
        own = part Own a may (next_part touched blocks own (each_part touched (blocks || own) wire none));
        lease = later a may none;
        frames = m.frames l;
        wire = part Wire a may (next_part touched (blocks || own) wire none);
      }) stands
