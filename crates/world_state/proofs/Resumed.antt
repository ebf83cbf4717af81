-- A manager starts again: its view has just what the world has of its lanes.
use Rattle.std.proofs.Common.{◌≡◌, ℕ, ◌+◌, ◌*◌, ◌/◌, ◌≤◌, Bool, true, List, ◌++◌, length, length-append, take, refl, sym, ap, subst, ◌∙◌, arith, Some, None}
use Rattle.std.specs.Prelude.{count_by, IfSome}
use Rattle.std.proofs.lemmas.Bool.{ltb-true}
use Rattle.std.proofs.lemmas.List.{take_at}
use Rattle.qkd_base.specs.LaneBytes.{lane_octets, lane_len}
use Rattle.qkd_base.specs.declared.lane.Way.{Way}
use Rattle.qkd_base.specs.declared.lane.Way.TheVariants.{Up, Down}
use Rattle.qkd_base.specs.declared.lane.Lane.{Lane}
use Rattle.net_model.specs.Ledger.{is_burnt}
use Rattle.net_model.specs.OctetSequence.{first_blocks}
use Rattle.net_model.specs.Site.{sender, is_incident, outgoing_lane}
use Rattle.net_model.specs.World.{Network, World, Durable, received}
use Rattle.net_model.specs.View.{View, incoming_octets}
use Rattle.net_model.specs.Needed.{view_of}
use Rattle.net_model.specs.Start.{resolved, restarted, interrupted_start, recovers, start}
use Rattle.net_model.specs.Frames.{octets_sent}
use Rattle.net_model.specs.Events.{is_lane}
use Rattle.net_model.specs.Action.{Recovery, Recovers, Resumes, Interrupted, NoMemory, Foreign, Start, Outcome, Started}
use Rattle.net_model.specs.Step.{step}
use Rattle.world_nodes.specs.Passed.{ManagerForm, Standing, On}
use Rattle.world_nodes.specs.Standings as standings
use Rattle.lane_sender.specs.Lane.{LaneForm}
use Rattle.law_base.proofs.Base.{by_test, number_set_same, not_both}
use Rattle.law_base.proofs.Resuming.{resumed_durable}
use Rattle.law_base.proofs.LaneBlocks.{lane_length, lane_grows}
use Rattle.world_nodes.specs.LaneStands.{IsRunning, spelled_wire, WireStands, LaneStands}
use Rattle.world_nodes.specs.Going.{IsReplayed, made, MayRestart}
use Rattle.world_nodes.proofs.LaneStarts.{resolved_made, may_raise, within, stands_again}
use Rattle.world_nodes.proofs.Taking.{own_lane}
use Rattle.world_nodes.specs.Stands.{StandingStands, PostStands}
use Rattle.world_nodes.proofs.Ports.{port_there}
use Rattle.world_state.specs.Starting.{octets_in, refilled, gone_on, MayRefill, MayGoOn}
use Rattle.world_state.proofs.Leases.{incident_of}
use Rattle.world_state.proofs.Replaying.{gains, refilled_stands}
use Rattle.disk_model.specs.declared.disk.Disk as Disk
use Rattle.source_devices.specs.declared.entropy.Entropy as Entropy
use Rattle.source_devices.specs.declared.wire.Wire as Wire

-- The start brought the manager up.

pub record IsAgain (net : Network) (w : World) (v : ℕ) (after : World) : Type 0 where
  pub committed : Bool
  pub durable : after.durable ≡ (restarted net (resolved net.site w v committed) v).durable
  pub frames : after.frames ≡ w.frames
  pub wire : after.wire ≡ w.wire
  pub up : after.up v ≡ true

-- Any other start changes no lane.
pub record IsUnchanged (w after : World) : Type 0 where
  pub durable : after.durable ≡ w.durable
  pub frames : after.frames ≡ w.frames
  pub wire : after.wire ≡ w.wire

module _ (net : Network) (w : World) (v : ℕ) where
  up_again : (here : World) → (restarted net here v).up v ≡ true
  unfolding restarted
  up_again here = number_set_same here.up v true

  recovered_well : (committed : Bool) → IsAgain net w v (recovers net w v (Recovers committed)).0
  unfolding restarted
  recovered_well committed = record { committed = committed; durable = refl; frames = refl; wire = refl; up = up_again (resolved net.site w v committed) }

  resumed_well : (committed : Bool) → IsAgain net w v (recovers net w v (Resumes committed)).0
  unfolding restarted
  resumed_well committed = record {
    committed = committed;
    durable = ap (λ (d : Durable). (restarted net (record w { durable = d }) v).durable) (resumed_durable net w v committed);
    frames = refl;
    wire = refl;
    up = up_again (resolved net.site (interrupted_start net w v (Some committed)) v committed);
  }

  abbrev ofStart : World × Outcome → Type 0
  ofStart r = (r.1 ≡ Started → IsAgain net w v r.0) × ((r.1 ≡ Started → ⊥) → IsUnchanged w r.0)

  of_recovery : (recovery : Recovery) → ofStart (recovers net w v recovery)
  of_recovery (Recovers committed) = (λ e. recovered_well committed, λ other. absurd (other refl))
  of_recovery (Resumes committed) = (λ e. resumed_well committed, λ other. absurd (other refl))
  of_recovery (Interrupted None) = (λ e. cc, λ other. record { durable = refl; frames = refl; wire = refl })
  of_recovery (Interrupted (Some committed)) = (λ e. cc, λ other. record { durable = refl; frames = refl; wire = refl })
  of_recovery NoMemory = (λ e. cc, λ other. record { durable = refl; frames = refl; wire = refl })
  of_recovery Foreign = (λ e. cc, λ other. record { durable = refl; frames = refl; wire = refl })

  pub started_as : (recovery : Recovery) → ofStart (step net w (Start v recovery))
  unfolding step start
  started_as recovery = by_test ofStart (w.up v) _ _ (λ up. (λ e. cc, λ other. record { durable = refl; frames = refl; wire = refl })) (λ down. of_recovery recovery)

-- what a manager that is up has of a lane that leaves its node

module _ {K E : Type 0} (disk_says : Disk.Ghosts K) (entropy_says : Entropy.Ghosts E) (net : Network) (w : World) (v : ℕ) (l : Lane)
    (running : IsRunning net w) (up : w.up v ≡ true) (at : is_lane net.site l ≡ true) (from : sender net.site l ≡ v) where
  seen_octets : octets_in (view_of net w v) l ≡ octets_sent net w l
  seen_octets =
      ap (incoming_octets l) (port_there net w v l.link (subst (λ (u : ℕ). is_incident net.site u l.link ≡ true) from (incident_of net.site l)) (ltb-true l.link net.site.links at))
      ∙ ap (λ (k : Lane). lane_octets l.way (first_blocks (net.device k.link) (w.durable.blocks k)))
      (ap (λ (u : ℕ). outgoing_lane net.site u l.link) (sym from) ∙ own_lane net.site running.network.site l at)

  standing_octets : (m : ManagerForm K E) (s : Standing K) → StandingStands disk_says net w v m.site m.view s → octets_in m.view l ≡ octets_sent net w l
  standing_octets m (standings.Up journal) stands = ap (λ (x : View). octets_in x l) stands.sees ∙ seen_octets
  standing_octets m (standings.Down disk) stands = absurd (not_both (w.up v) up stands.down)
  standing_octets m standings.Between stands = absurd stands

  pub manager_octets : (m : ManagerForm K E) → PostStands disk_says entropy_says net w v (On m) → octets_in m.view l ≡ octets_sent net w l
  manager_octets m stands = standing_octets m m.standing stands.standing

-- The lane goes on with what its sender's manager has.

frames_same : (net : Network) (w : World) (v : ℕ) → (restarted net w v).frames ≡ w.frames
unfolding restarted
frames_same net w v = refl

wire_same : (net : Network) (w : World) (v : ℕ) → (restarted net w v).wire ≡ w.wire
unfolding restarted
wire_same net w v = refl

whole_blocks : (way : Way) (n : ℕ) → n ≤ 1024 → (k : ℕ) × (lane_len way n ≡ 1024 * k) × (k ≤ 512)
whole_blocks Up n h = ((n + 1) / 2, refl, omega (arith, h))
whole_blocks Down n h = (n / 2, refl, omega (arith, h))

same_lane_stands : {X : Type 0} (wire_says : Wire.Ghosts X) (net : Network) (a b : World) (l : Lane) (side : LaneForm X) →
    b.durable ≡ a.durable → b.frames ≡ a.frames → b.wire ≡ a.wire → LaneStands wire_says net a l side → LaneStands wire_says net b l side
same_lane_stands wire_says net a b l side durable fs wire s = record {
  lane = s.lane;
  bytes = subst (λ (d : Durable). side.bytes ≡ lane_octets l.way (first_blocks (net.device l.link) (d.blocks l))) (sym durable) s.bytes;
  received = subst (λ (d : Durable). side.ledger.received ≡ received d l) (sym durable) s.received;
  used = subst (λ (d : Durable). side.ledger.used ≡ length (d.own l)) (sym durable) s.used;
  burnt = subst (λ (d : Durable). side.ledger.burnt ≡ count_by is_burnt (d.own l)) (sym durable) s.burnt;
  end = subst (λ (d : Durable). side.ledger.end ≤ d.lease l) (sym durable) s.end;
  wire = same_wire (sym durable) (sym fs) (sym wire) s.wire;
}
  where
    same_wire : a.durable ≡ b.durable → a.frames ≡ b.frames → a.wire ≡ b.wire → WireStands wire_says net a l side.wire → WireStands wire_says net b l side.wire
    same_wire d f x h = record {
      count = h.count ∙ ap (λ (t : Lane → List ℕ). length (t l)) x;
      tells = h.tells;
      told = subst (λ (all : List (List ℕ)). IfSome (wire_says.frames side.wire) (λ told. told ≡ all)) (λ i. spelled_wire net (record a { durable = d i; frames = f i; wire = x i }) l) h.told;
    }

module _ {X : Type 0} (wire_says : Wire.Ghosts X) (net : Network) (w : World) (side : LaneForm X)
    (running : IsRunning net w) (at : is_lane net.site side.lane ≡ true) (s : LaneStands wire_says net w side.lane side)
    (after : World) (again : IsAgain net w (sender net.site side.lane) after) (runs_on : IsRunning net after) where
  abbrev l : Lane
  l = side.lane

  abbrev from : ℕ
  from = sender net.site l

  abbrev here : World
  here = resolved net.site w from again.committed

  abbrev octets : List ℕ
  octets = octets_sent net here l

  blocks_after : after.durable.blocks l ≡ here.durable.blocks l
  unfolding restarted
  blocks_after = ap (λ (d : Durable). d.blocks l) again.durable

  lease_after : after.durable.lease l ≡ here.durable.lease l
  unfolding restarted
  lease_after = ap (λ (d : Durable). d.lease l) again.durable

  octets_after : octets_sent net after l ≡ octets
  octets_after = ap (λ (n : ℕ). lane_octets l.way (first_blocks (net.device l.link) n)) blocks_after

  replayed : IsReplayed net w here from (made w from again.committed)
  replayed = resolved_made net w from again.committed running

  may_restart : MayRestart wire_says net w again.committed (refilled octets side) (here.durable.lease l)
  may_restart = record { running = running; at = at; stands = refilled_stands wire_says net w here from (made w from again.committed) l side running at replayed s; leased = refl }

  few_here : here.durable.blocks l ≤ 1024
  few_here = let few = runs_on.conserved.few_blocks l in omega (arith, few, blocks_after)

  blocks_grow : w.durable.blocks l ≤ here.durable.blocks l
  blocks_grow = (gains wire_says net w here from (made w from again.committed) l side running at replayed s).blocks

  may_refill : MayRefill octets side
  may_refill =
      let old = whole_blocks l.way (w.durable.blocks l) (omega (arith, few_here, blocks_grow)) in
      let new = whole_blocks l.way (here.durable.blocks l) few_here in
      let grown = lane_grows l.way (net.device l.link) (w.durable.blocks l) (here.durable.blocks l) blocks_grow in
      let size : length side.bytes ≡ 1024 * old.0 = ap length s.bytes ∙ lane_length l.way (net.device l.link) (w.durable.blocks l) ∙ old.1 in
      let all : length octets ≡ 1024 * new.0 = lane_length l.way (net.device l.link) (here.durable.blocks l) ∙ new.1 in
      let first : octets ≡ side.bytes ++ grown.0 = grown.1 ∙ ap (λ (xs : List ℕ). xs ++ grown.0) (sym s.bytes) in
      let longer : length octets ≡ length side.bytes + length grown.0 = ap length first ∙ length-append side.bytes grown.0 in
      record {
        held = old.0;
        size = size;
        first = sym (ap (take (1024 * old.0)) first ∙ take_at side.bytes grown.0 (1024 * old.0) size);
        received = s.received ∙ sym (ap length s.bytes ∙ lane_length l.way (net.device l.link) (w.durable.blocks l));
        blocks = new.0;
        whole = all;
        within = omega (arith, longer, size, all);
        few = new.2;
      }

  may_go : MayGoOn octets (here.durable.lease l) side
  may_go = record {
    refill = may_refill;
    later = may_raise wire_says net w again.committed (refilled octets side) (here.durable.lease l) may_restart;
    received = within wire_says net w again.committed (refilled octets side) (here.durable.lease l) may_restart;
  }

  went : LaneStands wire_says net after l (gone_on octets (here.durable.lease l) side)
  went =
      same_lane_stands wire_says net (restarted net here from) after l (gone_on octets (here.durable.lease l) side) again.durable (again.frames ∙ sym (frames_same net here from)) (again.wire ∙ sym (wire_same net here from))
      (stands_again wire_says net w again.committed (refilled octets side) (here.durable.lease l) may_restart (gone_on octets (here.durable.lease l) side) refl)

  module _ (bytes : List ℕ) (lease : ℕ) (b : bytes ≡ octets_sent net after l) (e : lease ≡ after.durable.lease l) where
    pub may_go_on : MayGoOn bytes lease side
    may_go_on = subst (λ (xs : List ℕ). MayGoOn xs lease side) (sym (b ∙ octets_after)) (subst (λ (n : ℕ). MayGoOn octets n side) (sym (e ∙ lease_after)) may_go)

    pub goes_on_there : LaneStands wire_says net after l (gone_on bytes lease side)
    goes_on_there =
        subst (λ (xs : List ℕ). LaneStands wire_says net after l (gone_on xs lease side)) (sym (b ∙ octets_after))
        (subst (λ (n : ℕ). LaneStands wire_says net after l (gone_on octets n side)) (sym (e ∙ lease_after)) went)
