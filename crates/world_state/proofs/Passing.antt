-- A frame comes to its receiver, and one post changes. If there is no such frame, nothing changes.
use Rattle.std.proofs.Common.{◌≡◌, ℕ, ◌≤◌, Bool, true, false, ◌&&◌, List, length, take, length-take, refl, sym, ap, subst, ◌∙◌, arith, Option, Some, None}
use Rattle.std.specs.Prelude.{◌==◌, slice_get, is_some}
use Rattle.qkd_base.specs.declared.lane.Lane.{Lane}
use Rattle.net_model.specs.declared.reply.Reply.{Reply}
use Rattle.net_model.specs.Site.{Site, receiver}
use Rattle.net_model.specs.World.{Network, World}
use Rattle.net_model.specs.Events.{is_lane}
use Rattle.net_model.specs.Frames.{deliver, deliver_number}
use Rattle.net_model.specs.Action.{Environment, Deliver, Outcome, Replies, NoFrame, is_io_fault, Ok as Fine}
use Rattle.net_model.specs.Step.{step, is_enabled}
use Rattle.declared_site.specs.SiteOf.{site_of}
use Rattle.world_nodes.specs.Passed.{Post}
use Rattle.law_base.proofs.Base.{eq_same}
use Rattle.world_nodes.proofs.Counted.{here_too}
use Rattle.run_ops.specs.Acting.{IsReady, Does}
use Rattle.world_nodes.specs.LaneStands.{LaneStands}
use Rattle.world_nodes.specs.Seeing.{IsTold, IsSeen}
use Rattle.lane_sender.specs.Lane.{LaneForm}
use Rattle.world_nodes.specs.Hearing.{MayHear, HasHeard}
use Rattle.world_state.specs.Frames.{IsOnWire}
use Rattle.world_state.specs.Stands.{Stands, place_of}
use Rattle.world_state.specs.Tallied.{Tallied}
use Rattle.world_state.specs.declared.state.State.{State}
use Rattle.world_state.proofs.Changes.{OnePost}
use Rattle.world_state.proofs.OnePost.{ChangesOne, happened}
use Rattle.world_state.proofs.OneTallied.{CountsOne}
use Rattle.world_state.proofs.Receivers.{elsewhere, no_part, lane_at}
use Rattle.world_state.proofs.Staying.{stays_done}
use Rattle.source_devices.specs.declared.wire.Wire as Wire
use Rattle.world_state.specs.Outside.{Outside}

may_deliver : (net : Network) (w : World) (l : Lane) (number : ℕ) → is_lane net.site l ≡ true → is_enabled net w (Deliver l number Fine) ≡ true
unfolding is_enabled
may_deliver net w l number at = at

nothing_there : (net : Network) (w : World) (l : Lane) (number : ℕ) → slice_get (w.wire l) number ≡ None → step net w (Deliver l number Fine) ≡ (w, NoFrame (length (w.wire l)))
unfolding step deliver
nothing_there net w l number none = ap (deliver_number net w l Fine) none

delivers_one : (s : Site) (l : Lane) (number : ℕ) (environment : Environment) → ChangesOne s (Deliver l number environment) (receiver s l)
delivers_one s l number environment = record { nodes = λ u other. elsewhere (receiver s l) u other; lanes = λ k. refl; links = λ link. refl; sends = refl }

pub delivers_counted : (s : Site) (l : Lane) (number : ℕ) (environment : Environment) → CountsOne s (Deliver l number environment) (receiver s l) (is_io_fault environment) false
delivers_counted s l number environment = record {
  disk = here_too (receiver s l == receiver s l) (is_io_fault environment) (eq_same (receiver s l));
  entropy = refl;
  armed = λ u. refl;
  disks = λ u other. ap (λ (b : Bool). b && is_io_fault environment) (elsewhere (receiver s l) u other);
  entropies = λ u other. refl;
}

-- a lane of a state

module _ {K Q E X : Type 0} (outside : Outside K Q E X) (s : State K Q E X) (net : Network) (w : World) (l : Lane) (stands : Stands outside s net w) where
  pub side_stands : (place : ℕ) (side : LaneForm X) → is_lane (site_of s.site) l ≡ true → place ≡ place_of l → slice_get s.lanes.items place ≡ Some side → LaneStands outside.wire net w l side
  side_stands place side fit at there =
      stands.lanes l side (subst (λ (x : Site). is_lane x l ≡ true) (sym stands.sited) fit) (ap (slice_get s.lanes.items) (sym at) ∙ there)

pub itself : {X : Type 0} (wire_says : Wire.Ghosts X) (net : Network) (w : World) (l : Lane) (side : LaneForm X) →
    LaneStands wire_says net w l side → LaneStands wire_says net w side.lane side
itself wire_says net w l side s = subst (λ (k : Lane). LaneStands wire_says net w k side) (sym s.lane) s

-- the octets that a wire gave

pub short_of : (n : ℕ) (room octets : List ℕ) → n ≤ 600 → octets ≡ take n room → length octets ≤ 600
short_of n room octets few is = let e : length octets ≡ length (take n room) = ap length is in let t = length-take n room in omega (arith, few, e, t)

told_is : (known : Option (List (List ℕ))) (given frame : List ℕ) → is_some known ≡ true → IsTold known given frame → given ≡ frame
told_is None given frame tells told = cc
told_is (Some all) given frame tells told = told

module _ {X : Type 0} (wire_says : Wire.Ghosts X) (net : Network) (w : World) (l : Lane) (side : LaneForm X) (s : LaneStands wire_says net w l side) where
  pub on_wire_as : (number n : ℕ) (octets given : List ℕ) → IsSeen (wire_says.frames side.wire) net w side.lane number n octets → given ≡ take n octets → IsOnWire net w l number given
  on_wire_as number n octets given seen is =
      subst (λ (k : Lane). IsOnWire net w k number given) s.lane
      (record { frame = seen.frame; there = seen.stands; are = is ∙ told_is (wire_says.frames side.wire) (take n octets) _ s.wire.tells seen.told })

  pub none_as : (number : ℕ) → slice_get (w.wire side.lane) number ≡ None → slice_get (w.wire l) number ≡ None
  none_as number none = ap (λ (k : Lane). slice_get (w.wire k) number) (sym s.lane) ∙ none

module _ {K Q E X : Type 0} (outside : Outside K Q E X) (old : State K Q E X) (net : Network) (w : World) (l : Lane) (number : ℕ)
    (ready : IsReady (Stands outside) old net w) (fit : is_lane (site_of old.site) l ≡ true) where
  at : is_lane net.site l ≡ true
  at = lane_at outside old net w l ready fit

  abbrev v : ℕ
  v = receiver net.site l

  module _ where
    abbrev Done : State K Q E X → Outcome → Type 0
    Done new outcome = Does (Stands outside) (Tallied outside) old new net w (Deliver l number Fine) outcome

    -- There is no such frame.
    pub none_done : (count : ℕ) → count ≡ length (w.wire l) → slice_get (w.wire l) number ≡ None → Done old (NoFrame count)
    none_done count is none =
        subst (λ (n : ℕ). Done old (NoFrame n)) (sym is)
        (stays_done outside old net w ready (Deliver l number Fine) (NoFrame (length (w.wire l)))
        refl (may_deliver net w l number at) refl (nothing_there net w l number none) (λ u. (no_part (v == u), refl, refl)) (record { devices = λ k. refl; wires = λ k. refl }))

    -- The frame comes to its receiver.

    module _ (octets : List ℕ) (seen : IsOnWire net w l number octets) (p : Post K E) (there : slice_get old.posts.items v ≡ Some p) where
      pub may_hear : MayHear outside.disk outside.entropy net w l number p octets old.up
      may_hear = record {
        running = ready.stands.running;
        stands = ready.stands.posts v p there;
        at = at;
        frame = seen.frame;
        there = seen.there;
        are = seen.are;
        links = ready.stands.up;
      }

      pub hear_done : (new : State K Q E X) (q : Post K E) → OnePost old new v p q → (reply : Reply) → HasHeard outside.disk outside.entropy net w l number p q reply →
          Done new (Replies reply)
      hear_done new q change reply h =
          happened outside old new net w v p q change ready (λ (environment : Environment). Deliver l number environment)
          (Deliver l number Fine) (Replies reply) (delivers_one net.site l number) (delivers_counted net.site l number) (λ environment. record { devices = λ k. refl; wires = λ k. refl }) (λ environment. refl) h
