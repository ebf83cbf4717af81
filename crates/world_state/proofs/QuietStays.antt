-- An action that doesn't send leaves the network quiet.
use Rattle.std.proofs.Common.{◌≡◌, ℕ, Bool, true, false, ◌&&◌, [], refl, ◌∙◌, Option, Some, None}
use Rattle.std.specs.Prelude.{◌==◌}
use Rattle.qkd_base.specs.Family.{number_set}
use Rattle.qkd_base.specs.declared.lane.Lane.{Lane}
use Rattle.net_model.specs.declared.event.Event.{Event}
use Rattle.net_model.specs.declared.event.Event.TheVariants.{Note}
use Rattle.net_model.specs.declared.payload.Payload.{Payload}
use Rattle.net_model.specs.Site.{receiver}
use Rattle.net_model.specs.World.{Network, World}
use Rattle.net_model.specs.Decision.{Effect}
use Rattle.net_model.specs.Action.{Environment, Ok, Outcome, Action, Start, Crash, Arm, SetLink, TakeBlock, Ask, Allocate, Transmit, Complete, Deliver, Flip, Forge, Recovery, Recovers, Resumes, Interrupted, NoMemory, Foreign}
use Rattle.net_model.specs.Handle.{commit, stopped, perform, handle}
use Rattle.net_model.specs.Frames.{receive_item}
use Rattle.net_model.specs.Start.{restarted, recovers, start}
use Rattle.net_model.specs.Step.{step, is_enabled}
use Rattle.law_base.proofs.Base.{by_test}
use Rattle.law_base.proofs.Walks.{perform_walk, handle_walk, take_block_walk, deliver_walk, tampered_walk, flip_walk}
use Rattle.law_locality.specs.Touched.{touches_lane, changes_part, Unclaimed, Outgoing}
use Rattle.law_locality.proofs.LaneParts.{step_part}
use Rattle.world_nodes.specs.LaneStands.{IsRunning}
use Rattle.run_ops.specs.Quiet.{IsQuiet}
use Rattle.world_state.specs.Changed.{sends}

-- orders that aren't claimed, and frames that may be put

unclaimed_stays : (a : Action) → sends a ≡ false → changes_part Unclaimed a ≡ false
unclaimed_stays (Ask v event environment) none = none
unclaimed_stays (Allocate t) none = none
unclaimed_stays (Transmit l j environment) none = refl
unclaimed_stays (Start v recovery) none = refl
unclaimed_stays (Crash v) none = refl
unclaimed_stays (Arm v fault) none = refl
unclaimed_stays (SetLink link up) none = refl
unclaimed_stays (TakeBlock v link environment) none = refl
unclaimed_stays (Complete v) none = refl
unclaimed_stays (Deliver l number environment) none = refl
unclaimed_stays (Flip l number bit environment) none = refl
unclaimed_stays (Forge l octets environment) none = refl

outgoing_stays : (a : Action) → sends a ≡ false → changes_part Outgoing a ≡ false
outgoing_stays (Ask v event environment) none = none
outgoing_stays (Allocate t) none = none
outgoing_stays (Transmit l j environment) none = none
outgoing_stays (Start v recovery) none = refl
outgoing_stays (Crash v) none = refl
outgoing_stays (Arm v fault) none = refl
outgoing_stays (SetLink link up) none = refl
outgoing_stays (TakeBlock v link environment) none = refl
outgoing_stays (Complete v) none = refl
outgoing_stays (Deliver l number environment) none = refl
outgoing_stays (Flip l number bit environment) none = refl
outgoing_stays (Forge l octets environment) none = refl

with_none : (touched changed : Bool) → changed ≡ false → (touched && changed) ≡ false
with_none true changed none = none
with_none false changed none = refl

-- placings that aren't noted

module _ (net : Network) (w : World) (empty : (v : ℕ) → w.placings v ≡ []) where
  abbrev Noted : World → Type 0
  Noted after = (v : ℕ) → after.placings v ≡ []

  effect : (v octets : ℕ) (environment : Environment) (e : Effect) → Noted (perform net w v octets environment e).0
  unfolding stopped commit
  effect v octets environment e = perform_walk net w Noted empty v octets environment e (λ numbered fits. empty) (λ numbered fits. empty)

  answered : (v : ℕ) (event : Event) (environment : Environment) → Noted (handle net w v event environment).0
  answered v event environment = handle_walk net w Noted empty v event environment (λ up e is. effect v _ environment e)

  item : (l : Lane) (environment : Environment) (offset : ℕ) (p : Option Payload) → Noted (receive_item net w l offset environment p).0
  item l environment offset None = empty
  item l environment offset (Some p) = effect (receiver net.site l) 0 environment _

  recovery : (v : ℕ) (recovery : Recovery) → Noted (recovers net w v recovery).0
  unfolding restarted
  recovery v (Recovers committed) = empty
  recovery v (Resumes committed) = empty
  recovery v (Interrupted None) = empty
  recovery v (Interrupted (Some committed)) = empty
  recovery v NoMemory = empty
  recovery v Foreign = empty

  noted : (v : ℕ) (after : World) → Noted (record after { placings = number_set w.placings v [] })
  noted v after u = by_test (λ xs. xs ≡ []) (u == v) [] (w.placings u) (λ e. refl) (λ e. empty u)

  noted_all : (a : Action) → sends a ≡ false → Noted (step net w a).0
  unfolding step start
  noted_all (Start v found) none = by_test (λ (r : World × Outcome). Noted r.0) (w.up v) _ _ (λ up. empty) (λ down. recovery v found)
  noted_all (Crash v) none = by_test (λ (r : World × Outcome). Noted r.0) (w.up v) _ _ (λ up. empty) (λ down. empty)
  noted_all (Arm v fault) none = empty
  noted_all (SetLink link up) none = empty
  noted_all (TakeBlock v link environment) none = take_block_walk net w Noted empty v link environment (λ not_full. answered v _ environment)
  noted_all (Ask v asked environment) none = answered v asked environment
  noted_all (Allocate t) none = cc
  noted_all (Transmit l j environment) none = cc
  noted_all (Complete v) none = noted v (handle net w v (Note (w.placings v)) Ok).0
  noted_all (Deliver l number environment) none = deliver_walk net w Noted empty l environment (λ j a at up. item l environment a.offset _) number
  noted_all (Flip l number bit environment) none = flip_walk net w Noted empty l environment (λ j a at up. item l environment a.offset _) number bit
  noted_all (Forge l octets environment) none = tampered_walk net w Noted empty l environment (λ j a at up. item l environment a.offset _) octets

pub quiet_stays : (net : Network) (w : World) (a : Action) → IsRunning net w → is_enabled net w a ≡ true → sends a ≡ false → IsQuiet w → IsQuiet (step net w a).0
quiet_stays net w a r may none quiet = record {
  claimed = λ l. step_part net w l r.network r.conserved Unclaimed a may (with_none (touches_lane net.site a l) (changes_part Unclaimed a) (unclaimed_stays a none)) ∙ quiet.claimed l;
  put = λ l. step_part net w l r.network r.conserved Outgoing a may (with_none (touches_lane net.site a l) (changes_part Outgoing a) (outgoing_stays a none)) ∙ quiet.put l;
  noted = noted_all net w quiet.noted a none;
}
