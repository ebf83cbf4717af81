-- Actions that send nothing leave all wires as they were.
use Rattle.std.proofs.Common.{◌≡◌, ℕ, true, false, refl, Option, Some, None}
use Rattle.std.specs.Prelude.{slice_get}
use Rattle.qkd_base.specs.declared.lane.Lane.{Lane}
use Rattle.net_model.specs.declared.event.Event.{Event}
use Rattle.net_model.specs.declared.payload.Payload.{Payload}
use Rattle.net_model.specs.Item.{payload}
use Rattle.net_model.specs.Site.{receiver}
use Rattle.net_model.specs.World.{Network, World, Allocation}
use Rattle.net_model.specs.Decision.{Effect}
use Rattle.net_model.specs.Action.{Environment, Action, Start, Crash, Arm, SetLink, TakeBlock, Ask, Allocate, Transmit, Complete, Deliver, Flip, Forge, Outcome}
use Rattle.net_model.specs.Frames.{receive_item}
use Rattle.net_model.specs.Handle.{commit, stopped, perform, handle}
use Rattle.net_model.specs.Step.{step}
use Rattle.law_base.proofs.Base.{by_test}
use Rattle.law_base.proofs.Walks.{perform_walk, handle_walk, take_block_walk, deliver_walk, tampered_walk, flip_walk}
use Rattle.law_quiet.specs.Passes.{is_start}
use Rattle.law_quiet.proofs.KeptQuiet.{sends_nothing}

module _ (net : Network) (w : World) where
  abbrev Same : World → Type 0
  Same x = x.wire ≡ w.wire

  commits : (v octets : ℕ) (e : Effect) → Same (commit net.site w v octets e)
  unfolding commit
  commits v octets e = refl

  stops : (v octets : ℕ) (e : Effect) → Same (stopped w v octets e)
  unfolding stopped
  stops v octets e = refl

  performs : (v octets : ℕ) (environment : Environment) (e : Effect) → Same (perform net w v octets environment e).0
  performs v octets environment e = perform_walk net w Same refl v octets environment e (λ numbered fits. stops v octets e) (λ numbered fits. commits v octets e)

  handles : (v : ℕ) (event : Event) (environment : Environment) → Same (handle net w v event environment).0
  handles v event environment = handle_walk net w Same refl v event environment (λ up e is. performs v _ environment e)

  item : (l : Lane) (environment : Environment) (offset : ℕ) (o : Option Payload) → Same (receive_item net w l offset environment o).0
  item l environment offset None = refl
  item l environment offset (Some p) = performs (receiver net.site l) 0 environment _

  came : (l : Lane) (environment : Environment) (j : ℕ) (a : Allocation) → slice_get (w.frames l) j ≡ Some a → w.up (receiver net.site l) ≡ true →
      Same (receive_item net w l a.offset environment (payload w.durable.facts a.item)).0
  came l environment j a at up = item l environment a.offset (payload w.durable.facts a.item)

  pub same_wires : (a : Action) → sends_nothing a ≡ true → is_start a ≡ false → (step net w a).0.wire ≡ w.wire
  unfolding step
  same_wires (Start v recovery) mute other = cc
  same_wires (Crash v) mute other = by_test (λ (r : World × Outcome). Same r.0) (w.up v) _ _ (λ up. refl) (λ down. refl)
  same_wires (Arm v fault) mute other = refl
  same_wires (SetLink link up) mute other = refl
  same_wires (TakeBlock v link environment) mute other = take_block_walk net w Same refl v link environment (λ not_full. handles v _ environment)
  same_wires (Ask v event environment) mute other = handles v event environment
  same_wires (Allocate t) mute other = cc
  same_wires (Transmit l j environment) mute other = cc
  same_wires (Complete v) mute other = cc
  same_wires (Deliver l number environment) mute other = deliver_walk net w Same refl l environment (came l environment) number
  same_wires (Flip l number bit environment) mute other = flip_walk net w Same refl l environment (came l environment) number bit
  same_wires (Forge l octets environment) mute other = tampered_walk net w Same refl l environment (came l environment) octets
