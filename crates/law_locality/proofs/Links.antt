-- A link stays up or down until an action sets it.
use Rattle.std.proofs.Common.{◌≡◌, ℕ, Bool, true, false, ◌||◌, refl, ap, Option, Some, None}
use Rattle.std.specs.Prelude.{slice_get}
use Rattle.qkd_base.specs.declared.lane.Lane.{Lane}
use Rattle.net_model.specs.declared.event.Event.{Event}
use Rattle.net_model.specs.declared.event.Event.TheVariants.{Block, Note}
use Rattle.net_model.specs.declared.payload.Payload.{Payload}
use Rattle.net_model.specs.OctetSequence.{block_at}
use Rattle.net_model.specs.Item.{payload}
use Rattle.net_model.specs.Relay.{receive}
use Rattle.net_model.specs.Site.{receiver}
use Rattle.net_model.specs.World.{Network, World, Allocation, Transmission, Outgoing}
use Rattle.net_model.specs.Needed.{view_of}
use Rattle.net_model.specs.Decision.{Effect}
use Rattle.net_model.specs.Decide.{random_need}
use Rattle.net_model.specs.Action.{Environment, Ok, Action, Start, Crash, Arm, SetLink, TakeBlock, Ask, Allocate, Transmit, Complete, Deliver, Flip, Forge, Recovery, Recovers, Resumes, Interrupted, NoMemory, Foreign, Outcome, is_no_memory, is_io_fault}
use Rattle.net_model.specs.Handle.{commit, stopped, perform, handle, blocks_at, take_block}
use Rattle.net_model.specs.Frames.{receive_item, allocate, outgoing_of, transmit_one, transmit}
use Rattle.net_model.specs.Start.{restarted, recovers, start}
use Rattle.net_model.specs.Step.{step, crash}
use Rattle.law_base.proofs.Base.{by_test}
use Rattle.law_base.proofs.Walks.{perform_walk, handle_walk, take_block_walk, deliver_walk, tampered_walk, flip_walk}
use Rattle.law_locality.specs.Touched.{touches_link}
use Rattle.law_locality.proofs.Managers.{elsewhere, untouched}

module _ (net : Network) (w : World) where
  abbrev Same : World → Type 0
  Same after = after.link_up ≡ w.link_up

  abbrev Leaves : World × Outcome → Type 0
  Leaves r = Same r.0

  stopped_same : (v octets : ℕ) (e : Effect) → Same (stopped w v octets e)
  unfolding stopped
  stopped_same v octets e = refl

  commit_same : (v octets : ℕ) (e : Effect) → Same (commit net.site w v octets e)
  unfolding commit
  commit_same v octets e = refl

  effect_same : (v octets : ℕ) (environment : Environment) (e : Effect) → Same (perform net w v octets environment e).0
  effect_same v octets environment e = perform_walk net w Same refl v octets environment e (λ numbered fits. stopped_same v octets e) (λ numbered fits. commit_same v octets e)

  event_same : (v : ℕ) (event : Event) (environment : Environment) → Same (handle net w v event environment).0
  event_same v event environment = handle_walk net w Same refl v event environment (λ up e is. effect_same v (random_need (view_of net w v) event) environment e)

  block_same : (v link : ℕ) (environment : Environment) → Same (take_block net w v link environment).0
  block_same v link environment =
      take_block_walk net w Same refl v link environment
      (λ not_full. event_same v (Block link (blocks_at net w v link) (block_at (net.device link) (blocks_at net w v link))) environment)

  item_same : (l : Lane) (offset : ℕ) (environment : Environment) (o : Option Payload) → Same (receive_item net w l offset environment o).0
  item_same l offset environment None = refl
  item_same l offset environment (Some p) = effect_same (receiver net.site l) 0 environment (receive net.site (view_of net w (receiver net.site l)) l offset p)

  frame_same : (l : Lane) (environment : Environment) (j : ℕ) (a : Allocation) → slice_get (w.frames l) j ≡ Some a → w.up (receiver net.site l) ≡ true →
      Same (receive_item net w l a.offset environment (payload w.durable.facts a.item)).0
  frame_same l environment j a at up = item_same l a.offset environment (payload w.durable.facts a.item)

  claim_same : (t : Transmission) → Same (allocate w t).0
  unfolding allocate
  claim_same t = refl

  one_same : (l : Lane) (environment : Environment) (o : Option Outgoing) → Same (transmit_one net w l environment o).0
  one_same l environment None = refl
  one_same l environment (Some o) = by_test Leaves (is_no_memory environment || is_io_fault environment) _ _ (λ x. refl) (λ x. refl)

  sent_same : (l : Lane) (j : ℕ) (environment : Environment) → Same (transmit net w l j environment).0
  unfolding transmit
  sent_same l j environment = one_same l environment (outgoing_of j (w.outgoing l))

  recovery_same : (v : ℕ) (recovery : Recovery) → Same (recovers net w v recovery).0
  unfolding restarted
  recovery_same v (Recovers committed) = refl
  recovery_same v (Resumes committed) = refl
  recovery_same v (Interrupted None) = refl
  recovery_same v (Interrupted (Some committed)) = refl
  recovery_same v NoMemory = refl
  recovery_same v Foreign = refl

  start_same : (v : ℕ) (recovery : Recovery) → Same (start net w v recovery).0
  unfolding start
  start_same v recovery = by_test Leaves (w.up v) _ _ (λ up. refl) (λ down. recovery_same v recovery)

  crash_same : (v : ℕ) → Same (crash w v).0
  crash_same v = by_test Leaves (w.up v) _ _ (λ up. refl) (λ down. refl)

at : (link : ℕ) {f g : ℕ → Bool} → f ≡ g → f link ≡ g link
at link same = ap (λ (h : ℕ → Bool). h link) same

pub step_link : (net : Network) (w : World) (a : Action) (link : ℕ) → touches_link a link ≡ false → (step net w a).0.link_up link ≡ w.link_up link
unfolding step
step_link net w (SetLink k up) link h = elsewhere w.link_up k link up (untouched k link h)
step_link net w (Start v recovery) link h = at link (start_same net w v recovery)
step_link net w (Crash v) link h = at link (crash_same net w v)
step_link net w (Arm v fault) link h = refl
step_link net w (TakeBlock v other environment) link h = at link (block_same net w v other environment)
step_link net w (Ask v event environment) link h = at link (event_same net w v event environment)
step_link net w (Allocate t) link h = at link (claim_same net w t)
step_link net w (Transmit l j environment) link h = at link (sent_same net w l j environment)
step_link net w (Complete v) link h = at link (event_same net w v (Note (w.placings v)) Ok)
step_link net w (Deliver l number environment) link h = at link (deliver_walk net w (Same net w) refl l environment (frame_same net w l environment) number)
step_link net w (Flip l number bit environment) link h = at link (flip_walk net w (Same net w) refl l environment (frame_same net w l environment) number bit)
step_link net w (Forge l octets environment) link h = at link (tampered_walk net w (Same net w) refl l environment (frame_same net w l environment) octets)
