-- Actions that send nothing keep a network quiet.
use Rattle.std.proofs.Common.{◌≡◌, ℕ, Bool, true, false, not, ◌&&◌, List, [], ◌∷◌, refl, sym, subst, Option, Some, None}
use Rattle.std.specs.Prelude.{◌==◌, slice_get}
use Rattle.std.proofs.lemmas.Bool.{ltb-true}
use Rattle.qkd_base.specs.declared.lane.Lane.{Lane}
use Rattle.net_model.specs.declared.event.Event.{Event}
use Rattle.net_model.specs.declared.event.Event.TheVariants.{Block}
use Rattle.net_model.specs.declared.payload.Payload.{Payload}
use Rattle.net_model.specs.declared.payload.Payload.TheVariants.{Data, Ack}
use Rattle.net_model.specs.declared.record.Record.TheVariants.{Block as Block'}
use Rattle.net_model.specs.declared.reply.Reply.TheVariants.{LinkFull, Took}
use Rattle.net_model.specs.Premises.{IsNetwork}
use Rattle.net_model.specs.Item.{payload}
use Rattle.net_model.specs.Site.{receiver}
use Rattle.net_model.specs.OctetSequence.{block_at}
use Rattle.net_model.specs.World.{Network, World, Allocation, Transmission, Entry}
use Rattle.net_model.specs.View.{View, port_of, blocks_of}
use Rattle.net_model.specs.Needed.{view_of}
use Rattle.net_model.specs.Relay.{receive_fact, receive_ack, receive}
use Rattle.net_model.specs.Decision.{Decision, Refuses, Does, Effect, makes}
use Rattle.net_model.specs.Decide.{decide}
use Rattle.net_model.specs.Events.{is_valid_event}
use Rattle.net_model.specs.Invariant.{Conserved}
use Rattle.net_model.specs.Action.{Environment, Action, Start, Crash, Arm, SetLink, TakeBlock, Ask, Allocate, Transmit, Complete, Deliver, Flip, Forge, Recovery, Recovers, Resumes, Interrupted, NoMemory, Foreign, Outcome}
use Rattle.net_model.specs.Handle.{blocks_at, take_block, with_orders, with_repeats, commit, stopped, perform, handle}
use Rattle.net_model.specs.Frames.{receive_item, deliver, tampered, flip}
use Rattle.net_model.specs.Start.{restarted, recovers, start}
use Rattle.net_model.specs.Step.{crash, step, is_node, is_asked, is_enabled}
use Rattle.law_base.proofs.Base.{by_test, and_left, and_right}
use Rattle.law_base.proofs.Walks.{perform_walk, handle_walk, take_block_walk, deliver_walk, tampered_walk, flip_walk}
use Rattle.law_invariant.specs.May.{is_plan, MayDecide, decided}
use Rattle.law_invariant.proofs.Decisions.{event_may}
use Rattle.law_locality.specs.Quiet.{IsQuiet}

-- The action orders no frame, claims and puts none, and notes none.
abbrev pub sends_nothing : Action → Bool
sends_nothing (Ask v event environment) = not (is_plan event)
sends_nothing (Allocate t) = false
sends_nothing (Transmit l j environment) = false
sends_nothing (Complete v) = false
sends_nothing _ = true

-- The effect orders no frame.
record IsSilentEffect (e : Effect) : Type 0 where
  orders : e.orders ≡ []
  repeats : e.repeats ≡ []

abbrev IsSilentDecision : Decision → Type 0
IsSilentDecision (Refuses reply) = Unit {0}
IsSilentDecision (Does e) = IsSilentEffect e

block_silent : (net : Network) (w : World) (v link : ℕ) (bytes : List ℕ) → IsSilentDecision (decided net w v (Block link (blocks_at net w v link) bytes))
unfolding decide
block_silent net w v link bytes =
    by_test IsSilentDecision (blocks_of (port_of (view_of net w v) link) == 1024) (Refuses LinkFull)
    (makes (view_of net w v) (Block' link (blocks_at net w v link) bytes ∷ []) (Took (blocks_at net w v link))) (λ full. tt) (λ x. record { orders = refl; repeats = refl })

receive_silent : (net : Network) (see : View) (l : Lane) (offset : ℕ) (p : Payload) → IsSilentEffect (receive net.site see l offset p)
unfolding receive_fact receive_ack
receive_silent net see l offset (Data f) = record { orders = refl; repeats = refl }
receive_silent net see l offset (Ack n) = record { orders = refl; repeats = refl }

module _ (net : Network) (w : World) (c : Conserved net w) (q : IsQuiet w) where
  commits : (v octets : ℕ) (e : Effect) → IsSilentEffect e → IsQuiet (commit net.site w v octets e)
  unfolding commit
  commits v octets e s = record {
    claimed = λ l. subst (λ (ts : List Transmission). with_orders ts w.unclaimed l ≡ []) (sym s.orders) (q.claimed l);
    put = λ l. subst (λ (es : List Entry). with_repeats es w.frames w.outgoing l ≡ []) (sym s.repeats) (q.put l);
    noted = q.noted;
  }

  stops : (v octets : ℕ) (e : Effect) → IsQuiet (stopped w v octets e)
  unfolding stopped
  stops v octets e = record { claimed = q.claimed; put = q.put; noted = q.noted }

  performs : (v octets : ℕ) (environment : Environment) (e : Effect) → IsSilentEffect e → IsQuiet (perform net w v octets environment e).0
  performs v octets environment e s = perform_walk net w IsQuiet q v octets environment e (λ numbered fits. stops v octets e) (λ numbered fits. commits v octets e s)

  handles : (v : ℕ) (event : Event) (environment : Environment) → IsSilentDecision (decided net w v event) → IsQuiet (handle net w v event environment).0
  handles v event environment s =
      handle_walk net w IsQuiet q v event environment (λ up e is. performs v _ environment e (subst IsSilentDecision is s))

  decides : (v : ℕ) (x : Decision) → MayDecide net w v x → IsSilentDecision x
  decides v (Refuses reply) may = tt
  decides v (Does e) may = record { orders = may.orders; repeats = may.repeats }

  asks : IsNetwork net → (v : ℕ) (event : Event) (environment : Environment) → is_enabled net w (Ask v event environment) ≡ true → not (is_plan event) ≡ true →
      IsQuiet (handle net w v event environment).0
  unfolding is_enabled
  asks network v event environment may other =
      let prefix = and_left (is_node net v && is_asked event) (is_valid_event net.site v event) may in
      handles v event environment (decides v (decided net w v event)
      (event_may net w v event network c (ltb-true v net.site.nodes (and_left (is_node net v) (is_asked event) prefix)) (and_right (is_node net v) (is_asked event) prefix)
      (no_plan (is_plan event) other) (and_right (is_node net v && is_asked event) (is_valid_event net.site v event) may)))
    where
      no_plan : (b : Bool) → not b ≡ true → b ≡ false
      no_plan true h = cc
      no_plan false h = refl

  takes : (v link : ℕ) (environment : Environment) → IsQuiet (take_block net w v link environment).0
  takes v link environment =
      take_block_walk net w IsQuiet q v link environment
      (λ not_full. handles v (Block link (blocks_at net w v link) (block_at (net.device link) (blocks_at net w v link))) environment
      (block_silent net w v link (block_at (net.device link) (blocks_at net w v link))))

  -- A frame is passed, unchanged or changed.

  module _ (l : Lane) (environment : Environment) where
    item : (offset : ℕ) (o : Option Payload) → IsQuiet (receive_item net w l offset environment o).0
    item offset None = q
    item offset (Some p) = performs (receiver net.site l) 0 environment _ (receive_silent net (view_of net w (receiver net.site l)) l offset p)

    came : (j : ℕ) (a : Allocation) → slice_get (w.frames l) j ≡ Some a → w.up (receiver net.site l) ≡ true →
        IsQuiet (receive_item net w l a.offset environment (payload w.durable.facts a.item)).0
    came j a at up = item a.offset (payload w.durable.facts a.item)

    delivers : (number : ℕ) → IsQuiet (deliver net w l number environment).0
    delivers number = deliver_walk net w IsQuiet q l environment came number

    tampers : (octets : List ℕ) → IsQuiet (tampered net w l octets environment).0
    tampers octets = tampered_walk net w IsQuiet q l environment came octets

    flips : (number bit : ℕ) → IsQuiet (flip net w l number bit environment).0
    flips number bit = flip_walk net w IsQuiet q l environment came number bit

  restarts : (v : ℕ) (recovery : Recovery) → IsQuiet (recovers net w v recovery).0
  unfolding restarted
  restarts v (Recovers committed) = record { claimed = q.claimed; put = q.put; noted = q.noted }
  restarts v (Resumes committed) = record { claimed = q.claimed; put = q.put; noted = q.noted }
  restarts v (Interrupted None) = record { claimed = q.claimed; put = q.put; noted = q.noted }
  restarts v (Interrupted (Some committed)) = record { claimed = q.claimed; put = q.put; noted = q.noted }
  restarts v NoMemory = q
  restarts v Foreign = q

  starts : (v : ℕ) (recovery : Recovery) → IsQuiet (start net w v recovery).0
  unfolding start
  starts v recovery = by_test (λ (r : World × Outcome). IsQuiet r.0) (w.up v) _ _ (λ up. q) (λ down. restarts v recovery)

  crashes : (v : ℕ) → IsQuiet (crash w v).0
  crashes v = by_test (λ (r : World × Outcome). IsQuiet r.0) (w.up v) _ _ (λ up. record { claimed = q.claimed; put = q.put; noted = q.noted }) (λ down. q)

  pub stays_quiet : IsNetwork net → (a : Action) → is_enabled net w a ≡ true → sends_nothing a ≡ true → IsQuiet (step net w a).0
  unfolding step
  stays_quiet network (Start v recovery) may none = starts v recovery
  stays_quiet network (Crash v) may none = crashes v
  stays_quiet network (Arm v fault) may none = q
  stays_quiet network (SetLink link up) may none = record { claimed = q.claimed; put = q.put; noted = q.noted }
  stays_quiet network (TakeBlock v link environment) may none = takes v link environment
  stays_quiet network (Ask v event environment) may none = asks network v event environment may none
  stays_quiet network (Allocate t) may none = cc
  stays_quiet network (Transmit l j environment) may none = cc
  stays_quiet network (Complete v) may none = cc
  stays_quiet network (Deliver l number environment) may none = delivers l environment number
  stays_quiet network (Flip l number bit environment) may none = flips l environment number bit
  stays_quiet network (Forge l octets environment) may none = tampers l environment octets
