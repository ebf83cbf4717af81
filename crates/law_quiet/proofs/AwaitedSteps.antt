-- Every action keeps what is awaited on its way, so in every run a quiet network awaits nothing.
use Rattle.std.proofs.Common.{◌≡◌, ℕ, true, false, ◌&&◌, List, [], ◌∷◌, refl, sym, ap, subst, arith, Option, Some, None}
use Rattle.std.specs.Prelude.{◌==◌, count_by, slice_get, if◌then◌else◌}
use Rattle.std.specs.List.{AllByRecursion}
use Rattle.std.proofs.lemmas.Bool.{ltb-true}
use Rattle.qkd_base.specs.declared.lane.Lane.{Lane}
use Rattle.net_model.specs.declared.event.Event.{Event}
use Rattle.net_model.specs.declared.event.Event.TheVariants.{Block, Plan}
use Rattle.net_model.specs.declared.payload.Payload.{Payload}
use Rattle.net_model.specs.declared.placing.Placing.{Placing}
use Rattle.net_model.specs.declared.record.Record.TheVariants.{Block as Block'}
use Rattle.net_model.specs.declared.reply.Reply.TheVariants.{LinkFull, Took}
use Rattle.net_model.specs.Premises.{IsNetwork}
use Rattle.net_model.specs.Item.{payload}
use Rattle.net_model.specs.Site.{sender, receiver}
use Rattle.net_model.specs.OctetSequence.{block_at}
use Rattle.net_model.specs.World.{Network, World, Allocation, Transmission, Outgoing, Volatile, no_volatile}
use Rattle.net_model.specs.View.{port_of, blocks_of}
use Rattle.net_model.specs.Needed.{masked, view_of}
use Rattle.net_model.specs.Decision.{Decision, Refuses, Does, makes}
use Rattle.net_model.specs.Decide.{decide, random_need}
use Rattle.net_model.specs.Events.{is_valid_event}
use Rattle.net_model.specs.Invariant.{Conserved}
use Rattle.net_model.specs.Action.{Environment, Ask, Recovery, Recovers, Resumes, Interrupted, NoMemory, Foreign, Outcome}
use Rattle.net_model.specs.Handle.{blocks_at, take_block, handle}
use Rattle.net_model.specs.Frames.{receive_item, deliver, tampered, flip}
use Rattle.net_model.specs.Start.{resolved, restarted, interrupted_start, recovers, start}
use Rattle.net_model.specs.Step.{crash, is_node, is_asked, is_enabled}
use Rattle.law_base.proofs.Base.{by_number, by_test, and_left, and_right}
use Rattle.law_base.proofs.Walks.{perform_walk, handle_walk, take_block_walk, deliver_walk, tampered_walk, flip_walk}
use Rattle.law_invariant.specs.May.{is_plan, MayDecide, decided}
use Rattle.law_invariant.proofs.Decisions.{event_may, plan_is}
use Rattle.law_quiet.specs.Awaited.{IsOnItsWay, lies_at, told_at, waits_at, IsAwaited}
use Rattle.law_quiet.proofs.Awaiting.{places_left, commits_same, stops, plans, receives}

-- The decision keeps the manager's memory.
abbrev Keeps : Network → World → ℕ → Decision → Type 0
Keeps net w v (Refuses reply) = Unit {0}
Keeps net w v (Does e) = e.volatile ≡ w.volatile v

module _ (net : Network) (w : World) (c : Conserved net w) (h : IsAwaited net w) where
  -- Events.

  decided_keeps : (v : ℕ) (x : Decision) → MayDecide net w v x → Keeps net w v x
  decided_keeps v (Refuses reply) may = tt
  decided_keeps v (Does e) may = may.volatile

  kept_event : (v : ℕ) (event : Event) (environment : Environment) → Keeps net w v (decided net w v event) → IsAwaited net (handle net w v event environment).0
  kept_event v event environment keeps =
      handle_walk net w (IsAwaited net) h v event environment (λ up e is.
      let same : e.volatile ≡ w.volatile v = subst (Keeps net w v) is keeps in
      perform_walk net w (IsAwaited net) h v _ environment e (λ numbered fits. stops net w h v _ e)
      (λ numbered fits. commits_same net w h v _ e (ap (λ (vol : Volatile). vol.awaiting) same)
      (λ l x. let equal = ap (λ (vol : Volatile). count_by (lies_at l x) vol.window) same in omega (arith, equal))))

  planned_event : (v : ℕ) (environment : Environment) → IsAwaited net (handle net w v Plan environment).0
  unfolding handle decide random_need
  planned_event v environment =
      by_test (λ (r : World × Outcome). IsAwaited net r.0) (w.up v) _ _
      (λ up. perform_walk net w (IsAwaited net) h v 0 environment _ (λ numbered fits. stops net w h v 0 _) (λ numbered fits. plans net w h v 0)) (λ down. h)

  pub ask_awaited : IsNetwork net → (v : ℕ) (event : Event) (environment : Environment) → is_enabled net w (Ask v event environment) ≡ true →
      IsAwaited net (handle net w v event environment).0
  unfolding is_enabled
  ask_awaited network v event environment may =
      let prefix = and_left (is_node net v && is_asked event) (is_valid_event net.site v event) may in
      let valid = and_right (is_node net v && is_asked event) (is_valid_event net.site v event) may in
      let here = ltb-true v net.site.nodes (and_left (is_node net v) (is_asked event) prefix) in
      let asked = and_right (is_node net v) (is_asked event) prefix in
      elim (is_plan event) as (λ t. is_plan event ≡ t → IsAwaited net (handle net w v event environment).0) [
        | true ↦ λ is. subst (λ (x : Event). IsAwaited net (handle net w v x environment).0) (sym (plan_is event is)) (planned_event v environment)
        | false ↦ λ other. kept_event v event environment (decided_keeps v (decided net w v event) (event_may net w v event network c here asked other valid))
      ] refl

  block_keeps : (v link : ℕ) (bytes : List ℕ) → Keeps net w v (decided net w v (Block link (blocks_at net w v link) bytes))
  unfolding decide view_of masked
  block_keeps v link bytes =
      by_test (Keeps net w v) (blocks_of (port_of (view_of net w v) link) == 1024) (Refuses LinkFull)
      (makes (view_of net w v) (Block' link (blocks_at net w v link) bytes ∷ []) (Took (blocks_at net w v link))) (λ full. tt) (λ x. refl)

  pub take_block_awaited : (v link : ℕ) (environment : Environment) → IsAwaited net (take_block net w v link environment).0
  take_block_awaited v link environment =
      take_block_walk net w (IsAwaited net) h v link environment
      (λ not_full. kept_event v (Block link (blocks_at net w v link) (block_at (net.device link) (blocks_at net w v link))) environment
      (block_keeps v link (block_at (net.device link) (blocks_at net w v link))))

  -- A frame is passed, unchanged or changed.

  module _ (l : Lane) (environment : Environment) where
    item_awaited : (offset : ℕ) (o : Option Payload) → IsAwaited net (receive_item net w l offset environment o).0
    item_awaited offset None = h
    item_awaited offset (Some p) =
        perform_walk net w (IsAwaited net) h (receiver net.site l) 0 environment _ (λ numbered fits. stops net w h (receiver net.site l) 0 _)
        (λ numbered fits. receives net w h (receiver net.site l) 0 l offset p)

    came : (j : ℕ) (a : Allocation) → slice_get (w.frames l) j ≡ Some a → w.up (receiver net.site l) ≡ true →
        IsAwaited net (receive_item net w l a.offset environment (payload w.durable.facts a.item)).0
    came j a at up = item_awaited a.offset (payload w.durable.facts a.item)

    pub deliver_awaited : (number : ℕ) → IsAwaited net (deliver net w l number environment).0
    deliver_awaited number = deliver_walk net w (IsAwaited net) h l environment came number

    pub tampered_awaited : (octets : List ℕ) → IsAwaited net (tampered net w l octets environment).0
    tampered_awaited octets = tampered_walk net w (IsAwaited net) h l environment came octets

    pub flip_awaited : (number bit : ℕ) → IsAwaited net (flip net w l number bit environment).0
    flip_awaited number bit = flip_walk net w (IsAwaited net) h l environment came number bit

  -- Starts and crashes forget what was awaited.

  forgets : (v : ℕ) (x : World) → x.volatile ≡ (λ u. if u == v then no_volatile else w.volatile u) → x.unclaimed ≡ w.unclaimed → x.outgoing ≡ w.outgoing → x.placings ≡ w.placings → x.frames ≡ w.frames →
      IsAwaited net x
  forgets v x volatile unclaimed outgoing placings frames = record {
    coming = λ u. subst (λ (us : Lane → List Transmission). AllByRecursion (IsOnItsWay net (record x { unclaimed = us }) u) (x.volatile u).awaiting) (sym unclaimed)
        (subst (λ (os : Lane → List Outgoing). AllByRecursion (IsOnItsWay net (record x { unclaimed = w.unclaimed; outgoing = os }) u) (x.volatile u).awaiting) (sym outgoing)
        (subst (λ (ps : ℕ → List Placing). AllByRecursion (IsOnItsWay net (record x { unclaimed = w.unclaimed; outgoing = w.outgoing; placings = ps }) u) (x.volatile u).awaiting) (sym placings)
        (subst (λ (vols : ℕ → Volatile). AllByRecursion (IsOnItsWay net w u) (vols u).awaiting) (sym volatile)
        (by_number (λ k b. AllByRecursion (IsOnItsWay net w k) (if b then no_volatile else w.volatile k).awaiting) v tt (λ k ne. h.coming k) u))));
    once = λ l k.
        let left = places_left net w h v no_volatile (λ m y. omega arith) l k (sender net.site l) in
        let a = ap (λ (vols : ℕ → Volatile). count_by (lies_at l k) (vols (sender net.site l)).window) volatile in
        let b = ap (λ (ps : ℕ → List Placing). count_by (told_at l k) (ps (sender net.site l))) placings in
        let d = ap (λ (os : Lane → List Outgoing). count_by (waits_at (x.frames l) k) (os l)) outgoing in
        let e = ap (λ (fs : Lane → List Allocation). count_by (waits_at (fs l) k) (w.outgoing l)) frames in
        let old = h.once l k in
        omega (arith, left, a, b, d, e, old);
  }

  recovers_awaited : (v : ℕ) (recovery : Recovery) → IsAwaited net (recovers net w v recovery).0
  unfolding restarted
  recovers_awaited v (Recovers committed) = forgets v (restarted net (resolved net.site w v committed) v) refl refl refl refl refl
  recovers_awaited v (Resumes committed) = forgets v (restarted net (resolved net.site (interrupted_start net w v (Some committed)) v committed) v) refl refl refl refl refl
  recovers_awaited v (Interrupted None) = record { coming = h.coming; once = h.once }
  recovers_awaited v (Interrupted (Some committed)) = record { coming = h.coming; once = h.once }
  recovers_awaited v NoMemory = h
  recovers_awaited v Foreign = h

  abbrev Stays : World × Outcome → Type 0
  Stays r = IsAwaited net r.0

  pub start_awaited : (v : ℕ) (recovery : Recovery) → Stays (start net w v recovery)
  unfolding start
  start_awaited v recovery = by_test Stays (w.up v) _ _ (λ e. h) (λ e. recovers_awaited v recovery)

  pub crash_awaited : (v : ℕ) → Stays (crash w v)
  crash_awaited v = by_test Stays (w.up v) _ _ (λ e. forgets v _ refl refl refl refl refl) (λ e. h)
