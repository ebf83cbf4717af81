-- For each way through the network's calls but a start: what has to be shown so that a predicate holds of the world that they
-- leave. What a manager keeps in its memory changes in few ways.
use Rattle.std.proofs.Common.{◌≡◌, ℕ, ◌+◌, ◌<◌, Bool, true, false, ◌&&◌, ◌||◌, List, [], ◌∷◌, ◌++◌, refl, sym, ◌∙◌, ap, subst, arith, Option, Some, None, inl, inr}
use Rattle.std.specs.Prelude.{◌==◌, nat_lt, length, slice_get}
use Rattle.std.proofs.lemmas.Bool.{ltb-true}
use Rattle.qkd_base.specs.Family.{number_set}
use Rattle.qkd_base.specs.Name.{Name}
use Rattle.qkd_base.specs.declared.lane.Lane.{Lane}
use Rattle.net_model.specs.declared.event.Event.{Event}
use Rattle.net_model.specs.declared.event.Event.TheVariants.{Block, Plan}
use Rattle.net_model.specs.declared.fact.Fact.{Fact}
use Rattle.net_model.specs.declared.payload.Payload.{Payload}
use Rattle.net_model.specs.declared.payload.Payload.TheVariants.{Data, Ack}
use Rattle.net_model.specs.declared.record.Record.TheVariants.{Block as Block'}
use Rattle.net_model.specs.declared.reply.Reply.TheVariants.{LinkFull, Took, Noted}
use Rattle.net_model.specs.Premises.{IsNetwork}
use Rattle.net_model.specs.Item.{Item, DataItem, AckItem, data_payload, payload}
use Rattle.net_model.specs.Table.{name_of, fact_at}
use Rattle.net_model.specs.Site.{sender, receiver}
use Rattle.net_model.specs.OctetSequence.{block_at}
use Rattle.net_model.specs.World.{Network, World, Allocation, Transmission, Outgoing, no_volatile}
use Rattle.net_model.specs.View.{port_of, blocks_of}
use Rattle.net_model.specs.Needed.{masked, view_of}
use Rattle.net_model.specs.Journal.{journal_limit}
use Rattle.net_model.specs.Window.{complete}
use Rattle.net_model.specs.Decision.{Decision, Refuses, Does, Effect, makes}
use Rattle.net_model.specs.Decide.{decide, random_need}
use Rattle.net_model.specs.Plan.{plan}
use Rattle.net_model.specs.Relay.{receive_fact, receive_ack}
use Rattle.net_model.specs.Events.{is_valid_event}
use Rattle.net_model.specs.Invariant.{IsJournal, Conserved}
use Rattle.net_model.specs.Action.{Environment, Action, Start, Crash, Arm, SetLink, TakeBlock, Ask, Allocate, Transmit, Complete, Deliver, Flip, Forge, Outcome, is_no_memory, is_io_fault}
use Rattle.net_model.specs.Handle.{blocks_at, take_block, commit, stopped, perform, handle}
use Rattle.net_model.specs.Frames.{receive_item, allocate, put, transmit_one, transmit, outgoing_of}
use Rattle.net_model.specs.Step.{complete_node, step, is_node, is_asked, is_enabled}
use Rattle.law_base.proofs.Base.{by_test, and_left, and_right}
use Rattle.law_base.proofs.Tables.{found_name}
use Rattle.law_base.proofs.Walks.{perform_walk, handle_walk, take_block_walk, deliver_walk, tampered_walk, flip_walk}
use Rattle.law_invariant.specs.May.{is_plan, MayDecide, decided}
use Rattle.law_invariant.proofs.Decisions.{event_may, plan_is}
use Rattle.law_quiet.specs.Passes.{is_start}

-- The effect of a plan, and that of a note of all placings.

abbrev pub planned_by : Network → World → ℕ → Effect
planned_by net w v = plan net.site w.link_up (view_of net w v)

abbrev pub noted_by : World → ℕ → Effect
noted_by w v = record { batch = []; volatile = complete (w.durable.acked v) (w.volatile v) (w.placings v); orders = []; repeats = []; reply = Noted }

pub record IsLifelong (net : Network) (w : World) (P : World → Type 0) : Type 0 where
  pub same : P w
  pub stops : (v octets : ℕ) (e : Effect) → P (stopped w v octets e)
  pub does : (v octets : ℕ) (e : Effect) → e.volatile ≡ w.volatile v → P (commit net.site w v octets e)
  pub plans : (v : ℕ) → P (commit net.site w v 0 (planned_by net w v))
  pub hears : (l : Lane) (j : ℕ) (a : Allocation) (f : Fact) → slice_get (w.frames l) j ≡ Some a → a.item ≡ DataItem (name_of f) →
      P (commit net.site w (receiver net.site l) 0 (receive_fact (view_of net w (receiver net.site l)) l a.offset f))
  pub answers : (l : Lane) (n : Name) → P (commit net.site w (receiver net.site l) 0 (receive_ack (view_of net w (receiver net.site l)) l (sender net.site l) n))
  pub notes : (v : ℕ) → P (record (commit net.site w v 0 (noted_by w v)) { placings = number_set w.placings v [] })
  pub unheard : (v : ℕ) → w.up v ≡ false → P (record w { placings = number_set w.placings v [] })
  pub allocates : (t : Transmission) → P (allocate w t).0
  pub refuses : (l : Lane) (j : ℕ) (o : Outgoing) → outgoing_of j (w.outgoing l) ≡ Some o → P (put net w l o (w.wire l) None)
  pub puts : (l : Lane) (j : ℕ) (o : Outgoing) → outgoing_of j (w.outgoing l) ≡ Some o → P (put net w l o (w.wire l ++ o.frame ∷ []) (Some (length (w.wire l))))
  pub crashes : (v : ℕ) → P (record w { up = number_set w.up v false; volatile = number_set w.volatile v no_volatile })
  pub links : (link : ℕ) (up : Bool) → P (record w { link_up = number_set w.link_up link up })

-- An item whose payload is a fact is that of its name.
pub carried_fact : (facts : List Fact) (i : Item) (f : Fact) → payload facts i ≡ Some (Data f) → i ≡ DataItem (name_of f)
carried_fact facts (DataItem n) f h = elim (fact_at facts n) as (λ o. fact_at facts n ≡ o → data_payload o ≡ Some (Data f) → DataItem n ≡ DataItem (name_of f)) [
  | None ↦ λ e k. cc
  | Some g ↦ λ e k. let is : g ≡ f = cc in ap DataItem (sym (ap name_of (sym is) ∙ found_name facts n g e))
] refl h
carried_fact facts (AckItem n) f h = cc

module _ (net : Network) (w : World) (network : IsNetwork net) (c : Conserved net w) (P : World → Type 0) (k : IsLifelong net w P) where
  abbrev Leaves : World × Outcome → Type 0
  Leaves r = P r.0

  -- Events.

  abbrev Keeps : ℕ → Decision → Type 0
  Keeps v (Refuses reply) = Unit {0}
  Keeps v (Does e) = e.volatile ≡ w.volatile v

  decided_keeps : (v : ℕ) (x : Decision) → MayDecide net w v x → Keeps v x
  decided_keeps v (Refuses reply) may = tt
  decided_keeps v (Does e) may = may.volatile

  any_event : (v : ℕ) (event : Event) (environment : Environment) → Keeps v (decided net w v event) → P (handle net w v event environment).0
  any_event v event environment keeps =
      handle_walk net w P k.same v event environment (λ up e is.
      perform_walk net w P k.same v _ environment e (λ numbered fits. k.stops v _ e) (λ numbered fits. k.does v _ e (subst (Keeps v) is keeps)))

  plan_event : (v : ℕ) (environment : Environment) → P (handle net w v Plan environment).0
  unfolding handle decide random_need
  plan_event v environment =
      by_test Leaves (w.up v) _ _ (λ up. perform_walk net w P k.same v 0 environment _ (λ numbered fits. k.stops v 0 _) (λ numbered fits. k.plans v)) (λ down. k.same)

  asked_event : (v : ℕ) (event : Event) (environment : Environment) → is_enabled net w (Ask v event environment) ≡ true → P (handle net w v event environment).0
  unfolding is_enabled
  asked_event v event environment may =
      let prefix = and_left (is_node net v && is_asked event) (is_valid_event net.site v event) may in
      let valid = and_right (is_node net v && is_asked event) (is_valid_event net.site v event) may in
      let here = ltb-true v net.site.nodes (and_left (is_node net v) (is_asked event) prefix) in
      let asked = and_right (is_node net v) (is_asked event) prefix in
      elim (is_plan event) as (λ t. is_plan event ≡ t → P (handle net w v event environment).0) [
        | true ↦ λ is. subst (λ (x : Event). P (handle net w v x environment).0) (sym (plan_is event is)) (plan_event v environment)
        | false ↦ λ other. any_event v event environment (decided_keeps v (decided net w v event) (event_may net w v event network c here asked other valid))
      ] refl

  block_keeps : (v link : ℕ) (bytes : List ℕ) → Keeps v (decided net w v (Block link (blocks_at net w v link) bytes))
  unfolding decide view_of masked
  block_keeps v link bytes =
      by_test (Keeps v) (blocks_of (port_of (view_of net w v) link) == 1024) (Refuses LinkFull)
      (makes (view_of net w v) (Block' link (blocks_at net w v link) bytes ∷ []) (Took (blocks_at net w v link))) (λ full. tt) (λ x. refl)

  block_event : (v link : ℕ) (environment : Environment) → P (take_block net w v link environment).0
  block_event v link environment =
      take_block_walk net w P k.same v link environment
      (λ not_full. any_event v (Block link (blocks_at net w v link) (block_at (net.device link) (blocks_at net w v link))) environment
      (block_keeps v link (block_at (net.device link) (blocks_at net w v link))))

  -- The journal of a manager always has room for a note, which records nothing.
  note_event : (v : ℕ) → P (complete_node net w v).0
  unfolding handle decide random_need view_of masked perform
  note_event v =
      by_test (λ (r : World × Outcome). P (record (r.0) { placings = number_set w.placings v [] })) (w.up v) _ _
      (λ up. by_test (λ (r : World × Outcome). P (record (r.0) { placings = number_set w.placings v [] })) (nat_lt journal_limit ((w.journal v).length' + 0)) _ _
      (λ full. absurd (room (c.journals v) (ltb-true journal_limit _ full))) (λ fits. k.notes v)) (k.unheard v)
    where
      room : IsJournal (w.journal v) → journal_limit < (w.journal v).length' + 0 → ⊥
      room (inl none) full = omega (arith, none, full)
      room (inr some) full = let fits = some.1 in omega (arith, fits, full)

  -- Frames that come, and frames that go.

  module _ (l : Lane) (environment : Environment) where
    any_item : (j : ℕ) (a : Allocation) → slice_get (w.frames l) j ≡ Some a → (o : Option Payload) → payload w.durable.facts a.item ≡ o → P (receive_item net w l a.offset environment o).0
    any_item j a at None is = k.same
    any_item j a at (Some (Data f)) is =
        perform_walk net w P k.same (receiver net.site l) 0 environment _ (λ numbered fits. k.stops (receiver net.site l) 0 _)
        (λ numbered fits. k.hears l j a f at (carried_fact w.durable.facts a.item f is))
    any_item j a at (Some (Ack n)) is =
        perform_walk net w P k.same (receiver net.site l) 0 environment _ (λ numbered fits. k.stops (receiver net.site l) 0 _) (λ numbered fits. k.answers l n)

    came : (j : ℕ) (a : Allocation) → slice_get (w.frames l) j ≡ Some a → w.up (receiver net.site l) ≡ true →
        P (receive_item net w l a.offset environment (payload w.durable.facts a.item)).0
    came j a at up = any_item j a at (payload w.durable.facts a.item) refl

    any_put : (j : ℕ) (o : Option Outgoing) → outgoing_of j (w.outgoing l) ≡ o → P (transmit_one net w l environment o).0
    any_put j None is = k.same
    any_put j (Some o) is = by_test Leaves (is_no_memory environment || is_io_fault environment) _ _ (λ e. k.refuses l j o is) (λ e. k.puts l j o is)

  pub life_walk : (a : Action) → is_start a ≡ false → is_enabled net w a ≡ true → P (step net w a).0
  unfolding step transmit
  life_walk (Start v recovery) other may = cc
  life_walk (Crash v) other may = by_test Leaves (w.up v) _ _ (λ up. k.crashes v) (λ down. k.same)
  life_walk (Arm v fault) other may = k.same
  life_walk (SetLink link up) other may = k.links link up
  life_walk (TakeBlock v link environment) other may = block_event v link environment
  life_walk (Ask v event environment) other may = asked_event v event environment may
  life_walk (Allocate t) other may = k.allocates t
  life_walk (Transmit l j environment) other may = any_put l environment j (outgoing_of j (w.outgoing l)) refl
  life_walk (Complete v) other may = note_event v
  life_walk (Deliver l number environment) other may = deliver_walk net w P k.same l environment (came l environment) number
  life_walk (Flip l number bit environment) other may = flip_walk net w P k.same l environment (came l environment) number bit
  life_walk (Forge l octets environment) other may = tampered_walk net w P k.same l environment (came l environment) octets
