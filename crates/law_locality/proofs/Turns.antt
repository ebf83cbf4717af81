-- One turn of a block has the same outcome in both worlds, and other nodes don't see it.
use Rattle.std.proofs.Common.{◌≡◌, ◌≢◌, ℕ, ◌+◌, ◌<◌, true, false, ◌&&◌, not, List, [], ◌∷◌, length, refl, sym, ◌∙◌, ap, subst, Option, Some, None}
use Rattle.std.specs.Prelude.{◌==◌, nat_lt, slice_get}
use Rattle.std.proofs.lemmas.Bool.{ltb-true}
use Rattle.qkd_base.specs.LaneBytes.{lane_len}
use Rattle.qkd_base.specs.declared.lane.Lane.{Lane}
use Rattle.qkd_base.specs.declared.lane.Way.{Way}
use Rattle.qkd_base.specs.declared.lane.Way.TheVariants.{Up, Down}
use Rattle.net_model.specs.declared.event.Event.{Event}
use Rattle.net_model.specs.declared.event.Event.TheVariants.{Plan}
use Rattle.net_model.specs.declared.fact.Fact.{Fact}
use Rattle.net_model.specs.declared.payload.Payload.{Payload}
use Rattle.net_model.specs.declared.payload.Payload.TheVariants.{Data, Ack}
use Rattle.net_model.specs.declared.reply.Reply.TheVariants.{Down as DownReply, NoBits}
use Rattle.net_model.specs.Item.{Item, DataItem, AckItem, payload, need, data_payload}
use Rattle.net_model.specs.Premises.{IsNetwork}
use Rattle.net_model.specs.OctetSequence.{octets_from}
use Rattle.net_model.specs.Site.{Site, sender, receiver, lane_of}
use Rattle.net_model.specs.World.{Network, World, Allocation, Transmission, received_there}
use Rattle.net_model.specs.View.{View}
use Rattle.net_model.specs.Needed.{view_of}
use Rattle.net_model.specs.Knowledge.{MayCarry}
use Rattle.net_model.specs.Relay.{receive_fact, receive_ack, receive}
use Rattle.net_model.specs.Decision.{Decision, Refuses, Does}
use Rattle.net_model.specs.Decide.{decide, random_need}
use Rattle.net_model.specs.Events.{is_valid_event}
use Rattle.net_model.specs.Invariant.{Conserved}
use Rattle.net_model.specs.Action.{Environment, Action, Ask, Deliver, Outcome, Replies, NoFrame}
use Rattle.net_model.specs.Handle.{perform, resolve, handle}
use Rattle.net_model.specs.Frames.{receive_item, deliver_frame, deliver_number, deliver}
use Rattle.net_model.specs.Step.{step, is_node, is_asked, is_enabled}
use Rattle.net_model.specs.BlockOrder.{is_block_event, is_turn_of}
use Rattle.law_base.proofs.Base.{and_left, and_right, eq_from, by_test}
use Rattle.law_base.proofs.Walks.{deliver_walk}
use Rattle.law_invariant.proofs.Receives.{receive_orders}
use Rattle.law_base.proofs.Grow.{need_grows}
use Rattle.law_invariant.specs.May.{MayDecide, is_plan, decided}
use Rattle.law_invariant.proofs.Decisions.{event_may, receive_may, plan_is}
use Rattle.law_invariant.proofs.Orders.{plan_may, plan_order_at}
use Rattle.law_locality.proofs.Views.{SameFor, same_for, view_same}
use Rattle.law_locality.proofs.Performs.{SameResult, both_tests, IsTurn, performs_same, performs_unseen}

-- The effect of the decision is one that a node may have in one turn.

abbrev pub IsTurnDecision : Network → World → ℕ → Decision → Type 0
IsTurnDecision net w v (Refuses reply) = Unit {0}
IsTurnDecision net w v (Does e) = IsTurn net w v e

no_order : (ts : List Transmission) → ts ≡ [] → (n : ℕ) (t : Transmission) → slice_get ts n ≡ Some t → ⊥
no_order [] none n t h = cc
no_order (x ∷ ts) none n t h = cc

module _ (net : Network) (w : World) (c : Conserved net w) (v : ℕ) where
  decided_turn : (x : Decision) → MayDecide net w v x → IsTurnDecision net w v x
  decided_turn (Refuses reply) may = tt
  decided_turn (Does e) may = record { batch = may.batch; orders = λ n t h. absurd (no_order e.orders may.orders n t h) }

  plan_turn : IsTurnDecision net w v (decided net w v Plan)
  unfolding decide
  plan_turn = record { batch = λ numbered. plan_may net w v c; orders = λ n t h. (plan_order_at net w v c n t h).at }

  event_turn : IsNetwork net → (event : Event) → v < net.site.nodes → is_asked event ≡ true → is_valid_event net.site v event ≡ true → IsTurnDecision net w v (decided net w v event)
  event_turn network event here asked valid = elim (is_plan event) as (λ t. is_plan event ≡ t → IsTurnDecision net w v (decided net w v event)) [
    | true ↦ λ is. subst (λ (x : Event). IsTurnDecision net w v (decided net w v x)) (sym (plan_is event is)) plan_turn
    | false ↦ λ other. decided_turn (decided net w v event) (event_may net w v event network c here asked other valid)
  ] refl

-- A frame that comes is a turn of its receiver.
pub receive_turn : (net : Network) (w : World) → Conserved net w → (l : Lane) (j : ℕ) (a : Allocation) (p : Payload) → slice_get (w.frames l) j ≡ Some a → payload w.durable.facts a.item ≡ Some p →
    IsTurn net w (receiver net.site l) (receive net.site (view_of net w (receiver net.site l)) l a.offset p)
receive_turn net w c l j a p at e =
    record {
      batch = λ numbered. receive_may net w l j a.offset a p c at e numbered;
      orders = λ n t h. absurd (no_order _ (receive_orders net.site (view_of net w (receiver net.site l)) l a.offset p) n t h);
    }

-- Lemmas on the same turn in both worlds.

module _ (net : Network) (network : IsNetwork net) (v : ℕ) (a b : World) (c : Conserved net a) (d : Conserved net b) (h : SameFor net v a b) where
  resolve_same : (octets : ℕ) (environment : Environment) (x : Decision) → IsTurnDecision net a v x →
      SameResult net v (resolve net a v octets environment x) (resolve net b v octets environment x)
  resolve_same octets environment (Refuses reply) turn = record { outcome = refl; world = h }
  resolve_same octets environment (Does e) turn = performs_same net v a b c d h octets e environment turn.batch

  need_same : (event : Event) → random_need (view_of net b v) event ≡ random_need (view_of net a v) event
  need_same event = ap (λ (see : View). random_need see event) (view_same net v a b c h)

  decided_same : (event : Event) → decided net b v event ≡ decided net a v event
  decided_same event =
      let see = view_same net v a b c h in
      let links = h.links in
      let drawn = h.drawn in
      λ i. decide net.site net.sealing (links i) (see i) (octets_from (net.entropy v).octet (drawn i) (random_need (see i) event)) event

  resolved_same : (event : Event) (environment : Environment) → IsTurnDecision net a v (decided net a v event) →
      SameResult net v (resolve net a v (random_need (view_of net a v) event) environment (decided net a v event))
      (resolve net b v (random_need (view_of net b v) event) environment (decided net b v event))
  resolved_same event environment turn =
      subst (λ (r : World × Outcome). SameResult net v (resolve net a v (random_need (view_of net a v) event) environment (decided net a v event)) r)
      (sym (ap (λ (n : ℕ). resolve net b v n environment (decided net b v event)) (need_same event) ∙
      ap (λ (x : Decision). resolve net b v (random_need (view_of net a v) event) environment x) (decided_same event)))
      (resolve_same (random_need (view_of net a v) event) environment (decided net a v event) turn)

  handle_same : (event : Event) (environment : Environment) → IsTurnDecision net a v (decided net a v event) →
      SameResult net v (handle net a v event environment) (handle net b v event environment)
  unfolding handle
  handle_same event environment turn =
      both_tests (SameResult net v) (a.up v) (b.up v)
      (resolve net a v (random_need (view_of net a v) event) environment (decided net a v event)) (a, Replies DownReply)
      (resolve net b v (random_need (view_of net b v) event) environment (decided net b v event)) (b, Replies DownReply)
      h.up (λ up. resolved_same event environment turn) (λ down. record { outcome = refl; world = h })

module _ (net : Network) (l : Lane) (a b : World) (c : Conserved net a) (d : Conserved net b) (h : SameFor net (receiver net.site l) a b) where
  abbrev v : ℕ
  v = receiver net.site l

  there_same : (way : Way) (link : ℕ) (at : ℕ) → receiver net.site (lane_of link way) ≡ at → SameFor net at a b →
      received_there b.durable (lane_of link way) ≡ received_there a.durable (lane_of link way)
  there_same Up link at is k = ap (lane_len Up) (k.durable.extends.taken (lane_of link Down) is)
  there_same Down link at is k = ap (lane_len Down) (k.durable.extends.taken (lane_of link Up) is)

  payload_same : (item : Item) → MayCarry a.durable.facts a.durable.known (sender net.site l) v item → payload b.durable.facts item ≡ payload a.durable.facts item
  payload_same (DataItem n) x = ap data_payload (h.durable.extends.grows n x.fact x.there ∙ sym x.there)
  payload_same (AckItem n) x = refl

  item_same : (j : ℕ) (x : Allocation) (environment : Environment) → slice_get (a.frames l) j ≡ Some x → (o : Option Payload) → payload a.durable.facts x.item ≡ o →
      SameResult net v (receive_item net a l x.offset environment o) (receive_item net b l x.offset environment o)
  item_same j x environment at None e = record { outcome = refl; world = h }
  item_same j x environment at (Some p) e =
      let turn = receive_turn net a c l j x p at e in
      subst (λ (see : View). SameResult net v (perform net a v 0 environment (receive net.site (view_of net a v) l x.offset p)) (perform net b v 0 environment (receive net.site see l x.offset p)))
      (sym (view_same net v a b c h))
      (performs_same net v a b c d h 0 (receive net.site (view_of net a v) l x.offset p) environment turn.batch)

  frame_same : (j : ℕ) (environment : Environment) (o : Option Allocation) → slice_get (a.frames l) j ≡ o →
      SameResult net v (deliver_frame net a l environment o) (deliver_frame net b l environment o)
  unfolding deliver_frame
  frame_same j environment None at = record { outcome = refl; world = h }
  frame_same j environment (Some x) at =
      let carried = (c.now.carried l).framed j x at in
      let there = there_same l.way l.link v refl h in
      let size : need b.durable.facts x.item ≡ need a.durable.facts x.item =
      need_grows a.durable.facts b.durable.facts a.durable.known b.durable.known h.durable.extends.grows h.durable.extends.more (sender net.site l) v x.item carried in
      both_tests (SameResult net v) (not (a.up v)) (not (b.up v)) (a, Replies DownReply) _ (b, Replies DownReply) _ (ap not h.up) (λ down. record { outcome = refl; world = h })
      (λ up. both_tests (SameResult net v) (nat_lt (received_there a.durable l) (x.offset + need a.durable.facts x.item))
      (nat_lt (received_there b.durable l) (x.offset + need b.durable.facts x.item))
      (a, Replies (NoBits (received_there a.durable l))) (receive_item net a l x.offset environment (payload a.durable.facts x.item))
      (b, Replies (NoBits (received_there b.durable l))) (receive_item net b l x.offset environment (payload b.durable.facts x.item))
      (λ i. nat_lt (there i) (x.offset + size i))
      (λ few. record { outcome = ap (λ (n : ℕ). Replies (NoBits n)) there; world = h })
      (λ enough. subst (λ (o : Option Payload). SameResult net v (receive_item net a l x.offset environment (payload a.durable.facts x.item)) (receive_item net b l x.offset environment o))
      (sym (payload_same x.item carried)) (item_same j x environment at (payload a.durable.facts x.item) refl)))

  number_same : (environment : Environment) (o : Option ℕ) → SameResult net v (deliver_number net a l environment o) (deliver_number net b l environment o)
  number_same environment None = record { outcome = ap (λ (f : Lane → List ℕ). NoFrame (length (f l))) h.wire; world = h }
  number_same environment (Some j) =
      subst (λ (o : Option Allocation). SameResult net v (deliver_frame net a l environment (slice_get (a.frames l) j)) (deliver_frame net b l environment o))
      (sym (ap (λ (f : Lane → List Allocation). slice_get (f l) j) h.frames)) (frame_same j environment (slice_get (a.frames l) j) refl)

  deliver_same : (number : ℕ) (environment : Environment) → SameResult net v (deliver net a l number environment) (deliver net b l number environment)
  unfolding deliver
  deliver_same number environment =
      subst (λ (o : Option ℕ). SameResult net v (deliver_number net a l environment (slice_get (a.wire l) number)) (deliver_number net b l environment o))
      (sym (ap (λ (f : Lane → List ℕ). slice_get (f l) number) h.wire)) (number_same environment (slice_get (a.wire l) number))

-- Lemmas on a turn of another node.

module _ (net : Network) (w : World) (c : Conserved net w) (v u : ℕ) (apart : v ≢ u) where
  resolve_unseen : (octets : ℕ) (environment : Environment) (x : Decision) → IsTurnDecision net w u x → SameFor net v w (resolve net w u octets environment x).0
  resolve_unseen octets environment (Refuses reply) turn = same_for net v w
  resolve_unseen octets environment (Does e) turn = performs_unseen net v u apart w c octets e turn environment

  handle_unseen : (event : Event) (environment : Environment) → IsTurnDecision net w u (decided net w u event) → SameFor net v w (handle net w u event environment).0
  unfolding handle
  handle_unseen event environment turn =
      by_test (λ (r : World × Outcome). SameFor net v w r.0) (w.up u) (resolve net w u (random_need (view_of net w u) event) environment (decided net w u event)) (w, Replies DownReply)
      (λ up. resolve_unseen (random_need (view_of net w u) event) environment (decided net w u event) turn) (λ down. same_for net v w)

module _ (net : Network) (w : World) (c : Conserved net w) (v : ℕ) (l : Lane) (apart : v ≢ receiver net.site l) (environment : Environment) where
  item_unseen : (j : ℕ) (x : Allocation) → slice_get (w.frames l) j ≡ Some x → (o : Option Payload) → payload w.durable.facts x.item ≡ o →
      SameFor net v w (receive_item net w l x.offset environment o).0
  item_unseen j x at None e = same_for net v w
  item_unseen j x at (Some p) e =
      performs_unseen net v (receiver net.site l) apart w c 0 (receive net.site (view_of net w (receiver net.site l)) l x.offset p) (receive_turn net w c l j x p at e) environment

  deliver_unseen : (number : ℕ) → SameFor net v w (deliver net w l number environment).0
  deliver_unseen number =
      deliver_walk net w (SameFor net v w) (same_for net v w) l environment (λ j x at up. item_unseen j x at (payload w.durable.facts x.item) refl) number

-- Lemmas on every turn of a block.

pub asked_turn : (net : Network) (w : World) → IsNetwork net → Conserved net w → (v : ℕ) (event : Event) (environment : Environment) → is_enabled net w (Ask v event environment) ≡ true →
    IsTurnDecision net w v (decided net w v event)
unfolding is_enabled
asked_turn net w network c v event environment may =
    let prefix = and_left (is_node net v && is_asked event) (is_valid_event net.site v event) may in
    event_turn net w c v network event (ltb-true v net.site.nodes (and_left (is_node net v) (is_asked event) prefix)) (and_right (is_node net v) (is_asked event) prefix)
    (and_right (is_node net v && is_asked event) (is_valid_event net.site v event) may)

pub turn_same : (net : Network) → IsNetwork net → (v : ℕ) (a b : World) → Conserved net a → Conserved net b → SameFor net v a b → (x : Action) → is_turn_of net.site v x ≡ true →
    is_enabled net a x ≡ true → SameResult net v (step net a x) (step net b x)
unfolding step
turn_same net network v a b c d h (Ask u event environment) turn may =
    let is : u ≡ v = eq_from u v (and_left (u == v) (is_block_event event) turn) in
    subst (λ (n : ℕ). SameResult net v (handle net a n event environment) (handle net b n event environment)) (sym is)
    (handle_same net network v a b c d h event environment (subst (λ (n : ℕ). IsTurnDecision net a n (decided net a n event)) is (asked_turn net a network c u event environment may)))
turn_same net network v a b c d h (Deliver l number environment) turn may =
    let is : receiver net.site l ≡ v = eq_from (receiver net.site l) v turn in
    subst (λ (n : ℕ). SameResult net n (deliver net a l number environment) (deliver net b l number environment)) is
    (deliver_same net l a b c d (subst (λ (n : ℕ). SameFor net n a b) (sym is) h) number environment)
turn_same net network v a b c d h _ turn may = absurd (cc)

pub turn_unseen : (net : Network) → IsNetwork net → (v u : ℕ) → v ≢ u → (w : World) → Conserved net w → (x : Action) → is_turn_of net.site u x ≡ true →
    is_enabled net w x ≡ true → SameFor net v w (step net w x).0
unfolding step
turn_unseen net network v u apart w c (Ask k event environment) turn may =
    let is : k ≡ u = eq_from k u (and_left (k == u) (is_block_event event) turn) in
    subst (λ (n : ℕ). SameFor net v w (handle net w n event environment).0) (sym is)
    (handle_unseen net w c v u apart event environment (subst (λ (n : ℕ). IsTurnDecision net w n (decided net w n event)) is (asked_turn net w network c k event environment may)))
turn_unseen net network v u apart w c (Deliver l number environment) turn may =
    deliver_unseen net w c v l (λ e. apart (e ∙ eq_from (receiver net.site l) u turn)) environment number
turn_unseen net network v u apart w c _ turn may = absurd (cc)
