-- While both ends of a lane stay up, each fact that flies on it waits to be passed, or was heard, or was acknowledged; and so does
-- each acknowledgement that goes back.
use Rattle.std.proofs.Common.{◌≡◌, ℕ, Bool, true, false, not, ◌&&◌, ◌||◌, List, [], ◌∷◌, ◌++◌, length, refl, sym, ◌∙◌, ap, subst, Option, Some, None, inl, inr}
use Rattle.std.specs.Prelude.{◌==◌, slice_get, if◌then◌else◌}
use Rattle.std.specs.List.{list_any}
use Rattle.qkd_base.specs.Name.{Name, has}
use Rattle.qkd_base.specs.Lane.{lane_eq, reverse_lane}
use Rattle.qkd_base.specs.Route.{next_after}
use Rattle.qkd_base.specs.declared.lane.Lane.{Lane}
use Rattle.net_model.specs.declared.fact.Fact.{Fact}
use Rattle.net_model.specs.declared.payload.Payload.{Payload}
use Rattle.net_model.specs.declared.payload.Payload.TheVariants.{Data, Ack}
use Rattle.net_model.specs.declared.record.Record.TheVariants.{Acked}
use Rattle.net_model.specs.Premises.{IsNetwork}
use Rattle.net_model.specs.Item.{Item, DataItem, AckItem, item_name, data_payload, payload}
use Rattle.net_model.specs.Table.{name_of, route_of, fact_at}
use Rattle.net_model.specs.Site.{sender, receiver}
use Rattle.net_model.specs.World.{Network, World, Allocation, Transmission}
use Rattle.net_model.specs.Needed.{masked, view_of}
use Rattle.net_model.specs.Records.{apply_record, replay}
use Rattle.net_model.specs.Knowledge.{IsAdjacent, MayCarry}
use Rattle.net_model.specs.Window.{acknowledge}
use Rattle.net_model.specs.Relay.{owed, receive_fact, receive_ack, receive}
use Rattle.net_model.specs.Invariant.{Conserved}
use Rattle.net_model.specs.Action.{Environment, Action, Deliver, is_shown, environment_of}
use Rattle.net_model.specs.Handle.{commit}
use Rattle.net_model.specs.Step.{step, is_enabled, IsStep}
use Rattle.law_base.proofs.Base.{and_left, or_cases, or_left, or_right, or_same, eq_same, number_set_same, lane_eq_from}
use Rattle.law_base.proofs.Lists.{reverse_twice}
use Rattle.law_base.proofs.Lasting.{step_more}
use Rattle.law_base.proofs.Tables.{has_last}
use Rattle.law_invariant.proofs.Outgoing.{sender_back}
use Rattle.law_invariant.proofs.Steps.{step_keeps}
use Rattle.law_safety.specs.Ends.{stands_before}
use Rattle.law_safety.proofs.Before.{knowers}
use Rattle.law_quiet.specs.Passes.{is_start, is_pass_of, is_heard}
use Rattle.law_quiet.proofs.Delivering.{has_answer}
use Rattle.law_quiet.proofs.Hearing.{is_answered, heard_here}
use Rattle.law_quiet.proofs.HearingSteps.{step_acked, step_answered}
use Rattle.law_quiet.proofs.HeardFrames.{IsHeardFrame, delivered}
use Rattle.law_quiet.proofs.FreshFrames.{IsFresh, step_fresh}
use Rattle.law_quiet.proofs.Tracks.{IsTracked, done_more, now_passed}
use Rattle.law_quiet.proofs.TrackSteps.{step_kept}

abbrev pub is_fact : Item → Bool
is_fact (DataItem n) = true
is_fact (AckItem n) = false

abbrev pub is_ack : Item → Bool
is_ack (DataItem n) = false
is_ack (AckItem n) = true

-- What passing a fact does: its receiver answers it, or its sender has an acknowledgement. What passing an acknowledgement does:
-- the fact's sender has it.

abbrev pub fact_done : Network → Lane → World → Item → ℕ → Bool
fact_done net l w i x = has (w.durable.acked (sender net.site l)) (item_name i) || is_answered l x (w.volatile (receiver net.site l))

abbrev pub ack_done : Network → Lane → World → Item → ℕ → Bool
ack_done net l w i x = has (w.durable.acked (sender net.site l)) (item_name i)

-- The transmission acknowledges a frame that is none of these.

abbrev pub is_at : List Allocation → Option ℕ → Bool
is_at frames None = false
is_at frames (Some x) = list_any (λ (a : Allocation). a.offset == x) frames

abbrev pub is_new_ack : List Allocation → Transmission → Bool
is_new_ack older t = is_ack t.item && not (is_at older t.received_offset)

abbrev pub sends_fact : Transmission → Bool
sends_fact t = is_fact t.item

-- Of the lane's frames, the older ones don't fly.
pub record IsPassing (net : Network) (l : Lane) (passed : Lane → ℕ → Bool) (w : World) : Type 0 where
  pub older : List Allocation
  pub stay : (j : ℕ) (a : Allocation) → slice_get older j ≡ Some a → slice_get (w.frames l) j ≡ Some a
  pub fresh : IsFresh net l (length older) w
  pub facts : IsTracked net l sends_fact is_fact (passed l) (fact_done net l w) w
  pub acks : IsTracked net (reverse_lane l) (is_new_ack older) is_ack (passed (reverse_lane l)) (ack_done net l w) w

-- The numbers that were passed, with those of one more action.
abbrev pub with_pass : Network → World → Action → (Lane → ℕ → Bool) → Lane → ℕ → Bool
with_pass net w a passed l k = passed l k || (is_pass_of l k a && is_heard (step net w a).1)

-- Items and their payloads are of one kind.

fact_payload : (facts : List Fact) (i : Item) (p : Payload) → payload facts i ≡ Some p → is_fact i ≡ true → (f : Fact) × (p ≡ Data f)
fact_payload facts (DataItem n) p e of = elim (fact_at facts n) as (λ o. data_payload o ≡ Some p → (f : Fact) × (p ≡ Data f)) [
  | None ↦ λ k. cc
  | Some g ↦ λ k. (g, cc)
] e
fact_payload facts (AckItem n) p e of = cc

ack_payload : (facts : List Fact) (i : Item) (p : Payload) → payload facts i ≡ Some p → is_ack i ≡ true → (n : Name) × (i ≡ AckItem n) × (p ≡ Ack n)
ack_payload facts (DataItem n) p e of = cc
ack_payload facts (AckItem n) p e of = (n, refl, cc)

-- Who comes right before a node comes before it.
pub next_before : (route : List ℕ) (u v : ℕ) → next_after route u ≡ Some v → stands_before route u v ≡ true
next_before [] u v h = cc
next_before (a ∷ []) u v h = cc
next_before (a ∷ b ∷ rest) u v h = elim (a == u) as (λ t. (if t then Some b else next_after (b ∷ rest) u) ≡ Some v →
    (if t then list_any (λ x. x == v) (b ∷ rest) else stands_before (b ∷ rest) u v) ≡ true) [
      | true ↦ λ e. let is : b ≡ v = cc in or_left (b == v) _ (ap (λ (x : ℕ). x == v) is ∙ eq_same v)
      | false ↦ λ e. next_before (b ∷ rest) u v e
    ] h

module _ (net : Network) (w : World) (network : IsNetwork net) (c : Conserved net w) where
  -- A node to which its next node acknowledges a fact knows the fact.
  pub asker_knows : (m : Lane) (j : ℕ) (a : Allocation) (n : Name) → slice_get (w.frames m) j ≡ Some a → a.item ≡ AckItem n → IsAdjacent w.durable.facts w.durable.known (receiver net.site m) (receiver net.site m) (sender net.site m) n
  asker_knows m j a n at is =
      let x : IsAdjacent w.durable.facts w.durable.known (sender net.site m) (receiver net.site m) (sender net.site m) n =
      subst (MayCarry w.durable.facts w.durable.known (sender net.site m) (receiver net.site m)) is ((c.now.carried m).framed j a at) in
      record {
        fact = x.fact;
        there = x.there;
        next = x.next;
        knows = knowers net w c n x.fact (sender net.site m) x.there x.knows (receiver net.site m) (next_before (route_of x.fact) (receiver net.site m) (sender net.site m) x.next);
      }

  -- Once a fact was passed, its receiver answers it.

  fact_commits : (m : Lane) (offset : ℕ) (f : Fact) →
      is_answered m offset ((commit net.site w (receiver net.site m) 0 (receive_fact (view_of net w (receiver net.site m)) m offset f)).volatile (receiver net.site m)) ≡ true
  unfolding commit receive_fact view_of masked
  fact_commits m offset f =
      ap (is_answered m offset) (number_set_same w.volatile (receiver net.site m) (acknowledge (w.volatile (receiver net.site m)) m offset (name_of f))) ∙
      heard_here m offset (w.volatile (receiver net.site m)) (name_of f)

  fact_settles : (m : Lane) (k : ℕ) (new : World) (h : IsHeardFrame net w m k new) → is_fact h.frame.item ≡ true → is_answered m h.frame.offset (new.volatile (receiver net.site m)) ≡ true
  fact_settles m k new h of =
      let p = fact_payload w.durable.facts h.frame.item h.carried h.is of in
      let is : new ≡ commit net.site w (receiver net.site m) 0 (receive_fact (view_of net w (receiver net.site m)) m h.frame.offset p.0) =
      h.done ∙ ap (λ (x : Payload). commit net.site w (receiver net.site m) 0 (receive net.site (view_of net w (receiver net.site m)) m h.frame.offset x)) p.1 in
      ap (λ (x : World). is_answered m h.frame.offset (x.volatile (receiver net.site m))) is ∙ fact_commits m h.frame.offset p.0

  -- Once an acknowledgement was passed, its receiver has it.

  ack_commits : (m : Lane) (j : ℕ) (a : Allocation) (n : Name) → slice_get (w.frames m) j ≡ Some a → a.item ≡ AckItem n →
      has ((commit net.site w (receiver net.site m) 0 (receive_ack (view_of net w (receiver net.site m)) m (sender net.site m) n)).durable.acked (receiver net.site m)) n ≡ true
  unfolding commit receive_ack replay apply_record
  ack_commits m j a n at is =
      let v : ℕ = receiver net.site m in
      let x = asker_knows m j a n at is in
      elim (has (owed (view_of net w v) (sender net.site m)) n) as (λ t. has (owed (view_of net w v) (sender net.site m)) n ≡ t → has ((replay net.site v (if t then Acked n ∷ [] else []) w.durable).acked v) n ≡ true) [
        | true ↦ λ e. ap (λ (ns : List Name). has ns n) (number_set_same w.durable.acked v (w.durable.acked v ++ n ∷ [])) ∙ has_last (w.durable.acked v) n
        | false ↦ λ e. has_answer net w n x.fact x.there v (sender net.site m) x.next e x.knows
      ] refl

  ack_settles : (m : Lane) (k : ℕ) (new : World) (h : IsHeardFrame net w m k new) → is_ack h.frame.item ≡ true → has (new.durable.acked (receiver net.site m)) (item_name h.frame.item) ≡ true
  ack_settles m k new h of =
      let p = ack_payload w.durable.facts h.frame.item h.carried h.is of in
      let is : new ≡ commit net.site w (receiver net.site m) 0 (receive_ack (view_of net w (receiver net.site m)) m (sender net.site m) p.0) =
      h.done ∙ ap (λ (x : Payload). commit net.site w (receiver net.site m) 0 (receive net.site (view_of net w (receiver net.site m)) m h.frame.offset x)) p.2 in
      ap (λ (x : World). has (x.durable.acked (receiver net.site m)) (item_name h.frame.item)) is ∙
      ap (λ (i : Item). has ((commit net.site w (receiver net.site m) 0 (receive_ack (view_of net w (receiver net.site m)) m (sender net.site m) p.0)).durable.acked (receiver net.site m)) (item_name i)) p.1 ∙
      ack_commits m h.j h.frame p.0 h.framed p.1

  -- The action passes a frame, or none.

  module _ (m : Lane) (class : Transmission → Bool) (kind : Item → Bool) (of_kind : (t : Transmission) → class t ≡ true → kind t.item ≡ true) (passed : Lane → ℕ → Bool) (done : Item → ℕ → Bool) where
    relabel : (x : World) (f g : ℕ → Bool) → ((k : ℕ) → f k ≡ g k) → IsTracked net m class kind f done x → IsTracked net m class kind g done x
    relabel x f g same h = subst (λ (p : ℕ → Bool). IsTracked net m class kind p done x) (λ i. λ k. same k i) h

    delivers : (l : Lane) (number : ℕ) (environment : Environment) → IsStep net w (Deliver l number environment) → IsTracked net m class kind (passed m) done (step net w (Deliver l number environment)).0 →
        ((k : ℕ) (h : IsHeardFrame net w m k (step net w (Deliver l number environment)).0) → kind h.frame.item ≡ true → done h.frame.item h.frame.offset ≡ true) →
        IsTracked net m class kind (with_pass net w (Deliver l number environment) passed m) done (step net w (Deliver l number environment)).0
    unfolding step
    delivers l number environment may h settles =
        let a : Action = Deliver l number environment in
        let new : World = (step net w a).0 in
        elim (is_heard (step net w a).1) as (λ t. is_heard (step net w a).1 ≡ t → IsTracked net m class kind (λ k. passed m k || ((lane_eq l m && (k == number)) && t)) done new) [
          | false ↦ λ deaf. relabel new (passed m) (λ k. passed m k || ((lane_eq l m && (k == number)) && false)) (λ k. sym (or_same (passed m k) _ (never (lane_eq l m && (k == number))))) h
          | true ↦ λ heard. elim (lane_eq l m) as (λ t. lane_eq l m ≡ t → IsTracked net m class kind (λ k. passed m k || ((t && (k == number)) && true)) done new) [
            | false ↦ λ apart. relabel new (passed m) (λ k. passed m k || false) (λ k. sym (or_same (passed m k) false refl)) h
            | true ↦ λ on.
                let frame : IsHeardFrame net w m number new = subst (λ (x : Lane). IsHeardFrame net w x number new) (lane_eq_from l m on) (delivered net w l environment number heard) in
                relabel new (λ k. passed m k || (k == number)) (λ k. passed m k || ((k == number) && true)) (λ k. ap (λ (b : Bool). passed m k || b) (sym (still (k == number))))
                (now_passed net m class kind of_kind (passed m) done new (step_keeps net w a network may c) number frame.j frame.frame
                ((step_more net w a).wire m number frame.j frame.put) ((step_more net w a).frames m frame.j frame.frame frame.framed) (settles number frame) h)
          ] refl
        ] refl
      where
        never : (b : Bool) → (b && false) ≡ false
        never true = refl
        never false = refl

        still : (b : Bool) → (b && true) ≡ b
        still true = refl
        still false = refl

    pub passes : (a : Action) → IsStep net w a → IsTracked net m class kind (passed m) done (step net w a).0 →
        ((k : ℕ) (h : IsHeardFrame net w m k (step net w a).0) → kind h.frame.item ≡ true → done h.frame.item h.frame.offset ≡ true) →
        IsTracked net m class kind (with_pass net w a passed m) done (step net w a).0
    passes (Deliver l number environment) may h settles = delivers l number environment may h settles
    passes a may h settles = relabel (step net w a).0 (passed m) (with_pass net w a passed m) (λ k. sym (or_same (passed m k) _ refl)) h

  -- So an action that is no start keeps the lane passing.
  module _ (l : Lane) (passed : Lane → ℕ → Bool) (h : IsPassing net l passed w) (a : Action) (other : is_start a ≡ false) (may : IsStep net w a) where
    abbrev new : World
    new = (step net w a).0

    enabled : is_enabled net w a ≡ true
    enabled = and_left (is_enabled net w a) (is_shown (environment_of a) (step net w a).1) may

    back : receiver net.site (reverse_lane l) ≡ sender net.site l
    back = sym (sender_back net.site (reverse_lane l)) ∙ ap (sender net.site) (reverse_twice l)

    new_ack : (t : Transmission) → is_new_ack h.older t ≡ true → is_ack t.item ≡ true
    new_ack t of = and_left (is_ack t.item) _ of

    module _ (alive : new.up (sender net.site l) ≡ true) (there : new.up (receiver net.site l) ≡ true) where
      more_done : (i : Item) (x : ℕ) → fact_done net l w i x ≡ true → fact_done net l new i x ≡ true
      more_done i x is = elim (or_cases (has (w.durable.acked (sender net.site l)) (item_name i)) _ is) [
        | inl acked ↦ or_left (has (new.durable.acked (sender net.site l)) (item_name i)) _ (step_acked net w network c (sender net.site l) (item_name i) acked a other enabled)
        | inr heard ↦ or_right (has (new.durable.acked (sender net.site l)) (item_name i)) _ (step_answered net w network c (receiver net.site l) l x heard a other enabled there)
      ]

      facts_pass : IsTracked net l sends_fact is_fact (with_pass net w a passed l) (fact_done net l new) new
      facts_pass =
          passes l sends_fact is_fact (λ t of. of) passed (fact_done net l new) a may
          (step_kept net w c l sends_fact is_fact (λ t of. of) (passed l) (fact_done net l new) (done_more net l sends_fact is_fact (passed l) (fact_done net l w) (fact_done net l new) w more_done h.facts) network a other enabled alive)
          (λ k frame of. or_right (has (new.durable.acked (sender net.site l)) (item_name frame.frame.item)) _ (fact_settles l k new frame of))

      acks_pass : IsTracked net (reverse_lane l) (is_new_ack h.older) is_ack (with_pass net w a passed (reverse_lane l)) (ack_done net l new) new
      acks_pass =
          passes (reverse_lane l) (is_new_ack h.older) is_ack new_ack passed (ack_done net l new) a may
          (step_kept net w c (reverse_lane l) (is_new_ack h.older) is_ack new_ack (passed (reverse_lane l)) (ack_done net l new)
          (done_more net (reverse_lane l) (is_new_ack h.older) is_ack (passed (reverse_lane l)) (ack_done net l w) (ack_done net l new) w
          (λ i x is. step_acked net w network c (sender net.site l) (item_name i) is a other enabled) h.acks) network a other enabled (ap new.up (sender_back net.site l) ∙ there))
          (λ k frame of. ap (λ (u : ℕ). has (new.durable.acked u) (item_name frame.frame.item)) (sym back) ∙ ack_settles (reverse_lane l) k new frame of)

      pub step_passing : IsPassing net l (with_pass net w a passed) new
      step_passing = record {
        older = h.older;
        stay = λ j x at. (step_more net w a).frames l j x (h.stay j x at);
        fresh = step_fresh net w network c l (length h.older) h.fresh a other enabled;
        facts = facts_pass;
        acks = acks_pass;
      }
