-- In a life of a manager, each place is acknowledged at most once, and only if a fact came there.
use Rattle.std.proofs.Common.{◌≡◌, ℕ, ◌+◌, ◌≤◌, Bool, true, false, ◌&&◌, List, [], ◌∷◌, length, refl, sym, subst}
use Rattle.std.specs.Prelude.{◌==◌, if◌then◌else◌}
use Rattle.std.specs.Set.{distinct_count, is_member}
use Rattle.qkd_base.specs.Name.{Name, has}
use Rattle.qkd_base.specs.Lane.{lane_eq, reverse_lane}
use Rattle.qkd_base.specs.declared.lane.Lane.{Lane}
use Rattle.net_model.specs.declared.event.Event.{Event}
use Rattle.net_model.specs.declared.event.Event.TheVariants.{Block, Fill, Feed, Plan, Heard, Enc, Dec, Status, Open, Join, Get, Close, Show, Ledger, FillGroup, EncGroup, Note}
use Rattle.net_model.specs.declared.fact.Fact.{Fact}
use Rattle.net_model.specs.declared.payload.Payload.TheVariants.{Data, Ack}
use Rattle.net_model.specs.declared.placing.Placing.{Placing}
use Rattle.net_model.specs.Table.{name_of}
use Rattle.net_model.specs.Site.{Site, sender}
use Rattle.net_model.specs.Sealing.{Sealing, Opened, Opens, Rejected, Forged}
use Rattle.net_model.specs.World.{Entry, Volatile, no_volatile}
use Rattle.net_model.specs.View.{View, port_of, incoming_octets}
use Rattle.net_model.specs.Window.{sent_again, complete_one, complete}
use Rattle.net_model.specs.Windows.{has_place, answered}
use Rattle.net_model.specs.Relay.{owed, receive_fact, receive_ack}
use Rattle.net_model.specs.Plan.{plan}
use Rattle.net_model.specs.Decision.{Decision, Refuses, Does, Effect}
use Rattle.net_model.specs.Decide.{decide, received_frame}
use Rattle.law_base.proofs.Base.{by_test, or_first, or_second, or_both}
use Rattle.law_safety.specs.Life.{acknowledgements_on, pending_on}
use Rattle.law_safety.specs.Turns.{Turn, AreTurns, kept_behind, fact_in, facts_by, facts_on}
use Rattle.law_safety.proofs.Counting.{same, other_number}
use Rattle.law_safety.proofs.BoundSteps.{IsFair, GoesOn, stays, first_fair, few_answered, hears, fewer, plans}
use Rattle.law_safety.proofs.Notes.{notes}
use Rattle.law_safety.proofs.Plans.{of_pending}
use Rattle.law_safety.proofs.Quiet.{Keeps, block_keeps, fill_keeps, enc_keeps, dec_keeps, status_keeps, fill_group_keeps, enc_group_keeps, open_keeps, join_keeps, get_keeps, close_keeps, feed_keeps}

-- The decision refuses and changes nothing, or its effect leaves a fair memory that acknowledges no further silent
-- place.
abbrev DecidedOn : View → (Lane × ℕ → Type 0) → Decision → Type 0
DecidedOn v IsSilent (Refuses reply) = Unit {0}
DecidedOn v IsSilent (Does effect) = GoesOn v.volatile IsSilent effect.volatile

module _ (site : Site) (frames : Sealing) (is_up : ℕ → Bool) (v : View) (random : List ℕ) (h : IsFair v.volatile) where
  abbrev IsSilent : Event → Lane × ℕ → Type 0
  IsSilent event q = is_member same (facts_by frames q.0 v event []) q.1 ≡ false

  quiet : (S : Lane × ℕ → Type 0) (d : Decision) → Keeps v d → DecidedOn v S d
  quiet S (Refuses reply) k = tt
  quiet S (Does effect) k = subst (GoesOn v.volatile S) (sym (k.kept effect refl)) (stays v.volatile S h)

  -- Lemmas on an event that brings a frame.

  not_here : (k : Lane) (opened : Opened) (x : ℕ) (q : Lane × ℕ) → is_member same (if lane_eq k q.0 then x ∷ [] else []) q.1 ≡ false → (lane_eq k q.0 && (x == q.1)) ≡ false
  not_here k opened x q s = elim (lane_eq k q.0) as (λ t. is_member same (if t then x ∷ [] else []) q.1 ≡ false → (t && (x == q.1)) ≡ false) [
    | true ↦ λ g. other_number x q.1 (or_first (q.1 == x) false g)
    | false ↦ λ g. refl
  ] s

  abbrev IsSilentOf : Lane → Opened → Lane × ℕ → Type 0
  IsSilentOf k opened q = is_member same (if lane_eq k q.0 then fact_in opened [] else []) q.1 ≡ false

  fact_heard : (k : Lane) (offset : ℕ) (f : Fact) → GoesOn v.volatile (IsSilentOf k (Opens offset (Data f))) (receive_fact v k offset f).volatile
  unfolding receive_fact
  fact_heard k offset f = hears v.volatile (IsSilentOf k (Opens offset (Data f))) k offset (name_of f) h (not_here k (Opens offset (Data f)) offset)

  ack_heard : (S : Lane × ℕ → Type 0) (k : Lane) (from : ℕ) (n : Name) → GoesOn v.volatile S (receive_ack v k from n).volatile
  unfolding receive_ack
  ack_heard S k from n = by_test (GoesOn v.volatile S) (has (owed v from) n) _ _ (λ e. fewer _ v.volatile S h) (λ e. stays v.volatile S h)

  heard : (k : Lane) (opened : Opened) → DecidedOn v (IsSilentOf k opened) (received_frame site v k opened)
  heard k (Opens offset (Data f)) = fact_heard k offset f
  heard k (Opens offset (Ack n)) = ack_heard (IsSilentOf k (Opens offset (Ack n))) k (sender site k) n
  heard k (Rejected reply) = tt
  heard k (Forged place) = tt

  -- Lemmas on a plan.

  again_same : (out : List Entry) (e : Entry) → (sent_again out e).transmission ≡ e.transmission
  again_same out e = by_test (λ (y : Entry). y.transmission ≡ e.transmission) _ _ e (λ k. refl) (λ k. refl)

  planned : (S : Lane × ℕ → Type 0) → GoesOn v.volatile S (plan site is_up v).volatile
  unfolding plan
  planned S = plans v.volatile S (plan site is_up v).orders (sent_again (plan site is_up v).repeats) (again_same (plan site is_up v).repeats) h (of_pending site is_up v)

  -- Lemmas on noting what became of frames.

  noted : (acked : List Name) (S : Lane × ℕ → Type 0) (vol : Volatile) (ps : List Placing) → IsFair vol → GoesOn vol S (complete acked vol ps)
  unfolding complete
  noted acked S vol [] fair = stays vol S fair
  noted acked S vol (p ∷ ps) fair =
      let one = notes acked vol S p fair in
      let rest = noted acked S (complete_one acked vol p) ps one.fair in
      record { fair = rest.fair; silent = λ q e s. rest.silent q (one.silent q e s) s }

  -- Lemmas on all events.

  decided : (event : Event) → DecidedOn v (IsSilent event) (decide site frames is_up v random event)
  unfolding decide
  decided (Block link number bytes) = quiet _ _ (block_keeps v _ _ _ _)
  decided (Fill m s bits count) = quiet _ _ (fill_keeps v site is_up m s bits count random)
  decided (Feed stream count) = quiet _ _ (feed_keeps v site is_up stream count random)
  decided Plan = planned (IsSilent Plan)
  decided (Heard k octets) = heard k (frames.unseal k (incoming_octets k (port_of v k.link)) octets)
  decided (Enc m s n bits) = quiet _ _ (enc_keeps v site m s n bits)
  decided (Dec s m names) = quiet _ _ (dec_keeps v site s m names)
  decided (Status m s) = quiet _ _ (status_keeps v site m s)
  decided (Open source peer bits) = quiet _ _ (open_keeps v site is_up source peer bits)
  decided (Join caller from stream bits) = quiet _ _ (join_keeps v site caller from stream bits)
  decided (Get caller stream index) = quiet _ _ (get_keeps v site caller stream index)
  decided (Close caller stream) = quiet _ _ (close_keeps v site caller stream)
  decided (Show name) = stays v.volatile (IsSilent (Show name)) h
  decided (Ledger lane) = stays v.volatile (IsSilent (Ledger lane)) h
  decided (FillGroup m slaves bits count) = quiet _ _ (fill_group_keeps v site is_up m slaves bits count random)
  decided (EncGroup m slaves n bits) = quiet _ _ (enc_group_keeps v site m slaves n bits)
  decided (Note placings) = noted v.acked (IsSilent (Note placings)) v.volatile placings h

  pub done : (event : Event) (e : Effect) → decide site frames is_up v random event ≡ Does e → GoesOn v.volatile (IsSilent event) e.volatile
  done event e is = subst (DecidedOn v (IsSilent event)) is (decided event)

-- Lemmas on the offsets of one event and of the events after it.

first_of : (opened : Opened) (rest : List ℕ) (x : ℕ) → is_member same (fact_in opened rest) x ≡ false → is_member same (fact_in opened []) x ≡ false
first_of (Opens offset (Data f)) rest x h = or_both (x == offset) false (or_first (x == offset) (is_member same rest x) h) refl
first_of (Opens offset (Ack n)) rest x h = refl
first_of (Rejected reply) rest x h = refl
first_of (Forged place) rest x h = refl

rest_of : (opened : Opened) (rest : List ℕ) (x : ℕ) → is_member same (fact_in opened rest) x ≡ false → is_member same rest x ≡ false
rest_of (Opens offset (Data f)) rest x h = or_second (x == offset) (is_member same rest x) h
rest_of (Opens offset (Ack n)) rest x h = h
rest_of (Rejected reply) rest x h = h
rest_of (Forged place) rest x h = h

silent_first : (frames : Sealing) (v : View) (event : Event) (rest : List ℕ) (q : Lane × ℕ) → is_member same (facts_by frames q.0 v event rest) q.1 ≡ false →
    is_member same (facts_by frames q.0 v event []) q.1 ≡ false
silent_first frames v (Heard k octets) rest q h =
    let opened : Opened = frames.unseal k (incoming_octets k (port_of v k.link)) octets in
    elim (lane_eq k q.0) as (λ t. is_member same (if t then fact_in opened rest else rest) q.1 ≡ false → is_member same (if t then fact_in opened [] else []) q.1 ≡ false) [
      | true ↦ λ g. first_of opened rest q.1 g
      | false ↦ λ g. refl
    ] h
silent_first frames v _ rest q h = refl

silent_rest : (frames : Sealing) (v : View) (event : Event) (rest : List ℕ) (q : Lane × ℕ) → is_member same (facts_by frames q.0 v event rest) q.1 ≡ false → is_member same rest q.1 ≡ false
silent_rest frames v (Heard k octets) rest q h =
    let opened : Opened = frames.unseal k (incoming_octets k (port_of v k.link)) octets in
    elim (lane_eq k q.0) as (λ t. is_member same (if t then fact_in opened rest else rest) q.1 ≡ false → is_member same rest q.1 ≡ false) [
      | true ↦ λ g. rest_of opened rest q.1 g
      | false ↦ λ g. g
    ] h
silent_rest frames v _ rest q h = h

module _ (site : Site) (frames : Sealing) where
  step : (vol : Volatile) (t : Turn) → IsFair vol → t.view.volatile ≡ vol → decide site frames t.is_up t.view t.random t.event ≡ Does t.effect →
      GoesOn vol (λ q. is_member same (facts_by frames q.0 t.view t.event []) q.1 ≡ false) t.effect.volatile
  step vol t h at is =
      subst (λ (x : Volatile). GoesOn x (λ q. is_member same (facts_by frames q.0 t.view t.event []) q.1 ≡ false) t.effect.volatile) at
      (done site frames t.is_up t.view t.random (subst IsFair (sym at) h) t.event t.effect is)

  fair : (vol : Volatile) (ts : List Turn) → IsFair vol → AreTurns site frames vol ts → IsFair (kept_behind vol ts)
  fair vol [] h turns = h
  fair vol (t ∷ ts) h turns = fair t.effect.volatile ts (step vol t h turns.0 turns.1).fair turns.2

  silent : (vol : Volatile) (ts : List Turn) → IsFair vol → AreTurns site frames vol ts → (q : Lane × ℕ) → has_place (answered vol) q ≡ false →
      is_member same (facts_on frames q.0 ts) q.1 ≡ false → has_place (answered (kept_behind vol ts)) q ≡ false
  silent vol [] h turns q e s = e
  silent vol (t ∷ ts) h turns q e s =
      let on = step vol t h turns.0 turns.1 in
      silent t.effect.volatile ts on.fair turns.2 q (on.silent q e (silent_first frames t.view t.event (facts_on frames q.0 ts) q s)) (silent_rest frames t.view t.event (facts_on frames q.0 ts) q s)

pub few : (site : Site) (frames : Sealing) (l : Lane) (ts : List Turn) → AreTurns site frames no_volatile ts →
    length (acknowledgements_on l (kept_behind no_volatile ts)) + length (pending_on l (kept_behind no_volatile ts)) ≤ distinct_count same (facts_on frames (reverse_lane l) ts)
few site frames l ts turns = few_answered l (kept_behind no_volatile ts) (facts_on frames (reverse_lane l) ts) (fair site frames no_volatile ts first_fair turns)
    (λ x s. silent site frames no_volatile ts first_fair turns (reverse_lane l, x) refl s)
