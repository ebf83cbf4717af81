-- No window grows in a block: each frame that a manager repeats was sent before the block.
use Rattle.std.proofs.Common.{◌≡◌, ℕ, zero, suc, Bool, true, false, ◌&&◌, List, [], ◌∷◌, ◌++◌, map, take, refl, sym, ◌∙◌, ap, subst, append-nil, Option, Some, None}
use Rattle.std.specs.Prelude.{◌==◌, nat_lt, filter, slice_get, if◌then◌else◌}
use Rattle.std.specs.List.{list_any, flat_map, AllByRecursion}
use Rattle.std.proofs.lemmas.Bool.{ltb-true}
use Rattle.qkd_base.specs.Lane.{lane_eq}
use Rattle.qkd_base.specs.Name.{Name}
use Rattle.qkd_base.specs.declared.lane.Lane.{Lane}
use Rattle.net_model.specs.declared.event.Event.{Event}
use Rattle.net_model.specs.declared.event.Event.TheVariants.{Plan}
use Rattle.net_model.specs.declared.fact.Fact.{Fact}
use Rattle.net_model.specs.Table.{name_of}
use Rattle.net_model.specs.declared.payload.Payload.{Payload}
use Rattle.net_model.specs.declared.payload.Payload.TheVariants.{Data, Ack}
use Rattle.net_model.specs.Item.{payload}
use Rattle.net_model.specs.Site.{sender, receiver}
use Rattle.net_model.specs.World.{Network, World, Allocation, Entry, Outgoing, Volatile}
use Rattle.net_model.specs.View.{View, Port}
use Rattle.net_model.specs.Needed.{masked, view_of}
use Rattle.net_model.specs.Premises.{IsNetwork}
use Rattle.net_model.specs.Invariant.{Conserved}
use Rattle.net_model.specs.Window.{answers_frame, mark_due, acknowledge, cleared, is_data_entry, age, insert_entry, by_offset, repeats_on, sent_again}
use Rattle.net_model.specs.Windows.{place_of, PlacesDiffer}
use Rattle.net_model.specs.Decision.{Effect}
use Rattle.net_model.specs.Decide.{decide, random_need}
use Rattle.net_model.specs.Plan.{plan}
use Rattle.net_model.specs.Relay.{receive_fact, receive_ack, receive}
use Rattle.net_model.specs.Handle.{frame_at, with_repeats, outgoing_repeat, commit, stopped, perform, handle}
use Rattle.net_model.specs.Frames.{receive_item, deliver}
use Rattle.net_model.specs.Events.{is_valid_event}
use Rattle.net_model.specs.Action.{Environment, Action, Ask, Deliver, Outcome, is_shown, environment_of}
use Rattle.net_model.specs.BlockOrder.{is_turn_of}
use Rattle.net_model.specs.Step.{step, is_enabled, is_node, is_asked, IsStep, run, IsRun}
use Rattle.run_model.specs.Works.{Work, actions_in}
use Rattle.law_base.proofs.Base.{and_left, and_right, eq_from, lane_eq_from, by_test}
use Rattle.law_base.proofs.Walks.{perform_walk, handle_walk, deliver_walk}
use Rattle.law_invariant.specs.May.{is_plan, MayMake, MayDecide}
use Rattle.law_invariant.proofs.Decisions.{event_may, plan_is}
use Rattle.law_base.proofs.Lists.{all_both, all_from, all_at, all_kept}
use Rattle.law_base.proofs.Owners.{frame_at_finds}
use Rattle.law_invariant.proofs.Steps.{step_keeps}
use Rattle.law_locality.proofs.Runs.{first_step, later_steps, run_none, run_one}
use Rattle.law_invariant.proofs.Entries.{IsChange}
use Rattle.law_invariant.proofs.Places.{one_place}
use Rattle.law_parallel.specs.Remaining.{AreTurns}
use Rattle.run_ops.specs.Quiet.{IsQuiet}

-- Changes of entries that keep their transmissions and offsets.

age_change : IsChange age
age_change = record {
  transmission = λ e. by_test (λ (x : Entry). x.transmission ≡ e.transmission) (is_data_entry e) _ e (λ h. refl) (λ h. refl);
  offset = λ e. by_test (λ (x : Entry). x.offset ≡ e.offset) (is_data_entry e) _ e (λ h. refl) (λ h. refl);
}

again_change : (out : List Entry) → IsChange (sent_again out)
again_change out = record {
  transmission = λ e. by_test (λ (x : Entry). x.transmission ≡ e.transmission) (list_any (λ x. lane_eq x.transmission.lane e.transmission.lane && (x.offset == e.offset)) out) _ e (λ h. refl) (λ h. refl);
  offset = λ e. by_test (λ (x : Entry). x.offset ≡ e.offset) (list_any (λ x. lane_eq x.transmission.lane e.transmission.lane && (x.offset == e.offset)) out) _ e (λ h. refl) (λ h. refl);
}

due_change : (l : Lane) (offset : ℕ) → IsChange (mark_due l offset)
due_change l offset = record {
  transmission = λ e. by_test (λ (x : Entry). x.transmission ≡ e.transmission) (answers_frame l offset e.transmission) _ e (λ h. refl) (λ h. refl);
  offset = λ e. by_test (λ (x : Entry). x.offset ≡ e.offset) (answers_frame l offset e.transmission) _ e (λ h. refl) (λ h. refl);
}

module _ (P : Entry → Type 0) where
  taken : (n : ℕ) (es : List Entry) → AllByRecursion P es → AllByRecursion P (take n es)
  taken zero es h = tt
  taken (suc n) [] h = tt
  taken (suc n) (e ∷ es) h = (h.0, taken n es h.1)

  inserted : (e : Entry) (es : List Entry) → P e → AllByRecursion P es → AllByRecursion P (insert_entry e es)
  inserted e [] p h = (p, tt)
  inserted e (x ∷ xs) p h = elim (nat_lt e.offset x.offset) as (λ t. AllByRecursion P (if t then e ∷ x ∷ xs else x ∷ insert_entry e xs)) [
    | true ↦ (p, h)
    | false ↦ (h.0, inserted e xs p h.1)
  ]

  sorted : (es : List Entry) → AllByRecursion P es → AllByRecursion P (by_offset es)
  sorted [] h = tt
  sorted (e ∷ es) h = inserted e (by_offset es) h.0 (sorted es h.1)

  repeated_all : (window : List Entry) (l : Lane) → AllByRecursion P window → AllByRecursion P (repeats_on window l)
  unfolding repeats_on
  repeated_all window l h = taken 16 _ (sorted _ (all_kept P (λ (e : Entry). lane_eq e.transmission.lane l && e.due) window h))

  all_repeated : (window : List Entry) (ports : List Port) → AllByRecursion P window → AllByRecursion P (flat_map (λ (p : Port). repeats_on window p.lane) ports)
  all_repeated window [] h = tt
  all_repeated window (p ∷ ports) h = all_both P (repeats_on window p.lane) _ (repeated_all window p.lane h) (all_repeated window ports h)

-- Lemmas on worlds after the block's start.

module _ (net : Network) (old : World) where
  -- The window had this entry at the start, with any age.
  pub record IsOld (v : ℕ) (e : Entry) : Type 0 where
    pub place : ℕ
    pub one : Entry
    pub at : slice_get ((old.volatile v).window) place ≡ Some one
    pub transmission : e.transmission ≡ one.transmission
    pub offset : e.offset ≡ one.offset

  -- The waiting frame belongs to an entry that was there at the start.
  pub record IsOldPut (l : Lane) (o : Outgoing) : Type 0 where
    pub place : ℕ
    pub one : Entry
    pub at : slice_get ((old.volatile (sender net.site l)).window) place ≡ Some one
    pub transmission : o.transmission ≡ one.transmission
    pub frame : o.frame ≡ frame_at (old.frames l) one.offset

  pub record AreOld (x : World) : Type 0 where
    pub windows : (v : ℕ) → AllByRecursion (IsOld v) (x.volatile v).window
    pub outgoing : (l : Lane) → AllByRecursion (IsOldPut l) (x.outgoing l)
    pub frames : x.frames ≡ old.frames

  changed : (g : Entry → Entry) → IsChange g → (v : ℕ) (es : List Entry) → AllByRecursion (IsOld v) es → AllByRecursion (IsOld v) (map g es)
  changed g same v [] h = tt
  changed g same v (e ∷ es) h = (
    record { place = h.0.place; one = h.0.one; at = h.0.at; transmission = same.transmission e ∙ h.0.transmission; offset = same.offset e ∙ h.0.offset },
    changed g same v es h.1,
  )

  pub at_start : IsQuiet old → AreOld old
  at_start quiet = record {
    windows = λ v. all_from (IsOld v) (old.volatile v).window (λ i e at. record { place = i; one = e; at = at; transmission = refl; offset = refl });
    outgoing = λ l. subst (AllByRecursion (IsOldPut l)) (sym (quiet.put l)) tt;
    frames = refl;
  }

  module _ (c : Conserved net old) (x : World) (h : AreOld x) where
    -- Each entry of a node belongs to a lane that leaves the node.
    of_sender : (v : ℕ) (e : Entry) → IsOld v e → sender net.site e.transmission.lane ≡ v
    of_sender v e o = ap (λ t. sender net.site t.lane) o.transmission ∙ ((c.volatile v).entries o.place o.one o.at).lane

    more_puts : (v : ℕ) (l : Lane) (es : List Entry) → AllByRecursion (IsOld v) es → AllByRecursion (IsOldPut l) (map (outgoing_repeat (x.frames l)) (filter (λ (e : Entry). lane_eq e.transmission.lane l) es))
    more_puts v l [] a = tt
    more_puts v l (e ∷ es) a =
        elim (lane_eq e.transmission.lane l) as (λ t. lane_eq e.transmission.lane l ≡ t →
        AllByRecursion (IsOldPut l) (map (outgoing_repeat (x.frames l)) (if t then e ∷ filter (λ (y : Entry). lane_eq y.transmission.lane l) es else filter (λ (y : Entry). lane_eq y.transmission.lane l) es))) [
          | true ↦ λ is. (
            record {
              place = a.0.place;
              one = a.0.one;
              at = subst (λ (u : ℕ). slice_get ((old.volatile u).window) a.0.place ≡ Some a.0.one) (sym (of_sender v e a.0) ∙ ap (sender net.site) (lane_eq_from e.transmission.lane l is)) a.0.at;
              transmission = a.0.transmission;
              frame = ap (λ (f : Lane → List Allocation). frame_at (f l) e.offset) h.frames ∙ ap (frame_at (old.frames l)) a.0.offset;
            },
            more_puts v l es a.1,
          )
          | false ↦ λ is. more_puts v l es a.1
        ] refl

    puts_behind : (v : ℕ) (l : Lane) (es : List Entry) → AllByRecursion (IsOld v) es → AllByRecursion (IsOldPut l) (with_repeats es x.frames x.outgoing l)
    puts_behind v l [] a = h.outgoing l
    puts_behind v l (e ∷ es) a = all_both (IsOldPut l) (x.outgoing l) _ (h.outgoing l) (more_puts v l (e ∷ es) a)

    window_set : (u : ℕ) (vol : Volatile) → AllByRecursion (IsOld u) vol.window → (v : ℕ) → AllByRecursion (IsOld v) (if v == u then vol else x.volatile v).window
    window_set u vol a v = elim (v == u) as (λ t. (v == u) ≡ t → AllByRecursion (IsOld v) (if t then vol else x.volatile v).window) [
      | true ↦ λ e. subst (λ (n : ℕ). AllByRecursion (IsOld n) vol.window) (sym (eq_from v u e)) a
      | false ↦ λ e. h.windows v
    ] refl

    commits : (v octets : ℕ) (e : Effect) → AllByRecursion (IsOld v) e.volatile.window → AllByRecursion (IsOld v) e.repeats → AreOld (commit net.site x v octets e)
    unfolding commit
    commits v octets e window repeats = record { windows = window_set v e.volatile window; outgoing = λ l. puts_behind v l e.repeats repeats; frames = h.frames }

    stops : (v octets : ℕ) (e : Effect) → AreOld (stopped x v octets e)
    unfolding stopped
    stops v octets e = record { windows = window_set v _ tt; outgoing = h.outgoing; frames = h.frames }

    performed : (v octets : ℕ) (environment : Environment) (e : Effect) → AllByRecursion (IsOld v) e.volatile.window → AllByRecursion (IsOld v) e.repeats → AreOld (perform net x v octets environment e).0
    performed v octets environment e window repeats = perform_walk net x AreOld h v octets environment e (λ numbered fits. stops v octets e) (λ numbered fits. commits v octets e window repeats)

    -- Lemmas on a plan.

    plan_window : (v : ℕ) → AllByRecursion (IsOld v) (plan net.site x.link_up (view_of net x v)).volatile.window
    unfolding plan view_of masked
    plan_window v = changed (sent_again _) (again_change _) v _ (changed age age_change v (x.volatile v).window (h.windows v))

    plan_repeats : (v : ℕ) → AllByRecursion (IsOld v) (plan net.site x.link_up (view_of net x v)).repeats
    unfolding plan view_of masked
    plan_repeats v = all_repeated (IsOld v) (map age (x.volatile v).window) _ (changed age age_change v (x.volatile v).window (h.windows v))

    planned : (v : ℕ) (environment : Environment) → AreOld (handle net x v Plan environment).0
    unfolding handle decide random_need
    planned v environment =
        by_test (λ (r : World × Outcome). AreOld r.0) (x.up v) _ _ (λ up. performed v 0 environment (plan net.site x.link_up (view_of net x v)) (plan_window v) (plan_repeats v)) (λ down. h)

    -- Lemmas on other events.

    other_event : IsNetwork net → Conserved net x → (v : ℕ) (event : Event) (environment : Environment) → is_enabled net x (Ask v event environment) ≡ true → is_plan event ≡ false →
        AreOld (handle net x v event environment).0
    unfolding is_enabled
    other_event network d v event environment may other =
        let prefix = and_left (is_node net v && is_asked event) (is_valid_event net.site v event) may in
        let valid = and_right (is_node net v && is_asked event) (is_valid_event net.site v event) may in
        let here = ltb-true v net.site.nodes (and_left (is_node net v) (is_asked event) prefix) in
        let asked = and_right (is_node net v) (is_asked event) prefix in
        let decides = event_may net x v event network d here asked other valid in
        handle_walk net x AreOld h v event environment (λ up e is.
        let making : MayMake net x v e = subst (MayDecide net x v) is decides in
        performed v (random_need (view_of net x v) event) environment e (subst (λ (vol : Volatile). AllByRecursion (IsOld v) vol.window) (sym making.volatile) (h.windows v))
        (subst (AllByRecursion (IsOld v)) (sym making.repeats) tt))

    asked : IsNetwork net → Conserved net x → (v : ℕ) (event : Event) (environment : Environment) → is_enabled net x (Ask v event environment) ≡ true → AreOld (handle net x v event environment).0
    asked network d v event environment may = elim (is_plan event) as (λ t. is_plan event ≡ t → AreOld (handle net x v event environment).0) [
      | true ↦ λ is. subst (λ (y : Event). AreOld (handle net x v y environment).0) (sym (plan_is event is)) (planned v environment)
      | false ↦ λ is. other_event network d v event environment may is
    ] refl

    -- Lemmas on frames that come.

    due : (v : ℕ) (vol : Volatile) (l : Lane) (offset : ℕ) (n : Name) → AllByRecursion (IsOld v) vol.window → AllByRecursion (IsOld v) (acknowledge vol l offset n).window
    unfolding acknowledge
    due v vol l offset n a =
        by_test (λ (y : Volatile). AllByRecursion (IsOld v) y.window) (list_any (λ e. answers_frame l offset e.transmission) vol.window) _ _ (λ e. changed (mark_due l offset) (due_change l offset) v vol.window a)
        (λ e. by_test (λ (y : Volatile). AllByRecursion (IsOld v) y.window) (list_any (λ p. lane_eq p.lane l && (p.offset == offset)) vol.pending_acks) _ _ (λ k. a) (λ k. a))

    fewer : (v : ℕ) (vol : Volatile) (l : Lane) (n : Name) (is_new : Bool) → AllByRecursion (IsOld v) vol.window →
        AllByRecursion (IsOld v) (if is_new then record vol { window = cleared l n vol.window } else vol).window
    fewer v vol l n true a = all_kept (IsOld v) _ vol.window a
    fewer v vol l n false a = a

    fact_window : (v : ℕ) (l : Lane) (offset : ℕ) (f : Fact) → AllByRecursion (IsOld v) (receive_fact (view_of net x v) l offset f).volatile.window
    unfolding receive_fact view_of masked
    fact_window v l offset f = due v (x.volatile v) l offset (name_of f) (h.windows v)

    ack_window : (v : ℕ) (l : Lane) (from : ℕ) (n : Name) → AllByRecursion (IsOld v) (receive_ack (view_of net x v) l from n).volatile.window
    unfolding receive_ack view_of masked
    ack_window v l from n = fewer v (x.volatile v) l n _ (h.windows v)

    nothing_again : (v : View) (l : Lane) (offset : ℕ) (p : Payload) → (receive net.site v l offset p).repeats ≡ []
    unfolding receive_fact receive_ack
    nothing_again v l offset (Data f) = refl
    nothing_again v l offset (Ack n) = refl

    window_kept : (v : ℕ) (l : Lane) (offset : ℕ) (p : Payload) → AllByRecursion (IsOld v) (receive net.site (view_of net x v) l offset p).volatile.window
    window_kept v l offset (Data f) = fact_window v l offset f
    window_kept v l offset (Ack n) = ack_window v l (sender net.site l) n

    received : (l : Lane) (offset : ℕ) (environment : Environment) (p : Payload) →
        AreOld (perform net x (receiver net.site l) 0 environment (receive net.site (view_of net x (receiver net.site l)) l offset p)).0
    received l offset environment p =
        let v : ℕ = receiver net.site l in
        performed v 0 environment (receive net.site (view_of net x v) l offset p) (window_kept v l offset p) (subst (AllByRecursion (IsOld v)) (sym (nothing_again (view_of net x v) l offset p)) tt)

    item : (l : Lane) (environment : Environment) (offset : ℕ) (p : Option Payload) → AreOld (receive_item net x l offset environment p).0
    item l environment offset None = h
    item l environment offset (Some p) = received l offset environment p

    delivered : (l : Lane) (number : ℕ) (environment : Environment) → AreOld (deliver net x l number environment).0
    delivered l number environment = deliver_walk net x AreOld h l environment (λ j a at up. item l environment a.offset (payload x.durable.facts a.item)) number

    turn_old : IsNetwork net → Conserved net x → (v : ℕ) (a : Action) → is_turn_of net.site v a ≡ true → is_enabled net x a ≡ true → AreOld (step net x a).0
    unfolding step
    turn_old network d v (Ask u event environment) turn may = asked network d u event environment may
    turn_old network d v (Deliver l number environment) turn may = delivered l number environment
    turn_old network d v _ turn may = cc

  pub turns_old : IsNetwork net → Conserved net old → (works : List Work) (x : World) → Conserved net x → AreOld x → AreTurns net works → IsRun net x (actions_in works) →
      AreOld (run net x (actions_in works))
  turns_old network c [] x d h turns runs = subst AreOld (sym (run_none net x)) h
  turns_old network c (y ∷ works) x d h turns runs =
      let a : Action = y.action in
      let now : IsStep net x a = first_step net x a (actions_in works) runs in
      let may : is_enabled net x a ≡ true = and_left (is_enabled net x a) (is_shown (environment_of a) (step net x a).1) now in
      subst AreOld (sym (run_one net x a (actions_in works)))
      (turns_old network c works (step net x a).0 (step_keeps net x a network now d) (turn_old c x h network d turns.0.0 a turns.0.2 may) turns.1 (later_steps net x a (actions_in works) runs))

  -- So the waiting frames with one number all have the same transmission.

  pub one_transmission : Conserved net old → (x : World) → Conserved net x → AreOld x → (l : Lane) (n m : ℕ) (o p : Outgoing) → slice_get (x.outgoing l) n ≡ Some o → slice_get (x.outgoing l) m ≡ Some p →
      o.frame ≡ p.frame → o.transmission ≡ p.transmission
  one_transmission c x d h l n m o p at at' same =
      let v : ℕ = sender net.site l in
      let a = all_at (IsOldPut l) (x.outgoing l) n o (h.outgoing l) at in
      let b = all_at (IsOldPut l) (x.outgoing l) m p (h.outgoing l) at' in
      let lane_a : a.one.transmission.lane ≡ l = ap (λ t. t.lane) (sym a.transmission) ∙ ((d.posted l).put n o at).0 in
      let lane_b : b.one.transmission.lane ≡ l = ap (λ t. t.lane) (sym b.transmission) ∙ ((d.posted l).put m p at').0 in
      let entry_a = (c.volatile v).entries a.place a.one a.at in
      let entry_b = (c.volatile v).entries b.place b.one b.at in
      let there_a : slice_get (old.frames l) entry_a.number ≡ Some (record { offset = a.one.offset; item = a.one.transmission.item }) =
      subst (λ (k : Lane). slice_get (old.frames k) entry_a.number ≡ Some (record { offset = a.one.offset; item = a.one.transmission.item })) lane_a entry_a.frame in
      let there_b : slice_get (old.frames l) entry_b.number ≡ Some (record { offset = b.one.offset; item = b.one.transmission.item }) =
      subst (λ (k : Lane). slice_get (old.frames k) entry_b.number ≡ Some (record { offset = b.one.offset; item = b.one.transmission.item })) lane_b entry_b.frame in
      let found_a : frame_at (old.frames l) a.one.offset ≡ entry_a.number = frame_at_finds old.durable.facts (old.durable.own l) (old.frames l) _ (c.now.owned l) entry_a.number _ there_a in
      let found_b : frame_at (old.frames l) b.one.offset ≡ entry_b.number = frame_at_finds old.durable.facts (old.durable.own l) (old.frames l) _ (c.now.owned l) entry_b.number _ there_b in
      let number : entry_a.number ≡ entry_b.number = sym found_a ∙ sym a.frame ∙ same ∙ b.frame ∙ found_b in
      let offset : a.one.offset ≡ b.one.offset = one_offset _ _ (sym there_a ∙ ap (slice_get (old.frames l)) number ∙ there_b) in
      let lane : a.one.transmission.lane ≡ b.one.transmission.lane = lane_a ∙ sym lane_b in
      let differ : PlacesDiffer (map place_of (old.volatile v).window ++ []) = subst PlacesDiffer (sym (append-nil (map place_of (old.volatile v).window))) (c.volatile v).places in
      let is : a.one ≡ b.one = one_place place_of (old.volatile v).window [] a.place b.place a.one b.one differ a.at b.at (λ i. (lane i, offset i)) in
      a.transmission ∙ ap (λ (e : Entry). e.transmission) is ∙ sym b.transmission
    where
      one_offset : (f g : Allocation) → Some f ≡ Some g → f.offset ≡ g.offset
      one_offset f g e = let is : f ≡ g = cc in ap (λ (y : Allocation). y.offset) is
