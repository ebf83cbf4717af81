-- In every run, each acknowledgement names the fact in the frame that it answers.
use Rattle.std.proofs.Common.{◌≡◌, ℕ, true, false, not, ◌&&◌, List, [], ◌∷◌, ◌++◌, map, refl, sym, ◌∙◌, ap, subst, Option, Some, None}
use Rattle.std.specs.Prelude.{◌==◌, suc, zero, slice_get, if◌then◌else◌}
use Rattle.std.specs.List.{list_any, AllByRecursion}
use Rattle.qkd_base.specs.Family.{number_set}
use Rattle.qkd_base.specs.Name.{Name, name_eq, has}
use Rattle.qkd_base.specs.Lane.{lane_eq, reverse_lane}
use Rattle.qkd_base.specs.declared.lane.Lane.{Lane}
use Rattle.net_model.specs.declared.fact.Fact.{Fact}
use Rattle.net_model.specs.declared.placing.Placing.{Placing}
use Rattle.net_model.specs.Premises.{IsNetwork}
use Rattle.net_model.specs.Item.{item_name}
use Rattle.net_model.specs.Table.{name_of}
use Rattle.net_model.specs.Site.{sender, receiver}
use Rattle.net_model.specs.World.{Network, World, Allocation, Transmission, Entry, PendingAck, Volatile, no_volatile, first}
use Rattle.net_model.specs.Needed.{masked, view_of}
use Rattle.net_model.specs.Window.{transmission_eq, answers_frame, mark_due, acknowledge, age, sent_again, stands_at, record_retransmission, transmission_of, entry_of, is_acked_item, is_pending_of, complete_one, complete}
use Rattle.net_model.specs.Windows.{is_same_ack, IsAwaitedAck, IsVolatile, IsPlaced}
use Rattle.net_model.specs.Plan.{plan}
use Rattle.net_model.specs.Decision.{Effect}
use Rattle.net_model.specs.Relay.{owed, receive_fact, receive_ack}
use Rattle.net_model.specs.Invariant.{Conserved}
use Rattle.net_model.specs.Action.{Action, Start, Allocate, Recovery, Recovers, Resumes, Interrupted, NoMemory, Foreign, Outcome, is_shown, environment_of}
use Rattle.net_model.specs.Handle.{commit, stopped}
use Rattle.net_model.specs.Frames.{allocate}
use Rattle.net_model.specs.Start.{restarted, recovers, start}
use Rattle.net_model.specs.Step.{step, is_enabled, is_step, run, is_run, IsRun}
use Rattle.law_base.proofs.Base.{by_number, by_test, and_left, and_right, name_eq_from, lane_eq_from}
use Rattle.law_base.proofs.Lists.{all_at, all_both, all_kept, any_at, order_at, offset_from, reverse_twice}
use Rattle.law_base.proofs.Lasting.{step_more}
use Rattle.law_invariant.proofs.Completing.{placings_keep}
use Rattle.law_invariant.proofs.Steps.{first_keeps, step_keeps}
use Rattle.law_quiet.specs.Named.{HasFrameOf, AnswersFrameOf, NamesItsFrame, IsNaming, AreNaming}
use Rattle.law_quiet.specs.Passes.{is_start}
use Rattle.law_quiet.proofs.Changes.{marked_same, aged_same, again_same, noted_same, all_sent}
use Rattle.law_quiet.proofs.LifeWalks.{IsLifelong, planned_by, noted_by, life_walk}

-- Frames stay where they are.

more_frames : (frames next : Lane → List Allocation) → ((l : Lane) (j : ℕ) (a : Allocation) → slice_get (frames l) j ≡ Some a → slice_get (next l) j ≡ Some a) → (vol : Volatile) →
    IsNaming frames vol → IsNaming next vol
more_frames frames next stay vol h = record {
  pending = all_more (λ (a : PendingAck). HasFrameOf (frames a.lane) a.offset a.name) (λ (a : PendingAck). HasFrameOf (next a.lane) a.offset a.name) (λ a x. found a.lane a.offset a.name x) vol.pending_acks h.pending;
  sent = all_more (λ (e : Entry). NamesItsFrame frames e.transmission) (λ (e : Entry). NamesItsFrame next e.transmission)
      (λ e x. answered e.transmission.lane e.transmission.received_offset (item_name e.transmission.item) x) vol.window h.sent;
}
  where
    found : (l : Lane) (offset : ℕ) (n : Name) → HasFrameOf (frames l) offset n → HasFrameOf (next l) offset n
    found l offset n x = record { number = x.number; there = stay l x.number _ x.there }

    answered : (l : Lane) (o : Option ℕ) (n : Name) → AnswersFrameOf frames l o n → AnswersFrameOf next l o n
    answered l None n x = tt
    answered l (Some offset) n x = found (reverse_lane l) offset n x

    all_more : {A : Type 0} (P Q : A → Type 0) → ((a : A) → P a → Q a) → (xs : List A) → AllByRecursion P xs → AllByRecursion Q xs
    all_more P Q so [] x = tt
    all_more P Q so (a ∷ xs) x = (so a x.0, all_more P Q so xs x.1)

module _ (frames : Lane → List Allocation) where
  abbrev Names : Volatile → Type 0
  Names vol = IsNaming frames vol

  -- A fact is heard.
  heard : (vol : Volatile) (l : Lane) (offset : ℕ) (n : Name) → HasFrameOf (frames l) offset n → Names vol → Names (acknowledge vol l offset n)
  unfolding acknowledge
  heard vol l offset n at h =
      by_test Names (list_any (λ (e : Entry). answers_frame l offset e.transmission) vol.window) _ _
      (λ t. record { pending = h.pending; sent = all_sent (NamesItsFrame frames) (mark_due l offset) (marked_same l offset) vol.window h.sent })
      (λ t. by_test Names (list_any (λ (a : PendingAck). lane_eq a.lane l && (a.offset == offset)) vol.pending_acks) _ _ (λ k. h)
      (λ k. record {
        pending = all_both (λ (a : PendingAck). HasFrameOf (frames a.lane) a.offset a.name) vol.pending_acks (record { lane = l; offset = offset; name = n } ∷ []) h.pending (at, tt);
        sent = h.sent;
      }))

  -- The order of an acknowledgement that is placed was pending under the same name.
  awaited_names : (vol : Volatile) (t : Transmission) (o : Option ℕ) → Names vol → IsAwaitedAck vol t o → t.received_offset ≡ o → AnswersFrameOf frames t.lane o (item_name t.item)
  awaited_names vol t None h awaited is = tt
  awaited_names vol t (Some offset) h awaited is =
      let found = any_at (is_same_ack t) vol.pending_acks awaited in
      let a : PendingAck = found.1 in
      let pends = and_left (is_pending_of t a) (name_eq a.name (item_name t.item)) found.3 in
      let lane : t.lane ≡ reverse_lane a.lane = lane_eq_from t.lane (reverse_lane a.lane) (and_left (lane_eq t.lane (reverse_lane a.lane)) _ pends) in
      let at : t.received_offset ≡ Some a.offset = offset_from t.received_offset (Some a.offset) (and_right (lane_eq t.lane (reverse_lane a.lane)) _ pends) in
      let back : a.lane ≡ reverse_lane t.lane = sym (reverse_twice a.lane) ∙ ap reverse_lane (sym lane) in
      let same : Some a.offset ≡ Some offset = sym at ∙ is in
      let place : a.offset ≡ offset = cc in
      let name : a.name ≡ item_name t.item = name_eq_from a.name (item_name t.item) (and_right (is_pending_of t a) _ found.3) in
      let there : HasFrameOf (frames a.lane) a.offset a.name = all_at (λ (x : PendingAck). HasFrameOf (frames x.lane) x.offset x.name) vol.pending_acks found.0 a h.pending found.2 in
      subst (λ (l : Lane). HasFrameOf (frames l) offset (item_name t.item)) back
      (subst (λ (x : ℕ). HasFrameOf (frames a.lane) x (item_name t.item)) place (subst (HasFrameOf (frames a.lane) a.offset) name there))

  noted_one : (acked : List Name) (vol : Volatile) (p : Placing) → ((k : ℕ) (t : Transmission) → slice_get vol.awaiting k ≡ Some t → IsAwaitedAck vol t t.received_offset) → Names vol →
      Names (complete_one acked vol p)
  unfolding complete_one
  noted_one acked vol p awaited h =
      let t : Transmission = transmission_of p in
      by_test Names p.fresh _ _
      (λ fresh. by_test Names (list_any (transmission_eq t) vol.awaiting && not (list_any (stands_at p) vol.window)) _ _
      (λ e.
      let at = order_at t vol.awaiting (and_left (list_any (transmission_eq t) vol.awaiting) _ e) in
      record {
        pending = all_kept (λ (a : PendingAck). HasFrameOf (frames a.lane) a.offset a.name) (λ a. not (is_pending_of t a)) vol.pending_acks h.pending;
        sent = by_test (AllByRecursion (λ (x : Entry). NamesItsFrame frames x.transmission)) (is_acked_item acked t.item) vol.window (vol.window ++ entry_of p ∷ []) (λ k. h.sent)
            (λ k. all_both (λ (x : Entry). NamesItsFrame frames x.transmission) vol.window (entry_of p ∷ []) h.sent
            (awaited_names vol t t.received_offset h (awaited at.0 t at.1) refl, tt));
      }) (λ e. h))
      (λ again. record { pending = h.pending; sent = all_sent (NamesItsFrame frames) (record_retransmission p) (noted_same p) vol.window h.sent })

module _ (net : Network) (w : World) (c : Conserved net w) (v : ℕ) (acked : List Name) where
  noted : (ps : List Placing) (vol : Volatile) → ((n : ℕ) (p : Placing) → slice_get ps n ≡ Some p → IsPlaced net w v p) → IsVolatile net w v vol → IsNaming w.frames vol →
      IsNaming w.frames (complete acked vol ps)
  unfolding complete
  noted [] vol placed is h = h
  noted (p ∷ ps) vol placed is h =
      noted ps (complete_one acked vol p) (λ n q at. placed (suc n) q at) (placings_keep net w v c acked vol (p ∷ []) (one p (placed zero p refl)) is)
      (noted_one w.frames acked vol p (λ k t at. (is.awaiting k t at).2) h)
    where
      one : (p : Placing) → IsPlaced net w v p → (n : ℕ) (q : Placing) → slice_get (p ∷ []) n ≡ Some q → IsPlaced net w v q
      one p at zero q e = let is : p ≡ q = cc in subst (IsPlaced net w v) is at
      one p at (suc n) q e = cc

module _ (net : Network) (w : World) (network : IsNetwork net) (c : Conserved net w) (h : AreNaming w) where
  commits : (v octets : ℕ) (e : Effect) → IsNaming w.frames e.volatile → AreNaming (commit net.site w v octets e)
  unfolding commit
  commits v octets e new = by_number (λ u b. IsNaming w.frames (if b then e.volatile else w.volatile u)) v new (λ u ne. h u)

  none : IsNaming w.frames no_volatile
  none = record { pending = tt; sent = tt }

  forgets : (v u : ℕ) → IsNaming w.frames (if u == v then no_volatile else w.volatile u)
  forgets v u = by_number (λ k b. IsNaming w.frames (if b then no_volatile else w.volatile k)) v none (λ k ne. h k) u

  stops : (v octets : ℕ) (e : Effect) → AreNaming (stopped w v octets e)
  unfolding stopped
  stops v octets e = forgets v

  plan_names : (v : ℕ) → IsNaming w.frames (planned_by net w v).volatile
  unfolding plan view_of masked
  plan_names v = record {
    pending = (h v).pending;
    sent = all_sent (NamesItsFrame w.frames) (sent_again _) (again_same _) (map age (w.volatile v).window) (all_sent (NamesItsFrame w.frames) age aged_same (w.volatile v).window (h v).sent);
  }

  fact_names : (v : ℕ) (l : Lane) (offset : ℕ) (f : Fact) → HasFrameOf (w.frames l) offset (name_of f) → IsNaming w.frames (receive_fact (view_of net w v) l offset f).volatile
  unfolding receive_fact view_of masked
  fact_names v l offset f at = heard w.frames (w.volatile v) l offset (name_of f) at (h v)

  ack_names : (v : ℕ) (l : Lane) (from : ℕ) (n : Name) → IsNaming w.frames (receive_ack (view_of net w v) l from n).volatile
  unfolding receive_ack view_of masked
  ack_names v l from n = by_test (IsNaming w.frames) (has (owed (view_of net w v) from) n) _ _
      (λ t. record { pending = (h v).pending; sent = all_kept (λ (e : Entry). NamesItsFrame w.frames e.transmission) _ (w.volatile v).window (h v).sent }) (λ t. h v)

  notes_all : (v : ℕ) → AreNaming (record (commit net.site w v 0 (noted_by w v)) { placings = number_set w.placings v [] })
  notes_all v = commits v 0 (noted_by w v) (noted net w c v (w.durable.acked v) (w.placings v) (w.volatile v) (c.placed v) (c.volatile v) (h v))

  claims : (t : Transmission) → AreNaming (allocate w t).0
  unfolding step allocate
  claims t v = more_frames w.frames (allocate w t).0.frames (step_more net w (Allocate t)).frames (w.volatile v) (h v)

  life : IsLifelong net w AreNaming
  unfolding allocate
  life = record {
    same = h;
    stops = stops;
    does = λ v octets e is. commits v octets e (subst (IsNaming w.frames) (sym is) (h v));
    plans = λ v. commits v 0 (planned_by net w v) (plan_names v);
    hears = λ l j a f at is. commits (receiver net.site l) 0 _ (fact_names (receiver net.site l) l a.offset f
        (record { number = j; there = at ∙ ap Some (λ i. record { offset = a.offset; item = is i }) }));
    answers = λ l n. commits (receiver net.site l) 0 _ (ack_names (receiver net.site l) l (sender net.site l) n);
    notes = notes_all;
    unheard = λ v down. h;
    allocates = claims;
    refuses = λ l j o is. h;
    puts = λ l j o is. h;
    crashes = λ v. forgets v;
    links = λ link up. h;
  }

  restarts : (v : ℕ) (recovery : Recovery) → AreNaming (recovers net w v recovery).0
  unfolding restarted
  restarts v (Recovers committed) = forgets v
  restarts v (Resumes committed) = forgets v
  restarts v (Interrupted None) = h
  restarts v (Interrupted (Some committed)) = h
  restarts v NoMemory = h
  restarts v Foreign = h

  starts : (v : ℕ) (recovery : Recovery) → AreNaming (start net w v recovery).0
  unfolding start
  starts v recovery = by_test (λ (r : World × Outcome). AreNaming r.0) (w.up v) _ _ (λ up. h) (λ down. restarts v recovery)

  begun : (a : Action) → is_start a ≡ true → AreNaming (step net w a).0
  unfolding step
  begun (Start v recovery) is = starts v recovery
  begun _ is = cc

  pub action_names : (a : Action) → is_enabled net w a ≡ true → AreNaming (step net w a).0
  action_names a may = elim (is_start a) as (λ t. is_start a ≡ t → AreNaming (step net w a).0) [
    | true ↦ λ is. begun a is
    | false ↦ λ other. life_walk net w network c AreNaming life a other may
  ] refl

-- Runs.

pub first_names : AreNaming first
unfolding first
first_names v = record { pending = tt; sent = tt }

run_from : (net : Network) → IsNetwork net → (actions : List Action) (w : World) → Conserved net w → AreNaming w → IsRun net w actions → AreNaming (run net w actions)
unfolding run is_run
run_from net network [] w c h r = h
run_from net network (a ∷ actions) w c h r =
    let new : World = (step net w a).0 in
    let here = and_left (is_step net w a) (is_run net new actions) r in
    let may = and_left (is_enabled net w a) (is_shown (environment_of a) (step net w a).1) here in
    run_from net network actions new (step_keeps net w a network here c) (action_names net w network c h a may) (and_right (is_step net w a) (is_run net new actions) r)

pub run_names : (net : Network) (actions : List Action) → IsNetwork net → IsRun net first actions → AreNaming (run net first actions)
run_names net actions network r = run_from net network actions first (first_keeps net) first_names r
