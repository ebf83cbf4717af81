-- Events keep what is awaited on its way: a plan's new orders have no bytes yet, and other events order nothing.
use Rattle.std.proofs.Common.{◌≡◌, ℕ, ◌≤◌, Bool, true, ◌&&◌, List, [], ◌∷◌, ◌++◌, map, refl, sym, ◌∙◌, ap, subst, arith, inl, inr, Some}
use Rattle.std.specs.Prelude.{◌==◌, count_by, filter, slice_get, if◌then◌else◌}
use Rattle.std.specs.List.{list_any, flat_map, AllByRecursion}
use Rattle.std.proofs.lemmas.List.Folds.{list_any-append}
use Rattle.qkd_base.specs.Name.{Name}
use Rattle.qkd_base.specs.Lane.{lane_eq}
use Rattle.qkd_base.specs.declared.lane.Lane.{Lane}
use Rattle.net_model.specs.declared.fact.Fact.{Fact}
use Rattle.net_model.specs.declared.order.Order.{Order}
use Rattle.net_model.specs.declared.payload.Payload.{Payload}
use Rattle.net_model.specs.declared.payload.Payload.TheVariants.{Data, Ack}
use Rattle.net_model.specs.Table.{name_of}
use Rattle.net_model.specs.Site.{sender, outgoing_lanes}
use Rattle.net_model.specs.World.{Network, World, Allocation, Transmission, Entry, PendingAck, Outgoing, Volatile, no_volatile}
use Rattle.net_model.specs.Needed.{masked, view_of}
use Rattle.net_model.specs.Window.{transmission_eq, answers_frame, mark_due, acknowledge, cleared, is_data_entry, age, sent_again}
use Rattle.net_model.specs.Decision.{Effect}
use Rattle.net_model.specs.Plan.{orders_on, plan}
use Rattle.net_model.specs.Relay.{receive_fact, receive_ack, receive}
use Rattle.net_model.specs.Tick.{ordered}
use Rattle.net_model.specs.Handle.{with_orders, with_repeats, outgoing_repeat, commit, stopped}
use Rattle.law_base.proofs.Base.{by_number, by_test, lane_same, or_cases, or_left, or_right}
use Rattle.law_base.proofs.Lists.{all_both, all_at, all_from, all_kept, any_of, transmission_from, transmission_same}
use Rattle.law_invariant.proofs.Orders.{on, with_orders_is}
use Rattle.law_invariant.proofs.Outgoing.{of_ports}
use Rattle.law_invariant.proofs.Seen.{seen}
use Rattle.law_locality.proofs.Counting.{count_more}
use Rattle.law_locality.proofs.Lists.{all_weaker}
use Rattle.law_locality.proofs.Spelling.{orders_at, replied_at, IsReplied, lane_replied}
use Rattle.law_quiet.specs.Awaited.{brings, IsOnItsWay, lies_at, waits_at, IsAwaited}
use Rattle.law_quiet.proofs.LeavingLanes.{any_kept}
use Rattle.law_quiet.proofs.Counts.{count_joined, count_kept, count_changed}

-- What is on its way stays so while lists grow.

pub any_longer : {A : Type 0} (p : A → Bool) (xs ys : List A) → list_any p xs ≡ true → list_any p (xs ++ ys) ≡ true
any_longer p xs ys h = list_any-append p xs ys ∙ or_left (list_any p xs) (list_any p ys) h

more_orders : (x : Transmission) (ts : List Transmission) (unclaimed : Lane → List Transmission) (l : Lane) → list_any (transmission_eq x) (unclaimed l) ≡ true →
    list_any (transmission_eq x) (with_orders ts unclaimed l) ≡ true
more_orders x ts unclaimed l h = ap (list_any (transmission_eq x)) (with_orders_is ts unclaimed l) ∙ any_longer (transmission_eq x) (unclaimed l) (on l ts) h

more_repeats : (x : Transmission) (es : List Entry) (frames : Lane → List Allocation) (outgoing : Lane → List Outgoing) (l : Lane) → list_any (brings x) (outgoing l) ≡ true →
    list_any (brings x) (with_repeats es frames outgoing l) ≡ true
more_repeats x [] frames outgoing l h = h
more_repeats x (e ∷ es) frames outgoing l h = any_longer (brings x) (outgoing l) _ h

-- A repeat is no new frame.

none_new : (frames all : List Allocation) (x : ℕ) (es : List Entry) → count_by (waits_at all x) (map (outgoing_repeat frames) es) ≡ 0
none_new frames all x [] = refl
none_new frames all x (e ∷ es) =
    let one = count_more (waits_at all x) (outgoing_repeat frames e) (map (outgoing_repeat frames) es) in
    let rest = none_new frames all x es in
    omega (arith, one, rest)

pub repeats_new : (es : List Entry) (frames : Lane → List Allocation) (outgoing : Lane → List Outgoing) (l : Lane) (all : List Allocation) (x : ℕ) →
    count_by (waits_at all x) (with_repeats es frames outgoing l) ≡ count_by (waits_at all x) (outgoing l)
repeats_new [] frames outgoing l all x = refl
repeats_new (e ∷ es) frames outgoing l all x =
    let joined = count_joined (waits_at all x) (outgoing l) (map (outgoing_repeat (frames l)) (filter (λ (y : Entry). lane_eq y.transmission.lane l) (e ∷ es))) in
    let none = none_new (frames l) all x (filter (λ (y : Entry). lane_eq y.transmission.lane l) (e ∷ es)) in
    omega (arith, joined, none)

module _ (net : Network) (w : World) (h : IsAwaited net w) where
  -- A manager's own memory changes, and its window gains no place.
  pub places_left : (v : ℕ) (vol : Volatile) → ((l : Lane) (x : ℕ) → count_by (lies_at l x) vol.window ≤ count_by (lies_at l x) (w.volatile v).window) →
      (l : Lane) (x u : ℕ) → count_by (lies_at l x) (if u == v then vol else w.volatile u).window ≤ count_by (lies_at l x) (w.volatile u).window
  places_left v vol fewer l x u =
      by_number (λ k b. count_by (lies_at l x) (if b then vol else w.volatile k).window ≤ count_by (lies_at l x) (w.volatile k).window) v (fewer l x) (λ k ne. omega arith) u

  module _ (v octets : ℕ) (e : Effect) where
    abbrev new : World
    new = commit net.site w v octets e

    still_coming : (u : ℕ) (t : Transmission) → IsOnItsWay net w u t → IsOnItsWay net new u t
    unfolding commit
    still_coming u t way = (
      way.0,
      elim (or_cases (list_any (transmission_eq t) (w.unclaimed t.lane)) _ way.1) [
        | inl ordered ↦ or_left (list_any (transmission_eq t) (new.unclaimed t.lane)) _ (more_orders t e.orders w.unclaimed t.lane ordered)
        | inr later ↦ or_right (list_any (transmission_eq t) (new.unclaimed t.lane)) _ (elim (or_cases (list_any (brings t) (w.outgoing t.lane)) _ later) [
          | inl waits ↦ or_left (list_any (brings t) (new.outgoing t.lane)) _ (more_repeats t e.repeats w.frames w.outgoing t.lane waits)
          | inr told ↦ or_right (list_any (brings t) (new.outgoing t.lane)) _ told
        ])
      ],
    )

    pub commits : AllByRecursion (IsOnItsWay net new v) e.volatile.awaiting → ((l : Lane) (x : ℕ) → count_by (lies_at l x) e.volatile.window ≤ count_by (lies_at l x) (w.volatile v).window) →
        IsAwaited net new
    unfolding commit
    commits coming fewer = record {
      coming = by_number (λ u b. AllByRecursion (IsOnItsWay net new u) (if b then e.volatile else w.volatile u).awaiting) v coming
          (λ u ne. all_weaker (IsOnItsWay net w u) (IsOnItsWay net new u) (still_coming u) (w.volatile u).awaiting (h.coming u));
      once = λ l x.
          let left = places_left v e.volatile fewer l x (sender net.site l) in
          let same = repeats_new e.repeats w.frames w.outgoing l (w.frames l) x in
          let old = h.once l x in
          omega (arith, left, same, old);
    }

    -- It is so of an effect that awaits what was awaited before.
    pub commits_same : e.volatile.awaiting ≡ (w.volatile v).awaiting → ((l : Lane) (x : ℕ) → count_by (lies_at l x) e.volatile.window ≤ count_by (lies_at l x) (w.volatile v).window) →
        IsAwaited net new
    commits_same same fewer =
        commits (subst (AllByRecursion (IsOnItsWay net new v)) (sym same) (all_weaker (IsOnItsWay net w v) (IsOnItsWay net new v) (still_coming v) (w.volatile v).awaiting (h.coming v))) fewer

    pub stops : IsAwaited net (stopped w v octets e)
    unfolding stopped
    stops = record {
      coming = by_number (λ u b. AllByRecursion (IsOnItsWay net w u) (if b then no_volatile else w.volatile u).awaiting) v tt (λ u ne. h.coming u);
      once = λ l x. let left = places_left v no_volatile (λ k y. omega arith) l x (sender net.site l) in let old = h.once l x in omega (arith, left, old);
    }

  -- A plan.

  module _ (v : ℕ) where
    abbrev planned : Effect
    planned = plan net.site w.link_up (view_of net w v)

    abbrev all : List Lane
    all = outgoing_lanes net.site v

    abbrev lanes : List Lane
    lanes = filter (λ (l : Lane). w.link_up l.link) all

    abbrev Leaves : Lane → Type 0
    Leaves l = list_any (λ k. lane_eq k l) all ≡ true

    listed : AllByRecursion Leaves lanes
    listed = all_kept Leaves (λ (l : Lane). w.link_up l.link) all (all_from Leaves all (λ i l at. any_of (λ k. lane_eq k l) all l i at (lane_same l)))

    each_on : (l : Lane) → Leaves l → (os : List Order) → AllByRecursion (IsReplied net w v l) os → AllByRecursion (λ (t : Transmission). Leaves t.lane) (map ordered os)
    each_on l on-it [] all-on = tt
    each_on l on-it (o ∷ os) all-on = (ap (λ (m : Lane). list_any (λ k. lane_eq k m) all) all-on.0.lane ∙ on-it, each_on l on-it os all-on.1)

    all_on : (ls : List Lane) → AllByRecursion Leaves ls → AllByRecursion (λ (t : Transmission). Leaves t.lane) (flat_map (orders_at net w v) ls)
    all_on [] on-them = tt
    all_on (l ∷ ls) on-them =
        all_both (λ (t : Transmission). Leaves t.lane) (orders_at net w v l) (flat_map (orders_at net w v) ls)
        (subst (AllByRecursion (λ (t : Transmission). Leaves t.lane)) (lane_replied net w v l).ordered (each_on l on-them.0 (replied_at net w v l) (lane_replied net w v l).each))
        (all_on ls on-them.1)

    orders_are : planned.orders ≡ flat_map (orders_at net w v) lanes
    unfolding plan view_of masked
    orders_are = of_ports net w w.link_up (orders_on net.site (seen net w v)) all

    is_ordered : (unclaimed : Lane → List Transmission) (ts : List Transmission) (i : ℕ) (t : Transmission) → slice_get ts i ≡ Some t →
        list_any (transmission_eq t) (with_orders ts unclaimed t.lane) ≡ true
    is_ordered unclaimed ts i t at =
        ap (list_any (transmission_eq t)) (with_orders_is ts unclaimed t.lane) ∙ list_any-append (transmission_eq t) (unclaimed t.lane) (on t.lane ts) ∙
        or_right (list_any (transmission_eq t) (unclaimed t.lane)) _
        (any_kept (λ (x : Transmission). lane_eq x.lane t.lane) (transmission_eq t) ts
        (λ x e. ap (λ (y : Transmission). lane_eq y.lane t.lane) (sym (transmission_from t x e)) ∙ lane_same t.lane) (any_of (transmission_eq t) ts t i at (transmission_same t)))

    new_coming : (octets : ℕ) → AllByRecursion (IsOnItsWay net (commit net.site w v octets planned) v) planned.orders
    unfolding commit
    new_coming octets = all_from _ planned.orders (λ i t at. (
      all_at (λ (x : Transmission). Leaves x.lane) planned.orders i t (subst (AllByRecursion (λ (x : Transmission). Leaves x.lane)) (sym orders_are) (all_on lanes listed)) at,
      or_left (list_any (transmission_eq t) (with_orders planned.orders w.unclaimed t.lane)) _ (is_ordered w.unclaimed planned.orders i t at),
    ))

    aged_place : (l : Lane) (x : ℕ) (e : Entry) → lies_at l x (age e) ≡ lies_at l x e
    aged_place l x e = by_test (λ (y : Entry). lies_at l x y ≡ lies_at l x e) (is_data_entry e) _ e (λ k. refl) (λ k. refl)

    again_place : (out : List Entry) (l : Lane) (x : ℕ) (e : Entry) → lies_at l x (sent_again out e) ≡ lies_at l x e
    again_place out l x e =
        by_test (λ (y : Entry). lies_at l x y ≡ lies_at l x e) (list_any (λ y. lane_eq y.transmission.lane e.transmission.lane && (y.offset == e.offset)) out) _ e (λ k. refl) (λ k. refl)

    plan_places : (l : Lane) (x : ℕ) → count_by (lies_at l x) planned.volatile.window ≡ count_by (lies_at l x) (w.volatile v).window
    unfolding plan view_of masked
    plan_places l x = count_changed (lies_at l x) (sent_again _) (again_place _ l x) (map age (w.volatile v).window) ∙ count_changed (lies_at l x) age (aged_place l x) (w.volatile v).window

    plan_awaits : planned.volatile.awaiting ≡ (w.volatile v).awaiting ++ planned.orders
    unfolding plan view_of masked
    plan_awaits = refl

    pub plans : (octets : ℕ) → IsAwaited net (commit net.site w v octets planned)
    plans octets =
        let after : World = commit net.site w v octets planned in
        commits v octets planned
        (subst (AllByRecursion (IsOnItsWay net after v)) (sym plan_awaits)
        (all_both (IsOnItsWay net after v) (w.volatile v).awaiting planned.orders
        (all_weaker (IsOnItsWay net w v) (IsOnItsWay net after v) (still_coming v octets planned v) (w.volatile v).awaiting (h.coming v)) (new_coming octets)))
        (λ l x. let same = plan_places l x in omega (arith, same))

  -- A frame that comes.

  due_place : (m : Lane) (offset : ℕ) (l : Lane) (x : ℕ) (e : Entry) → lies_at l x (mark_due m offset e) ≡ lies_at l x e
  due_place m offset l x e = by_test (λ (y : Entry). lies_at l x y ≡ lies_at l x e) (answers_frame m offset e.transmission) _ e (λ k. refl) (λ k. refl)

  record IsHeard (vol new : Volatile) : Type 0 where
    awaiting : new.awaiting ≡ vol.awaiting
    places : (l : Lane) (x : ℕ) → count_by (lies_at l x) new.window ≤ count_by (lies_at l x) vol.window

  heard_same : (vol : Volatile) → IsHeard vol vol
  heard_same vol = record { awaiting = refl; places = λ l x. omega arith }

  acknowledges : (vol : Volatile) (m : Lane) (offset : ℕ) (n : Name) → IsHeard vol (acknowledge vol m offset n)
  unfolding acknowledge
  acknowledges vol m offset n =
      by_test (IsHeard vol) (list_any (λ (e : Entry). answers_frame m offset e.transmission) vol.window) _ _
      (λ t. record { awaiting = refl; places = λ l x. let same = count_changed (lies_at l x) (mark_due m offset) (due_place m offset l x) vol.window in omega (arith, same) })
      (λ t. by_test (IsHeard vol) (list_any (λ (a : PendingAck). lane_eq a.lane m && (a.offset == offset)) vol.pending_acks) _ _ (λ k. heard_same vol)
      (λ k. record { awaiting = refl; places = λ l x. omega arith }))

  clears : (vol : Volatile) (m : Lane) (n : Name) → IsHeard vol (record vol { window = cleared m n vol.window })
  clears vol m n = record { awaiting = refl; places = λ l x. count_kept (lies_at l x) _ vol.window }

  fact_heard : (v : ℕ) (l : Lane) (offset : ℕ) (f : Fact) → IsHeard (w.volatile v) (receive_fact (view_of net w v) l offset f).volatile
  unfolding receive_fact view_of masked
  fact_heard v l offset f = acknowledges (w.volatile v) l offset (name_of f)

  ack_heard : (v : ℕ) (l : Lane) (from : ℕ) (n : Name) → IsHeard (w.volatile v) (receive_ack (view_of net w v) l from n).volatile
  unfolding receive_ack view_of masked
  ack_heard v l from n = by_test (IsHeard (w.volatile v)) _ _ _ (λ t. clears (w.volatile v) l n) (λ t. heard_same (w.volatile v))

  frame_heard : (v : ℕ) (l : Lane) (offset : ℕ) (p : Payload) → IsHeard (w.volatile v) (receive net.site (view_of net w v) l offset p).volatile
  frame_heard v l offset (Data f) = fact_heard v l offset f
  frame_heard v l offset (Ack n) = ack_heard v l (sender net.site l) n

  pub receives : (v octets : ℕ) (l : Lane) (offset : ℕ) (p : Payload) → IsAwaited net (commit net.site w v octets (receive net.site (view_of net w v) l offset p))
  receives v octets l offset p =
      let heard = frame_heard v l offset p in
      commits_same v octets (receive net.site (view_of net w v) l offset p) heard.awaiting heard.places
