-- If the manager replies with a plan, the plan's frames are appended on each lane, after those that waited before.
use Rattle.std.proofs.Common.{◌≡◌, ℕ, zero, suc, ◌+◌, ◌≤◌, true, not, ◌&&◌, ◌||◌, List, [], ◌∷◌, ◌++◌, map, refl, sym, ◌∙◌, ap, subst, arith, append-nil}
use Rattle.std.specs.Prelude.{nat_lt, filter}
use Rattle.std.specs.List.{list_all, flat_map, AllByRecursion}
use Rattle.std.proofs.lemmas.List.{map-append}
use Rattle.std.proofs.lemmas.Bool.{lt-ltb}
use Rattle.qkd_base.specs.Lane.{lane_eq}
use Rattle.qkd_base.specs.declared.lane.Lane.{Lane}
use Rattle.net_model.specs.declared.order.Order.{Order}
use Rattle.net_model.specs.declared.repeat.Repeat.{Repeat}
use Rattle.net_model.specs.declared.short_of.ShortOf.{ShortOf}
use Rattle.net_model.specs.declared.event.Event.TheVariants.{Plan}
use Rattle.net_model.specs.declared.reply.Reply.TheVariants.{Planned}
use Rattle.net_model.specs.Journal.{journal_limit, added_len, is_nil}
use Rattle.net_model.specs.OctetSequence.{has_octets}
use Rattle.net_model.specs.Site.{Site, sender, count_up, outgoing_lane, is_incident, outgoing_lanes}
use Rattle.net_model.specs.World.{Network, World, Allocation, Transmission, Entry, Outgoing}
use Rattle.net_model.specs.View.{View, Port}
use Rattle.net_model.specs.Invariant.{Conserved}
use Rattle.net_model.specs.Window.{age, repeats_on, repeat_of}
use Rattle.net_model.specs.Decision.{Effect}
use Rattle.net_model.specs.Decide.{decide, random_need}
use Rattle.net_model.specs.Plan.{orders_on, spelled_orders, plan}
use Rattle.net_model.specs.Tick.{Emission, Again, New, ordered}
use Rattle.net_model.specs.Action.{Environment, Outcome, Replies, is_no_memory, is_entropy_fault, is_io_fault}
use Rattle.net_model.specs.Handle.{is_numbered, outgoing_repeat, with_orders, with_repeats, commit, stopped, perform, handle}
use Rattle.net_model.specs.Events.{is_lane}
use Rattle.run_model.specs.Works.{wanted_put}
use Rattle.law_base.proofs.Base.{by_test}
use Rattle.law_base.proofs.Lists.{all_both, all_from, all_at, all_kept, all_made}
use Rattle.law_invariant.proofs.Outgoing.{AreOutgoing, outgoing_each, of_ports}
use Rattle.law_invariant.proofs.Seen.{seen, seen_is}
use Rattle.law_locality.specs.Sending.{orders_in, repeats_in, repeated, IsNew, IsAgain, IsEmission}
use Rattle.law_locality.proofs.Lists.{all_weaker, all_mapped, map_kept, on}
use Rattle.law_locality.proofs.TickPuts.{repeated_is}
use Rattle.law_locality.proofs.Spelling.{orders_at, replied_at, IsReplied, lane_replied}
use Rattle.law_locality.proofs.Again.{aged, IsOn, lane_repeats}
use Rattle.law_locality.proofs.Plans.{lanes, wanted, replies, entries}
use Rattle.law_parallel.proofs.Lists.{orders_of_both, repeats_of_both}

-- An action appends the frames that its outcome orders to those that wait on each lane.
pub record Adds (net : Network) (w : World) (v : ℕ) (r : World × Outcome) : Type 0 where
  pub each : AllByRecursion (IsEmission net w v) (wanted_put r.1)
  pub frames : (l : Lane) → r.0.frames l ≡ w.frames l
  pub unclaimed : (l : Lane) → r.0.unclaimed l ≡ w.unclaimed l ++ map ordered (on (λ (o : Order). o.lane) l (orders_in (wanted_put r.1)))
  pub outgoing : (l : Lane) → r.0.outgoing l ≡ w.outgoing l ++ map (repeated (w.frames l)) (on (λ (x : Repeat). x.lane) l (repeats_in (wanted_put r.1)))

-- An action that orders nothing and leaves the lanes unchanged appends nothing.
pub adds_none : (net : Network) (w : World) (v : ℕ) (r : World × Outcome) → wanted_put r.1 ≡ [] → ((l : Lane) → r.0.frames l ≡ w.frames l) →
    ((l : Lane) → r.0.unclaimed l ≡ w.unclaimed l) → ((l : Lane) → r.0.outgoing l ≡ w.outgoing l) → Adds net w v r
adds_none net w v r none frames unclaimed outgoing = record {
  each = subst (AllByRecursion (IsEmission net w v)) (sym none) tt;
  frames = frames;
  unclaimed = λ l. unclaimed l ∙ sym (append-nil (w.unclaimed l))
      ∙ ap (λ (es : List Emission). w.unclaimed l ++ map ordered (on (λ (o : Order). o.lane) l (orders_in es))) (sym none);
  outgoing = λ l. outgoing l ∙ sym (append-nil (w.outgoing l))
      ∙ ap (λ (es : List Emission). w.outgoing l ++ map (repeated (w.frames l)) (on (λ (x : Repeat). x.lane) l (repeats_in es))) (sym none);
}

-- Lemmas on the lanes that leave a node.

all_pass : {A : Type 0} (xs : List A) → filter (λ (x : A). true) xs ≡ xs
all_pass [] = refl
all_pass {A} (x ∷ xs) = ap (λ (ys : List A). x ∷ ys) (all_pass xs)

counted : (n m : ℕ) → n ≤ m → AllByRecursion (λ x. nat_lt x m ≡ true) (count_up n)
counted zero m h = tt
counted (suc n) m h = all_both (λ x. nat_lt x m ≡ true) (count_up n) (n ∷ []) (counted n m (omega arith)) (lt-ltb n m (omega arith), tt)

lanes_within : (s : Site) (v : ℕ) → AllByRecursion (λ l. is_lane s l ≡ true) (outgoing_lanes s v)
unfolding outgoing_lanes
lanes_within s v =
    all_made (λ l. is_lane s l ≡ true) (outgoing_lane s v) (is_incident s v) (count_up s.links)
    (λ i x at h. all_at (λ y. nat_lt y s.links ≡ true) (count_up s.links) i x (counted s.links s.links (omega arith)) at)

leave : (s : Site) (v : ℕ) (ls : List Lane) → AreOutgoing s v ls → AllByRecursion (λ l. sender s l ≡ v) ls
leave s v [] h = tt
leave s v (l ∷ ls) h = (h.0, leave s v ls h.2)

lanes_leave : (s : Site) (v : ℕ) → AllByRecursion (λ l. sender s l ≡ v) (outgoing_lanes s v)
lanes_leave s v = subst (AllByRecursion (λ l. sender s l ≡ v)) (all_pass (outgoing_lanes s v)) (leave s v _ (outgoing_each s v (λ l. true)))

module _ (net : Network) (w : World) (v : ℕ) (c : Conserved net w) where
  record IsLeaving (l : Lane) : Type 0 where
    site : is_lane net.site l ≡ true
    from : sender net.site l ≡ v

  leaving : AllByRecursion IsLeaving (lanes net w v)
  leaving =
      all_kept IsLeaving (λ (l : Lane). w.link_up l.link) (outgoing_lanes net.site v)
      (all_from IsLeaving (outgoing_lanes net.site v) (λ i l at. record {
        site = all_at (λ k. is_lane net.site k ≡ true) (outgoing_lanes net.site v) i l (lanes_within net.site v) at;
        from = all_at (λ k. sender net.site k ≡ v) (outgoing_lanes net.site v) i l (lanes_leave net.site v) at;
      }))

  -- Lemmas on the orders.

  new_on : (l : Lane) → IsLeaving l → (o : Order) → IsReplied net w v l o → IsNew net w v o
  new_on l g o h = record { site = ap (is_lane net.site) h.lane ∙ g.site; lane = ap (sender net.site) h.lane ∙ g.from; spelled = h.spelled }

  are_new : (ls : List Lane) → AllByRecursion IsLeaving ls → AllByRecursion (IsNew net w v) (flat_map (replied_at net w v) ls)
  are_new [] h = tt
  are_new (l ∷ ls) h =
      all_both (IsNew net w v) (replied_at net w v l) _ (all_weaker (IsReplied net w v l) (IsNew net w v) (new_on l h.0) (replied_at net w v l) (lane_replied net w v l).each)
      (are_new ls h.1)

  replies_ordered : (ls : List Lane) → map ordered (flat_map (replied_at net w v) ls) ≡ flat_map (orders_at net w v) ls
  replies_ordered [] = refl
  replies_ordered (l ∷ ls) =
      map-append ordered (replied_at net w v l) (flat_map (replied_at net w v) ls)
      ∙ ap (λ (ts : List Transmission). ts ++ map ordered (flat_map (replied_at net w v) ls)) (lane_replied net w v l).ordered
      ∙ ap (λ (ts : List Transmission). orders_at net w v l ++ ts) (replies_ordered ls)

  -- Lemmas on the window entries that are sent again.

  record IsRepeated (e : Entry) : Type 0 where
    again : IsAgain net w v (repeat_of e)
    same : (frames : List Allocation) → outgoing_repeat frames e ≡ repeated frames (repeat_of e)

  repeated_on : (l : Lane) (e : Entry) → IsOn net w v c l e → IsRepeated e
  repeated_on l e h = record { again = record { entry = e; is = refl; sent = h.known }; same = λ frames. sym (repeated_is frames e h.known.shaped) }

  are_repeated : (ls : List Lane) → AllByRecursion IsRepeated (flat_map (repeats_on (aged w v)) ls)
  are_repeated [] = tt
  are_repeated (l ∷ ls) =
      all_both IsRepeated (repeats_on (aged w v) l) _
      (all_weaker (IsOn net w v c l) IsRepeated (repeated_on l) (repeats_on (aged w v) l) (lane_repeats net w v c l)) (are_repeated ls)

  put_as_repeated : (frames : List Allocation) (es : List Entry) → AllByRecursion IsRepeated es → map (outgoing_repeat frames) es ≡ map (repeated frames) (map repeat_of es)
  put_as_repeated frames [] h = refl
  put_as_repeated frames (e ∷ es) h = let one = h.0.same frames in let rest = put_as_repeated frames es h.1 in λ i. one i ∷ rest i

  abbrev repeats : List Repeat
  repeats = map repeat_of (entries net w v)

  -- Lemmas on what is appended on a lane.

  more_orders : (ts : List Transmission) (unclaimed : Lane → List Transmission) (l : Lane) →
      with_orders ts unclaimed l ≡ unclaimed l ++ on (λ (t : Transmission). t.lane) l ts
  more_orders [] unclaimed l = sym (append-nil (unclaimed l))
  more_orders (t ∷ ts) unclaimed l = refl

  more_repeats : (es : List Entry) (outgoing : Lane → List Outgoing) (l : Lane) →
      with_repeats es w.frames outgoing l ≡ outgoing l ++ map (outgoing_repeat (w.frames l)) (on (λ (e : Entry). e.transmission.lane) l es)
  more_repeats [] outgoing l = sym (append-nil (outgoing l))
  more_repeats (e ∷ es) outgoing l = refl

  ordered_lane : (l : Lane) → on (λ (t : Transmission). t.lane) l (wanted net w v) ≡ map ordered (on (λ (o : Order). o.lane) l (replies net w v))
  ordered_lane l =
      ap (on (λ (t : Transmission). t.lane) l) (sym (replies_ordered (lanes net w v))) ∙ map_kept (λ (t : Transmission). lane_eq t.lane l) ordered (replies net w v)

  repeated_lane : (l : Lane) → map (outgoing_repeat (w.frames l)) (on (λ (e : Entry). e.transmission.lane) l (entries net w v)) ≡
      map (repeated (w.frames l)) (on (λ (r : Repeat). r.lane) l repeats)
  repeated_lane l =
      put_as_repeated (w.frames l) (on (λ (e : Entry). e.transmission.lane) l (entries net w v))
      (all_kept IsRepeated (λ (e : Entry). lane_eq e.transmission.lane l) (entries net w v) (are_repeated (lanes net w v)))
      ∙ ap (map (repeated (w.frames l))) (sym (map_kept (λ (r : Repeat). lane_eq r.lane l) repeat_of (entries net w v)))

  -- In the world after the plan, its frames wait after those that waited before.
  record IsPlanOf (new : World) : Type 0 where
    frames : new.frames ≡ w.frames
    unclaimed : (l : Lane) → new.unclaimed l ≡ with_orders (wanted net w v) w.unclaimed l
    outgoing : (l : Lane) → new.outgoing l ≡ with_repeats (entries net w v) w.frames w.outgoing l

  adds_planned : (new : World) (shorts : List ShortOf) → IsPlanOf new → Adds net w v (new, Replies (Planned (replies net w v) repeats shorts))
  adds_planned new shorts h = record {
    each = all_both (IsEmission net w v) (map Again repeats) (map New (replies net w v))
        (all_mapped (IsEmission net w v) Again repeats
        (all_mapped (IsAgain net w v) repeat_of (entries net w v)
        (all_weaker IsRepeated (λ (e : Entry). IsAgain net w v (repeat_of e)) (λ e x. x.again) (entries net w v) (are_repeated (lanes net w v)))))
        (all_mapped (IsEmission net w v) New (replies net w v) (are_new (lanes net w v) leaving));
    frames = λ l. ap (λ (f : Lane → List Allocation). f l) h.frames;
    unclaimed = λ l. h.unclaimed l ∙ more_orders (wanted net w v) w.unclaimed l
        ∙ ap (λ (ts : List Transmission). w.unclaimed l ++ ts) (ordered_lane l)
        ∙ ap (λ (os : List Order). w.unclaimed l ++ map ordered (on (λ (o : Order). o.lane) l os)) (sym (orders_of_both repeats (replies net w v)));
    outgoing = λ l. h.outgoing l ∙ more_repeats (entries net w v) w.outgoing l
        ∙ ap (λ (os : List Outgoing). w.outgoing l ++ os) (repeated_lane l)
        ∙ ap (λ (rs : List Repeat). w.outgoing l ++ map (repeated (w.frames l)) (on (λ (r : Repeat). r.lane) l rs)) (sym (repeats_of_both repeats (replies net w v)));
  }

  adds_as : (new : World) (orders : List Order) (again : List Repeat) (shorts : List ShortOf) → orders ≡ replies net w v → again ≡ repeats → IsPlanOf new →
      Adds net w v (new, Replies (Planned orders again shorts))
  adds_as new orders again shorts o r h =
      subst (λ (os : List Order). Adds net w v (new, Replies (Planned os again shorts))) (sym o)
      (subst (λ (rs : List Repeat). Adds net w v (new, Replies (Planned (replies net w v) rs shorts))) (sym r) (adds_planned new shorts h))

  -- The plan computed from what the manager sees.

  abbrev effect_over : View → Effect
  effect_over x = plan net.site w.link_up x

  plan_orders : (effect_over (seen net w v)).orders ≡ wanted net w v
  unfolding plan
  plan_orders = of_ports net w w.link_up (orders_on net.site (seen net w v)) (outgoing_lanes net.site v)

  plan_repeats : (effect_over (seen net w v)).repeats ≡ entries net w v
  unfolding plan
  plan_repeats = of_ports net w w.link_up (λ (p : Port). repeats_on (map age (w.volatile v).window) p.lane) (outgoing_lanes net.site v)

  plan_replies : flat_map (λ (p : Port). spelled_orders (seen net w v).facts p.planned (orders_on net.site (seen net w v) p)) (filter (λ (p : Port). w.link_up p.lane.link) (seen net w v).ports) ≡ replies net w v
  plan_replies = of_ports net w w.link_up (λ (p : Port). spelled_orders (seen net w v).facts p.planned (orders_on net.site (seen net w v) p)) (outgoing_lanes net.site v)

  is_plan_of : (octets : ℕ) → IsPlanOf (commit net.site w v octets (effect_over (seen net w v)))
  unfolding commit
  is_plan_of octets = record {
    frames = refl;
    unclaimed = λ l. ap (λ (ts : List Transmission). with_orders ts w.unclaimed l) plan_orders;
    outgoing = λ l. ap (λ (es : List Entry). with_repeats es w.frames w.outgoing l) plan_repeats;
  }

  committed : (octets : ℕ) → Adds net w v (commit net.site w v octets (effect_over (seen net w v)), Replies (effect_over (seen net w v)).reply)
  unfolding plan
  committed octets =
      adds_as (commit net.site w v octets (effect_over (seen net w v))) _ _ _ plan_replies (ap (map repeat_of) plan_repeats) (is_plan_of octets)

  stays : (x : Outcome) → wanted_put x ≡ [] → Adds net w v (w, x)
  stays x none = adds_none net w v (w, x) none (λ l. refl) (λ l. refl) (λ l. refl)

  stops : (octets : ℕ) (e : Effect) (x : Outcome) → wanted_put x ≡ [] → Adds net w v (stopped w v octets e, x)
  unfolding stopped
  stops octets e x none = adds_none net w v _ none (λ l. refl) (λ l. refl) (λ l. refl)

  performed : (octets : ℕ) (environment : Environment) → Adds net w v (perform net w v octets environment (effect_over (seen net w v)))
  unfolding perform
  performed octets environment =
      let e : Effect = effect_over (seen net w v) in
      by_test (Adds net w v) (is_no_memory environment || not (list_all is_numbered e.batch)) _ _ (λ t. stays _ refl)
      (λ t. by_test (Adds net w v) (nat_lt journal_limit ((w.journal v).length' + added_len (w.journal v).version e.batch)) _ _ (λ t. stays _ refl)
      (λ t. by_test (Adds net w v) (nat_lt 0 octets && (not (has_octets (net.entropy v) (w.drawn v + octets)) || is_entropy_fault environment)) _ _ (λ t. stays _ refl)
      (λ t. by_test (Adds net w v) (is_io_fault environment && not (is_nil e.batch)) _ _ (λ t. stops octets e _ refl) (λ t. committed octets))))

  pub plan_adds : (environment : Environment) → Adds net w v (handle net w v Plan environment)
  unfolding handle decide random_need
  plan_adds environment =
      by_test (Adds net w v) (w.up v) _ _
      (λ t. subst (λ (x : View). Adds net w v (perform net w v 0 environment (effect_over x))) (sym (seen_is net w v)) (performed 0 environment)) (λ t. stays _ refl)
