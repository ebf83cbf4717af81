-- After a plan, just the frames that the plan orders wait to be sent.
use Rattle.std.proofs.Common.{◌≡◌, ℕ, zero, suc, ◌≤◌, true, List, [], ◌∷◌, ◌++◌, map, refl, sym, ◌∙◌, ap, subst, arith, Some}
use Rattle.std.specs.Prelude.{nat_lt, slice_get, filter}
use Rattle.std.specs.List.{list_any, flat_map, AllByRecursion}
use Rattle.std.proofs.lemmas.List.{map-append}
use Rattle.std.proofs.lemmas.Bool.{lt-ltb}
use Rattle.qkd_base.specs.Lane.{lane_eq}
use Rattle.qkd_base.specs.declared.lane.Lane.{Lane}
use Rattle.net_model.specs.declared.order.Order.{Order}
use Rattle.net_model.specs.declared.repeat.Repeat.{Repeat}
use Rattle.net_model.specs.Site.{Site, sender, count_up, outgoing_lane, is_incident, outgoing_lanes}
use Rattle.net_model.specs.World.{Network, World, Allocation, Transmission, Entry, Outgoing}
use Rattle.net_model.specs.Premises.{IsNetwork}
use Rattle.net_model.specs.Invariant.{Conserved}
use Rattle.net_model.specs.Window.{repeats_on, repeat_of}
use Rattle.net_model.specs.Windows.{IsEntry}
use Rattle.net_model.specs.Handle.{with_orders, with_repeats, outgoing_repeat}
use Rattle.net_model.specs.Events.{is_lane}
use Rattle.net_model.specs.Step.{is_node}
use Rattle.net_model.specs.Tick.{Emission, tick_order, ordered}
use Rattle.law_base.proofs.Base.{lane_same}
use Rattle.law_base.proofs.Lists.{all_both, all_from, all_at, all_kept, all_made, any_of}
use Rattle.law_base.proofs.Growth.{Outgrows}
use Rattle.law_invariant.proofs.Outgoing.{AreOutgoing, outgoing_each, leaves_node}
use Rattle.law_locality.specs.Quiet.{IsQuiet}
use Rattle.law_locality.specs.Sending.{orders_in, repeats_in, repeated, IsNew, IsAgain, IsEmission, Sends}
use Rattle.law_locality.proofs.Lists.{all_weaker, all_mapped, map_kept, on, each_once, tick_orders, tick_repeats, tick_all}
use Rattle.law_locality.proofs.TickPuts.{emissions_stay, repeated_is}
use Rattle.law_locality.proofs.Spelling.{orders_at, replied_at, IsReplied, lane_replied}
use Rattle.law_locality.proofs.Again.{aged, IsOn, lane_repeats}

-- Lemmas on the lanes that leave a node.

all_pass : {A : Type 0} (xs : List A) → filter (λ (x : A). true) xs ≡ xs
all_pass [] = refl
all_pass {A} (x ∷ xs) = ap (λ (ys : List A). x ∷ ys) (all_pass xs)

all_outgoing : (s : Site) (v : ℕ) → AreOutgoing s v (outgoing_lanes s v)
all_outgoing s v = subst (AreOutgoing s v) (all_pass (outgoing_lanes s v)) (outgoing_each s v (λ l. true))

counted : (n m : ℕ) → n ≤ m → AllByRecursion (λ x. nat_lt x m ≡ true) (count_up n)
counted zero m h = tt
counted (suc n) m h = all_both (λ x. nat_lt x m ≡ true) (count_up n) (n ∷ []) (counted n m (omega arith)) (lt-ltb n m (omega arith), tt)

lanes_within : (s : Site) (v : ℕ) → AllByRecursion (λ l. is_lane s l ≡ true) (outgoing_lanes s v)
unfolding outgoing_lanes
lanes_within s v =
    all_made (λ l. is_lane s l ≡ true) (outgoing_lane s v) (is_incident s v) (count_up s.links)
    (λ i x at h. all_at (λ y. nat_lt y s.links ≡ true) (count_up s.links) i x (counted s.links s.links (omega arith)) at)

module _ (net : Network) (w : World) (v : ℕ) where
  abbrev all : List Lane
  all = outgoing_lanes net.site v

  record IsLeaving (l : Lane) : Type 0 where
    site : is_lane net.site l ≡ true
    from : sender net.site l ≡ v
    listed : list_any (λ k. lane_eq k l) all ≡ true

  leaving_at : (i : ℕ) (l : Lane) → slice_get all i ≡ Some l → IsLeaving l
  leaving_at i l at =
      let listed = any_of (λ k. lane_eq k l) all l i at (lane_same l) in
      record {
        site = all_at (λ k. is_lane net.site k ≡ true) all i l (lanes_within net.site v) at;
        from = leaves_node net.site v l all (all_outgoing net.site v) listed;
        listed = listed;
      }

  -- Those lanes whose links are up.
  abbrev pub lanes : List Lane
  lanes = filter (λ (l : Lane). w.link_up l.link) all

  leaving : AllByRecursion IsLeaving lanes
  leaving = all_kept IsLeaving (λ (l : Lane). w.link_up l.link) all (all_from IsLeaving all leaving_at)

  -- The orders in the form in which they wait, and in the form in which the reply has them.

  abbrev pub wanted : List Transmission
  wanted = flat_map (orders_at net w v) lanes

  abbrev pub replies : List Order
  replies = flat_map (replied_at net w v) lanes

  replies_ordered : (ls : List Lane) → map ordered (flat_map (replied_at net w v) ls) ≡ flat_map (orders_at net w v) ls
  replies_ordered [] = refl
  replies_ordered (l ∷ ls) =
      map-append ordered (replied_at net w v l) (flat_map (replied_at net w v) ls)
      ∙ ap (λ (ts : List Transmission). ts ++ map ordered (flat_map (replied_at net w v) ls)) (lane_replied net w v l).ordered
      ∙ ap (λ (ts : List Transmission). orders_at net w v l ++ ts) (replies_ordered ls)

  record IsPlanned (o : Order) : Type 0 where
    new : IsNew net w v o
    listed : list_any (λ k. lane_eq k o.lane) all ≡ true

  planned_on : (l : Lane) → IsLeaving l → (o : Order) → IsReplied net w v l o → IsPlanned o
  planned_on l g o h = record {
    new = record { site = ap (is_lane net.site) h.lane ∙ g.site; lane = ap (sender net.site) h.lane ∙ g.from; spelled = h.spelled };
    listed = ap (λ (m : Lane). list_any (λ k. lane_eq k m) all) h.lane ∙ g.listed;
  }

  are_planned : (ls : List Lane) → AllByRecursion IsLeaving ls → AllByRecursion IsPlanned (flat_map (replied_at net w v) ls)
  are_planned [] h = tt
  are_planned (l ∷ ls) h =
      all_both IsPlanned (replied_at net w v l) _
      (all_weaker (IsReplied net w v l) IsPlanned (planned_on l h.0) (replied_at net w v l) (lane_replied net w v l).each) (are_planned ls h.1)

  planned_orders : AllByRecursion IsPlanned replies
  planned_orders = are_planned lanes leaving

  -- The window entries that are sent again.

  abbrev pub entries : List Entry
  entries = flat_map (repeats_on (aged w v)) lanes

  module _ (c : Conserved net w) where
    record IsRepeated (e : Entry) : Type 0 where
      known : IsEntry net w v e
      listed : list_any (λ k. lane_eq k e.transmission.lane) all ≡ true

    repeated_on : (l : Lane) → IsLeaving l → (e : Entry) → IsOn net w v c l e → IsRepeated e
    repeated_on l g e h = record { known = h.known; listed = ap (λ (m : Lane). list_any (λ k. lane_eq k m) all) h.lane ∙ g.listed }

    are_repeated : (ls : List Lane) → AllByRecursion IsLeaving ls → AllByRecursion IsRepeated (flat_map (repeats_on (aged w v)) ls)
    are_repeated [] h = tt
    are_repeated (l ∷ ls) h =
        all_both IsRepeated (repeats_on (aged w v) l) _
        (all_weaker (IsOn net w v c l) IsRepeated (repeated_on l h.0) (repeats_on (aged w v) l) (lane_repeats net w v c l)) (are_repeated ls h.1)

    repeated_entries : AllByRecursion IsRepeated entries
    repeated_entries = are_repeated lanes leaving

    abbrev pub repeats : List Repeat
    repeats = map repeat_of entries

    abbrev pub emissions : List Emission
    emissions = tick_order all repeats replies

    each_now : AllByRecursion (IsEmission net w v) emissions
    each_now =
        tick_all repeats replies (IsEmission net w v)
        (all_mapped (IsAgain net w v) repeat_of entries
        (all_weaker IsRepeated (λ e. IsAgain net w v (repeat_of e)) (λ e h. record { entry = e; is = refl; sent = h.known }) entries repeated_entries))
        (all_weaker IsPlanned (IsNew net w v) (λ o h. h.new) replies planned_orders) all

    -- The orders that wait on one lane.

    orders_on_lane : (l : Lane) → on (λ (o : Order). o.lane) l (orders_in emissions) ≡ on (λ (o : Order). o.lane) l replies
    orders_on_lane l =
        ap (on (λ (o : Order). o.lane) l) (tick_orders repeats replies all)
        ∙ each_once (λ (o : Order). o.lane) net.site v l all (all_outgoing net.site v) replies
        (all_weaker IsPlanned (λ o. list_any (λ k. lane_eq k o.lane) all ≡ true) (λ o h. h.listed) replies planned_orders)

    repeats_on_lane : (l : Lane) → on (λ (r : Repeat). r.lane) l (repeats_in emissions) ≡ on (λ (r : Repeat). r.lane) l repeats
    repeats_on_lane l =
        ap (on (λ (r : Repeat). r.lane) l) (tick_repeats repeats replies all)
        ∙ each_once (λ (r : Repeat). r.lane) net.site v l all (all_outgoing net.site v) repeats
        (all_mapped (λ (r : Repeat). list_any (λ k. lane_eq k r.lane) all ≡ true) repeat_of entries
        (all_weaker IsRepeated (λ e. list_any (λ k. lane_eq k e.transmission.lane) all ≡ true) (λ e h. h.listed) entries repeated_entries))

    only_orders : (ts : List Transmission) (unclaimed : Lane → List Transmission) (l : Lane) → unclaimed l ≡ [] → with_orders ts unclaimed l ≡ on (λ (t : Transmission). t.lane) l ts
    only_orders [] unclaimed l h = h
    only_orders (t ∷ ts) unclaimed l h = ap (λ (us : List Transmission). us ++ on (λ (t : Transmission). t.lane) l (t ∷ ts)) h

    only_repeats : (es : List Entry) (outgoing : Lane → List Outgoing) (l : Lane) → outgoing l ≡ [] →
        with_repeats es w.frames outgoing l ≡ map (outgoing_repeat (w.frames l)) (on (λ (e : Entry). e.transmission.lane) l es)
    only_repeats [] outgoing l h = h
    only_repeats (e ∷ es) outgoing l h = ap (λ (os : List Outgoing). os ++ map (outgoing_repeat (w.frames l)) (on (λ (e : Entry). e.transmission.lane) l (e ∷ es))) h

    ordered_lane : (l : Lane) → on (λ (t : Transmission). t.lane) l wanted ≡ map ordered (on (λ (o : Order). o.lane) l (orders_in emissions))
    ordered_lane l =
        ap (on (λ (t : Transmission). t.lane) l) (sym (replies_ordered lanes)) ∙ map_kept (λ (t : Transmission). lane_eq t.lane l) ordered replies
        ∙ ap (map ordered) (sym (orders_on_lane l))

    shaped_all : (frames : List Allocation) (es : List Entry) → AllByRecursion IsRepeated es → map (outgoing_repeat frames) es ≡ map (repeated frames) (map repeat_of es)
    shaped_all frames [] h = refl
    shaped_all frames (e ∷ es) h = let one = sym (repeated_is frames e h.0.known.shaped) in let rest = shaped_all frames es h.1 in λ i. one i ∷ rest i

    repeated_lane : (l : Lane) → map (outgoing_repeat (w.frames l)) (on (λ (e : Entry). e.transmission.lane) l entries) ≡
        map (repeated (w.frames l)) (on (λ (r : Repeat). r.lane) l (repeats_in emissions))
    repeated_lane l =
        shaped_all (w.frames l) (on (λ (e : Entry). e.transmission.lane) l entries)
        (all_kept IsRepeated (λ (e : Entry). lane_eq e.transmission.lane l) entries repeated_entries)
        ∙ ap (map (repeated (w.frames l))) (sym (map_kept (λ (r : Repeat). lane_eq r.lane l) repeat_of entries))
        ∙ ap (map (repeated (w.frames l))) (sym (repeats_on_lane l))

    -- So all of the plan is still to be sent in the world that it leaves.
    pub record IsPlanOf (new : World) : Type 0 where
      pub more : Outgrows w new
      pub frames : new.frames ≡ w.frames
      pub unclaimed : (l : Lane) → new.unclaimed l ≡ with_orders wanted w.unclaimed l
      pub outgoing : (l : Lane) → new.outgoing l ≡ with_repeats entries w.frames w.outgoing l
      pub placings : new.placings ≡ w.placings

    pub plan_sends : IsNetwork net → IsQuiet w → is_node net v ≡ true → (new : World) → IsPlanOf new → Sends net new v emissions
    plan_sends network quiet node new h = record {
      node = node;
      each = emissions_stay net w network c v new h.more emissions each_now;
      unclaimed = λ l. h.unclaimed l ∙ only_orders wanted w.unclaimed l (quiet.claimed l) ∙ ordered_lane l;
      outgoing = λ l. h.outgoing l ∙ only_repeats entries w.outgoing l (quiet.put l) ∙ repeated_lane l
          ∙ ap (λ (f : Lane → List Allocation). map (repeated (f l)) (on (λ (r : Repeat). r.lane) l (repeats_in emissions))) (sym h.frames);
      others = λ u apart. ap (λ (f : ℕ → _). f u) h.placings ∙ quiet.noted u;
    }
