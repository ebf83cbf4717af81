-- A lane is still if its sender's plan puts nothing there and what is in flight there would be due.
use Rattle.std.proofs.Common.{◌≡◌, ℕ, ◌+◌, Bool, true, false, not, ◌&&◌, List, [], ◌∷◌, ◌++◌, refl, sym, ◌∙◌, ap, Option, Some, None}
use Rattle.std.specs.Prelude.{map, filter, is_none, if◌then◌else◌}
use Rattle.std.specs.List.{list_any, AllByRecursion}
use Rattle.qkd_base.specs.Name.{Name}
use Rattle.qkd_base.specs.Lane.{lane_eq, reverse_lane}
use Rattle.qkd_base.specs.declared.lane.Lane.{Lane}
use Rattle.net_model.specs.Item.{Item, DataItem, AckItem, item_of, item_eq, item_name, is_data_of}
use Rattle.net_model.specs.Site.{sender, receiver}
use Rattle.net_model.specs.World.{Network, World, Transmission, Entry, PendingAck, Volatile}
use Rattle.net_model.specs.Needed.{masked, view_of}
use Rattle.net_model.specs.Window.{offset_eq, transmission_eq, is_data_entry, age}
use Rattle.net_model.specs.Windows.{IsShaped}
use Rattle.net_model.specs.Relay.{owed}
use Rattle.net_model.specs.Plan.{wanted_on, plan}
use Rattle.net_model.specs.Invariant.{Conserved}
use Rattle.law_base.proofs.Base.{and_left, and_right, and_both, or_first, or_second, or_both, not_false, not_both, was_not, lane_eq_from, lane_same}
use Rattle.law_base.proofs.Lists.{all_both, all_from}
use Rattle.law_quiet.specs.Still.{PutsNothing, none_awaits, flies_on, in_flight_for, IsStill}
use Rattle.law_quiet.proofs.Windows.{filter_none, none_due, none_flies, all_older, none_again}

pub none_joined : {A : Type 0} (xs ys : List A) → xs ++ ys ≡ [] → (xs ≡ []) × (ys ≡ [])
none_joined [] ys h = (refl, h)
none_joined (x ∷ xs) ys h = cc

pub none_mapped : {A B : Type 0} (f : A → B) (xs : List A) → map f xs ≡ [] → xs ≡ []
none_mapped f [] h = refl
none_mapped f (x ∷ xs) h = cc

none_kept : {A : Type 0} (p : A → Bool) (xs : List A) → AllByRecursion (λ (x : A). p x ≡ true) xs → filter p xs ≡ [] → xs ≡ []
none_kept p [] all h = refl
none_kept {A} p (x ∷ xs) all h =
    let kept : x ∷ filter p xs ≡ [] = ap (λ (t : Bool). if t then x ∷ filter p xs else filter p xs) (sym all.0) ∙ h in cc

all_made : {A B : Type 0} (P : B → Type 0) (f : A → B) (xs : List A) → ((x : A) → P (f x)) → AllByRecursion P (map f xs)
all_made P f [] h = tt
all_made P f (x ∷ xs) h = (h x, all_made P f xs h)

all_so : {A : Type 0} (P : A → Type 0) (xs : List A) → ((x : A) → P x) → AllByRecursion P xs
all_so P [] h = tt
all_so P (x ∷ xs) h = (h x, all_so P xs h)

-- An order for a lane isn't among those of other lanes.
not_among : (l : Lane) (ts : List Transmission) → list_any (λ (t : Transmission). lane_eq t.lane l) ts ≡ false → (t : Transmission) → t.lane ≡ l → list_any (transmission_eq t) ts ≡ false
not_among l [] none t on = refl
not_among l (x ∷ xs) none t on =
    or_both (transmission_eq t x) _
    (not_false (transmission_eq t x) (λ e.
    let lanes : t.lane ≡ x.lane = lane_eq_from t.lane x.lane (and_left (lane_eq t.lane x.lane) (item_eq t.item x.item) (and_left (lane_eq t.lane x.lane && item_eq t.item x.item) (offset_eq t.received_offset x.received_offset) e)) in
    not_both (lane_eq x.lane l) (ap (λ (y : Lane). lane_eq y l) (sym lanes ∙ on) ∙ lane_same l) (or_first (lane_eq x.lane l) _ none)))
    (not_among l xs (or_second (lane_eq x.lane l) _ none) t on)

-- Where no order for the lane awaits its placing, nothing is wanted there only if there is neither an acknowledgement nor a fact for it.
none_wanted : (l : Lane) (awaiting ts : List Transmission) → list_any (λ (t : Transmission). lane_eq t.lane l) awaiting ≡ false → AllByRecursion (λ (t : Transmission). t.lane ≡ l) ts →
    filter (λ (t : Transmission). not (list_any (transmission_eq t) awaiting)) ts ≡ [] → ts ≡ []
none_wanted l awaiting [] none on h = refl
none_wanted l awaiting (t ∷ ts) none on h =
    let kept : t ∷ filter (λ (x : Transmission). not (list_any (transmission_eq x) awaiting)) ts ≡ [] =
    ap (λ (b : Bool). if not b then t ∷ filter (λ (x : Transmission). not (list_any (transmission_eq x) awaiting)) ts else filter (λ (x : Transmission). not (list_any (transmission_eq x) awaiting)) ts)
    (sym (not_among l awaiting none t on.0)) ∙ h in
    cc

-- The entry of a fact has no received offset.
data_shaped : (n : Name) (i : Item) (o : Option ℕ) → i ≡ item_of o (item_name i) → is_data_of n i ≡ true → is_none o ≡ true
data_shaped n i None shaped h = refl
data_shaped n i (Some x) shaped h = let no : is_data_of n (AckItem (item_name i)) ≡ true = ap (is_data_of n) (sym shaped) ∙ h in cc

none_in_window : (l : Lane) (n : Name) (window : List Entry) → AllByRecursion (λ (e : Entry). IsShaped e.transmission) window → list_any (flies_on l) window ≡ false →
    list_any (λ (e : Entry). lane_eq e.transmission.lane l && is_data_of n e.transmission.item) window ≡ false
none_in_window l n [] shaped none = refl
none_in_window l n (e ∷ es) shaped none =
    or_both (lane_eq e.transmission.lane l && is_data_of n e.transmission.item) _
    (not_false _ (λ h.
    let is_fact = data_shaped n e.transmission.item e.transmission.received_offset shaped.0 (and_right (lane_eq e.transmission.lane l) (is_data_of n e.transmission.item) h) in
    not_both (flies_on l e) (and_both (lane_eq e.transmission.lane l) (is_data_entry e) (and_left (lane_eq e.transmission.lane l) (is_data_of n e.transmission.item) h) is_fact)
    (or_first (flies_on l e) _ none)))
    (none_in_window l n es shaped.1 (or_second (flies_on l e) _ none))

module _ (net : Network) (w : World) (l : Lane) (puts : PutsNothing net w l) where
  abbrev v : ℕ
  v = sender net.site l

  abbrev vol : Volatile
  vol = w.volatile v

  -- One more plan makes what is in flight one tick older.
  pub older : (k : ℕ) → in_flight_for k l vol ≡ true → in_flight_for (k + 1) l (plan net.site w.link_up (view_of net w v)).volatile ≡ true
  unfolding plan view_of masked
  older k h = all_older l _ (none_again l (map age vol.window) puts.due _) k vol.window h

  module _ (c : Conserved net w) (awaits : none_awaits l vol ≡ true) where
    abbrev ack : PendingAck → Transmission
    ack a = record { lane = l; item = AckItem a.name; received_offset = Some a.offset }

    abbrev tell : Name → Transmission
    tell n = record { lane = l; item = DataItem n; received_offset = None }

    abbrev answers_here : PendingAck → Bool
    answers_here a = lane_eq a.lane (reverse_lane l)

    abbrev is_new : Name → Bool
    is_new n = not (list_any (λ (e : Entry). lane_eq e.transmission.lane l && is_data_of n e.transmission.item) vol.window)

    abbrev due : List Name
    due = owed (view_of net w v) (receiver net.site l)

    nothing : map ack (filter answers_here vol.pending_acks) ++ map tell (filter is_new due) ≡ []
    unfolding wanted_on view_of masked
    nothing =
        none_wanted l vol.awaiting (map ack (filter answers_here vol.pending_acks) ++ map tell (filter is_new due)) (was_not _ awaits)
        (all_both (λ (t : Transmission). t.lane ≡ l) (map ack (filter answers_here vol.pending_acks)) (map tell (filter is_new due))
        (all_made (λ (t : Transmission). t.lane ≡ l) ack (filter answers_here vol.pending_acks) (λ a. refl))
        (all_made (λ (t : Transmission). t.lane ≡ l) tell (filter is_new due) (λ n. refl))) puts.wanted

    shaped : AllByRecursion (λ (e : Entry). IsShaped e.transmission) vol.window
    shaped = all_from (λ (e : Entry). IsShaped e.transmission) vol.window (λ i e at. ((c.volatile v).entries i e at).shaped)

    both : (map ack (filter answers_here vol.pending_acks) ≡ []) × (map tell (filter is_new due) ≡ [])
    both = none_joined (map ack (filter answers_here vol.pending_acks)) (map tell (filter is_new due)) nothing

    -- No acknowledgement is to be sent there. And nothing is owed there where nothing is in flight.

    pub none_pend : list_any answers_here vol.pending_acks ≡ false
    none_pend = filter_none answers_here vol.pending_acks (none_mapped ack (filter answers_here vol.pending_acks) both.0)

    pub none_owed : list_any (flies_on l) vol.window ≡ false → due ≡ []
    none_owed flies =
        none_kept is_new due (all_so (λ (n : Name). is_new n ≡ true) due (λ n. ap not (none_in_window l n vol.window shaped flies))) (none_mapped tell (filter is_new due) both.1)

    pub still : in_flight_for 3 l vol ≡ true → IsStill net w l
    still old =
        let flies = none_flies l vol.window (none_due (map age vol.window) l puts.due) old in
        record { owes = none_owed flies; flies = flies; answers = none_pend }
