-- Facts that are on their way before a place stay so, unless they are acknowledged or their frames are removed.
use Rattle.std.proofs.Common.{◌≡◌, ℕ, zero, suc, ◌<◌, ◌≤◌, Bool, true, false, ◌||◌, ◌&&◌, List, [], ◌∷◌, ◌++◌, length, refl, sym, ◌∙◌, ap, subst, arith, Some}
use Rattle.std.specs.Prelude.{map, filter, slice_get, not, is_some, nat_le, ◌==◌, ◌+◌, if◌then◌else◌}
use Rattle.std.specs.List.{list_any}
use Rattle.std.proofs.lemmas.List.Folds.{list_any-append}
use Rattle.qkd_base.specs.Name.{Name, name_eq, has}
use Rattle.qkd_base.specs.Lane.{lane_eq, reverse_lane}
use Rattle.qkd_base.specs.Route.{next_after}
use Rattle.qkd_base.specs.declared.lane.Lane.{Lane}
use Rattle.net_model.specs.declared.fact.Fact.{Fact}
use Rattle.net_model.specs.declared.placing.Placing.{Placing}
use Rattle.net_model.specs.declared.record.Record.{Record}
use Rattle.net_model.specs.declared.repeat.Repeat.{Repeat}
use Rattle.net_model.specs.declared.reply.Reply.{Reply}
use Rattle.net_model.specs.declared.reply.Reply.TheVariants as replies
use Rattle.net_model.specs.Fold.{view_batch, view_records}
use Rattle.net_model.specs.Item.{Item, DataItem, AckItem, is_data_of}
use Rattle.net_model.specs.Relay.{is_some_of}
use Rattle.net_model.specs.Site.{Site, receiver}
use Rattle.net_model.specs.Table.{name_of, route_of, without_bytes}
use Rattle.net_model.specs.View.{View}
use Rattle.net_model.specs.Window.{acknowledge, answers_frame, mark_due, cleared, age, is_data_entry, stands_at, record_retransmission, transmission_of, transmission_eq, entry_of, is_acked_item, is_pending_of, complete, complete_one}
use Rattle.net_model.specs.World.{Entry, Transmission, Volatile}
use Rattle.kme_base.specs.declared.change.Change.{Change}
use Rattle.kme_base.specs.declared.change.Change.TheVariants.{Same, Received, Acknowledged, Planned, Noted}
use Rattle.kme_base.specs.Steps.{changed, planned_by, repeated_by, transmission_of_order}
use Rattle.relay_core.proofs.Firsts.{get_prefix}
use Rattle.relay_core.specs.Index.{is_owed_to}
use Rattle.resend_window.proofs.Lists.{any_map, any_same, length_map}
use Rattle.law_base.proofs.Base.{lane_eq_from, lane_same, name_eq_from, name_eq_same}
use Rattle.law_base.proofs.Masked.{name_blind, route_blind}
use Rattle.law_base.specs.Touched.{Grows, IsAlike}
use Rattle.law_base.proofs.Adding.{records_add}
use Rattle.law_base.proofs.Blind.{masked_alike}
use Rattle.law_base.proofs.Lists.{mapped_at, transmission_from}
use Rattle.kme_facts.specs.Needs.{kept_view}
use Rattle.declared_site.specs.SiteOf.{site_of}
use Rattle.declared_site.specs.declared.site.Site.{Site as Declared}
use Rattle.kme_base.specs.declared.step.Step.{Step}
use Rattle.relay_core.specs.Knowledge.{Knowledge}
use Rattle.resend_window.specs.Kept.{Kept as Window}
use Rattle.stream_core.specs.Kept.{StreamEnds, Sees}
use Rattle.kme_node.specs.Holdings.{Holdings, view}
use Rattle.kme_node.proofs.Applied.{seen_me}
use Rattle.kme_node.proofs.Split.{bare}
use Rattle.kme_relay.specs.Wanted.{data_on, is_awaited, is_held}
use Rattle.kme_relay.specs.UnderWay.{AreUnderWay, AreLeft, AreFronts, AreFrontsBut, front_of, is_under_way, is_let_go}
use Rattle.kme_relay.proofs.UnderWay.{is_one, is_other}

left_of : (a b : Bool) → (a && b) ≡ true → a ≡ true
left_of true b h = refl
left_of false b h = cc

right_of : (a b : Bool) → (a && b) ≡ true → b ≡ true
right_of true b h = h
right_of false b h = cc

both_of : (a b : Bool) → a ≡ true → b ≡ true → (a && b) ≡ true
both_of true b h k = k
both_of false b h k = cc

-- learned and acknowledged facts

record WasThere (facts : List Fact) (p : ℕ) (f : Fact) : Type 0 where
  pub fact : Fact
  pub there : slice_get facts p ≡ Some fact
  pub name : name_of fact ≡ name_of f
  pub route : route_of fact ≡ route_of f

get_map : {A B : Type 0} (g : A → B) (xs : List A) (p : ℕ) (x : A) → slice_get xs p ≡ Some x → slice_get (map g xs) p ≡ Some (g x)
get_map g [] p x h = cc
get_map g (y ∷ ys) zero x h = let same : y ≡ x = cc in ap (λ z. Some (g z)) same
get_map g (y ∷ ys) (suc p) x h = get_map g ys p x h

same_shape : (xs ys : List Fact) → map without_bytes xs ≡ map without_bytes ys → (p : ℕ) (f : Fact) → slice_get xs p ≡ Some f → WasThere ys p f
same_shape xs ys e p f there =
    let at = mapped_at without_bytes ys (without_bytes f) p (sym (ap (λ (zs : List Fact). slice_get zs p) e) ∙ get_map without_bytes xs p f there) in
    record {
      fact = at.0;
      there = at.1;
      name = sym (name_blind at.0) ∙ ap name_of at.2 ∙ name_blind f;
      route = sym (route_blind at.0) ∙ ap route_of at.2 ∙ route_blind f;
    }

module _ (v : View) (rs : List Record) where
  more : Grows v (view_records rs v)
  more = records_add rs v

  shaped : IsAlike (view_batch v rs) (view_records rs v)
  shaped = masked_alike (view_records rs v)

  was_there : (p : ℕ) (f : Fact) → p < length v.facts → slice_get (view_batch v rs).facts p ≡ Some f → WasThere v.facts p f
  was_there p f lt there =
      let at = same_shape (view_batch v rs).facts (view_records rs v).facts shaped.facts p f there in
      record {
        fact = at.fact;
        there = sym (get_prefix v.facts more.facts p lt) ∙ ap (λ (fs : List Fact). slice_get fs p) (sym more.later.facts_are) ∙ at.there;
        name = at.name;
        route = at.route;
      }

  longer : length v.facts ≤ length (view_batch v rs).facts
  longer =
      let a = sym (length_map without_bytes (view_batch v rs).facts) ∙ ap (λ (fs : List Fact). length fs) shaped.facts ∙ length_map without_bytes (view_records rs v).facts in
      let b = ap (λ (fs : List Fact). length fs) more.later.facts_are in
      let c = long v.facts more.facts in
      omega arith
    where
      long : (xs ys : List Fact) → length xs ≤ length (xs ++ ys)
      long [] ys = omega arith
      long (x ∷ xs) ys = let r = long xs ys in omega arith

  acked_stays : (n : Name) → has v.acked n ≡ true → has (view_batch v rs).acked n ≡ true
  acked_stays n h =
      ap (λ (ns : List Name). has ns n) (shaped.acked ∙ more.later.acked_are) ∙ list_any-append (λ m. name_eq m n) v.acked more.acked ∙ is_one (has v.acked n) (has more.acked n) h

  owed_before : (to : ℕ) (f g : Fact) → name_of g ≡ name_of f → route_of g ≡ route_of f → is_owed_to v.me (view_batch v rs).acked to f ≡ true → is_owed_to v.me v.acked to g ≡ true
  owed_before to f g name route h =
      both_of (is_some_of (next_after (route_of g) v.me) to) (not (has v.acked (name_of g)))
      (ap (λ (r : List ℕ). is_some_of (next_after r v.me) to) route ∙ left_of (is_some_of (next_after (route_of f) v.me) to) (not (has (view_batch v rs).acked (name_of f))) h)
      (ap (λ (n : Name). not (has v.acked n)) name ∙ by (has v.acked (name_of f)) refl)
    where
      unacked : not (has (view_batch v rs).acked (name_of f)) ≡ true
      unacked = right_of (is_some_of (next_after (route_of f) v.me) to) (not (has (view_batch v rs).acked (name_of f))) h

      by : (b : Bool) → has v.acked (name_of f) ≡ b → not (has v.acked (name_of f)) ≡ true
      by true e = let t : false ≡ true = ap not (sym (acked_stays (name_of f) e)) ∙ unacked in let u : ⊥ = cc in absurd u
      by false e = ap not e

  pub left_later : (vol : Volatile) (change : Change) (l : Lane) (to place : ℕ) → AreLeft v.me v.acked v.facts vol change l to place →
      AreLeft v.me (view_batch v rs).acked (view_batch v rs).facts vol change l to place
  left_later vol change l to place left = record {
    within = let a = longer in let b = left.within in omega arith;
    each = λ p f lt there owed.
        let at = was_there p f (let b = left.within in omega arith) there in
        ap (λ (n : Name). is_let_go change l n || is_under_way vol l n) (sym at.name) ∙ left.each p at.fact lt at.there (owed_before to f at.fact at.name at.route owed);
  }

-- changes that remove no frames

pub all_left : (me : ℕ) (acked : List Name) (facts : List Fact) (vol : Volatile) (l : Lane) (to place : ℕ) → AreUnderWay me acked facts vol l to place → AreLeft me acked facts vol Same l to place
all_left me acked facts vol l to place way = record { within = way.within; each = way.each }

pub none_let : (me : ℕ) (acked : List Name) (facts : List Fact) (vol : Volatile) (l : Lane) (to place : ℕ) → AreLeft me acked facts vol Same l to place → AreUnderWay me acked facts vol l to place
none_let me acked facts vol l to place left = record { within = left.within; each = left.each }

-- changes of the window

abbrev held_test : Lane → Name → Entry → Bool
held_test l n e = lane_eq e.transmission.lane l && is_data_of n e.transmission.item

module _ (l : Lane) (n : Name) where
  -- entries that keep their transmissions
  held_map : (g : Entry → Entry) → ((e : Entry) → (g e).transmission ≡ e.transmission) → (es : List Entry) → list_any (held_test l n) (map g es) ≡ list_any (held_test l n) es
  held_map g same es = any_map g (held_test l n) es ∙ any_same (λ e. held_test l n (g e)) (held_test l n) (λ e. ap (λ (t : Transmission). lane_eq t.lane l && is_data_of n t.item) (same e)) es

  marked_same : (k : Lane) (x : ℕ) (e : Entry) → (mark_due k x e).transmission ≡ e.transmission
  marked_same k x e = elim (answers_frame k x e.transmission) as (λ b. (if b then record e { due = true } else e).transmission ≡ e.transmission) [ true ↦ refl | false ↦ refl ]

  age_same : (e : Entry) → (age e).transmission ≡ e.transmission
  age_same e =
      elim (is_data_entry e) as (λ b. (if b then record e { age = e.age + 1; due = e.due || nat_le 4 (e.age + 1) } else e).transmission ≡ e.transmission) [ true ↦ refl | false ↦ refl ]

  repeated_same : (rs : List Repeat) (e : Entry) → (repeated_by rs e).transmission ≡ e.transmission
  repeated_same rs e =
      elim (list_any (λ (x : Repeat). lane_eq x.lane e.transmission.lane && (x.offset == e.offset)) rs) as (λ b. (if b then record e { age = 0; due = false } else e).transmission ≡ e.transmission) [ true ↦ refl | false ↦ refl ]

  placed_same : (p : Placing) (e : Entry) → (record_retransmission p e).transmission ≡ e.transmission
  placed_same p e =
      elim (stands_at p e) as (λ b. (if b then (if is_some p.number then record e { number = p.number } else record e { due = true }) else e).transmission ≡ e.transmission) [
        | true ↦ elim (is_some p.number) as (λ b. (if b then record e { number = p.number } else record e { due = true }).transmission ≡ e.transmission) [ true ↦ refl | false ↦ refl ]
        | false ↦ refl
      ]

  held_still : (vol : Volatile) (es : List Entry) → list_any (held_test l n) es ≡ list_any (held_test l n) vol.window → is_under_way vol l n ≡ true → (list_any (held_test l n) es || is_awaited vol (data_on l n)) ≡ true
  held_still vol es same h = ap (λ (b : Bool). b || is_awaited vol (data_on l n)) same ∙ h

  kept_any : {A : Type 0} (t s : A → Bool) → ((x : A) → t x ≡ true → s x ≡ true) → (xs : List A) → list_any t (filter s xs) ≡ list_any t xs
  kept_any t s h [] = refl
  kept_any {A} t s h (x ∷ xs) =
      elim (s x) as (λ b. s x ≡ b → list_any t (if b then x ∷ filter s xs else filter s xs) ≡ list_any t (x ∷ xs)) [
        | true ↦ λ e. ap (λ (b : Bool). t x || b) (kept_any t s h xs)
        | false ↦ λ e. kept_any t s h xs ∙ ap (λ (b : Bool). b || list_any t xs) (sym (miss (t x) refl e))
      ] refl
    where
      miss : (b : Bool) → t x ≡ b → s x ≡ false → t x ≡ false
      miss true e f = let u : true ≡ false = sym (h x e) ∙ f in let z : ⊥ = cc in absurd z
      miss false e f = e

  name_of_item : (i : Item) → is_data_of n i ≡ true → i ≡ DataItem n
  name_of_item (DataItem m) h = ap DataItem (name_eq_from m n h)
  name_of_item (AckItem m) h = cc

  -- entries that are removed
  not_cleared : (k : Lane) (m : Name) → is_let_go (Acknowledged k m) l n ≡ false → (es : List Entry) → list_any (held_test l n) (cleared k m es) ≡ list_any (held_test l n) es
  not_cleared k m miss es = kept_any (held_test l n) (λ e. not (lane_eq e.transmission.lane (reverse_lane k) && is_data_of m e.transmission.item)) one es
    where
      one : (e : Entry) → held_test l n e ≡ true → not (lane_eq e.transmission.lane (reverse_lane k) && is_data_of m e.transmission.item) ≡ true
      one e h =
          let lane = lane_eq_from e.transmission.lane l (left_of (lane_eq e.transmission.lane l) (is_data_of n e.transmission.item) h) in
          let item = name_of_item e.transmission.item (right_of (lane_eq e.transmission.lane l) (is_data_of n e.transmission.item) h) in
          ap (λ (j : Lane). not (lane_eq j (reverse_lane k) && is_data_of m e.transmission.item)) lane
          ∙ ap (λ (i : Item). not (lane_eq l (reverse_lane k) && is_data_of m i)) item ∙ ap not miss

  let_go : (k : Lane) (m : Name) (vol : Volatile) → is_under_way vol l n ≡ true → (b : Bool) → is_let_go (Acknowledged k m) l n ≡ b →
      (b || (list_any (held_test l n) (cleared k m vol.window) || is_awaited vol (data_on l n))) ≡ true
  let_go k m vol h true e = refl
  let_go k m vol h false e = held_still vol (cleared k m vol.window) (not_cleared k m e vol.window) h

  received_still : (vol : Volatile) (k : Lane) (x : ℕ) (m : Name) → is_under_way vol l n ≡ true → is_under_way (acknowledge vol k x m) l n ≡ true
  unfolding acknowledge
  received_still vol k x m h =
      elim (list_any (λ e. answers_frame k x e.transmission) vol.window) as (λ b. is_under_way (if b then record vol { window = map (mark_due k x) vol.window }
      else if list_any (λ a. lane_eq a.lane k && (a.offset == x)) vol.pending_acks then vol
      else record vol { pending_acks = vol.pending_acks ++ record { lane = k; offset = x; name = m } ∷ [] }) l n ≡ true) [
        | true ↦ held_still vol (map (mark_due k x) vol.window) (held_map (mark_due k x) (marked_same k x) vol.window) h
        | false ↦ elim (list_any (λ a. lane_eq a.lane k && (a.offset == x)) vol.pending_acks) as (λ b. is_under_way (if b then vol
            else record vol { pending_acks = vol.pending_acks ++ record { lane = k; offset = x; name = m } ∷ [] }) l n ≡ true) [ true ↦ h | false ↦ h ]
      ]

  planned_still : (vol : Volatile) (reply : Reply) → is_under_way vol l n ≡ true → is_under_way (planned_by reply vol) l n ≡ true
  planned_still vol (replies.Planned orders repeats shorts) h =
      ap (λ (b : Bool). b || is_awaited (record vol { awaiting = vol.awaiting ++ map transmission_of_order orders }) (data_on l n))
      (held_map (repeated_by repeats) (repeated_same repeats) (map age vol.window) ∙ held_map age age_same vol.window)
      ∙ ap (λ (b : Bool). is_held vol l n || b) (list_any-append (transmission_eq (data_on l n)) vol.awaiting (map transmission_of_order orders))
      ∙ further (is_held vol l n) (is_awaited vol (data_on l n)) (list_any (transmission_eq (data_on l n)) (map transmission_of_order orders)) h
    where
      further : (a b c : Bool) → (a || b) ≡ true → (a || (b || c)) ≡ true
      further true b c h = refl
      further false b c h = is_one b c h
  planned_still vol reply h = h

  -- placings
  is_same_order : (x : Transmission) → transmission_eq (data_on l n) x ≡ true → x ≡ data_on l n
  is_same_order x h = sym (transmission_from (data_on l n) x h)

  held_placed : (acked : List Name) (vol : Volatile) (p : Placing) → list_any (held_test l n) vol.window ≡ true →
      list_any (held_test l n) (if is_acked_item acked (transmission_of p).item then vol.window else vol.window ++ entry_of p ∷ []) ≡ true
  held_placed acked vol p h =
      elim (is_acked_item acked (transmission_of p).item) as (λ b. list_any (held_test l n) (if b then vol.window else vol.window ++ entry_of p ∷ []) ≡ true) [
        | true ↦ h
        | false ↦ list_any-append (held_test l n) vol.window (entry_of p ∷ []) ∙ is_one (list_any (held_test l n) vol.window) (list_any (held_test l n) (entry_of p ∷ [])) h
      ]

  new_placed : (acked : List Name) (vol : Volatile) (p : Placing) → has acked n ≡ false → transmission_of p ≡ data_on l n →
      list_any (held_test l n) (if is_acked_item acked (transmission_of p).item then vol.window else vol.window ++ entry_of p ∷ []) ≡ true
  new_placed acked vol p miss is =
      ap (λ (b : Bool). list_any (held_test l n) (if b then vol.window else vol.window ++ entry_of p ∷ [])) (ap (λ (t : Transmission). is_acked_item acked t.item) is ∙ miss)
      ∙ list_any-append (held_test l n) vol.window (entry_of p ∷ [])
      ∙ is_other (list_any (held_test l n) vol.window) (list_any (held_test l n) (entry_of p ∷ []))
      (is_one (held_test l n (entry_of p)) false (ap (λ (t : Transmission). lane_eq t.lane l && is_data_of n t.item) is ∙ both_of (lane_eq l l) (name_eq n n) (lane_same l) (name_eq_same n)))

  order_still : (acked : List Name) (vol : Volatile) (p : Placing) → has acked n ≡ false → is_under_way vol l n ≡ true →
      is_under_way (record {
        window = if is_acked_item acked (transmission_of p).item then vol.window else vol.window ++ entry_of p ∷ [];
        pending_acks = filter (λ a. not (is_pending_of (transmission_of p) a)) vol.pending_acks;
        awaiting = filter (λ x. not (transmission_eq (transmission_of p) x)) vol.awaiting;
      }) l n ≡ true
  order_still acked vol p miss h = by (is_held vol l n) refl
    where
      window : List Entry
      window = if is_acked_item acked (transmission_of p).item then vol.window else vol.window ++ entry_of p ∷ []

      awaiting : List Transmission
      awaiting = filter (λ x. not (transmission_eq (transmission_of p) x)) vol.awaiting

      stays : transmission_eq (transmission_of p) (data_on l n) ≡ false → (x : Transmission) → transmission_eq (data_on l n) x ≡ true → not (transmission_eq (transmission_of p) x) ≡ true
      stays other x at = ap (λ (t : Transmission). not (transmission_eq (transmission_of p) t)) (is_same_order x at) ∙ ap not other

      awaited : list_any (transmission_eq (data_on l n)) vol.awaiting ≡ true → (b : Bool) → transmission_eq (transmission_of p) (data_on l n) ≡ b →
          (list_any (held_test l n) window || list_any (transmission_eq (data_on l n)) awaiting) ≡ true
      awaited at true e = is_one (list_any (held_test l n) window) (list_any (transmission_eq (data_on l n)) awaiting) (new_placed acked vol p miss (transmission_from (transmission_of p) (data_on l n) e))
      awaited at false e =
          is_other (list_any (held_test l n) window) (list_any (transmission_eq (data_on l n)) awaiting)
          (kept_any (transmission_eq (data_on l n)) (λ x. not (transmission_eq (transmission_of p) x)) (stays e) vol.awaiting ∙ at)

      by : (b : Bool) → is_held vol l n ≡ b → (list_any (held_test l n) window || list_any (transmission_eq (data_on l n)) awaiting) ≡ true
      by true e = is_one (list_any (held_test l n) window) (list_any (transmission_eq (data_on l n)) awaiting) (held_placed acked vol p e)
      by false e = awaited (sym (ap (λ (b : Bool). b || is_awaited vol (data_on l n)) e) ∙ h) (transmission_eq (transmission_of p) (data_on l n)) refl

  placing_still : (acked : List Name) (vol : Volatile) (p : Placing) → has acked n ≡ false → is_under_way vol l n ≡ true → is_under_way (complete_one acked vol p) l n ≡ true
  unfolding complete_one
  placing_still acked vol p miss h =
      elim p.fresh as (λ b. is_under_way (if b then
      (if list_any (transmission_eq (transmission_of p)) vol.awaiting && not (list_any (stands_at p) vol.window)
      then record {
        window = if is_acked_item acked (transmission_of p).item then vol.window else vol.window ++ entry_of p ∷ [];
        pending_acks = filter (λ a. not (is_pending_of (transmission_of p) a)) vol.pending_acks;
        awaiting = filter (λ x. not (transmission_eq (transmission_of p) x)) vol.awaiting;
      } else vol)
      else record vol { window = map (record_retransmission p) vol.window }) l n ≡ true) [
        | true ↦ elim (list_any (transmission_eq (transmission_of p)) vol.awaiting && not (list_any (stands_at p) vol.window)) as (λ b. is_under_way (if b then record {
          window = if is_acked_item acked (transmission_of p).item then vol.window else vol.window ++ entry_of p ∷ [];
          pending_acks = filter (λ a. not (is_pending_of (transmission_of p) a)) vol.pending_acks;
          awaiting = filter (λ x. not (transmission_eq (transmission_of p) x)) vol.awaiting;
        } else vol) l n ≡ true) [ true ↦ order_still acked vol p miss h | false ↦ h ]
        | false ↦ held_still vol (map (record_retransmission p) vol.window) (held_map (record_retransmission p) (placed_same p) vol.window) h
      ]

  noted_still : (acked : List Name) (vol : Volatile) (ps : List Placing) → has acked n ≡ false → is_under_way vol l n ≡ true → is_under_way (complete acked vol ps) l n ≡ true
  unfolding complete
  noted_still acked vol [] miss h = h
  noted_still acked vol (p ∷ ps) miss h = noted_still acked (complete_one acked vol p) ps miss (placing_still acked vol p miss h)

  pub changed_left : (acked : List Name) (placings : List Placing) (reply : Reply) (change : Change) (vol : Volatile) → has acked n ≡ false → is_under_way vol l n ≡ true →
      (is_let_go change l n || is_under_way (changed acked placings reply change vol) l n) ≡ true
  changed_left acked placings reply Same vol miss h = h
  changed_left acked placings reply (Received lane x m) vol miss h = received_still vol lane x m h
  changed_left acked placings reply (Acknowledged lane m) vol miss h = let_go lane m vol h (is_let_go (Acknowledged lane m) l n) refl
  changed_left acked placings reply Planned vol miss h = planned_still vol reply h
  changed_left acked placings reply Noted vol miss h = noted_still acked vol placings miss h

-- the places of a manager's lanes

unacked : (me : ℕ) (acked : List Name) (to : ℕ) (f : Fact) → is_owed_to me acked to f ≡ true → has acked (name_of f) ≡ false
unacked me acked to f owed = by (has acked (name_of f)) (right_of (is_some_of (next_after (route_of f) me) to) (not (has acked (name_of f))) owed)
  where
    by : (b : Bool) → not b ≡ true → b ≡ false
    by true h = cc
    by false h = refl

pub anew : (site : Site) (me : ℕ) (acked : List Name) (facts : List Fact) (vol : Volatile) (fronts : List ℕ) → ((l : Lane) → front_of fronts l ≡ 0) → AreFronts site me acked facts vol fronts
anew site me acked facts vol fronts first l =
    subst (AreUnderWay me acked facts vol l (receiver site l)) (sym (first l)) (record { within = omega arith; each = λ p f lt there owed. absurd (omega arith) })

-- the state may be stored in other memory
pub ahead_same : (site : Site) (fronts : List ℕ) (a b : StreamEnds) (x y : Volatile) → kept_view b ≡ kept_view a → y ≡ x →
    AreFronts site a.ends.known.me a.ends.known.acked a.ends.known.facts x fronts → AreFronts site b.ends.known.me b.ends.known.acked b.ends.known.facts y fronts
ahead_same site fronts a b x y kept vol h =
    subst (λ (z : Volatile). AreFronts site b.ends.known.me b.ends.known.acked b.ends.known.facts z fronts) (sym vol) (subst (λ (v : View). AreFronts site v.me v.acked v.facts x fronts) (sym kept) h)

-- the state in the parts of a manager
pub ahead_of : (h : Holdings) (fronts : List ℕ) (site : Declared) (k : Knowledge) (w : Window) → site ≡ h.site → k ≡ h.kept.ends.known → w ≡ h.window →
    AreFronts (site_of h.site) h.kept.ends.known.me h.kept.ends.known.acked h.kept.ends.known.facts h.window.volatile fronts → AreFronts (site_of site) k.me k.acked k.facts w.volatile fronts
ahead_of h fronts site k w a b c ahead =
    subst (λ (x : Declared). AreFronts (site_of x) k.me k.acked k.facts w.volatile fronts) (sym a)
    (subst (λ (x : Knowledge). AreFronts (site_of h.site) x.me x.acked x.facts w.volatile fronts) (sym b)
    (subst (λ (x : Window). AreFronts (site_of h.site) h.kept.ends.known.me h.kept.ends.known.acked h.kept.ends.known.facts x.volatile fronts) (sym c) ahead))

-- after a batch
pub left_behind : (h : Holdings) (rs : List Record) (kept : StreamEnds) (vol : Volatile) (change : Change) (fronts : List ℕ) → Sees (view_batch (bare (view h)) rs) kept →
    AreFrontsBut change (site_of h.site) h.kept.ends.known.me h.kept.ends.known.acked h.kept.ends.known.facts vol fronts →
    AreFrontsBut change (site_of h.site) kept.ends.known.me kept.ends.known.acked kept.ends.known.facts vol fronts
left_behind h rs kept vol change fronts sees left l =
    let to = receiver (site_of h.site) l in
    let place = front_of fronts l in
    subst (λ (me : ℕ). AreLeft me kept.ends.known.acked kept.ends.known.facts vol change l to place) (sym (seen_me h rs kept sees))
    (subst (λ (ns : List Name). AreLeft h.kept.ends.known.me ns kept.ends.known.facts vol change l to place) sees.ends.acked
    (subst (λ (fs : List Fact). AreLeft h.kept.ends.known.me (view_batch (bare (view h)) rs).acked fs vol change l to place) sees.ends.facts
    (left_later (bare (view h)) rs vol change l to place (left l))))

pub ahead_behind : (h : Holdings) (rs : List Record) (kept : StreamEnds) (fronts : List ℕ) → Sees (view_batch (bare (view h)) rs) kept →
    AreFronts (site_of h.site) h.kept.ends.known.me h.kept.ends.known.acked h.kept.ends.known.facts h.window.volatile fronts →
    AreFronts (site_of h.site) kept.ends.known.me kept.ends.known.acked kept.ends.known.facts h.window.volatile fronts
ahead_behind h rs kept fronts sees ahead l =
    none_let kept.ends.known.me kept.ends.known.acked kept.ends.known.facts h.window.volatile l (receiver (site_of h.site) l) (front_of fronts l)
    (left_behind h rs kept h.window.volatile Same fronts sees
    (λ m. all_left h.kept.ends.known.me h.kept.ends.known.acked h.kept.ends.known.facts h.window.volatile m (receiver (site_of h.site) m) (front_of fronts m) (ahead m)) l)

-- after a step
pub left_after : (h : Holdings) (placings : List Placing) (s : Step) (kept : StreamEnds) (vol : Volatile) (fronts : List ℕ) → Sees (view_batch (bare (view h)) s.batch) kept →
    vol ≡ changed h.kept.ends.known.acked placings s.reply s.change h.window.volatile →
    AreFronts (site_of h.site) h.kept.ends.known.me h.kept.ends.known.acked h.kept.ends.known.facts h.window.volatile fronts →
    AreFrontsBut s.change (site_of h.site) kept.ends.known.me kept.ends.known.acked kept.ends.known.facts vol fronts
left_after h placings s kept vol fronts sees life ahead =
    subst (λ (x : Volatile). AreFrontsBut s.change (site_of h.site) kept.ends.known.me kept.ends.known.acked kept.ends.known.facts x fronts) (sym life)
    (left_behind h s.batch kept (changed h.kept.ends.known.acked placings s.reply s.change h.window.volatile) s.change fronts sees (λ l. record {
      within = (ahead l).within;
      each = λ p f lt there owed.
          changed_left l (name_of f) h.kept.ends.known.acked placings s.reply s.change h.window.volatile
          (unacked h.kept.ends.known.me h.kept.ends.known.acked (receiver (site_of h.site) l) f owed) ((ahead l).each p f lt there owed);
    }))
