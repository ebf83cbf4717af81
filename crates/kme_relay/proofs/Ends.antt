-- What a plan adds, end by end.
use Rattle.std.proofs.Common.{◌≡◌, ℕ, ◌≤◌, Bool, true, false, ◌&&◌, List, [], ◌∷◌, ◌++◌, refl, sym, ◌∙◌, ap, subst, arith, append_assoc}
use Rattle.std.specs.Prelude.{nat_lt, ◌==◌, map, filter, if◌then◌else◌}
use Rattle.std.specs.List.{flat_map}
use Rattle.std.proofs.lemmas.Grind.{flat_map-append}
use Rattle.qkd_base.specs.Lane.{lane_eq}
use Rattle.qkd_base.specs.declared.lane.Lane.{Lane}
use Rattle.net_model.specs.declared.order.Order.{Order}
use Rattle.net_model.specs.declared.record.Record.{Record}
use Rattle.net_model.specs.declared.record.Record.TheVariants.{Lease}
use Rattle.net_model.specs.declared.repeat.Repeat.{Repeat}
use Rattle.net_model.specs.declared.short_of.ShortOf.{ShortOf}
use Rattle.net_model.specs.declared.reply.Reply.TheVariants.{Planned as PlannedReply}
use Rattle.net_model.specs.Site.{Site, receiver}
use Rattle.net_model.specs.View.{View, Port, received_of}
use Rattle.net_model.specs.World.{Entry}
use Rattle.net_model.specs.Window.{age, sent_again, repeats_on, repeat_of}
use Rattle.net_model.specs.Plan.{plan, wanted_on, orders_on, spelled_orders, short_on, leases_on, raise}
use Rattle.kme_base.specs.Steps.{IsEffect, repeated_by, transmission_of_order}
use Rattle.kme_base.specs.declared.change.Change.TheVariants.{Planned}
use Rattle.relay_core.specs.Knowledge.{Knowledge}
use Rattle.kme_base.specs.Places.{LinkEnds, Place, ports_in}
use Rattle.resend_window.specs.Kept.{Kept}
use Rattle.resend_window.proofs.Lists.{any_map, map_same, map_append}
use Rattle.kme_relay.specs.declared.draft.Draft.{Draft}
use Rattle.kme_relay.specs.declared.parts.Parts.{Parts}
use Rattle.kme_relay.specs.Keeps.{Knows, Keeps}
use Rattle.kme_relay.specs.Wanted.{acks_wanted, facts_from}
use Rattle.kme_relay.specs.Drafts.{with_all}
use Rattle.kme_relay.specs.Adds.{AddsOrders, AddsEnd, AddsEnds}
use Rattle.kme_relay.proofs.Fits.{filled, fits_in, with_both, wanted, orders_send}

-- the orders of one end

all_at : (site : Site) (v : View) (p : Port) (k : Knowledge) (w : Kept) (old d0 d1 d2 : Draft) (l : Lane) (r to used : ℕ) → Knows v k w → l ≡ p.lane → r ≡ received_of p → to ≡ receiver site l → used ≡ p.planned →
    d0 ≡ record old { used = used; is_full = false } → d1 ≡ with_all k.facts l r d0 (acks_wanted w.volatile l) → d2 ≡ with_all k.facts l r d1 (facts_from k w.volatile l to 0) →
    d2 ≡ with_all v.facts p.lane (received_of p) (record old { used = p.planned; is_full = false }) (wanted_on site v p.lane)
all_at site v p k w old d0 d1 d2 l r to used knows lane received there begun start acks facts =
    facts
    ∙ ap (λ (n : ℕ). with_all k.facts l r d1 (facts_from k w.volatile l n 0)) there
    ∙ ap (λ (d : Draft). with_all k.facts l r d (facts_from k w.volatile l (receiver site l) 0)) acks
    ∙ sym (with_both k.facts l r d0 (acks_wanted w.volatile l) (facts_from k w.volatile l (receiver site l) 0))
    ∙ ap (with_all k.facts l r d0) (sym (wanted site v l k w knows))
    ∙ (let known = sym knows.facts in let base : d0 ≡ record old { used = p.planned; is_full = false } = start ∙ ap (λ (n : ℕ). record old { used = n; is_full = false }) begun in
    λ i. with_all (known i) (lane i) (received i) (base i) (wanted_on site v (lane i)))

pub ordered : (site : Site) (v : View) (p : Port) (k : Knowledge) (w : Kept) (old d0 d1 d2 : Draft) (l : Lane) (r to used : ℕ) → Knows v k w → l ≡ p.lane → r ≡ received_of p → to ≡ receiver site l → used ≡ p.planned →
    d0 ≡ record old { used = used; is_full = false } → d1 ≡ with_all k.facts l r d0 (acks_wanted w.volatile l) → d2 ≡ with_all k.facts l r d1 (facts_from k w.volatile l to 0) → AddsOrders site v p old d2
unfolding orders_on
ordered site v p k w old d0 d1 d2 l r to used knows lane received there begun start acks facts =
    let base : Draft = record old { used = p.planned; is_full = false } in
    let all = all_at site v p k w old d0 d1 d2 l r to used knows lane received there begun start acks facts in
    let is = filled v.facts p.lane (received_of p) base (wanted_on site v p.lane) refl in
    record {
      orders = ap (λ (d : Draft). d.orders) all ∙ is.orders;
      shorts = ap (λ (d : Draft). d.shorts) all ∙ is.shorts;
      used = ap (λ (d : Draft). d.used) all ∙ is.used;
    }

pub bounded : (p : Port) (k : Knowledge) (w : Kept) (old d0 d1 d2 : Draft) (l : Lane) (r to used : ℕ) → r ≡ received_of p → used ≡ p.planned → used ≤ received_of p →
    d0 ≡ record old { used = used; is_full = false } → d1 ≡ with_all k.facts l r d0 (acks_wanted w.volatile l) → d2 ≡ with_all k.facts l r d1 (facts_from k w.volatile l to 0) → d2.used ≤ received_of p
bounded p k w old d0 d1 d2 l r to used received begun below start acks facts =
    let u0 : d0.used ≤ r = let e = ap (λ (d : Draft). d.used) start in omega arith in
    let u1 : d1.used ≤ r = subst (λ (d : Draft). d.used ≤ r) (sym acks) (fits_in k.facts l r d0 (acks_wanted w.volatile l) u0) in
    let u2 : d2.used ≤ r = subst (λ (d : Draft). d.used ≤ r) (sym facts) (fits_in k.facts l r d1 (facts_from k w.volatile l to 0) u1) in
    omega arith

-- the whole plan of one end

pub end_added : (site : Site) (v : View) (p : Port) (w : Kept) (old new : Parts) (l : Lane) → v.volatile ≡ w.volatile → l ≡ p.lane → AddsOrders site v p old.draft new.draft →
    new.repeats ≡ old.repeats ++ map repeat_of (repeats_on (map age w.volatile.window) l) →
    new.batch ≡ old.batch ++ (if nat_lt p.lease new.draft.used then Lease p.lane (raise new.draft.used (received_of p)) ∷ [] else []) → AddsEnd site v p old new
end_added site v p w old new l vol lane orders repeats batch = record {
  batch = batch ∙ ap (λ (n : ℕ). old.batch ++ (if nat_lt p.lease n then Lease p.lane (raise n (received_of p)) ∷ [] else [])) orders.used;
  repeats = repeats ∙ (let back = sym vol in λ i. old.repeats ++ map repeat_of (repeats_on (map age (back i).window) (lane i)));
  orders = orders.orders;
  shorts = orders.shorts;
}

-- the plans of several ends

append_none : {A : Type 0} (xs : List A) → xs ++ [] ≡ xs
append_none [] = refl
append_none (x ∷ xs) = ap (λ ys. x ∷ ys) (append_none xs)

one_more : {A : Type 0} (f : Port → List A) (ps : List Port) (p : Port) (old mid new : List A) → mid ≡ old ++ flat_map f ps → new ≡ mid ++ f p → new ≡ old ++ flat_map f (ps ++ p ∷ [])
one_more {A} f ps p old mid new m n =
    n ∙ ap (λ (xs : List A). xs ++ f p) m ∙ append_assoc old (flat_map f ps) (f p)
    ∙ ap (λ (xs : List A). old ++ xs) (sym (flat_map-append f ps (p ∷ []) ∙ ap (λ (xs : List A). flat_map f ps ++ xs) (append_none (f p))))

pub ends_more : (site : Site) (v : View) (ps : List Port) (p : Port) (old mid new : Parts) → AddsEnds site v ps old mid → AddsEnd site v p mid new → AddsEnds site v (ps ++ p ∷ []) old new
ends_more site v ps p old mid new all one = record {
  batch = one_more (leases_on site v) ps p old.batch mid.batch new.batch all.batch one.batch;
  repeats = one_more (λ (p : Port). map repeat_of (repeats_on (map age v.volatile.window) p.lane)) ps p old.repeats mid.repeats new.repeats all.repeats one.repeats;
  orders = one_more (λ (p : Port). spelled_orders v.facts p.planned (orders_on site v p)) ps p old.draft.orders mid.draft.orders new.draft.orders all.orders one.orders;
  shorts = one_more (λ (p : Port). short_on v.facts p.lane (received_of p) p.planned (wanted_on site v p.lane)) ps p old.draft.shorts mid.draft.shorts new.draft.shorts all.shorts one.shorts;
}

pub up_more : (up : ℕ → Bool) (ps : List Port) (p : Port) (b : Bool) → up p.lane.link ≡ b → filter (λ (p : Port). up p.lane.link) (ps ++ p ∷ []) ≡ filter (λ (p : Port). up p.lane.link) ps ++ (if b then p ∷ [] else [])
up_more up [] p b e = ap (λ (c : Bool). if c then p ∷ [] else []) e
up_more up (q ∷ ps) p b e = elim (up q.lane.link) as (λ c. (if c then q ∷ filter (λ (p : Port). up p.lane.link) (ps ++ p ∷ []) else filter (λ (p : Port). up p.lane.link) (ps ++ p ∷ []))
    ≡ (if c then q ∷ filter (λ (p : Port). up p.lane.link) ps else filter (λ (p : Port). up p.lane.link) ps) ++ (if b then p ∷ [] else [])) [
      | true ↦ ap (λ xs. q ∷ xs) (up_more up ps p b e)
      | false ↦ up_more up ps p b e
    ]

pub ports_more : (xs : List Place) (x : Place) (more : List Place) → more ≡ xs ++ x ∷ [] → ports_in more ≡ ports_in xs ++ x.port ∷ []
ports_more xs x more e = ap ports_in e ∙ map_append (λ (x : Place). x.port) xs x

pub ends_kept : (site : Site) (v : View) (up : ℕ → Bool) (ps qs : List Port) (p : Port) (old new : Parts) → qs ≡ ps ++ p ∷ [] → up p.lane.link ≡ false → AddsEnds site v (filter (λ (p : Port). up p.lane.link) ps) old new →
    AddsEnds site v (filter (λ (p : Port). up p.lane.link) qs) old new
ends_kept site v up ps qs p old new e down all =
    subst (λ (xs : List Port). AddsEnds site v xs old new) (sym (ap (filter (λ (p : Port). up p.lane.link)) e ∙ up_more up ps p false down ∙ append_none (filter (λ (p : Port). up p.lane.link) ps))) all

pub ends_next : (site : Site) (v : View) (up : ℕ → Bool) (ps qs : List Port) (p : Port) (old mid new : Parts) → qs ≡ ps ++ p ∷ [] → up p.lane.link ≡ true → AddsEnds site v (filter (λ (p : Port). up p.lane.link) ps) old mid →
    AddsEnd site v p mid new → AddsEnds site v (filter (λ (p : Port). up p.lane.link) qs) old new
ends_next site v up ps qs p old mid new e there all one =
    subst (λ (xs : List Port). AddsEnds site v xs old new) (sym (ap (filter (λ (p : Port). up p.lane.link)) e ∙ up_more up ps p true there))
    (ends_more site v (filter (λ (p : Port). up p.lane.link) ps) p old mid new all one)

-- the plan

map_flat : {A B : Type 0} (g : A → B) (f : Port → List A) (ps : List Port) → flat_map (λ (p : Port). map g (f p)) ps ≡ map g (flat_map f ps)
map_flat g f [] = refl
map_flat {A} {B} g f (p ∷ ps) = ap (λ (xs : List B). map g (f p) ++ xs) (map_flat g f ps) ∙ sym (map_both g (f p) (flat_map f ps))
  where
    map_both : {A B : Type 0} (g : A → B) (xs ys : List A) → map g (xs ++ ys) ≡ map g xs ++ map g ys
    map_both g [] ys = refl
    map_both g (x ∷ xs) ys = ap (λ zs. g x ∷ zs) (map_both g xs ys)

flat_same : {A : Type 0} (f g : Port → List A) → ((p : Port) → f p ≡ g p) → (ps : List Port) → flat_map f ps ≡ flat_map g ps
flat_same f g e [] = refl
flat_same {A} f g e (p ∷ ps) = ap (λ (xs : List A). xs ++ flat_map f ps) (e p) ∙ ap (λ (xs : List A). g p ++ xs) (flat_same f g e ps)

send_all : (site : Site) (v : View) (ps : List Port) → map transmission_of_order (flat_map (λ (p : Port). spelled_orders v.facts p.planned (orders_on site v p)) ps) ≡ flat_map (orders_on site v) ps
unfolding orders_on
send_all site v ps =
    sym (map_flat transmission_of_order (λ (p : Port). spelled_orders v.facts p.planned (orders_on site v p)) ps)
    ∙ flat_same (λ (p : Port). map transmission_of_order (spelled_orders v.facts p.planned (orders_on site v p))) (orders_on site v) (λ p. orders_send site v p.lane (received_of p) p.planned) ps

again_by : (again : List Entry) (es : List Entry) → map (repeated_by (map repeat_of again)) es ≡ map (sent_again again) es
again_by again es = map_same (repeated_by (map repeat_of again)) (sent_again again) one es
  where
    one : (e : Entry) → repeated_by (map repeat_of again) e ≡ sent_again again e
    one e = ap (λ (b : Bool). if b then record e { age = 0; due = false } else e) (any_map repeat_of (λ (x : Repeat). lane_eq x.lane e.transmission.lane && (x.offset == e.offset)) again)

pub is_effect : (site : Site) (v : View) (up : ℕ → Bool) (k : Knowledge) (ends : LinkEnds) (w : Kept) (ps : List Port) (old new : Parts) → Keeps v k ends w → ps ≡ ends.ports →
    (old.batch ≡ []) × (old.repeats ≡ []) × (old.draft.orders ≡ []) × (old.draft.shorts ≡ []) → AddsEnds site v (filter (λ (p : Port). up p.lane.link) ps) old new →
    IsEffect v [] (plan site up v) (record { batch = new.batch; reply = PlannedReply new.draft.orders new.repeats new.draft.shorts; change = Planned })
unfolding plan
is_effect site v up k ends w ps old new keeps there none all =
    let is : ps ≡ v.ports = there ∙ sym keeps.ports in
    let at = subst (λ (qs : List Port). AddsEnds site v (filter (λ (p : Port). up p.lane.link) qs) old new) is all in
    let ports = filter (λ (p : Port). up p.lane.link) v.ports in
    let window = map age v.volatile.window in
    let batch = at.batch ∙ ap (λ (xs : List Record). xs ++ flat_map (leases_on site v) ports) none.0 in
    let repeats = at.repeats ∙ ap (λ (xs : List Repeat). xs ++ flat_map (λ (p : Port). map repeat_of (repeats_on window p.lane)) ports) none.1
    ∙ map_flat repeat_of (λ (p : Port). repeats_on window p.lane) ports in
    let orders = at.orders ∙ ap (λ (xs : List Order). xs ++ flat_map (λ (p : Port). spelled_orders v.facts p.planned (orders_on site v p)) ports) none.2 in
    let shorts = at.shorts ∙ ap (λ (xs : List ShortOf). xs ++ flat_map (λ (p : Port). short_on v.facts p.lane (received_of p) p.planned (wanted_on site v p.lane)) ports) none.3 in
    let sent = ap (map transmission_of_order) orders ∙ send_all site v ports in
    record {
      batch = batch;
      reply = (λ i. PlannedReply (orders i) (repeats i) (shorts i));
      orders = sent;
      volatile = (let windows = ap (λ (rs : List Repeat). map (repeated_by rs) window) repeats ∙ again_by (flat_map (λ (p : Port). repeats_on window p.lane) ports) window in
          λ i. record { window = windows i; pending_acks = v.volatile.pending_acks; awaiting = v.volatile.awaiting ++ sent i });
    }
