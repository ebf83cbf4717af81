-- The manager after a step.
use Rattle.std.proofs.Common.{◌≡◌, ℕ, true, false, List, [], ◌∷◌, ◌++◌, map, add-zero, refl, sym, ap, subst, ◌∙◌}
use Rattle.std.specs.Prelude.{◌&&◌, length, Result, Ok, Err, OnOk, if◌then◌else◌}
use Rattle.std.specs.List.{list_any}
use Rattle.qkd_base.specs.Name.{Name}
use Rattle.net_model.specs.declared.fact.Fact.{Fact}
use Rattle.net_model.specs.declared.placing.Placing.{Placing}
use Rattle.net_model.specs.declared.record.Record.{Record}
use Rattle.net_model.specs.declared.record.Record.TheVariants.{Block, Lease, Learned, Acked, Handed, Closed, Bare}
use Rattle.net_model.specs.World.{Transmission, Volatile, needs}
use Rattle.net_model.specs.View.{View, Port}
use Rattle.net_model.specs.Needed.{masked}
use Rattle.net_model.specs.Decision.{Effect}
use Rattle.net_model.specs.Fold.{view_record, view_records, view_batch, view_after, owes, is_end_of, is_handed_by, is_stream_of, marked, on_lane}
use Rattle.kme_facts.specs.Needs.{kept_view}
use Rattle.kme_base.specs.declared.step.Step.{Step}
use Rattle.kme_base.specs.Steps.{IsEffect, changed, orders_of}
use Rattle.kme_base.specs.Places.{with_planned}
use Rattle.stream_core.specs.Kept.{StreamEnds, Sees}
use Rattle.declared_site.specs.SiteOf.{IsDeclared, site_of}
use Rattle.declared_site.specs.declared.site.Site.{Site as Declared}
use Rattle.net_model.specs.Site.{outgoing_lanes}
use Rattle.kme_facts.specs.Taken.{HasRoom as HasFactsRoom}
use Rattle.kme_node.specs.Holdings.{Holdings, IsHeld, view, HasRoom, HasBatchRoom, HasWindowRoom}
use Rattle.kme_node.specs.Ports.{ports_after}
use Rattle.relay_core.specs.Knowledge.{Knowledge}
use Rattle.end_store.specs.Waiting.{Ends}
use Rattle.kme_node.proofs.Ends.{lanes_of, same_lanes}
use Rattle.kme_node.proofs.Split.{bare, with_rest, batch_split}

-- reserving memory doesn't change the view

pub same_view : (old new : Holdings) → kept_view new.kept ≡ kept_view old.kept → new.ends.ports ≡ old.ends.ports → new.window.volatile ≡ old.window.volatile → view new ≡ view old
same_view old new kept ports volatile =
    ap (λ (v : View). with_rest new.ends.ports new.window.volatile v) kept
    ∙ ap (λ (ps : List Port). with_rest ps new.window.volatile (kept_view old.kept)) ports
    ∙ ap (λ (w : Volatile). with_rest old.ends.ports w (kept_view old.kept)) volatile

-- a manager with the same site, node and lanes keeps its invariant
pub held_still : (old new : Holdings) → new.site ≡ old.site → new.kept.ends.known.me ≡ old.kept.ends.known.me → lanes_of new.ends.ports ≡ lanes_of old.ends.ports → IsHeld old → IsHeld new
held_still old new site me lanes held =
    record {
      declared = subst IsDeclared (sym site) held.declared;
      lanes = lanes ∙ held.lanes ∙ ap (λ (s : Declared). outgoing_lanes (site_of s) old.kept.ends.known.me) (sym site) ∙ ap (outgoing_lanes (site_of new.site)) (sym me);
    }

-- a step doesn't change the node's number

record_me : (r : Record) (v : View) → (view_record r v).me ≡ v.me
unfolding view_record
record_me (Block link number bytes) v = refl
record_me (Lease lane end) v = refl
record_me (Learned f) v = refl
record_me (Acked n) v = elim (owes v n) as (λ t. (if t then record v { acked = v.acked ++ n ∷ [] } else v).me ≡ v.me) [ true ↦ refl | false ↦ refl ]
record_me (Handed n sae) v =
    elim (list_any (λ f. is_end_of v f && is_handed_by n sae f) v.facts) as (λ t. (if t then record v { handed = marked v.handed n sae } else v).me ≡ v.me) [ true ↦ refl | false ↦ refl ]
record_me (Closed n sae) v =
    elim (list_any (λ f. is_end_of v f && is_stream_of n f) v.facts) as (λ t. (if t then record v { closed = marked v.closed n sae } else v).me ≡ v.me) [ true ↦ refl | false ↦ refl ]
record_me (Bare f) v = refl

records_me : (rs : List Record) (v : View) → (view_records rs v).me ≡ v.me
unfolding view_records
records_me [] v = refl
records_me (r ∷ rs) v = records_me rs (view_record r v) ∙ record_me r v

masked_me : (v : View) → (masked v).me ≡ v.me
unfolding masked
masked_me v = refl

pub batch_me : (v : View) (rs : List Record) → (view_batch v rs).me ≡ v.me
batch_me v rs = masked_me (view_records rs v) ∙ records_me rs v

-- the manager's view is that of its parts

pub seen_view : (b : View) (s : StreamEnds) → Sees b s → (ports : List Port) (vol : Volatile) → with_rest ports vol (kept_view s) ≡ with_rest ports vol b
seen_view b s sees ports vol =
    ap (λ (me : ℕ). with_rest ports vol (record (kept_view s) { me = me })) (sym sees.ends.me)
    ∙ ap (λ (facts : List Fact). with_rest ports vol (record (kept_view s) { me = b.me; facts = facts })) (sym sees.ends.facts)
    ∙ ap (λ (acked : List Name). with_rest ports vol (record (kept_view s) { me = b.me; facts = b.facts; acked = acked })) (sym sees.ends.acked)
    ∙ ap (λ (handed : List (Name × ℕ)). with_rest ports vol (record (kept_view s) { me = b.me; facts = b.facts; acked = b.acked; handed = handed })) (sym sees.ends.handed)
    ∙ ap (λ (closed : List (Name × ℕ)). with_rest ports vol (record (kept_view s) { me = b.me; facts = b.facts; acked = b.acked; handed = b.handed; closed = closed })) (sym sees.closed)

pub sees_bare : (h : Holdings) → Sees (bare (view h)) h.kept
sees_bare h = record { ends = record { me = refl; facts = refl; acked = refl; handed = refl }; closed = refl }

-- the bytes that orders plan

abbrev pub with_orders : List Fact → List Transmission → List Port → List Port
with_orders facts orders ports = map (λ (p : Port). with_planned (needs facts (on_lane p.lane orders)) p) ports

pub without_orders : (facts : List Fact) (ports : List Port) → with_orders facts [] ports ≡ ports
without_orders facts [] = refl
without_orders facts (p ∷ ps) =
    ap (λ (n : ℕ). record p { planned = n } ∷ with_orders facts [] ps) (add-zero p.planned) ∙ ap (λ (qs : List Port). p ∷ qs) (without_orders facts ps)

-- after a step, the view of the parts is that of the model
pub after_step : (h : Holdings) (placings : List Placing) (e : Effect) (s : Step) → IsEffect (view h) placings e s → (kept : StreamEnds) → Sees (view_batch (bare (view h)) s.batch) kept
    → (ports : List Port) → ports ≡ with_orders h.kept.ends.known.facts (orders_of s.reply) (ports_after s.batch h.ends.ports)
    → (vol : Volatile) → vol ≡ changed h.kept.ends.known.acked placings s.reply s.change h.window.volatile
    → with_rest ports vol (kept_view kept) ≡ view_after (view h) e
unfolding view_after
after_step h placings e s is kept sees ports ports_are vol vol_is =
    seen_view (view_batch (bare (view h)) s.batch) kept sees ports vol
    ∙ ap (λ (ps : List Port). with_rest ps vol (view_batch (bare (view h)) s.batch)) ports_are
    ∙ ap (λ (w : Volatile). with_rest (with_orders (view h).facts (orders_of s.reply) (ports_after s.batch h.ends.ports)) w (view_batch (bare (view h)) s.batch)) (vol_is ∙ is.volatile)
    ∙ ap (λ (ts : List Transmission). with_rest (with_orders (view h).facts ts (ports_after s.batch h.ends.ports)) e.volatile (view_batch (bare (view h)) s.batch)) is.orders
    ∙ ap (λ (b : View). with_rest (with_orders (view h).facts e.orders b.ports) e.volatile b) (sym (batch_split s.batch (view h)))
    ∙ ap (λ (rs : List Record). with_rest (with_orders (view h).facts e.orders (view_batch (view h) rs).ports) e.volatile (view_batch (view h) rs)) is.batch

-- after a batch alone, the view of the parts is that of the model
pub after_batch : (h : Holdings) (rs : List Record) (kept : StreamEnds) → Sees (view_batch (bare (view h)) rs) kept → (ports : List Port) → ports ≡ ports_after rs h.ends.ports
    → with_rest ports h.window.volatile (kept_view kept) ≡ view_batch (view h) rs
after_batch h rs kept sees ports ports_are =
    seen_view (view_batch (bare (view h)) rs) kept sees ports h.window.volatile
    ∙ ap (λ (ps : List Port). with_rest ps h.window.volatile (view_batch (bare (view h)) rs)) ports_are
    ∙ sym (batch_split rs (view h))

-- memory was reserved in each part
pub all_rooms : {T E : Type 0} (r : Result T E) (h : Holdings) (s : Step) → OnOk r (HasFactsRoom h.kept (length s.batch)) → OnOk r (HasBatchRoom h.ends s.batch) → OnOk r (HasWindowRoom h.window s.change s.reply) → OnOk r (HasRoom h s)
all_rooms (Ok x) h s facts blocks window = record { facts = facts; blocks = blocks; window = window }
all_rooms (Err e) h s facts blocks window = tt

-- the parts of a manager that its functions look up

pub known_is : (h : Holdings) (s : StreamEnds) (e : Ends) (k : Knowledge) → s ≡ h.kept → e ≡ s.ends → k ≡ e.known → k ≡ h.kept.ends.known
known_is h s e k a b c = c ∙ ap (λ (x : Ends). x.known) b ∙ ap (λ (x : StreamEnds). x.ends.known) a

-- a batch doesn't change the node's number
pub seen_me : (h : Holdings) (rs : List Record) (kept : StreamEnds) → Sees (view_batch (bare (view h)) rs) kept → kept.ends.known.me ≡ h.kept.ends.known.me
seen_me h rs kept sees = sym sees.ends.me ∙ batch_me (bare (view h)) rs

-- planning doesn't change the lanes
pub lanes_planned : (facts : List Fact) (orders : List Transmission) (ports : List Port) → lanes_of (with_orders facts orders ports) ≡ lanes_of ports
lanes_planned facts orders ports = same_lanes (λ (p : Port). with_planned (needs facts (on_lane p.lane orders)) p) (λ p. refl) ports

-- two states that differ only in reserved memory have the same view
pub kept_sees : (h : Holdings) (s : StreamEnds) → kept_view s ≡ kept_view h.kept → Sees (bare (view h)) s
kept_sees h s same =
    record {
      ends = record { me = sym (ap (λ (v : View). v.me) same); facts = sym (ap (λ (v : View). v.facts) same); acked = sym (ap (λ (v : View). v.acked) same); handed = sym (ap (λ (v : View). v.handed) same) };
      closed = sym (ap (λ (v : View). v.closed) same);
    }
