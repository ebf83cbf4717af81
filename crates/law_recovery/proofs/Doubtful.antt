-- The batch in doubt fits the view after a manager stopped: whether a batch fits depends neither on ports nor on the
-- memory.
use Rattle.std.proofs.Common.{◌≡◌, ℕ, Bool, true, false, ◌&&◌, List, [], ◌∷◌, ◌++◌, None, refl, sym, ap, subst, map}
use Rattle.std.specs.Prelude.{if◌then◌else◌}
use Rattle.std.specs.List.{list_any}
use Rattle.net_model.specs.declared.record.Record.{Record}
use Rattle.net_model.specs.declared.record.Record.TheVariants.{Block, Lease, Learned, Acked, Handed, Closed, Bare}
use Rattle.net_model.specs.World.{Network, World, Volatile, InDoubt, no_volatile}
use Rattle.net_model.specs.View.{View, Port}
use Rattle.net_model.specs.Needed.{is_needed, masked, view_of}
use Rattle.net_model.specs.Decision.{Effect}
use Rattle.net_model.specs.Handle.{stopped}
use Rattle.net_model.specs.Fold.{with_block, with_lease, owes, is_end_of, is_handed_by, is_stream_of, marked, view_record}
use Rattle.law_base.proofs.Base.{number_set_same}
use Rattle.law_recovery.specs.Fitting.{Fits, AllFit}

-- The view with other ports and another memory.
abbrev pub with_rest : List Port → Volatile → View → View
with_rest ps x a = record a { ports = ps; volatile = x }

abbrev ports_after : Record → List Port → List Port
ports_after (Block link number bytes) ps = map (with_block link number bytes) ps
ports_after (Lease l end) ps = map (with_lease l end) ps
ports_after _ ps = ps

kept : (ps : List Port) (x : Volatile) (t : Bool) (a b : View) → (if t then with_rest ps x a else with_rest ps x b) ≡ with_rest ps x (if t then a else b)
kept ps x true a b = refl
kept ps x false a b = refl

record_with : (ps : List Port) (x : Volatile) (r : Record) (a : View) → view_record r (with_rest ps x a) ≡ with_rest (ports_after r ps) x (view_record r a)
unfolding view_record
record_with ps x (Block link number bytes) a = refl
record_with ps x (Lease l end) a = refl
record_with ps x (Learned f) a = refl
record_with ps x (Acked n) a = kept ps x (owes a n) (record a { acked = a.acked ++ n ∷ [] }) a
record_with ps x (Handed n sae) a = kept ps x (list_any (λ f. is_end_of a f && is_handed_by n sae f) a.facts) (record a { handed = marked a.handed n sae }) a
record_with ps x (Closed n sae) a = kept ps x (list_any (λ f. is_end_of a f && is_stream_of n f) a.facts) (record a { closed = marked a.closed n sae }) a
record_with ps x (Bare f) a = refl

fits_with : (net : Network) (ps : List Port) (x : Volatile) (r : Record) (a : View) → Fits net a r → Fits net (with_rest ps x a) r
fits_with net ps x (Block link number bytes) a h = h
fits_with net ps x (Lease l end) a h = tt
fits_with net ps x (Learned f) a h = tt
fits_with net ps x (Acked n) a h = h
fits_with net ps x (Handed n sae) a h = tt
fits_with net ps x (Closed n sae) a h = h
fits_with net ps x (Bare f) a h = tt

-- Whether a batch fits depends neither on ports nor on the memory.
pub all_fit_with : (net : Network) (ps : List Port) (x : Volatile) (rs : List Record) (a : View) → AllFit net a rs → AllFit net (with_rest ps x a) rs
all_fit_with net ps x [] a h = tt
all_fit_with net ps x (r ∷ rs) a h = (
  fits_with net ps x r a h.0,
  subst (λ (y : View). AllFit net y rs) (sym (record_with ps x r a)) (all_fit_with net (ports_after r ps) x rs (view_record r a) h.1),
)

-- The view of a manager that stopped.
pub stopped_view : (net : Network) (w : World) (v octets : ℕ) (e : Effect) → view_of net (stopped w v octets e) v ≡ record (view_of net w v) { volatile = no_volatile }
unfolding view_of masked stopped is_needed
stopped_view net w v octets e = let life = number_set_same w.volatile v no_volatile in λ i. record (view_of net w v) { volatile = life i }

stopped_batch : (w : World) (v octets : ℕ) (e : Effect) → ((stopped w v octets e).in_doubt v).batch ≡ e.batch
unfolding stopped
stopped_batch w v octets e = ap (λ (d : InDoubt). d.batch) (number_set_same w.in_doubt v (record { batch = e.batch; checkpointed = None }))

pub doubt_fits : (net : Network) (w : World) (v octets : ℕ) (e : Effect) → AllFit net (view_of net w v) e.batch →
    AllFit net (view_of net (stopped w v octets e) v) ((stopped w v octets e).in_doubt v).batch
doubt_fits net w v octets e h =
    subst (λ (a : View). AllFit net a ((stopped w v octets e).in_doubt v).batch) (sym (stopped_view net w v octets e))
    (subst (λ (b : List Record). AllFit net (record (view_of net w v) { volatile = no_volatile }) b) (sym (stopped_batch w v octets e))
    (all_fit_with net (view_of net w v).ports no_volatile e.batch (view_of net w v) h))
