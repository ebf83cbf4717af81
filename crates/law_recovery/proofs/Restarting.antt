-- A start empties the memory. A start after some records gives the same view, whether or not there was a start before
-- them.
use Rattle.std.proofs.Common.{◌≡◌, ℕ, Bool, true, false, ◌&&◌, List, [], ◌∷◌, ◌++◌, length, refl, sym, ◌∙◌, ap, map}
use Rattle.std.specs.Prelude.{if◌then◌else◌, ◌==◌, ◌+◌, nat_lt, nat_le}
use Rattle.std.specs.List.{list_any}
use Rattle.qkd_base.specs.Lane.{lane_eq}
use Rattle.qkd_base.specs.LaneBytes.{lane_len}
use Rattle.qkd_base.specs.declared.lane.Lane.{Lane}
use Rattle.net_model.specs.declared.record.Record.{Record}
use Rattle.net_model.specs.declared.record.Record.TheVariants.{Block, Lease, Learned, Acked, Handed, Closed, Bare}
use Rattle.net_model.specs.Table.{learned}
use Rattle.net_model.specs.Site.{Site, outgoing_lanes}
use Rattle.net_model.specs.World.{needs, no_volatile}
use Rattle.net_model.specs.Records.{keyed_lease}
use Rattle.net_model.specs.View.{View, Port, received_of}
use Rattle.net_model.specs.Needed.{is_needed, masked}
use Rattle.net_model.specs.Decision.{Effect}
use Rattle.net_model.specs.Fold.{with_block, with_lease, owes, is_end_of, is_handed_by, is_stream_of, marked, view_record, view_records, view_batch, on_lane, view_after, view_restarted, empty_port, empty_view, view_batches, recovered_view}
use Rattle.law_recovery.proofs.Shapes.{masked_shapes, masked_like, masked_then}
use Rattle.law_recovery.proofs.Batches.{all_stay}
use Rattle.law_recovery.proofs.Starting.{at_lease}
use Rattle.law_recovery.specs.GivesBack.{GivesBack}

-- Lemmas on ports.

leased_twice : (ps : List Port) → map at_lease (map at_lease ps) ≡ map at_lease ps
leased_twice [] = refl
leased_twice (p ∷ ps) = let rest = leased_twice ps in λ i. at_lease p ∷ rest i

leased_through : (f : Port → Port) → ((p : Port) → at_lease (f p) ≡ at_lease (f (at_lease p))) → (ps : List Port) → map at_lease (map f ps) ≡ map at_lease (map f (map at_lease ps))
leased_through f h [] = refl
leased_through f h (p ∷ ps) = let one = h p in let rest = leased_through f h ps in λ i. one i ∷ rest i

abbrev pub block_added : ℕ → List ℕ → Port → Port
block_added number bytes p = record p {
  blocks = p.blocks ++ bytes ∷ [];
  lease = keyed_lease (received_of p) (lane_len p.lane.way (number + 1)) p.lease;
  planned = keyed_lease (received_of p) (lane_len p.lane.way (number + 1)) p.planned;
}

block_leased : (link number : ℕ) (bytes : List ℕ) (p : Port) → at_lease (with_block link number bytes p) ≡ at_lease (with_block link number bytes (at_lease p))
block_leased link number bytes p =
    elim ((p.lane.link == link) && (number == length p.blocks) && nat_lt number 1024) as (λ t.
    at_lease (if t then block_added number bytes p else p) ≡ at_lease (if t then block_added number bytes (at_lease p) else at_lease p)) [ true ↦ refl | false ↦ refl ]

lease_leased : (l : Lane) (end : ℕ) (p : Port) → at_lease (with_lease l end p) ≡ at_lease (with_lease l end (at_lease p))
lease_leased l end p =
    elim (lane_eq p.lane l && nat_le p.lease end && nat_le end (received_of p)) as (λ t.
    at_lease (if t then record p { lease = end } else p) ≡ at_lease (if t then record (at_lease p) { lease = end } else at_lease p)) [ true ↦ refl | false ↦ refl ]

planned_leased : (f : Port → ℕ) (ps : List Port) → map at_lease (map (λ (p : Port). record p { planned = f p }) ps) ≡ map at_lease ps
planned_leased f [] = refl
planned_leased f (p ∷ ps) = let rest = planned_leased f ps in λ i. at_lease p ∷ rest i

-- Lemmas on records.

pub restarted_twice : (v : View) → view_restarted (view_restarted v) ≡ view_restarted v
unfolding view_restarted
restarted_twice v = let ports = leased_twice v.ports in λ i. record v { volatile = no_volatile; ports = ports i }

either_restarts : (t : Bool) (a b x y : View) → view_restarted a ≡ view_restarted x → view_restarted b ≡ view_restarted y →
    view_restarted (if t then a else b) ≡ view_restarted (if t then x else y)
either_restarts true a b x y h k = h
either_restarts false a b x y h k = k

record_restarts : (r : Record) (v : View) → view_restarted (view_record r v) ≡ view_restarted (view_record r (view_restarted v))
unfolding view_record view_restarted
record_restarts (Block link number bytes) v =
    let ports = leased_through (with_block link number bytes) (block_leased link number bytes) v.ports in λ i. record v { volatile = no_volatile; ports = ports i }
record_restarts (Lease l end) v =
    let ports = leased_through (with_lease l end) (lease_leased l end) v.ports in λ i. record v { volatile = no_volatile; ports = ports i }
record_restarts (Learned f) v = let ports = sym (leased_twice v.ports) in λ i. record v { volatile = no_volatile; facts = learned v.facts f; ports = ports i }
record_restarts (Acked n) v =
    let ports = sym (leased_twice v.ports) in
    either_restarts (owes v n) (record v { acked = v.acked ++ n ∷ [] }) v (record (view_restarted v) { acked = v.acked ++ n ∷ [] }) (view_restarted v)
    (λ i. record v { volatile = no_volatile; acked = v.acked ++ n ∷ []; ports = ports i }) (λ i. record v { volatile = no_volatile; ports = ports i })
record_restarts (Handed n sae) v =
    let ports = sym (leased_twice v.ports) in
    either_restarts (list_any (λ f. is_end_of v f && is_handed_by n sae f) v.facts) (record v { handed = marked v.handed n sae }) v
    (record (view_restarted v) { handed = marked v.handed n sae }) (view_restarted v)
    (λ i. record v { volatile = no_volatile; handed = marked v.handed n sae; ports = ports i }) (λ i. record v { volatile = no_volatile; ports = ports i })
record_restarts (Closed n sae) v =
    let ports = sym (leased_twice v.ports) in
    either_restarts (list_any (λ f. is_end_of v f && is_stream_of n f) v.facts) (record v { closed = marked v.closed n sae }) v
    (record (view_restarted v) { closed = marked v.closed n sae }) (view_restarted v)
    (λ i. record v { volatile = no_volatile; closed = marked v.closed n sae; ports = ports i }) (λ i. record v { volatile = no_volatile; ports = ports i })
record_restarts (Bare f) v = let ports = sym (leased_twice v.ports) in λ i. record v { volatile = no_volatile; facts = learned v.facts f; ports = ports i }

records_restart : (rs : List Record) (v : View) → view_restarted (view_records rs v) ≡ view_restarted (view_records rs (view_restarted v))
unfolding view_records
records_restart [] v = sym (restarted_twice v)
records_restart (r ∷ rs) v =
    records_restart rs (view_record r v) ∙ ap (λ (x : View). view_restarted (view_records rs x)) (record_restarts r v) ∙
    sym (records_restart rs (view_record r (view_restarted v)))

-- Lemmas on batches.

pub masked_restarts : (v : View) → masked (view_restarted v) ≡ view_restarted (masked v)
unfolding masked view_restarted is_needed
masked_restarts v = refl

pub batch_restarts : (v : View) (batch : List Record) → view_restarted (view_batch v batch) ≡ view_restarted (view_batch (view_restarted v) batch)
batch_restarts v batch =
    sym (masked_restarts (view_records batch v)) ∙ ap masked (records_restart batch v) ∙ masked_restarts (view_records batch (view_restarted v))

pub after_restarts : (v : View) (e : Effect) → view_restarted (view_after v e) ≡ view_restarted (view_batch v e.batch)
unfolding view_after view_restarted
after_restarts v e =
    let next : View = view_batch v e.batch in
    let ports = planned_leased (λ (p : Port). p.planned + needs v.facts (on_lane p.lane e.orders)) next.ports in
    λ i. record next { volatile = no_volatile; ports = ports i }

pub batches_push : (v : View) (batches : List (List Record)) (batch : List Record) → view_batches v (batches ++ batch ∷ []) ≡ view_batch (view_batches v batches) batch
batches_push v [] batch = refl
batches_push v (b ∷ batches) batch = batches_push (view_batch v b) batches batch

-- Masking twice is masking once.

pub masked_twice : (v : View) → masked (masked v) ≡ masked v
unfolding masked
masked_twice v =
    let facts = masked_like (masked v) v (record { me = refl; acked = refl; handed = refl; facts = masked_shapes v v.facts }) (masked v).facts ∙
    masked_then v v v.facts (all_stay v v.facts) in
    λ i. record v { facts = facts i }

batches_masked : (v : View) (batches : List (List Record)) → masked v ≡ v → masked (view_batches v batches) ≡ view_batches v batches
batches_masked v [] h = h
batches_masked v (b ∷ batches) h = batches_masked (view_batch v b) batches (masked_twice (view_records b v))

module _ (site : Site) (me : ℕ) where
  nothing_masked : masked (empty_view site me) ≡ empty_view site me
  unfolding masked
  nothing_masked = refl

  empty_leased : (ls : List Lane) → map at_lease (map empty_port ls) ≡ map empty_port ls
  empty_leased [] = refl
  empty_leased (l ∷ ls) = let rest = empty_leased ls in λ i. empty_port l ∷ rest i

  pub nothing_given : recovered_view site me [] ≡ empty_view site me
  unfolding recovered_view view_restarted
  nothing_given = let ports = empty_leased (outgoing_lanes site me) in λ i. record (empty_view site me) { ports = ports i }

  pub recovered_masked : (batches : List (List Record)) → masked (recovered_view site me batches) ≡ recovered_view site me batches
  unfolding recovered_view
  recovered_masked batches =
      masked_restarts (view_batches (empty_view site me) batches) ∙ ap view_restarted (batches_masked (empty_view site me) batches nothing_masked)

  pub recovered_next : (batches : List (List Record)) (batch : List Record) →
      recovered_view site me (batches ++ batch ∷ []) ≡ view_restarted (view_batch (recovered_view site me batches) batch)
  unfolding recovered_view
  recovered_next batches batch = ap view_restarted (batches_push (empty_view site me) batches batch) ∙ batch_restarts (view_batches (empty_view site me) batches) batch

  pub recovered_restarts : (batches : List (List Record)) → recovered_view site me batches ≡ view_restarted (recovered_view site me batches)
  unfolding recovered_view
  recovered_restarts batches = sym (restarted_twice (view_batches (empty_view site me) batches))

  pub batch_given : (batches : List (List Record)) (v : View) (batch : List Record) → GivesBack site me batches v → GivesBack site me (batches ++ batch ∷ []) (view_batch v batch)
  batch_given batches v batch h = recovered_next batches batch ∙ ap (λ (x : View). view_restarted (view_batch x batch)) h ∙ sym (batch_restarts v batch)

  pub effect_given : (batches : List (List Record)) (v : View) (e : Effect) → GivesBack site me batches v → GivesBack site me (batches ++ e.batch ∷ []) (view_after v e)
  effect_given batches v e h = batch_given batches v e.batch h ∙ sym (after_restarts v e)

  nothing_added : (v : View) → view_batch v [] ≡ masked v
  unfolding view_records
  nothing_added v = refl

  pub reply_given : (batches : List (List Record)) (v : View) (e : Effect) → e.batch ≡ [] → GivesBack site me batches v → GivesBack site me batches (view_after v e)
  reply_given batches v e none h =
      sym (recovered_masked batches) ∙ ap masked h ∙ masked_restarts v ∙ ap view_restarted (sym (nothing_added v)) ∙
      ap (λ (b : List Record). view_restarted (view_batch v b)) (sym none) ∙ sym (after_restarts v e)
