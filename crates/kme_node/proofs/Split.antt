-- Records change the facts and the ends of links independently.
use Rattle.std.proofs.Common.{◌≡◌, true, false, List, [], ◌∷◌, ◌++◌, refl, ap, ◌∙◌}
use Rattle.std.specs.Prelude.{◌&&◌, if◌then◌else◌}
use Rattle.std.specs.List.{list_any}
use Rattle.net_model.specs.declared.record.Record.{Record}
use Rattle.net_model.specs.declared.record.Record.TheVariants.{Block, Lease, Learned, Acked, Handed, Closed, Bare}
use Rattle.net_model.specs.World.{Volatile, no_volatile}
use Rattle.net_model.specs.View.{View, Port}
use Rattle.net_model.specs.Needed.{is_needed, masked}
use Rattle.net_model.specs.Fold.{view_record, view_records, view_batch, owes, is_end_of, is_handed_by, is_stream_of, marked}
use Rattle.kme_node.specs.Ports.{ports_by, ports_after}

-- a view without ends of links and without a window
abbrev pub bare : View → View
bare v = record v { ports = []; volatile = no_volatile }

-- a view with these ends of links and this window
abbrev pub with_rest : List Port → Volatile → View → View
with_rest ports volatile v = record v { ports = ports; volatile = volatile }

one : (r : Record) (v : View) → view_record r v ≡ with_rest (ports_by r v.ports) v.volatile (view_record r (bare v))
unfolding view_record
one (Block link number bytes) v = refl
one (Lease lane end) v = refl
one (Learned f) v = refl
one (Acked n) v =
    elim (owes v n) as (λ t. (if t then record v { acked = v.acked ++ n ∷ [] } else v) ≡ with_rest v.ports v.volatile (if t then record (bare v) { acked = v.acked ++ n ∷ [] } else bare v)) [
      | true ↦ refl
      | false ↦ refl
    ]
one (Handed n sae) v =
    elim (list_any (λ f. is_end_of v f && is_handed_by n sae f) v.facts) as (λ t. (if t then record v { handed = marked v.handed n sae } else v) ≡ with_rest v.ports v.volatile (if t then record (bare v) { handed = marked v.handed n sae } else bare v)) [
      | true ↦ refl
      | false ↦ refl
    ]
one (Closed n sae) v =
    elim (list_any (λ f. is_end_of v f && is_stream_of n f) v.facts) as (λ t. (if t then record v { closed = marked v.closed n sae } else v) ≡ with_rest v.ports v.volatile (if t then record (bare v) { closed = marked v.closed n sae } else bare v)) [
      | true ↦ refl
      | false ↦ refl
    ]
one (Bare f) v = refl

-- a view without ends of links gets none from a record
no_ports : (r : Record) (v : View) → v.ports ≡ [] → (view_record r v).ports ≡ []
no_ports r v h = ap (λ (w : View). w.ports) (one r v) ∙ ap (ports_by r) h ∙ none r
  where
    none : (r : Record) → ports_by r [] ≡ []
    none (Block link number bytes) = refl
    none (Lease lane end) = refl
    none (Learned f) = refl
    none (Acked n) = refl
    none (Handed n sae) = refl
    none (Closed n sae) = refl
    none (Bare f) = refl

bare_again : (r : Record) (v : View) → bare (view_record r v) ≡ view_record r (bare v)
unfolding view_record
bare_again (Block link number bytes) v = refl
bare_again (Lease lane end) v = refl
bare_again (Learned f) v = refl
bare_again (Acked n) v =
    elim (owes v n) as (λ t. bare (if t then record v { acked = v.acked ++ n ∷ [] } else v) ≡ (if t then record (bare v) { acked = v.acked ++ n ∷ [] } else bare v)) [
      | true ↦ refl
      | false ↦ refl
    ]
bare_again (Handed n sae) v =
    elim (list_any (λ f. is_end_of v f && is_handed_by n sae f) v.facts) as (λ t. bare (if t then record v { handed = marked v.handed n sae } else v) ≡ (if t then record (bare v) { handed = marked v.handed n sae } else bare v)) [
      | true ↦ refl
      | false ↦ refl
    ]
bare_again (Closed n sae) v =
    elim (list_any (λ f. is_end_of v f && is_stream_of n f) v.facts) as (λ t. bare (if t then record v { closed = marked v.closed n sae } else v) ≡ (if t then record (bare v) { closed = marked v.closed n sae } else bare v)) [
      | true ↦ refl
      | false ↦ refl
    ]
bare_again (Bare f) v = refl

pub records_split : (rs : List Record) (v : View) → view_records rs v ≡ with_rest (ports_after rs v.ports) v.volatile (view_records rs (bare v))
unfolding view_records
records_split [] v = refl
records_split (r ∷ rs) v =
    records_split rs (view_record r v)
    ∙ ap (λ (ports : List Port). with_rest (ports_after rs ports) (view_record r v).volatile (view_records rs (bare (view_record r v)))) (ap (λ (w : View). w.ports) (one r v))
    ∙ ap (λ (volatile : Volatile). with_rest (ports_after rs (ports_by r v.ports)) volatile (view_records rs (bare (view_record r v)))) (ap (λ (w : View). w.volatile) (one r v))
    ∙ ap (λ (w : View). with_rest (ports_after rs (ports_by r v.ports)) v.volatile (view_records rs w)) (bare_again r v)

-- masking depends neither on the ends of links nor on the window
masked_rest : (ports : List Port) (volatile : Volatile) (v : View) → masked (with_rest ports volatile v) ≡ with_rest ports volatile (masked v)
unfolding masked is_needed
masked_rest ports volatile v = refl

pub batch_split : (rs : List Record) (v : View) → view_batch v rs ≡ with_rest (ports_after rs v.ports) v.volatile (view_batch (bare v) rs)
batch_split rs v = ap masked (records_split rs v) ∙ masked_rest (ports_after rs v.ports) v.volatile (view_records rs (bare v))
