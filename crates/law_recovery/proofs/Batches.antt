-- A batch whose records fit: the view takes each record as the world does.
use Rattle.std.proofs.Common.{◌≡◌, ℕ, ◌≤◌, Bool, true, false, ◌&&◌, List, [], ◌∷◌, refl, sym, ◌∙◌, ap, subst, arith, map}
use Rattle.std.specs.Prelude.{nat_le, if◌then◌else◌}
use Rattle.std.specs.List.{list_any}
use Rattle.std.proofs.lemmas.Bool.Decides.{nat_tests}
use Rattle.qkd_base.specs.Name.{Name}
use Rattle.qkd_base.specs.Lane.{lane_eq}
use Rattle.qkd_base.specs.LaneBytes.{lane_len}
use Rattle.qkd_base.specs.declared.lane.Lane.{Lane}
use Rattle.net_model.specs.declared.fact.Fact.{Fact}
use Rattle.net_model.specs.declared.record.Record.{Record}
use Rattle.net_model.specs.declared.record.Record.TheVariants.{Block, Lease, Learned, Acked, Handed, Closed, Bare}
use Rattle.net_model.specs.Table.{was_handed}
use Rattle.net_model.specs.Site.{outgoing_lanes}
use Rattle.net_model.specs.World.{Network, World, Durable, received}
use Rattle.net_model.specs.Records.{apply_record, replay}
use Rattle.net_model.specs.Doubt.{MayApply, MayReplay}
use Rattle.net_model.specs.Invariant.{Invariant}
use Rattle.net_model.specs.View.{View, received_of, handed_at}
use Rattle.net_model.specs.Needed.{is_needed, masked, view_of, port_at}
use Rattle.net_model.specs.Fold.{with_lease, owes, is_end_of, is_stream_of, view_record, view_records}
use Rattle.law_base.proofs.Base.{and_both, not_false, not_both, lane_eq_from}
use Rattle.law_base.proofs.Keeping.{apply_keeps}
use Rattle.law_base.proofs.LaneBlocks.{count_blocks}
use Rattle.law_base.proofs.Seen.{bare_view}
use Rattle.law_recovery.proofs.Shapes.{AllStay, masked_then}
use Rattle.law_recovery.proofs.Following.{Follows, handed_only, seen, acked_follows, handed_follows, closed_follows}
use Rattle.law_recovery.proofs.Learning.{learned_follows}
use Rattle.law_recovery.proofs.Ends.{handed_fits}
use Rattle.law_recovery.proofs.Taken.{taken_follows}
use Rattle.law_recovery.specs.Fitting.{Fits, AllFit}

-- The record fits and isn't a block of bytes.
abbrev pub FitsHere : View → Record → Type 0
FitsHere a (Acked n) = owes a n ≡ true
FitsHere a (Closed n sae) = (list_any (λ f. is_end_of a f && is_stream_of n f) a.facts ≡ true) × (was_handed a.closed n sae ≡ false)
FitsHere a (Block link number bytes) = ⊥
FitsHere a _ = Unit {0}

abbrev pub AllFitHere : View → List Record → Type 0
AllFitHere a [] = Unit {0}
AllFitHere a (r ∷ rs) = FitsHere a r × AllFitHere (view_record r a) rs

one_fits : (net : Network) (a : View) (r : Record) → FitsHere a r → Fits net a r
one_fits net a (Acked n) h = h
one_fits net a (Closed n sae) h = h
one_fits net a (Block link number bytes) h = absurd h
one_fits net a (Lease l end) h = tt
one_fits net a (Learned f) h = tt
one_fits net a (Handed n sae) h = tt
one_fits net a (Bare f) h = tt

pub here_fits : (net : Network) (rs : List Record) (a : View) → AllFitHere a rs → AllFit net a rs
here_fits net [] a h = tt
here_fits net (r ∷ rs) a h = (one_fits net a r h.0, here_fits net rs (view_record r a) h.1)

module _ (net : Network) (w : World) (v : ℕ) where
  -- The number of bytes received on a port's lane.
  pub port_received : (d : Durable) (l : Lane) → received_of (port_at net (record w { durable = d }) l) ≡ received d l
  port_received d l = ap (lane_len l.way) (count_blocks (net.device l.link) (d.blocks l))

  leased_port : (d : Durable) (l : Lane) (end : ℕ) → d.lease l ≤ end → end ≤ received d l → (k : Lane) →
      with_lease l end (port_at net (record w { durable = d }) k) ≡ port_at net (record w { durable = apply_record net.site v (Lease l end) d }) k
  unfolding apply_record
  leased_port d l end low high k =
      elim (lane_eq k l) as (λ t. lane_eq k l ≡ t →
      (if t && nat_le (d.lease k) end && nat_le end (received_of (port_at net (record w { durable = d }) k))
      then record (port_at net (record w { durable = d }) k) { lease = end } else port_at net (record w { durable = d }) k) ≡
      record (port_at net (record w { durable = d }) k) { lease = if t then end else d.lease k }) [
        | false ↦ λ e. refl
        | true ↦ λ e.
            let is : k ≡ l = lane_eq_from k l e in
            let at : d.lease k ≡ d.lease l = ap d.lease is in
            let got : received_of (port_at net (record w { durable = d }) k) ≡ received d l = port_received d k ∙ ap (received d) is in
            let first : nat_le (d.lease k) end ≡ true = grind (arith, nat_tests) in
            let second : nat_le end (received_of (port_at net (record w { durable = d }) k)) ≡ true = grind (arith, nat_tests) in
            let both = and_both (nat_le (d.lease k) end) (nat_le end (received_of (port_at net (record w { durable = d }) k))) first second in
            ap (λ (t : Bool). if t then record (port_at net (record w { durable = d }) k) { lease = end } else port_at net (record w { durable = d }) k) both
      ] refl

  leased_ports : (d : Durable) (l : Lane) (end : ℕ) → d.lease l ≤ end → end ≤ received d l → (ks : List Lane) →
      map (with_lease l end) (map (port_at net (record w { durable = d })) ks) ≡ map (port_at net (record w { durable = apply_record net.site v (Lease l end) d })) ks
  leased_ports d l end low high [] = refl
  leased_ports d l end low high (k ∷ ks) =
      let one = leased_port d l end low high k in
      let rest = leased_ports d l end low high ks in
      λ i. one i ∷ rest i

  leased_with : (d : Durable) (a : View) (l : Lane) (end : ℕ) → Follows a (seen net w v d) →
      map (with_lease l end) a.ports ≡ map (port_at net (record w { durable = apply_record net.site v (Lease l end) d })) (outgoing_lanes net.site v) →
      Follows (view_record (Lease l end) a) (seen net w v (apply_record net.site v (Lease l end) d))
  unfolding view_record apply_record is_needed
  leased_with d a l end h ports = record { me = h.me; acked = h.acked; handed = h.handed; closed = h.closed; ports = ports; facts = h.facts }

  leased_follows : (d : Durable) (a : View) (l : Lane) (end : ℕ) → d.lease l ≤ end → end ≤ received d l → Follows a (seen net w v d) →
      Follows (view_record (Lease l end) a) (seen net w v (apply_record net.site v (Lease l end) d))
  leased_follows d a l end low high h =
      leased_with d a l end h (ap (map (with_lease l end)) h.ports ∙ leased_ports d l end low high (outgoing_lanes net.site v))

  record_follows : (d : Durable) → Invariant net.site d w.frames w.unclaimed → (a : View) (r : Record) → MayApply net.site d v r → Fits net a r → Follows a (seen net w v d) →
      Follows (view_record r a) (seen net w v (apply_record net.site v r d))
  record_follows d inv a (Block link number bytes) may fits h =
      subst (λ (b : List ℕ). Follows (view_record (Block link number b) a) (seen net w v (apply_record net.site v (Block link number b) d))) (sym fits)
      (taken_follows net w v d inv link number may.2 may.1 a h)
  record_follows d inv a (Lease l end) may fits h = leased_follows d a l end may.1 may.2 h
  record_follows d inv a (Learned f) may fits h = learned_follows net w v d inv f may.0 may.1 a h
  record_follows d inv a (Acked n) may fits h = acked_follows net w v d a n h fits
  record_follows d inv a (Handed n sae) may fits h =
      handed_follows net w v d a n sae h (handed_fits net w v d inv.table a h n sae may.0 may.2) (not_false (was_handed a.handed n sae) (λ e.
      let old : was_handed (handed_at net.site v d.handed) n sae ≡ true = ap (λ (hs : List (Name × ℕ)). was_handed hs n sae) (sym h.handed) ∙ e in
      not_both (was_handed d.handed n sae) (handed_only net.site v d.handed n sae old).1 may.1)) may.0
  record_follows d inv a (Closed n sae) may fits h = closed_follows net w v d a n sae h fits.0 fits.1
  record_follows d inv a (Bare f) may fits h = absurd may

  pub batch_follows : (rs : List Record) (d : Durable) → Invariant net.site d w.frames w.unclaimed → (a : View) → MayReplay net.site d v rs → AllFit net a rs →
      Follows a (seen net w v d) → Follows (view_records rs a) (seen net w v (replay net.site v rs d))
  unfolding view_records replay
  batch_follows [] d inv a may fits h = h
  batch_follows (r ∷ rs) d inv a may fits h =
      batch_follows rs (apply_record net.site v r d) (apply_keeps net.site d w.frames w.unclaimed inv v r may.0) (view_record r a) may.1 fits.1
      (record_follows d inv a r may.0 fits.0 h)

-- The view of a node follows what the node knows.

pub all_stay : (b : View) (fs : List Fact) → AllStay b b fs
all_stay b [] = tt
all_stay b (f ∷ fs) = (λ e. e, all_stay b fs)

pub view_follows : (net : Network) (w : World) (v : ℕ) → Follows (view_of net w v) (seen net w v w.durable)
unfolding view_of masked
view_follows net w v =
    let b : View = bare_view net w v in
    record { me = refl; acked = refl; handed = refl; closed = refl; ports = refl; facts = masked_then b b b.facts (all_stay b b.facts) }
