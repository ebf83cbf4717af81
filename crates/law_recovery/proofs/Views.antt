-- What a start gives back of a node depends only on the node's own durable state.
use Rattle.std.proofs.Common.{◌≡◌, ℕ, List, [], ◌∷◌, refl, inl, inr, map}
use Rattle.std.specs.Prelude.{◌==◌}
use Rattle.qkd_base.specs.declared.lane.Lane.{Lane}
use Rattle.net_model.specs.declared.placing.Placing.{Placing}
use Rattle.net_model.specs.declared.record.Record.{Record}
use Rattle.net_model.specs.OctetSequence.{first_blocks}
use Rattle.net_model.specs.Site.{sender, outgoing_lanes}
use Rattle.net_model.specs.Events.{is_lane}
use Rattle.net_model.specs.World.{Network, World, no_volatile}
use Rattle.net_model.specs.View.{View, handed_at}
use Rattle.net_model.specs.Needed.{is_needed, masked, masked_fact, view_of, port_at}
use Rattle.net_model.specs.Doubt.{Extends}
use Rattle.net_model.specs.Fold.{view_restarted}
use Rattle.law_base.proofs.Base.{and_right, eq_from}
use Rattle.law_recovery.specs.Fitting.{AllFit}
use Rattle.law_recovery.proofs.Shapes.{knowing}
use Rattle.law_recovery.proofs.Doubtful.{all_fit_with}
use Rattle.law_recovery.proofs.Starting.{at_lease, AllLeave, outgoing_leave}
use Rattle.law_recovery.specs.Saved.{saved, Moves}

module _ (net : Network) (v : ℕ) (a b : World) (x : Extends net.site v a.durable b.durable) where
  ports_same : (ls : List Lane) → AllLeave net.site v ls → map at_lease (map (port_at net b) ls) ≡ map at_lease (map (port_at net a) ls)
  ports_same [] h = refl
  ports_same (l ∷ ls) h =
      let at = eq_from (sender net.site l) v (and_right (is_lane net.site l) (sender net.site l == v) h.0) in
      let blocks = x.taken l at in
      let lease = x.leases l at in
      let rest = ports_same ls h.1 in
      λ i. record { lane = l; blocks = first_blocks (net.device l.link) (blocks i); lease = lease i; planned = lease i; recovered = lease i } ∷ rest i

  saved_with : b.durable.acked v ≡ a.durable.acked v → b.durable.closed v ≡ a.durable.closed v → handed_at net.site v b.durable.handed ≡ handed_at net.site v a.durable.handed →
      map at_lease (map (port_at net b) (outgoing_lanes net.site v)) ≡ map at_lease (map (port_at net a) (outgoing_lanes net.site v)) → saved net b v ≡ saved net a v
  unfolding view_of masked view_restarted is_needed
  saved_with acked closed handed ports =
      let facts = x.seen in
      λ i. record {
        me = v;
        facts = map (masked_fact (knowing v (facts i) (acked i) (handed i))) (facts i);
        acked = acked i;
        handed = handed i;
        closed = closed i;
        ports = ports i;
        volatile = no_volatile;
      }

  pub saved_same : b.durable.acked v ≡ a.durable.acked v → b.durable.closed v ≡ a.durable.closed v →
      handed_at net.site v b.durable.handed ≡ handed_at net.site v a.durable.handed → saved net b v ≡ saved net a v
  saved_same acked closed handed = saved_with acked closed handed (ports_same (outgoing_lanes net.site v) (outgoing_leave net.site v))

-- A batch fits a view exactly if it fits what a start makes of the view.
pub restarted_fits : (net : Network) (rs : List Record) (a : View) → AllFit net a rs → AllFit net (view_restarted a) rs
unfolding view_restarted
restarted_fits net rs a h = all_fit_with net (map at_lease a.ports) no_volatile rs a h

pub fits_before : (net : Network) (rs : List Record) (a : View) → AllFit net (view_restarted a) rs → AllFit net a rs
unfolding view_restarted
fits_before net rs a h = all_fit_with net a.ports a.volatile rs (view_restarted a) h

-- What a start gives back doesn't depend on the notes that wait.
pub placings_aside : (net : Network) (w after : World) (placings : ℕ → List Placing) (v : ℕ) → Moves net w after v → Moves net w (record after { placings = placings }) v
unfolding view_of
placings_aside net w after placings v (inl s) = inl (record { view = s.view; doubt = s.doubt })
placings_aside net w after placings v (inr (inl d)) = inr (inl (record { view = d.view; fits = d.fits }))
placings_aside net w after placings v (inr (inr a)) = inr (inr (record { batch = a.batch; view = a.view; none = a.none }))
