-- An effect leaves a lane unchanged if it concerns no lane, or only lanes of another node.
use Rattle.std.proofs.Common.{◌≡◌, ◌≢◌, ℕ, false, List, [], ◌∷◌, refl, ◌∙◌, ap}
use Rattle.qkd_base.specs.Lane.{lane_eq}
use Rattle.qkd_base.specs.Family.{lane_set}
use Rattle.qkd_base.specs.declared.lane.Lane.{Lane}
use Rattle.net_model.specs.declared.record.Record.{Record}
use Rattle.net_model.specs.declared.record.Record.TheVariants.{Block, Lease, Learned, Acked, Handed, Closed, Bare}
use Rattle.net_model.specs.Site.{Site, sender, outgoing_lane}
use Rattle.net_model.specs.World.{Network, World, Durable, Allocation, Transmission, Entry}
use Rattle.net_model.specs.Records.{block_taken, apply_record, replay}
use Rattle.net_model.specs.Decision.{Effect}
use Rattle.net_model.specs.Invariant.{Conserved}
use Rattle.net_model.specs.Action.{Environment}
use Rattle.net_model.specs.Handle.{with_orders, with_repeats, commit, stopped, perform}
use Rattle.law_base.proofs.Base.{when_false}
use Rattle.law_base.proofs.Walks.{perform_walk}
use Rattle.law_locality.proofs.Performs.{IsTurn, performs_unseen}
use Rattle.law_locality.specs.Touched.{LaneStays}
use Rattle.law_locality.proofs.Spared.{SparesLanes, AllSpare}

pub unchanged : (l : Lane) (w : World) → LaneStays l w w
unchanged l w =
    record { blocks = refl; own = refl; lease = refl; recovered = refl; frames = refl; wire = refl; unclaimed = refl; outgoing = refl }

-- Changing one lane's value changes no other lane's value.
pub other_lane : {A : Type 0} (f : Lane → A) (k l : Lane) (x : A) → lane_eq l k ≡ false → lane_set f k x l ≡ f l
other_lane f k l x apart = when_false (lane_eq l k) x (f l) apart

-- The durable part of a lane is the same in both states.
pub record SameLane (l : Lane) (a b : Durable) : Type 0 where
  pub blocks : b.blocks l ≡ a.blocks l
  pub own : b.own l ≡ a.own l
  pub lease : b.lease l ≡ a.lease l

spared_one : (s : Site) (v : ℕ) (l : Lane) (r : Record) → SparesLanes r → (d : Durable) → SameLane l d (apply_record s v r d)
unfolding apply_record
spared_one s v l (Learned f) h d = record { blocks = refl; own = refl; lease = refl }
spared_one s v l (Acked n) h d = record { blocks = refl; own = refl; lease = refl }
spared_one s v l (Handed n sae) h d = record { blocks = refl; own = refl; lease = refl }
spared_one s v l (Closed n sae) h d = record { blocks = refl; own = refl; lease = refl }
spared_one s v l (Bare f) h d = record { blocks = refl; own = refl; lease = refl }
spared_one s v l (Block link number bytes) h d = absurd h
spared_one s v l (Lease lane end) h d = absurd h

pub spared : (s : Site) (v : ℕ) (l : Lane) (rs : List Record) → AllSpare rs → (d : Durable) → SameLane l d (replay s v rs d)
unfolding replay
spared s v l [] h d = record { blocks = refl; own = refl; lease = refl }
spared s v l (r ∷ rs) h d =
    let one = spared_one s v l r h.0 d in
    let rest = spared s v l rs h.1 (apply_record s v r d) in
    record { blocks = rest.blocks ∙ one.blocks; own = rest.own ∙ one.own; lease = rest.lease ∙ one.lease }

-- A block of bytes for another lane leaves this lane unchanged.
pub other_block : (s : Site) (v link number : ℕ) (bytes : List ℕ) (l : Lane) → lane_eq l (outgoing_lane s v link) ≡ false → (d : Durable) →
    SameLane l d (replay s v (Block link number bytes ∷ []) d)
unfolding replay apply_record block_taken
other_block s v link number bytes l apart d =
    let k : Lane = outgoing_lane s v link in
    record { blocks = other_lane d.blocks k l _ apart; own = other_lane d.own k l _ apart; lease = other_lane d.lease k l _ apart }

module _ (net : Network) (w : World) (l : Lane) where
  stopped_lane : (v octets : ℕ) (e : Effect) → LaneStays l w (stopped w v octets e)
  unfolding stopped
  stopped_lane v octets e = record { blocks = refl; own = refl; lease = refl; recovered = refl; frames = refl; wire = refl; unclaimed = refl; outgoing = refl }

  committed_lane : (v octets : ℕ) (e : Effect) → e.orders ≡ [] → e.repeats ≡ [] → SameLane l w.durable (replay net.site v e.batch w.durable) →
      LaneStays l w (commit net.site w v octets e)
  unfolding commit
  committed_lane v octets e orders repeats same =
      record {
        blocks = same.blocks;
        own = same.own;
        lease = same.lease;
        recovered = refl;
        frames = refl;
        wire = refl;
        unclaimed = ap (λ (ts : List Transmission). with_orders ts w.unclaimed l) orders;
        outgoing = ap (λ (es : List Entry). with_repeats es w.frames w.outgoing l) repeats;
      }

  -- Lemmas on an effect without orders and repeats.
  pub silent_lane : (v octets : ℕ) (environment : Environment) (e : Effect) → e.orders ≡ [] → e.repeats ≡ [] → SameLane l w.durable (replay net.site v e.batch w.durable) →
      LaneStays l w (perform net w v octets environment e).0
  silent_lane v octets environment e orders repeats same =
      perform_walk net w (LaneStays l w) (unchanged l w) v octets environment e
      (λ numbered fits. stopped_lane v octets e) (λ numbered fits. committed_lane v octets e orders repeats same)

  -- Lemmas on an effect of a node that isn't the lane's sender.

  committed_outgoing : (v octets : ℕ) (e : Effect) → with_repeats e.repeats w.frames w.outgoing l ≡ w.outgoing l → (commit net.site w v octets e).outgoing l ≡ w.outgoing l
  unfolding commit
  committed_outgoing v octets e same = same

  outgoing_stays : (v octets : ℕ) (environment : Environment) (e : Effect) → with_repeats e.repeats w.frames w.outgoing l ≡ w.outgoing l →
      (perform net w v octets environment e).0.outgoing l ≡ w.outgoing l
  outgoing_stays v octets environment e same =
      perform_walk net w (λ (x : World). x.outgoing l ≡ w.outgoing l) refl v octets environment e
      (λ numbered fits. (stopped_lane v octets e).outgoing) (λ numbered fits. committed_outgoing v octets e same)

  pub away_lane : Conserved net w → (v : ℕ) → sender net.site l ≢ v → (octets : ℕ) (environment : Environment) (e : Effect) → IsTurn net w v e →
      with_repeats e.repeats w.frames w.outgoing l ≡ w.outgoing l → LaneStays l w (perform net w v octets environment e).0
  away_lane c v apart octets environment e turn repeats =
      let same = performs_unseen net (sender net.site l) v apart w c octets e turn environment in
      record {
        blocks = same.durable.extends.taken l refl;
        own = same.durable.own l refl;
        lease = same.durable.extends.leases l refl;
        recovered = ap (λ (f : Lane → ℕ). f l) same.recovered;
        frames = ap (λ (f : Lane → List Allocation). f l) same.frames;
        wire = ap (λ (f : Lane → List ℕ). f l) same.wire;
        unclaimed = same.unclaimed l refl;
        outgoing = outgoing_stays v octets environment e repeats;
      }
