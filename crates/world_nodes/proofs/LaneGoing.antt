-- A lane in a world that goes on, with as many blocks or with one more.
use Rattle.std.proofs.Common.{◌≡◌, ℕ, zero, suc, ◌+◌, ◌<◌, ◌≤◌, true, false, List, [], ◌∷◌, length, refl, sym, ◌∙◌, ap, subst, arith, Some}
use Rattle.std.specs.Prelude.{slice_get, count_by, if◌then◌else◌}
use Rattle.std.specs.List.{list_any}
use Rattle.qkd_base.specs.Lane.{lane_eq}
use Rattle.qkd_base.specs.Family.{lane_set}
use Rattle.qkd_base.specs.LaneBytes.{lane_octets, lane_len}
use Rattle.qkd_base.specs.declared.lane.Lane.{Lane}
use Rattle.net_model.specs.declared.record.Record.{Record}
use Rattle.net_model.specs.declared.record.Record.TheVariants.{Block, Lease, Learned, Acked, Handed, Closed, Bare}
use Rattle.net_model.specs.Ledger.{is_burnt}
use Rattle.net_model.specs.Site.{Site, outgoing_lane}
use Rattle.net_model.specs.OctetSequence.{first_blocks}
use Rattle.net_model.specs.World.{Network, World, Durable, Allocation}
use Rattle.net_model.specs.Records.{keyed_lease, apply_record, replay, block_taken}
use Rattle.net_model.specs.Doubt.{MayApply, MayReplay}
use Rattle.net_model.specs.Frames.{frame_octets}
use Rattle.net_model.specs.Events.{is_lane}
use Rattle.lane_sender.specs.Lane.{LaneForm}
use Rattle.law_base.proofs.Base.{by_lane, or_first, or_second, when_false, lane_eq_from}
use Rattle.law_base.proofs.Grow.{Grows}
use Rattle.law_base.proofs.Growing.{replay_grows}
use Rattle.law_base.proofs.Growth.{Outgrows, octets_stay}
use Rattle.law_base.proofs.Lists.{lane_set_same}
use Rattle.world_nodes.specs.LaneStands.{IsRunning, LaneStands}
use Rattle.world_nodes.specs.Going.{GoesOn, IsReplayed, brings}
use Rattle.world_nodes.proofs.Wires.{KeepsOctets, wire_kept}
use Rattle.source_devices.specs.declared.wire.Wire as Wire

pub get_within : {A : Type 0} (xs : List A) (i : ℕ) → i < length xs → (x : A) × (slice_get xs i ≡ Some x)
get_within [] i h = absurd (omega arith)
get_within (x ∷ xs) zero h = (x, refl)
get_within (x ∷ xs) (suc i) h = get_within xs i (omega arith)

-- If a lane gets more bytes and facts are added, its frames keep their octets.

module _ (net : Network) (w w' : World) (r : IsRunning net w) (l : Lane) (at : is_lane net.site l ≡ true) (facts : Grows w.durable.facts w'.durable.facts)
    (blocks : w.durable.blocks l ≤ w'.durable.blocks l) (frames : (j : ℕ) (a : Allocation) → slice_get (w.frames l) j ≡ Some a → slice_get (w'.frames l) j ≡ Some a) where
  -- the old world, but with the new facts, the lane's new frames, and these counts of blocks
  abbrev mixed : (Lane → ℕ) → World
  mixed bs = record w { durable = record (w.durable) { facts = w'.durable.facts; blocks = bs }; frames = lane_set w.frames l (w'.frames l) }

  abbrev grown : World
  grown = mixed (lane_set w.durable.blocks l (w'.durable.blocks l))

  outgrows : Outgrows w grown
  outgrows = record {
    facts = facts;
    known = λ u n h. h;
    blocks = by_lane (λ k b. w.durable.blocks k ≤ (if b then w'.durable.blocks l else w.durable.blocks k)) l blocks (λ k. omega arith);
    frames = by_lane (λ k b. (j : ℕ) (a : Allocation) → slice_get (w.frames k) j ≡ Some a → slice_get (if b then w'.frames l else w.frames k) j ≡ Some a) l frames (λ k j a h. h);
    wire = λ k n j h. h;
  }

  of_blocks : (a : Allocation) → frame_octets net grown l (Some a) ≡ frame_octets net w' l (Some a)
  of_blocks a = ap (λ (n : ℕ). frame_octets net (mixed (λ k. n)) l (Some a)) (lane_set_same w.durable.blocks l (w'.durable.blocks l))

  pub octets_kept : KeepsOctets net w w' l
  octets_kept n i there =
      let a = get_within (w.frames l) i ((r.conserved.wired l).wired n i there) in
      ap (frame_octets net w' l) (frames i a.0 a.1) ∙ sym (of_blocks a.0) ∙ octets_stay net w r.network r.conserved grown outgrows l i a.0 at a.1
      ∙ ap (frame_octets net w l) (sym a.1)

pub goes_on : {X : Type 0} (wire_says : Wire.Ghosts X) (net : Network) (w w' : World) (l : Lane) (side : LaneForm X) → IsRunning net w → is_lane net.site l ≡ true →
    GoesOn w w' l → LaneStands wire_says net w l side → LaneStands wire_says net w' l side
goes_on wire_says net w w' l side r at g s = record {
  lane = s.lane;
  bytes = s.bytes ∙ ap (λ (n : ℕ). lane_octets l.way (first_blocks (net.device l.link) n)) (sym g.blocks);
  received = s.received ∙ ap (lane_len l.way) (sym g.blocks);
  used = s.used ∙ ap length (sym g.own);
  burnt = s.burnt ∙ ap (count_by is_burnt) (sym g.own);
  end = omega (arith, s.end, g.lease);
  wire = wire_kept wire_says net w w' l side.wire side.wire s.wire (octets_kept net w w' r l at g.facts (omega (arith, g.blocks)) g.frames) g.wire refl;
}

-- batches

record Lasts (d d' : Durable) (l : Lane) : Type 0 where
  blocks : d'.blocks l ≡ d.blocks l
  own : d'.own l ≡ d.own l
  lease : d.lease l ≤ d'.lease l

same_lasts : (d : Durable) (l : Lane) → Lasts d d l
same_lasts d l = record { blocks = refl; own = refl; lease = omega arith }

taken_lasts : (k : Lane) (d : Durable) (l : Lane) → lane_eq l k ≡ false → Lasts d (block_taken k d) l
unfolding block_taken
taken_lasts k d l other = record {
  blocks = when_false (lane_eq l k) _ _ other;
  own = when_false (lane_eq l k) _ _ other;
  lease = subst (λ (n : ℕ). d.lease l ≤ n) (sym (when_false (lane_eq l k) (keyed_lease (lane_len k.way (d.blocks k)) (lane_len k.way (d.blocks k + 1)) (d.lease k)) (d.lease l) other)) (omega arith);
}

leased_lasts : (k : Lane) (end : ℕ) (d : Durable) (l : Lane) → d.lease k ≤ end → d.lease l ≤ lane_set d.lease k end l
leased_lasts k end d l le = elim (lane_eq l k) as (λ t. lane_eq l k ≡ t → d.lease l ≤ (if t then end else d.lease l)) [
  | true ↦ λ e. let same = ap d.lease (lane_eq_from l k e) in omega (arith, same, le)
  | false ↦ λ e. omega arith
] refl

apply_lasts : (s : Site) (v : ℕ) (r : Record) (d : Durable) (l : Lane) → MayApply s d v r → brings s v l r ≡ false → Lasts d (apply_record s v r d) l
unfolding apply_record
apply_lasts s v (Block link number bytes) d l may none = taken_lasts (outgoing_lane s v link) d l none
apply_lasts s v (Lease k end) d l may none = record { blocks = refl; own = refl; lease = leased_lasts k end d l may.1 }
apply_lasts s v (Learned f) d l may none = record { blocks = refl; own = refl; lease = omega arith }
apply_lasts s v (Acked n) d l may none = record { blocks = refl; own = refl; lease = omega arith }
apply_lasts s v (Handed n sae) d l may none = record { blocks = refl; own = refl; lease = omega arith }
apply_lasts s v (Closed n sae) d l may none = record { blocks = refl; own = refl; lease = omega arith }
apply_lasts s v (Bare f) d l may none = record { blocks = refl; own = refl; lease = omega arith }

replay_lasts : (s : Site) (v : ℕ) (batch : List Record) (d : Durable) (l : Lane) → MayReplay s d v batch → list_any (brings s v l) batch ≡ false → Lasts d (replay s v batch d) l
unfolding replay
replay_lasts s v [] d l may none = same_lasts d l
replay_lasts s v (r ∷ batch) d l may none =
    let one = apply_lasts s v r d l may.0 (or_first (brings s v l r) (list_any (brings s v l) batch) none) in
    let rest = replay_lasts s v batch (apply_record s v r d) l may.1 (or_second (brings s v l r) (list_any (brings s v l) batch) none) in
    record { blocks = rest.blocks ∙ one.blocks; own = rest.own ∙ one.own; lease = omega (arith, one.lease, rest.lease) }

pub batch_goes_on : (net : Network) (w w' : World) (v : ℕ) (batch : List Record) (l : Lane) → IsReplayed net w w' v batch → list_any (brings net.site v l) batch ≡ false → GoesOn w w' l
batch_goes_on net w w' v batch l r none =
    let lasts : Lasts w.durable w'.durable l = subst (λ (d : Durable). Lasts w.durable d l) (sym r.durable) (replay_lasts net.site v batch w.durable l r.may none) in
    record {
      facts = subst (λ (d : Durable). Grows w.durable.facts d.facts) (sym r.durable) (replay_grows net.site v batch w.durable).facts;
      blocks = lasts.blocks;
      own = lasts.own;
      lease = lasts.lease;
      frames = subst (λ (fs : Lane → List Allocation). (j : ℕ) (a : Allocation) → slice_get (w.frames l) j ≡ Some a → slice_get (fs l) j ≡ Some a) (sym r.frames) (λ j a h. h);
      wire = ap (λ (x : Lane → List ℕ). x l) r.wire;
    }
