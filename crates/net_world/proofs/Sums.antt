-- Sums over the lanes of a network.
use Rattle.std.proofs.Common.{◌≡◌, ℕ, zero, suc, ◌+◌, ◌*◌, ◌<◌, ◌≤◌, true, List, [], ◌∷◌, length, take, get_or, refl, sym, ap, ◌∙◌, subst, arith, Some, inl, inr, ◌⊎◌}
use Rattle.std.specs.Prelude.{slice_get}
use Rattle.std.specs.List.{sum_by}
use Rattle.std.proofs.lemmas.Bool.{lt-ltb}
use Rattle.std.proofs.lemmas.List.Sums.{sum_by_more}
use Rattle.std.proofs.lemmas.Option.{slice_get-get_or}
use Rattle.qkd_base.specs.declared.lane.Way.TheVariants.{Up, Down}
use Rattle.qkd_base.specs.declared.lane.Lane.{Lane}
use Rattle.net_model.specs.Site.{lane_of}
use Rattle.net_model.specs.World.{Network, World}
use Rattle.net_model.specs.Events.{is_lane}
use Rattle.law_base.proofs.LaneBlocks.{lane_length, lane_small}
use Rattle.lane_sender.specs.Lane.{LaneForm}
use Rattle.net_world.specs.Veiled.{over_lanes}
use Rattle.world_state.specs.Passed.{LaneStands}
use Rattle.world_state.specs.Stands.{place_of}
use Rattle.net_world.specs.Lanes.{AreLanes}
use Rattle.source_devices.specs.declared.wire.Wire as Wire

-- a number is even or odd
pub halves : (n : ℕ) → ((k : ℕ) × (n ≡ 2 * k)) ⊎ ((k : ℕ) × (n ≡ 2 * k + 1))
halves zero = inl (0, refl)
halves (suc n) = elim (halves n) [
  | inl h ↦ inr (h.0, omega (arith, h.1))
  | inr h ↦ inl (h.0 + 1, omega (arith, h.1))
]

-- the lane at a place
pub record IsAt (net : Network) (i : ℕ) (l : Lane) : Type 0 where
  pub at : is_lane net.site l ≡ true
  pub place : place_of l ≡ i

pub lane_at : (net : Network) (i : ℕ) → i < 2 * net.site.links → (l : Lane) × IsAt net i l
lane_at net i lt = elim (halves i) [
  | inl h ↦ (lane_of h.0 Up, record { at = lt-ltb h.0 net.site.links (omega (arith, h.1, lt)); place = omega (arith, h.1) })
  | inr h ↦ (lane_of h.0 Down, record { at = lt-ltb h.0 net.site.links (omega (arith, h.1, lt)); place = omega (arith, h.1) })
]

module _ {X : Type 0} (wire_says : Wire.Ghosts X) (net : Network) (w : World) (sides : List (LaneForm X)) (lanes : AreLanes wire_says net w sides) where
  -- the side at a place stands for its own lane
  pub record IsSide (side : LaneForm X) : Type 0 where
    pub at : is_lane net.site side.lane ≡ true
    pub stands : LaneStands wire_says net w side.lane side
    pub size : length side.bytes ≤ 524288

  side_of : (l : Lane) (side : LaneForm X) → is_lane net.site l ≡ true → slice_get sides (place_of l) ≡ Some side → IsSide side
  side_of l side at there =
      let s = lanes.lanes l side at there in
      let same : side.lane ≡ l = s.lane in
      let size : length side.bytes ≤ 524288 =
      omega (arith, ap length s.bytes, lane_length l.way (net.device l.link) (w.durable.blocks l), lane_small l.way (w.durable.blocks l) (lanes.running.conserved.few_blocks l)) in
      record {
        at = subst (λ (k : Lane). is_lane net.site k ≡ true) (sym same) at;
        stands = subst (λ (k : Lane). LaneStands wire_says net w k side) (sym same) s;
        size = size;
      }

  pub few_sides : length sides ≤ 64
  few_sides = omega (arith, lanes.count, lanes.running.network.site.links)

  pub side_at : (i : ℕ) (side : LaneForm X) → slice_get sides i ≡ Some side → i < length sides → IsSide side
  side_at i side there lt =
      let l = lane_at net i (omega (arith, lt, lanes.count)) in
      side_of l.0 side l.1.at (ap (slice_get sides) l.1.place ∙ there)

  lane_here : (l : Lane) (d : LaneForm X) → is_lane net.site l ≡ true → place_of l < length sides → (get_or sides (place_of l) d).lane ≡ l
  lane_here l d at lt = (lanes.lanes l (get_or sides (place_of l) d) at (slice_get-get_or sides (place_of l) d lt)).lane

  -- the sum over the sides is the sum over both lanes of each link
  sum_of : (f : Lane → ℕ) (d : LaneForm X) (n : ℕ) → n ≤ net.site.links → sum_by (λ (s : LaneForm X). f s.lane) (take (2 * n) sides) ≡ over_lanes f n
  sum_of f d zero le = refl
  sum_of f d (suc n) le =
      let g : LaneForm X → ℕ = λ s. f s.lane in
      let low : 2 * n < length sides = omega (arith, le, lanes.count) in
      let high : 2 * n + 1 < length sides = omega (arith, le, lanes.count) in
      let at : is_lane net.site (lane_of n Up) ≡ true = lt-ltb n net.site.links (omega (arith, le)) in
      let up : (get_or sides (2 * n) d).lane ≡ lane_of n Up =
      ap (λ (i : ℕ). (get_or sides i d).lane) (omega arith) ∙ lane_here (lane_of n Up) d at (omega (arith, low)) in
      let down : (get_or sides (2 * n + 1) d).lane ≡ lane_of n Down = lane_here (lane_of n Down) d at high in
      let two : 2 * suc n ≡ 2 * n + 1 + 1 = omega arith in
      ap (λ (k : ℕ). sum_by g (take k sides)) two ∙
      omega (arith, sum_by_more g sides (2 * n + 1) d high, sum_by_more g sides (2 * n) d low, ap f up, ap f down, sum_of f d n (omega (arith, le)))

  pub sum_whole : (f : Lane → ℕ) (i : ℕ) → i ≡ length sides → sum_by (λ (s : LaneForm X). f s.lane) (take i sides) ≡ over_lanes f net.site.links
  sum_whole f i is = go sides refl
    where
      whole : i ≡ 2 * net.site.links
      whole = is ∙ lanes.count

      nothing : (n : ℕ) → sum_by (λ (s : LaneForm X). f s.lane) (take n []) ≡ 0
      nothing zero = refl
      nothing (suc n) = refl

      go : (all : List (LaneForm X)) → all ≡ sides → sum_by (λ (s : LaneForm X). f s.lane) (take i sides) ≡ over_lanes f net.site.links
      go [] e =
          let none : net.site.links ≡ 0 = omega (arith, ap length e, lanes.count) in
          ap (λ (l : List (LaneForm X)). sum_by (λ (s : LaneForm X). f s.lane) (take i l)) (sym e) ∙ nothing i ∙ ap (over_lanes f) (sym none)
      go (d ∷ ds) e = ap (λ (k : ℕ). sum_by (λ (s : LaneForm X). f s.lane) (take k sides)) whole ∙ sum_of f d net.site.links (omega arith)
