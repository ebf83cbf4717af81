-- What entropies and wires tell after a run.
use Rattle.std.proofs.Common.{◌≡◌, ℕ, ◌*◌, ◌<◌, ◌≤◌, false, List, [], drop, map, refl, sym, ap, subst, ◌∙◌, arith, Option, Some}
use Rattle.std.specs.Prelude.{IfSome}
use Rattle.std.proofs.lemmas.Bool.{ltb-true}
use Rattle.qkd_base.specs.declared.lane.Way.{Way}
use Rattle.qkd_base.specs.declared.lane.Way.TheVariants.{Up, Down}
use Rattle.qkd_base.specs.declared.lane.Lane.{Lane}
use Rattle.net_model.specs.OctetSequence.{sequence_of}
use Rattle.net_model.specs.Site.{Site}
use Rattle.net_model.specs.World.{Network, World}
use Rattle.net_model.specs.Events.{is_lane}
use Rattle.source_devices.specs.Telling.{IsRest}
use Rattle.run_model.specs.Left.{wire_octets}
use Rattle.law_base.proofs.Base.{not_false}
use Rattle.law_run.proofs.Rests.{rest_is}
use Rattle.world_state.specs.Passed.{Post, On, Off, spelled_wire, WireStands, entropy_of, EntropyStands, PostStands}
use Rattle.world_state.specs.Stands.{place_of}
use Rattle.disk_model.specs.declared.disk.Disk as Disk
use Rattle.source_devices.specs.declared.entropy.Entropy as Entropy
use Rattle.source_devices.specs.declared.wire.Wire as Wire

pub entropy_there : {K E : Type 0} (disk_says : Disk.Ghosts K) (entropy_says : Entropy.Ghosts E) (net : Network) (w : World) (v : ℕ) (p : Post K E) →
    PostStands disk_says entropy_says net w v p → EntropyStands entropy_says net w v (entropy_of p)
entropy_there disk_says entropy_says net w v (On m) h = h.entropy
entropy_there disk_says entropy_says net w v (Off disk entropy) h = h.0

-- the octets left are those that were told, without those drawn

pub left_of : (told rest : List ℕ) (n : ℕ) → IsRest (sequence_of told) n (sequence_of rest) → rest ≡ drop n told
left_of told rest n h = rest_is told rest n h.octet h.last

pub pair_place : (links : ℕ) (l : Lane) → l.link < links → place_of l < 2 * links
pair_place links l below = of l.way
  where
    of : (way : Way) → place_of (record { link = l.link; way = way }) < 2 * links
    of Up = omega (arith, below)
    of Down = omega (arith, below)

pub place_past : (links : ℕ) (l : Lane) → links ≤ l.link → 2 * links ≤ place_of l
place_past links l past = omega (arith, past)

pub no_lane : (s : Site) (l : Lane) → s.links ≤ l.link → is_lane s l ≡ false
no_lane s l past = not_false (is_lane s l) (λ at. let below = ltb-true l.link s.links at in omega (arith, past, below))

wire_is : (net : Network) (w : World) (l : Lane) → wire_octets net w l ≡ spelled_wire net w l
unfolding wire_octets
wire_is net w l = refl

pub empty_wire : (net : Network) (w : World) (l : Lane) → w.wire l ≡ [] → wire_octets net w l ≡ []
unfolding wire_octets
empty_wire net w l none = ap (map _) none

pub told_frames : {X : Type 0} (wire_says : Wire.Ghosts X) (net : Network) (w : World) (l : Lane) (wire : X) (all : List (List ℕ)) → WireStands wire_says net w l wire → wire_says.frames wire ≡ Some all →
    all ≡ wire_octets net w l
told_frames wire_says net w l wire all h is = subst (λ (o : Option (List (List ℕ))). IfSome o (λ xs. xs ≡ spelled_wire net w l)) is h.told ∙ sym (wire_is net w l)
