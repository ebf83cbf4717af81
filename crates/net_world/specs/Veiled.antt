-- Counts of a veil: frames and changed bytes when all keys are complemented.
use Rattle.std.specs.Prelude.{ℕ, zero, suc, ◌+◌, ◌-◌, ◌==◌, List, [], ◌∷◌, map, length, if◌then◌else◌}
use Rattle.qkd_base.specs.declared.lane.Way.TheVariants.{Up, Down}
use Rattle.qkd_base.specs.declared.lane.Lane.{Lane}
use Rattle.net_model.specs.declared.fact.Fact.{Fact}
use Rattle.net_model.specs.declared.fact.Fact.TheVariants.{Key, Chunk, Part}
use Rattle.net_model.specs.declared.payload.Payload.{Payload}
use Rattle.net_model.specs.declared.payload.Payload.TheVariants.{Data, Ack}
use Rattle.net_model.specs.Site.{lane_of}
use Rattle.net_model.specs.World.{Network, World}
use Rattle.net_model.specs.Frames.{octets_sent}
use Rattle.net_world.specs.Other.{each_once, other_bytes}

-- each bit of the octets inverted
abbrev pub complement : List ℕ → List ℕ
complement octets = map (λ o. 255 - o) octets

-- the same fact with the complement of its bytes
abbrev pub veiled_fact : Fact → Fact
veiled_fact (Key name master slave route bytes) = Key name master slave route (complement bytes)
veiled_fact (Chunk name stream index route bytes) = Chunk name stream index route (complement bytes)
veiled_fact (Part name key master slave route bytes) = Part name key master slave route (complement bytes)
veiled_fact f = f

abbrev pub veiled_payload : Payload → Payload
veiled_payload (Data fact) = Data (veiled_fact fact)
veiled_payload (Ack name) = Ack name

abbrev pub veiled_facts : World → List Fact
veiled_facts w = map veiled_fact w.durable.facts

-- the number of places at which two lists differ
abbrev pub differences : List ℕ → List ℕ → ℕ
differences [] ys = 0
differences (x ∷ xs) [] = 0
differences (x ∷ xs) (y ∷ ys) = (if x == y then 0 else 1) + differences xs ys

-- the sum over both lanes of each of the first `links` links
abbrev pub over_lanes : (Lane → ℕ) → (links : ℕ) → ℕ
over_lanes f zero = 0
over_lanes f (suc link) = over_lanes f link + (f (lane_of link Up) + f (lane_of link Down))

-- the number of different frames on a lane's wire, and on all wires
abbrev pub frames_on : World → Lane → ℕ
frames_on w l = length (each_once (w.wire l))

unfoldable pub all_frames : Network → World → ℕ
all_frames net w = over_lanes (frames_on w) net.site.links

-- the number of bytes that a veil changes on a lane, and on all lanes
abbrev pub changed_on : Network → World → Lane → ℕ
changed_on net w l = differences (octets_sent net w l) (other_bytes net w (veiled_facts w) l)

unfoldable pub all_changed : Network → World → ℕ
all_changed net w = over_lanes (changed_on net w) net.site.links
