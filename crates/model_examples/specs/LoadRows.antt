-- The generated load of one round.
use Rattle.std.specs.Prelude.{◌≡◌, ◌∷◌, ℕ, ◌+◌, ◌*◌, ◌==◌, not, [], true, List, length, map}
use Rattle.std.specs.List.{flat_map}
use Rattle.qkd_base.specs.declared.lane.Way.TheVariants.{Up, Down}
use Rattle.qkd_base.specs.declared.key_name.NameKind.TheVariants.{Key}
use Rattle.net_model.specs.World.{Network, first}
use Rattle.net_model.specs.Deliveries.{deliveries}
use Rattle.declared_site.specs.SiteOf.{site_of}
use Rattle.run_types.specs.declared.command.Command.TheVariants.{Fill, Settle, Enc, Dec}
use Rattle.run_types.specs.declared.entry.Entry.{Entry}
use Rattle.run_types.specs.declared.entry.Entry.TheVariants as entries
use Rattle.run_types.specs.declared.item.Item.TheVariants as items
use Rattle.run_types.specs.declared.item.NumberedItem.{NumberedItem}
use Rattle.run_model.specs.Left.{to_masters, to_slaves}
use Rattle.run_model.specs.Load.{load_site, load_entries, load_nodes, load_pairs, round_lines}
use Rattle.run_model.specs.Headline.{written_of}
use Rattle.run_model.specs.Course.{Load}
use Rattle.model_examples.specs.Networks.{lane, key, a_name, counts, octets_on, network}
use Rattle.model_examples.specs.Row.{Step, Ran, at, line, ran}

abbrev pub step_of : Entry → List Step
step_of (entries.Line l) = line l.command ∷ []
step_of (entries.Block ls) = []

-- the declared site as functions; all pairs of two different applications are allowed
abbrev pub SiteOfLoad : Type 0
SiteOfLoad =
    let s = site_of load_site in
    (s.nodes ≡ 8) × (s.links ≡ 8) × (map s.low load_nodes ≡ 0 ∷ 1 ∷ 2 ∷ 3 ∷ 4 ∷ 5 ∷ 6 ∷ 0 ∷ []) × (map s.high load_nodes ≡ 1 ∷ 2 ∷ 3 ∷ 4 ∷ 5 ∷ 6 ∷ 7 ∷ 7 ∷ [])
    × (map s.home load_nodes ≡ load_nodes) × (length load_pairs ≡ 56)

abbrev pub load_net : Network
load_net = network (record (site_of load_site) { allowed = λ first last. not (first == last) }) (octets_on 0 128 ∷ [])

abbrev pub loaded : Ran
loaded = ran load_net (flat_map step_of (load_entries 1))

-- a lane on which nothing is sent
abbrev pub idle_lanes : ℕ → ℕ → List NumberedItem
idle_lanes number link =
    at number (items.Counted (lane link Up) (counts 1024 1016 8 0)) ∷ at (number + 1) (items.Counted (lane link Down) (counts 1024 1016 8 0)) ∷ []

-- Four keys go from node 0 to node 1. Each has an acknowledgement, a Stored note, and the acknowledgement of the note. So 8 + 4 * 66 + 4 * 25 bytes are spent
-- one way, and 8 + 4 * 25 + 4 * 44 the other.
abbrev pub LoadOfOne : Type 0
LoadOfOne =
    (written_of (Load 1) loaded.items ≡
    at 13 (items.Counted (lane 0 Up) (counts 1024 652 372 0)) ∷
    at 14 (items.Counted (lane 0 Down) (counts 1024 740 284 0)) ∷
    flat_map (λ link. idle_lanes (13 + 2 * link) link) (1 ∷ 2 ∷ 3 ∷ 4 ∷ 5 ∷ 6 ∷ 7 ∷ []))
    × (loaded.legal ≡ true)
    × (to_masters loaded.world (deliveries load_net first loaded.actions) ≡ 4)
    × (to_slaves loaded.world (deliveries load_net first loaded.actions) ≡ 4)

-- a later round: the names continue after those of the earlier rounds
abbrev pub LaterRound : Type 0
LaterRound =
    (round_lines 0 ∷ round_lines 9 ∷ []) ≡
    ((Fill 0 1 256 4 ∷ Settle 40 ∷ Enc 0 0 1 4 256 ∷ Dec 1 1 0 (key 1 ∷ key 2 ∷ key 3 ∷ key 4 ∷ []) ∷ []) ∷
    (Fill 1 4 256 4 ∷ Settle 40 ∷ Enc 1 1 4 4 256 ∷ Dec 4 4 1 (map (a_name 1 Key) (13 ∷ 14 ∷ 15 ∷ 16 ∷ [])) ∷ []) ∷ [])
