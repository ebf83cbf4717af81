-- A view as a list of numbers, so that two views can be compared by computation.
use Rattle.std.specs.Prelude.{ℕ, Bool, List, [], ◌∷◌, ◌++◌, length, map, Option, Some, None, if◌then◌else◌}
use Rattle.std.specs.List.{flat_map}
use Rattle.qkd_base.specs.Name.{Name, kind_number}
use Rattle.qkd_base.specs.Lane.{way_number}
use Rattle.qkd_base.specs.declared.lane.Lane.{Lane}
use Rattle.net_model.specs.declared.fact.Fact.{Fact}
use Rattle.net_model.specs.declared.fact.Fact.TheVariants.{Key, Chunk, Stored, Open, Joined, Part}
use Rattle.net_model.specs.Table.{name_of, route_of, bytes_of, kind_of}
use Rattle.net_model.specs.Item.{Item, DataItem, AckItem}
use Rattle.net_model.specs.World.{Transmission, Entry, PendingAck, Volatile}
use Rattle.net_model.specs.View.{View, Port}

abbrev pub listed : List ℕ → List ℕ
listed xs = length xs ∷ xs

abbrev pub name_numbers : Name → List ℕ
name_numbers n = n.node ∷ kind_number n.kind ∷ n.count ∷ []

abbrev pub pair_numbers : Name × ℕ → List ℕ
pair_numbers p = name_numbers p.0 ++ p.1 ∷ []

abbrev pub body_numbers : Fact → List ℕ
body_numbers (Key name master slave route bytes) = master ∷ slave ∷ []
body_numbers (Chunk name stream index route bytes) = name_numbers stream ++ index ∷ []
body_numbers (Stored note about route) = name_numbers about
body_numbers (Open stream source peer size route) = source ∷ peer ∷ size ∷ []
body_numbers (Joined note about route) = name_numbers about
body_numbers (Part name key master slave route bytes) = name_numbers key ++ master ∷ slave ∷ []

abbrev pub fact_numbers : Fact → List ℕ
fact_numbers f = kind_of f ∷ name_numbers (name_of f) ++ body_numbers f ++ listed (route_of f) ++ listed (bytes_of f)

abbrev pub lane_numbers : Lane → List ℕ
lane_numbers l = l.link ∷ way_number l.way ∷ []

abbrev pub item_numbers : Item → List ℕ
item_numbers (DataItem n) = 0 ∷ name_numbers n
item_numbers (AckItem n) = 1 ∷ name_numbers n

abbrev pub option_numbers : Option ℕ → List ℕ
option_numbers None = 0 ∷ []
option_numbers (Some n) = 1 ∷ n ∷ []

abbrev pub transmission_numbers : Transmission → List ℕ
transmission_numbers t = lane_numbers t.lane ++ item_numbers t.item ++ option_numbers t.received_offset

abbrev pub bit_number : Bool → ℕ
bit_number b = if b then 1 else 0

abbrev pub entry_numbers : Entry → List ℕ
entry_numbers e = transmission_numbers e.transmission ++ e.offset ∷ option_numbers e.number ++ e.age ∷ bit_number e.due ∷ listed e.frame

abbrev pub pending_numbers : PendingAck → List ℕ
pending_numbers a = lane_numbers a.lane ++ a.offset ∷ name_numbers a.name

abbrev pub volatile_numbers : Volatile → List ℕ
volatile_numbers vol =
    length vol.window ∷ flat_map entry_numbers vol.window ++ length vol.pending_acks ∷ flat_map pending_numbers vol.pending_acks ++
    length vol.awaiting ∷ flat_map transmission_numbers vol.awaiting

abbrev pub port_numbers : Port → List ℕ
port_numbers p = lane_numbers p.lane ++ p.lease ∷ p.planned ∷ p.recovered ∷ listed (map (λ (b : List ℕ). length b) p.blocks)

abbrev pub view_numbers : View → List ℕ
view_numbers v =
    v.me ∷ length v.facts ∷ flat_map fact_numbers v.facts ++ length v.acked ∷ flat_map name_numbers v.acked ++
    length v.handed ∷ flat_map pair_numbers v.handed ++ length v.closed ∷ flat_map pair_numbers v.closed ++
    length v.ports ∷ flat_map port_numbers v.ports ++ volatile_numbers v.volatile
