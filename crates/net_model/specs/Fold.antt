-- How records change a manager's view: after an event, and when a journal is read back.
use Rattle.std.specs.Prelude.{ℕ, ◌+◌, ◌==◌, ◌&&◌, ◌||◌, nat_lt, nat_le, Bool, false, List, [], ◌∷◌, ◌++◌, length, map, filter, if◌then◌else◌}
use Rattle.std.specs.List.{list_any}
use Rattle.qkd_base.specs.Name.{Name, name_eq}
use Rattle.qkd_base.specs.Lane.{lane_eq}
use Rattle.qkd_base.specs.declared.lane.Lane.{Lane}
use Rattle.net_model.specs.declared.fact.Fact.{Fact}
use Rattle.net_model.specs.declared.fact.Fact.TheVariants.{Key, Chunk, Part, Open}
use Rattle.net_model.specs.declared.record.Record.{Record}
use Rattle.net_model.specs.declared.record.Record.TheVariants.{Block, Lease, Learned, Acked, Handed, Closed, Bare}
use Rattle.net_model.specs.Table.{name_of, origin, target, learned, was_handed}
use Rattle.net_model.specs.Site.{Site, outgoing_lanes}
use Rattle.qkd_base.specs.LaneBytes.{lane_len}
use Rattle.net_model.specs.World.{Transmission, no_volatile, needs}
use Rattle.net_model.specs.View.{View, Port, received_of}
use Rattle.net_model.specs.Needed.{is_owed, masked}
use Rattle.net_model.specs.Records.{keyed_lease}
use Rattle.net_model.specs.Decision.{Effect}

-- a port after the next block of its link; the outgoing lane's first block brings its hash key
abbrev pub with_block : ℕ → ℕ → List ℕ → Port → Port
with_block link number bytes p =
    if (p.lane.link == link) && (number == length p.blocks) && nat_lt number 1024 then
    (let after = lane_len p.lane.way (number + 1) in
    record p {
      blocks = p.blocks ++ bytes ∷ [];
      lease = keyed_lease (received_of p) after p.lease;
      planned = keyed_lease (received_of p) after p.planned;
    })
    else p

abbrev pub with_lease : Lane → ℕ → Port → Port
with_lease l end p = if lane_eq p.lane l && nat_le p.lease end && nat_le end (received_of p) then record p { lease = end } else p

abbrev pub owes : View → Name → Bool
owes v n = list_any (λ f. name_eq (name_of f) n && is_owed v f) v.facts

abbrev pub is_end_of : View → Fact → Bool
is_end_of v f = (origin f == v.me) || (target f == v.me)

-- with this fact, the application may have got the key, chunk or group key of this name
abbrev pub is_handed_by : Name → ℕ → Fact → Bool
is_handed_by n sae (Key name master slave route bytes) = name_eq name n && ((master == sae) || (slave == sae))
is_handed_by n sae (Chunk name stream index route bytes) = name_eq name n
is_handed_by n sae (Part name key master slave route bytes) = name_eq key n && ((master == sae) || (slave == sae))
is_handed_by n sae _ = false

abbrev pub is_stream_of : Name → Fact → Bool
is_stream_of n (Open stream source peer size route) = name_eq stream n
is_stream_of n _ = false

-- a pair of a name and an application is marked only once
abbrev pub marked : List (Name × ℕ) → Name → ℕ → List (Name × ℕ)
marked pairs n sae = if was_handed pairs n sae then pairs else pairs ++ (n, sae) ∷ []

-- the view after one record; a record that doesn't fit changes nothing
unfoldable pub view_record : Record → View → View
view_record (Block link number bytes) v = record v { ports = map (with_block link number bytes) v.ports }
view_record (Lease lane end) v = record v { ports = map (with_lease lane end) v.ports }
view_record (Learned f) v = record v { facts = learned v.facts f }
view_record (Acked n) v = if owes v n then record v { acked = v.acked ++ n ∷ [] } else v
view_record (Handed n sae) v = if list_any (λ f. is_end_of v f && is_handed_by n sae f) v.facts then record v { handed = marked v.handed n sae } else v
view_record (Closed n sae) v = if list_any (λ f. is_end_of v f && is_stream_of n f) v.facts then record v { closed = marked v.closed n sae } else v
view_record (Bare f) v = record v { facts = learned v.facts f }

unfoldable pub view_records : List Record → View → View
view_records [] v = v
view_records (r ∷ rs) v = view_records rs (view_record r v)

-- the view after the records of a batch
abbrev pub view_batch : View → List Record → View
view_batch v batch = masked (view_records batch v)

abbrev pub on_lane : Lane → List Transmission → List Transmission
on_lane l ts = filter (λ t. lane_eq t.lane l) ts

-- the view after an effect: after its batch, with the new state of its life, and with the bytes that its orders plan
unfoldable pub view_after : View → Effect → View
view_after v effect =
    let next = view_batch v effect.batch in
    record next {
      volatile = effect.volatile;
      ports = map (λ (p : Port). record p { planned = p.planned + needs v.facts (on_lane p.lane effect.orders) }) next.ports;
    }

-- the view after a start: the state of the earlier life is gone, and each lane goes on at the end of its lease
unfoldable pub view_restarted : View → View
view_restarted v =
    record v { volatile = no_volatile; ports = map (λ (p : Port). record p { planned = p.lease; recovered = p.lease }) v.ports }

abbrev pub empty_port : Lane → Port
empty_port l = record { lane = l; blocks = []; lease = 0; planned = 0; recovered = 0 }

-- the view of a manager that knows nothing and has received nothing
abbrev pub empty_view : Site → ℕ → View
empty_view site me =
    record {
      me = me;
      facts = [];
      acked = [];
      handed = [];
      closed = [];
      ports = map empty_port (outgoing_lanes site me);
      volatile = no_volatile;
    }

abbrev pub view_batches : View → List (List Record) → View
view_batches v [] = v
view_batches v (b ∷ bs) = view_batches (view_batch v b) bs

-- the view of the manager that the batches of a journal give back
unfoldable pub recovered_view : Site → ℕ → List (List Record) → View
recovered_view site me batches = view_restarted (view_batches (empty_view site me) batches)
