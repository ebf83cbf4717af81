-- How records change a manager's ends of links.
use Rattle.std.proofs.Common.{◌≡◌, ℕ, ◌+◌, ◌<◌, ◌≤◌, true, false, List, [], ◌∷◌, ◌++◌, length, map, refl, sym, ap, subst, ◌∙◌, arith, length-append}
use Rattle.std.specs.Prelude.{◌==◌, ◌&&◌, nat_lt, nat_le, if◌then◌else◌}
use Rattle.std.proofs.lemmas.Bool.Decides.{nat_tests}
use Rattle.qkd_base.specs.Lane.{lane_eq}
use Rattle.qkd_base.specs.LaneBytes.{lane_len}
use Rattle.qkd_base.specs.declared.lane.Lane.{Lane}
use Rattle.qkd_base.specs.declared.lane.Way.{Way}
use Rattle.qkd_base.specs.declared.lane.Way.TheVariants.{Up, Down}
use Rattle.net_model.specs.declared.order.Order.{Order}
use Rattle.net_model.specs.declared.record.Record.{Record}
use Rattle.net_model.specs.declared.record.Record.TheVariants.{Block, Lease, Learned, Acked, Handed, Closed, Bare}
use Rattle.net_model.specs.View.{Port, received_of}
use Rattle.net_model.specs.Fold.{with_block, with_lease}
use Rattle.net_model.specs.Records.{keyed_lease, is_first}
use Rattle.law_base.proofs.Base.{and_left, and_right}
use Rattle.kme_base.specs.Places.{LinkEnds, HasRoomFor, HasBytesFor, lane_need}
use Rattle.kme_node.specs.Ports.{ports_by, ports_after}
use Rattle.kme_node.specs.Holdings.{HasBatchRoom, HasBlocksAlone}

-- the lanes stay the same

abbrev pub lanes_of : List Port → List Lane
lanes_of ports = map (λ (p : Port). p.lane) ports

block_lane : (link number : ℕ) (bytes : List ℕ) (p : Port) → (with_block link number bytes p).lane ≡ p.lane
block_lane link number bytes p = elim ((p.lane.link == link) && (number == length p.blocks) && nat_lt number 1024) as (λ t. (if t then
    record p {
      blocks = p.blocks ++ bytes ∷ [];
      lease = keyed_lease (received_of p) (lane_len p.lane.way (number + 1)) p.lease;
      planned = keyed_lease (received_of p) (lane_len p.lane.way (number + 1)) p.planned;
    } else p).lane ≡ p.lane) [ true ↦ refl | false ↦ refl ]

lease_lane : (lane : Lane) (end : ℕ) (p : Port) → (with_lease lane end p).lane ≡ p.lane
lease_lane lane end p = elim (lane_eq p.lane lane && nat_le p.lease end && nat_le end (received_of p)) as (λ t. (if t then record p { lease = end } else p).lane ≡ p.lane) [ true ↦ refl | false ↦ refl ]

pub same_lanes : (f : Port → Port) → ((p : Port) → (f p).lane ≡ p.lane) → (ports : List Port) → lanes_of (map f ports) ≡ lanes_of ports
same_lanes f each [] = refl
same_lanes f each (p ∷ ps) = ap (λ (l : Lane). l ∷ lanes_of (map f ps)) (each p) ∙ ap (λ (ls : List Lane). p.lane ∷ ls) (same_lanes f each ps)

pub lanes_by : (r : Record) (ports : List Port) → lanes_of (ports_by r ports) ≡ lanes_of ports
lanes_by (Block link number bytes) ports = same_lanes (with_block link number bytes) (block_lane link number bytes) ports
lanes_by (Lease lane end) ports = same_lanes (with_lease lane end) (lease_lane lane end) ports
lanes_by (Learned f) ports = refl
lanes_by (Acked n) ports = refl
lanes_by (Handed n sae) ports = refl
lanes_by (Closed n sae) ports = refl
lanes_by (Bare f) ports = refl

pub lanes_after : (rs : List Record) (ports : List Port) → lanes_of (ports_after rs ports) ≡ lanes_of ports
lanes_after [] ports = refl
lanes_after (r ∷ rs) ports = lanes_after rs (ports_by r ports) ∙ lanes_by r ports

-- bytes that suffice for orders still suffice after more records

keyed_fits : (before after planned need : ℕ) → planned + need ≤ before → before ≤ after → (0 < after → 8 ≤ after) → keyed_lease before after planned + need ≤ after
keyed_fits before after planned need fits grows whole = elim (is_first before after) as (λ t. is_first before after ≡ t → (if t then 8 else planned) + need ≤ after) [
  | true ↦ λ e.
      let none : (before == 0) ≡ true = and_left (before == 0) (nat_lt 0 after) e in
      let some : nat_lt 0 after ≡ true = and_right (before == 0) (nat_lt 0 after) e in
      let zero' : before ≡ 0 = grind (arith, nat_tests) in
      let first : 0 < after = grind (arith, nat_tests) in
      let eight = whole first in
      omega (arith, eight, zero', fits)
  | false ↦ λ e. omega (arith, fits, grows)
] refl

lane_grows : (way : Way) (blocks : ℕ) → lane_len way blocks ≤ lane_len way (blocks + 1)
lane_grows Up blocks = omega arith
lane_grows Down blocks = omega arith

lane_whole : (way : Way) (blocks : ℕ) → 0 < lane_len way blocks → 8 ≤ lane_len way blocks
lane_whole Up blocks some = omega (arith, some)
lane_whole Down blocks some = omega (arith, some)

abbrev Reaches : List Order → Port → Type 0
Reaches orders p = p.planned + lane_need p.lane orders ≤ received_of p

block_reaches : (orders : List Order) (link number : ℕ) (bytes : List ℕ) (p : Port) → Reaches orders p → Reaches orders (with_block link number bytes p)
block_reaches orders link number bytes p fits = elim ((p.lane.link == link) && (number == length p.blocks) && nat_lt number 1024) as (λ t.
    ((p.lane.link == link) && (number == length p.blocks) && nat_lt number 1024) ≡ t → Reaches orders (if t then
    record p {
      blocks = p.blocks ++ bytes ∷ [];
      lease = keyed_lease (received_of p) (lane_len p.lane.way (number + 1)) p.lease;
      planned = keyed_lease (received_of p) (lane_len p.lane.way (number + 1)) p.planned;
    } else p)) [
      | true ↦ λ e. here (and_right (p.lane.link == link) (number == length p.blocks) (and_left ((p.lane.link == link) && (number == length p.blocks)) (nat_lt number 1024) e))
      | false ↦ λ e. fits
    ] refl
  where
    here : (number == length p.blocks) ≡ true → keyed_lease (received_of p) (lane_len p.lane.way (number + 1)) p.planned + lane_need p.lane orders ≤ lane_len p.lane.way (length (p.blocks ++ bytes ∷ []))
    here e =
        let next : number ≡ length p.blocks = grind (arith, nat_tests) in
        let long : length (p.blocks ++ bytes ∷ []) ≡ number + 1 = length-append p.blocks (bytes ∷ []) ∙ ap (λ (n : ℕ). n + 1) (sym next) in
        subst (λ (n : ℕ). keyed_lease (received_of p) (lane_len p.lane.way (number + 1)) p.planned + lane_need p.lane orders ≤ lane_len p.lane.way n) (sym long)
        (keyed_fits (received_of p) (lane_len p.lane.way (number + 1)) p.planned (lane_need p.lane orders) fits
        (subst (λ (n : ℕ). lane_len p.lane.way n ≤ lane_len p.lane.way (number + 1)) next (lane_grows p.lane.way number)) (lane_whole p.lane.way (number + 1)))

lease_reaches : (orders : List Order) (lane : Lane) (end : ℕ) (p : Port) → Reaches orders p → Reaches orders (with_lease lane end p)
lease_reaches orders lane end p fits = elim (lane_eq p.lane lane && nat_le p.lease end && nat_le end (received_of p)) as (λ t. Reaches orders (if t then record p { lease = end } else p)) [ true ↦ fits | false ↦ fits ]

all_reach : (orders : List Order) (f : Port → Port) → ((p : Port) → Reaches orders p → Reaches orders (f p)) → (ports : List Port) → HasBytesFor orders ports → HasBytesFor orders (map f ports)
all_reach orders f each [] have = tt
all_reach orders f each (p ∷ ps) have = (each p have.0, all_reach orders f each ps have.1)

bytes_by : (orders : List Order) (r : Record) (ports : List Port) → HasBytesFor orders ports → HasBytesFor orders (ports_by r ports)
bytes_by orders (Block link number bytes) ports have = all_reach orders (with_block link number bytes) (block_reaches orders link number bytes) ports have
bytes_by orders (Lease lane end) ports have = all_reach orders (with_lease lane end) (lease_reaches orders lane end) ports have
bytes_by orders (Learned f) ports have = have
bytes_by orders (Acked n) ports have = have
bytes_by orders (Handed n sae) ports have = have
bytes_by orders (Closed n sae) ports have = have
bytes_by orders (Bare f) ports have = have

pub bytes_after : (orders : List Order) (rs : List Record) (ports : List Port) → HasBytesFor orders ports → HasBytesFor orders (ports_after rs ports)
bytes_after orders [] ports have = have
bytes_after orders (r ∷ rs) ports have = bytes_after orders rs (ports_by r ports) (bytes_by orders r ports have)

-- room for the block of a batch

leased_room : (lane : Lane) (end : ℕ) (ports : List Port) (spares : List ℕ) (link : ℕ) → HasRoomFor ports spares link → HasRoomFor (map (with_lease lane end) ports) spares link
leased_room lane end [] spares link room = tt
leased_room lane end (p ∷ ps) [] link room = tt
leased_room lane end (p ∷ ps) (n ∷ ns) link room = (λ is. room.0 (sym (ap (λ (l : Lane). l.link) (lease_lane lane end p)) ∙ is), leased_room lane end ps ns link room.1)

-- a lease takes no room
pub room_leased : (lane : Lane) (end : ℕ) (old new : LinkEnds) → new.ports ≡ map (with_lease lane end) old.ports → new.spares ≡ old.spares → (rs : List Record) → HasBatchRoom old rs → HasBatchRoom new rs
room_leased lane end old new ports spares [] room = tt
room_leased lane end old new ports spares (Block link number bytes ∷ rs) room =
    subst (λ (ps : List Port). HasRoomFor ps new.spares link) (sym ports) (subst (λ (ns : List ℕ). HasRoomFor (map (with_lease lane end) old.ports) ns link) (sym spares) (leased_room lane end old.ports old.spares link room))
room_leased lane end old new ports spares (Lease l e ∷ rs) room = room_leased lane end old new ports spares rs room
room_leased lane end old new ports spares (Learned f ∷ rs) room = room_leased lane end old new ports spares rs room
room_leased lane end old new ports spares (Acked n ∷ rs) room = room_leased lane end old new ports spares rs room
room_leased lane end old new ports spares (Handed n sae ∷ rs) room = room_leased lane end old new ports spares rs room
room_leased lane end old new ports spares (Closed n sae ∷ rs) room = room_leased lane end old new ports spares rs room
room_leased lane end old new ports spares (Bare f ∷ rs) room = room_leased lane end old new ports spares rs room

pub no_block : (ends : LinkEnds) (r : Record) (rs : List Record) → ((link number : ℕ) (bytes : List ℕ) → r ≡ Block link number bytes → ⊥) → HasBatchRoom ends rs → HasBatchRoom ends (r ∷ rs)
no_block ends (Block link number bytes) rs none room = absurd (none link number bytes refl)
no_block ends (Lease lane end) rs none room = room
no_block ends (Learned f) rs none room = room
no_block ends (Acked n) rs none room = room
no_block ends (Handed n sae) rs none room = room
no_block ends (Closed n sae) rs none room = room
no_block ends (Bare f) rs none room = room

-- the first record, and those after it

pub room_first : (ends : LinkEnds) (r : Record) (rs : List Record) → HasBatchRoom ends (r ∷ rs) → HasBatchRoom ends (r ∷ [])
room_first ends (Block link number bytes) rs room = room
room_first ends (Lease lane end) rs room = tt
room_first ends (Learned f) rs room = tt
room_first ends (Acked n) rs room = tt
room_first ends (Handed n sae) rs room = tt
room_first ends (Closed n sae) rs room = tt
room_first ends (Bare f) rs room = tt

pub alone_first : (r : Record) (rs : List Record) → HasBlocksAlone (r ∷ rs) → HasBlocksAlone (r ∷ [])
alone_first (Block link number bytes) rs fits = (fits.0, refl)
alone_first (Lease lane end) rs fits = tt
alone_first (Learned f) rs fits = tt
alone_first (Acked n) rs fits = tt
alone_first (Handed n sae) rs fits = tt
alone_first (Closed n sae) rs fits = tt
alone_first (Bare f) rs fits = tt

pub alone_rest : (r : Record) (rs : List Record) → HasBlocksAlone (r ∷ rs) → HasBlocksAlone rs
alone_rest (Block link number bytes) rs fits = subst HasBlocksAlone (sym fits.1) tt
alone_rest (Lease lane end) rs fits = fits
alone_rest (Learned f) rs fits = fits
alone_rest (Acked n) rs fits = fits
alone_rest (Handed n sae) rs fits = fits
alone_rest (Closed n sae) rs fits = fits
alone_rest (Bare f) rs fits = fits
