use Rattle.std.proofs.Common.{◌≡◌, ◌+◌, ◌*◌, ◌<◌, length, drop, slice_get, vec_len, vec_capacity}
use Rattle.std.specs.Option.{option_map}
use Rattle.qkd_base.specs.declared.lane.Lane.{Lane as LaneValue}
use Rattle.world_state.specs.Stands.{place_of}
use Rattle.net_world.specs.Laid.{without_bytes}
use Rattle.net_world.proofs.state_layout.lay_lanes.Given as goal

abbrev pub invariant-loop-number : goal.invariant-loop-number
invariant-loop-number g l = record {
  sides : length l.lanes.items ≡ 2 * l.number;
  lanes : (k : LaneValue) → k.link < l.number → slice_get l.lanes.items (place_of k) ≡ option_map (without_bytes k) (slice_get l.fn.wires.items (place_of k));
  wires : l.wires.items ≡ drop (2 * l.number) l.fn.wires.items;
  taken : vec_len l.lanes ≡ 2 * l.number;
  left : vec_len l.wires + 2 * l.number ≡ vec_len l.fn.wires;
  lane_room : vec_capacity l.lanes ≡ vec_capacity l.fn.lanes;
  wire_room : vec_capacity l.wires ≡ vec_capacity l.fn.wires;
}
