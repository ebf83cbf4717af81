use Rattle.std.proofs.Common.{◌≡◌, ◌≤◌, ◌+◌, vec_len, vec_capacity}
use Rattle.std.specs.Vec.{vec_ptr}
use Rattle.kme_shared.specs.Seats.{AreUsed, SitLanes}
use Rattle.kme_shared.proofs.block_desks.seat_lanes.Given as goal

abbrev pub invariant-loop : goal.invariant-loop
invariant-loop g l = record {
  turns : l.counter + vec_len l.lanes ≡ l.end;
  count : vec_len l.used ≡ vec_len l.lanes;
  few : vec_len l.lanes ≤ vec_len l.fn.lanes;
  owned : AreUsed l.lanes.items l.shares l.used.items;
  ptr : vec_ptr l.lanes ≡ vec_ptr l.fn.lanes;
  kept : vec_capacity l.lanes ≡ vec_capacity l.fn.lanes;
  seated : SitLanes (λ d. d.side) (λ d. d.shares.now) l.shares l.fn.lanes.items l.fn.machines.items l.lanes.items l.machines.items;
  room : vec_capacity l.machines ≡ vec_capacity l.fn.machines;
  long : vec_len l.machines + vec_len l.lanes ≡ vec_len l.fn.machines + vec_len l.fn.lanes;
}
