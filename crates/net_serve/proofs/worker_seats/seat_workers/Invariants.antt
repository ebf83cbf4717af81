use Rattle.std.proofs.Common.{◌≡◌, ◌≤◌, ◌<◌, ◌+◌, ◌*◌, ◌%◌, ◌++◌, ℕ, Some, map, length, slice_get, vec_len, vec_capacity}
use Rattle.std.specs.List.{AllZip, sum_by}
use Rattle.shared_objects.specs.Seats.{calls_at, budget_at, Belongs}
use Rattle.net_serve.specs.Seats.{budget_if, HasSeat}
use Rattle.net_serve.proofs.worker_seats.seat_workers.Given as goal

abbrev pub invariant-loop-door : goal.invariant-loop-door
invariant-loop-door g l = record {
  next : (goal.iterator-loop-door g).can_next l.door-iterator;
  finite : (goal.iterator-loop-door g).is_finite l.door-iterator;
  room : vec_len l.workers + l.door-iterator.rest.len ≤ vec_capacity l.workers;
  kept : AllZip Belongs l.managers.turnstiles.now l.kept;
  own : (v : ℕ) → calls_at v l.kept ≡ calls_at v l.fn.kept;
  shares : (v : ℕ) → budget_at v l.kept + sum_by (λ w. budget_if v w.pass.node w.pass.seat) l.workers.items ≡ budget_at v l.fn.kept;
  budget : (v : ℕ) → v < length l.kept → l.door-iterator.rest.len * l.fn.calls ≤ budget_at v l.kept;
  doors : map (λ w. w.door) l.workers.items ++ l.door-iterator.rest.items ≡ l.fn.doors.items;
  seats : (k : ℕ) (w : _) → slice_get l.workers.items k ≡ Some w →
      HasSeat (λ o. (o.site.value, o.node)) l.managers.site.now l.managers.turnstiles.now l.fn.calls (k % length l.managers.turnstiles.now) w.pass.node w.pass.seat;
}
