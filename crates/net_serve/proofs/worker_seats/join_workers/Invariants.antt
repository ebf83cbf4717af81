use Rattle.std.proofs.Common.{◌≡◌, ◌≤◌, ◌+◌, ◌++◌, ℕ, map, vec_len, vec_capacity}
use Rattle.std.specs.List.{AllZip, AllByRecursion, flat_map, sum_by}
use Rattle.shared_objects.specs.Seats.{calls_at, budget_at, Belongs}
use Rattle.net_serve.specs.Passes.{IsSeated}
use Rattle.net_serve.specs.Seats.{calls_if, budget_if}
use Rattle.net_serve.proofs.worker_seats.join_workers.Given as goal

abbrev pub invariant-loop-worker : goal.invariant-loop-worker
invariant-loop-worker g l = record {
  next : (goal.iterator-loop-worker g).can_next l.worker-iterator;
  finite : (goal.iterator-loop-worker g).is_finite l.worker-iterator;
  room : vec_len l.doors + l.worker-iterator.rest.len ≤ vec_capacity l.doors;
  kept : AllZip Belongs l.managers.turnstiles.now l.kept;
  seats : AllByRecursion (λ w. IsSeated (λ o. (o.site.value, o.node)) l.managers.site.now l.managers.turnstiles.now w.pass.node w.pass.seat) l.worker-iterator.rest.items;
  own : (v : ℕ) → calls_at v l.kept ++ flat_map (λ w. calls_if v w.pass.node w.pass.seat) l.worker-iterator.rest.items
      ≡ calls_at v l.fn.kept ++ flat_map (λ w. calls_if v w.pass.node w.pass.seat) l.fn.workers.items;
  budget : (v : ℕ) → budget_at v l.kept + sum_by (λ w. budget_if v w.pass.node w.pass.seat) l.worker-iterator.rest.items
      ≡ budget_at v l.fn.kept + sum_by (λ w. budget_if v w.pass.node w.pass.seat) l.fn.workers.items;
  doors : l.doors.items ++ map (λ w. w.door) l.worker-iterator.rest.items ≡ map (λ w. w.door) l.fn.workers.items;
}
