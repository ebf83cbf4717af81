use Rattle.std.proofs.Common.{◌≡◌, ◌≤◌, ◌<◌, ◌+◌, ◌*◌, ◌++◌, ℕ, [], All, map, length, vec_len, vec_capacity}
use Rattle.std.specs.List.{AllZip, AllByRecursion}
use Rattle.shared_objects.specs.Seats.{calls_at, budget_at, Belongs, IsFresh}
use Rattle.shared_objects.proofs.rows.seat_workers.Given as goal

abbrev pub invariant-loop-shift : goal.invariant-loop-shift
invariant-loop-shift g l = record {
  next : (goal.iterator-loop-shift g).can_next l.shift-iterator;
  finite : (goal.iterator-loop-shift g).is_finite l.shift-iterator;
  rows : vec_len l.rows ≡ l.shift-iterator.rest.len;
  empty : All (λ row. (row.items ≡ []) × (length l.turnstiles ≤ vec_capacity row)) l.rows.items;
  room : vec_len l.passes + l.shift-iterator.rest.len ≤ vec_capacity l.passes;
  kept : AllZip Belongs l.turnstiles l.kept;
  own : (i : ℕ) → calls_at i l.kept ≡ calls_at i l.fn.kept;
  budget : (i : ℕ) → i < length l.kept → l.shift-iterator.rest.len * l.fn.calls ≡ budget_at i l.kept;
  fresh : AllByRecursion (λ pass. AllZip (IsFresh l.fn.calls) l.turnstiles pass.posts.items) l.passes.items;
  shifts : map (λ pass. pass.shift) l.passes.items ++ l.shift-iterator.rest.items ≡ l.fn.shifts.items;
}
