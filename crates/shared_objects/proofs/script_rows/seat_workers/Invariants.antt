use Rattle.std.proofs.Common.{◌≡◌, ◌≤◌, ◌<◌, ◌+◌, ◌*◌, ◌++◌, ℕ, [], All, map, length, vec_len, vec_capacity}
use Rattle.std.specs.List.{AllZip, AllByRecursion}
use Rattle.shared_objects.specs.Seats.{calls_at, budget_at, Belongs, IsFresh}
use Rattle.shared_objects.proofs.script_rows.seat_workers.Given as goal

abbrev pub invariant-loop-keep : goal.invariant-loop-keep
invariant-loop-keep g l = record {
  next : (goal.iterator-loop-keep g).can_next l.keep-iterator;
  finite : (goal.iterator-loop-keep g).is_finite l.keep-iterator;
  rows : vec_len l.rows ≡ l.keep-iterator.rest.len;
  empty : All (λ row. (row.items ≡ []) × (length l.turnstiles ≤ vec_capacity row)) l.rows.items;
  room : vec_len l.passes + l.keep-iterator.rest.len ≤ vec_capacity l.passes;
  kept : AllZip Belongs l.turnstiles l.kept;
  own : (i : ℕ) → calls_at i l.kept ≡ calls_at i l.fn.kept;
  budget : (i : ℕ) → i < length l.kept → l.keep-iterator.rest.len * l.fn.calls ≡ budget_at i l.kept;
  fresh : AllByRecursion (λ pass. AllZip (IsFresh l.fn.calls) l.turnstiles pass.posts.items) l.passes.items;
  keeps : map (λ pass. pass.keep) l.passes.items ++ l.keep-iterator.rest.items ≡ l.fn.keeps.items;
}
