use Rattle.std.proofs.Common.{◌≡◌, ◌≤◌, ◌+◌, ◌++◌, ℕ, map, vec_len, vec_capacity}
use Rattle.std.specs.List.{AllZip, AllByRecursion, flat_map, sum_by}
use Rattle.shared_objects.specs.Seats.{calls_at, budget_at, Belongs}
use Rattle.shared_objects.proofs.script_rows.join_workers.Given as goal

abbrev pub invariant-loop-pass : goal.invariant-loop-pass
invariant-loop-pass g l = record {
  next : (goal.iterator-loop-pass g).can_next l.pass-iterator;
  finite : (goal.iterator-loop-pass g).is_finite l.pass-iterator;
  kept : AllZip Belongs l.turnstiles l.kept;
  rows : AllByRecursion (λ pass. AllZip Belongs l.turnstiles pass.posts.items) l.pass-iterator.rest.items;
  own : (i : ℕ) → calls_at i l.kept ++ flat_map (λ pass. calls_at i pass.posts.items) l.pass-iterator.rest.items ≡ calls_at i l.fn.kept ++ flat_map (λ pass. calls_at i pass.posts.items) l.fn.passes.items;
  budget : (i : ℕ) → budget_at i l.kept + sum_by (λ pass. budget_at i pass.posts.items) l.pass-iterator.rest.items ≡ budget_at i l.fn.kept + sum_by (λ pass. budget_at i pass.posts.items) l.fn.passes.items;
  keeps : l.keeps.items ++ map (λ pass. pass.keep) l.pass-iterator.rest.items ≡ map (λ pass. pass.keep) l.fn.passes.items;
  room : vec_len l.keeps + l.pass-iterator.rest.len ≤ vec_capacity l.keeps;
}
