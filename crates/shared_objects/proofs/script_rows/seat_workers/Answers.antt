use Rattle.std.proofs.Common.{◌≡◌, ◌≤◌, ◌<◌, ◌+◌, ◌*◌, ◌++◌, [], ◌∙◌, ℕ, List, map, length, vec_capacity, sym, ap, subst, arith}
use Rattle.std.specs.List.{AllZip, AllByRecursion}
use Rattle.block_run.proofs.Lasts.{the_last, all_but_last}
use Rattle.shared_objects.specs.Seats.{IsFresh, budget_at}
use Rattle.shared_objects.proofs.Zips.{all_push}
use Rattle.shared_objects.proofs.Going.{moved_over}
use Rattle.shared_objects.proofs.script_rows.seat_workers.Goals as goal

pub split_row-requires-clause-none : goal.split_row-requires-clause-none
split_row-requires-clause-none g c = (the_last (λ row. (row.items ≡ []) × (length c.args.turnstiles.now ≤ vec_capacity row)) c.loop-keep.rows.items c.take_last-posts.new.self.items c.take_last-posts.result c.take_last-posts.ensures.items c.loop-keep.invariant.empty).0

pub split_row-requires-clause-room : goal.split_row-requires-clause-room
split_row-requires-clause-room g c = (the_last (λ row. (row.items ≡ []) × (length c.args.turnstiles.now ≤ vec_capacity row)) c.loop-keep.rows.items c.take_last-posts.new.self.items c.take_last-posts.result c.take_last-posts.ensures.items c.loop-keep.invariant.empty).1

pub split_row-requires-clause-budget : goal.split_row-requires-clause-budget
split_row-requires-clause-budget g c = λ i lt.
    let e : c.loop-keep.keep-iterator.rest.len ≡ c.next.new.self.rest.len + 1 = omega (arith, c.in-Some.ensures.steps.1) in
    let b = subst (λ (n : ℕ). n * c.args.calls ≡ budget_at i c.loop-keep.kept) e (c.loop-keep.invariant.budget i lt) in
    omega (arith, b)

pub loop-keep-preserved : goal.loop-keep-preserved
loop-keep-preserved g c = record {
  next = tt;
  finite = tt;
  rows = omega (arith, c.take_last-posts.ensures.len, c.loop-keep.invariant.rows, c.in-Some.ensures.steps.1);
  empty = all_but_last (λ row. (row.items ≡ []) × (length c.args.turnstiles.now ≤ vec_capacity row)) c.loop-keep.rows.items c.take_last-posts.new.self.items c.take_last-posts.result c.take_last-posts.ensures.items c.loop-keep.invariant.empty;
  room = omega (arith, c.push_reserved.ensures.len, c.push_reserved.ensures.capacity, c.loop-keep.invariant.room, c.in-Some.ensures.steps.1);
  kept = c.split_row.ensures.kept;
  own = λ i. c.split_row.ensures.own i ∙ c.loop-keep.invariant.own i;
  budget = λ i lt.
      let e : c.loop-keep.keep-iterator.rest.len ≡ c.next.new.self.rest.len + 1 = omega (arith, c.in-Some.ensures.steps.1) in
      let old : i < length c.loop-keep.kept = omega (arith, lt, c.split_row.auto.kept) in
      let b = subst (λ (n : ℕ). n * c.args.calls ≡ budget_at i c.loop-keep.kept) e (c.loop-keep.invariant.budget i old) in
      omega (arith, b, c.split_row.ensures.budget i old);
  fresh = subst (λ (ps : List _). AllByRecursion (λ pass. AllZip (IsFresh {g = g.M.Machine} c.args.calls) c.args.turnstiles.now pass.posts.items) ps) (sym c.push_reserved.ensures.items)
      (all_push (λ pass. AllZip (IsFresh {g = g.M.Machine} c.args.calls) c.args.turnstiles.now pass.posts.items) c.loop-keep.passes.items _ c.loop-keep.invariant.fresh c.split_row.ensures.row);
  keeps = ap (λ (ps : List _). map (λ pass. pass.keep) ps ++ c.next.new.self.rest.items) c.push_reserved.ensures.items
      ∙ moved_over (λ pass. pass.keep) c.loop-keep.passes.items _ c.next.new.self.rest.items
      ∙ subst (λ (xs : List _). map (λ pass. pass.keep) c.loop-keep.passes.items ++ xs ≡ c.args.keeps.items) c.in-Some.ensures.steps.0 c.loop-keep.invariant.keeps;
}
