use Rattle.std.proofs.Common.{◌≡◌, ◌+◌, ◌++◌, ◌∙◌, List, sym, ap, subst, arith, append_assoc}
use Rattle.std.specs.List.{AllZip, AllByRecursion, flat_map, sum_by}
use Rattle.std.proofs.lemmas.List.{append-nil, nil_from_length}
use Rattle.shared_objects.specs.Seats.{Belongs, calls_at, budget_at}
use Rattle.std.proofs.lemmas.List.Sums.{sum_by-cons}
use Rattle.shared_objects.proofs.rows.join_workers.Goals as goal

pub loop-pass-preserved : goal.loop-pass-preserved
loop-pass-preserved g c = record {
  next = tt;
  finite = tt;
  kept = c.join_row.ensures.kept;
  rows = (subst (λ (xs : List _). AllByRecursion (λ pass. AllZip (Belongs {g = g.M.Machine}) c.args.turnstiles.now pass.posts.items) xs) c.in-Some.ensures.steps.0 c.loop-pass.invariant.rows).1;
  own = λ i.
      ap (λ (u : List _). u ++ flat_map (λ pass. calls_at i pass.posts.items) c.next.new.self.rest.items) (c.join_row.ensures.own i)
      ∙ append_assoc (calls_at i c.loop-pass.kept) (calls_at i c.in-Some.pass.posts.items) (flat_map (λ pass. calls_at i pass.posts.items) c.next.new.self.rest.items)
      ∙ subst (λ (xs : List _). calls_at i c.loop-pass.kept ++ flat_map (λ pass. calls_at i pass.posts.items) xs ≡ calls_at i c.args.kept.now ++ flat_map (λ pass. calls_at i pass.posts.items) c.args.passes.items) c.in-Some.ensures.steps.0 (c.loop-pass.invariant.own i);
  budget = λ i.
      let s = subst (λ (xs : List _). budget_at i c.loop-pass.kept + sum_by (λ pass. budget_at i pass.posts.items) xs ≡ budget_at i c.args.kept.now + sum_by (λ pass. budget_at i pass.posts.items) c.args.passes.items) c.in-Some.ensures.steps.0 (c.loop-pass.invariant.budget i) in
      let f = sum_by-cons (λ pass. budget_at i pass.posts.items) c.in-Some.pass c.next.new.self.rest.items in
      omega (arith, s, f, c.join_row.ensures.budget i);
}

pub join_row-requires-clause-row : goal.join_row-requires-clause-row
join_row-requires-clause-row g c = (subst (λ (xs : List _). AllByRecursion (λ pass. AllZip (Belongs {g = g.M.Machine}) c.args.turnstiles.now pass.posts.items) xs) c.in-Some.ensures.steps.0 c.loop-pass.invariant.rows).0

pub returns-clause-own : goal.returns-clause-own
returns-clause-own g c = λ i.
    sym (append-nil (calls_at i c.loop-pass.kept))
    ∙ ap (λ (xs : List _). calls_at i c.loop-pass.kept ++ flat_map (λ pass. calls_at i pass.posts.items) xs) (sym (nil_from_length c.loop-pass.pass-iterator.rest.items (omega (arith, c.in-None.ensures.steps.0, c.loop-pass.pass-iterator.rest.ok.0))))
    ∙ c.loop-pass.invariant.own i

pub returns-clause-budget : goal.returns-clause-budget
returns-clause-budget g c = λ i.
    let s = subst (λ (xs : List _). budget_at i c.loop-pass.kept + sum_by (λ pass. budget_at i pass.posts.items) xs ≡ budget_at i c.args.kept.now + sum_by (λ pass. budget_at i pass.posts.items) c.args.passes.items)
    (nil_from_length c.loop-pass.pass-iterator.rest.items (omega (arith, c.in-None.ensures.steps.0, c.loop-pass.pass-iterator.rest.ok.0))) (c.loop-pass.invariant.budget i) in
    omega (arith, s)
