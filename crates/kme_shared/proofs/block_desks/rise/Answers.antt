use Rattle.std.proofs.Common.{◌≡◌, ◌+◌, ◌++◌, length, map, refl, sym, ap, subst, ◌∙◌, arith, append-nil}
use Rattle.shared_objects.proofs.Lasts.{front_moved, no_items}
use Rattle.kme_shared.specs.Seats.{lefts, rights}
use Rattle.kme_shared.proofs.Sitting.{left_first, right_first}
use Rattle.kme_shared.proofs.block_desks.rise.Goals as goal

pub loop-machine-preserved-in-Left : goal.loop-machine-preserved-in-Left
loop-machine-preserved-in-Left g c =
    let inv = c.loop-machine.invariant in
    let left = c.loop-machine.machine-iterator.rest.items in
    let rest = c.next.new.self.rest.items in
    let push = c.push_reserved.ensures in
    let posts = c.loop-machine.posts.items in
    let step = left_first left rest c.in-Some.machine c.in-Some.ensures.steps.0 c.in-Left.desk c.in-Left.is in
    let fewer = ap (λ ds. length ds) step.0 in
    record {
      next = tt;
      finite = tt;
      posts = front_moved (λ d. d.post) posts c.push_reserved.new.self.items c.in-Left.desk c.into_parts-post.result.0 (lefts left) (lefts rest) (c.args.posts.now.items ++ map (λ d. d.post) (lefts c.args.machines.items)) step.0 push.items
          c.into_parts-post.ensures.post inv.posts;
      seats = omega (arith, push.len, push.capacity, fewer, inv.seats);
      ptr = push.in_place ∙ inv.ptr;
      kept = push.capacity ∙ inv.kept;
      lanes = ap (λ ds. c.loop-machine.lanes.items ++ map (λ d. d.side) ds) (sym step.1) ∙ inv.lanes;
      places = (let same = ap (λ ds. length ds) step.1 in omega (arith, same, inv.places));
      there = inv.there;
      sized = inv.sized;
    }

pub loop-machine-preserved : goal.loop-machine-preserved
loop-machine-preserved g c =
    let inv = c.loop-machine.invariant in
    let left = c.loop-machine.machine-iterator.rest.items in
    let rest = c.next.new.self.rest.items in
    let push = c.push_reserved-in-Right.ensures in
    let lanes = c.loop-machine.lanes.items in
    let step = right_first left rest c.in-Some.machine c.in-Some.ensures.steps.0 c.in-Right.desk c.in-Right.is in
    let fewer = ap (λ ds. length ds) step.1 in
    record {
      next = tt;
      finite = tt;
      posts = ap (λ ds. c.loop-machine.posts.items ++ map (λ d. d.post) ds) (sym step.0) ∙ inv.posts;
      seats = (let same = ap (λ ds. length ds) step.0 in omega (arith, same, inv.seats));
      ptr = inv.ptr;
      kept = inv.kept;
      lanes = front_moved (λ d. d.side) lanes c.push_reserved-in-Right.new.self.items c.in-Right.desk c.into_side.result (rights left) (rights rest) (c.args.lanes.now.items ++ map (λ d. d.side) (rights c.args.machines.items)) step.1 push.items
          c.into_side.ensures inv.lanes;
      places = omega (arith, push.len, push.capacity, fewer, inv.places);
      there = push.in_place ∙ inv.there;
      sized = push.capacity ∙ inv.sized;
    }

pub returns-clause-posts : goal.returns-clause-posts
returns-clause-posts g c =
    let posts = c.loop-machine.posts.items in
    let empty = no_items c.loop-machine.machine-iterator.rest.items (sym c.loop-machine.machine-iterator.rest.ok.0 ∙ c.in-None.ensures.steps.0) in
    sym (append-nil posts) ∙ ap (λ ms. posts ++ map (λ d. d.post) (lefts ms)) (sym empty) ∙ c.loop-machine.invariant.posts

pub returns-clause-lanes : goal.returns-clause-lanes
returns-clause-lanes g c =
    let lanes = c.loop-machine.lanes.items in
    let empty = no_items c.loop-machine.machine-iterator.rest.items (sym c.loop-machine.machine-iterator.rest.ok.0 ∙ c.in-None.ensures.steps.0) in
    sym (append-nil lanes) ∙ ap (λ ms. lanes ++ map (λ d. d.side) (rights ms)) (sym empty) ∙ c.loop-machine.invariant.lanes
