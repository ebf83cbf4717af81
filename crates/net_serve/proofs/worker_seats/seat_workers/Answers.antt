use Rattle.std.proofs.Common.{◌≡◌, ◌≤◌, ◌<◌, ◌+◌, ◌*◌, ◌%◌, ◌++◌, ◌∙◌, ℕ, List, length, map, get_or, ap, subst, arith}
use Rattle.std.proofs.Math.Nat.{mod-lt}
use Rattle.std.proofs.lemmas.List.{length-set}
use Rattle.std.proofs.lemmas.Grind.{common_steps}
use Rattle.std.proofs.lemmas.Option.{slice_get-get_or}
use Rattle.turnstile.specs.Names.{knows}
use Rattle.shared_objects.specs.Seats.{budget_at}
use Rattle.shared_objects.proofs.Going.{moved_over}
use Rattle.shared_objects.proofs.Zips.{was_at}
use Rattle.net_serve.specs.Seats.{budget_if, HasSeat}
use Rattle.net_serve.proofs.Gathering.{each_after, sum_after}
use Rattle.net_serve.proofs.Splitting.{as_long, fits_there, still_belong, split_own, split_share, split_left, new_seat}
use Rattle.net_serve.proofs.worker_seats.seat_workers.Goals as goal

pub bounds-kept-place : goal.bounds-kept-place
bounds-kept-place g c =
    let below = mod-lt c.len.result c.requires.some in
    let long = as_long c.args.managers.now.turnstiles.now c.loop-door.kept c.loop-door.invariant.kept in
    omega (arith, long, below)

pub split-seat-requires-clause-fits : goal.split-seat-requires-clause-fits
split-seat-requires-clause-fits g c =
    let below = mod-lt c.len.result c.requires.some in
    let long = as_long c.args.managers.now.turnstiles.now c.loop-door.kept c.loop-door.invariant.kept in
    let within : (c.len.result % length c.args.managers.now.turnstiles.now) < length c.loop-door.kept = omega (arith, long, below) in
    let et = slice_get-get_or c.args.managers.now.turnstiles.now (c.len.result % length c.args.managers.now.turnstiles.now) c.index-managers-place.result below in
    let ep = slice_get-get_or c.loop-door.kept (c.len.result % length c.args.managers.now.turnstiles.now) c.index-kept-place.result within in
    fits_there c.args.managers.now.turnstiles.now c.loop-door.kept (c.len.result % length c.args.managers.now.turnstiles.now) (get_or c.args.managers.now.turnstiles.now (c.len.result % length c.args.managers.now.turnstiles.now) c.index-managers-place.result) (get_or c.loop-door.kept (c.len.result % length c.args.managers.now.turnstiles.now) c.index-kept-place.result) (get_or c.loop-door.kept (c.len.result % length c.args.managers.now.turnstiles.now) c.index-kept-place.result) et ep c.loop-door.invariant.kept

pub split-seat-requires-clause-budget : goal.split-seat-requires-clause-budget
split-seat-requires-clause-budget g c =
    let inv = c.loop-door.invariant in
    let below = mod-lt c.len.result c.requires.some in
    let long = as_long c.args.managers.now.turnstiles.now c.loop-door.kept c.loop-door.invariant.kept in
    let within : (c.len.result % length c.args.managers.now.turnstiles.now) < length c.loop-door.kept = omega (arith, long, below) in
    let ep = slice_get-get_or c.loop-door.kept (c.len.result % length c.args.managers.now.turnstiles.now) c.index-kept-place.result within in
    let more : c.loop-door.door-iterator.rest.len ≡ c.next.new.self.rest.len + 1 = omega (arith, c.in-Some.ensures.steps.1) in
    let left = subst (λ (n : ℕ). n * c.args.calls ≤ budget_at (c.len.result % length c.args.managers.now.turnstiles.now) c.loop-door.kept) more (inv.budget (c.len.result % length c.args.managers.now.turnstiles.now) within) in
    let was = was_at (λ p. (knows p.seat).budget) 0 c.loop-door.kept (c.len.result % length c.args.managers.now.turnstiles.now) (get_or c.loop-door.kept (c.len.result % length c.args.managers.now.turnstiles.now) c.index-kept-place.result) ep in
    omega (arith, left, was)

pub loop-door-preserved : goal.loop-door-preserved
loop-door-preserved g c =
    let inv = c.loop-door.invariant in
    let below = mod-lt c.len.result c.requires.some in
    let long = as_long c.args.managers.now.turnstiles.now c.loop-door.kept c.loop-door.invariant.kept in
    let within : (c.len.result % length c.args.managers.now.turnstiles.now) < length c.loop-door.kept = omega (arith, long, below) in
    let et = slice_get-get_or c.args.managers.now.turnstiles.now (c.len.result % length c.args.managers.now.turnstiles.now) c.index-managers-place.result below in
    let ep = slice_get-get_or c.loop-door.kept (c.len.result % length c.args.managers.now.turnstiles.now) c.index-kept-place.result within in
    let more : c.loop-door.door-iterator.rest.len ≡ c.next.new.self.rest.len + 1 = omega (arith, c.in-Some.ensures.steps.1) in
    let left = subst (λ (n : ℕ). n * c.args.calls ≤ budget_at (c.len.result % length c.args.managers.now.turnstiles.now) c.loop-door.kept) more (inv.budget (c.len.result % length c.args.managers.now.turnstiles.now) within) in
    let enough : c.args.calls ≤ budget_at (c.len.result % length c.args.managers.now.turnstiles.now) c.loop-door.kept = omega (arith, left) in
    let here : c.unwrap-node.result ≡ (c.len.result % length c.args.managers.now.turnstiles.now) = grind (arith, common_steps, c.new.ensures, c.unwrap-node.ensures) in
    let charter = c.requires.charters (c.len.result % length c.args.managers.now.turnstiles.now) (get_or c.args.managers.now.turnstiles.now (c.len.result % length c.args.managers.now.turnstiles.now) c.index-managers-place.result) et in
    let site_is = charter.0 in
    let node_is = charter.1 in
    let place_is : c.len.result ≡ length c.loop-door.workers.items = omega (arith, c.len.ensures, c.loop-door.workers.ok.0) in
    record {
      next = tt;
      finite = tt;
      room = omega (arith, c.push_reserved.ensures.len, c.push_reserved.ensures.capacity, c.in-Some.ensures.steps.1, inv.room);
      kept = still_belong c.args.managers.now.turnstiles.now c.loop-door.kept (c.len.result % length c.args.managers.now.turnstiles.now) (get_or c.args.managers.now.turnstiles.now (c.len.result % length c.args.managers.now.turnstiles.now) c.index-managers-place.result) (get_or c.loop-door.kept (c.len.result % length c.args.managers.now.turnstiles.now) c.index-kept-place.result) (record { place = (get_or c.loop-door.kept (c.len.result % length c.args.managers.now.turnstiles.now) c.index-kept-place.result).place; seat = c.split-seat.new.seat }) et ep inv.kept c.split-seat.ensures.fits.0;
      own = λ v. split_own c.args.managers.now.turnstiles.now c.loop-door.kept (c.len.result % length c.args.managers.now.turnstiles.now) (get_or c.args.managers.now.turnstiles.now (c.len.result % length c.args.managers.now.turnstiles.now) c.index-managers-place.result) (get_or c.loop-door.kept (c.len.result % length c.args.managers.now.turnstiles.now) c.index-kept-place.result) (record { place = (get_or c.loop-door.kept (c.len.result % length c.args.managers.now.turnstiles.now) c.index-kept-place.result).place; seat = c.split-seat.new.seat }) et ep inv.kept c.args.calls c.split-seat.result c.split-seat.ensures.old c.split-seat.ensures.new enough v ∙ inv.own v;
      shares = λ v.
          let pushed = sum_after (λ w. budget_if v w.pass.node w.pass.seat) c.loop-door.workers.items c.push_reserved.new.self.items _ c.push_reserved.ensures.items in
          let share = split_share c.args.managers.now.turnstiles.now c.loop-door.kept (c.len.result % length c.args.managers.now.turnstiles.now) (get_or c.args.managers.now.turnstiles.now (c.len.result % length c.args.managers.now.turnstiles.now) c.index-managers-place.result) (get_or c.loop-door.kept (c.len.result % length c.args.managers.now.turnstiles.now) c.index-kept-place.result) (record { place = (get_or c.loop-door.kept (c.len.result % length c.args.managers.now.turnstiles.now) c.index-kept-place.result).place; seat = c.split-seat.new.seat }) et ep inv.kept c.args.calls c.split-seat.result c.split-seat.ensures.old c.split-seat.ensures.new enough v in
          let same = ap (λ (n : ℕ). budget_if v n c.split-seat.result) here in
          let before = inv.shares v in
          omega (arith, pushed, share, same, before);
      budget = λ v lt.
          split_left c.args.managers.now.turnstiles.now c.loop-door.kept (c.len.result % length c.args.managers.now.turnstiles.now) (get_or c.args.managers.now.turnstiles.now (c.len.result % length c.args.managers.now.turnstiles.now) c.index-managers-place.result) (get_or c.loop-door.kept (c.len.result % length c.args.managers.now.turnstiles.now) c.index-kept-place.result) (record { place = (get_or c.loop-door.kept (c.len.result % length c.args.managers.now.turnstiles.now) c.index-kept-place.result).place; seat = c.split-seat.new.seat }) et ep inv.kept c.args.calls c.split-seat.result c.split-seat.ensures.old c.split-seat.ensures.new enough c.next.new.self.rest.len v
          (subst (λ (n : ℕ). n * c.args.calls ≤ budget_at v c.loop-door.kept) more (inv.budget v (subst (λ (l : ℕ). v < l) (length-set c.loop-door.kept (c.len.result % length c.args.managers.now.turnstiles.now) (record { place = (get_or c.loop-door.kept (c.len.result % length c.args.managers.now.turnstiles.now) c.index-kept-place.result).place; seat = c.split-seat.new.seat })) lt)));
      doors = ap (λ (ps : List _). map (λ w. w.door) ps ++ c.next.new.self.rest.items) c.push_reserved.ensures.items
          ∙ moved_over (λ w. w.door) c.loop-door.workers.items _ c.next.new.self.rest.items
          ∙ subst (λ (xs : List _). map (λ w. w.door) c.loop-door.workers.items ++ xs ≡ c.args.doors.items) c.in-Some.ensures.steps.0 inv.doors;
      seats = each_after (λ k w. HasSeat (λ o. (o.site.value, o.node)) c.args.managers.now.site.now c.args.managers.now.turnstiles.now c.args.calls (k % length c.args.managers.now.turnstiles.now) w.pass.node w.pass.seat) c.loop-door.workers.items c.push_reserved.new.self.items _ c.push_reserved.ensures.items inv.seats
          (subst (λ (n : ℕ). HasSeat (λ o. (o.site.value, o.node)) c.args.managers.now.site.now c.args.managers.now.turnstiles.now c.args.calls (n % length c.args.managers.now.turnstiles.now) c.unwrap-node.result c.split-seat.result) place_is
          (new_seat (λ o. (o.site.value, o.node)) c.args.managers.now.site.now c.args.managers.now.turnstiles.now (c.len.result % length c.args.managers.now.turnstiles.now) c.unwrap-node.result c.args.calls (get_or c.args.managers.now.turnstiles.now (c.len.result % length c.args.managers.now.turnstiles.now) c.index-managers-place.result) (get_or c.loop-door.kept (c.len.result % length c.args.managers.now.turnstiles.now) c.index-kept-place.result) c.split-seat.result et (λ i. (site_is i, node_is i)) here c.split-seat.ensures.fits.1 c.split-seat.ensures.new));
    }
