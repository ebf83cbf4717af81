use Rattle.std.proofs.Common.{◌≡◌, ◌<◌, ◌+◌, ◌++◌, ◌∙◌, ℕ, List, length, map, get_or, refl, sym, ap, subst, arith, append_assoc}
use Rattle.std.specs.List.{flat_map, sum_by}
use Rattle.std.proofs.lemmas.List.{append-nil, nil_from_length}
use Rattle.std.proofs.lemmas.List.Sums.{sum_by-cons}
use Rattle.std.proofs.lemmas.Option.{slice_get-get_or}
use Rattle.shared_objects.specs.Seats.{calls_at, budget_at}
use Rattle.shared_objects.proofs.Lasts.{front_moved}
use Rattle.net_serve.specs.Passes.{IsSeated}
use Rattle.net_serve.specs.Seats.{calls_if, budget_if}
use Rattle.net_serve.proofs.Splitting.{as_long, fits_there, still_belong, join_calls, join_budget, seated_within, seated_fits, uncons}
use Rattle.net_serve.proofs.worker_seats.join_workers.Goals as goal

pub bounds-kept-place : goal.bounds-kept-place
bounds-kept-place g c =
    let here : c.from-place.result ≡ c.in-Some.worker.pass.node = c.from-place.ensures ∙ c.get.ensures.number in
    let seats = uncons (λ w. IsSeated (λ o. (o.site.value, o.node)) c.args.managers.now.site.now c.args.managers.now.turnstiles.now w.pass.node w.pass.seat) c.loop-worker.worker-iterator.rest.items c.next.new.self.rest.items c.in-Some.worker c.in-Some.ensures.steps.0 c.loop-worker.invariant.seats in
    let below = seated_within (λ o. (o.site.value, o.node)) c.args.managers.now.site.now c.args.managers.now.turnstiles.now c.from-place.result c.in-Some.worker.pass.node c.in-Some.worker.pass.seat seats.0 here in
    let long = as_long c.args.managers.now.turnstiles.now c.loop-worker.kept c.loop-worker.invariant.kept in
    omega (arith, long, below)

pub bounds-managers-place : goal.bounds-managers-place
bounds-managers-place g c =
    let here : c.from-place.result ≡ c.in-Some.worker.pass.node = c.from-place.ensures ∙ c.get.ensures.number in
    let seats = uncons (λ w. IsSeated (λ o. (o.site.value, o.node)) c.args.managers.now.site.now c.args.managers.now.turnstiles.now w.pass.node w.pass.seat) c.loop-worker.worker-iterator.rest.items c.next.new.self.rest.items c.in-Some.worker c.in-Some.ensures.steps.0 c.loop-worker.invariant.seats in
    seated_within (λ o. (o.site.value, o.node)) c.args.managers.now.site.now c.args.managers.now.turnstiles.now c.from-place.result c.in-Some.worker.pass.node c.in-Some.worker.pass.seat seats.0 here

pub join-requires : goal.join-requires
join-requires g c =
    let here : c.from-place.result ≡ c.in-Some.worker.pass.node = c.from-place.ensures ∙ c.get.ensures.number in
    let seats = uncons (λ w. IsSeated (λ o. (o.site.value, o.node)) c.args.managers.now.site.now c.args.managers.now.turnstiles.now w.pass.node w.pass.seat) c.loop-worker.worker-iterator.rest.items c.next.new.self.rest.items c.in-Some.worker c.in-Some.ensures.steps.0 c.loop-worker.invariant.seats in
    let below = seated_within (λ o. (o.site.value, o.node)) c.args.managers.now.site.now c.args.managers.now.turnstiles.now c.from-place.result c.in-Some.worker.pass.node c.in-Some.worker.pass.seat seats.0 here in
    let long = as_long c.args.managers.now.turnstiles.now c.loop-worker.kept c.loop-worker.invariant.kept in
    let within : c.from-place.result < length c.loop-worker.kept = omega (arith, long, below) in
    let et = slice_get-get_or c.args.managers.now.turnstiles.now c.from-place.result c.index-managers-place.result below in
    let ep = slice_get-get_or c.loop-worker.kept c.from-place.result c.index-kept-place.result within in
    record {
      fits = (
        fits_there c.args.managers.now.turnstiles.now c.loop-worker.kept c.from-place.result (get_or c.args.managers.now.turnstiles.now c.from-place.result c.index-managers-place.result) (get_or c.loop-worker.kept c.from-place.result c.index-kept-place.result) (get_or c.loop-worker.kept c.from-place.result c.index-kept-place.result) et ep c.loop-worker.invariant.kept,
        seated_fits (λ o. (o.site.value, o.node)) c.args.managers.now.site.now c.args.managers.now.turnstiles.now c.from-place.result c.in-Some.worker.pass.node c.in-Some.worker.pass.seat seats.0 here (get_or c.args.managers.now.turnstiles.now c.from-place.result c.index-managers-place.result) et,
      );
    }

pub loop-worker-preserved : goal.loop-worker-preserved
loop-worker-preserved g c =
    let inv = c.loop-worker.invariant in
    let here : c.from-place.result ≡ c.in-Some.worker.pass.node = c.from-place.ensures ∙ c.get.ensures.number in
    let seats = uncons (λ w. IsSeated (λ o. (o.site.value, o.node)) c.args.managers.now.site.now c.args.managers.now.turnstiles.now w.pass.node w.pass.seat) c.loop-worker.worker-iterator.rest.items c.next.new.self.rest.items c.in-Some.worker c.in-Some.ensures.steps.0 c.loop-worker.invariant.seats in
    let below = seated_within (λ o. (o.site.value, o.node)) c.args.managers.now.site.now c.args.managers.now.turnstiles.now c.from-place.result c.in-Some.worker.pass.node c.in-Some.worker.pass.seat seats.0 here in
    let long = as_long c.args.managers.now.turnstiles.now c.loop-worker.kept c.loop-worker.invariant.kept in
    let within : c.from-place.result < length c.loop-worker.kept = omega (arith, long, below) in
    let et = slice_get-get_or c.args.managers.now.turnstiles.now c.from-place.result c.index-managers-place.result below in
    let ep = slice_get-get_or c.loop-worker.kept c.from-place.result c.index-kept-place.result within in
    record {
      next = tt;
      finite = tt;
      room = omega (arith, c.push_reserved.ensures.len, c.push_reserved.ensures.capacity, c.in-Some.ensures.steps.1, inv.room);
      kept = still_belong c.args.managers.now.turnstiles.now c.loop-worker.kept c.from-place.result (get_or c.args.managers.now.turnstiles.now c.from-place.result c.index-managers-place.result) (get_or c.loop-worker.kept c.from-place.result c.index-kept-place.result) (record { place = (get_or c.loop-worker.kept c.from-place.result c.index-kept-place.result).place; seat = c.join.new.seat }) et ep inv.kept c.join.ensures.fits;
      seats = seats.1;
      own = λ v.
          ap (λ (u : List _). u ++ flat_map (λ w. calls_if v w.pass.node w.pass.seat) c.next.new.self.rest.items) (join_calls c.args.managers.now.turnstiles.now c.loop-worker.kept c.from-place.result (get_or c.args.managers.now.turnstiles.now c.from-place.result c.index-managers-place.result) (get_or c.loop-worker.kept c.from-place.result c.index-kept-place.result) (record { place = (get_or c.loop-worker.kept c.from-place.result c.index-kept-place.result).place; seat = c.join.new.seat }) et ep inv.kept c.in-Some.worker.pass.seat c.join.ensures.own v)
          ∙ append_assoc (calls_at v c.loop-worker.kept) (calls_if v c.from-place.result c.in-Some.worker.pass.seat) (flat_map (λ w. calls_if v w.pass.node w.pass.seat) c.next.new.self.rest.items)
          ∙ ap (λ (n : ℕ). calls_at v c.loop-worker.kept ++ (calls_if v n c.in-Some.worker.pass.seat ++ flat_map (λ w. calls_if v w.pass.node w.pass.seat) c.next.new.self.rest.items)) here
          ∙ subst (λ (xs : List _). calls_at v c.loop-worker.kept ++ flat_map (λ w. calls_if v w.pass.node w.pass.seat) xs ≡ calls_at v c.args.kept.now ++ flat_map (λ w. calls_if v w.pass.node w.pass.seat) c.args.workers.items) c.in-Some.ensures.steps.0 (inv.own v);
      budget = λ v.
          let s = subst (λ (xs : List _). budget_at v c.loop-worker.kept + sum_by (λ w. budget_if v w.pass.node w.pass.seat) xs ≡ budget_at v c.args.kept.now + sum_by (λ w. budget_if v w.pass.node w.pass.seat) c.args.workers.items) c.in-Some.ensures.steps.0 (inv.budget v) in
          let f = sum_by-cons (λ w. budget_if v w.pass.node w.pass.seat) c.in-Some.worker c.next.new.self.rest.items in
          let j = join_budget c.args.managers.now.turnstiles.now c.loop-worker.kept c.from-place.result (get_or c.args.managers.now.turnstiles.now c.from-place.result c.index-managers-place.result) (get_or c.loop-worker.kept c.from-place.result c.index-kept-place.result) (record { place = (get_or c.loop-worker.kept c.from-place.result c.index-kept-place.result).place; seat = c.join.new.seat }) et ep inv.kept c.in-Some.worker.pass.seat c.join.ensures.budget v in
          let same = ap (λ (n : ℕ). budget_if v n c.in-Some.worker.pass.seat) here in
          omega (arith, s, f, j, same);
      doors = front_moved (λ w. w.door) c.loop-worker.doors.items c.push_reserved.new.self.items c.in-Some.worker c.in-Some.worker.door c.loop-worker.worker-iterator.rest.items c.next.new.self.rest.items (map (λ w. w.door) c.args.workers.items) c.in-Some.ensures.steps.0
          c.push_reserved.ensures.items refl inv.doors;
    }

pub returns-clause-own : goal.returns-clause-own
returns-clause-own g c = λ v.
    sym (append-nil (calls_at v c.loop-worker.kept))
    ∙ ap (λ (xs : List _). calls_at v c.loop-worker.kept ++ flat_map (λ w. calls_if v w.pass.node w.pass.seat) xs) (sym (nil_from_length c.loop-worker.worker-iterator.rest.items (omega (arith, c.in-None.ensures.steps.0, c.loop-worker.worker-iterator.rest.ok.0))))
    ∙ c.loop-worker.invariant.own v

pub returns-clause-budget : goal.returns-clause-budget
returns-clause-budget g c = λ v.
    let s = subst (λ (xs : List _). budget_at v c.loop-worker.kept + sum_by (λ w. budget_if v w.pass.node w.pass.seat) xs ≡ budget_at v c.args.kept.now + sum_by (λ w. budget_if v w.pass.node w.pass.seat) c.args.workers.items)
    (nil_from_length c.loop-worker.worker-iterator.rest.items (omega (arith, c.in-None.ensures.steps.0, c.loop-worker.worker-iterator.rest.ok.0))) (c.loop-worker.invariant.budget v) in
    omega (arith, s)
