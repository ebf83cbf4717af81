use Rattle.std.proofs.Common.{◌≡◌, ◌∙◌, ◌*◌, ℕ, true, false, length, Err, is_ok, refl, sym, ap, subst, arith}
use Rattle.std.specs.List.{AllZip, list_all}
use Rattle.std.proofs.lemmas.Result.{IfOk-at_ok}
use Rattle.shared_objects.specs.Seats.{IsOpened}
use Rattle.shared_objects.proofs.Opening.{fresh_budget, opened_fresh, opened_belong}
use Rattle.kme_serve.specs.declared.refusal.ServeRefusal.TheVariants as refusals
use Rattle.net_serve.proofs.Doors.{may_serve, all_seated, all_whole, nothing_asked, all_asked, one_failed, not_wanting, listened, done_well}
use Rattle.net_serve.proofs.door_workers.serve_doors.Goals as goal

pub seat_workers-requires-clause-fits : goal.seat_workers-requires-clause-fits
seat_workers-requires-clause-fits g c = opened_belong (length c.args.served.doors.items * (1000 * c.args.served.connections)) c.args.managers.now.turnstiles.now c.args.kept.now c.requires.opened

pub seat_workers-requires-clause-budget : goal.seat_workers-requires-clause-budget
seat_workers-requires-clause-budget g c v lt =
    let has = fresh_budget (length c.args.served.doors.items * (1000 * c.args.served.connections)) c.args.managers.now.turnstiles.now v c.args.kept.now (opened_fresh (length c.args.served.doors.items * (1000 * c.args.served.connections)) c.args.managers.now.turnstiles.now c.args.kept.now c.requires.opened) lt in
    let same = ap (λ (n : ℕ). length c.args.served.doors.items * (1000 * n)) c.count-calls.ensures.number in
    omega (arith, has, same)

pub serve-ended-requires-clause-may : goal.serve-ended-requires-clause-may
serve-ended-requires-clause-may g c κs within =
    may_serve (λ o. (o.site.value, o.node)) c.args.managers.now.site.now c.args.managers.now.turnstiles.now (λ p. p.node) (λ p. p.seat) (λ w. w.pass) (λ w. w.door) (λ w. w.outcome) (1000 * c.count-calls.result) c.seat_workers.new.workers.items c.args.served.doors.items c.seat_workers.ensures.doors c.seat_workers.ensures.seats g.D.Listener.accepted g.D.Listener.finished (λ d. record { port = g.D.Listener.port d; accepted = g.D.Listener.accepted d; finished = g.D.Listener.finished d; waiting = g.D.Listener.waiting d; done = g.D.Listener.done d }) c.args.api.now.entitlements (length c.args.managers.now.turnstiles.now) c.args.served.connections (λ d. refl) (λ d. refl) refl c.requires.node c.requires.nodes c.requires.declared c.requires.api.1
    (ap (λ (n : ℕ). 1000 * n) c.count-calls.ensures.number) c.requires.fresh

pub join_workers-requires-clause-seats : goal.join_workers-requires-clause-seats
join_workers-requires-clause-seats g c = all_seated (λ o. (o.site.value, o.node)) c.args.managers.now.site.now c.args.managers.now.turnstiles.now (λ p. p.node) (λ p. p.seat) (λ w. w.pass) (λ w. w.door) (λ w. w.outcome) (1000 * c.count-calls.result) c.seat_workers.new.workers.items c.args.served.doors.items c.seat_workers.ensures.doors c.seat_workers.ensures.seats (λ d. record { port = g.D.Listener.port d; accepted = g.D.Listener.accepted d; finished = g.D.Listener.finished d; waiting = g.D.Listener.waiting d; done = g.D.Listener.done d }) g.D.Listener.faults c.args.api.now.nodes c.args.api.now.entitlements (length c.args.managers.now.turnstiles.now) c.args.served.connections refl c.serve-ended.result.0 c.serve-ended.result.1.items c.serve-ended.ensures.length (λ e. ap (λ v. v.items) (c.serve-ended.ensures.memory e)) c.serve-ended.ensures.served

pub returns-in-Ok-clause-whole : goal.returns-in-Ok-clause-whole
returns-in-Ok-clause-whole g c = all_whole (λ o. (o.site.value, o.node)) c.args.managers.now.site.now c.args.managers.now.turnstiles.now (λ p. p.node) (λ p. p.seat) (λ w. w.pass) (λ w. w.door) (λ w. w.outcome) (1000 * c.count-calls.result) c.seat_workers.new.workers.items c.args.served.doors.items c.seat_workers.ensures.doors c.seat_workers.ensures.seats (λ d. record { port = g.D.Listener.port d; accepted = g.D.Listener.accepted d; finished = g.D.Listener.finished d; waiting = g.D.Listener.waiting d; done = g.D.Listener.done d }) g.D.Listener.faults c.args.api.now.nodes c.args.api.now.entitlements (length c.args.managers.now.turnstiles.now) c.args.served.connections refl c.serve-ended.result.0 c.serve-ended.result.1.items c.serve-ended.ensures.length (λ e. ap (λ v. v.items) (c.serve-ended.ensures.memory e)) c.serve-ended.ensures.served c.args.kept.now c.seat_workers.new.kept c.join_workers.new.kept (subst (λ (n : ℕ). AllZip (IsOpened (length c.args.served.doors.items * (1000 * n))) c.args.managers.now.turnstiles.now c.args.kept.now) (sym c.count-calls.ensures.number) c.requires.opened) c.seat_workers.ensures.own c.seat_workers.ensures.shares c.join_workers.ensures.kept c.join_workers.ensures.own c.join_workers.ensures.budget

pub returns-in-Ok-clause-asked : goal.returns-in-Ok-clause-asked
returns-in-Ok-clause-asked g c _ =
    all_asked (λ o. (o.site.value, o.node)) c.args.managers.now.site.now c.args.managers.now.turnstiles.now (λ p. p.node) (λ p. p.seat) (λ w. w.pass) (λ w. w.door) (λ w. w.outcome) (1000 * c.count-calls.result) c.seat_workers.new.workers.items c.args.served.doors.items c.seat_workers.ensures.doors c.seat_workers.ensures.seats (λ d. record { port = g.D.Listener.port d; accepted = g.D.Listener.accepted d; finished = g.D.Listener.finished d; waiting = g.D.Listener.waiting d; done = g.D.Listener.done d }) g.D.Listener.faults c.args.api.now.nodes c.args.api.now.entitlements (length c.args.managers.now.turnstiles.now) c.args.served.connections refl c.serve-ended.result.0 c.serve-ended.result.1.items c.serve-ended.ensures.length (λ e. ap (λ v. v.items) (c.serve-ended.ensures.memory e)) c.serve-ended.ensures.served c.args.kept.now c.seat_workers.new.kept c.join_workers.new.kept (subst (λ (n : ℕ). AllZip (IsOpened (length c.args.served.doors.items * (1000 * n))) c.args.managers.now.turnstiles.now c.args.kept.now) (sym c.count-calls.ensures.number) c.requires.opened) c.seat_workers.ensures.own c.seat_workers.ensures.shares c.join_workers.ensures.kept c.join_workers.ensures.own c.join_workers.ensures.budget c.join_workers.new.doors.items c.join_workers.ensures.doors true c.requires.api.0 c.requires.api.1 (done_well c.serve-ended.result.0 _ c.in-Ok.is)
    (IfOk-at_ok (λ _. list_all (λ t. is_ok t.outcome) c.serve-ended.result.1.items ≡ true) c.in-Ok.is c.serve-ended.ensures.all)

pub returns-in-Err-clause-whole : goal.returns-in-Err-clause-whole
returns-in-Err-clause-whole g c = all_whole (λ o. (o.site.value, o.node)) c.args.managers.now.site.now c.args.managers.now.turnstiles.now (λ p. p.node) (λ p. p.seat) (λ w. w.pass) (λ w. w.door) (λ w. w.outcome) (1000 * c.count-calls.result) c.seat_workers.new.workers.items c.args.served.doors.items c.seat_workers.ensures.doors c.seat_workers.ensures.seats (λ d. record { port = g.D.Listener.port d; accepted = g.D.Listener.accepted d; finished = g.D.Listener.finished d; waiting = g.D.Listener.waiting d; done = g.D.Listener.done d }) g.D.Listener.faults c.args.api.now.nodes c.args.api.now.entitlements (length c.args.managers.now.turnstiles.now) c.args.served.connections refl c.serve-ended.result.0 c.serve-ended.result.1.items c.serve-ended.ensures.length (λ e. ap (λ v. v.items) (c.serve-ended.ensures.memory e)) c.serve-ended.ensures.served c.args.kept.now c.seat_workers.new.kept c.join_workers.new.kept (subst (λ (n : ℕ). AllZip (IsOpened (length c.args.served.doors.items * (1000 * n))) c.args.managers.now.turnstiles.now c.args.kept.now) (sym c.count-calls.ensures.number) c.requires.opened) c.seat_workers.ensures.own c.seat_workers.ensures.shares c.join_workers.ensures.kept c.join_workers.ensures.own c.join_workers.ensures.budget

pub returns-in-Err-clause-memory : goal.returns-in-Err-clause-memory
returns-in-Err-clause-memory g c e =
    let same : c.in-Err.refusal ≡ refusals.Memory = cc in
    nothing_asked (λ o. (o.site.value, o.node)) c.args.managers.now.site.now c.args.managers.now.turnstiles.now (λ p. p.node) (λ p. p.seat) (λ w. w.pass) (λ w. w.door) (λ w. w.outcome) (1000 * c.count-calls.result) c.seat_workers.new.workers.items c.args.served.doors.items c.seat_workers.ensures.doors c.seat_workers.ensures.seats (λ d. record { port = g.D.Listener.port d; accepted = g.D.Listener.accepted d; finished = g.D.Listener.finished d; waiting = g.D.Listener.waiting d; done = g.D.Listener.done d }) g.D.Listener.faults c.args.api.now.nodes c.args.api.now.entitlements (length c.args.managers.now.turnstiles.now) c.args.served.connections refl c.serve-ended.result.0 c.serve-ended.result.1.items c.serve-ended.ensures.length (λ e. ap (λ v. v.items) (c.serve-ended.ensures.memory e)) c.serve-ended.ensures.served c.args.kept.now c.seat_workers.new.kept c.join_workers.new.kept (subst (λ (n : ℕ). AllZip (IsOpened (length c.args.served.doors.items * (1000 * n))) c.args.managers.now.turnstiles.now c.args.kept.now) (sym c.count-calls.ensures.number) c.requires.opened) c.seat_workers.ensures.own c.seat_workers.ensures.shares c.join_workers.ensures.kept c.join_workers.ensures.own c.join_workers.ensures.budget c.join_workers.new.doors.items c.join_workers.ensures.doors (c.in-Err.is ∙ ap (λ x. Err x) same)

pub returns-in-Err-clause-asked : goal.returns-in-Err-clause-asked
returns-in-Err-clause-asked g c other =
    let no = λ (e : c.in-Err.refusal ≡ refusals.Memory). other (ap (λ x. Err x) e) in
    all_asked (λ o. (o.site.value, o.node)) c.args.managers.now.site.now c.args.managers.now.turnstiles.now (λ p. p.node) (λ p. p.seat) (λ w. w.pass) (λ w. w.door) (λ w. w.outcome) (1000 * c.count-calls.result) c.seat_workers.new.workers.items c.args.served.doors.items c.seat_workers.ensures.doors c.seat_workers.ensures.seats (λ d. record { port = g.D.Listener.port d; accepted = g.D.Listener.accepted d; finished = g.D.Listener.finished d; waiting = g.D.Listener.waiting d; done = g.D.Listener.done d }) g.D.Listener.faults c.args.api.now.nodes c.args.api.now.entitlements (length c.args.managers.now.turnstiles.now) c.args.served.connections refl c.serve-ended.result.0 c.serve-ended.result.1.items c.serve-ended.ensures.length (λ e. ap (λ v. v.items) (c.serve-ended.ensures.memory e)) c.serve-ended.ensures.served c.args.kept.now c.seat_workers.new.kept c.join_workers.new.kept (subst (λ (n : ℕ). AllZip (IsOpened (length c.args.served.doors.items * (1000 * n))) c.args.managers.now.turnstiles.now c.args.kept.now) (sym c.count-calls.ensures.number) c.requires.opened) c.seat_workers.ensures.own c.seat_workers.ensures.shares c.join_workers.ensures.kept c.join_workers.ensures.own c.join_workers.ensures.budget c.join_workers.new.doors.items c.join_workers.ensures.doors false c.requires.api.0 c.requires.api.1 (not_wanting c.serve-ended.result.0 c.in-Err.refusal c.in-Err.is no)
    (c.serve-ended.ensures.listen (listened c.serve-ended.result.0 c.in-Err.refusal c.in-Err.is no))

pub returns-in-Err-clause-listen : goal.returns-in-Err-clause-listen
returns-in-Err-clause-listen g c e =
    let same : c.in-Err.refusal ≡ refusals.Listen = cc in
    let no = λ (m : c.in-Err.refusal ≡ refusals.Memory). absurd (cc (sym same ∙ m)) in
    one_failed (λ o. (o.site.value, o.node)) c.args.managers.now.site.now c.args.managers.now.turnstiles.now (λ p. p.node) (λ p. p.seat) (λ w. w.pass) (λ w. w.door) (λ w. w.outcome) (1000 * c.count-calls.result) c.seat_workers.new.workers.items c.args.served.doors.items c.seat_workers.ensures.doors c.seat_workers.ensures.seats (λ d. record { port = g.D.Listener.port d; accepted = g.D.Listener.accepted d; finished = g.D.Listener.finished d; waiting = g.D.Listener.waiting d; done = g.D.Listener.done d }) g.D.Listener.faults c.args.api.now.nodes c.args.api.now.entitlements (length c.args.managers.now.turnstiles.now) c.args.served.connections refl c.serve-ended.result.0 c.serve-ended.result.1.items c.serve-ended.ensures.length (λ e. ap (λ v. v.items) (c.serve-ended.ensures.memory e)) c.serve-ended.ensures.served c.args.kept.now c.seat_workers.new.kept c.join_workers.new.kept (subst (λ (n : ℕ). AllZip (IsOpened (length c.args.served.doors.items * (1000 * n))) c.args.managers.now.turnstiles.now c.args.kept.now) (sym c.count-calls.ensures.number) c.requires.opened) c.seat_workers.ensures.own c.seat_workers.ensures.shares c.join_workers.ensures.kept c.join_workers.ensures.own c.join_workers.ensures.budget c.join_workers.new.doors.items c.join_workers.ensures.doors (not_wanting c.serve-ended.result.0 c.in-Err.refusal c.in-Err.is no) (c.serve-ended.ensures.listen (c.in-Err.is ∙ ap (λ x. Err x) same))
